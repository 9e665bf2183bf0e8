-- Items of which each `return` stands behind the operation that writes its answer.
use Rattle.std.proofs.Common.{◌≡◌, ℕ, Bool, true, false, List, [], ◌∷◌, ◌++◌, Option, Some, None, refl, ap, ◌∙◌}
use Rattle.std.specs.Prelude.{◌==◌, ◌&&◌, if◌then◌else◌}
use Rattle.std.proofs.lemmas.Bool.{false≢true, and_parts}
use Rattle.ix_text.specs.declared.span.Span.{Span}
use Rattle.ix_core.specs.declared.code.Block.{Block}
use Rattle.ix_core.specs.declared.code.Cond.{Cond}
use Rattle.ix_core.specs.declared.code.Item as raw
use Rattle.ix_core.specs.declared.code.Item.{Item}
use Rattle.ix_core.specs.declared.code.Item.TheVariants as item
use Rattle.ix_core.specs.declared.op.Op.{Op}
use Rattle.ix_core.specs.Code.{Code, End, Do, If, Break, Continue, Return, Throw, Loop, item_code, items_code, block_code, cond_code, row_code}
use Rattle.ix_core.specs.Formed.{is_straight, is_straight_condition}
use Rattle.ix_core.specs.Posts.{writes_answers, is_answer}
use Rattle.ix_core.proofs.Translated.{item_code-If, item_code-Loop}
use Rattle.ix_plain.specs.declared.made.Made.{Made}
use Rattle.ix_plain.specs.Parts.{block}
use Rattle.ix_plain.specs.Statements.{answer}
use Rattle.ix_formed.specs.Additions.{IsPlain, code_before}
use Rattle.ix_formed.specs.TypedStatements.{WriteAnswers}
use Rattle.ix_formed.proofs.NumberLists.{is_itself}
use Rattle.ix_formed.proofs.PlainItems.{before_append, items_before}

pub answered_none : WriteAnswers []
answered_none last rest h = h last

pub answered_both : (items more : List Item) → WriteAnswers items → WriteAnswers more → WriteAnswers (items ++ more)
answered_both items more a b last rest h = ap (writes_answers last) (before_append items more rest) ∙ a last (code_before more rest) (λ before. b before rest h)

pub answered_op : (o : Op) → WriteAnswers (item.Do o ∷ [])
answered_op o last rest h = h (Some o)

-- ---- items that hold blocks

all_write : (a b c : Bool) → a ≡ true → b ≡ true → c ≡ true → (if a then (if b then c else false) else false) ≡ true
all_write true true c x y z = z
all_write true false c x y z = absurd (false≢true y)
all_write false b c x y z = absurd (false≢true x)

both_write : (a b : Bool) → a ≡ true → b ≡ true → (if a then b else false) ≡ true
both_write true b x y = y
both_write false b x y = absurd (false≢true x)

-- a block of which each `return` does
abbrev pub BlockAnswers : Block → Type 0
BlockAnswers made = (last : Option Op) → writes_answers last (block_code made) ≡ true

pub answered_if : (asked : Cond) (first second : Block) → BlockAnswers first → BlockAnswers second → WriteAnswers (item.If asked first second ∷ [])
answered_if asked first second a b last rest h =
    ap (writes_answers last) (item_code-If asked first second rest)
    ∙ all_write (writes_answers None (block_code first)) (writes_answers None (block_code second)) (writes_answers None rest) (a None) (b None) (h None)

pub answered_loop : (test_first : Bool) (asked : Cond) (body next : Block) (number scope : ℕ) → BlockAnswers body → WriteAnswers (item.Loop test_first asked body next number scope ∷ [])
answered_loop test_first asked body next number scope a last rest h =
    ap (writes_answers last) (item_code-Loop test_first asked body next number scope rest)
    ∙ both_write (writes_answers None (block_code body)) (writes_answers None rest) (a None) (h None)

pub answered_block : (made : Made) (items : List Item) → WriteAnswers items → made.items ≡ items → BlockAnswers (block made)
answered_block made items a e last = ap (writes_answers last) (ap items_code e ∙ items_before items) ∙ a last End (λ before. refl)

pub no_block_answers : (b : Block) → b.items ≡ [] → BlockAnswers b
no_block_answers b e last = ap (λ items. writes_answers last (items_code items)) e

-- ---- what only computes has no `return`

straight_writes : (code : Code) (last : Option Op) → is_straight code ≡ true → writes_answers last code ≡ true
straight_writes End last s = refl
straight_writes (Do done rest) last s = straight_writes rest (Some done) s
straight_writes (If asked first second rest) last s =
    let one = and_parts (is_straight_condition asked) (is_straight first && (is_straight second && is_straight rest)) s in
    let two = and_parts (is_straight first) (is_straight second && is_straight rest) one.1 in
    let three = and_parts (is_straight second) (is_straight rest) two.1 in
    all_write (writes_answers None first) (writes_answers None second) (writes_answers None rest) (straight_writes first None two.0) (straight_writes second None three.0) (straight_writes rest None three.1)
straight_writes (Break rest) last s = absurd (false≢true s)
straight_writes (Continue rest) last s = absurd (false≢true s)
straight_writes (Return value span rest) last s = absurd (false≢true s)
straight_writes (Throw name span rest) last s = absurd (false≢true s)
straight_writes (Loop test_first asked body next number scope rest) last s = absurd (false≢true s)

-- the code behind a straight item is straight, and where it writes its answers the item before it does
straight_behind : (first : Item) (rest : Code) → is_straight (item_code first rest) ≡ true → is_straight rest ≡ true
straight_behind (raw.Do o) rest s = s
straight_behind (raw.If' asked one first two second) rest s =
    let parts = and_parts (is_straight_condition (cond_code asked)) (is_straight (row_code first) && (is_straight (row_code second) && is_straight rest)) s in
    let others = and_parts (is_straight (row_code first)) (is_straight (row_code second) && is_straight rest) parts.1 in
    (and_parts (is_straight (row_code second)) (is_straight rest) others.1).1
straight_behind raw.Break rest s = absurd (false≢true s)
straight_behind raw.Continue rest s = absurd (false≢true s)
straight_behind (raw.Return value span) rest s = absurd (false≢true s)
straight_behind (raw.Throw name span) rest s = absurd (false≢true s)
straight_behind (raw.Loop' test_first asked one body two next number scope) rest s = absurd (false≢true s)

straight_item : (first : Item) (rest more : Code) (last : Option Op) → is_straight (item_code first rest) ≡ true → ((before : Option Op) → writes_answers before more ≡ true) → writes_answers last (item_code first more) ≡ true
straight_item (raw.Do o) rest more last s h = h (Some o)
straight_item (raw.If' asked one first two second) rest more last s h =
    let parts = and_parts (is_straight_condition (cond_code asked)) (is_straight (row_code first) && (is_straight (row_code second) && is_straight rest)) s in
    let others = and_parts (is_straight (row_code first)) (is_straight (row_code second) && is_straight rest) parts.1 in
    let last_two = and_parts (is_straight (row_code second)) (is_straight rest) others.1 in
    all_write (writes_answers None (row_code first)) (writes_answers None (row_code second)) (writes_answers None more) (straight_writes (row_code first) None others.0) (straight_writes (row_code second) None last_two.0) (h None)
straight_item raw.Break rest more last s h = absurd (false≢true s)
straight_item raw.Continue rest more last s h = absurd (false≢true s)
straight_item (raw.Return value span) rest more last s h = absurd (false≢true s)
straight_item (raw.Throw name span) rest more last s h = absurd (false≢true s)
straight_item (raw.Loop' test_first asked one body two next number scope) rest more last s h = absurd (false≢true s)

straight_items : (items : List Item) → is_straight (code_before items End) ≡ true → WriteAnswers items
straight_items [] s last rest h = h last
straight_items (first ∷ items) s last rest h =
    straight_item first (code_before items End) (code_before items rest) last s (λ before. straight_items items (straight_behind first (code_before items End) s) before rest h)

pub answered_plain : (items : List Item) → IsPlain items → WriteAnswers items
answered_plain items plain = straight_items items (plain.straight End)

-- ---- an answer that is written out and returned

written_if : (b : Bool) (code : Code) → b ≡ true → writes_answers None code ≡ true → (holds : Bool) → (if is_answer (if b then Some holds else None) then writes_answers None code else false) ≡ true
written_if true code e rest holds = rest
written_if false code e rest holds = absurd (false≢true e)

pub answer_writes : (holds : Bool) (slot : ℕ) (span : Span) → BlockAnswers (answer holds slot span)
answer_writes holds slot span last = written_if (slot == slot) End (is_itself slot) refl holds
