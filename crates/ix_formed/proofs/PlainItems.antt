-- Items that only compute and choose, one behind the other.
use Rattle.std.proofs.Common.{◌≡◌, ℕ, true, false, List, [], ◌∷◌, ◌++◌, Ok, Err, refl, ap, ◌∙◌, arith, Result, subst}
use Rattle.std.specs.Prelude.{◌&&◌}
use Rattle.ix_text.specs.declared.span.Span.{Span}
use Rattle.ix_core.specs.declared.code.Cond.{Cond}
use Rattle.ix_core.specs.declared.code.Item.{Item}
use Rattle.ix_core.specs.declared.code.Item.TheVariants as item
use Rattle.ix_core.specs.declared.op.Op.{Op}
use Rattle.ix_core.specs.declared.code.Block.{Block}
use Rattle.ix_core.specs.declared.op.OpKind.TheVariants as op
use Rattle.ix_core.specs.declared.op.Literal.TheVariants as literal
use Rattle.ix_core.specs.Code.{Code, End, If, item_code, cond_code, items_code, block_code}
use Rattle.ix_core.specs.Formed.{is_straight, loop_numbers, super_calls, own_super_calls, is_super_call, one_if}
use Rattle.ix_core.proofs.Translated.{item_code-If}
use Rattle.ix_plain.specs.Parts.{◌>>=◌, done, truth_item}
use Rattle.ix_formed.specs.Additions.{Makes, code_before, IsPlain, IsPlainCondition}

-- ---- what was made

pub makes_more : {A E : Type 0} (P Q : A → Type 0) → ((made : A) → P made → Q made) → (r : Result A E) → Makes P r → Makes Q r
makes_more P Q more (Ok made) holds = more made holds
makes_more P Q more (Err limit) holds = tt

pub makes_then : {A B E : Type 0} (P : A → Type 0) (Q : B → Type 0) (r : Result A E) (next : A → Result B E) → Makes P r → ((made : A) → P made → Makes Q (next made)) → Makes Q (r >>= next)
makes_then P Q (Ok made) next holds on = on made holds
makes_then P Q (Err limit) next holds on = tt

-- with what was made
pub makes_same : {A E : Type 0} (r : Result A E) → Makes (λ made. r ≡ Ok made) r
makes_same (Ok made) = refl
makes_same (Err limit) = tt

pub makes_both : {A E : Type 0} (P Q : A → Type 0) (r : Result A E) → Makes P r → Makes Q r → Makes (λ made. P made × Q made) r
makes_both P Q (Ok made) p q = (p, q)
makes_both P Q (Err limit) p q = tt

pub made_is : {A E : Type 0} (P : A → Type 0) (r : Result A E) (made : A) → Makes P r → r ≡ Ok made → P made
made_is P r made holds e = subst (Makes P) e holds

-- ---- code

pub before_append : (items more : List Item) (rest : Code) → code_before (items ++ more) rest ≡ code_before items (code_before more rest)
before_append [] more rest = refl
before_append (first ∷ items) more rest = ap (item_code first) (before_append items more rest)

pub items_before : (items : List Item) → items_code items ≡ code_before items End
items_before [] = refl
items_before (first ∷ items) = ap (item_code first) (items_before items)

-- ---- plain items

pub plain_none : IsPlain []
plain_none = record { straight = λ rest. refl; loops = λ rest. refl; supers = λ rest. refl; own_supers = λ rest. refl }

pub plain_both : (items more : List Item) → IsPlain items → IsPlain more → IsPlain (items ++ more)
plain_both items more a b = record {
  straight = λ rest. rw before_append (a.straight (code_before more rest) ∙ b.straight rest);
  loops = λ rest. rw before_append (a.loops (code_before more rest) ∙ b.loops rest);
  supers = λ rest. rw before_append (a.supers (code_before more rest) ∙ b.supers rest);
  own_supers = λ rest. rw before_append (a.own_supers (code_before more rest) ∙ b.own_supers rest);
}

pub plain_op : (o : Op) → is_super_call o.kind ≡ false → IsPlain (item.Do o ∷ [])
plain_op o e = record {
  straight = λ rest. refl;
  loops = λ rest. refl;
  supers = λ rest. let h : one_if (is_super_call o.kind) ≡ 0 = ap one_if e in omega (arith, h);
  own_supers = λ rest. let h : one_if (is_super_call o.kind) ≡ 0 = ap one_if e in omega (arith, h);
}

-- in front of the end of a block
pub plain_block : (items : List Item) → IsPlain items → is_straight (items_code items) ≡ true
plain_block items p = rw items_before (p.straight End)

pub plain_supers : (items : List Item) → IsPlain items → super_calls (items_code items) ≡ 0
plain_supers items p = rw items_before (p.supers End)

-- an item that is that code
shown : (first : Item) (code : Code → Code) → ((rest : Code) → item_code first rest ≡ code rest)
    → ((rest : Code) → is_straight (code rest) ≡ is_straight rest) → ((rest : Code) → loop_numbers (code rest) ≡ loop_numbers rest)
    → ((rest : Code) → super_calls (code rest) ≡ super_calls rest) → ((rest : Code) → own_super_calls (code rest) ≡ own_super_calls rest) → IsPlain (first ∷ [])
shown first code is straight loops supers own = record {
  straight = λ rest. ap is_straight (is rest) ∙ straight rest;
  loops = λ rest. ap loop_numbers (is rest) ∙ loops rest;
  supers = λ rest. ap super_calls (is rest) ∙ supers rest;
  own_supers = λ rest. ap own_super_calls (is rest) ∙ own rest;
}

pub plain_truth : (asked : Cond) (slot : ℕ) (span : Span) → IsPlainCondition asked → IsPlain (truth_item asked slot span ∷ [])
plain_truth asked slot span p =
    let one = done (op.Const slot (literal.Bool true)) span [] in
    let two = done (op.Const slot (literal.Bool false)) span [] in
    let first : Block = record { items = one ∷ [] } in
    let second : Block = record { items = two ∷ [] } in
    shown (truth_item asked slot span) (λ rest. If (cond_code asked) (block_code first) (block_code second) rest) (λ rest. item_code-If asked first second rest)
    (λ rest. ap (λ b. b && is_straight rest) p.straight)
    (λ rest. refl)
    (λ rest. let h = p.supers in omega (arith, h))
    (λ rest. refl)
