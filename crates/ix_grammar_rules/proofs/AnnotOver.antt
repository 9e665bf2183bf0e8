-- Lists, annotations and types with more height left.
use Rattle.std.proofs.Common.{ℕ, ◌≤◌, ◌+◌, ◌-◌, true, Option, refl, arith}
use Rattle.std.proofs.lemmas.Bool.{le-leb}
use Rattle.ix_text.specs.declared.span.Span.{Span}
use Rattle.ix_lexer.specs.declared.token.Token.{Token}
use Rattle.ix_tree.specs.declared.annot.BaseTree.{BaseTree}
use Rattle.ix_tree.specs.declared.annot.BaseTree.TheVariants.{Int, Boolean, Named}
use Rattle.ix_tree.specs.declared.annot.Ident.{Ident}
use Rattle.ix_grammar.specs.declared.found.At.{At}
use Rattle.ix_grammar.specs.declared.found.Notes.{Notes}
use Rattle.ix_grammar_rules.specs.Rule.{Rule, pure, take, bind, stop, loop, Turn, On, Done}
use Rattle.ix_grammar.specs.Lists.{alone, joined}
use Rattle.ix_grammar_rules.specs.ListRules.{next_of, more_of, next_inside, braces_of}
use Rattle.ix_grammar.specs.AnnotGrammar.{with_note, no_notes}
use Rattle.ix_grammar_rules.specs.AnnotRules.{text, braced, negative, annot_value, named_value, named, named_args, plain_value, annot_args, annot_behind, annot, next_annot, annots_from, annots}
use Rattle.ix_grammar.specs.TypeGrammar.{based, base_height, counted}
use Rattle.ix_grammar_rules.specs.TypeRules.{next_pair, pairs, brackets, noted_array, type_rest, type_tree}
use Rattle.ix_grammar_rules.proofs.GiveRules.{Turned, any_gives}
use Rattle.ix_grammar_rules.proofs.OverRules.{Over, over_pure, over_stop, over_take, over_bind, over_loop}
use Rattle.ix_grammar_rules.proofs.TypeSound.{low_base}

-- ---- where nothing need hold of what is read

-- a token for which there is room, and what is read behind it
pub over_token : {A V : Type 0} (want : Token → Option V) (p p' : V → Rule A) (q q' : Rule A) → ((v : V) → Over (p v) (p' v)) → Over q q' → Over (take want true p q) (take want true p' q')
over_token want p p' q q' op oq = over_take want true true p p' q q' refl (λ v f. op v) oq

-- a token alone
pub over_last : {A V : Type 0} (want : Token → Option V) (f : V → A) → Over (take want true (λ v. pure (f v)) stop) (take want true (λ v. pure (f v)) stop)
over_last want f = over_token want _ _ _ _ (λ v. over_pure (f v)) over_stop

pub over_then : {A B : Type 0} (p p' : Rule A) (f f' : A → Rule B) → Over p p' → ((a : A) → Over (f a) (f' a)) → Over (bind p f) (bind p' f')
over_then p p' f f' op of = over_bind {P = λ a. Unit {0}} p p' f f' any_gives op (λ a u. of a)

pub over_map : {A B : Type 0} (p p' : Rule A) (f : A → B) → Over p p' → Over (bind p (λ a. pure (f a))) (bind p' (λ a. pure (f a)))
over_map p p' f op = over_then p p' _ _ op (λ a. over_pure (f a))

any_turn : {S B : Type 0} (r : Turn S B) → Turned (λ (s : S). Unit {0}) (λ (b : B). Unit {0}) r
any_turn (On s) = tt
any_turn (Done b) = tt

pub over_turns : {S B : Type 0} (body body' : S → Rule (Turn S B)) → ((s : S) → Over (body s) (body' s)) → (s : S) → Over (loop body s) (loop body' s)
over_turns body body' o s = over_loop body body' (λ s. Unit {0}) (λ b. Unit {0}) (λ t u. record { at = λ ts us r h. any_turn r }) (λ t u. o t) s tt

-- ---- lists

pub more_over : {A S : Type 0} (item item' : Rule A) (add : S → A → S) (items : S) → Over item item' → Over (more_of item add items) (more_of item' add items)
unfolding more_of next_of
more_over item item' add items o = over_turns _ _ (λ s. over_token _ _ _ _ _ (λ comma. over_map _ _ _ o) (over_pure _)) items

pub braces_over : {A S : Type 0} (item item' : Rule A) (add : S → A → S) (none : S) → Over item item' → Over (braces_of item add none) (braces_of item' add none)
unfolding braces_of next_inside
braces_over item item' add none o = over_turns _ _ (λ s. over_token _ _ _ _ _ (λ right. over_pure _) (over_map _ _ _ o)) none

-- ---- annotations: room for one is at most 3

text_over : Over text text
unfolding text
text_over = over_last _ _

braced_over : (left : Span) → Over (braced left) (braced left)
unfolding braced
braced_over left = over_token _ _ _ _ _ (λ right. over_pure _) (over_token _ _ _ _ _ (λ first. over_then _ _ _ _ (more_over text text joined (alone first.value) text_over) (λ texts. over_last _ _)) over_stop)

negative_over : (minus : Span) → Over (negative minus) (negative minus)
unfolding negative
negative_over minus = over_token _ _ _ _ _ (λ n. over_pure _) (over_last _ _)

pub value_over : Over annot_value annot_value
unfolding annot_value
value_over = over_token _ _ _ _ _ negative_over (over_token _ _ _ _ _ (λ n. over_pure _) (over_token _ _ _ _ _ (λ text. over_pure _)
    (over_token _ _ _ _ _ (λ s. over_pure _) (over_token _ _ _ _ _ (λ s. over_pure _) (over_token _ _ _ _ _ braced_over over_stop)))))

named_value_over : (name : Ident) → Over (named_value name) (named_value name)
unfolding named_value
named_value_over name = over_token _ _ _ _ _ (λ assign. over_map _ _ _ value_over) over_stop

named_over : Over named named
unfolding named
named_over = over_token _ _ _ _ _ named_value_over over_stop

named_args_over : (at : Span) (name first : Ident) → Over (named_args at name first) (named_args at name first)
unfolding named_args
named_args_over at name first = over_then _ _ _ _ (over_then _ _ _ _ (named_value_over first) (λ arg. more_over named named joined (alone arg) named_over)) (λ args. over_last _ _)

plain_value_over : (at : Span) (name : Ident) → Over (plain_value at name) (plain_value at name)
unfolding plain_value
plain_value_over at name = over_then _ _ _ _ value_over (λ found. over_last _ _)

annot_args_over : (left more : ℕ) (at : Span) (name : Ident) → 3 ≤ more → Over (annot_args left at name) (annot_args more at name)
unfolding annot_args
annot_args_over left more at name room = over_token _ _ _ _ _ (λ right. over_pure _)
    (over_take _ _ _ _ _ _ _ (le-leb 3 more room) (λ first f. named_args_over at name first) (plain_value_over at name))

pub annot_behind_over : (left more : ℕ) (at : Span) → 3 ≤ more → Over (annot_behind left at) (annot_behind more at)
unfolding annot_behind
annot_behind_over left more at room = over_token _ _ _ _ _ (λ name. over_token _ _ _ _ _ (λ opening. annot_args_over left more at name room) (over_pure _)) over_stop

pub annot_over : (left more : ℕ) → 3 ≤ more → Over (annot left) (annot more)
unfolding annot
annot_over left more room = over_take _ _ _ _ _ _ _ (le-leb 2 more (omega (arith, room))) (λ at f. annot_behind_over left more at room) over_stop

next_annot_over : (left more : ℕ) → 3 ≤ more → (notes : Notes) → Over (next_annot left notes) (next_annot more notes)
unfolding next_annot
next_annot_over left more room notes = over_take _ _ _ _ _ _ _ (le-leb 2 more (omega (arith, room))) (λ at f. over_map _ _ _ (annot_behind_over left more at room)) (over_pure _)

pub annots_from_over : (left more : ℕ) (notes : Notes) → 3 ≤ more → Over (annots_from left notes) (annots_from more notes)
unfolding annots_from
annots_from_over left more notes room = over_turns _ _ (next_annot_over left more room) notes

pub annots_over : (left more : ℕ) → 3 ≤ more → Over (annots left) (annots more)
unfolding annots
annots_over left more room = annots_from_over left more no_notes room

-- ---- types: room for one is at most 4

next_pair_over : (found : At ℕ) → Over (next_pair found) (next_pair found)
unfolding next_pair
next_pair_over found = over_token _ _ _ _ _ (λ left. over_last _ _) (over_pure _)

pub pairs_over : (n : ℕ) (last : Span) → Over (pairs n last) (pairs n last)
unfolding pairs
pairs_over n last = over_turns _ _ next_pair_over (counted n last)

pub brackets_over : (base : At BaseTree) (notes : Notes) → Over (brackets base notes) (brackets base notes)
unfolding brackets
brackets_over base notes = over_token _ _ _ _ _ (λ right. over_map _ _ _ (pairs_over 1 right)) over_stop

pub noted_array_over : (left more : ℕ) (base : At BaseTree) (at : Span) → 4 ≤ more → Over (noted_array left base at) (noted_array more base at)
unfolding noted_array
noted_array_over left more base at room = over_then _ _ _ _
    (over_then _ _ _ _ (annot_behind_over (left - 1) (more - 1) at (omega (arith, room))) (λ first. annots_from_over (left - 1) (more - 1) (with_note no_notes first) (omega (arith, room))))
    (λ notes. over_token _ _ _ _ _ (λ opening. brackets_over base notes) over_stop)

pub type_rest_over : (left more : ℕ) (base : At BaseTree) → 4 ≤ more → Over (type_rest left base) (type_rest more base)
unfolding type_rest
type_rest_over left more base room = over_take _ _ _ _ _ _ _ (le-leb (1 + base_height base.value) more (omega (arith, room, low_base base.value))) (λ opening f. brackets_over base no_notes)
    (over_take _ _ _ _ _ _ _ (le-leb 3 more (omega (arith, room))) (λ at f. noted_array_over left more base at room) (over_pure _))

pub type_over : (left more : ℕ) → 4 ≤ more → Over (type_tree left) (type_tree more)
unfolding type_tree
type_over left more room = over_take _ _ _ _ _ _ _ (le-leb 1 more (omega (arith, room))) (λ span f. type_rest_over left more (based Int span) room)
    (over_take _ _ _ _ _ _ _ (le-leb 1 more (omega (arith, room))) (λ span f. type_rest_over left more (based Boolean span) room)
    (over_take _ _ _ _ _ _ _ (le-leb 2 more (omega (arith, room))) (λ name f. type_rest_over left more (based (Named name) name.span) room) over_stop))
