-- Where types stop, what was taken goes on to some with room for them.
use Rattle.std.proofs.Common.{ℕ, ◌≤◌, ◌+◌, ◌-◌, max, List, [], ◌∷◌, ◌++◌, arith}
use Rattle.std.proofs.lemmas.Bool.{leb-true}
use Rattle.ix_text.specs.declared.span.Span.{Span}
use Rattle.ix_lexer.specs.declared.token.Token.{Token}
use Rattle.ix_lexer.specs.declared.fixed.TheConstants.{AT, INT, OPEN_BRACKET, CLOSE_BRACKET}
use Rattle.ix_tree.specs.declared.annot.BaseTree.{BaseTree}
use Rattle.ix_tree.specs.declared.annot.BaseTree.TheVariants.{Int, Boolean, Named}
use Rattle.ix_grammar.specs.declared.found.At.{At}
use Rattle.ix_grammar.specs.declared.found.Notes.{Notes}
use Rattle.ix_grammar_rules.specs.Rule.{bind, On}
use Rattle.ix_grammar.specs.Patterns.{sign}
use Rattle.ix_grammar.specs.Lists.{no_item, one_more}
use Rattle.ix_grammar.specs.AnnotGrammar.{IsNotes, no_notes, with_note}
use Rattle.ix_grammar_rules.specs.AnnotRules.{annot_behind, annots_from}
use Rattle.ix_grammar.specs.TypeGrammar as grammar
use Rattle.ix_grammar.specs.TypeGrammar.{IsBase, IsPairs, based, base_height, counted, array_of, plain_type}
use Rattle.ix_grammar_rules.specs.TypeRules.{next_pair, pairs, brackets, noted_array, type_rest, type_tree}
use Rattle.ix_grammar_rules.proofs.SoundRules.{After}
use Rattle.ix_grammar_rules.proofs.AnnotSound.{NotedAll, annot_behind_sound}
use Rattle.ix_grammar_rules.proofs.TypeSound.{next_pair_sound, pairs_sound, notes_sound, low_base, RestOf, Typed}
use Rattle.ix_grammar_rules.proofs.ViableRules.{Goes, Viable, weaken_viable, pure_viable, stop_viable, bind_viable, map_viable, loop_viable, sign_viable, name_viable}
use Rattle.ix_grammar_rules.proofs.ListsViable.{here, done_goes, end_viable}
use Rattle.ix_grammar_rules.proofs.AnnotViable.{annot_behind_viable, annots_from_viable}

-- ---- pairs of brackets

next_pair_viable : (found : At ℕ) (front : List Token) → IsPairs front found → Viable (After IsPairs IsPairs front) (next_pair found)
unfolding next_pair
next_pair_viable found front d = sign_viable _ _ _ _ (λ f. absurd (cc)) (λ f left. end_viable CLOSE_BRACKET (λ right. On (counted (found.value + 1) right)) (λ right. grammar.more_pairs left right d)) (pure_viable _)

pub pairs_viable : (n : ℕ) (last : Span) (front : List Token) → IsPairs front (counted n last) → Viable (λ ts found. IsPairs (front ++ ts) found) (pairs n last)
unfolding pairs
pairs_viable n last front d = loop_viable next_pair IsPairs IsPairs next_pair_sound next_pair_viable (λ s ts r. done_goes IsPairs ts s r) (counted n last) front d

-- ---- types

brackets_viable : (room : ℕ) (base : At BaseTree) (notes : Notes) (front : List Token) (opening : Span) → IsNotes front notes → 1 + max (base_height base.value) notes.height ≤ room
    → Viable (λ ts ty. RestOf room base (front ++ sign OPEN_BRACKET opening ∷ ts) ty) (brackets base notes)
unfolding brackets
brackets_viable room base notes front opening d fits = sign_viable _ _ _ _ (λ f. absurd (cc))
    (λ f right. map_viable (pairs 1 right) (array_of base notes) (pairs_sound 1 right (sign OPEN_BRACKET opening ∷ sign CLOSE_BRACKET right ∷ []) (grammar.pair opening right))
    (pairs_viable 1 right (sign OPEN_BRACKET opening ∷ sign CLOSE_BRACKET right ∷ []) (grammar.pair opening right)) (λ found seen r. (grammar.array d r, fits)))
    (stop_viable (sign CLOSE_BRACKET here ∷ [], _, (grammar.array d (grammar.pair opening here), fits)))

notes_viable : (left : ℕ) (at : Span) → 3 ≤ left → Viable (λ ts notes. NotedAll (left - 1) (sign AT at ∷ ts) notes) (bind (annot_behind (left - 1) at) (λ first. annots_from (left - 1) (with_note no_notes first)))
notes_viable left at room = bind_viable _ _ (annot_behind_sound (left - 1) at (omega (arith, room))) (annot_behind_viable (left - 1) at (omega (arith, room)))
    (λ a seen r. done_goes (NotedAll (left - 1)) (sign AT at ∷ seen) (with_note no_notes a) (one_more no_item r.0, omega (arith, r.1)))
    (λ a seen r. annots_from_viable (left - 1) (with_note no_notes a) (sign AT at ∷ seen) (one_more no_item r.0, omega (arith, r.1)))

-- a pair of brackets behind annotations
array_goes : (left : ℕ) (base : At BaseTree) (notes : Notes) (front : List Token) → 3 ≤ left → NotedAll (left - 1) front notes → Goes (λ ts ty. RestOf left base (front ++ ts) ty) []
array_goes left base notes front room d = (sign OPEN_BRACKET here ∷ sign CLOSE_BRACKET here ∷ [], _, (grammar.array d.0 (grammar.pair here here), omega (arith, d.1, room, low_base base.value)))

pub noted_array_viable : (left : ℕ) (base : At BaseTree) (at : Span) → 3 ≤ left → Viable (λ ts ty. RestOf left base (sign AT at ∷ ts) ty) (noted_array left base at)
unfolding noted_array
noted_array_viable left base at room = bind_viable _ _ (notes_sound left at room) (notes_viable left at room) (λ notes seen r. array_goes left base notes (sign AT at ∷ seen) room r)
    (λ notes seen r. sign_viable _ _ _ _ (λ f. absurd (cc)) (λ f opening. brackets_viable left base notes (sign AT at ∷ seen) opening r.0 (omega (arith, r.1, room, low_base base.value)))
    (stop_viable (array_goes left base notes (sign AT at ∷ seen) room r)))

-- a base alone
rest_goes : (left : ℕ) (base : At BaseTree) → Goes (RestOf (max left (1 + base_height base.value)) base) []
rest_goes left base = ([], plain_type base, (grammar.no_rest, omega arith))

pub type_rest_viable : (left : ℕ) (base : At BaseTree) → Viable (RestOf (max left (1 + base_height base.value)) base) (type_rest left base)
unfolding type_rest
type_rest_viable left base = sign_viable _ _ _ _ (λ f. rest_goes left base) (λ fits opening. brackets_viable _ base no_notes [] opening no_item (omega arith))
    (sign_viable _ _ _ _ (λ f. rest_goes left base) (λ fits at. weaken_viable _ (λ ts ty r. (r.0, omega (arith, r.1))) (noted_array_viable left base at (leb-true 3 left fits)))
    (pure_viable _))

-- Behind a base for which there is room.
pub rest_fits_viable : (left : ℕ) (base : At BaseTree) → 1 + base_height base.value ≤ left → Viable (RestOf left base) (type_rest left base)
rest_fits_viable left base room = weaken_viable _ (λ ts ty r. (r.0, omega (arith, r.1, room))) (type_rest_viable left base)

based_viable : (left : ℕ) (base : At BaseTree) (token : Token) → IsBase (token ∷ []) base → 1 + base_height base.value ≤ left → Viable (λ ts ty. Typed left (token ∷ ts) ty) (type_rest left base)
based_viable left base token d room = weaken_viable _ (λ ts ty r. (grammar.type d r.0, r.1)) (rest_fits_viable left base room)

pub type_goes : (left : ℕ) → 1 ≤ left → Goes (Typed left) []
type_goes left room = (sign INT here ∷ [], plain_type (based Int here), (grammar.type (grammar.int here) grammar.no_rest, room))

pub type_viable : (left : ℕ) → 1 ≤ left → Viable (Typed left) (type_tree left)
unfolding type_tree
type_viable left room = sign_viable _ _ _ _ (λ f. type_goes left room) (λ fits span. based_viable left (based Int span) _ (grammar.int span) (leb-true 1 left fits))
    (sign_viable _ _ _ _ (λ f. type_goes left room) (λ fits span. based_viable left (based Boolean span) _ (grammar.boolean span) (leb-true 1 left fits))
    (name_viable _ _ _ (λ f. type_goes left room) (λ fits name. based_viable left (based (Named name) name.span) _ (grammar.named name) (leb-true 2 left fits))
    (stop_viable (type_goes left room))))
