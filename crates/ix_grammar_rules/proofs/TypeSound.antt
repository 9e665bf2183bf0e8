-- Types that are read are in the grammar, and as high as is left at most.
use Rattle.std.proofs.Common.{ℕ, ◌≤◌, ◌+◌, ◌-◌, max, List, [], ◌∷◌, ◌++◌, sym, subst, arith}
use Rattle.std.proofs.lemmas.List.{append-nil}
use Rattle.std.proofs.lemmas.Bool.{leb-true}
use Rattle.ix_text.specs.declared.span.Span.{Span}
use Rattle.ix_lexer.specs.declared.token.Token.{Token}
use Rattle.ix_lexer.specs.declared.fixed.TheConstants.{AT, OPEN_BRACKET, CLOSE_BRACKET}
use Rattle.ix_tree.specs.declared.annot.BaseTree.{BaseTree}
use Rattle.ix_tree.specs.declared.annot.BaseTree.TheVariants.{Int, Boolean, Named}
use Rattle.ix_grammar.specs.declared.found.At.{At}
use Rattle.ix_grammar.specs.declared.found.FoundType.{FoundType}
use Rattle.ix_grammar.specs.declared.found.Notes.{Notes}
use Rattle.ix_grammar_rules.specs.Rule.{bind}
use Rattle.ix_grammar.specs.Patterns.{sign}
use Rattle.ix_grammar.specs.Lists.{no_item, one_more}
use Rattle.ix_grammar.specs.AnnotGrammar.{IsNotes, no_notes, with_note}
use Rattle.ix_grammar_rules.specs.AnnotRules.{annot_behind, annots_from}
use Rattle.ix_grammar.specs.TypeGrammar as grammar
use Rattle.ix_grammar.specs.TypeGrammar.{IsBase, IsPairs, IsTypeRest, IsType, based, base_height, counted, array_of}
use Rattle.ix_grammar_rules.specs.TypeRules.{next_pair, pairs, brackets, noted_array, type_rest, type_tree}
use Rattle.ix_grammar_rules.proofs.SoundRules.{Sound, weaken, pure_sound, stop_sound, bind_sound, sign_sound, loop_sound, After}
use Rattle.ix_grammar_rules.proofs.ListsSound.{sign_fits, name_fits}
use Rattle.ix_grammar_rules.proofs.AnnotSound.{NotedAll, annot_behind_sound, annots_from_sound}

-- ---- pairs of brackets

pub next_pair_sound : (found : At ℕ) (front : List Token) → IsPairs front found → Sound (After IsPairs IsPairs front) (next_pair found)
unfolding next_pair
next_pair_sound found front d = sign_sound _ _ _ _ (λ left. sign_sound _ _ _ _ (λ right. pure_sound _ (grammar.more_pairs left right d)) stop_sound)
    (pure_sound _ (subst (λ y. IsPairs y found) (sym (append-nil front)) d))

pub pairs_sound : (n : ℕ) (last : Span) (front : List Token) → IsPairs front (counted n last) → Sound (λ ts found. IsPairs (front ++ ts) found) (pairs n last)
unfolding pairs
pairs_sound n last front d = loop_sound next_pair IsPairs IsPairs next_pair_sound (counted n last) front d

-- ---- types; room for a type, and a type behind its base with room for it

abbrev pub RestOf : ℕ → At BaseTree → List Token → FoundType → Type 0
RestOf room base ts ty = IsTypeRest base ts ty × (ty.height ≤ room)

brackets_sound : (room : ℕ) (base : At BaseTree) (notes : Notes) (front : List Token) (opening : Span) → IsNotes front notes → 1 + max (base_height base.value) notes.height ≤ room
    → Sound (λ ts ty. RestOf room base (front ++ sign OPEN_BRACKET opening ∷ ts) ty) (brackets base notes)
unfolding brackets
brackets_sound room base notes front opening d fits = sign_sound _ _ _ _ (λ right. bind_sound _ _ (pairs_sound 1 right (sign OPEN_BRACKET opening ∷ sign CLOSE_BRACKET right ∷ []) (grammar.pair opening right))
    (λ found seen r. pure_sound _ (subst (λ y. IsTypeRest base (front ++ sign OPEN_BRACKET opening ∷ sign CLOSE_BRACKET right ∷ y) (array_of base notes found)) (sym (append-nil seen)) (grammar.array d r), fits))) stop_sound

pub notes_sound : (left : ℕ) (at : Span) → 3 ≤ left → Sound (λ ts notes. NotedAll (left - 1) (sign AT at ∷ ts) notes) (bind (annot_behind (left - 1) at) (λ first. annots_from (left - 1) (with_note no_notes first)))
notes_sound left at room = bind_sound _ _ (annot_behind_sound (left - 1) at (omega (arith, room))) (λ a seen r. annots_from_sound (left - 1) (with_note no_notes a) (sign AT at ∷ seen) (one_more no_item r.0, omega (arith, r.1)))

pub low_base : (base : BaseTree) → base_height base ≤ 1
low_base Int = omega arith
low_base Boolean = omega arith
low_base (Named n) = omega arith

pub noted_array_sound : (left : ℕ) (base : At BaseTree) (at : Span) → 3 ≤ left → Sound (λ ts ty. RestOf left base (sign AT at ∷ ts) ty) (noted_array left base at)
unfolding noted_array
noted_array_sound left base at room = bind_sound _ _ (notes_sound left at room) (λ notes seen r. sign_sound _ _ _ _
    (λ opening. brackets_sound left base notes (sign AT at ∷ seen) opening r.0 (omega (arith, r.1, room, low_base base.value))) stop_sound)

-- A base without more needs no test.
pub type_rest_sound : (left : ℕ) (base : At BaseTree) → Sound (RestOf (max left (1 + base_height base.value)) base) (type_rest left base)
unfolding type_rest
type_rest_sound left base = sign_fits _ _ _ _ (λ fits opening. brackets_sound _ base no_notes [] opening no_item (omega arith))
    (sign_fits _ _ _ _ (λ fits at. weaken _ (λ ts ty r. (r.0, omega (arith, r.1))) (noted_array_sound left base at (leb-true 3 left fits)))
    (pure_sound _ (grammar.no_rest, omega arith)))

-- Behind a base for which there is room.
pub rest_fits : (left : ℕ) (base : At BaseTree) → 1 + base_height base.value ≤ left → Sound (RestOf left base) (type_rest left base)
rest_fits left base room = weaken _ (λ ts ty r. (r.0, omega (arith, r.1, room))) (type_rest_sound left base)

-- A type in the grammar, with room for it.
abbrev pub Typed : ℕ → List Token → FoundType → Type 0
Typed room ts ty = IsType ts ty × (ty.height ≤ room)

based_sound : (left : ℕ) (base : At BaseTree) (token : Token) → IsBase (token ∷ []) base → 1 + base_height base.value ≤ left → Sound (λ ts ty. Typed left (token ∷ ts) ty) (type_rest left base)
based_sound left base token d room = weaken _ (λ ts ty r. (grammar.type d r.0, r.1)) (rest_fits left base room)

pub type_sound : (left : ℕ) → Sound (Typed left) (type_tree left)
unfolding type_tree
type_sound left = sign_fits _ _ _ _ (λ fits span. based_sound left (based Int span) _ (grammar.int span) (leb-true 1 left fits))
    (sign_fits _ _ _ _ (λ fits span. based_sound left (based Boolean span) _ (grammar.boolean span) (leb-true 1 left fits))
    (name_fits _ _ _ (λ fits name. based_sound left (based (Named name) name.span) _ (grammar.named name) (leb-true 2 left fits))
    stop_sound))

tall_rest : {base : At BaseTree} {ts : List Token} {ty : FoundType} → IsTypeRest base ts ty → 1 ≤ ty.height
tall_rest grammar.no_rest = omega arith
tall_rest (grammar.array d e) = omega arith

pub tall_type : {ts : List Token} {ty : FoundType} → IsType ts ty → 1 ≤ ty.height
tall_type (grammar.type d e) = tall_rest e
