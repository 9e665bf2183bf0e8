-- Annotations and types of tokens at other places.
use Rattle.std.proofs.Common.{◌≡◌, ℕ, ◌+◌, List, [], ◌∷◌, map, Some, None, refl, ap}
use Rattle.ix_lexer.specs.declared.fixed.TheConstants.{CLOSE_BRACE, CLOSE_PAREN, OPEN_BRACKET, CLOSE_BRACKET}
use Rattle.ix_tree.specs.declared.annot.Annot.{Annot}
use Rattle.ix_tree.specs.declared.annot.AnnotArg.{AnnotArg}
use Rattle.ix_tree.specs.declared.annot.AnnotValue.{AnnotValue}
use Rattle.ix_tree.specs.declared.annot.AnnotValue.TheVariants.{Texts}
use Rattle.ix_tree.specs.declared.annot.BaseTree.{BaseTree}
use Rattle.ix_tree.specs.declared.annot.Ident.{Ident}
use Rattle.ix_grammar.specs.declared.found.At.{At}
use Rattle.ix_grammar.specs.declared.found.FoundType.{FoundType}
use Rattle.ix_grammar.specs.declared.found.Notes.{Notes}
use Rattle.ix_grammar.specs.Patterns.{sign}
use Rattle.ix_grammar.specs.Lists.{IsSeparated, alone, joined}
use Rattle.ix_grammar.specs.AnnotGrammar as g
use Rattle.ix_grammar.specs.AnnotGrammar.{IsText, IsValue, IsNamed, IsAnnot, IsNotes, valued, no_notes, with_note}
use Rattle.ix_grammar.specs.TypeGrammar as t
use Rattle.ix_grammar.specs.TypeGrammar.{IsBase, IsPairs, IsTypeRest, IsType, plain_type, array_of}
use Rattle.ix_guard_text.specs.Bare.{nowhere, bare_name, bare_arg, bare_annot, bare_base, bare_type}
use Rattle.ix_guard_text.specs.Respanned.{Places, next, behind}
use Rattle.ix_guard_text.proofs.ListsAgain.{both, same_joined, Stays, repeated, separated}

-- ---- annotations

-- with the same value
abbrev pub SameValue : {A : Type 0} → At A → At A → Type 0
SameValue x y = x.value ≡ y.value

abbrev pub Equal : {A : Type 0} → A → A → Type 0
Equal x y = x ≡ y

abbrev pub named_at : Places → Ident → Ident
named_at at name = record { text = name.text; span = at 0 }

abbrev valued_at : {A : Type 0} → Places → At A → At A
valued_at at found = record { value = found.value; span = at 0 }

text_stays : Stays IsText IsText Equal
text_stays _ _ (g.text found) at = record { found = found.value; is = g.text (valued_at at found); same = refl }

texts_stay : Stays (IsSeparated IsText alone joined) (IsSeparated IsText alone joined) Equal
texts_stay = separated IsText IsText Equal text_stays Equal joined (λ s t x y e f. rw (e, f) refl) alone (λ x y e. rw e refl)

value_stays : Stays IsValue IsValue SameValue
value_stays _ _ (g.number found) at = record { found = _; is = g.number (valued_at at found); same = refl }
value_stays _ _ (g.minus_number minus found) at = record { found = _; is = g.minus_number (at 0) (valued_at (next at) found); same = refl }
value_stays _ _ (g.least minus span) at = record { found = _; is = g.least (at 0) (next at 0); same = refl }
value_stays _ _ (g.one_text found) at = record { found = _; is = g.one_text (valued_at at found); same = refl }
value_stays _ _ (g.truth span) at = record { found = _; is = g.truth (at 0); same = refl }
value_stays _ _ (g.falsity span) at = record { found = _; is = g.falsity (at 0); same = refl }
value_stays _ _ (g.no_texts left right) at = record { found = _; is = g.no_texts (at 0) (next at 0); same = refl }
value_stays _ _ (g.texts left right {tokens} {found} d) at =
    let inner = texts_stay tokens found d (next at) in
    rw (both tokens (sign CLOSE_BRACE right ∷ []) (next at)) (record { found = _; is = g.texts (at 0) (behind tokens (next at) 0) inner.is; same = ap (λ v. Texts v) inner.same })

abbrev SameArg : AnnotArg → AnnotArg → Type 0
SameArg x y = bare_arg x ≡ bare_arg y

named_stays : Stays IsNamed IsNamed SameArg
named_stays _ _ (g.named name assign {tokens} {found} d) at =
    let inner = value_stays tokens found d (next (next at)) in
    record { found = _; is = g.named (named_at at name) (next at 0) inner.is; same = ap (λ v. record { name = Some (bare_name name); value = v; span = nowhere }) inner.same }

abbrev SameArgs : List AnnotArg → List AnnotArg → Type 0
SameArgs xs ys = map bare_arg xs ≡ map bare_arg ys

args_stay : Stays (IsSeparated IsNamed alone joined) (IsSeparated IsNamed alone joined) SameArgs
args_stay = separated IsNamed IsNamed SameArg named_stays SameArgs joined (λ s t x y e f. same_joined bare_arg s t x y e f) alone (λ x y e. rw e refl)

abbrev pub SameAnnot : Annot → Annot → Type 0
SameAnnot x y = bare_annot x ≡ bare_annot y

pub annot_stays : Stays IsAnnot IsAnnot SameAnnot
annot_stays _ _ (g.bare span name) at = record { found = _; is = g.bare (at 0) (named_at (next at) name); same = refl }
annot_stays _ _ (g.no_args span name left right) at = record { found = _; is = g.no_args (at 0) (named_at (next at) name) (next (next at) 0) (next (next (next at)) 0); same = refl }
annot_stays _ _ (g.plain span name left right {tokens} {found} d) at =
    let inside = next (next (next at)) in
    let inner = value_stays tokens found d inside in
    rw (both tokens (sign CLOSE_PAREN right ∷ []) inside) (record { found = _; is = g.plain (at 0) (named_at (next at) name) (next (next at) 0) (behind tokens inside 0) inner.is; same = ap (λ (v : AnnotValue). let arg : AnnotArg = record { name = None; value = v; span = nowhere } in let annot : Annot = record { name = bare_name name; args = arg ∷ []; span = nowhere } in annot) inner.same })
annot_stays _ _ (g.with_names span name left right {tokens} {args} d) at =
    let inside = next (next (next at)) in
    let inner = args_stay tokens args d inside in
    rw (both tokens (sign CLOSE_PAREN right ∷ []) inside) (record { found = _; is = g.with_names (at 0) (named_at (next at) name) (next (next at) 0) (behind tokens inside 0) inner.is; same = ap (λ (xs : List AnnotArg). let annot : Annot = record { name = bare_name name; args = xs; span = nowhere } in annot) inner.same })

abbrev pub SameNotes : Notes → Notes → Type 0
SameNotes x y = map bare_annot x.annots ≡ map bare_annot y.annots

pub notes_stay : Stays IsNotes IsNotes SameNotes
notes_stay = repeated IsAnnot IsAnnot SameAnnot annot_stays SameNotes with_note (λ s t x y e f. same_joined bare_annot s.annots t.annots x y e f) no_notes refl

-- ---- types

abbrev pub SameBase : At BaseTree → At BaseTree → Type 0
SameBase x y = bare_base x.value ≡ bare_base y.value

pub base_stays : Stays IsBase IsBase SameBase
base_stays _ _ (t.int span) at = record { found = _; is = t.int (at 0); same = refl }
base_stays _ _ (t.boolean span) at = record { found = _; is = t.boolean (at 0); same = refl }
base_stays _ _ (t.named name) at = record { found = _; is = t.named (named_at at name); same = refl }

pub pairs_stay : Stays IsPairs IsPairs SameValue
pairs_stay _ _ (t.pair left right) at = record { found = _; is = t.pair (at 0) (next at 0); same = refl }
pairs_stay _ _ (t.more_pairs {tokens} {pairs} left right d) at =
    let inner = pairs_stay tokens pairs d at in
    let end = behind tokens at in
    rw (both tokens (sign OPEN_BRACKET left ∷ sign CLOSE_BRACKET right ∷ []) at) (record { found = _; is = t.more_pairs (end 0) (next end 0) inner.is; same = ap (λ n. n + 1) inner.same })

abbrev pub SameType : FoundType → FoundType → Type 0
SameType x y = bare_type x.ty ≡ bare_type y.ty

type_same : (base other : At BaseTree) (notes more : Notes) (pairs brackets : At ℕ) → SameBase base other → SameNotes notes more → SameValue pairs brackets → SameType (array_of base notes pairs) (array_of other more brackets)
type_same base other notes more pairs brackets e f g = rw (e, f, g) refl

rest_stays : (base other : At BaseTree) → SameBase base other → Stays (IsTypeRest base) (IsTypeRest other) SameType
rest_stays base other e _ _ t.no_rest at = record { found = plain_type other; is = t.no_rest; same = rw e refl }
rest_stays base other e _ _ (t.array {before} {tokens} {notes} {pairs} d p) at =
    let first = notes_stay before notes d at in
    let last = pairs_stay tokens pairs p (behind before at) in
    rw (both before tokens at) (record { found = _; is = t.array first.is last.is; same = type_same base other notes first.found pairs last.found e first.same last.same })

pub type_stays : Stays IsType IsType SameType
type_stays _ _ (t.type {before} {tokens} {base} {ty} b d) at =
    let first = base_stays before base b at in
    let last = rest_stays base first.found first.same tokens ty d (behind before at) in
    rw (both before tokens at) (record { found = last.found; is = t.type first.is last.is; same = last.same })
