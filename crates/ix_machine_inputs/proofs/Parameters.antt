-- The first unmet claim, a parameter at a time.
use Rattle.std.specs.Prelude.{◌≡◌, ℕ, suc, zero, ◌+◌, List, [], ◌∷◌, drop, map, slice_get, Option, None, Some, refl}
use Rattle.std.proofs.Common.{rules, sym, ◌∙◌}
use native.Mathlib.Numerals.{unary_clauses}
use Rattle.std.proofs.lemmas.Option.{slice_get-map}
use Rattle.ix_core.specs.declared.claim.Name.{Name}
use Rattle.ix_core.specs.declared.claim.Type_.{Type_}
use Rattle.ix_core.specs.declared.program.Local.{Local as Variable}
use Rattle.ix_core.specs.Heap.{Reading}
use Rattle.ix_core.specs.Inputs.{Unmet, or_else, first_own, first_of_elements, first_from}
use Rattle.ix_core.specs.Safe.{Input, input_reading, element_claims, elements_of}

-- what one parameter gives
abbrev first_of : ℕ → Input → Variable → Type_ → (Name → Reading) → Option Unmet
first_of number input param ty names = or_else (first_own number param.claims (input_reading input) names) (first_of_elements number (element_claims ty) (elements_of input))

at_next : {A : Type 0} (xs : List A) (k : ℕ) (x : A) → slice_get xs k ≡ Some x → drop k xs ≡ x ∷ drop (suc k) xs
at_next [] k x e = absurd cc
at_next (y ∷ ys) zero x e = search rules
at_next (y ∷ ys) (suc k) x e = at_next ys k x e

pub at_place : {A : Type 0} (xs : List A) (k : ℕ) (x : A) → slice_get xs k ≡ Some x → drop k xs ≡ x ∷ drop (k + 1) xs
at_place xs k x e = simp unary_clauses (at_next xs k x e)

past_end : {A : Type 0} (xs : List A) (k : ℕ) → slice_get xs k ≡ None → drop k xs ≡ []
past_end [] zero e = refl
past_end [] (suc k) e = refl
past_end (y ∷ ys) zero e = absurd cc
past_end (y ∷ ys) (suc k) e = past_end ys k e

-- two at a time
grouped : (a b c : Option Unmet) → or_else a (or_else b c) ≡ or_else (or_else a b) c
grouped None b c = refl
grouped (Some unmet) b c = refl

one_more : (number k : ℕ) (inputs : List Input) (params : List Variable) (types : List Type_) (names : Name → Reading) (input : Input) (param : Variable) (ty : Type_)
    → slice_get inputs k ≡ Some input → slice_get params k ≡ Some param → slice_get types k ≡ Some ty
    → first_from number (drop k inputs) (drop k params) (drop k types) names ≡ or_else (first_of number input param ty names) (first_from (number + 1) (drop (k + 1) inputs) (drop (k + 1) params) (drop (k + 1) types) names)
one_more number k inputs params types names input param ty i p t = rw (at_place inputs k input i, at_place params k param p, at_place types k ty t) (grouped (first_own number param.claims (input_reading input) names) (first_of_elements number (element_claims ty) (elements_of input)) (first_from (number + 1) (drop (k + 1) inputs) (drop (k + 1) params) (drop (k + 1) types) names))

no_params : (number : ℕ) (inputs : List Input) (types : List Type_) (names : Name → Reading) → first_from number inputs [] types names ≡ None
no_params number [] types names = refl
no_params number (input ∷ inputs) types names = refl

no_types : (number : ℕ) (inputs : List Input) (params : List Variable) (names : Name → Reading) → first_from number inputs params [] names ≡ None
no_types number [] params names = refl
no_types number (input ∷ inputs) [] names = refl
no_types number (input ∷ inputs) (param ∷ params) names = refl

pub without_params : (number k : ℕ) (inputs : List Input) (params : List Variable) (types : List Type_) (names : Name → Reading) → slice_get params k ≡ None → first_from number (drop k inputs) (drop k params) (drop k types) names ≡ None
without_params number k inputs params types names e = rw (past_end params k e) (no_params number (drop k inputs) (drop k types) names)

pub without_types : (number k : ℕ) (inputs : List Input) (params : List Variable) (types : List Type_) (names : Name → Reading) → slice_get types k ≡ None → first_from number (drop k inputs) (drop k params) (drop k types) names ≡ None
without_types number k inputs params types names e = rw (past_end types k e) (no_types number (drop k inputs) (drop k params) names)

-- the input at a place of the list, as the model has it
pub shown_at : {A B : Type 0} (f : A → B) (xs : List A) (k : ℕ) (x : A) → slice_get xs k ≡ Some x → slice_get (map f xs) k ≡ Some (f x)
shown_at f xs k x e = rw (slice_get-map f xs k, e) refl

is_first : (first rest : Option Unmet) (unmet : Unmet) → Some unmet ≡ first → or_else first rest ≡ Some unmet
is_first first rest unmet e = rw (sym e) refl

is_later : (first rest : Option Unmet) → None ≡ first → or_else first rest ≡ rest
is_later first rest e = rw (sym e) refl

-- a parameter with an unmet claim is the first with one
pub stops : (k : ℕ) (inputs : List Input) (params : List Variable) (types : List Type_) (names : Name → Reading) (input : Input) (param : Variable) (ty : Type_) (unmet : Unmet)
    → slice_get inputs k ≡ Some input → slice_get params k ≡ Some param → slice_get types k ≡ Some ty
    → Some unmet ≡ first_of k input param ty names → first_from k (drop k inputs) (drop k params) (drop k types) names ≡ Some unmet
stops k inputs params types names input param ty unmet i p t e = one_more k k inputs params types names input param ty i p t ∙ is_first _ _ unmet e

-- one without goes on with the next
pub goes_on : (k : ℕ) (inputs : List Input) (params : List Variable) (types : List Type_) (names : Name → Reading) (input : Input) (param : Variable) (ty : Type_)
    → slice_get inputs k ≡ Some input → slice_get params k ≡ Some param → slice_get types k ≡ Some ty
    → None ≡ first_of k input param ty names
    → first_from k (drop k inputs) (drop k params) (drop k types) names ≡ first_from (k + 1) (drop (k + 1) inputs) (drop (k + 1) params) (drop (k + 1) types) names
goes_on k inputs params types names input param ty i p t e = one_more k k inputs params types names input param ty i p t ∙ is_later _ _ e
