-- Words that are values of types, one more at a time.
use Rattle.std.specs.Prelude.{◌≡◌, ℕ, zero, suc, ◌+◌, List, [], ◌∷◌, ◌++◌, length, map, take, slice_get, Option, None, Some}
use Rattle.std.proofs.Common.{sym, subst, ap, ◌∙◌}
use Rattle.std.proofs.lemmas.List.{length-map, length-append, map-append}
use native.Mathlib.Numerals.{unary_clauses}
use Rattle.ix_core.specs.declared.claim.Type_.{Type_}
use Rattle.ix_core.specs.Inputs.{IsValueOf}
use Rattle.ix_core.specs.Safe.{Input}
use Rattle.ix_machine_inputs.specs.Words.{AreValues, IsFirstWrong, WritesInput}

first_is : (t : Type_) (w : List ℕ) (ty : Type_) (word : List ℕ) (input : Input) → ◌≡◌ {A = Option Type_} (Some t) (Some ty) → ◌≡◌ {A = Option (List ℕ)} (Some w) (Some word) → IsValueOf ty word input → IsValueOf t w input
first_is t w ty word input at there is = let same : ty ≡ t = cc in let also : word ≡ w = cc in subst (λ (x : Type_). IsValueOf x w input) same (subst (λ (x : List ℕ). IsValueOf ty x input) also is)

next_value : (types : List Type_) (words : List (List ℕ)) (inputs : List Input) (k : ℕ) (ty : Type_) (word : List ℕ) (input : Input) → slice_get types k ≡ Some ty → slice_get words k ≡ Some word
    → IsValueOf ty word input → AreValues (take k types) (take k words) inputs → AreValues (take (suc k) types) (take (suc k) words) (inputs ++ input ∷ [])
next_value [] words inputs k ty word input at there is are = absurd cc
next_value (t ∷ types) [] inputs k ty word input at there is are = absurd cc
next_value (t ∷ types) (w ∷ words) [] zero ty word input at there is are = (first_is t w ty word input at there is, tt)
next_value (t ∷ types) (w ∷ words) (i ∷ inputs) zero ty word input at there is are = absurd are
next_value (t ∷ types) (w ∷ words) [] (suc k) ty word input at there is are = absurd are
next_value (t ∷ types) (w ∷ words) (i ∷ inputs) (suc k) ty word input at there is are = (are.0, next_value types words inputs k ty word input at there is are.1)

pub one_more_value : (types : List Type_) (words : List (List ℕ)) (inputs : List Input) (k : ℕ) (ty : Type_) (word : List ℕ) (input : Input) → slice_get types k ≡ Some ty → slice_get words k ≡ Some word
    → IsValueOf ty word input → AreValues (take k types) (take k words) inputs → AreValues (take (k + 1) types) (take (k + 1) words) (inputs ++ input ∷ [])
one_more_value types words inputs k ty word input at there is are = simp unary_clauses (next_value types words inputs k ty word input at there is are)

pub first_wrong : (types : List Type_) (words : List (List ℕ)) (inputs : List Input) (k number : ℕ) (ty : Type_) (word : List ℕ) → slice_get types k ≡ Some ty → slice_get words k ≡ Some word
    → WritesInput ty word None → AreValues (take k types) (take k words) inputs → length inputs ≡ k → number ≡ k + 1 → IsFirstWrong types words number
first_wrong types words inputs k number ty word at there none are count is = record {
  before = inputs;
  ty = ty;
  word = word;
  values = subst (λ (n : ℕ). AreValues (take n types) (take n words) inputs) (sym count) are;
  ty_at = ap (slice_get types) count ∙ at;
  word_at = ap (slice_get words) count ∙ there;
  none = none;
  counted = is ∙ ap (λ (n : ℕ). n + 1) (sym count);
}

pub as_many : {A B : Type 0} (f : A → B) (xs : List A) → length (map f xs) ≡ length xs
as_many f xs = length-map xs f

-- the same, as the code lists the values
pub more_listed : {A : Type 0} (f : A → Input) (types : List Type_) (words : List (List ℕ)) (items : List A) (k : ℕ) (ty : Type_) (word : List ℕ) (item : A) → slice_get types k ≡ Some ty → slice_get words k ≡ Some word
    → IsValueOf ty word (f item) → AreValues (take k types) (take k words) (map f items) → AreValues (take (k + 1) types) (take (k + 1) words) (map f (items ++ item ∷ []))
more_listed f types words items k ty word item at there is are = rw (map-append f items (item ∷ [])) (one_more_value types words (map f items) k ty word (f item) at there is are)

pub one_more : {A : Type 0} (items : List A) (item : A) (k : ℕ) → length items ≡ k → length (items ++ item ∷ []) ≡ k + 1
one_more items item k count = simp length-append (ap (λ (n : ℕ). n + 1) count)
