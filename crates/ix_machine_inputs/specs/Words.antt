-- What a word writes, in both directions: the value whose word it is, or none where it is the word of no value.
use Rattle.std.specs.Prelude.{◌≡◌, ℕ, ◌+◌, ℤ, Bool, List, ◌∷◌, [], ◌++◌, length, map, take, slice_get, Option, None, Some}
use Rattle.std.specs.Borrow.{Bor}
use Rattle.std.specs.Fmt.{signed_decimal}
use Rattle.ix_num.specs.Ints.{IsInt}
use Rattle.ix_core.specs.declared.claim.Type_.{Type_}
use Rattle.ix_core.specs.Inputs.{IsValueOf, word_of}
use Rattle.ix_core.specs.Safe.{Input, Flag, Ints, AreInts}

abbrev pub WritesInt : List ℕ → Option ℤ → Type 0
WritesInt word None = (n : ℤ) → IsInt n → word ≡ signed_decimal n → ⊥
WritesInt word (Some n) = (word ≡ signed_decimal n) × IsInt n

abbrev pub WritesBool : List ℕ → Option Bool → Type 0
WritesBool word None = (answer : Bool) → word ≡ word_of (Flag answer) → ⊥
WritesBool word (Some answer) = word ≡ word_of (Flag answer)

-- each piece writes an int
abbrev pub WriteInts : List (List ℕ) → Option (List ℤ) → Type 0
WriteInts pieces None = (ns : List ℤ) → AreInts ns → pieces ≡ map signed_decimal ns → ⊥
WriteInts pieces (Some ns) = (pieces ≡ map signed_decimal ns) × AreInts ns

abbrev pub WritesInts : List ℕ → Option (List ℤ) → Type 0
WritesInts word None = (ns : List ℤ) → AreInts ns → word ≡ word_of (Ints ns) → ⊥
WritesInts word (Some ns) = (word ≡ word_of (Ints ns)) × AreInts ns

-- what stands between brackets
abbrev pub IsWithin : List ℕ → Option (Bor (List ℕ)) → Type 0
IsWithin word None = (inner : List ℕ) → word ≡ 91 ∷ (inner ++ 93 ∷ []) → ⊥
IsWithin word (Some inner) = word ≡ 91 ∷ (inner.now ++ 93 ∷ [])

-- a value of the type, or none
abbrev pub WritesInput : Type_ → List ℕ → Option Input → Type 0
WritesInput ty word None = (input : Input) → IsValueOf ty word input → ⊥
WritesInput ty word (Some input) = IsValueOf ty word input

-- the words are values of these types, one by one
abbrev pub AreValues : List Type_ → List (List ℕ) → List Input → Type 0
AreValues [] [] [] = Unit {0}
AreValues (ty ∷ types) (word ∷ words) (input ∷ inputs) = IsValueOf ty word input × AreValues types words inputs
AreValues _ _ _ = ⊥

-- The word of this number, from 1, is the first that is no value of its type: those before it are values.
pub record IsFirstWrong (types : List Type_) (words : List (List ℕ)) (number : ℕ) : Type 0 where
  pub before : List Input
  pub ty : Type_
  pub word : List ℕ
  pub values : AreValues (take (length before) types) (take (length before) words) before
  pub ty_at : slice_get types (length before) ≡ Some ty
  pub word_at : slice_get words (length before) ≡ Some word
  pub none : WritesInput ty word None
  pub counted : number ≡ length before + 1
