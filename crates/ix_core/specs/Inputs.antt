-- Inputs as words, and the first claim that inputs don't meet.
use Rattle.std.specs.Prelude.{◌≡◌, ℕ, ◌+◌, ◌+ℤ◌, ◌-ℤ◌, neg_ℤ, ℤ, pos, int_lt, int_le, Bool, true, false, ◌&&◌, List, [], ◌∷◌, ◌++◌, Option, None, Some}
use Rattle.std.specs.Fmt.{signed_decimal}
use Rattle.std.specs.List.{list_all}
use Rattle.std.specs.Ordering.{int_eq}
use Rattle.ix_core.specs.declared.claim.Claim.{Claim}
use Rattle.ix_core.specs.declared.claim.Claim.TheVariants.{Range, Low, Length, Same, Less, Upper, Search, Negative}
use Rattle.ix_core.specs.declared.claim.Name.{Name}
use Rattle.ix_core.specs.declared.claim.Type_.{Type_}
use Rattle.ix_core.specs.declared.program.Local.{Local as Variable}
use Rattle.ix_core.specs.declared.program.Method.{Method}
use Rattle.ix_core.specs.Claims.{offset_of}
use Rattle.ix_core.specs.Heap.{Reading, int_reading, no_reading}
use Rattle.ix_core.specs.Safe.{Input, Whole, Flag, Ints, HasType, input_reading, input_names, element_claims, elements_of}

-- ---- words

abbrev pub behind_comma : List ℤ → List ℕ
behind_comma [] = []
behind_comma (n ∷ ns) = 44 ∷ (signed_decimal n ++ behind_comma ns)

abbrev pub with_commas : List ℤ → List ℕ
with_commas [] = []
with_commas (n ∷ ns) = signed_decimal n ++ behind_comma ns

-- the one word that writes an input: `5`, `-5`, `true`, `false`, `[]`, `[1,-2]`
abbrev pub word_of : Input → List ℕ
word_of (Whole n) = signed_decimal n
word_of (Flag true) = 116 ∷ 114 ∷ 117 ∷ 101 ∷ []
word_of (Flag false) = 102 ∷ 97 ∷ 108 ∷ 115 ∷ 101 ∷ []
word_of (Ints ns) = 91 ∷ (with_commas ns ++ 93 ∷ [])

-- the word is this value of the type
pub record IsValueOf (ty : Type_) (word : List ℕ) (input : Input) : Type 0 where
  pub written : word ≡ word_of input
  pub typed : HasType input ty

-- ---- claims that aren't met

abbrev pub is_from : ℤ → ℤ → ℤ → Bool
is_from size v high = int_le (neg_ℤ size -ℤ pos 1) v && int_le v high

-- the claim is true, as a test
abbrev pub is_true_of : Claim → Reading → (Name → Reading) → Bool
is_true_of (Range low high) v names = int_le low v.int && int_le v.int high
is_true_of (Low low) v names = int_le low v.int
is_true_of (Length least) v names = int_le least v.size
is_true_of (Same other) v names = int_eq v.size (names other).size
is_true_of (Less name constant) v names = int_lt v.int ((names name).int +ℤ constant)
is_true_of (Upper array offset constant) v names = int_lt ((v.int +ℤ offset_of names offset) +ℤ constant) (names array).size
is_true_of (Search array) v names = is_from (names array).size v.int ((names array).size -ℤ pos 1)
is_true_of (Negative array) v names = is_from (names array).size v.int (neg_ℤ (pos 1))

-- a parameter, by its number from 0, and a claim that its input doesn't meet
pub record Unmet : Type 0 where
  pub param : ℕ
  pub claim : Claim

abbrev pub or_else : Option Unmet → Option Unmet → Option Unmet
or_else None other = other
or_else (Some unmet) other = Some unmet

abbrev pub unless_true : Bool → Unmet → Option Unmet
unless_true true unmet = None
unless_true false unmet = Some unmet

-- the first of a parameter's own claims that isn't true
abbrev pub first_own : ℕ → List Claim → Reading → (Name → Reading) → Option Unmet
first_own number [] v names = None
first_own number (claim ∷ claims) v names = or_else (unless_true (is_true_of claim v names) (record { param = number; claim = claim })) (first_own number claims v names)

-- the first of the claims on elements that isn't true of every element
abbrev pub first_of_elements : ℕ → List Claim → List ℤ → Option Unmet
first_of_elements number [] ns = None
first_of_elements number (claim ∷ claims) ns =
    or_else (unless_true (list_all (λ n. is_true_of claim (int_reading n) (λ name. no_reading)) ns) (record { param = number; claim = claim })) (first_of_elements number claims ns)

abbrev pub first_from : ℕ → List Input → List Variable → List Type_ → (Name → Reading) → Option Unmet
first_from number (input ∷ inputs) (param ∷ params) (ty ∷ types) names =
    or_else (first_own number param.claims (input_reading input) names) (or_else (first_of_elements number (element_claims ty) (elements_of input)) (first_from (number + 1) inputs params types names))
first_from number _ _ _ names = None

-- the first claim that the inputs don't meet: parameter by parameter, own claims before those on elements
abbrev pub first_unmet : Method → List Input → Option Unmet
first_unmet method inputs = first_from 0 inputs method.params method.param_types (input_names inputs)
