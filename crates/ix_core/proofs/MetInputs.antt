-- No claim is unmet exactly where the inputs meet their method.
use Rattle.std.specs.Prelude.{◌≡◌, ◌↔◌, ℕ, ◌+◌, ℤ, pos, neg_ℤ, ◌-ℤ◌, int_le, Bool, true, false, ◌&&◌, List, [], ◌∷◌, Option, None, Some, refl}
use Rattle.std.specs.List.{list_all}
use Rattle.std.proofs.Common.{arith}
use Rattle.std.proofs.lemmas.Bool.{and_parts}
use Rattle.std.proofs.lemmas.Bool.Decides.{Decides-int_eq}
use Rattle.std.proofs.lemmas.Int.{ints}
use Rattle.ix_core.specs.declared.claim.Claim.{Claim}
use Rattle.ix_core.specs.declared.claim.Claim.TheVariants.{Range, Low, Length, Same, Less, Upper, Search, Negative}
use Rattle.ix_core.specs.declared.claim.Name.{Name}
use Rattle.ix_core.specs.declared.claim.Type_.{Type_}
use Rattle.ix_core.specs.declared.program.Local.{Local as Variable}
use Rattle.ix_core.specs.declared.program.Method.{Method}
use Rattle.ix_core.specs.Claims.{True, AreTrue, IsFrom}
use Rattle.ix_core.specs.Heap.{Reading, int_reading, no_reading}
use Rattle.ix_core.specs.Inputs.{is_from, is_true_of, Unmet, or_else, unless_true, first_own, first_of_elements, first_from, first_unmet}
use Rattle.ix_core.specs.Safe.{Input, AllTrue, MeetEach, Meets, input_reading, input_names, element_claims, elements_of}

both : (a b : Bool) → a ≡ true → b ≡ true → (a && b) ≡ true
both a b s t = rw (s, t) refl

from_shown : (size v high : ℤ) → is_from size v high ≡ true → IsFrom size v high
from_shown size v high e = let parts = and_parts (int_le (neg_ℤ size -ℤ pos 1) v) (int_le v high) e in let a = parts.0 in let b = parts.1 in (omega (arith, ints, a, b), omega (arith, ints, a, b))

from_is : (size v high : ℤ) → IsFrom size v high → is_from size v high ≡ true
from_is size v high is = let a = is.0 in let b = is.1 in both (int_le (neg_ℤ size -ℤ pos 1) v) (int_le v high) (grind (arith, ints)) (grind (arith, ints))

-- the test says what the claim does
claim_shown : (claim : Claim) (v : Reading) (names : Name → Reading) → is_true_of claim v names ≡ true → True claim v names
claim_shown (Range low high) v names e = let parts = and_parts (int_le low v.int) (int_le v.int high) e in let a = parts.0 in let b = parts.1 in (omega (arith, ints, a), omega (arith, ints, b))
claim_shown (Low low) v names e = omega (arith, ints, e)
claim_shown (Length least) v names e = omega (arith, ints, e)
claim_shown (Same other) v names e = (Decides-int_eq v.size (names other).size).0 e
claim_shown (Less name constant) v names e = omega (arith, ints, e)
claim_shown (Upper array offset constant) v names e = omega (arith, ints, e)
claim_shown (Search array) v names e = from_shown (names array).size v.int ((names array).size -ℤ pos 1) e
claim_shown (Negative array) v names e = from_shown (names array).size v.int (neg_ℤ (pos 1)) e

claim_is : (claim : Claim) (v : Reading) (names : Name → Reading) → True claim v names → is_true_of claim v names ≡ true
claim_is (Range low high) v names is = let a = is.0 in let b = is.1 in both (int_le low v.int) (int_le v.int high) (grind (arith, ints)) (grind (arith, ints))
claim_is (Low low) v names is = grind (arith, ints)
claim_is (Length least) v names is = grind (arith, ints)
claim_is (Same other) v names is = (Decides-int_eq v.size (names other).size).1 is
claim_is (Less name constant) v names is = grind (arith, ints)
claim_is (Upper array offset constant) v names is = grind (arith, ints)
claim_is (Search array) v names is = from_is (names array).size v.int ((names array).size -ℤ pos 1) is
claim_is (Negative array) v names is = from_is (names array).size v.int (neg_ℤ (pos 1)) is

-- ---- none of several

none_of : (first second : Option Unmet) → or_else first second ≡ None → (first ≡ None) × (second ≡ None)
none_of None second e = (refl, e)
none_of (Some unmet) second e = absurd cc

none_is : (first second : Option Unmet) → first ≡ None → second ≡ None → or_else first second ≡ None
none_is first second e f = rw (e, f) refl

unless_none : (t : Bool) (unmet : Unmet) → unless_true t unmet ≡ None → t ≡ true
unless_none true unmet e = refl
unless_none false unmet e = absurd cc

own_shown : (number : ℕ) (claims : List Claim) (v : Reading) (names : Name → Reading) → first_own number claims v names ≡ None → AreTrue claims v names
own_shown number [] v names e = tt
own_shown number (claim ∷ claims) v names e =
    let parts = none_of (unless_true (is_true_of claim v names) (record { param = number; claim = claim })) (first_own number claims v names) e in
    (claim_shown claim v names (unless_none _ _ parts.0), own_shown number claims v names parts.1)

own_is : (number : ℕ) (claims : List Claim) (v : Reading) (names : Name → Reading) → AreTrue claims v names → first_own number claims v names ≡ None
own_is number [] v names is = refl
own_is number (claim ∷ claims) v names is = let e = claim_is claim v names is.0 in none_is _ _ (rw e refl) (own_is number claims v names is.1)

-- the claims on elements are tested one after the other, and said of one element after the other
abbrev OfEach : Claim → List ℤ → Type 0
OfEach claim [] = Unit {0}
OfEach claim (n ∷ ns) = True claim (int_reading n) (λ name. no_reading) × OfEach claim ns

each_shown : (claim : Claim) (ns : List ℤ) → list_all (λ n. is_true_of claim (int_reading n) (λ name. no_reading)) ns ≡ true → OfEach claim ns
each_shown claim [] e = tt
each_shown claim (n ∷ ns) e = let parts = and_parts _ _ e in (claim_shown claim (int_reading n) (λ name. no_reading) parts.0, each_shown claim ns parts.1)

each_is : (claim : Claim) (ns : List ℤ) → OfEach claim ns → list_all (λ n. is_true_of claim (int_reading n) (λ name. no_reading)) ns ≡ true
each_is claim [] is = refl
each_is claim (n ∷ ns) is = both _ _ (claim_is claim (int_reading n) (λ name. no_reading) is.0) (each_is claim ns is.1)

all_none : (ns : List ℤ) → AllTrue [] ns
all_none [] = tt
all_none (n ∷ ns) = (tt, all_none ns)

all_more : (claim : Claim) (claims : List Claim) (ns : List ℤ) → OfEach claim ns → AllTrue claims ns → AllTrue (claim ∷ claims) ns
all_more claim claims [] here rest = tt
all_more claim claims (n ∷ ns) here rest = ((here.0, rest.0), all_more claim claims ns here.1 rest.1)

all_first : (claim : Claim) (claims : List Claim) (ns : List ℤ) → AllTrue (claim ∷ claims) ns → OfEach claim ns
all_first claim claims [] is = tt
all_first claim claims (n ∷ ns) is = (is.0.0, all_first claim claims ns is.1)

all_rest : (claim : Claim) (claims : List Claim) (ns : List ℤ) → AllTrue (claim ∷ claims) ns → AllTrue claims ns
all_rest claim claims [] is = tt
all_rest claim claims (n ∷ ns) is = (is.0.1, all_rest claim claims ns is.1)

elements_shown : (number : ℕ) (claims : List Claim) (ns : List ℤ) → first_of_elements number claims ns ≡ None → AllTrue claims ns
elements_shown number [] ns e = all_none ns
elements_shown number (claim ∷ claims) ns e =
    let parts = none_of (unless_true (list_all (λ n. is_true_of claim (int_reading n) (λ name. no_reading)) ns) (record { param = number; claim = claim })) (first_of_elements number claims ns) e in
    all_more claim claims ns (each_shown claim ns (unless_none _ _ parts.0)) (elements_shown number claims ns parts.1)

elements_is : (number : ℕ) (claims : List Claim) (ns : List ℤ) → AllTrue claims ns → first_of_elements number claims ns ≡ None
elements_is number [] ns is = refl
elements_is number (claim ∷ claims) ns is =
    let e = each_is claim ns (all_first claim claims ns is) in none_is _ _ (rw e refl) (elements_is number claims ns (all_rest claim claims ns is))

-- ---- all parameters

from_met : (number : ℕ) (inputs : List Input) (params : List Variable) (types : List Type_) (names : Name → Reading) → first_from number inputs params types names ≡ None → MeetEach inputs params types names
from_met number [] params types names e = tt
from_met number (input ∷ inputs) [] types names e = tt
from_met number (input ∷ inputs) (param ∷ params) [] names e = tt
from_met number (input ∷ inputs) (param ∷ params) (ty ∷ types) names e =
    let first = none_of (first_own number param.claims (input_reading input) names) _ e in
    let second = none_of (first_of_elements number (element_claims ty) (elements_of input)) _ first.1 in
    (own_shown number param.claims (input_reading input) names first.0, elements_shown number (element_claims ty) (elements_of input) second.0, from_met (number + 1) inputs params types names second.1)

met_from : (number : ℕ) (inputs : List Input) (params : List Variable) (types : List Type_) (names : Name → Reading) → MeetEach inputs params types names → first_from number inputs params types names ≡ None
met_from number [] params types names met = refl
met_from number (input ∷ inputs) [] types names met = refl
met_from number (input ∷ inputs) (param ∷ params) [] names met = refl
met_from number (input ∷ inputs) (param ∷ params) (ty ∷ types) names met =
    none_is _ _ (own_is number param.claims (input_reading input) names met.0)
    (none_is _ _ (elements_is number (element_claims ty) (elements_of input) met.1) (met_from (number + 1) inputs params types names met.2))

pub none_unmet : (method : Method) (inputs : List Input) → (first_unmet method inputs ≡ None) ↔ Meets method inputs
none_unmet method inputs = (from_met 0 inputs method.params method.param_types (input_names inputs), met_from 0 inputs method.params method.param_types (input_names inputs))
