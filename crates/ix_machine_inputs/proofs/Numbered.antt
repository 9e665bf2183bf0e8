-- The parameter of an unmet claim is one of those that have inputs.
use Rattle.std.specs.Prelude.{◌≡◌, ◌<◌, ℕ, ◌+◌, ℤ, Bool, true, false, List, [], ◌∷◌, length, Option, None, Some, refl}
use Rattle.std.specs.List.{list_all}
use Rattle.std.specs.Option.{IfSome}
use Rattle.std.proofs.Common.{arith}
use Rattle.ix_core.specs.declared.claim.Claim.{Claim}
use Rattle.ix_core.specs.declared.claim.Name.{Name}
use Rattle.ix_core.specs.declared.claim.Type_.{Type_}
use Rattle.ix_core.specs.declared.program.Local.{Local as Variable}
use Rattle.ix_core.specs.Heap.{Reading, int_reading, no_reading}
use Rattle.ix_core.specs.Inputs.{Unmet, or_else, unless_true, is_true_of, first_own, first_of_elements, first_from}
use Rattle.ix_core.specs.Safe.{Input, input_reading, element_claims, elements_of}

either : (P : Unmet → Type 0) (first second : Option Unmet) → IfSome first P → IfSome second P → IfSome (or_else first second) P
either P None second one other = other
either P (Some unmet) second one other = one

unless : (number : ℕ) (claim : Claim) (answer : Bool) → IfSome (unless_true answer (record { param = number; claim = claim })) (λ unmet. unmet.param ≡ number)
unless number claim true = tt
unless number claim false = refl

own_is : (number : ℕ) (claims : List Claim) (v : Reading) (names : Name → Reading) → IfSome (first_own number claims v names) (λ unmet. unmet.param ≡ number)
own_is number [] v names = tt
own_is number (claim ∷ claims) v names = either (λ unmet. unmet.param ≡ number) _ (first_own number claims v names) (unless number claim (is_true_of claim v names)) (own_is number claims v names)

of_elements_is : (number : ℕ) (claims : List Claim) (ns : List ℤ) → IfSome (first_of_elements number claims ns) (λ unmet. unmet.param ≡ number)
of_elements_is number [] ns = tt
of_elements_is number (claim ∷ claims) ns =
    either (λ unmet. unmet.param ≡ number) _ (first_of_elements number claims ns) (unless number claim (list_all (λ n. is_true_of claim (int_reading n) (λ name. no_reading)) ns)) (of_elements_is number claims ns)

within : (number : ℕ) (input : Input) (inputs : List Input) (found : Option Unmet) → IfSome found (λ unmet. unmet.param ≡ number) → IfSome found (λ unmet. unmet.param < number + length (input ∷ inputs))
within number input inputs None is = tt
within number input inputs (Some unmet) is = omega (arith, is)

later : (number : ℕ) (input : Input) (inputs : List Input) (found : Option Unmet) → IfSome found (λ unmet. unmet.param < number + 1 + length inputs) → IfSome found (λ unmet. unmet.param < number + length (input ∷ inputs))
later number input inputs None is = tt
later number input inputs (Some unmet) is = omega (arith, is)

from_within : (number : ℕ) (inputs : List Input) (params : List Variable) (types : List Type_) (names : Name → Reading) → IfSome (first_from number inputs params types names) (λ unmet. unmet.param < number + length inputs)
from_within number [] params types names = tt
from_within number (input ∷ inputs) [] types names = tt
from_within number (input ∷ inputs) (param ∷ params) [] names = tt
from_within number (input ∷ inputs) (param ∷ params) (ty ∷ types) names =
    either (λ unmet. unmet.param < number + length (input ∷ inputs)) (first_own number param.claims (input_reading input) names) _ (within number input inputs (first_own number param.claims (input_reading input) names) (own_is number param.claims (input_reading input) names))
    (either (λ unmet. unmet.param < number + length (input ∷ inputs)) (first_of_elements number (element_claims ty) (elements_of input)) _ (within number input inputs (first_of_elements number (element_claims ty) (elements_of input)) (of_elements_is number (element_claims ty) (elements_of input)))
    (later number input inputs (first_from (number + 1) inputs params types names) (from_within (number + 1) inputs params types names)))

pub is_within : (inputs : List Input) (params : List Variable) (types : List Type_) (names : Name → Reading) (unmet : Unmet) → first_from 0 inputs params types names ≡ Some unmet → unmet.param < length inputs
is_within inputs params types names unmet is = let told = from_within 0 inputs params types names in let bound = rw is at told in omega (arith, bound)
