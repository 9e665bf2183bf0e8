-- The rules of a method are kept by the stores of what is known along a body with guards.
use Rattle.std.proofs.Common.{ℕ, [], refl, subst}
use Rattle.ix_core.specs.declared.error.Error.{Error}
use Rattle.ix_core.specs.declared.fact.Profile.{Profile}
use Rattle.ix_core.specs.declared.program.Method.{Method}
use Rattle.ix_core.specs.declared.program.Program.{Program}
use Rattle.ix_facts.specs.MethodLandmarks.{method_numbers}
use Rattle.ix_facts.specs.Round.{rounded}
use Rattle.ix_facts.specs.Stores.{Reached, IsBelow, outcomes_of}
use Rattle.ix_facts.proofs.StoreLaws.{below_itself}
use Rattle.ix_signatures.specs.Signs.{entry_facts, told_facts}
use Rattle.ix_sign.specs.MethodRules.{method_rules, RoundedGives}
use Rattle.ix_guard_promise.specs.Known.{Known, Nowhere, Unknown, Inside, Says}
use Rattle.ix_guard_promise.specs.KnownFacts.{store_of}
use Rattle.ix_guard_promise.specs.BoundErrors.{IsOfBounds, GivesNo}
use Rattle.ix_guard_promise.proofs.FinePoints.{guarded_fine, no_access_fine, returning_fine, ending_fine}
use Rattle.ix_guard_promise.proofs.GuardedFlow.{Keep}
use Rattle.ix_guard_promise.proofs.KeptFacts.{unknown_above, nothing_said, gives_unknown, adds_stays, outcomes_stay}
use Rattle.ix_guard_promise.proofs.KeptRules.{after_stays}
use Rattle.ix_guard_promise.proofs.LandmarksExist.{landmarks_exist}
use Rattle.ix_guard_promise.proofs.TestTells.{test_tells}

-- What says more is below.
pub says_below : (known other : Known) → Says known other → IsBelow (store_of known) (store_of other)
says_below Nowhere other says = tt
says_below Unknown Nowhere says = absurd says
says_below Unknown Unknown says = below_itself (Reached [])
says_below Unknown (Inside array index) says = absurd says
says_below (Inside array index) Nowhere says = absurd says
says_below (Inside array index) Unknown says = unknown_above (store_of (Inside array index))
says_below (Inside array index) (Inside other at) says =
    subst (λ a. IsBelow (store_of (Inside array index)) (store_of (Inside a at))) says.0
    (subst (λ i. IsBelow (store_of (Inside array index)) (store_of (Inside array i))) says.1 (below_itself (store_of (Inside array index))))

rounded_unknown : (program : Program) (method : Method) (scope : ℕ) → RoundedGives program method scope (Reached []) (Reached [])
rounded_unknown program method scope =
    let found = landmarks_exist (method_numbers program method) in
    (found.0, found.1, gives_unknown (rounded found.0 scope) (Reached []))

pub rules_kept : (program : Program) (method : Method) (number : ℕ) (profile : Profile) (error : Error) (rank : ℕ) → IsOfBounds error
    → Keep (method_rules program method profile) (GivesNo program method number error rank) error.span store_of
rules_kept program method number profile error rank bounds = record {
  nowhere = refl;
  below = says_below;
  entry = nothing_said (entry_facts program method);
  after = after_stays program method profile;
  tested = λ answer test known. outcomes_stay (outcomes_of answer test) (store_of known);
  told = λ answer last slot known. adds_stays (told_facts program last slot answer) (store_of known);
  rounded = rounded_unknown program method;
  guarded = guarded_fine error rank bounds program method number;
  returning = λ value answer span known. returning_fine error rank bounds program method number value answer span (store_of known);
  ending = λ known. ending_fine error rank bounds program method number (store_of known);
  fails = λ labels last array index null_op zero_op length_op is_null is_negative is_too_high known test.
      test_tells program method profile (GivesNo program method number error rank) labels array index null_op zero_op length_op is_null is_negative is_too_high test
      (no_access_fine error rank bounds program method number) last (store_of known);
}
