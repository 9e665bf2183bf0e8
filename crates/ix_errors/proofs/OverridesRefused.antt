-- The errors of overriding methods, tried on the least stores that are allowed.
use Rattle.std.specs.Prelude.{◌≡◌, ◌↔◌, ℕ, ◌+◌, None, Result, Ok, Err, IfOk, List, ◌++◌, refl}
use Rattle.std.specs.declared.alloc.AllocError.{AllocError}
use Rattle.std.proofs.Common.{arith, subst}
use Rattle.ix_core.specs.declared.error.Subject.TheVariants.{Param, Result as ResultOf}
use Rattle.ix_core.specs.declared.fact.Fact.{Fact}
use Rattle.ix_core.specs.declared.fact.Path.{Path}
use Rattle.ix_core.specs.declared.fact.Path.TheVariants.{Slot, FieldOf}
use Rattle.ix_core.specs.declared.fact.PathClaim.{PathClaim}
use Rattle.ix_core.specs.declared.program.Method.{Method}
use Rattle.ix_core.specs.declared.program.Program.{Program}
use Rattle.ix_core.specs.Tables.{param_slot, param_slots}
use Rattle.ix_facts.specs.Forget.{without}
use Rattle.ix_facts.specs.Systems.{HaveClasses}
use Rattle.ix_facts.specs.Stores.{Stored, IsAbove, IsStoreOf, IsAdded, IsForgotten, Then, IsStep, with_facts}
use Rattle.ix_facts.proofs.StepLaws.{then_step}
use Rattle.ix_facts.proofs.StoreLaws.{below_itself, store_above, store_least}
use Rattle.ix_rules_hold.specs.MachineSteps.{on_paths, own_path}
use Rattle.ix_fact_paths.specs.ChangedPaths.{of_called}
use Rattle.ix_store.specs.declared.store.Store.{Store}
use Rattle.ix_store.specs.StoredFacts.{stored}
use Rattle.ix_errors.specs.Exactly.{AreExactly}
use Rattle.ix_errors.specs.Refusals.{refusals, not_proved, param_refusals}
use Rattle.ix_signatures.specs.Signs.{Adds, Forgets, IsLeastOf, IsLeastAllowed, received_params, params_facts, received, claims_facts}
use Rattle.ix_signatures.specs.SignErrors.{Refuses, AllRefuse, OverrideParameter, OverrideResult, HasRun, of_run}
use Rattle.ix_signatures.proofs.ForgottenAlike.{forgotten_alike}
use Rattle.ix_signatures.proofs.LeastSteps.{least_given, least_then, all_refuse, refuse_least}
use Rattle.ix_errors.proofs.Refused.{fails_refused, exactly_same, refusals_exact, params_exact, SomeParam, OneParam}
use Rattle.ix_signatures.proofs.SignClasses.{both_have, claims_have, received_has, received_have, params_have}
use Rattle.ix_signatures.proofs.SignSteps.{adds_step, forgets_step}
use Rattle.ix_errors.proofs.WritesRefused.{other_failure}

pub called_have : (upper : Method) → HaveClasses (received_params upper 0 upper.param_types ++ params_facts upper 0 upper.params)
called_have upper = both_have (received_params upper 0 upper.param_types) (params_facts upper 0 upper.params) (received_have upper 0 upper.param_types) (params_have upper 0 upper.params)

pub own_have : (method : Method) → HaveClasses (received method.result (Slot (param_slots method)) ++ claims_facts (own_path method) (Slot (param_slots method)) method.result_claims)
own_have method = both_have (received method.result (Slot (param_slots method))) _ (received_has method.result (Slot (param_slots method))) (claims_have (own_path method) (Slot (param_slots method)) method.result_claims)

-- the least store that is allowed refuses what all refuse
pub least_refuses : (Allowed : Stored → Type 0) (t : Stored) → IsLeastAllowed Allowed t → (claim : PathClaim) (p : Path) → Refuses t claim p ↔ AllRefuse Allowed claim p
least_refuses Allowed t least claim p = (all_refuse Allowed t claim p least.least, refuse_least Allowed t claim p least.above)

pub store_allowed : (facts : List Fact) (s : Stored) → IsStoreOf facts s → IsLeastAllowed (IsAbove facts) s
store_allowed facts s is = record { above = store_above facts s is; least = λ u above. store_least facts s u is above }

-- ---- parameters

pub params_are : (method upper : Method) (own : ℕ) (s : Stored) → IsStoreOf (params_facts upper 0 upper.params) s → AreExactly (OverrideParameter method upper own) (param_refusals s method own 0 method.params)
params_are method upper own s is =
    exactly_same (SomeParam s method own 0 method.params) (OverrideParameter method upper own) (param_refusals s method own 0 method.params)
    (λ error rank. (
      λ d.
          let e : 0 + d.0 ≡ d.0 = omega arith in
          let moved : OneParam s method own d.0 d.1 error rank = subst (λ n. OneParam s method own n d.1 error rank) e d.3 in
          record {
            k = d.0;
            param = d.1;
            declared = d.2;
            of = other_failure _ _ d.1.claims 10 method.span (Param own d.0) error rank (λ claim. (least_refuses (IsAbove (params_facts upper 0 upper.params)) s (store_allowed (params_facts upper 0 upper.params) s is) (on_paths (own_path method) claim) (Slot (param_slot method d.0))).0) moved;
          },
      λ r.
          let e : r.k ≡ 0 + r.k = omega arith in
          let back : OneParam s method own r.k r.param error rank = other_failure _ _ r.param.claims 10 method.span (Param own r.k) error rank (λ claim. (least_refuses (IsAbove (params_facts upper 0 upper.params)) s (store_allowed (params_facts upper 0 upper.params) s is) (on_paths (own_path method) claim) (Slot (param_slot method r.k))).1) r.of in
          (r.k, r.param, r.declared, subst (λ n. OneParam s method own n r.param error rank) e back),
    ))
    (params_exact s method own 0 method.params)

-- ---- results

run_alike : (program : Program) (method : Method) (p : Path) → of_called program (param_slots method) method.effect_free None p ≡ of_run program method p
run_alike program method (Slot s) = refl
run_alike program method (FieldOf s f) = refl

-- what the method's run adds: its own claims of its result
abbrev pub gives_result : Method → List Fact
gives_result method = received method.result (Slot (param_slots method)) ++ claims_facts (own_path method) (Slot (param_slots method)) method.result_claims

pub run_behind : (program : Program) (method : Method) (first between t : Stored) → IsForgotten (of_called program (param_slots method) method.effect_free None) first between → IsAdded (gives_result method) between t
    → IsLeastOf (Then (Forgets (of_run program method)) (Adds (gives_result method))) first t
run_behind program method first between t forgotten added =
    let changed = of_run program method in
    least_then (Forgets changed) (Adds (gives_result method)) (adds_step (gives_result method)) first between t
    (least_given (without changed) first between (forgotten_alike (of_called program (param_slots method) method.effect_free None) changed (run_alike program method) first between forgotten)) (least_given (with_facts (gives_result method)) between t added)

pub run_least : (program : Program) (method upper : Method) (first t : Stored) → IsStoreOf (received_params upper 0 upper.param_types ++ params_facts upper 0 upper.params) first
    → IsLeastOf (Then (Forgets (of_run program method)) (Adds (gives_result method))) first t → IsLeastAllowed (HasRun program method upper) t
run_least program method upper first t is least =
    let facts = received_params upper 0 upper.param_types ++ params_facts upper 0 upper.params in
    let changed = of_run program method in
    let step : IsStep (Then (Forgets changed) (Adds (gives_result method))) = then_step (Forgets changed) (Adds (gives_result method)) (forgets_step changed) (adds_step (gives_result method)) in
    record {
      above = (first, store_above facts first is, least.above);
      least = λ u allowed. least.least u (step first allowed.0 u u (store_least facts first allowed.0 is allowed.1) allowed.2 (below_itself u));
    }

pub behind_added : (program : Program) (method : Method) (first between : Stored) (r : Result Store AllocError) → IsForgotten (of_called program (param_slots method) method.effect_free None) first between
    → IfOk r (λ store. IsAdded (gives_result method) between (stored store)) → IfOk r (λ store. IsLeastOf (Then (Forgets (of_run program method)) (Adds (gives_result method))) first (stored store))
behind_added program method first between (Ok store) forgotten added = run_behind program method first between (stored store) forgotten added
behind_added program method first between (Err failed) forgotten added = tt

pub has_run_least : (program : Program) (method upper : Method) (first : Stored) (r : Result Store AllocError) → IsStoreOf (received_params upper 0 upper.param_types ++ params_facts upper 0 upper.params) first
    → IfOk r (λ store. IsLeastOf (Then (Forgets (of_run program method)) (Adds (gives_result method))) first (stored store)) → IfOk r (λ store. IsLeastAllowed (HasRun program method upper) (stored store))
has_run_least program method upper first (Ok store) is least = run_least program method upper first (stored store) is least
has_run_least program method upper first (Err failed) is least = tt

pub results_are : (program : Program) (method upper : Method) (over : ℕ) (s : Stored) → IsLeastAllowed (HasRun program method upper) s
    → AreExactly (OverrideResult program method upper over) (refusals (not_proved s (own_path upper) (Slot (param_slots method))) 11 method.span (ResultOf over) 0 upper.result_claims)
results_are program method upper over s least =
    refusals_exact (λ claim. AllRefuse (HasRun program method upper) (on_paths (own_path upper) claim) (Slot (param_slots method))) (not_proved s (own_path upper) (Slot (param_slots method)))
    (λ claim.
    let fails = fails_refused (on_paths (own_path upper) claim) (Slot (param_slots method)) s in
    let all = least_refuses (HasRun program method upper) s least (on_paths (own_path upper) claim) (Slot (param_slots method)) in
    (λ t. all.0 (fails.0 t), λ a. fails.1 (all.1 a)))
    11 method.span (ResultOf over) upper.result_claims
