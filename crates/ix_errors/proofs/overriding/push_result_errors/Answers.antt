use Rattle.std.proofs.Common.{◌≡◌, ◌++◌, subst}
use Rattle.std.specs.Prelude.{OnOk}
use Rattle.ix_core.specs.declared.error.Subject.TheVariants as subject
use Rattle.ix_core.specs.declared.fact.Path.TheVariants.{Slot}
use Rattle.ix_core.specs.Tables.{param_slots}
use Rattle.ix_rules_hold.specs.MachineSteps.{own_path}
use Rattle.ix_store.specs.StoredFacts.{stored}
use Rattle.ix_errors.specs.Refusals.{refusals, not_proved}
use Rattle.ix_signatures.specs.SignErrors.{OverrideResult}
use Rattle.ix_errors.proofs.OverridesRefused.{results_are}
use Rattle.ix_errors.proofs.Refused.{ok_adds}
use Rattle.ix_errors.proofs.overriding.push_result_errors.Goals as goal

pub returns : goal.returns
returns c =
    let program = c.args.program.now in
    let method = c.args.method.now in
    let upper = c.args.upper.now in
    let s = stored c.in_ok-store.store in
    let old = c.args.out.now.items in
    let new = c.push_unproved.new.out.items in
    let list = refusals (not_proved s (own_path upper) (Slot (param_slots method))) 11 method.span (subject.Result c.args.over) 0 upper.result_claims in
    let added : OnOk c.push_unproved.result (new ≡ old ++ list) =
    subst (λ n. OnOk c.push_unproved.result (new ≡ old ++ refusals (not_proved s (own_path upper) (Slot n)) 11 method.span (subject.Result c.args.over) 0 upper.result_claims)) c.result_slot.ensures
    (subst (λ l. OnOk c.push_unproved.result (new ≡ old ++ refusals (not_proved s (own_path upper) (Slot c.result_slot.result)) 11 method.span (subject.Result c.args.over) 0 l)) c.as_slice-claims.ensures c.push_unproved.ensures) in
    record { errors = ok_adds (OverrideResult program method upper c.args.over) old new list c.push_unproved.result added (results_are program method upper c.args.over s c.in_ok-store.ensures.least) }
