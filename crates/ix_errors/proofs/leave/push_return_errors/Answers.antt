use Rattle.std.proofs.Common.{◌≡◌, ◌++◌, sym, subst}
use Rattle.std.specs.Prelude.{OnOk, Some}
use Rattle.ix_core.specs.declared.error.Subject.TheVariants as subject
use Rattle.ix_core.specs.declared.fact.Path.TheVariants.{Slot}
use Rattle.ix_rules_hold.specs.MachineSteps.{own_path}
use Rattle.ix_store.specs.StoredFacts.{stored}
use Rattle.ix_errors.specs.Exactly.{AddsExactly}
use Rattle.ix_errors.specs.Refusals.{refusals, not_proved}
use Rattle.ix_signatures.specs.SignErrors.{ReturnClaim}
use Rattle.ix_errors.proofs.Refused.{ok_adds, returns_are}
use Rattle.ix_errors.proofs.leave.push_return_errors.Goals as goal

pub returns : goal.returns
returns c =
    let method = c.args.method.now in
    let store = stored c.args.store.now in
    let old = c.args.out.now.items in
    let new = c.push_unproved.new.out.items in
    let claims = method.result_claims in
    let slot = c.in-Some.slot in
    let list = refusals (not_proved store (own_path method) (Slot slot)) 6 c.args.span (subject.Result c.args.number) 0 claims in
    let added : OnOk c.push_unproved.result (new ≡ old ++ list) =
    subst (λ l. OnOk c.push_unproved.result (new ≡ old ++ refusals (not_proved store (own_path method) (Slot slot)) 6 c.args.span (subject.Result c.args.number) 0 l)) c.as_slice-claims.ensures c.push_unproved.ensures in
    record {
      errors = subst (λ v. OnOk c.push_unproved.result (AddsExactly (ReturnClaim method c.args.number v c.args.span store) old new)) (sym c.in-Some.is)
          (ok_adds (ReturnClaim method c.args.number (Some slot) c.args.span store) old new list c.push_unproved.result added (returns_are method c.args.number slot c.args.span store));
    }
