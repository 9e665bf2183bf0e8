use Rattle.std.specs.Prelude.{◌≡◌, ◌++◌, OnOk, Some, option_map}
use Rattle.std.proofs.Common.{ap, sym, ◌∙◌, subst}
use Rattle.ix_core.specs.declared.fact.Path.TheVariants.{Slot}
use Rattle.ix_rules_hold.specs.MachineSteps.{own_path}
use Rattle.ix_store.specs.StoredFacts.{stored}
use Rattle.ix_errors.specs.Exactly.{AddsExactly}
use Rattle.ix_signatures.specs.Names.{variable_at}
use Rattle.ix_errors.specs.Refusals.{refusals, not_proved}
use Rattle.ix_signatures.specs.SignErrors.{part}
use Rattle.ix_errors.proofs.Refused.{ok_adds}
use Rattle.ix_sign.specs.RuleErrors.{subject_of, AssignClaim}
use Rattle.ix_sign.specs.Shown.{shown}
use Rattle.ix_errors.proofs.Listed.{assigns_are}
use Rattle.ix_errors.proofs.op_errors.push_assign_errors.Goals as goal

pub returns : goal.returns
returns c =
    let method = c.args.within.now in
    let store = stored c.args.store.now in
    let old = c.args.out.now.items in
    let new = c.push_unproved.new.out.items in
    let r = c.push_unproved.result in
    let name = c.in-Some.variable.name in
    let claims = c.in-Some.variable.claims.now in
    let place = part c.args.done.now 1 in
    let fails = not_proved store (own_path method) (Slot c.args.source) in
    let placed : OnOk r (new ≡ old ++ refusals fails 4 place c.subject_of.result 0 claims) =
    subst (λ p. OnOk r (new ≡ old ++ refusals fails 4 p c.subject_of.result 0 claims)) c.part.ensures c.push_unproved.ensures in
    let added : OnOk r (new ≡ old ++ refusals fails 4 place (subject_of c.args.number name) 0 claims) =
    subst (λ s. OnOk r (new ≡ old ++ refusals fails 4 place s 0 claims)) c.subject_of.ensures placed in
    let found : variable_at method c.args.target c.args.done.now.span.from ≡ Some (name, claims) = sym c.variable_at.ensures.found ∙ ap (λ v. option_map shown v) c.in-Some.is in
    subst (λ v. OnOk r (AddsExactly (AssignClaim method c.args.number c.args.source place v store) old new)) (sym found)
    (ok_adds (AssignClaim method c.args.number c.args.source place (Some (name, claims)) store) old new (refusals fails 4 place (subject_of c.args.number name) 0 claims) r added
    (assigns_are store method c.args.number c.args.source place name claims))
