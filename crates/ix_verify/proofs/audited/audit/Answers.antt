use Rattle.std.proofs.Common.{rules, ◌≡◌, ◌<◌, ℕ, None, Some, length, map, ap, subst, ◌∙◌}
use Rattle.std.proofs.lemmas.Result.{IfOk-weaker}
use Rattle.std.specs.Prelude.{IfNone}
use Rattle.ix_core.specs.declared.error.Error.{Error}
use Rattle.ix_store.specs.StoredFacts.{stored}
use Rattle.ix_soundness.specs.Sound.{HasNoErrors}
use Rattle.ix_verify.specs.AtLabels.{IsErrorAt, IsFirstFailing}
use Rattle.ix_verify.specs.Audited.{labels_of}
use Rattle.ix_verify.specs.Walking.{AddsTo}
use Rattle.ix_verify.proofs.Programs.{mapped_at, none_of, goes, fails_at, ends}
use Rattle.ix_verify.proofs.audited.audit.Goals as goal

pub returns-in-Some : goal.returns-in-Some
returns-in-Some c =
    let program = c.args.program.now in
    let profile = c.args.profile in
    let labels = map (map stored) c.args.labels.now in
    let number = c.loop-number.number in
    let own : map stored c.labels_of-labels.result.now ≡ labels_of labels number = ap (map stored) c.labels_of-labels.ensures ∙ mapped_at stored c.args.labels.now number in
    let within : number < length program.methods = search rules in
    let first = subst (λ ls. IsFirstFailing program profile number ls c.in_ok-failed.failed) own c.in_ok-failed.ensures.first in
    fails_at program profile labels number c.in-Some.at c.loop-number.found.items within c.loop-number.invariant (subst (IsFirstFailing program profile number (labels_of labels number)) c.in-Some.is first)

pub loop-number-preserved : goal.loop-number-preserved
loop-number-preserved c =
    let program = c.args.program.now in
    let profile = c.args.profile in
    let labels = map (map stored) c.args.labels.now in
    let number = c.loop-number.number in
    let own : map stored c.labels_of-labels.result.now ≡ labels_of labels number = ap (map stored) c.labels_of-labels.ensures ∙ mapped_at stored c.args.labels.now number in
    let none = none_of c.in_ok-failed.failed c.in_default.not-Some in
    let first = subst (λ ls. IsFirstFailing program profile number ls c.in_ok-failed.failed) own c.in_ok-failed.ensures.first in
    let adds = subst (λ ls. AddsTo (IsErrorAt program profile number ls) c.loop-number.found.items c.audit_method.new.out.items) own c.in_ok-failed.ensures.errors in
    let sound = subst (λ ls. IfNone c.in_ok-failed.failed (((error : Error) (rank : ℕ) → IsErrorAt program profile number ls error rank → ⊥) → HasNoErrors program profile number)) own c.in_ok-failed.ensures.none in
    goes program profile labels number c.loop-number.found.items c.audit_method.new.out.items c.loop-number.invariant (subst (IsFirstFailing program profile number (labels_of labels number)) none first) adds
    (subst (λ o. IfNone o (((error : Error) (rank : ℕ) → IsErrorAt program profile number (labels_of labels number) error rank → ⊥) → HasNoErrors program profile number)) none sound)

pub returns : goal.returns
returns c =
    let all : c.loop-number.number ≡ length c.args.program.now.methods = search rules in
    IfOk-weaker c.answer.result _ _ (λ audit is. ends c.args.program.now c.args.profile (map (map stored) c.args.labels.now) c.loop-number.number c.loop-number.found.items audit all c.loop-number.invariant is) c.answer.ensures

pub audit_method-requires-clause-upper : goal.audit_method-requires-clause-upper
audit_method-requires-clause-upper c =
    let number = c.loop-number.number in
    let within : number < length c.args.program.now.methods = search rules in
    c.requires.can.upper number within
