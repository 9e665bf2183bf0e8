use Rattle.std.proofs.Common.{◌<◌, length, map, ap, sym, subst, ◌∙◌, ◌++◌}
use Rattle.std.specs.Option.{ForSome}
use Rattle.ix_core.specs.declared.program.Method.{Method}
use Rattle.ix_core.specs.Code.{block_code}
use Rattle.ix_store.specs.StoredFacts.{stored}
use Rattle.ix_sign.specs.RuleErrors.{OverridesBy}
use Rattle.ix_signatures.specs.Naming.{HasSmallNames}
use Rattle.ix_verify.specs.Walking.{AddsTo, SomewhereIn, Finds, IsLeastIn}
use Rattle.ix_verify.proofs.Methods.{method_is, first_failing, all_errors, none_sound}
use Rattle.ix_verify.proofs.method.audit_method.Goals as goal

pub returns-clause-first : goal.returns-clause-first
returns-clause-first c =
    let program = c.args.program.now in
    let within : c.args.number < length c.as_slice.result.now = subst (λ ms. c.args.number < length ms) (sym c.as_slice.ensures) c.requires.number in
    let is = method_is program c.args.number c.as_slice.result.now c.index-as_slice-number.result c.as_slice.ensures within c.index-as_slice-number.is in
    let failed = c.in_ok-findings.findings.failed.items in
    let errors = c.in_ok-findings.findings.errors.items in
    let finds = subst (λ (m : Method). Finds program m c.args.number c.args.profile (map stored c.args.labels.now) failed errors) (sym is) c.in_ok-findings.ensures in
    first_failing program c.args.profile c.args.number (map stored c.args.labels.now) failed errors finds c.least_of.result (subst (λ ns. IsLeastIn ns c.least_of.result) c.as_slice-3.ensures.value c.least_of.ensures)

pub returns-clause-errors : goal.returns-clause-errors
returns-clause-errors c =
    let program = c.args.program.now in
    let within : c.args.number < length c.as_slice.result.now = subst (λ ms. c.args.number < length ms) (sym c.as_slice.ensures) c.requires.number in
    let is = method_is program c.args.number c.as_slice.result.now c.index-as_slice-number.result c.as_slice.ensures within c.index-as_slice-number.is in
    let failed = c.in_ok-findings.findings.failed.items in
    let errors = c.in_ok-findings.findings.errors.items in
    let finds = subst (λ (m : Method). Finds program m c.args.number c.args.profile (map stored c.args.labels.now) failed errors) (sym is) c.in_ok-findings.ensures in
    all_errors program c.args.profile c.args.number (map stored c.args.labels.now) failed errors finds _ _ _ _ (c.in_ok-extend_from_slice.ensures.items ∙ ap (λ es. c.args.out.now.items ++ es) c.as_slice-2.ensures.value)
    (subst (λ (m : Method). AddsTo (OverridesBy program m c.args.number m.overrides) c.extend_from_slice.new.self.items c.push_of_overriding.new.out.items) (sym is) c.in_ok-push_of_overriding.ensures)
    (subst (λ (m : Method). AddsTo (SomewhereIn program m (block_code m.body)) c.push_of_overriding.new.out.items c.push_of_block.new.out.items) (sym is) c.in_ok-push_of_block.ensures)

pub returns-clause-none : goal.returns-clause-none
returns-clause-none c =
    let program = c.args.program.now in
    let within : c.args.number < length c.as_slice.result.now = subst (λ ms. c.args.number < length ms) (sym c.as_slice.ensures) c.requires.number in
    let is = method_is program c.args.number c.as_slice.result.now c.index-as_slice-number.result c.as_slice.ensures within c.index-as_slice-number.is in
    let failed = c.in_ok-findings.findings.failed.items in
    let errors = c.in_ok-findings.findings.errors.items in
    let finds = subst (λ (m : Method). Finds program m c.args.number c.args.profile (map stored c.args.labels.now) failed errors) (sym is) c.in_ok-findings.ensures in
    none_sound program c.args.profile c.args.number (map stored c.args.labels.now) failed errors finds c.least_of.result (subst (λ ns. IsLeastIn ns c.least_of.result) c.as_slice-3.ensures.value c.least_of.ensures)

pub walk-requires : goal.walk-requires
walk-requires c =
    let within : c.args.number < length c.as_slice.result.now = subst (λ ms. c.args.number < length ms) (sym c.as_slice.ensures) c.requires.number in
    let is = method_is c.args.program.now c.args.number c.as_slice.result.now c.index-as_slice-number.result c.as_slice.ensures within c.index-as_slice-number.is in
    record { program = c.requires.program; method = subst HasSmallNames is (c.requires.program.methods c.args.number) }

pub push_of_overriding-requires : goal.push_of_overriding-requires
push_of_overriding-requires c =
    let program = c.args.program.now in
    let within : c.args.number < length c.as_slice.result.now = subst (λ ms. c.args.number < length ms) (sym c.as_slice.ensures) c.requires.number in
    let is = method_is program c.args.number c.as_slice.result.now c.index-as_slice-number.result c.as_slice.ensures within c.index-as_slice-number.is in
    record {
      method = subst HasSmallNames is (c.requires.program.methods c.args.number);
      upper = subst (λ (m : Method). ForSome m.overrides (λ over. over < length program.methods)) is c.requires.upper;
      program = c.requires.program;
    }
