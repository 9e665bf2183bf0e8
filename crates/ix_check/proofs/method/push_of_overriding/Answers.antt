use Rattle.std.proofs.Common.{◌<◌, ◌⊎◌, length, sym, subst}
use Rattle.std.proofs.lemmas.Result.{on_ok_weaker}
use Rattle.ix_core.specs.declared.program.Method.{Method}
use Rattle.ix_sign.specs.RuleErrors.{OverridesBy}
use Rattle.ix_errors.specs.Exactly.{AddsExactly}
use Rattle.ix_signatures.specs.Naming.{HasSmallNames}
use Rattle.ix_signatures.specs.SignErrors.{OverrideParameter, OverrideResult, OverrideEffect}
use Rattle.ix_check.proofs.Added.{method_is}
use Rattle.ix_check.proofs.method.push_of_overriding.Goals as goal

pub push_override_errors-requires-clause-upper : goal.push_override_errors-requires-clause-upper
push_override_errors-requires-clause-upper c =
    let within : c.in-Some.over < length c.as_slice.result.now = subst (λ ms. c.in-Some.over < length ms) (sym c.as_slice.ensures) (c.requires.upper c.in-Some.over c.in-Some.is) in
    subst HasSmallNames (method_is c.args.program.now c.in-Some.over c.as_slice.result.now c.index-as_slice-over.result c.as_slice.ensures within c.index-as_slice-over.is) (c.requires.program.methods c.in-Some.over)

pub returns : goal.returns
returns c =
    let program = c.args.program.now in
    let method = c.args.within.now in
    let within : c.in-Some.over < length c.as_slice.result.now = subst (λ ms. c.in-Some.over < length ms) (sym c.as_slice.ensures) (c.requires.upper c.in-Some.over c.in-Some.is) in
    let upper = method_is program c.in-Some.over c.as_slice.result.now c.index-as_slice-over.result c.as_slice.ensures within c.index-as_slice-over.is in
    on_ok_weaker c.push_override_errors.result
    (λ adds. subst (λ o. AddsExactly (OverridesBy program method c.args.number o) c.args.out.now.items c.push_override_errors.new.out.items) (sym c.in-Some.is)
    (subst (λ (m : Method). AddsExactly (λ error rank. OverrideParameter method m c.args.number error rank ⊎ (OverrideResult program method m c.in-Some.over error rank ⊎ OverrideEffect method m error rank))
    c.args.out.now.items c.push_override_errors.new.out.items) (sym upper) adds))
    c.push_override_errors.ensures.errors
