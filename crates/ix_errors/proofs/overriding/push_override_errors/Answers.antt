use Rattle.std.proofs.Common.{◌⊎◌}
use Rattle.ix_signatures.specs.SignErrors.{OverrideParameter, OverrideResult, OverrideEffect}
use Rattle.ix_errors.proofs.Refused.{ok_adds_both}
use Rattle.ix_errors.proofs.overriding.push_override_errors.Goals as goal

pub returns : goal.returns
returns c =
    let program = c.args.program.now in
    let method = c.args.method.now in
    let upper = c.args.upper.now in
    let old = c.args.out.now.items in
    let first = c.push_param_errors.new.out.items in
    let second = c.push_result_errors.new.out.items in
    let new = c.push_override_effect.new.out.items in
    let result = c.push_override_effect.result in
    record {
      errors = ok_adds_both (OverrideParameter method upper c.args.own) (λ error rank. OverrideResult program method upper c.args.over error rank ⊎ OverrideEffect method upper error rank) old first new result
          c.in_ok-push_param_errors.ensures.errors
          (ok_adds_both (OverrideResult program method upper c.args.over) (OverrideEffect method upper) first second new result c.in_ok-push_result_errors.ensures.errors c.push_override_effect.ensures.errors);
    }
