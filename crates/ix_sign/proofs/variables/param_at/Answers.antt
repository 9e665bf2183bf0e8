use Rattle.std.proofs.Common.{sym, ◌∙◌}
use Rattle.ix_sign.proofs.AfterRules.{param_next}
use Rattle.ix_sign.proofs.variables.param_at.Goals as goal

pub loop-number-preserved : goal.loop-number-preserved
loop-number-preserved c =
    sym (param_next c.args.method.now c.args.slot c.loop-number.number c.loop-number.number c.as_slice-params.result.now c.loop-number-test.true (sym c.is_param.ensures ∙ c.if-is_param.false)) ∙ c.loop-number.invariant
