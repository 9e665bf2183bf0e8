use Rattle.std.specs.Prelude.{pos}
use Rattle.std.proofs.Common.{sym, ◌∙◌}
use Rattle.std.proofs.lemmas.Result.{IfOk-weaker}
use Rattle.ix_core.specs.declared.fact.Fact.TheVariants.{Less}
use Rattle.ix_test_facts.proofs.own.with_own_below.Goals as goal

pub returns : goal.returns
returns c = IfOk-weaker c.with_own.result _ _ (λ all is. is ∙ sym (c.before_greater.ensures.own (Less c.args.p.now c.args.p.now (pos 1)))) c.with_own.ensures
