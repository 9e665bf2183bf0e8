use Rattle.std.proofs.Common.{sym, subst, ◌∙◌}
use Rattle.ix_facts.specs.Systems.{HaveClasses}
use Rattle.ix_signatures.proofs.SignClasses.{params_have}
use Rattle.ix_errors.proofs.overriding.asked.Goals as goal

pub of_facts-requires : goal.of_facts-requires
of_facts-requires c = record { classes = subst HaveClasses (sym (c.deref.ensures.value ∙ c.in_ok-facts.ensures)) (params_have c.args.upper.now 0 c.args.upper.now.params) }
