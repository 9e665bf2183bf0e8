use Rattle.std.proofs.Common.{sym, subst, ◌∙◌}
use Rattle.ix_facts.specs.Systems.{HaveClasses}
use Rattle.ix_errors.proofs.OverridesRefused.{called_have}
use Rattle.ix_errors.proofs.overriding.called.Goals as goal

pub of_facts-requires : goal.of_facts-requires
of_facts-requires c = record { classes = subst HaveClasses (sym (c.deref.ensures.value ∙ c.in_ok-facts.ensures)) (called_have c.args.upper.now) }
