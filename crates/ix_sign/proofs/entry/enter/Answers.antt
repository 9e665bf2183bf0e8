use Rattle.std.proofs.Common.{sym, subst, ◌∙◌}
use Rattle.ix_facts.specs.Systems.{HaveClasses}
use Rattle.ix_signatures.proofs.SignClasses.{entry_have}
use Rattle.ix_sign.proofs.entry.enter.Goals as goal

pub of_facts-requires : goal.of_facts-requires
of_facts-requires c = record { classes = subst HaveClasses (sym (c.deref.ensures.value ∙ c.in_ok-facts.ensures)) (entry_have c.args.program.now c.args.method.now) }
