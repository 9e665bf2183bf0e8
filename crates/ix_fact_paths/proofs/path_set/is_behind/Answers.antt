use Rattle.std.proofs.Common.{sym, ◌∙◌}
use Rattle.ix_fact_paths.proofs.Places.{behind_last}
use Rattle.ix_fact_paths.proofs.path_set.is_behind.Goals as goal

pub returns-in-Some : goal.returns-in-Some
returns-in-Some c = λ t. behind_last c.args.paths.now c.args.p.now c.in-Some.last.now c.requires.rising (sym c.in-Some.ensures.value) (sym c.is_before.ensures ∙ t)
