use Rattle.std.proofs.Common.{subst, sym, ◌∙◌}
use Rattle.ix_fact_table.specs.Saturated.{AreListed}
use Rattle.ix_fact_table.proofs.ListedArrays.{are_listed}
use Rattle.ix_fact_table.proofs.listed.listed_arrays.Goals as goal

pub returns : goal.returns
returns c = subst (AreListed c.args.facts.now) (sym (c.into_paths.ensures ∙ c.in_ok-arrays.ensures)) (are_listed c.args.facts.now)
