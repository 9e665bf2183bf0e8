use Rattle.std.proofs.Common.{ap, ◌∙◌}
use Rattle.ix_fact_table.specs.FactTables.{facts_of}
use Rattle.ix_store.specs.EmptyRanges.{some_empty}
use Rattle.ix_store.proofs.StoresOf.{ranges_alone}
use Rattle.ix_store.proofs.closed.has_empty.Goals as goal

pub returns : goal.returns
returns c = c.some_are_empty.ensures ∙ (ap some_empty c.ranges-2.ensures.ranges ∙ ranges_alone (facts_of c.args.table.now))
