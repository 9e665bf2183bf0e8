use Rattle.std.specs.Prelude.{pos}
use Rattle.ix_core.specs.declared.fact.Path.TheVariants.{Slot}
use Rattle.ix_core.specs.declared.fact.Fact.TheVariants.{Rng}
use Rattle.ix_fact_table.specs.Entries.{in_first_order}
use Rattle.ix_fact_table.specs.FactTables.{facts_of}
use Rattle.ix_fact_table.proofs.KeySearches.{found_in}
use Rattle.ix_fact_table.proofs.fact_table.FactTable.get.Goals as goal

pub returns-clause-found : goal.returns-clause-found
returns-clause-found c =
    found_in c.as_slice-facts.result.now (facts_of c.args.self.now) c.in_first_order.result (in_first_order c.args.like.now) c.in_ok-place.place (Rng (Slot 0) (pos 0) (pos 0))
    c.as_slice-facts.ensures c.in_first_order.ensures c.in_ok-place.ensures.found
