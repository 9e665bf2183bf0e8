use Rattle.std.proofs.Common.{subst}
use Rattle.std.specs.Prelude.{IfOk}
use Rattle.ix_facts.specs.Systems.{IsTable}
use Rattle.ix_facts.proofs.SystemLaws.{of_any}
use Rattle.ix_fact_table.specs.FactTables.{facts_of}
use Rattle.ix_store.proofs.given.table_of.Goals as goal

pub returns : goal.returns
returns c = record { table = subst (λ l. IfOk c.of_facts.result (λ table. IsTable l (facts_of table))) (of_any c.args.facts.now) c.of_facts.ensures.table }
