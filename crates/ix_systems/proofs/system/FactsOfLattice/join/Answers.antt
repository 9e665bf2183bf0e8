use Rattle.ix_systems.specs.KindLaws.{is_join}
use Rattle.ix_systems.proofs.system.FactsOfLattice.join.Goals as goal

pub returns : goal.returns
returns g c = record { least_above = is_join c.args.self.now c.args.other.now _ c.in_ok-table.ensures.common }
