use Rattle.std.proofs.Common.{length, refl}
use Rattle.std.proofs.lemmas.Option.{slice_get_read}
use Rattle.ix_lattice.proofs.fact_map.FactMap.entry.Goals as goal

pub returns : goal.returns
returns g c =
    let entries = c.self.inside.entries.items in
    record { entry = rw (← c.self.view_is) (slice_get_read entries (length entries) c.args.k c.index.result.now refl (rw (← c.self.view_is) at c.requires.number) c.index.ensures) }
