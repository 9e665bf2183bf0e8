use Rattle.std.proofs.Common.{◌≡◌, drop}
use Rattle.ix_fact_table.specs.Links.{first_of}
use Rattle.ix_fact_table.proofs.links.first.Given as goal

abbrev pub invariant-loop-entry : goal.invariant-loop-entry
invariant-loop-entry l = first_of (drop l.entry-index l.firsts) l.p ≡ first_of l.firsts l.p
