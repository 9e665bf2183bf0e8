use Rattle.std.proofs.Common.{◌≡◌, drop}
use Rattle.ix_fact_table.specs.Classes.{root_of}
use Rattle.ix_fact_table.proofs.classes.found.Given as goal

abbrev pub invariant-loop-entry : goal.invariant-loop-entry
invariant-loop-entry l = root_of (drop l.entry-index l.roots) l.a ≡ root_of l.roots l.a
