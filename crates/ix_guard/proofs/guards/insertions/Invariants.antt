use Rattle.std.proofs.Common.{◌≡◌, ◌++◌, drop}
use Rattle.ix_guard.specs.Guards as spec
use Rattle.ix_guard.specs.Shown.{site_of}
use Rattle.ix_guard.proofs.guards.insertions.Given as goal

abbrev pub invariant-loop-class : goal.invariant-loop-class
invariant-loop-class l = l.out.items ++ spec.insertions (site_of l.site) (record { classes = drop l.class-index l.unit.classes }) ≡ spec.insertions (site_of l.site) l.unit
