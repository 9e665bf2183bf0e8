use Rattle.std.proofs.Common.{◌≡◌, length}
use Rattle.std.specs.List.{list_any}
use Rattle.ix_annot.specs.Expansion as spec
use Rattle.ix_annot.proofs.expansion.some_inherited.Given as goal

abbrev pub invariant-loop-written : goal.invariant-loop-written
invariant-loop-written g l = list_any (spec.names_inherited (g.N.Names.names l.names)) l.written ≡ list_any (spec.names_inherited (g.N.Names.names l.names)) l.initial.written

abbrev pub decreases-loop-written : goal.decreases-loop-written
decreases-loop-written g l = length l.written
