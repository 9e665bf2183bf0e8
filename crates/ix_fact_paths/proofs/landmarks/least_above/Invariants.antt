use Rattle.std.proofs.Common.{◌≡◌, drop}
use Rattle.std.specs.Prelude.{IfSome}
use Rattle.std.specs.Int.{int_min}
use Rattle.ix_num.specs.Ints.{IsInt}
use Rattle.ix_facts.specs.Bounds.{best}
use Rattle.ix_facts.specs.Round.{mark_above}
use Rattle.ix_fact_paths.proofs.landmarks.least_above.Given as goal

abbrev pub invariant-loop-mark : goal.invariant-loop-mark
invariant-loop-mark l = record {
  mark : best int_min l.found (mark_above (drop l.mark-index l.marks) l.n) ≡ mark_above l.marks l.n;
  int : IfSome l.found IsInt;
}
