use Rattle.std.proofs.Common.{◌≡◌, ◌≤◌, ◌-◌, take, length}
use Rattle.ix_outside.specs.Outside.{Took}
use Rattle.ix_outside.proofs.writing.write_all.Given as goal

abbrev pub invariant-loop-at : goal.invariant-loop-at
invariant-loop-at g l = record {
  within : l.at ≤ length l.text;
  taken : Took (take l.at l.text) (g.K.Sink.taken l.initial.out) (g.K.Sink.taken l.out);
  refused : g.K.Sink.refused l.out ≡ g.K.Sink.refused l.initial.out;
  faults : g.K.Sink.faults l.out ≡ g.K.Sink.faults l.initial.out;
}

abbrev pub decreases-loop-at : goal.decreases-loop-at
decreases-loop-at g l = length l.text - l.at
