use Rattle.std.proofs.Common.{◌≡◌, ◌++◌, ◌≤◌, drop, length}
use Rattle.std.specs.Vec.{vec_len, vec_capacity}
use Rattle.ix_fact_table.specs.Listed.{labels_of}
use Rattle.ix_fact_table.proofs.labels.labelled.Given as goal

abbrev pub invariant-loop-a : goal.invariant-loop-a
invariant-loop-a l = record {
  labels : l.labels.items ++ labels_of l.classes (drop l.a-index l.arrays) ≡ labels_of l.classes l.arrays;
  short : vec_len l.labels ≡ l.a-index;
  room : length l.arrays ≤ vec_capacity l.labels;
}
