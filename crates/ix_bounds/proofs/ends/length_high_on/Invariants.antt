use Rattle.std.proofs.Common.{◌≡◌, drop}
use Rattle.ix_facts.specs.Bounds as spec
use Rattle.ix_facts.specs.Small.{IsEnd}
use Rattle.ix_bounds.proofs.ends.length_high_on.Given as goal

abbrev pub invariant-loop-fact : goal.invariant-loop-fact
invariant-loop-fact l = record {
  bound : spec.at_most l.bound (spec.least (spec.length_high_by l.p) (drop l.fact-index l.on_p)) ≡ spec.length_high l.on_p l.p;
  small : IsEnd l.bound;
}
