use Rattle.std.proofs.Common.{◌≡◌, drop}
use Rattle.ix_facts.specs.Bounds as spec
use Rattle.ix_facts.specs.Small.{IsEnd}
use Rattle.ix_bounds.proofs.ends.length_low_on.Given as goal

abbrev pub invariant-loop-fact : goal.invariant-loop-fact
invariant-loop-fact l = record {
  bound : spec.at_least l.bound (spec.greatest (spec.length_low_by l.p) (drop l.fact-index l.on_p)) ≡ spec.length_low l.on_p l.p;
  small : IsEnd l.bound;
}
