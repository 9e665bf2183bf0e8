use Rattle.std.proofs.Common.{◌≡◌, drop}
use Rattle.ix_facts.specs.Bounds as spec
use Rattle.ix_facts.specs.Small.{IsLimit}
use Rattle.ix_bounds.proofs.limits.lower_among.Given as goal

abbrev pub invariant-loop-fact : goal.invariant-loop-fact
invariant-loop-fact g l = record {
  bound : spec.at_least l.bound (spec.greatest (spec.lower_by (g.G.Groups.all l.facts) l.p) (drop l.fact-index l.on_p)) ≡ spec.at_least (spec.range_low (g.G.Groups.all l.facts) l.p) (spec.greatest (spec.lower_by (g.G.Groups.all l.facts) l.p) l.on_p);
  small : IsLimit l.bound;
}
