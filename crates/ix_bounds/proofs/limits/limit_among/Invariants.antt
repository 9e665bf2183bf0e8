use Rattle.std.proofs.Common.{◌≡◌, drop}
use Rattle.ix_facts.specs.Bounds as spec
use Rattle.ix_facts.specs.Small.{IsLimit}
use Rattle.ix_bounds.proofs.limits.limit_among.Given as goal

abbrev pub invariant-loop-fact : goal.invariant-loop-fact
invariant-loop-fact g l = record {
  bound : spec.at_most l.bound (spec.least (spec.limit_by (g.G.Groups.all l.facts) l.p) (drop l.fact-index l.on_p)) ≡ spec.at_most (spec.range_high (g.G.Groups.all l.facts) l.p) (spec.least (spec.limit_by (g.G.Groups.all l.facts) l.p) l.on_p);
  small : IsLimit l.bound;
}
