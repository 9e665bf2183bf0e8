use Rattle.std.proofs.Common.{◌≡◌, drop}
use Rattle.std.specs.Prelude.{IfSome}
use Rattle.std.specs.Int.{int_max}
use Rattle.ix_facts.specs.Bounds as spec
use Rattle.ix_facts.specs.Small.{IsBound}
use Rattle.ix_bounds.proofs.upper.greatest_upper_by.Given as goal

abbrev pub invariant-loop-fact : goal.invariant-loop-fact
invariant-loop-fact g l = record {
  bound : spec.best int_max l.bound (spec.greatest (spec.upper_by (g.G.Groups.all l.facts) l.p l.a l.offset) (drop l.fact-index l.on_p)) ≡ spec.greatest (spec.upper_by (g.G.Groups.all l.facts) l.p l.a l.offset) l.on_p;
  small : IfSome l.bound IsBound;
}
