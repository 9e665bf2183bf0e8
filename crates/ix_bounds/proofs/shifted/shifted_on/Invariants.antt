use Rattle.std.proofs.Common.{◌≡◌, drop}
use Rattle.std.specs.Prelude.{IfSome}
use Rattle.std.specs.Int.{int_max}
use Rattle.ix_facts.specs.Bounds as spec
use Rattle.ix_facts.specs.Small.{IsLimit}
use Rattle.ix_bounds.proofs.shifted.shifted_on.Given as goal

abbrev pub invariant-loop-fact : goal.invariant-loop-fact
invariant-loop-fact g l = record {
  bound : spec.best int_max l.bound (spec.greatest (spec.shifted_by (g.G.Groups.all l.facts) l.p l.a l.offset) (drop l.fact-index l.on_array)) ≡ spec.best int_max l.fn.first (spec.greatest (spec.shifted_by (g.G.Groups.all l.facts) l.p l.a l.offset) l.on_array);
  small : IfSome l.bound IsLimit;
}
