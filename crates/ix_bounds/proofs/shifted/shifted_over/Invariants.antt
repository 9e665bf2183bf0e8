use Rattle.std.proofs.Common.{◌≡◌, drop}
use Rattle.std.specs.Prelude.{IfSome}
use Rattle.std.specs.Int.{int_max}
use Rattle.ix_facts.specs.Bounds as spec
use Rattle.ix_facts.specs.Exact.{each}
use Rattle.ix_facts.specs.Small.{IsLimit}
use Rattle.ix_bounds.specs.OnArrays.{alike_on}
use Rattle.ix_bounds.proofs.shifted.shifted_over.Given as goal

abbrev pub invariant-loop-fact : goal.invariant-loop-fact
invariant-loop-fact g l = record {
  bound : spec.best int_max l.bound (spec.greatest (spec.shifted_by (g.G.Groups.all l.facts) l.p l.a l.offset) (each (alike_on (g.G.Groups.group l.facts) l.a) (drop l.fact-index l.on_a))) ≡ spec.best int_max l.fn.first (spec.greatest (spec.shifted_by (g.G.Groups.all l.facts) l.p l.a l.offset) (each (alike_on (g.G.Groups.group l.facts) l.a) l.on_a));
  counted : spec.best int_max l.bound (spec.greatest (spec.shifted_by (g.G.Groups.all l.facts) l.p l.a l.offset) (g.G.Groups.group l.facts l.a)) ≡ l.bound;
  small : IfSome l.bound IsLimit;
}
