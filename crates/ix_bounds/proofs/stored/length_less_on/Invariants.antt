use Rattle.std.proofs.Common.{◌≡◌, drop}
use Rattle.std.specs.Prelude.{IfSome}
use Rattle.std.specs.Int.{int_min}
use Rattle.ix_facts.specs.Bounds as spec
use Rattle.ix_facts.specs.Small.{IsEnd}
use Rattle.ix_bounds.specs.Lengths.{length_less_by}
use Rattle.ix_bounds.proofs.stored.length_less_on.Given as goal

abbrev pub invariant-loop-fact : goal.invariant-loop-fact
invariant-loop-fact g l = record {
  bound : spec.best int_min l.bound (spec.least (length_less_by (g.G.Groups.all l.facts) l.p l.q) (drop l.fact-index l.lengths)) ≡ spec.least (length_less_by (g.G.Groups.all l.facts) l.p l.q) l.lengths;
  small : IfSome l.bound IsEnd;
}
