use Rattle.std.proofs.Common.{◌≡◌, drop}
use Rattle.std.specs.Prelude.{IfSome}
use Rattle.std.specs.Int.{int_min}
use Rattle.ix_facts.specs.Bounds as spec
use Rattle.ix_facts.specs.Small.{IsEnd}
use Rattle.ix_bounds.proofs.stored.fact_less_among.Given as goal

abbrev pub invariant-loop-fact : goal.invariant-loop-fact
invariant-loop-fact l = record {
  bound : spec.best int_min l.bound (spec.least (spec.fact_less_by l.p l.q) (drop l.fact-index l.facts)) ≡ spec.least (spec.fact_less_by l.p l.q) l.facts;
  small : IfSome l.bound IsEnd;
}
