use Rattle.std.proofs.Common.{◌≡◌, drop}
use Rattle.std.specs.Prelude.{IfSome}
use Rattle.std.specs.Int.{int_max}
use Rattle.ix_num.specs.Ints.{IsInt}
use Rattle.ix_facts.specs.Bounds as spec
use Rattle.ix_bounds.proofs.stored.stored_upper_on.Given as goal

abbrev pub invariant-loop-fact : goal.invariant-loop-fact
invariant-loop-fact g l = record {
  bound : spec.best int_max l.bound (spec.greatest (spec.stored_upper_by (g.G.Groups.all l.facts) l.p l.a l.offset) (drop l.fact-index l.on_p)) ≡ spec.greatest (spec.stored_upper_by (g.G.Groups.all l.facts) l.p l.a l.offset) l.on_p;
  small : IfSome l.bound IsInt;
}
