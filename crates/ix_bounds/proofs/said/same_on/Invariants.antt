use Rattle.std.proofs.Common.{◌≡◌, drop}
use Rattle.ix_facts.specs.Bounds as spec
use Rattle.ix_bounds.proofs.said.same_on.Given as goal

abbrev pub invariant-loop-fact : goal.invariant-loop-fact
invariant-loop-fact l = spec.stored_same (drop l.fact-index l.on_a) l.a l.b ≡ spec.stored_same l.on_a l.a l.b
