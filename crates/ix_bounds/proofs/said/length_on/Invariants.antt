use Rattle.std.proofs.Common.{◌≡◌, drop}
use Rattle.ix_facts.specs.Assume.{has, is_length}
use Rattle.ix_bounds.proofs.said.length_on.Given as goal

abbrev pub invariant-loop-fact : goal.invariant-loop-fact
invariant-loop-fact l = has (is_length l.p l.a) (drop l.fact-index l.on_p) ≡ has (is_length l.p l.a) l.on_p
