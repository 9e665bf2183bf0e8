use Rattle.std.proofs.Common.{◌≡◌, drop}
use Rattle.ix_facts.specs.Assume.{has, is_search}
use Rattle.ix_bounds.proofs.said.search_on.Given as goal

abbrev pub invariant-loop-fact : goal.invariant-loop-fact
invariant-loop-fact l = has (is_search l.p l.a) (drop l.fact-index l.on_p) ≡ has (is_search l.p l.a) l.on_p
