use Rattle.std.proofs.Common.{◌≡◌, map, drop, ◌++◌}
use Rattle.ix_errors.specs.declared.ranked.Ranked.{Ranked}
use Rattle.ix_errors.proofs.list.without_ranks.Given as goal

abbrev pub invariant-loop-one : goal.invariant-loop-one
invariant-loop-one l = l.errors.items ++ map (λ (f : Ranked). f.error) (drop l.one-index l.found) ≡ map (λ (f : Ranked). f.error) l.found
