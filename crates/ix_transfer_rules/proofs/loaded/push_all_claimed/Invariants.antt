use Rattle.std.proofs.Common.{◌≡◌, ◌++◌, drop}
use Rattle.ix_facts.specs.Closure.{kept}
use Rattle.ix_facts.specs.AfterOperation as after
use Rattle.ix_transfer_rules.proofs.loaded.push_all_claimed.Given as goal

abbrev pub invariant-loop-claim : goal.invariant-loop-claim
invariant-loop-claim l = l.out.items ++ kept (after.loaded_facts l.t (drop l.claim-index l.claims)) ≡ l.fn.out.items ++ kept (after.loaded_facts l.t l.claims)
