use Rattle.std.proofs.Common.{rules}
use Rattle.std.proofs.lemmas.List.Sorted.{answers_always}
use Rattle.ix_errors.specs.declared.ranked.Ranked.{Ranked}
use Rattle.ix_errors.specs.FullKey.{full_key}
use Rattle.ix_errors.proofs.FullKeys.{full_cmp}
use Rattle.ix_errors.proofs.InOrder.{least_moved, once_moved, ordered_of}
use Rattle.ix_errors.proofs.list.sort.Goals as goal

pub returns-clause-least : goal.returns-clause-least
returns-clause-least c =
    least_moved c.args.found.now.items c.keep_least.new.found.items c.sort_by_key.new.self.items c.in_ok-sort_by_key.ensures.permutation c.in_ok-keep_least.ensures.least

pub returns-clause-ordered : goal.returns-clause-ordered
unfolding full_cmp
returns-clause-ordered c =
    ordered_of c.sort_by_key.new.self.items
    (once_moved c.keep_least.new.found.items c.sort_by_key.new.self.items c.in_ok-sort_by_key.ensures.permutation c.in_ok-keep_least.ensures.once)
    (c.in_ok-sort_by_key.ensures.sorted (λ (f : Ranked). full_key f.error f.rank) (answers_always _ _ _ (λ f a r g h. search rules)))
