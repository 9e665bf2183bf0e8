use Rattle.std.proofs.Common.{rules}
use Rattle.std.proofs.lemmas.Fn.{dedup_same}
use Rattle.std.proofs.lemmas.List.Sorted.{answers_always}
use Rattle.ix_errors.specs.declared.ranked.Ranked.{Ranked}
use Rattle.ix_errors.specs.FullKey.{full_key}
use Rattle.ix_errors.specs.Least.{AreLeast, AreOnce}
use Rattle.ix_errors.proofs.FullKeys.{full_cmp}
use Rattle.ix_errors.proofs.KeysApart.{full_eq}
use Rattle.ix_errors.proofs.LeastOfEach.{least_of_sorted, ranked_cmp, same_key}
use Rattle.ix_errors.proofs.list.keep_least.Goals as goal

kept : (c : goal.After-dedup_by_key) → AreLeast c.args.found.now.items c.dedup_by_key.new.self.items × AreOnce c.dedup_by_key.new.self.items
unfolding full_cmp full_eq ranked_cmp
kept c =
    least_of_sorted c.args.found.now.items c.sort_by_key.new.self.items c.dedup_by_key.new.self.items
    c.in_ok-sort_by_key.ensures.permutation
    (c.in_ok-sort_by_key.ensures.sorted (λ (f : Ranked). (full_key f.error 0, f.rank)) (answers_always _ _ _ (λ f a r g h. search rules)))
    (dedup_same _ same_key _ (λ x y b f x2 y2 k. search rules) _ _ c.dedup_by_key.ensures.filtered)

pub returns-clause-least : goal.returns-clause-least
returns-clause-least c = (kept c).0

pub returns-clause-once : goal.returns-clause-once
returns-clause-once c = (kept c).1
