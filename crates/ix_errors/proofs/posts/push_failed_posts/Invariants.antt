use Rattle.std.proofs.Common.{◌≡◌, ◌++◌, drop}
use Rattle.ix_store.specs.StoredFacts.{stored}
use Rattle.ix_signatures.specs.Naming.{AreSmallPosts}
use Rattle.ix_errors.specs.Refusals.{post_refusals}
use Rattle.ix_errors.proofs.posts.push_failed_posts.Given as goal

abbrev pub invariant-loop-rank : goal.invariant-loop-rank
invariant-loop-rank l =
    (l.out.items ++ post_refusals (stored l.store) l.method l.number l.value l.known l.span l.rank (drop l.rank l.posts) ≡ l.fn.out.items ++ post_refusals (stored l.store) l.method l.number l.value l.known l.span 0 l.posts)
    × AreSmallPosts (drop l.rank l.posts)
