use Rattle.std.proofs.Common.{◌≡◌, ◌++◌, drop}
use Rattle.ix_annot.specs.Expansion as spec
use Rattle.ix_annot.proofs.expansion.push_posts.Given as goal

abbrev pub invariant-loop-claim : goal.invariant-loop-claim
invariant-loop-claim l =
    l.posts ++ spec.posts_on l.when (drop l.claim-index l.claims) l.on ≡ l.initial.posts ++ spec.posts_on l.initial.when l.initial.claims l.initial.on
