use Rattle.std.proofs.Common.{◌≡◌, ◌++◌, drop}
use Rattle.ix_meaning.specs.Annotated.{distinct_posts}
use Rattle.ix_class_members.specs.Seen.{unseen_posts}
use Rattle.ix_class_members.proofs.claims.distinct_posts.Given as goal

abbrev pub invariant-loop-post : goal.invariant-loop-post
invariant-loop-post l = l.each ++ unseen_posts l.each (distinct_posts (drop l.post-index l.posts)) ≡ distinct_posts l.posts
