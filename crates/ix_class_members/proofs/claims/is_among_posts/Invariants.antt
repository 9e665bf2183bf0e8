use Rattle.std.proofs.Common.{◌≡◌, drop}
use Rattle.ix_class_members.specs.Seen.{seen_post}
use Rattle.ix_class_members.proofs.claims.is_among_posts.Given as goal

abbrev pub invariant-loop-other : goal.invariant-loop-other
invariant-loop-other l = seen_post (drop l.other-index l.posts) l.post ≡ seen_post l.posts l.post
