use Rattle.std.proofs.Common.{◌≡◌, ◌++◌, drop}
use Rattle.ix_signatures.specs.Naming.{path_by, AreSmallPosts}
use Rattle.ix_signatures.specs.Signs.{posts_facts}
use Rattle.ix_signatures.proofs.posts.push_posts.Given as goal

abbrev pub invariant-loop-post : goal.invariant-loop-post
invariant-loop-post l =
    (l.out.items ++ posts_facts (path_by l.naming) l.wanted (drop l.post-index l.posts) ≡ l.fn.out.items ++ posts_facts (path_by l.naming) l.wanted l.posts)
    × AreSmallPosts (drop l.post-index l.posts)
