use Rattle.std.proofs.Common.{◌≡◌, drop}
use Rattle.ix_core.specs.Posts as core
use Rattle.ix_lower.proofs.post.some_conditional.Given as goal

abbrev pub invariant-loop-post : goal.invariant-loop-post
invariant-loop-post l = core.some_conditional l.posts ≡ core.some_conditional (drop l.post-index l.posts)
