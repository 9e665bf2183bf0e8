use Rattle.std.proofs.Common.{◌≡◌, ◌++◌, drop}
use Rattle.ix_facts.specs.MethodLandmarks.{posts_numbers}
use Rattle.ix_landmarks.proofs.numbers.push_posts.Given as goal

abbrev pub invariant-loop-post : goal.invariant-loop-post
invariant-loop-post l = l.out.items ++ posts_numbers (drop l.post-index l.posts) ≡ l.fn.out.items ++ posts_numbers l.posts
