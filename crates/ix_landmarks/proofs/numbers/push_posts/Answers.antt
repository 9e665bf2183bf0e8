use Rattle.std.proofs.Common.{refl}
use Rattle.ix_facts.specs.MethodLandmarks.{posts_numbers}
use Rattle.ix_text.proofs.Walked.{next_or}
use Rattle.ix_landmarks.proofs.numbers.push_posts.Goals as goal

pub loop-post-preserved : goal.loop-post-preserved
loop-post-preserved c =
    next_or (λ _. posts_numbers) c.args.posts.now c.loop-post.post-index _ _ _ _ _ c.loop-post-test.true (λ rest. refl) c.in_ok-push_claim.ensures c.loop-post.invariant
