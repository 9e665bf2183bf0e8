use Rattle.std.proofs.Common.{refl}
use Rattle.ix_text.proofs.Walked.{next_or, none_left}
use Rattle.ix_signatures.specs.Naming.{path_by}
use Rattle.ix_signatures.specs.Signs.{posts_facts}
use Rattle.ix_signatures.proofs.SmallLeft.{posts_left}
use Rattle.ix_signatures.proofs.posts.push_posts.Goals as goal

pub returns : goal.returns
returns c = none_left (λ _. posts_facts (path_by c.args.naming.now) c.args.wanted) c.args.posts.now c.loop-post.post-index _ _ c.loop-post-test.false refl c.loop-post.invariant.0

pub loop-post-preserved : goal.loop-post-preserved
loop-post-preserved c =
    let posts = c.args.posts.now in
    let k = c.loop-post.post-index in (
      next_or (λ _. posts_facts (path_by c.args.naming.now) c.args.wanted) posts k _ _ _ _ _ c.loop-post-test.true (λ rest. refl) c.in_ok-push_post.ensures c.loop-post.invariant.0,
      posts_left posts k c.loop-post.invariant.1,
    )
