use Rattle.std.proofs.Common.{◌≡◌, ◌++◌, subst}
use Rattle.std.specs.Prelude.{OnOk}
use Rattle.ix_store.specs.StoredFacts.{stored}
use Rattle.ix_errors.specs.Refusals.{post_refusals}
use Rattle.ix_signatures.specs.SignErrors.{PostClaim, value_place}
use Rattle.ix_errors.proofs.Refused.{ok_adds}
use Rattle.ix_errors.proofs.PostsRefused.{posts_are}
use Rattle.ix_errors.proofs.posts.push_post_errors.Goals as goal

pub returns : goal.returns
returns c =
    let method = c.args.method.now in
    let store = stored c.args.store.now in
    let old = c.args.out.now.items in
    let new = c.push_failed_posts.new.out.items in
    let place = value_place method c.args.value c.args.span in
    record {
      errors = ok_adds (PostClaim method c.args.number c.args.value c.args.known c.args.span store) old new (post_refusals store method c.args.number c.args.value c.args.known place 0 method.posts) c.push_failed_posts.result
          (subst (λ p. OnOk c.push_failed_posts.result (new ≡ old ++ post_refusals store method c.args.number c.args.value c.args.known p 0 method.posts)) c.place_of-place.ensures c.push_failed_posts.ensures)
          (posts_are method c.args.number c.args.value c.args.known c.args.span store);
    }
