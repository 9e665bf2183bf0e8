use Rattle.std.proofs.Common.{rules, ◌≡◌, ◌∙◌, sym, ap, true, false, ◌++◌, ◌∷◌, []}
use Rattle.ix_core.specs.Posts.{same_post}
use Rattle.ix_meaning.specs.Annotated.{distinct_posts}
use Rattle.ix_class_members.specs.Seen.{seen_post, unseen_posts}
use Rattle.ix_class_members.proofs.EachOnce.{met_again, met_first, same_posts}
use Rattle.ix_class_members.proofs.claims.add_post_once.Goals as goal

pub returns-then-is_among_posts : goal.returns-then-is_among_posts
returns-then-is_among_posts c =
    let met : seen_post c.args.each.now c.args.post.now ≡ true = search rules in
    λ posts. ap (λ l. c.args.each.now ++ l) (sym (met_again same_post same_posts c.args.each.now c.args.post.now (distinct_posts posts) met))

pub returns : goal.returns
returns c =
    let new : seen_post c.args.each.now c.args.post.now ≡ false = search rules in
    let pushed : c.push.new.self ≡ c.args.each.now ++ c.args.post.now ∷ [] = search rules in
    λ posts. ap (λ l. l ++ unseen_posts l (distinct_posts posts)) pushed ∙ met_first same_post c.args.each.now c.args.post.now (distinct_posts posts) new
