use Rattle.std.proofs.Common.{◌≡◌, ◌-◌, Option, List, ◌∷◌, length, take, drop, sym, ap, ◌∙◌}
use Rattle.ix_core.specs.declared.claim.Name.{Name}
use Rattle.ix_annot.specs.declared.texts.Naming.{Naming}
use Rattle.ix_annot.specs.Arguments.{preceded_by}
use Rattle.ix_annot.specs.Expansion.{posts_on, posts_of_first, posts_of}
use Rattle.ix_annot.proofs.WithOthers.{next_some, no_more, is_empty, front_of}
use Rattle.ix_annot.proofs.expansion.posts_of.Goals as goal

pub loop-on-preserved : goal.loop-on-preserved
loop-on-preserved g c =
    let names = g.N.Names.names c.args.names.now in
    let when = c.args.when in
    let claims = c.args.claims.now in
    let on = c.loop-on.on.now in
    let left : List Naming = take (length on - 1) (drop 1 on) in
    let cut : on ≡ c.one-item.result ∷ left = front_of on c.one-item.result c.in-len1-up.len_at_least c.one-item.is in
    next_some c.loop-on.posts (posts_on when claims c.in-Some.name) c.push_posts.new.posts (posts_of names when claims left) (posts_of names when claims c.args.on.now)
    c.in_ok-push_posts.ensures
    (ap (λ (found : Option Name). preceded_by c.loop-on.posts (posts_of_first when claims found (posts_of names when claims left))) c.in-Some.ensures
    ∙ (ap (λ (these : List Naming). preceded_by c.loop-on.posts (posts_of names when claims these)) (sym cut) ∙ c.loop-on.invariant))

pub returns : goal.returns
returns g c =
    let names = g.N.Names.names c.args.names.now in
    no_more c.loop-on.posts (posts_of names c.args.when c.args.claims.now c.loop-on.on.now) (posts_of names c.args.when c.args.claims.now c.args.on.now)
    (ap (posts_of names c.args.when c.args.claims.now) (is_empty c.loop-on.on.now c.in_default.len_below)) c.loop-on.invariant
