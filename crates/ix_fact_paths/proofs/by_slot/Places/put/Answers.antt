use Rattle.std.proofs.Common.{◌≡◌, ◌∷◌, ◌++◌, [], Bool, false, if◌then◌else◌, cond, nat_eq, get_or, ap, ◌∙◌}
use Rattle.std.proofs.lemmas.Result.{on_ok_weaker}
use Rattle.ix_text.proofs.Chained.{on_mapped}
use Rattle.ix_fact_paths.specs.ByPath.{is_near, near_place, facts_at, facts_in, about}
use Rattle.ix_fact_paths.proofs.Added.{near_adds, far_adds}
use Rattle.ix_fact_paths.proofs.by_slot.Places.put.Goals as goal

pub returns-in-Some : goal.returns-in-Some
returns-in-Some c =
    let p = c.args.p.now in
    let fact = c.args.fact.now in
    let old = c.self.inside.near.items in
    let new = c.put_near.new.near.items in
    let place : c.in-Some.place ≡ near_place p = c.in-Some.ensures.near.1 in
    on_ok_weaker c.put_near.result
    (λ put x.
    near_adds old new c.self.inside.others.items p fact c.in-Some.ensures.near.0 (λ at. put at ∙ ap (λ n. get_or old at [] ++ cond (nat_eq at n) (fact ∷ []) []) place) x
    ∙ ap (λ places. facts_at places x ++ facts_in (about x ((p, fact) ∷ []))) c.self.view_is)
    c.put_near.ensures

pub returns-in-None : goal.returns-in-None
returns-in-None c =
    let p = c.args.p.now in
    let fact = c.args.fact.now in
    let others = c.self.inside.others.items in
    let far : is_near p ≡ false = c.in-None.ensures.far in
    on_mapped c.push.result c.map_err.result _ c.map_err.ensures.variant
    (λ well x.
    ap (λ l. facts_at (c.self.inside.near.items, l) x) (c.push.ensures.items ∙ ap (λ (b : Bool). if b then others ++ (p, fact) ∷ [] else others) well)
    ∙ (far_adds c.self.inside.near.items others p fact far x ∙ ap (λ places. facts_at places x ++ facts_in (about x ((p, fact) ∷ []))) c.self.view_is))
