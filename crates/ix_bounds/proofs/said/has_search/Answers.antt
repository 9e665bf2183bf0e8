use Rattle.std.proofs.Common.{ap, ◌∙◌}
use Rattle.ix_facts.specs.Assume.{has, is_search}
use Rattle.ix_bounds.proofs.Looks.{asks_search, has_on}
use Rattle.ix_bounds.proofs.said.has_search.Goals as goal

pub returns : goal.returns
returns g c =
    let f = c.args.facts.now in
    let p = c.args.p.now in
    let a = c.args.a.now in
    c.search_on.ensures ∙ (ap (has (is_search p a)) c.on_path.ensures.facts ∙ has_on p (is_search p a) (g.G.Groups.group f p) (g.G.Groups.all f) (asks_search p a) (g.met.G.Groups.named f p))
