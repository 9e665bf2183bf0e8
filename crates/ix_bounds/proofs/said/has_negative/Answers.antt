use Rattle.std.proofs.Common.{ap, ◌∙◌}
use Rattle.ix_facts.specs.Assume.{has, is_negative}
use Rattle.ix_bounds.proofs.Looks.{asks_negative, has_on}
use Rattle.ix_bounds.proofs.said.has_negative.Goals as goal

pub returns : goal.returns
returns g c =
    let f = c.args.facts.now in
    let p = c.args.p.now in
    let a = c.args.a.now in
    c.negative_on.ensures ∙ (ap (has (is_negative p a)) c.on_path.ensures.facts ∙ has_on p (is_negative p a) (g.G.Groups.group f p) (g.G.Groups.all f) (asks_negative p a) (g.met.G.Groups.named f p))
