use Rattle.std.proofs.Common.{ap, ◌∙◌}
use Rattle.ix_facts.specs.Assume.{has, is_length}
use Rattle.ix_bounds.proofs.Looks.{asks_length, has_on}
use Rattle.ix_bounds.proofs.said.has_length.Goals as goal

pub returns : goal.returns
returns g c =
    let f = c.args.facts.now in
    let p = c.args.p.now in
    let a = c.args.a.now in
    c.length_on.ensures ∙ (ap (has (is_length p a)) c.on_path.ensures.facts ∙ has_on p (is_length p a) (g.G.Groups.group f p) (g.G.Groups.all f) (asks_length p a) (g.met.G.Groups.named f p))
