use Rattle.std.proofs.Common.{sym, ◌∙◌}
use Rattle.ix_bounds.proofs.BoundSteps.{less_of_length}
use Rattle.ix_bounds.proofs.stored.length_less_by.Goals as goal

pub returns-then-is_same_path-clause-bound : goal.returns-then-is_same_path-clause-bound
returns-then-is_same_path-clause-bound g c =
    less_of_length (g.G.Groups.all c.args.facts.now) c.args.p.now c.args.fact.now c.args.q.now c.in-IsLen.r c.in-IsLen.a c.below_length.result c.in-IsLen.is
    (sym c.is_same_path.ensures ∙ c.if-is_same_path.true) c.below_length.ensures.bound
