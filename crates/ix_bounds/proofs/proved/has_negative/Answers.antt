use Rattle.std.proofs.Common.{sym, ◌∙◌}
use Rattle.ix_bounds.specs.HasOrders.{negative_in_orders}
use Rattle.ix_bounds.proofs.proved.has_negative.Goals as goal

pub returns : goal.returns
returns g c = c.negative.ensures.fact ∙ sym (negative_in_orders c.args.p.now c.args.a.now (g.K.Know.known c.args.know.now))
