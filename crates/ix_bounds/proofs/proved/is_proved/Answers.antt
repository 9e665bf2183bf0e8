use Rattle.std.proofs.Common.{◌≡◌, sym, subst}
use Rattle.ix_facts.specs.Facts.{in_orders}
use Rattle.ix_facts.specs.Assume as claims
use Rattle.ix_bounds.proofs.proved.is_proved.Goals as goal

pub returns-in-Upper : goal.returns-in-Upper
returns-in-Upper g c = record {
  proved = subst (λ k. c.is_below.result ≡ claims.proves (in_orders (g.K.Know.known c.args.know.now)) k c.args.p.now) (sym c.in-Upper.is) c.is_below.ensures;
}
