use Rattle.std.proofs.Common.{◌-◌, arith, sym, subst, ◌≤◌, ◌≡◌}
use Rattle.ix_core.specs.Tables.{method_at, is_among, overridden, way_up}
use Rattle.ix_core.proofs.Ways.{over_none, over_done, over_same, over_next}
use Rattle.ix_core.proofs.classes.is_or_overrides.Goals as goal

pub returns-in-None : goal.returns-in-None
returns-in-None c = over_none _ _ _ _ _ c.in-None.is c.loop-left.invariant

pub returns-then-number-named : goal.returns-then-number-named
returns-then-number-named c = over_same _ _ _ _ _ _ c.in-Some.is (omega arith) c.if-number-named.true c.loop-left.invariant

pub loop-left-preserved : goal.loop-left-preserved
loop-left-preserved c =
    subst (λ at. is_among (way_up (λ below. (method_at c.args.program.now below).overrides) (c.loop-left.left - 1) at) c.args.named ≡ is_among (overridden c.args.program.now c.args.method) c.args.named) (sym c.overridden_by-at.ensures)
    (over_next (λ below. (method_at c.args.program.now below).overrides) c.loop-left.left c.loop-left.at c.in-Some.number c.args.named _ c.in-Some.is (omega arith) c.if-number-named.false c.loop-left.invariant)

pub returns : goal.returns
returns c = let done : c.loop-left.left ≤ 0 = omega arith in over_done (λ below. (method_at c.args.program.now below).overrides) c.loop-left.left c.loop-left.at c.args.named _ done c.loop-left.invariant
