use Rattle.std.proofs.Common.{arith, ap}
use Rattle.ix_machine_state.specs.declared.room.Needs.{Needs}
use Rattle.ix_machine_state.proofs.Free.{compare_is, truth_is, both_is, either_is, opposite_is, above_is, values_is, if_is, loop_is, step_is}
use Rattle.ix_machine_state.proofs.room.+needs.Goals as goal

pub cond_needs-returns-in-Compare-clause-above : goal.cond_needs-returns-in-Compare-clause-above
cond_needs-returns-in-Compare-clause-above t c =
    let is = compare_is _ c.in-Compare.block _ c.as_slice.result c.in-Compare.is c.as_slice.ensures in
    omega (arith, is.0, c.block_needs.ensures.above, ap (λ (n : Needs). n.above) c.higher.ensures)

pub cond_needs-returns-in-Compare-clause-values : goal.cond_needs-returns-in-Compare-clause-values
cond_needs-returns-in-Compare-clause-values t c =
    let is = compare_is _ c.in-Compare.block _ c.as_slice.result c.in-Compare.is c.as_slice.ensures in
    omega (arith, is.1, c.block_needs.ensures.values, ap (λ (n : Needs). n.values) c.higher.ensures)

pub cond_needs-returns-in-Truth-clause-above : goal.cond_needs-returns-in-Truth-clause-above
cond_needs-returns-in-Truth-clause-above t c =
    let is = truth_is _ c.in-Truth.block _ c.as_slice-in-Truth.result c.in-Truth.is c.as_slice-in-Truth.ensures in
    omega (arith, is.0, c.block_needs-in-Truth.ensures.above, ap (λ (n : Needs). n.above) c.higher-in-Truth.ensures)

pub cond_needs-returns-in-Truth-clause-values : goal.cond_needs-returns-in-Truth-clause-values
cond_needs-returns-in-Truth-clause-values t c =
    let is = truth_is _ c.in-Truth.block _ c.as_slice-in-Truth.result c.in-Truth.is c.as_slice-in-Truth.ensures in
    omega (arith, is.1, c.block_needs-in-Truth.ensures.values, ap (λ (n : Needs). n.values) c.higher-in-Truth.ensures)

pub cond_needs-returns-in-Both-clause-above : goal.cond_needs-returns-in-Both-clause-above
cond_needs-returns-in-Both-clause-above t c =
    let is = both_is _ _ _ c.in-Both.is in
    omega (arith, is.0, above_is c.get.ensures, above_is c.get-in-Both.ensures, c.cond_needs-first.ensures.above, c.cond_needs-second.ensures.above, ap (λ (n : Needs). n.above) c.higher-in-Both.ensures, ap (λ (n : Needs). n.above) c.larger.ensures)

pub cond_needs-returns-in-Both-clause-values : goal.cond_needs-returns-in-Both-clause-values
cond_needs-returns-in-Both-clause-values t c =
    let is = both_is _ _ _ c.in-Both.is in
    omega (arith, is.1, values_is c.get.ensures, values_is c.get-in-Both.ensures, c.cond_needs-first.ensures.values, c.cond_needs-second.ensures.values, ap (λ (n : Needs). n.values) c.higher-in-Both.ensures, ap (λ (n : Needs). n.values) c.larger.ensures)

pub cond_needs-returns-in-Either-clause-above : goal.cond_needs-returns-in-Either-clause-above
cond_needs-returns-in-Either-clause-above t c =
    let is = either_is _ _ _ c.in-Either.is in
    omega (arith, is.0, above_is c.get-in-Either.ensures, above_is c.get-in-Either-2.ensures, c.cond_needs-first-in-Either.ensures.above, c.cond_needs-second-in-Either.ensures.above, ap (λ (n : Needs). n.above) c.higher-in-Either.ensures, ap (λ (n : Needs). n.above) c.larger-in-Either.ensures)

pub cond_needs-returns-in-Either-clause-values : goal.cond_needs-returns-in-Either-clause-values
cond_needs-returns-in-Either-clause-values t c =
    let is = either_is _ _ _ c.in-Either.is in
    omega (arith, is.1, values_is c.get-in-Either.ensures, values_is c.get-in-Either-2.ensures, c.cond_needs-first-in-Either.ensures.values, c.cond_needs-second-in-Either.ensures.values, ap (λ (n : Needs). n.values) c.higher-in-Either.ensures, ap (λ (n : Needs). n.values) c.larger-in-Either.ensures)

pub cond_needs-returns-in-Opposite-clause-above : goal.cond_needs-returns-in-Opposite-clause-above
cond_needs-returns-in-Opposite-clause-above t c =
    let is = opposite_is _ _ c.in-Opposite.is in
    omega (arith, is.0, above_is c.get-in-Opposite.ensures, c.cond_needs.ensures.above, ap (λ (n : Needs). n.above) c.higher-in-Opposite.ensures)

pub cond_needs-returns-in-Opposite-clause-values : goal.cond_needs-returns-in-Opposite-clause-values
cond_needs-returns-in-Opposite-clause-values t c =
    let is = opposite_is _ _ c.in-Opposite.is in
    omega (arith, is.1, values_is c.get-in-Opposite.ensures, c.cond_needs.ensures.values, ap (λ (n : Needs). n.values) c.higher-in-Opposite.ensures)

pub item_needs-returns-in-If-clause-above : goal.item_needs-returns-in-If-clause-above
item_needs-returns-in-If-clause-above t c =
    let is = if_is _ _ _ _ c.as_slice.result c.as_slice-in-If.result c.in-If.is c.as_slice.ensures c.as_slice-in-If.ensures in
    omega (arith, is.0, c.cond_needs-asked.ensures.above, c.block_needs-first.ensures.above, c.block_needs-second.ensures.above, ap (λ (n : Needs). n.above) c.larger-in-If.ensures, ap (λ (n : Needs). n.above) c.higher-in-If.ensures, ap (λ (n : Needs). n.above) c.larger.ensures, ap (λ (n : Needs). n.above) c.higher.ensures)

pub item_needs-returns-in-If-clause-values : goal.item_needs-returns-in-If-clause-values
item_needs-returns-in-If-clause-values t c =
    let is = if_is _ _ _ _ c.as_slice.result c.as_slice-in-If.result c.in-If.is c.as_slice.ensures c.as_slice-in-If.ensures in
    omega (arith, is.1, c.cond_needs-asked.ensures.values, c.block_needs-first.ensures.values, c.block_needs-second.ensures.values, ap (λ (n : Needs). n.values) c.larger-in-If.ensures, ap (λ (n : Needs). n.values) c.higher-in-If.ensures, ap (λ (n : Needs). n.values) c.larger.ensures, ap (λ (n : Needs). n.values) c.higher.ensures)

pub item_needs-returns-in-Loop-clause-above : goal.item_needs-returns-in-Loop-clause-above
item_needs-returns-in-Loop-clause-above t c =
    let is = loop_is _ _ _ _ _ _ _ c.as_slice-in-Loop.result c.as_slice-in-Loop-2.result c.in-Loop.is c.as_slice-in-Loop.ensures c.as_slice-in-Loop-2.ensures in
    omega (arith, is.0, c.cond_needs-asked-in-Loop.ensures.above, c.block_needs-body.ensures.above, c.block_needs-next.ensures.above, ap (λ (n : Needs). n.above) c.higher-in-Loop.ensures, ap (λ (n : Needs). n.above) c.larger-in-Loop-2.ensures, ap (λ (n : Needs). n.above) c.larger-in-Loop.ensures)

pub item_needs-returns-in-Loop-clause-values : goal.item_needs-returns-in-Loop-clause-values
item_needs-returns-in-Loop-clause-values t c =
    let is = loop_is _ _ _ _ _ _ _ c.as_slice-in-Loop.result c.as_slice-in-Loop-2.result c.in-Loop.is c.as_slice-in-Loop.ensures c.as_slice-in-Loop-2.ensures in
    omega (arith, is.1, c.cond_needs-asked-in-Loop.ensures.values, c.block_needs-body.ensures.values, c.block_needs-next.ensures.values, ap (λ (n : Needs). n.values) c.higher-in-Loop.ensures, ap (λ (n : Needs). n.values) c.larger-in-Loop-2.ensures, ap (λ (n : Needs). n.values) c.larger-in-Loop.ensures)

pub block_needs-loop-item-preserved : goal.block_needs-loop-item-preserved
block_needs-loop-item-preserved t c =
    let is = step_is c.args.items.now c.loop-item.item-index c.item-item.result (omega arith) c.item-item.is in
    record {
      above = omega (arith, is.0, c.loop-item.invariant.above, c.item_needs.ensures.above, ap (λ (n : Needs). n.above) c.larger-needs.ensures);
      values = omega (arith, is.1, c.loop-item.invariant.values, c.item_needs.ensures.values, ap (λ (n : Needs). n.values) c.larger-needs.ensures);
    }
