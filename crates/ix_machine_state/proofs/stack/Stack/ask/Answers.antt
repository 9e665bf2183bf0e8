use Rattle.std.proofs.Common.{refl, arith}
use Rattle.ix_machine_state.proofs.Opened.{asked_compare, asked_truth, asked_both, asked_either, asked_opposite}
use Rattle.ix_machine_state.proofs.Free.{free_same, free_above, compare_is, truth_is, above_is, values_is, both_is, either_is, opposite_is}
use Rattle.ix_machine_state.proofs.stack.Stack.ask.Goals as goal

pub returns-in-Compare-clause-tasks : goal.returns-in-Compare-clause-tasks
returns-in-Compare-clause-tasks c = asked_compare c.args.self.now.places.items c.put_two.new.self.places.items c.args.cond.now c.in-Compare.block _ c.as_slice.result c.in-Compare.is c.as_slice.ensures c.put_two.ensures.items

pub returns-in-Truth-clause-tasks : goal.returns-in-Truth-clause-tasks
returns-in-Truth-clause-tasks c = asked_truth c.args.self.now.places.items c.put_two-in-Truth.new.self.places.items c.args.cond.now c.in-Truth.block c.in-Truth.slot c.as_slice-in-Truth.result c.in-Truth.is c.as_slice-in-Truth.ensures c.put_two-in-Truth.ensures.tasks

pub returns-in-Both-clause-tasks : goal.returns-in-Both-clause-tasks
returns-in-Both-clause-tasks c = asked_both c.args.self.now.places.items c.put_two-in-Both.new.self.places.items c.args.cond.now c.in-Both.first c.in-Both.second c.get-in-Both.result c.get.result c.in-Both.is c.get-in-Both.ensures c.get.ensures c.put_two-in-Both.ensures.tasks

pub returns-in-Either-clause-tasks : goal.returns-in-Either-clause-tasks
returns-in-Either-clause-tasks c = asked_either c.args.self.now.places.items c.put_two-in-Either.new.self.places.items c.args.cond.now c.in-Either.first c.in-Either.second c.get-in-Either-2.result c.get-in-Either.result c.in-Either.is c.get-in-Either-2.ensures c.get-in-Either.ensures c.put_two-in-Either.ensures.tasks

pub returns-in-Opposite-clause-tasks : goal.returns-in-Opposite-clause-tasks
returns-in-Opposite-clause-tasks c = asked_opposite c.args.self.now.places.items c.put_two-in-Opposite.new.self.places.items c.args.cond.now c.in-Opposite.asked c.get-in-Opposite.result c.in-Opposite.is c.get-in-Opposite.ensures c.put_two-in-Opposite.ensures.tasks

pub put_two-requires : goal.put_two-requires
put_two-requires c =
    let is = compare_is _ c.in-Compare.block _ c.as_slice.result c.in-Compare.is c.as_slice.ensures in
    record { outer = free_same c.requires refl (omega arith) (omega arith); inner = free_above c.requires refl refl (omega (arith, is.0)) (omega (arith, is.1)) }

pub put_two-requires-in-Truth : goal.put_two-requires-in-Truth
put_two-requires-in-Truth c =
    let is = truth_is _ c.in-Truth.block _ c.as_slice-in-Truth.result c.in-Truth.is c.as_slice-in-Truth.ensures in
    record { outer = free_same c.requires refl (omega arith) (omega arith); inner = free_above c.requires refl refl (omega (arith, is.0)) (omega (arith, is.1)) }

pub put_two-requires-in-Both : goal.put_two-requires-in-Both
put_two-requires-in-Both c =
    let is = both_is _ _ _ c.in-Both.is in
    record {
      outer = free_same c.requires refl (omega (arith, is.0, above_is c.get.ensures)) (omega (arith, is.1, values_is c.get.ensures));
      inner = free_above c.requires refl refl (omega (arith, is.0, above_is c.get-in-Both.ensures)) (omega (arith, is.1, values_is c.get-in-Both.ensures));
    }

pub put_two-requires-in-Either : goal.put_two-requires-in-Either
put_two-requires-in-Either c =
    let is = either_is _ _ _ c.in-Either.is in
    record {
      outer = free_same c.requires refl (omega (arith, is.0, above_is c.get-in-Either.ensures)) (omega (arith, is.1, values_is c.get-in-Either.ensures));
      inner = free_above c.requires refl refl (omega (arith, is.0, above_is c.get-in-Either-2.ensures)) (omega (arith, is.1, values_is c.get-in-Either-2.ensures));
    }

pub put_two-requires-in-Opposite : goal.put_two-requires-in-Opposite
put_two-requires-in-Opposite c =
    let is = opposite_is _ _ c.in-Opposite.is in
    record {
      outer = free_same c.requires refl (omega arith) (omega arith);
      inner = free_above c.requires refl refl (omega (arith, is.0, above_is c.get-in-Opposite.ensures)) (omega (arith, is.1, values_is c.get-in-Opposite.ensures));
    }
