use Rattle.std.proofs.Common.{◌∙◌, [], ap, map, option_map, refl, rules, sym}
use Rattle.ix_plain.specs.Parts.{in_place}
use Rattle.ix_plain.specs.Values.{lowering, object_class, arguments_from}
use Rattle.ix_lower_expressions.specs.Shown.{shown_scope, all_given, all_initial}
use Rattle.ix_lower_expressions.proofs.Assignments.{target_refused, value_refused, value_written, read_refused, operand_refused, operands_made, stepped_refused, step_behind_target}
use Rattle.ix_lower_expressions.proofs.Calls.{before_refused, arguments_refused, call_made, class_is, call_is}
use Rattle.ix_lower_expressions.proofs.Creations.{size_refused, array_made, given_refused, object_refused}
use Rattle.ix_lower_expressions.proofs.Elements.{carried, array_refused, cell_array_refused, index_refused, cell_index_refused, element_made}
use Rattle.ix_lower_expressions.proofs.HandedOn.{same_error, not_made}
use Rattle.ix_lower_expressions.proofs.InTurn.{next_argument, argument_refused, all_arguments, next_entry, entry_refused, all_entries}
use Rattle.ix_lower_expressions.proofs.expression.+lowering.Goals as goal

pub arguments-loop-expr-preserved : goal.arguments-loop-expr-preserved
arguments-loop-expr-preserved t c =
    next_argument c.args.exprs.now c.loop-expr.expr-index (shown_scope c.args.scope.now) c.expr-item.result c.loop-expr.args c.add_arg.new.args c.loop-expr.made c.value.new.made c.in_ok-slot.slot
    (all_given c.args.scope.now c.args.exprs.now c.args.made.now) c.loop-expr-test.true c.expr-item.is c.in_ok-slot.ensures.made c.in_ok-add_arg.ensures c.loop-expr.invariant

pub arguments-returns : goal.arguments-returns
arguments-returns t c = record {
  limit = search rules;
  made = all_arguments c.args.exprs.now c.loop-expr.expr-index (shown_scope c.args.scope.now) c.loop-expr.args c.loop-expr.made (all_given c.args.scope.now c.args.exprs.now c.args.made.now)
      c.loop-expr-test.false c.loop-expr.invariant;
}

pub entries-loop-init-preserved : goal.entries-loop-init-preserved
entries-loop-init-preserved t c =
    next_entry c.args.inits.now c.loop-init.init-index (shown_scope c.args.scope.now) c.args.cell.now c.init-item.result c.loop-init.slots c.add_slot.new.slots c.loop-init.made c.filling.new.made
    c.in_ok-slot.slot (all_initial c.args.scope.now c.args.inits.now c.args.cell.now c.args.made.now) c.loop-init-test.true c.init-item.is c.in_ok-slot.ensures.made c.in_ok-add_slot.ensures
    c.loop-init.invariant

pub entries-returns : goal.entries-returns
entries-returns t c = record {
  limit = search rules;
  made = all_entries c.args.inits.now c.loop-init.init-index (shown_scope c.args.scope.now) c.args.cell.now c.loop-init.slots c.loop-init.made
      (all_initial c.args.scope.now c.args.inits.now c.args.cell.now c.args.made.now) c.loop-init-test.false c.loop-init.invariant;
}

pub arguments-returns-in_err-slot : goal.arguments-returns-in_err-slot
arguments-returns-in_err-slot t c = record {
  limit = λ which is. argument_refused c.args.exprs.now c.loop-expr.expr-index (shown_scope c.args.scope.now) c.expr-item.result c.loop-expr.args c.loop-expr.made which
      (all_given c.args.scope.now c.args.exprs.now c.args.made.now) c.loop-expr-test.true c.expr-item.is c.loop-expr.invariant (c.in_err-slot.ensures.limit which (same_error c.from_residual.result c.from_residual.ensures.1 is));
  made = not_made c.from_residual.result _ c.from_residual.ensures.0;
}

pub entries-returns-in_err-slot : goal.entries-returns-in_err-slot
entries-returns-in_err-slot t c = record {
  limit = λ which is. entry_refused c.args.inits.now c.loop-init.init-index (shown_scope c.args.scope.now) c.args.cell.now c.init-item.result c.loop-init.slots c.loop-init.made which
      (all_initial c.args.scope.now c.args.inits.now c.args.cell.now c.args.made.now) c.loop-init-test.true c.init-item.is c.loop-init.invariant (c.in_err-slot.ensures.limit which (same_error c.from_residual.result c.from_residual.ensures.1 is));
  made = not_made c.from_residual.result _ c.from_residual.ensures.0;
}

pub called-returns-in_err-o-in-Call : goal.called-returns-in_err-o-in-Call
called-returns-in_err-o-in-Call t c =
    let unrolled = call_is c.args.expr.now c.in-Call.object c.in-Call.name c.in-Call.args (shown_scope c.args.scope.now) c.args.made.now c.meaning_at.result c.method_number-method.result
    c.head_at-head.result c.in-Call.is c.meaning_at.ensures c.method_number-method.ensures c.head_at-head.ensures in
    record {
      limit = λ which is. unrolled ∙ before_refused c.head_at-head.result (option_map lowering c.in-Call.object) c.method_number-method.result (object_class (option_map lowering c.in-Call.object) (shown_scope c.args.scope.now)) (map lowering c.in-Call.args) c.in-Call.name.span (shown_scope c.args.scope.now) c.args.made.now refl which (c.in_err-o-in-Call.ensures.limit which (same_error c.from_residual.result c.from_residual.ensures.1 is));
      made = not_made c.from_residual.result _ c.from_residual.ensures.0;
    }

pub called-returns-in_err-args-in-Call : goal.called-returns-in_err-args-in-Call
called-returns-in_err-args-in-Call t c =
    let unrolled = call_is c.args.expr.now c.in-Call.object c.in-Call.name c.in-Call.args (shown_scope c.args.scope.now) c.args.made.now c.meaning_at.result c.method_number-method.result
    c.head_at-head.result c.in-Call.is c.meaning_at.ensures c.method_number-method.ensures c.head_at-head.ensures in
    record {
      limit = λ which is. unrolled ∙ arguments_refused c.head_at-head.result (option_map lowering c.in-Call.object) c.method_number-method.result (object_class (option_map lowering c.in-Call.object) (shown_scope c.args.scope.now)) (map lowering c.in-Call.args) c.in-Call.name.span (shown_scope c.args.scope.now) c.args.made.now refl c.receiver.new.made c.in_ok-o-in-Call.o which c.in_ok-o-in-Call.ensures.made
          (ap (λ exprs. arguments_from [] (map lowering exprs) (shown_scope c.args.scope.now) c.receiver.new.made) (sym c.as_slice.ensures) ∙ c.in_err-args-in-Call.ensures.limit which (same_error c.from_residual-in_err-args-in-Call.result c.from_residual-in_err-args-in-Call.ensures.1 is));
      made = not_made c.from_residual-in_err-args-in-Call.result _ c.from_residual-in_err-args-in-Call.ensures.0;
    }

pub called-returns : goal.called-returns
called-returns t c =
    let unrolled = call_is c.args.expr.now c.in-Call.object c.in-Call.name c.in-Call.args (shown_scope c.args.scope.now) c.args.made.now c.meaning_at.result c.method_number-method.result
    c.head_at-head.result c.in-Call.is c.meaning_at.ensures c.method_number-method.ensures c.head_at-head.ensures in
    let whole = unrolled ∙ call_made c.head_at-head.result (option_map lowering c.in-Call.object) c.method_number-method.result c.object_class-class.result (map lowering c.in-Call.args) c.in-Call.name.span (shown_scope c.args.scope.now) c.args.made.now (c.object_class-class.ensures ∙ class_is c.in-Call.object (shown_scope c.args.scope.now))
    c.receiver.new.made c.in_ok-o-in-Call.o (record { made = c.arguments.new.made; args = c.in_ok-args-in-Call.args }) c.in_ok-o-in-Call.ensures.made
    (ap (λ exprs. arguments_from [] (map lowering exprs) (shown_scope c.args.scope.now) c.receiver.new.made) (sym c.as_slice.ensures) ∙ c.in_ok-args-in-Call.ensures.made) in
    record {
      limit = λ which is. whole ∙ c.call_on.ensures.limit which is;
      made = carried (λ at. in_place c.call_on.new.made at) c.call_on.result whole c.call_on.ensures.made;
    }

pub assigned-returns-in_err-spot-in-Step : goal.assigned-returns-in_err-spot-in-Step
assigned-returns-in_err-spot-in-Step t c = record {
  limit = λ which is. stepped_refused c.args.expr.now (shown_scope c.args.scope.now) c.args.made.now c.in-Step.up c.in-Step.after c.in-Step.place c.get-in-Step.result.now which c.in-Step.is c.get-in-Step.ensures (c.in_err-spot-in-Step.ensures.limit which (same_error c.from_residual-in_err-spot-in-Step.result c.from_residual-in_err-spot-in-Step.ensures.1 is));
  made = not_made c.from_residual-in_err-spot-in-Step.result _ c.from_residual-in_err-spot-in-Step.ensures.0;
}

pub assigned-returns-in_ok-spot-in-Step : goal.assigned-returns-in_ok-spot-in-Step
assigned-returns-in_ok-spot-in-Step t c =
    let whole = step_behind_target c.args.expr.now (shown_scope c.args.scope.now) c.args.made.now c.in-Step.up c.in-Step.after c.in-Step.place c.get-in-Step.result.now c.get-in-Step-2.result.now c.in_ok-spot-in-Step.spot c.target-in-Step.new.made c.in-Step.is c.get-in-Step.ensures c.get-in-Step-2.ensures c.in_ok-spot-in-Step.ensures.made in
    record {
      limit = λ which is. whole ∙ c.stepped.ensures.limit which is;
      made = carried (λ at. in_place c.stepped.new.made at) c.stepped.result whole c.stepped.ensures.made;
    }

pub assigned-returns-in_err-spot-in-Assign : goal.assigned-returns-in_err-spot-in-Assign
assigned-returns-in_err-spot-in-Assign t c = record {
  limit = λ which is. target_refused c.args.expr.now (shown_scope c.args.scope.now) c.args.made.now c.in-Assign.operator c.in-Assign.place c.in-Assign.from c.get.result.now which c.in-Assign.is c.get.ensures (c.in_err-spot-in-Assign.ensures.limit which (same_error c.from_residual.result c.from_residual.ensures.1 is));
  made = not_made c.from_residual.result _ c.from_residual.ensures.0;
}

pub assigned-returns-in_err-v-in-None : goal.assigned-returns-in_err-v-in-None
assigned-returns-in_err-v-in-None t c = record {
  limit = λ which is. value_refused c.args.expr.now (shown_scope c.args.scope.now) c.args.made.now c.in-Assign.operator c.in-Assign.place c.in-Assign.from c.get.result.now c.in_ok-spot-in-Assign.spot c.target.new.made c.in-Assign.is c.get.ensures c.in_ok-spot-in-Assign.ensures.made c.get-in-None.result.now which c.in-None.is c.get-in-None.ensures (c.in_err-v-in-None.ensures.limit which (same_error c.from_residual-in_err-v-in-None.result c.from_residual-in_err-v-in-None.ensures.1 is));
  made = not_made c.from_residual-in_err-v-in-None.result _ c.from_residual-in_err-v-in-None.ensures.0;
}

pub assigned-returns-in_ok-v-in-None : goal.assigned-returns-in_ok-v-in-None
assigned-returns-in_ok-v-in-None t c =
    let whole = value_written c.args.expr.now (shown_scope c.args.scope.now) c.args.made.now c.in-Assign.operator c.in-Assign.place c.in-Assign.from c.get.result.now c.in_ok-spot-in-Assign.spot c.target.new.made c.in-Assign.is c.get.ensures c.in_ok-spot-in-Assign.ensures.made c.get-in-None.result.now c.get-in-None-2.result.now c.get-in-None-3.result.now c.value.new.made c.in_ok-v-in-None.v c.in-None.is c.get-in-None.ensures c.get-in-None-2.ensures c.get-in-None-3.ensures c.in_ok-v-in-None.ensures.made in
    record {
      limit = λ which is. whole ∙ c.written.ensures.limit which is;
      made = carried (λ at. in_place c.written.new.made at) c.written.result whole c.written.ensures.made;
    }

pub assigned-returns-in_err-y-in-Some : goal.assigned-returns-in_err-y-in-Some
assigned-returns-in_err-y-in-Some t c = record {
  limit = λ which is. read_refused c.args.expr.now (shown_scope c.args.scope.now) c.args.made.now c.in-Assign.operator c.in-Assign.place c.in-Assign.from c.get.result.now c.in_ok-spot-in-Assign.spot c.target.new.made c.in-Assign.is c.get.ensures c.in_ok-spot-in-Assign.ensures.made c.in-Some.arith c.get-in-Some.result.now which c.in-Some.is c.get-in-Some.ensures (c.in_err-y-in-Some.ensures.limit which (same_error c.from_residual-in_err-y-in-Some.result c.from_residual-in_err-y-in-Some.ensures.1 is));
  made = not_made c.from_residual-in_err-y-in-Some.result _ c.from_residual-in_err-y-in-Some.ensures.0;
}

pub assigned-returns-in_err-z-in-Some : goal.assigned-returns-in_err-z-in-Some
assigned-returns-in_err-z-in-Some t c = record {
  limit = λ which is. operand_refused c.args.expr.now (shown_scope c.args.scope.now) c.args.made.now c.in-Assign.operator c.in-Assign.place c.in-Assign.from c.get.result.now c.in_ok-spot-in-Assign.spot c.target.new.made c.in-Assign.is c.get.ensures c.in_ok-spot-in-Assign.ensures.made c.in-Some.arith c.get-in-Some.result.now c.get-in-Some-2.result.now c.read.new.made c.in_ok-y-in-Some.y which c.in-Some.is c.get-in-Some.ensures c.get-in-Some-2.ensures c.in_ok-y-in-Some.ensures.made (c.in_err-z-in-Some.ensures.limit which (same_error c.from_residual-in_err-z-in-Some.result c.from_residual-in_err-z-in-Some.ensures.1 is));
  made = not_made c.from_residual-in_err-z-in-Some.result _ c.from_residual-in_err-z-in-Some.ensures.0;
}

pub assigned-returns-in_ok-z-in-Some : goal.assigned-returns-in_ok-z-in-Some
assigned-returns-in_ok-z-in-Some t c =
    let whole = operands_made c.args.expr.now (shown_scope c.args.scope.now) c.args.made.now c.in-Assign.operator c.in-Assign.place c.in-Assign.from c.get.result.now c.in_ok-spot-in-Assign.spot c.target.new.made c.in-Assign.is c.get.ensures c.in_ok-spot-in-Assign.ensures.made c.in-Some.arith c.get-in-Some.result.now c.get-in-Some-2.result.now c.get-in-Some-3.result.now c.read.new.made c.value-in-Some.new.made c.in_ok-y-in-Some.y c.in_ok-z-in-Some.z c.in-Some.is c.get-in-Some.ensures c.get-in-Some-2.ensures c.get-in-Some-3.ensures c.in_ok-y-in-Some.ensures.made c.in_ok-z-in-Some.ensures.made in
    record {
      limit = λ which is. whole ∙ c.computed_into.ensures.limit which is;
      made = carried (λ at. in_place c.computed_into.new.made at) c.computed_into.result whole c.computed_into.ensures.made;
    }

pub selected-returns-in_err-a-in-Index : goal.selected-returns-in_err-a-in-Index
selected-returns-in_err-a-in-Index t c = record {
  limit = λ which is. array_refused c.args.expr.now (shown_scope c.args.scope.now) c.args.made.now c.in-Index.array c.in-Index.index c.get-in-Index.result.now c.in-Index.is c.get-in-Index.ensures which (c.in_err-a-in-Index.ensures.limit which (same_error c.from_residual-in_err-a-in-Index.result c.from_residual-in_err-a-in-Index.ensures.1 is));
  made = not_made c.from_residual-in_err-a-in-Index.result _ c.from_residual-in_err-a-in-Index.ensures.0;
}

pub selected-returns-in_err-i-in-Index : goal.selected-returns-in_err-i-in-Index
selected-returns-in_err-i-in-Index t c = record {
  limit = λ which is. index_refused c.args.expr.now (shown_scope c.args.scope.now) c.args.made.now c.in-Index.array c.in-Index.index c.get-in-Index.result.now c.in-Index.is c.get-in-Index.ensures c.value-in-Index.new.made c.in_ok-a-in-Index.a c.get-in-Index-2.result.now c.in_ok-a-in-Index.ensures.made c.get-in-Index-2.ensures which (c.in_err-i-in-Index.ensures.limit which (same_error c.from_residual-in_err-i-in-Index.result c.from_residual-in_err-i-in-Index.ensures.1 is));
  made = not_made c.from_residual-in_err-i-in-Index.result _ c.from_residual-in_err-i-in-Index.ensures.0;
}

pub selected-returns-in_ok-i-in-Index : goal.selected-returns-in_ok-i-in-Index
selected-returns-in_ok-i-in-Index t c =
    let whole = element_made c.args.expr.now (shown_scope c.args.scope.now) c.args.made.now c.in-Index.array c.in-Index.index c.get-in-Index.result.now c.in-Index.is c.get-in-Index.ensures c.value-in-Index.new.made c.in_ok-a-in-Index.a c.get-in-Index-2.result.now c.in_ok-a-in-Index.ensures.made c.get-in-Index-2.ensures c.value-in-Index-2.new.made c.in_ok-i-in-Index.i c.get-in-Index-3.result.now c.get-in-Index-4.result.now c.in_ok-i-in-Index.ensures.made c.get-in-Index-3.ensures c.get-in-Index-4.ensures in
    record {
      limit = λ which is. whole ∙ c.loaded.ensures.limit which is;
      made = carried (λ at. in_place c.loaded.new.made at) c.loaded.result whole c.loaded.ensures.made;
    }

pub selected_target-returns-in_err-a-in-Index : goal.selected_target-returns-in_err-a-in-Index
selected_target-returns-in_err-a-in-Index t c = record {
  limit = λ which is. cell_array_refused c.args.expr.now (shown_scope c.args.scope.now) c.args.made.now c.in-Index.array c.in-Index.index c.get-in-Index.result.now c.in-Index.is c.get-in-Index.ensures which (c.in_err-a-in-Index.ensures.limit which (same_error c.from_residual-in_err-a-in-Index.result c.from_residual-in_err-a-in-Index.ensures.1 is));
  made = not_made c.from_residual-in_err-a-in-Index.result _ c.from_residual-in_err-a-in-Index.ensures.0;
}

pub selected_target-returns-in_err-i-in-Index : goal.selected_target-returns-in_err-i-in-Index
selected_target-returns-in_err-i-in-Index t c = record {
  limit = λ which is. cell_index_refused c.args.expr.now (shown_scope c.args.scope.now) c.args.made.now c.in-Index.array c.in-Index.index c.get-in-Index.result.now c.in-Index.is c.get-in-Index.ensures c.value-in-Index.new.made c.in_ok-a-in-Index.a c.get-in-Index-2.result.now c.in_ok-a-in-Index.ensures.made c.get-in-Index-2.ensures which (c.in_err-i-in-Index.ensures.limit which (same_error c.from_residual-in_err-i-in-Index.result c.from_residual-in_err-i-in-Index.ensures.1 is));
  made = not_made c.from_residual-in_err-i-in-Index.result _ c.from_residual-in_err-i-in-Index.ensures.0;
}

pub selected_target-returns-in_err-o-in-Select : goal.selected_target-returns-in_err-o-in-Select
selected_target-returns-in_err-o-in-Select t c = record {
  limit = λ which is. object_refused c.args.expr.now (shown_scope c.args.scope.now) c.args.made.now c.in-Select.object c.get.result.now c.in-Select.name which c.in-Select.is c.get.ensures (c.in_err-o-in-Select.ensures.limit which (same_error c.from_residual.result c.from_residual.ensures.1 is));
  made = not_made c.from_residual.result _ c.from_residual.ensures.0;
}

pub created-returns-in_err-args-in-New : goal.created-returns-in_err-args-in-New
created-returns-in_err-args-in-New t c = record {
  limit = λ which is. given_refused c.args.expr.now (shown_scope c.args.scope.now) c.args.made.now c.in-New.name c.in-New.args c.as_slice.result.now which c.in-New.is c.as_slice.ensures (c.in_err-args-in-New.ensures.limit which (same_error c.from_residual.result c.from_residual.ensures.1 is));
  made = not_made c.from_residual.result _ c.from_residual.ensures.0;
}

pub created-returns-in_err-n-in-NewArray : goal.created-returns-in_err-n-in-NewArray
created-returns-in_err-n-in-NewArray t c = record {
  limit = λ which is. size_refused c.args.expr.now (shown_scope c.args.scope.now) c.args.made.now c.in-NewArray.field-0 c.in-NewArray.size c.get.result.now which c.in-NewArray.is c.get.ensures (c.in_err-n-in-NewArray.ensures.limit which (same_error c.from_residual-in_err-n-in-NewArray.result c.from_residual-in_err-n-in-NewArray.ensures.1 is));
  made = not_made c.from_residual-in_err-n-in-NewArray.result _ c.from_residual-in_err-n-in-NewArray.ensures.0;
}

pub created-returns-in_ok-n-in-NewArray : goal.created-returns-in_ok-n-in-NewArray
created-returns-in_ok-n-in-NewArray t c =
    let whole = array_made c.args.expr.now (shown_scope c.args.scope.now) c.args.made.now c.in-NewArray.field-0 c.in-NewArray.size c.get.result.now c.get-in-NewArray.result.now c.value.new.made c.in_ok-n-in-NewArray.n c.in-NewArray.is c.get.ensures c.get-in-NewArray.ensures
    c.in_ok-n-in-NewArray.ensures.made in
    record {
      limit = λ which is. whole ∙ c.new_array.ensures.limit which is;
      made = carried (λ at. in_place c.new_array.new.made at) c.new_array.result whole c.new_array.ensures.made;
    }
