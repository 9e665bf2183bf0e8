-- The access of the innermost task.
use Rattle.std.proofs.Common.{◌≡◌, List, None, refl, ap, ◌∙◌}
use Rattle.ix_core.specs.declared.op.Op.{Op}
use Rattle.ix_core.specs.Code.{Code, End, Do, If, Break, Continue, Return, Throw, Loop}
use Rattle.ix_core.specs.Heap.{Held, Heap}
use Rattle.ix_core.specs.Tasks.{Tasks, code_then}
use Rattle.ix_core.specs.Traces.{op_access, task_access}
use Rattle.ix_machine.specs.Accesses.{IsOp, IsNoOp}

module _ (slots : List Held) (heap : Heap) where
  at_op : (code : Code) (op : Op) (tasks : Tasks) → IsOp op code → task_access (code_then code tasks) slots heap ≡ op_access op.kind slots heap op.span.from
  at_op End op tasks is = absurd is
  at_op (Do done rest) op tasks is = ap (λ (o : Op). op_access o.kind slots heap o.span.from) is
  at_op (If asked first second rest) op tasks is = absurd is
  at_op (Break rest) op tasks is = absurd is
  at_op (Continue rest) op tasks is = absurd is
  at_op (Return value span rest) op tasks is = absurd is
  at_op (Throw name span rest) op tasks is = absurd is
  at_op (Loop test_first asked body next number scope rest) op tasks is = absurd is

  no_op : (code : Code) (tasks : Tasks) → IsNoOp code → task_access (code_then code tasks) slots heap ≡ None
  no_op End tasks other = absurd other
  no_op (Do done rest) tasks other = absurd other
  no_op (If asked first second rest) tasks other = refl
  no_op (Break rest) tasks other = refl
  no_op (Continue rest) tasks other = refl
  no_op (Return value span rest) tasks other = refl
  no_op (Throw name span rest) tasks other = refl
  no_op (Loop test_first asked body next number scope rest) tasks other = refl

  pub first_op : (ahead : Tasks) (code : Code) (op : Op) (tasks : Tasks) → ahead ≡ code_then code tasks → IsOp op code → task_access ahead slots heap ≡ op_access op.kind slots heap op.span.from
  first_op ahead code op tasks is begins = ap (λ t. task_access t slots heap) is ∙ at_op code op tasks begins

  pub other_item : (ahead : Tasks) (code : Code) (tasks : Tasks) → ahead ≡ code_then code tasks → IsNoOp code → task_access ahead slots heap ≡ None
  other_item ahead code tasks is other = ap (λ t. task_access t slots heap) is ∙ no_op code tasks other
