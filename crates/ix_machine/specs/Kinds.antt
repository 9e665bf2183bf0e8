-- Calls, as the model says them.
use Rattle.ix_core.specs.declared.op.CallOp.{CallOp}
use Rattle.ix_core.specs.Machine as model
use Rattle.ix_machine.specs.declared.calls.Call.{Call}
use Rattle.ix_machine.specs.declared.calls.CallKind.{CallKind}
use Rattle.ix_machine.specs.declared.calls.CallKind.TheVariants as kind

abbrev pub kind_of : CallKind → model.CallKind
kind_of kind.Static = model.Static
kind_of kind.Instance = model.Instance
kind_of (kind.New class) = model.New class
kind_of kind.Super = model.Super

abbrev pub called_of : Call → model.CallKind × CallOp
called_of call = (kind_of call.kind, call.op.now)
