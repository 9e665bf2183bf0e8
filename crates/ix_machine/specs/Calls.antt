-- Calls among operations.
use Rattle.std.specs.Prelude.{Option, None, Some}
use Rattle.ix_core.specs.declared.op.CallOp.{CallOp}
use Rattle.ix_core.specs.declared.op.OpKind.{OpKind}
use Rattle.ix_core.specs.declared.op.OpKind.TheVariants as op
use Rattle.ix_core.specs.Machine as model

-- how a call calls; none of another operation
abbrev pub call_of : OpKind → Option (model.CallKind × CallOp)
call_of (op.NewObject call) = Some (model.New call.class, call)
call_of (op.StaticCall call) = Some (model.Static, call)
call_of (op.InstanceCall call) = Some (model.Instance, call)
call_of (op.SuperCall call) = Some (model.Super, call)
call_of _ = None
