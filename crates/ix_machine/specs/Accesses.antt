-- The access that a step makes, as the model says it.
use Rattle.std.specs.Prelude.{◌≡◌, pos, unsigned_abs}
use Rattle.ix_core.specs.declared.op.Op.{Op}
use Rattle.ix_core.specs.Code.{Code, End, Do}
use Rattle.ix_core.specs.Traces as trace
use Rattle.ix_machine.specs.declared.access.Access.{Access}

abbrev pub access_of : Access → trace.Access
access_of access = record { index = access.index; size = unsigned_abs access.length; place = access.at }

-- its length isn't negative
abbrev pub HasSize : Access → Type 0
HasSize access = pos (unsigned_abs access.length) ≡ access.length

-- the code begins with that operation
abbrev pub IsOp : Op → Code → Type 0
IsOp op (Do done rest) = done ≡ op
IsOp op _ = ⊥

-- the code begins with another item than an operation
abbrev pub IsNoOp : Code → Type 0
IsNoOp End = ⊥
IsNoOp (Do op rest) = ⊥
IsNoOp _ = Unit {0}
