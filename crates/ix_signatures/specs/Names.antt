-- Names as paths at a call and of an object, and the variable that an assignment goes into (JLS 6.3, 15.12.4, 15.26).
use Rattle.std.specs.Prelude.{ℕ, suc, Bool, false, if◌then◌else◌, not, nat_lt, ◌&&◌, ◌||◌, ◌==◌, List, [], ◌∷◌, slice_get, option_map, unwrap_or, Option, None, Some}
use Rattle.ix_text.specs.declared.span.Span.{Span}
use Rattle.ix_core.specs.declared.claim.Claim.{Claim}
use Rattle.ix_core.specs.declared.claim.Name.{Name}
use Rattle.ix_core.specs.declared.claim.Name.TheVariants.{Param, Local, FieldNamed}
use Rattle.ix_core.specs.declared.fact.Path.{Path}
use Rattle.ix_core.specs.declared.fact.Path.TheVariants.{Slot, FieldOf}
use Rattle.ix_core.specs.declared.op.CallOp.{CallOp}
use Rattle.ix_core.specs.declared.program.Local.{Local as Variable}
use Rattle.ix_core.specs.declared.program.Method.{Method}
use Rattle.ix_core.specs.Objects.{claim_names}
use Rattle.ix_core.specs.Tables.{param_slot}
use Rattle.ix_rules_hold.specs.MachineSteps.{own_slot}

-- ---- names as paths

abbrev pub arg_slot : CallOp → ℕ → ℕ
arg_slot call number = unwrap_or (option_map (λ arg. arg.slot) (slice_get call.args number)) 0

-- At a call a parameter is the argument's slot, and a field is one of the receiver. What a caller sees names no local.
abbrev pub call_path : CallOp → Name → Path
call_path call (Param number) = Slot (arg_slot call number)
call_path call (Local number) = Slot 0
call_path call (FieldNamed field) = FieldOf (unwrap_or call.receiver 0) field

-- Of the object in a slot: a claim on a field names fields alone.
abbrev pub object_path : ℕ → Name → Path
object_path object (FieldNamed field) = FieldOf object field
object_path object _ = Slot object

-- The same where one field is about to have the value of a slot.
abbrev pub written_path : ℕ → ℕ → ℕ → Name → Path
written_path object field value (FieldNamed other) = if other == field then Slot value else FieldOf object other
written_path object field value _ = Slot object

-- ---- objects

-- An object is built unless it is `this` of a constructor.
abbrev pub is_built : Method → ℕ → Bool
is_built method object = not (own_slot method object)

abbrev pub is_field : ℕ → Name → Bool
is_field field (FieldNamed other) = other == field
is_field field _ = false

abbrev pub some_field : ℕ → List Name → Bool
some_field field [] = false
some_field field (name ∷ names) = is_field field name || some_field field names

-- the claim names the field
abbrev pub names_field : ℕ → Claim → Bool
names_field field claim = some_field field (claim_names claim)

-- ---- variables

-- the first parameter from this one on that has the slot, with its claims
abbrev pub param_in : Method → ℕ → ℕ → List Variable → Option (Name × List Claim)
param_in method slot number [] = None
param_in method slot number (param ∷ params) = if slot == param_slot method number then Some (Param number, param.claims) else param_in method slot (suc number) params

-- the local that has the slot at this place: at the end of a block its slots are free again
abbrev pub local_in : ℕ → ℕ → ℕ → List (Variable × Span) → Option (Name × List Claim)
local_in slot place number [] = None
local_in slot place number (local ∷ locals) =
    if (local.0.slot == slot) && (not (nat_lt place local.1.from) && nat_lt place local.1.to) then Some (Local number, local.0.claims)
    else local_in slot place (suc number) locals

abbrev pub or_else : Option (Name × List Claim) → Option (Name × List Claim) → Option (Name × List Claim)
or_else None other = other
or_else (Some variable) other = Some variable

-- The parameter or local that a copy to a slot at this place goes into, with its claims; none where the slot is a temporary.
abbrev pub variable_at : Method → ℕ → ℕ → Option (Name × List Claim)
variable_at method slot place = or_else (param_in method slot 0 method.params) (local_in slot place 0 method.locals)
