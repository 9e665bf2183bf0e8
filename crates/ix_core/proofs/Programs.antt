-- Words for small programs, and for what their runs must do.
use Rattle.std.proofs.Common.{◌≡◌, ◌-◌, ℕ, Bool, true, false, List, [], map, Option, Some, None}
use Rattle.ix_text.specs.declared.span.Span.{Span}
use Rattle.ix_num.specs.declared.rel.Rel.{Rel}
use Rattle.ix_core.specs.declared.claim.Base.TheVariants as base
use Rattle.ix_core.specs.declared.claim.Claim.{Claim}
use Rattle.ix_core.specs.declared.claim.Type_.{Type_}
use Rattle.ix_core.specs.declared.claim.Type_.TheVariants as type
use Rattle.ix_core.specs.declared.code.Block.{Block}
use Rattle.ix_core.specs.declared.code.Item.{Item}
use Rattle.ix_core.specs.declared.code.Item.TheVariants as item
use Rattle.ix_core.specs.declared.op.Arg.{Arg}
use Rattle.ix_core.specs.declared.op.CallOp.{CallOp}
use Rattle.ix_core.specs.declared.op.OpKind.{OpKind}
use Rattle.ix_core.specs.declared.op.Test.{Test}
use Rattle.ix_core.specs.declared.program.Class.{Class}
use Rattle.ix_core.specs.declared.program.Field.{Field}
use Rattle.ix_core.specs.declared.program.Local.{Local}
use Rattle.ix_core.specs.declared.program.Method.{Method}
use Rattle.ix_core.specs.declared.program.Program.{Program}
use Rattle.ix_core.specs.Heap.{Held}
use Rattle.ix_core.specs.Machine.{Ending, Limits, printed}
use Rattle.ix_core.specs.Safe.{Input, start, state_after}
use Rattle.ix_core.specs.Tables.{no_method, tables_of}

-- ---- programs

abbrev pub span : ℕ → ℕ → Span
span from to = record { from = from; to = to }

abbrev pub int : Type_
int = type.Plain base.Int

abbrev pub boolean : Type_
boolean = type.Plain base.Bool

abbrev pub object : ℕ → Type_
object class = type.Plain (base.Class class)

abbrev pub int_array : Type_
int_array = type.Array base.Int 1 []

abbrev pub block : List Item → Block
block items = record { items = items }

-- an operation, from its first to its last byte, and with the places of its parts
abbrev pub does : OpKind → ℕ → ℕ → Item
does kind from to = item.Do record { kind = kind; span = span from to; parts = [] }

abbrev pub does_with : OpKind → ℕ → ℕ → List Span → Item
does_with kind from to parts = item.Do record { kind = kind; span = span from to; parts = parts }

abbrev pub arg : ℕ → ℕ → ℕ → Arg
arg slot from to = record { slot = slot; span = span from to }

-- target, method, receiver, arguments, class
abbrev pub calls : ℕ → ℕ → Option ℕ → List Arg → ℕ → Span → CallOp
calls target method receiver args class place = record { target = target; method = method; receiver = receiver; args = args; class = class; span = place }

abbrev pub test : Rel → ℕ → ℕ → Type_ → Span → Span → Test
test rel left right ty left_span right_span = record { rel = rel; left = left; right = right; ty = ty; left_span = left_span; right_span = right_span }

abbrev pub param : ℕ → List Claim → Local
param slot claims = record { slot = slot; name = []; claims = claims }

abbrev pub local : ℕ → List Claim → Span → Local × Span
local slot claims scope = (param slot claims, scope)

-- class, parameters, their types, result, locals, slots, body
abbrev pub static_method : ℕ → List Local → List Type_ → Type_ → List (Local × Span) → ℕ → Block → Method
static_method class params types result locals slots body = record no_method {
  class = class;
  params = params;
  param_types = types;
  result = result;
  locals = locals;
  slots = slots;
  body = body;
}

-- as of a static one, and what it overrides
abbrev pub instance_method : ℕ → List Local → List Type_ → Type_ → Option ℕ → List (Local × Span) → ℕ → Block → Method
instance_method class params types result overrides locals slots body = record (static_method class params types result locals slots body) { is_static = false; overrides = overrides }

abbrev pub constructor_of : ℕ → List Local → List Type_ → List (Local × Span) → ℕ → Block → Method
constructor_of class params types locals slots body = record (static_method class params types type.Void locals slots body) { is_static = false; constructor = true }

-- class, type, claims
abbrev pub field : ℕ → Type_ → List Claim → Field
field class ty claims = record { name = []; class = class; ty = ty; is_final = false; claims = claims }

-- parent, fields, methods
abbrev pub class_of : Option ℕ → List ℕ → List ℕ → Class
class_of parent fields methods = record { name = []; parent = parent; fields = fields; methods = methods }

-- classes, fields, array accesses, methods
abbrev pub program : List Class → List Field → ℕ → List Method → Program
program classes fields accesses methods = record { classes = classes; methods = methods; fields = fields; accesses = accesses }

-- ---- rows

-- A run of a method: its inputs and its limits; after so many steps, and no sooner, it has ended so, has printed these values, and has wrapped or not.
pub record Row : Type 0 where
  pub method : ℕ
  pub inputs : List Input
  pub limits : Limits
  pub steps : ℕ
  pub ending : Ending
  pub printed : List Held
  pub wrapped : Bool

abbrev pub row : ℕ → List Input → Limits → ℕ → Ending → List Held → Bool → Row
row method inputs limits steps ending printed wrapped =
    record { method = method; inputs = inputs; limits = limits; steps = steps; ending = ending; printed = printed; wrapped = wrapped }

-- what a run shows: how it has ended one step before, how it ends, what it has printed, and whether a result wrapped
pub record Shown : Type 0 where
  pub before : Option Ending
  pub ended : Option Ending
  pub printed : List Held
  pub wrapped : Bool

abbrev pub shown : Program → Row → Shown
shown program row = record {
  before = (state_after program row.limits row.method row.inputs (row.steps - 1)).ended;
  ended = (state_after program row.limits row.method row.inputs row.steps).ended;
  printed = printed row.limits (tables_of program) row.steps (start program row.method row.inputs);
  wrapped = (state_after program row.limits row.method row.inputs row.steps).wrapped;
}

abbrev pub told : Row → Shown
told row = record { before = None; ended = Some row.ending; printed = row.printed; wrapped = row.wrapped }

-- each run shows what its row tells
abbrev pub Rows : Program → List Row → Type 0
Rows program rows = map (shown program) rows ≡ map told rows
