-- What ties the machine to the rules: when an operation is a step between the numbers of paths, and which claim on paths a claim is.
use Rattle.std.specs.Prelude.{◌≡◌, ◌⊎◌, ℕ, ◌<◌, ◌==◌, unsigned_abs, Bool, true, ◌&&◌, List, [], length, slice_get}
use Rattle.ix_core.specs.declared.claim.Claim.{Claim}
use Rattle.ix_core.specs.declared.claim.Claim.TheVariants as claim
use Rattle.ix_core.specs.declared.claim.Name.{Name}
use Rattle.ix_core.specs.declared.claim.Name.TheVariants.{Param, Local, FieldNamed}
use Rattle.ix_core.specs.declared.claim.Off.{Off}
use Rattle.ix_core.specs.declared.claim.Off.TheVariants as off
use Rattle.ix_core.specs.declared.claim.Type_.{Type_}
use Rattle.ix_core.specs.declared.fact.Path.{Path}
use Rattle.ix_core.specs.declared.fact.Path.TheVariants.{Slot, FieldOf}
use Rattle.ix_core.specs.declared.fact.PathClaim.{PathClaim}
use Rattle.ix_core.specs.declared.fact.PathClaim.TheVariants as path_claim
use Rattle.ix_core.specs.declared.fact.PathOff.{PathOff}
use Rattle.ix_core.specs.declared.fact.PathOff.TheVariants.{Nothing, Plus, Minus}
use Rattle.ix_core.specs.declared.op.OpKind.{OpKind}
use Rattle.ix_core.specs.declared.op.OpKind.TheVariants as op
use Rattle.ix_core.specs.declared.program.Method.{Method}
use Rattle.ix_core.specs.Claims.{AreTrueOf}
use Rattle.ix_core.specs.Heap.{Held, Num, At, Heap, Reading, value_at, object_at, array_at, int_of, is_within}
use Rattle.ix_core.specs.Machine.{int_at}
use Rattle.ix_core.specs.Numbers.{Numbers}
use Rattle.ix_core.specs.Objects.{kind_claims}
use Rattle.ix_facts.specs.AfterOperation.{loaded_claims}
use Rattle.ix_core.specs.Ready.{local_slot}
use Rattle.ix_core.specs.Tables.{param_slot}

-- ---- operations

-- The slot that gets the result lies within the frame: of a program that is formed each slot is below the number of its method's slots, and that
-- many a frame has (`FrameKeeps`).
abbrev pub HasTarget : OpKind → List Held → Type 0
HasTarget (op.Const t value) slots = t < length slots
HasTarget (op.Copy t s ty) slots = t < length slots
HasTarget (op.Num t arith y z) slots = t < length slots
HasTarget (op.Unary t unary y) slots = t < length slots
HasTarget (op.Length t a) slots = t < length slots
HasTarget (op.NewArray t ty n) slots = t < length slots
HasTarget (op.Fill t ty entries) slots = t < length slots
HasTarget (op.Load t a i ty) slots = t < length slots
HasTarget _ slots = Unit {0}

-- What is loaded meets the claims on elements of the operation's type.
abbrev pub LoadsMet : OpKind → List Held → Heap → Type 0
LoadsMet (op.Load t a i ty) slots heap = (number : ℕ) → value_at slots a ≡ At number → is_within (int_at slots i) (length (array_at heap number)) ≡ true
    → AreTrueOf (loaded_claims ty) (int_of (value_at (array_at heap number) (unsigned_abs (int_at slots i))))
LoadsMet _ slots heap = Unit {0}

abbrev pub IsNumber : Held → Type 0
IsNumber (Num n) = Unit {0}
IsNumber _ = ⊥

-- An array of ints was made with the claims on elements that the type has. Types say so.
abbrev pub HoldsElements : Type_ → Heap → ℕ → Type 0
HoldsElements ty heap number = (loaded_claims ty ≡ []) ⊎ ((kind_claims (object_at heap number).kind ≡ loaded_claims ty) × ((place : ℕ) → IsNumber (value_at (array_at heap number) place)))

-- ---- claims

-- what a path has of a state's numbers
abbrev pub reading_at : Numbers → Path → Reading
reading_at v p = record { int = v.int p; size = v.size p }

abbrev pub path_offset : (Name → Path) → Off → PathOff
path_offset path off.Nothing = Nothing
path_offset path (off.Plus name) = Plus (path name)
path_offset path (off.Minus name) = Minus (path name)

-- The claim, with the paths of its names.
abbrev pub on_paths : (Name → Path) → Claim → PathClaim
on_paths path (claim.Range low high) = path_claim.Range low high
on_paths path (claim.Low low) = path_claim.Low low
on_paths path (claim.Length least) = path_claim.Length least
on_paths path (claim.Same other) = path_claim.Same (path other)
on_paths path (claim.Less name constant) = path_claim.Less (path name) constant
on_paths path (claim.Upper array offset constant) = path_claim.Upper (path array) (path_offset path offset) constant
on_paths path (claim.Search array) = path_claim.Search (path array)
on_paths path (claim.Negative array) = path_claim.Negative (path array)

-- Inside a method a parameter and a local have their own slots, and a field is one of the object in slot 0.
abbrev pub own_path : Method → Name → Path
own_path method (Param number) = Slot (param_slot method number)
own_path method (Local number) = Slot (local_slot method number)
own_path method (FieldNamed field) = FieldOf 0 field

-- A claim on a parameter names parameters, and one on a field names fields.
abbrev pub IsDeclared : Name → Type 0
IsDeclared (Local number) = ⊥
IsDeclared _ = Unit {0}

-- ---- calls and writes of fields

-- `this` of a constructor
abbrev pub own_slot : Method → ℕ → Bool
own_slot method slot = method.constructor && (slot == 0)
