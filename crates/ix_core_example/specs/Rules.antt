-- An analysis with facts on slots and on fields, as rules: when the tasks of a method have no error from facts on.
use Rattle.std.specs.Prelude.{◌≡◌, ℕ, ◌<◌, true, false, List, [], ◌∷◌, slice_get, Option, None, Some}
use Rattle.ix_num.specs.Ints.{IsInt}
use Rattle.ix_num.specs.declared.rel.Rel.TheVariants as rel
use Rattle.ix_text.specs.declared.span.Span.{Span}
use Rattle.ix_core.specs.declared.claim.Base.TheVariants as base
use Rattle.ix_core.specs.declared.claim.Claim.{Claim}
use Rattle.ix_core.specs.declared.claim.Type_.{Type_}
use Rattle.ix_core.specs.declared.claim.Type_.TheVariants as type
use Rattle.ix_core.specs.declared.fact.Path.TheVariants.{Slot, FieldOf}
use Rattle.ix_core.specs.declared.op.CallOp.{CallOp}
use Rattle.ix_core.specs.declared.op.Literal.TheVariants as literal
use Rattle.ix_core.specs.declared.op.Op.{Op}
use Rattle.ix_core.specs.declared.op.OpKind.{OpKind}
use Rattle.ix_core.specs.declared.op.OpKind.TheVariants as op
use Rattle.ix_core.specs.declared.op.Test.{Test}
use Rattle.ix_core.specs.declared.program.Local.{Local as Variable}
use Rattle.ix_core.specs.declared.program.Method.{Method}
use Rattle.ix_core.specs.Code.{Code, Condition, Do, If, Return}
use Rattle.ix_core.specs.Heap.{Held, Heap, ObjectOf, value_at}
use Rattle.ix_core.specs.Machine.{CallKind, Super, Called, Limits, operate, call_values, target_of, step_condition}
use Rattle.ix_core.specs.Objects.{HasField, IsOwn, IsInput, MayWrite}
use Rattle.ix_core.specs.Safe.{element_claims}
use Rattle.ix_core.specs.Tables.{Tables, param_slot}
use Rattle.ix_core.specs.Tasks.{Tasks, Empty, Run, Ask, Decide, code_then, followed_by}
use Rattle.ix_core.specs.Waits.{Knowledge, FitsCall, is_super}
use Rattle.ix_core.specs.World.{World, tables_in}
use Rattle.ix_core_example.specs.Facts.{Fact, NotNegative, Below, IsLength, Holds, IsFresh, AllTrue, IsIn, only, off_slot, off_field, off_call, Proves, with_claims}

-- the method may assign the slot
pub record MayAssign (method : Method) (target : ℕ) : Type 0 where
  pub within : target < method.slots
  pub input : IsInput method target → ⊥
  pub own : IsOwn method target → ⊥

-- the operation calls so
abbrev pub IsCall : OpKind → CallKind → CallOp → Type 0
IsCall operation kind call = (limits : Limits) (tables : Tables) (place : ℕ) (slots : List Held) (heap : Heap) → operate limits tables place slots heap operation ≡ Called kind call

-- the call's value for this parameter is that of this slot
abbrev pub IsGiven : CallKind → CallOp → Method → ℕ → ℕ → Type 0
IsGiven kind call named number slot = (next : ℕ) (slots : List Held) → value_at (call_values kind call next slots) (param_slot named number) ≡ value_at slots slot

-- what the claims of a result say of the slot that gets it
abbrev pub with_result : Option ℕ → List Claim → List Fact → List Fact
with_result None claims facts = facts
with_result (Some target) claims facts = with_claims (Slot target) claims facts

-- Behind `super`, of a field by its places in the objects of the parent and of the caller's class: the claims of the parent's fields are true, and the others are
-- as in a new object.
abbrev pub with_field : Option ℕ → Option ℕ → ℕ → List Claim → List Fact → List Fact
with_field (Some place) mine field claims facts = with_claims (FieldOf 0 field) claims facts
with_field None (Some place) field claims facts = IsFresh (FieldOf 0 field) ∷ facts
with_field None None field claims facts = facts

abbrev pub with_fields : World → Method → Method → List ℕ → List Fact → List Fact
with_fields world caller named [] facts = facts
with_fields world caller named (field ∷ fields) facts =
    with_field (world.place named.class field) (world.place caller.class field) field (world.field_claims field) (with_fields world caller named fields facts)

abbrev pub behind_super : World → (ℕ → List ℕ) → Method → Method → CallKind → List Fact → List Fact
behind_super world fields caller named Super facts = with_fields world caller named (fields caller.class) facts
behind_super world fields caller named _ facts = facts

-- the facts behind a call
abbrev pub facts_behind : World → (ℕ → List ℕ) → Method → Method → CallKind → CallOp → List Fact → List Fact
facts_behind world fields caller named kind call facts = behind_super world fields caller named kind (with_result (target_of (tables_in world) kind call) named.result_claims (only (off_call named kind call.target) facts))

-- what follows from facts: a slot holds what a path holds, so both are below the same lengths
pub data Follows (facts : List Fact) : Fact → Type 0 where
  of_path : (slot array : ℕ) (path : _) → IsIn (Holds slot path) facts → IsIn (Below (Slot slot) array) facts → Follows facts (Below path array)
  of_fresh : (path : _) → IsIn (IsFresh path) facts → Follows facts (NotNegative path)
  of_slot : (slot array : ℕ) (path : _) → IsIn (Holds slot path) facts → IsIn (Below path array) facts → Follows facts (Below (Slot slot) array)

module _ (world : World) where
  -- The operation has no error where the first facts are true, and the second are true behind it.
  pub data Step (method : Method) : OpKind → List Fact → List Fact → Type 0 where
    -- the length isn't negative
    new_array : (facts : List Fact) (target size : ℕ) (ty : Type_) → MayAssign method target → element_claims ty ≡ [] → IsIn (NotNegative (Slot size)) facts → Step method (op.NewArray target ty size) facts (only (off_slot target) facts)
    -- the index is within the array, and the claims on elements are true of what is stored
    store : (facts : List Fact) (array index value : ℕ) (ty : Type_) → (IsOwn method value → ⊥) → IsIn (NotNegative (Slot index)) facts → IsIn (Below (Slot index) array) facts → Proves facts (Slot value) (element_claims ty)
        → Step method (op.Store array index value ty) facts facts
    constant : (facts : List Fact) (target : ℕ) (n : _) → IsInt n → MayAssign method target → Step method (op.Const target (literal.Int n)) facts (only (off_slot target) facts)
    copy : (facts : List Fact) (target source : ℕ) (ty : Type_) → MayAssign method target → (IsOwn method source → ⊥) → Step method (op.Copy target source ty) facts (only (off_slot target) facts)
    length : (facts : List Fact) (target array : ℕ) → MayAssign method target → (array ≡ target → ⊥) → Step method (op.Length target array) facts (IsLength target array ∷ only (off_slot target) facts)
    -- the index is within the array
    load : (facts : List Fact) (target array index : ℕ) (ty : Type_) → MayAssign method target → IsIn (NotNegative (Slot index)) facts → IsIn (Below (Slot index) array) facts
        → Step method (op.Load target array index ty) facts (only (off_slot target) facts)
    -- the claims of a field are true of an object that is built
    read : (facts : List Fact) (target object field : ℕ) → MayAssign method target → (object ≡ target → ⊥) → (IsOwn method object → ⊥)
        → Step method (op.ReadField target object field) facts (with_claims (Slot target) (world.field_claims field) (Holds target (FieldOf object field) ∷ only (off_slot target) facts))
    -- the claims of the field are true of what is written
    write : (facts : List Fact) (object field value : ℕ) → MayWrite world method object field → (IsOwn method value → ⊥) → Proves facts (Slot value) (world.field_claims field)
        → Step method (op.WriteField object field value) facts (only (off_field field) facts)

-- The tasks have no error from the facts on; `fields` are the fields of a class's objects.
module _ (world : World) (fields : ℕ → List ℕ) where
  pub data Fine (number : ℕ) : Tasks → List Fact → Type 0 where
    -- the end of a body without a result: where it is a constructor, the claims of all fields of its object are true
    ends : (facts : List Fact) → (world.methods number).result ≡ type.Void
        → ((world.methods number).constructor ≡ true → (field : ℕ) → HasField world (ObjectOf (world.methods number).class) field → Proves facts (FieldOf 0 field) (world.field_claims field))
        → Fine number Empty facts
    -- the claims of the result are true of what is returned
    returns : (facts : List Fact) (slot : ℕ) (span : Span) (rest : Code) (tasks : Tasks) → (world.methods number).constructor ≡ false → Proves facts (Slot slot) (world.methods number).result_claims
        → Fine number (Run (Return (Some slot) span rest) tasks) facts
    does : (facts after : List Fact) (done : Op) (rest : Code) (tasks : Tasks) → Step world (world.methods number) done.kind facts after → Fine number (code_then rest tasks) after → Fine number (Run (Do done rest) tasks) facts
    prints : (facts : List Fact) (done : Op) (value : ℕ) (rest : Code) (tasks : Tasks) → done.kind ≡ op.Print value → Fine number (code_then rest tasks) facts → Fine number (Run (Do done rest) tasks) facts
    -- the claims of each parameter are true of what it is given
    enters : (facts : List Fact) (done : Op) (kind : CallKind) (call : CallOp) (rest : Code) (tasks : Tasks) → IsCall done.kind kind call
        → (is_super kind ≡ true → (field : ℕ) → HasField world (ObjectOf (world.methods number).class) field → IsIn (IsFresh (FieldOf 0 field)) facts)
        → FitsCall world (world.methods number) (world.methods call.method) kind call
        → ((param : ℕ) (variable : Variable) → slice_get (world.methods call.method).params param ≡ Some variable → (slot : ℕ) × IsGiven kind call (world.methods call.method) param slot × Proves facts (Slot slot) variable.claims)
        → Fine number (code_then rest tasks) (facts_behind world fields (world.methods number) (world.methods call.method) kind call facts)
        → Fine number (Run (Do done rest) tasks) facts
    chooses : (facts : List Fact) (asked : Condition) (first second rest : Code) (tasks : Tasks) → Fine number (Ask asked (code_then first Empty) (code_then second Empty) (code_then rest tasks)) facts
        → Fine number (Run (If asked first second rest) tasks) facts
    asks : (facts : List Fact) (asked : Condition) (first second tasks : Tasks) → Fine number (step_condition asked first second tasks) facts → Fine number (Ask asked first second tasks) facts
    -- an int is less than the length of an array
    decides : (facts : List Fact) (test : Test) (array : ℕ) (first second tasks : Tasks) → test.ty ≡ type.Plain base.Int → test.rel ≡ rel.Lt → IsIn (IsLength test.right array) facts
        → Fine number (followed_by first tasks) (Below (Slot test.left) array ∷ facts) → Fine number (followed_by second tasks) facts
        → Fine number (Decide test first second tasks) facts
    knows : (facts : List Fact) (fact : Fact) (tasks : Tasks) → Follows facts fact → Fine number tasks (fact ∷ facts) → Fine number tasks facts

-- the analysis, with these facts at the entries of methods
abbrev pub facts_from : World → (ℕ → List ℕ) → (ℕ → List Fact) → Knowledge
facts_from world fields entry = record {
  Store = List Fact;
  Holds = AllTrue world;
  entry = entry;
  after_call = facts_behind world fields;
  Fine = Fine world fields;
}
