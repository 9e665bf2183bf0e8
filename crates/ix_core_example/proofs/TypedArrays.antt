-- What types say of the next operation of a frame of a formed program: what a cell is stored in is an array of its type.
use Rattle.std.specs.Prelude.{◌≡◌, ℕ, false, true, List, [], None, Some, refl}
use Rattle.std.proofs.Common.{subst}
use Rattle.std.proofs.lemmas.Bool.{and_parts, false≢true}
use Rattle.ix_core.specs.declared.claim.Type_.{Type_}
use Rattle.ix_core.specs.declared.claim.Type_.TheVariants as type
use Rattle.ix_core.specs.declared.op.Op.{Op}
use Rattle.ix_core.specs.declared.op.OpKind.{OpKind}
use Rattle.ix_core.specs.declared.op.OpKind.TheVariants as op
use Rattle.ix_core.specs.declared.program.Program.{Program}
use Rattle.ix_core.specs.Code.{Code, Do}
use Rattle.ix_core.specs.Formed.{is_formed, reads, op_fits}
use Rattle.ix_core.specs.Heap.{Held, At, Heap, ArrayOf, value_at, object_at}
use Rattle.ix_core.specs.Machine.{State, frame}
use Rattle.ix_core.specs.Tables.{method_at}
use Rattle.ix_core.specs.Tasks.{Tasks, Run}
use Rattle.ix_core.specs.Typed.{IsOfType}
use Rattle.ix_core.specs.TypedStates.{NowTyped}
use Rattle.ix_core.specs.Types.{is_array}
use Rattle.ix_core.proofs.FormedParts.{locals_of, ways_end}
use Rattle.ix_core.proofs.LawsAreSafe.{types_in}
use Rattle.ix_core.proofs.TypedStarts.{OperationFits, next_fits}
use Rattle.ix_core.proofs.TypedValues.{read_typed}

-- where the operation stores a cell, it is one of an array of its type
abbrev pub HoldsArray : List Held → Heap → OpKind → Type 0
HoldsArray slots heap (op.Store array index value ty) = (number : ℕ) → value_at slots array ≡ At number → (object_at heap number).kind ≡ ArrayOf ty
HoldsArray slots heap _ = Unit {0}

module _ (program : Program) (locals : List (List Type_)) (formed : is_formed program locals ≡ true) (number : ℕ) (slots : List Held) (heap : Heap) where
  array_kind : (ty : Type_) (of : ℕ) → is_array program ty ≡ true → IsOfType program heap ty (At of) → (object_at heap of).kind ≡ ArrayOf ty
  array_kind type.Void of e is = absurd (false≢true e)
  array_kind (type.Plain base) of e is = absurd (false≢true e)
  array_kind (type.Array base depth element) of e is = is

  abbrev state : Tasks → State
  state tasks = record { now = frame number tasks slots; below = []; heap = heap; wrapped = false; ended = None }

  by_kind : (tasks : Tasks) (done : Op) (kind : OpKind) → done.kind ≡ kind → OperationFits program locals formed (state tasks) done → HoldsArray slots heap kind
  by_kind tasks done (op.Store array index value ty) is fits = λ of at.
      let one = and_parts (is_array program ty) _ (subst (λ kind. op_fits program (method_at program number) (locals_of program locals formed number) (Some fits.types) done kind ≡ true) is fits.fits) in
      let two = and_parts (reads program (method_at program number) (Some fits.types) array ty) _ one.1 in
      array_kind ty of one.0 (subst (IsOfType program heap ty) at (read_typed program (ways_end program locals formed) (method_at program number) fits.types slots heap fits.size fits.typed array ty two.0).1)
  by_kind tasks done (op.Const target value) is fits = tt
  by_kind tasks done (op.Copy target source ty) is fits = tt
  by_kind tasks done (op.Num target arith left right) is fits = tt
  by_kind tasks done (op.Unary target unary operand) is fits = tt
  by_kind tasks done (op.Length target array) is fits = tt
  by_kind tasks done (op.NewArray target ty size) is fits = tt
  by_kind tasks done (op.Fill target ty entries) is fits = tt
  by_kind tasks done (op.Load target array index ty) is fits = tt
  by_kind tasks done (op.ReadField target object field) is fits = tt
  by_kind tasks done (op.WriteField object field value) is fits = tt
  by_kind tasks done (op.NewObject call) is fits = tt
  by_kind tasks done (op.StaticCall call) is fits = tt
  by_kind tasks done (op.InstanceCall call) is fits = tt
  by_kind tasks done (op.SuperCall call) is fits = tt
  by_kind tasks done (op.Print value) is fits = tt

  pub stores_typed : (tasks : Tasks) → NowTyped program (types_in program locals formed) number tasks slots heap → (done : Op) (rest : Code) (below : Tasks) → tasks ≡ Run (Do done rest) below → HoldsArray slots heap done.kind
  stores_typed tasks typed done rest below is =
      by_kind tasks done done.kind refl (next_fits program locals formed (state tasks) done rest below (record { heap = typed.heap_typed; now = typed.frame_typed; below = tt }) is)
