-- Behind an operation that is no call the store that its rule gives is met, whatever the operation.
use Rattle.std.specs.Prelude.{◌≡◌, ℕ, ◌<◌, ◌==◌, true, false, not, List, length, Some, refl}
use Rattle.std.proofs.Common.{arith, sym, subst}
use Rattle.std.proofs.lemmas.Bool.{and_parts}
use Rattle.std.proofs.lemmas.Bool.Decides.{nat_tests}
use Rattle.ix_core.specs.declared.claim.Type_.{Type_}
use Rattle.ix_core.specs.declared.fact.Profile.{Profile}
use Rattle.ix_core.specs.declared.fact.Profile.TheVariants.{Int32}
use Rattle.ix_core.specs.declared.op.Op.{Op}
use Rattle.ix_core.specs.declared.op.OpKind.{OpKind}
use Rattle.ix_core.specs.declared.op.OpKind.TheVariants as op
use Rattle.ix_core.specs.declared.program.Method.{Method}
use Rattle.ix_core.specs.declared.program.Program.{Program}
use Rattle.ix_core.specs.Analysis.{IsWorld}
use Rattle.ix_core.specs.Formed.{is_formed, is_target, reads, field_fits, may_be_written, op_fits}
use Rattle.ix_core.specs.Heap.{Held, At, Heap, value_at, object_at, place_in}
use Rattle.ix_core.specs.Machine.{Limits, Effect, Done, Wrapped, operate, at_place, at_field}
use Rattle.ix_core.specs.Numbers.{Numbers, HasInts, numbers_of}
use Rattle.ix_core.specs.Objects.{HasField, HeapKeeps, FrameKeeps}
use Rattle.ix_core.specs.Tables.{method_at, field_at}
use Rattle.ix_core.specs.Typed.{HeapTyped, SlotsTyped}
use Rattle.ix_core.specs.Types.{Types}
use Rattle.ix_core.specs.World.{World, tables_in}
use Rattle.ix_core.proofs.FormedParts.{locals_of}
use Rattle.ix_facts.specs.After.{Step}
use Rattle.ix_facts.specs.Stores.{Stored, Meets, Gives, operated}
use Rattle.ix_rules_hold.proofs.FieldReads.{of_place}
use Rattle.ix_rules_hold.proofs.MachineSteps.{of_through}
use Rattle.ix_signatures.proofs.SignTruth.{signs_hold}
use Rattle.ix_signatures.specs.SignErrors.{part}
use Rattle.ix_sign.specs.MethodRules.{KindGives, copied_claims}
use Rattle.ix_soundness.specs.Direct.{direct}
use Rattle.ix_soundness.specs.Errors.{NoKindErrors}
use Rattle.ix_soundness.specs.Shown.{Takes}
use Rattle.ix_core.specs.Ready.{LocalsApart}
use Rattle.ix_soundness.proofs.CopiesShown.{copied_hold}
use Rattle.ix_soundness.proofs.FieldsShown.{adds_hold, read_holds, write_holds, not_own}
use Rattle.ix_soundness.proofs.OperationShown.{not_final}
use Rattle.ix_soundness.proofs.OperationsKeep.{IsNoCall, MayWrap}
use Rattle.ix_soundness.proofs.OperationsMeet.{KeepsThis, IsNoCallOrField, done_is, wrapped_is, step_meets, read_is, write_is, step_keeps, target_none, read_keeps, write_keeps}

other_slot : (t o : ℕ) → not (t == o) ≡ true → (o == t) ≡ false
other_slot t o e = grind (arith, nat_tests)

module _ (program : Program) (locals : List (List Type_)) (formed : is_formed program locals ≡ true) (tables : IsWorld (direct program)) (apart : LocalsApart program) (profile : Profile) (number : ℕ) (lt : number < length program.methods) (slots : List Held) (heap : Heap)
    (types : Types) (size : length slots ≡ (method_at program number).slots) (typed : SlotsTyped program types slots heap) (heap_typed : HeapTyped program heap)
    (building : ℕ → Type 0) (keeps : HeapKeeps (direct program) building heap) (frame : FrameKeeps building (method_at program number) slots heap)
    (before : HasInts (direct program).place slots heap) (s : Stored) (meets : Meets s (numbers_of (direct program).place slots heap before)) (limits : Limits) (place : ℕ) where
  abbrev method : Method
  method = method_at program number

  abbrev world : World
  world = direct program

  abbrev Fits : Op → OpKind → Type 0
  Fits done kind = op_fits program method (locals_of program locals formed number) (Some types) done kind ≡ true

  abbrev v : Numbers
  v = numbers_of world.place slots heap before

  module _ (later : List Held) (after : Heap) (behind : HasInts world.place later after) where
    abbrev w : Numbers
    w = numbers_of world.place later after behind

    -- the object whose field is read or written
    field_there : (o f : ℕ) (next : ℕ → ℕ → Effect) → at_field limits (tables_in world) place slots heap o f next ≡ Done later after → (k : ℕ) × (value_at slots o ≡ At k) × HasField world (object_at heap k).kind f
    field_there o f next e =
        let x = of_through later after limits (tables_in world) place slots heap (value_at slots o) (λ k. at_place limits (tables_in world) place slots heap (place_in world.place (object_at heap k).kind f) (next k)) e in
        let y = of_place later after limits (tables_in world) place slots heap (place_in world.place (object_at heap x.0).kind f) (next x.0) x.2 in
        (x.0, x.1, (y.0, y.1))

    step_done : (done : Op) (kind : OpKind) → Fits done kind → Takes world method slots heap kind → operate limits (tables_in world) place slots heap kind ≡ Done later after → Step profile kind v w
    step_done done kind fits may is = done_is program locals formed number lt slots heap types size typed heap_typed building keeps frame limits place later after before behind profile done kind fits may is

    plain_meets : (done : Op) (kind : OpKind) → Fits done kind → Step profile kind v w → (t : Stored) → Gives (operated profile kind) s t → Meets t w
    plain_meets done kind fits step t gives = step_meets program locals formed number lt slots heap types size typed heap_typed building keeps frame limits place later after before behind profile done kind fits step s t gives meets

    copy_meets : (done : Op) (t_ s_ : ℕ) (ty : Type_) → Fits done (op.Copy t_ s_ ty) → Step profile (op.Copy t_ s_ ty) v w → NoKindErrors program method number done (op.Copy t_ s_ ty) s → (t : Stored)
        → KindGives program method profile (op.Copy t_ s_ ty) done.span.from s t → Meets t w
    copy_meets done t_ s_ ty fits step none t gives =
        let one = plain_meets done (op.Copy t_ s_ ty) fits step gives.0 gives.1 in
        adds_hold (copied_claims method t_ done.span.from) gives.0 t w
        (copied_hold program locals formed number lt apart t_ s_ done.span.from (part done 1) v w s meets step.others step.results.0 step.results.1 none) gives.2 one

    pub done_meets : (done : Op) (kind : OpKind) → IsNoCall kind → Fits done kind → Takes world method slots heap kind → NoKindErrors program method number done kind s → operate limits (tables_in world) place slots heap kind ≡ Done later after
        → (t : Stored) → KindGives program method profile kind done.span.from s t → Meets t w
    done_meets done (op.Const t_ value) plain fits may none is t gives = plain_meets done (op.Const t_ value) fits (step_done done (op.Const t_ value) fits may is) t gives
    done_meets done (op.Copy t_ s_ ty) plain fits may none is t gives = copy_meets done t_ s_ ty fits (step_done done (op.Copy t_ s_ ty) fits may is) none t gives
    done_meets done (op.Num t_ op_ y z) plain fits may none is t gives = plain_meets done (op.Num t_ op_ y z) fits (step_done done (op.Num t_ op_ y z) fits may is) t gives
    done_meets done (op.Unary t_ unary y) plain fits may none is t gives = plain_meets done (op.Unary t_ unary y) fits (step_done done (op.Unary t_ unary y) fits may is) t gives
    done_meets done (op.Length t_ a) plain fits may none is t gives = plain_meets done (op.Length t_ a) fits (step_done done (op.Length t_ a) fits may is) t gives
    done_meets done (op.NewArray t_ ty n) plain fits may none is t gives = plain_meets done (op.NewArray t_ ty n) fits (step_done done (op.NewArray t_ ty n) fits may is) t gives
    done_meets done (op.Fill t_ ty entries) plain fits may none is t gives = plain_meets done (op.Fill t_ ty entries) fits (step_done done (op.Fill t_ ty entries) fits may is) t gives
    done_meets done (op.Load t_ a i ty) plain fits may none is t gives = plain_meets done (op.Load t_ a i ty) fits (step_done done (op.Load t_ a i ty) fits may is) t gives
    done_meets done (op.Store a i x ty) plain fits may none is t gives = plain_meets done (op.Store a i x ty) fits (step_done done (op.Store a i x ty) fits may is) t gives
    done_meets done (op.Print value) plain fits may none is t gives = plain_meets done (op.Print value) fits (step_done done (op.Print value) fits may is) t gives
    done_meets done (op.ReadField t_ o f) plain fits may none is t gives =
        let there = field_there o f _ is in
        let one = and_parts (field_fits program method (Some types) o f) _ fits in
        let two = and_parts (is_target program method t_) _ one.1 in
        (signs_hold program method).read t_ o f s t v w (other_slot t_ o (and_parts (not (t_ == o)) _ two.1).0)
        (λ built. read_holds program locals formed tables number slots heap building keeps frame before o there.0 there.1 (not_own program locals formed tables number slots heap building keeps frame before o built) f there.2)
        (read_is program locals formed number lt slots heap types size typed heap_typed building keeps frame limits place later after before behind t_ o f may is) meets gives
    done_meets done (op.WriteField o f x) plain fits may none is t gives =
        let there = field_there o f _ is in
        let one = and_parts (field_fits program method (Some types) o f) _ fits in
        let two = and_parts (reads program method (Some types) x (field_at program f).ty) _ one.1 in
        let three = and_parts (may_be_written program method o f) _ two.1 in
        (signs_hold program method).write o f x s t v w
        (λ built.
        let other = not_own program locals formed tables number slots heap building keeps frame before o built in
        write_holds program locals formed tables number slots heap building keeps frame before o there.0 there.1 other f there.2
        (not_final program locals formed tables number lt slots heap types size typed heap_typed building keeps frame before s meets o f three.0 other))
        (write_is program locals formed number lt slots heap types size typed heap_typed building keeps frame limits place later after before behind tables o f x is) meets gives
    done_meets done (op.NewObject call) plain fits may none is t gives = absurd plain
    done_meets done (op.StaticCall call) plain fits may none is t gives = absurd plain
    done_meets done (op.InstanceCall call) plain fits may none is t gives = absurd plain
    done_meets done (op.SuperCall call) plain fits may none is t gives = absurd plain

    wrapped_step : (kind : OpKind) → Takes world method slots heap kind → profile ≡ Int32 → operate limits (tables_in world) place slots heap kind ≡ Wrapped later after → Step profile kind v w
    wrapped_step kind may int32 is = subst (λ p. Step p kind v w) (sym int32) (wrapped_is program locals formed number lt slots heap types size typed heap_typed building keeps frame limits place later after before behind kind may is)

    pub wrapped_meets : (done : Op) (kind : OpKind) → MayWrap kind → Fits done kind → Takes world method slots heap kind → profile ≡ Int32 → operate limits (tables_in world) place slots heap kind ≡ Wrapped later after
        → (t : Stored) → KindGives program method profile kind done.span.from s t → Meets t w
    wrapped_meets done (op.Num t_ op_ y z) wraps fits may int32 is t gives = plain_meets done (op.Num t_ op_ y z) fits (wrapped_step (op.Num t_ op_ y z) may int32 is) t gives
    wrapped_meets done (op.Unary t_ unary y) wraps fits may int32 is t gives = plain_meets done (op.Unary t_ unary y) fits (wrapped_step (op.Unary t_ unary y) may int32 is) t gives
    wrapped_meets done (op.Const t_ value) wraps fits may int32 is t gives = absurd wraps
    wrapped_meets done (op.Copy t_ s_ ty) wraps fits may int32 is t gives = absurd wraps
    wrapped_meets done (op.Length t_ a) wraps fits may int32 is t gives = absurd wraps
    wrapped_meets done (op.NewArray t_ ty n) wraps fits may int32 is t gives = absurd wraps
    wrapped_meets done (op.Fill t_ ty entries) wraps fits may int32 is t gives = absurd wraps
    wrapped_meets done (op.Load t_ a i ty) wraps fits may int32 is t gives = absurd wraps
    wrapped_meets done (op.Store a i x ty) wraps fits may int32 is t gives = absurd wraps
    wrapped_meets done (op.ReadField t_ o f) wraps fits may int32 is t gives = absurd wraps
    wrapped_meets done (op.WriteField o f x) wraps fits may int32 is t gives = absurd wraps
    wrapped_meets done (op.NewObject call) wraps fits may int32 is t gives = absurd wraps
    wrapped_meets done (op.StaticCall call) wraps fits may int32 is t gives = absurd wraps
    wrapped_meets done (op.InstanceCall call) wraps fits may int32 is t gives = absurd wraps
    wrapped_meets done (op.SuperCall call) wraps fits may int32 is t gives = absurd wraps
    wrapped_meets done (op.Print value) wraps fits may int32 is t gives = absurd wraps

    -- ---- the fields of a constructor's object are as they were, where the operation writes none of them

    module _ (made : method.constructor ≡ true) where
      plain_kept : (kind : OpKind) → IsNoCallOrField kind → Takes world method slots heap kind → Step profile kind v w → KeepsThis v w
      plain_kept kind none may step =
          step_keeps program locals formed number lt slots heap types size typed heap_typed building keeps frame limits place later after before behind made profile kind may
          (target_none program locals formed number lt slots heap types size typed heap_typed building keeps frame limits place later after before behind made kind may none) step

      pub this_kept : (done : Op) (kind : OpKind) → IsNoCall kind → Fits done kind → Takes world method slots heap kind → ((o f x : ℕ) → kind ≡ op.WriteField o f x → (o == 0) ≡ false)
          → operate limits (tables_in world) place slots heap kind ≡ Done later after → KeepsThis v w
      this_kept done (op.Const t_ value) plain fits may other is = plain_kept (op.Const t_ value) tt may (step_done done (op.Const t_ value) fits may is)
      this_kept done (op.Copy t_ s_ ty) plain fits may other is = plain_kept (op.Copy t_ s_ ty) tt may (step_done done (op.Copy t_ s_ ty) fits may is)
      this_kept done (op.Num t_ op_ y z) plain fits may other is = plain_kept (op.Num t_ op_ y z) tt may (step_done done (op.Num t_ op_ y z) fits may is)
      this_kept done (op.Unary t_ unary y) plain fits may other is = plain_kept (op.Unary t_ unary y) tt may (step_done done (op.Unary t_ unary y) fits may is)
      this_kept done (op.Length t_ a) plain fits may other is = plain_kept (op.Length t_ a) tt may (step_done done (op.Length t_ a) fits may is)
      this_kept done (op.NewArray t_ ty n) plain fits may other is = plain_kept (op.NewArray t_ ty n) tt may (step_done done (op.NewArray t_ ty n) fits may is)
      this_kept done (op.Fill t_ ty entries) plain fits may other is = plain_kept (op.Fill t_ ty entries) tt may (step_done done (op.Fill t_ ty entries) fits may is)
      this_kept done (op.Load t_ a i ty) plain fits may other is = plain_kept (op.Load t_ a i ty) tt may (step_done done (op.Load t_ a i ty) fits may is)
      this_kept done (op.Store a i x ty) plain fits may other is = plain_kept (op.Store a i x ty) tt may (step_done done (op.Store a i x ty) fits may is)
      this_kept done (op.Print value) plain fits may other is = plain_kept (op.Print value) tt may (step_done done (op.Print value) fits may is)
      this_kept done (op.ReadField t_ o f) plain fits may other is =
          read_keeps program locals formed number lt slots heap types size typed heap_typed building keeps frame limits place later after before behind made t_ o f may
          (read_is program locals formed number lt slots heap types size typed heap_typed building keeps frame limits place later after before behind t_ o f may is)
      this_kept done (op.WriteField o f x) plain fits may other is =
          write_keeps program locals formed number lt slots heap types size typed heap_typed building keeps frame limits place later after before behind made o f x (other o f x refl)
          (write_is program locals formed number lt slots heap types size typed heap_typed building keeps frame limits place later after before behind tables o f x is)
      this_kept done (op.NewObject call) plain fits may other is = absurd plain
      this_kept done (op.StaticCall call) plain fits may other is = absurd plain
      this_kept done (op.InstanceCall call) plain fits may other is = absurd plain
      this_kept done (op.SuperCall call) plain fits may other is = absurd plain

      pub wrapped_this : (kind : OpKind) → MayWrap kind → Takes world method slots heap kind → profile ≡ Int32 → operate limits (tables_in world) place slots heap kind ≡ Wrapped later after → KeepsThis v w
      wrapped_this (op.Num t_ op_ y z) wraps may int32 is = plain_kept (op.Num t_ op_ y z) tt may (wrapped_step (op.Num t_ op_ y z) may int32 is)
      wrapped_this (op.Unary t_ unary y) wraps may int32 is = plain_kept (op.Unary t_ unary y) tt may (wrapped_step (op.Unary t_ unary y) may int32 is)
      wrapped_this (op.Const t_ value) wraps may int32 is = absurd wraps
      wrapped_this (op.Copy t_ s_ ty) wraps may int32 is = absurd wraps
      wrapped_this (op.Length t_ a) wraps may int32 is = absurd wraps
      wrapped_this (op.NewArray t_ ty n) wraps may int32 is = absurd wraps
      wrapped_this (op.Fill t_ ty entries) wraps may int32 is = absurd wraps
      wrapped_this (op.Load t_ a i ty) wraps may int32 is = absurd wraps
      wrapped_this (op.Store a i x ty) wraps may int32 is = absurd wraps
      wrapped_this (op.ReadField t_ o f) wraps may int32 is = absurd wraps
      wrapped_this (op.WriteField o f x) wraps may int32 is = absurd wraps
      wrapped_this (op.NewObject call) wraps may int32 is = absurd wraps
      wrapped_this (op.StaticCall call) wraps may int32 is = absurd wraps
      wrapped_this (op.InstanceCall call) wraps may int32 is = absurd wraps
      wrapped_this (op.SuperCall call) wraps may int32 is = absurd wraps
      wrapped_this (op.Print value) wraps may int32 is = absurd wraps
