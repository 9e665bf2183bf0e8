-- Behind an operation that is no call the store that its rule gives is met, and the fields of a new object are as they were.
use Rattle.std.specs.Prelude.{◌≡◌, ℕ, zero, suc, ◌<◌, nat_lt, ◌==◌, Bool, true, false, List, [], ◌∷◌, length, Some, refl}
use Rattle.std.proofs.Common.{arith, sym, ap, ◌∙◌, subst, inl, inr}
use Rattle.std.proofs.lemmas.Bool.{and_parts, false≢true}
use Rattle.std.proofs.lemmas.Bool.Decides.{nat_tests}
use Rattle.ix_core.specs.declared.claim.Base.TheVariants as base
use Rattle.ix_core.specs.declared.claim.Type_.{Type_}
use Rattle.ix_core.specs.declared.claim.Type_.TheVariants as type
use Rattle.ix_core.specs.declared.fact.Path.{Path}
use Rattle.ix_core.specs.declared.fact.Path.TheVariants.{FieldOf}
use Rattle.ix_core.specs.declared.fact.Profile.{Profile}
use Rattle.ix_core.specs.declared.fact.Profile.TheVariants.{Int32}
use Rattle.ix_core.specs.declared.op.Op.{Op}
use Rattle.ix_core.specs.declared.op.OpKind.{OpKind}
use Rattle.ix_core.specs.declared.op.OpKind.TheVariants as op
use Rattle.ix_core.specs.declared.program.Method.{Method}
use Rattle.ix_core.specs.declared.program.Program.{Program}
use Rattle.ix_core.specs.Analysis.{IsWorld}
use Rattle.ix_core.specs.Formed.{is_formed, reads, op_fits}
use Rattle.ix_core.specs.Heap.{Held, Num, Boolean, Null, At, Heap, ArrayOf, value_at, object_at, array_at, array_cells}
use Rattle.ix_core.specs.Machine.{Limits, Done, Wrapped, operate}
use Rattle.ix_core.specs.Numbers.{Numbers, HasInts, numbers_of}
use Rattle.ix_core.specs.Objects.{AllOn, HeapKeeps, FrameKeeps, kind_claims}
use Rattle.ix_core.specs.Tables.{method_at}
use Rattle.ix_core.specs.Typed.{IsOfType, HeapTyped, SlotsTyped}
use Rattle.ix_core.specs.Types.{Types, is_array}
use Rattle.ix_core.specs.World.{World, tables_in}
use Rattle.ix_soundness.specs.Direct.{direct}
use Rattle.ix_core.proofs.Cases.{by_test, equal}
use Rattle.ix_core.proofs.FormedParts.{locals_of, ways_end}
use Rattle.ix_core.proofs.Kept.{all_on}
use Rattle.ix_core.proofs.TypedValues.{read_typed}
use Rattle.ix_facts.specs.After.{Step, of_target}
use Rattle.ix_facts.specs.FieldSteps.{IsRead, IsWritten}
use Rattle.ix_facts.specs.Forget.{SameBut, of_slot, of_field}
use Rattle.ix_facts.specs.Stores.{Stored, Meets, Gives, operated}
use Rattle.ix_facts.proofs.AfterLaws.{after_hold}
use Rattle.ix_facts.proofs.StepLaws.{gives_meets}
use Rattle.ix_rules_hold.specs.FieldAccess.{spared_by}
use Rattle.ix_rules_hold.specs.MachineSteps.{LoadsMet, IsNumber, HoldsElements}
use Rattle.ix_rules_hold.proofs.FieldReads.{read_step}
use Rattle.ix_rules_hold.proofs.FieldWrites.{write_step, alone_spares, kept_cells, kept_alone}
use Rattle.ix_rules_hold.proofs.MachineLoads.{loads_met}
use Rattle.ix_rules_hold.proofs.MachineSteps.{done_step, wrapped_step}
use Rattle.ix_soundness.specs.Making.{Stage, Plain, Making, with_types, StageHolds}
use Rattle.ix_soundness.specs.Shown.{MayTake, Takes}
use Rattle.ix_soundness.proofs.FormedOperations.{has_target, target_apart}

-- the fields of the object in the first slot keep their numbers
abbrev pub KeepsThis : Numbers → Numbers → Type 0
KeepsThis v w = (field : ℕ) → (w.int (FieldOf 0 field) ≡ v.int (FieldOf 0 field)) × (w.size (FieldOf 0 field) ≡ v.size (FieldOf 0 field))

pub stage_kept : (world : World) (stage : Stage) (types : Types) (v w : Numbers) → KeepsThis v w → StageHolds world stage v → StageHolds world (with_types stage types) w
stage_kept world Plain types v w kept holds = tt
stage_kept world (Making class true old) types v w kept holds = λ field has. ((kept field).0 ∙ (holds field has).0, (kept field).1 ∙ (holds field has).1)
stage_kept world (Making class false old) types v w kept holds = tt

keeps_by : (is : Path → Bool) (v w : Numbers) → SameBut is v w → ((field : ℕ) → is (FieldOf 0 field) ≡ false) → KeepsThis v w
keeps_by is v w same apart field = same (FieldOf 0 field) (apart field)

-- an operation whose rule is that of the facts alone
abbrev pub IsNoCallOrField : OpKind → Type 0
IsNoCallOrField (op.ReadField t o f) = ⊥
IsNoCallOrField (op.WriteField o f x) = ⊥
IsNoCallOrField (op.NewObject call) = ⊥
IsNoCallOrField (op.StaticCall call) = ⊥
IsNoCallOrField (op.InstanceCall call) = ⊥
IsNoCallOrField (op.SuperCall call) = ⊥
IsNoCallOrField _ = Unit {0}

module _ (program : Program) (locals : List (List Type_)) (formed : is_formed program locals ≡ true) (number : ℕ) (lt : number < length program.methods) (slots : List Held) (heap : Heap) (types : Types)
    (size : length slots ≡ (method_at program number).slots) (typed : SlotsTyped program types slots heap) (heap_typed : HeapTyped program heap)
    (building : ℕ → Type 0) (keeps : HeapKeeps (direct program) building heap) (frame : FrameKeeps building (method_at program number) slots heap) where
  abbrev method : Method
  method = method_at program number

  abbrev Fits : Op → OpKind → Type 0
  Fits done kind = op_fits program method (locals_of program locals formed number) (Some types) done kind ≡ true

  on : AllOn slots heap
  on = all_on (direct program) building method slots heap keeps frame

  -- ---- what is loaded

  int_number : (held : Held) → IsOfType program heap (type.Plain base.Int) held → IsNumber held
  int_number (Num n) is = tt
  int_number (Boolean answer) is = absurd is
  int_number Null is = absurd is
  int_number (At k) is = absurd is

  pub array_kind : (ty : Type_) (of : ℕ) → is_array program ty ≡ true → IsOfType program heap ty (At of) → (object_at heap of).kind ≡ ArrayOf ty
  array_kind type.Void of e is = absurd (false≢true e)
  array_kind (type.Plain base) of e is = absurd (false≢true e)
  array_kind (type.Array base depth element) of e is = is

  cells_of : (of : ℕ) (ty : Type_) → (object_at heap of).kind ≡ ArrayOf ty → array_at heap of ≡ (object_at heap of).cells
  cells_of of ty is = ap (λ kind. array_cells kind (object_at heap of).cells) is

  past_end : (cells : List Held) (place : ℕ) → nat_lt place (length cells) ≡ false → IsNumber (value_at cells place)
  past_end [] place t = tt
  past_end (first ∷ cells) zero t = absurd (false≢true (sym t ∙ (let h : nat_lt 0 (suc (length cells)) ≡ true = grind (arith, nat_tests) in h)))
  past_end (first ∷ cells) (suc place) t = past_end cells place (grind (arith, nat_tests))

  elements_held : (ty : Type_) (of : ℕ) → (object_at heap of).kind ≡ ArrayOf ty → HoldsElements ty heap of
  elements_held (type.Array base.Int (suc zero) element) of is =
      let ty = type.Array base.Int (suc zero) element in
      inr (
        ap kind_claims is,
        λ place. by_test (nat_lt place (length (object_at heap of).cells))
            (λ t.
            let within : place < length (object_at heap of).cells = grind (arith, nat_tests) in
            subst (λ cells. IsNumber (value_at cells place)) (sym (cells_of of ty is)) (int_number (value_at (object_at heap of).cells place) (heap_typed.cells of place ty is within)))
            (λ t. subst (λ cells. IsNumber (value_at cells place)) (sym (cells_of of ty is)) (past_end (object_at heap of).cells place t)),
      )
  elements_held (type.Array base.Int zero element) of is = inl refl
  elements_held (type.Array base.Int (suc (suc depth)) element) of is = inl refl
  elements_held (type.Array base.Bool depth element) of is = inl refl
  elements_held (type.Array (base.Class class) depth element) of is = inl refl
  elements_held (type.Plain of_base) of is = inl refl
  elements_held type.Void of is = inl refl

  pub loads : (done : Op) (kind : OpKind) → Fits done kind → LoadsMet kind slots heap
  loads done (op.Load t a i ty) e =
      let one = and_parts (is_array program ty) _ e in
      let two = and_parts (reads program method (Some types) a ty) _ one.1 in
      loads_met (direct program) building slots heap keeps t a i ty
      (λ of at. elements_held ty of (array_kind ty of one.0 (subst (IsOfType program heap ty) at (read_typed program (ways_end program locals formed) method types slots heap size typed a ty two.0).1)))
  loads done (op.Const t value) e = tt
  loads done (op.Copy t s ty) e = tt
  loads done (op.Num t op_ y z) e = tt
  loads done (op.Unary t unary y) e = tt
  loads done (op.Length t a) e = tt
  loads done (op.NewArray t ty n) e = tt
  loads done (op.Fill t ty entries) e = tt
  loads done (op.Store a i v ty) e = tt
  loads done (op.ReadField t o f) e = tt
  loads done (op.WriteField o f v) e = tt
  loads done (op.NewObject call) e = tt
  loads done (op.StaticCall call) e = tt
  loads done (op.InstanceCall call) e = tt
  loads done (op.SuperCall call) e = tt
  loads done (op.Print value) e = tt

  -- where a cell is stored there is an array of the type
  pub stores : (done : Op) (a i v : ℕ) (ty : Type_) → Fits done (op.Store a i v ty) → (of : ℕ) → value_at slots a ≡ At of → (object_at heap of).kind ≡ ArrayOf ty
  stores done a i v ty e of at =
      let one = and_parts (is_array program ty) _ e in
      let two = and_parts (reads program method (Some types) a ty) _ one.1 in
      array_kind ty of one.0 (subst (IsOfType program heap ty) at (read_typed program (ways_end program locals formed) method types slots heap size typed a ty two.0).1)

  -- ---- behind an operation

  module _ (limits : Limits) (place : ℕ) (later : List Held) (after : Heap) (before : HasInts (direct program).place slots heap) (behind : HasInts (direct program).place later after) where
    abbrev v : Numbers
    v = numbers_of (direct program).place slots heap before

    abbrev w : Numbers
    w = numbers_of (direct program).place later after behind

    pub done_is : (profile : Profile) (done : Op) (kind : OpKind) → Fits done kind → Takes (direct program) method slots heap kind → operate limits (tables_in (direct program)) place slots heap kind ≡ Done later after → Step profile kind v w
    done_is profile done kind fits may is =
        done_step profile limits (tables_in (direct program)) place slots heap later after before behind kind (has_target program locals formed number lt slots heap types size typed kind may) (loads done kind fits) on is

    pub wrapped_is : (kind : OpKind) → Takes (direct program) method slots heap kind → operate limits (tables_in (direct program)) place slots heap kind ≡ Wrapped later after → Step Int32 kind v w
    wrapped_is kind may is = wrapped_step limits (tables_in (direct program)) place slots heap later after before behind kind (has_target program locals formed number lt slots heap types size typed kind may) is

    pub step_meets : (profile : Profile) (done : Op) (kind : OpKind) → Fits done kind → Step profile kind v w → (s t : Stored) → Gives (operated profile kind) s t → Meets s v → Meets t w
    step_meets profile done kind fits step s t =
        gives_meets (operated profile kind) v w (λ facts. after_hold profile kind facts v w (target_apart program locals formed number lt slots heap types size typed done kind fits) step) s t

    -- a read and a write of a field
    pub read_is : (t o f : ℕ) → MayTake method slots t → operate limits (tables_in (direct program)) place slots heap (op.ReadField t o f) ≡ Done later after → IsRead t o f v w
    read_is t o f may is = read_step limits (tables_in (direct program)) place slots heap later after before behind t o f may.within is

    pub write_is : (tables : IsWorld (direct program)) (o f x : ℕ) → operate limits (tables_in (direct program)) place slots heap (op.WriteField o f x) ≡ Done later after → IsWritten o f x (spared_by method o) v w
    write_is tables o f x is =
        write_step limits (tables_in (direct program)) place slots heap later after before behind (kept_cells (direct program) tables building heap keeps) o f x (spared_by method o)
        (alone_spares method slots (kept_alone building method slots heap frame) o) is

    -- ---- the fields of a constructor's object

    module _ (made : method.constructor ≡ true) where
      apart : (t : ℕ) → MayTake method slots t → (0 == t) ≡ false
      apart t may = by_test (0 == t) (λ e. absurd (may.own (made, sym (equal 0 t e)))) (λ e. e)

      pub step_keeps : (profile : Profile) (kind : OpKind) → Takes (direct program) method slots heap kind → ((field : ℕ) → of_target kind (FieldOf 0 field) ≡ false) → Step profile kind v w → KeepsThis v w
      step_keeps profile kind may none step = keeps_by (of_target kind) v w step.others none

      pub target_none : (kind : OpKind) → Takes (direct program) method slots heap kind → IsNoCallOrField kind → (field : ℕ) → of_target kind (FieldOf 0 field) ≡ false
      target_none (op.Const t value) may plain field = apart t may
      target_none (op.Copy t s ty) may plain field = apart t may
      target_none (op.Num t op_ y z) may plain field = apart t may
      target_none (op.Unary t unary y) may plain field = apart t may
      target_none (op.Length t a) may plain field = apart t may
      target_none (op.NewArray t ty n) may plain field = apart t may
      target_none (op.Fill t ty entries) may plain field = apart t may
      target_none (op.Load t a i ty) may plain field = apart t may
      target_none (op.Store a i x ty) may plain field = refl
      target_none (op.Print value) may plain field = refl
      target_none (op.ReadField t o f) may plain field = absurd plain
      target_none (op.WriteField o f x) may plain field = absurd plain
      target_none (op.NewObject call) may plain field = absurd plain
      target_none (op.StaticCall call) may plain field = absurd plain
      target_none (op.InstanceCall call) may plain field = absurd plain
      target_none (op.SuperCall call) may plain field = absurd plain

      pub read_keeps : (t o f : ℕ) → MayTake method slots t → IsRead t o f v w → KeepsThis v w
      read_keeps t o f may read = keeps_by (of_slot t) v w read.others (λ field. apart t may)

      pub write_keeps : (o f x : ℕ) → (o == 0) ≡ false → IsWritten o f x (spared_by method o) v w → KeepsThis v w
      write_keeps o f x other written = keeps_by (of_field f (spared_by method o)) v w written.others (λ field. rw (made, other) refl)
