-- Where no argument of a call is an error, the claims of the named method's parameters are met.
use Rattle.std.specs.Prelude.{◌≡◌, ℕ, zero, suc, ◌<◌, true, false, List, [], ◌∷◌, length, map, slice_get, option_map, Option, None, Some, unwrap_or, refl}
use Rattle.std.proofs.Common.{arith, sym, ap, ◌∙◌}
use Rattle.std.proofs.lemmas.Bool.{false≢true}
use Rattle.std.proofs.lemmas.Option.{slice_get_within}
use Rattle.ix_core.specs.declared.claim.Name.{Name}
use Rattle.ix_core.specs.declared.claim.Name.TheVariants.{Param, Local, FieldNamed}
use Rattle.ix_core.specs.declared.claim.Type_.{Type_}
use Rattle.ix_core.specs.declared.error.Error.{Error}
use Rattle.ix_core.specs.declared.error.Subject.TheVariants as subject
use Rattle.ix_core.specs.declared.fact.Path.TheVariants.{Slot, FieldOf}
use Rattle.ix_core.specs.declared.op.Arg.{Arg}
use Rattle.ix_core.specs.declared.op.CallOp.{CallOp}
use Rattle.ix_core.specs.declared.program.Method.{Method}
use Rattle.ix_core.specs.declared.program.Program.{Program}
use Rattle.ix_core.specs.Formed.{is_formed}
use Rattle.ix_core.specs.Heap.{Held, Heap, ObjectOf, value_at, reading_of}
use Rattle.ix_core.specs.Machine.{CallKind, Static, Instance, New, Super, call_values, call_heap, receiver_slot}
use Rattle.ix_core.specs.Numbers.{Numbers, HasInts, numbers_of, field_of}
use Rattle.ix_core.specs.Objects.{AllOn, Later}
use Rattle.ix_core.specs.Tables.{method_at, param_slot}
use Rattle.ix_core.specs.Waits.{MeetParams, param_readings}
use Rattle.ix_core.specs.World.{World, tables_in}
use Rattle.ix_core.proofs.Entered.{reading_later}
use Rattle.ix_core.proofs.Waiting.{later_refl, later_push}
use Rattle.ix_facts.specs.Stores.{Stored, Meets}
use Rattle.ix_rules_hold.specs.MachineSteps.{on_paths, reading_at}
use Rattle.ix_signatures.specs.Names.{arg_slot, call_path}
use Rattle.ix_signatures.specs.SignErrors.{Refuses, ArgumentClaim}
use Rattle.ix_rules_hold.proofs.MachineTests.{through_is}
use Rattle.ix_soundness.specs.Direct.{direct}
use Rattle.ix_soundness.specs.Known.{KindFits, call_of}
use Rattle.ix_soundness.proofs.ClaimTruths.{claims_true, none_fails}
use Rattle.ix_soundness.proofs.NamedClaims.{MayName, param_names}
use Rattle.ix_soundness.proofs.Stable.{unrefused}

-- ---- the values of a call

map_at : (slots : List Held) (args : List Arg) (k : ℕ) (arg : Arg) → slice_get args k ≡ Some arg → value_at (map (λ (a : Arg). value_at slots a.slot) args) k ≡ value_at slots arg.slot
map_at slots [] k arg is = absurd cc
map_at slots (first ∷ args) zero arg is = ap (λ (o : Option Arg). value_at slots (unwrap_or o first).slot) is
map_at slots (first ∷ args) (suc k) arg is = map_at slots args k arg is

pub there_at : {A : Type 0} (items : List A) (k : ℕ) → k < length items → (x : A) × (slice_get items k ≡ Some x)
there_at [] k lt = absurd (omega (arith, lt))
there_at (item ∷ items) zero lt = (item, refl)
there_at (item ∷ items) (suc k) lt = there_at items k (omega (arith, lt))

slot_static : (method : Method) (k : ℕ) → method.is_static ≡ true → param_slot method k ≡ k
slot_static method k s = rw s refl

slot_this : (method : Method) (k : ℕ) → method.is_static ≡ false → param_slot method k ≡ suc k
slot_this method k s = rw s omega arith

-- a parameter has the value of its argument's slot
pub argument_value : (kind : CallKind) (call : CallOp) (named : Method) (next : ℕ) (slots : List Held) → KindFits kind call named → (k : ℕ) (arg : Arg) → slice_get call.args k ≡ Some arg
    → value_at (call_values kind call next slots) (param_slot named k) ≡ value_at slots arg.slot
argument_value Static call named next slots fits k arg is = ap (value_at (call_values Static call next slots)) (slot_static named k fits) ∙ map_at slots call.args k arg is
argument_value Instance call named next slots fits k arg is = ap (value_at (call_values Instance call next slots)) (slot_this named k fits.0) ∙ map_at slots call.args k arg is
argument_value (New class) call named next slots fits k arg is = ap (value_at (call_values (New class) call next slots)) (slot_this named k fits.0) ∙ map_at slots call.args k arg is
argument_value Super call named next slots fits k arg is = ap (value_at (call_values Super call next slots)) (slot_this named k fits.0) ∙ map_at slots call.args k arg is

pub grown_later : (program : Program) (kind : CallKind) (heap : Heap) → Later heap (call_heap (tables_in (direct program)) kind heap)
grown_later program Static heap = later_refl heap
grown_later program Instance heap = later_refl heap
grown_later program (New class) heap = later_push heap (record { kind = ObjectOf class; cells = (direct program).fresh_fields class })
grown_later program Super heap = later_refl heap

pub arg_slot_is : (call : CallOp) (k : ℕ) (arg : Arg) → slice_get call.args k ≡ Some arg → arg_slot call k ≡ arg.slot
arg_slot_is call k arg is = ap (λ (o : Option Arg). unwrap_or (option_map (λ (a : Arg). a.slot) o) 0) is

module _ (program : Program) (locals : List (List Type_)) (formed : is_formed program locals ≡ true) (slots : List Held) (heap : Heap) (on : AllOn slots heap) (ints_ : HasInts (direct program).place slots heap)
    (s : Stored) (meets : Meets s (numbers_of (direct program).place slots heap ints_)) where
  abbrev world : World
  world = direct program

  abbrev v : Numbers
  v = numbers_of world.place slots heap ints_

  module _ (kind : CallKind) (call : CallOp) (n : ℕ) (lt : n < length program.methods) (fits : KindFits kind call (method_at program n)) (count : length call.args ≡ length (method_at program n).params) where
    abbrev named : Method
    named = method_at program n

    abbrev values : List Held
    values = call_values kind call (length heap) slots

    abbrev after : Heap
    after = call_heap (tables_in world) kind heap

    read_later : (slot : ℕ) → reading_of after (value_at slots slot) ≡ reading_at v (Slot slot)
    read_later slot = sym (reading_later heap after (value_at slots slot) (grown_later program kind heap) (on.held slot))

    argument_at : (k : ℕ) → k < length named.params → (arg : Arg) × (slice_get call.args k ≡ Some arg)
    argument_at k within = there_at call.args k (omega (arith, within, count))

    -- a name is read as the path that it has at the call
    name_read : (name : Name) → MayName named name → param_readings world named values after name ≡ reading_at v (call_path (call_of call n) name)
    name_read (Param j) may =
        let arg = argument_at j may in
        ap (reading_of after) (argument_value kind call named (length heap) slots fits j arg.0 arg.1) ∙ (read_later arg.0.slot ∙ ap (λ m. reading_at v (Slot m)) (sym (arg_slot_is call j arg.0 arg.1)))
    name_read (Local j) may = absurd may
    name_read (FieldNamed f) may = by_kind kind fits
      where
        by_kind : (kind : CallKind) → KindFits kind call named → param_readings world named (call_values kind call (length heap) slots) (call_heap (tables_in world) kind heap) (FieldNamed f) ≡ reading_at v (FieldOf (unwrap_or call.receiver 0) f)
        by_kind Static fits = absurd (false≢true (sym may.0 ∙ fits))
        by_kind (New class) fits = absurd (false≢true (sym may.1 ∙ fits.1))
        by_kind Super fits = absurd (false≢true (sym may.1 ∙ fits.1))
        by_kind Instance fits = through_is world heap (value_at slots (receiver_slot call.receiver)) f ∙ ap (λ m. reading_of heap (field_of world.place heap f (value_at slots m))) (same_slot call.receiver)
          where
            same_slot : (receiver : Option ℕ) → receiver_slot receiver ≡ unwrap_or receiver 0
            same_slot None = refl
            same_slot (Some slot) = refl

    pub params_met : ((error : Error) (rank : ℕ) → ArgumentClaim program (call_of call n) s error rank → ⊥) → MeetParams world named values after
    params_met none k param declared =
        let arg = argument_at k (within declared) in
        claims_true (call_path (call_of call n)) (Slot arg.0.slot) param.claims v (reading_of after (value_at values (param_slot named k))) (param_readings world named values after)
        (ap (reading_of after) (argument_value kind call named (length heap) slots fits k arg.0 arg.1) ∙ read_later arg.0.slot)
        (λ name is. name_read name (param_names program locals formed n lt k param declared name is).0)
        (λ j c is. unrefused s v (on_paths (call_path (call_of call n)) c) (Slot arg.0.slot)
        (none_fails (λ claim. Refuses s (on_paths (call_path (call_of call n)) claim) (Slot arg.0.slot)) param.claims 5 arg.0.span (subject.Param n k)
        (λ error rank failed. none error rank (record { number = k; param = param; declared = declared; arg = arg.0; given = arg.1; of = failed })) j c is) meets)
      where
        within : slice_get named.params k ≡ Some param → k < length named.params
        within is = slice_get_within named.params k param is
