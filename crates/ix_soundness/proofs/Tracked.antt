-- The types of a constructor's slots are those of some frame, behind each operation too; so no operation writes a field of its object before the parent's
-- constructor has run, and behind it only fields of its own class.
use Rattle.std.specs.Prelude.{◌≡◌, ℕ, ◌+◌, ◌<◌, ◌≤◌, ◌==◌, Bool, true, false, not, ◌&&◌, if◌then◌else◌, pos, List, length, slice_set, Option, None, Some, unwrap_or, refl}
use Rattle.std.proofs.Common.{arith, sym, ap, subst, ◌∙◌}
use Rattle.std.proofs.lemmas.Bool.{and_parts, false≢true}
use Rattle.std.proofs.lemmas.Bool.Decides.{nat_tests}
use Rattle.std.proofs.lemmas.List.{length-set}
use Rattle.std.specs.List.{list_all}
use Rattle.ix_core.specs.declared.claim.Base.TheVariants as base
use Rattle.ix_core.specs.declared.claim.Type_.{Type_}
use Rattle.ix_core.specs.declared.claim.Type_.TheVariants as type
use Rattle.ix_core.specs.declared.op.CallOp.{CallOp}
use Rattle.ix_core.specs.declared.op.Literal.{Literal}
use Rattle.ix_core.specs.declared.op.Literal.TheVariants as literal
use Rattle.ix_core.specs.declared.op.Op.{Op}
use Rattle.ix_core.specs.declared.op.OpKind.{OpKind}
use Rattle.ix_core.specs.declared.op.OpKind.TheVariants as op
use Rattle.ix_core.specs.declared.program.Method.{Method}
use Rattle.ix_core.specs.declared.program.Program.{Program}
use Rattle.ix_core.specs.Formed.{is_formed, at_most, is_slot, is_target, reads, is_there, field_fits, is_array_at, are_entries, literal_fits, literal_type, op_fits, op_types, variable_type, copy_fits, call_fits, with_result, args_fit, claim_fits, instance_fits, is_super_call, named_type, new_fits, static_fits, type_fits}
use Rattle.ix_core.specs.Heap.{Held, Num, Boolean, Null, At, Heap, ObjectOf, value_at, cell_default, default_of}
use Rattle.ix_core.specs.Tables.{method_at, field_at, param_slot, all_fields, place_among}
use Rattle.ix_core.specs.Typed.{IsOfType, SlotsTyped}
use Rattle.ix_core.specs.TypedStates.{Gives}
use Rattle.ix_core.specs.Types.{Types, int_type, cell_type, class_type, is_array, is_type, is_void, is_reference_type, is_of, is_below, with_type, is_class, is_empty}
use Rattle.ix_core.proofs.Ancestors.{first_among}
use Rattle.ix_core.proofs.Cases.{by_test, equal}
use Rattle.ix_core.proofs.FormedParts.{locals_of, ways_end, field_type_is}
use Rattle.ix_core.proofs.Heaps.{value_set, value_other}
use Rattle.ix_core.proofs.TypeLaws.{of_above}
use Rattle.ix_core.proofs.TypedCalls.{method_has, not_static, default_of_type}
use Rattle.ix_core.proofs.TypedFields.{has_field}
use Rattle.ix_core.proofs.TypedSteps.{default_typed}
use Rattle.ix_core.proofs.TypedValues.{read_typed, assign_typed, slot_there}
use Rattle.ix_core.specs.Machine.{literal_value}
use Rattle.ix_soundness.specs.Making.{Tracks}

null_typed : (program : Program) (heap : Heap) (ty : Type_) → is_array program ty ≡ true → IsOfType program heap ty Null
null_typed program heap (type.Array of depth element) e = tt
null_typed program heap (type.Plain of) e = absurd (false≢true e)
null_typed program heap type.Void e = absurd (false≢true e)

reference_typed : (program : Program) (heap : Heap) (ty : Type_) → is_reference_type ty ≡ true → IsOfType program heap ty Null
reference_typed program heap (type.Array of depth element) e = tt
reference_typed program heap (type.Plain (base.Class class)) e = tt
reference_typed program heap (type.Plain base.Int) e = absurd (false≢true e)
reference_typed program heap (type.Plain base.Bool) e = absurd (false≢true e)
reference_typed program heap type.Void e = absurd (false≢true e)

-- no type has both
two_values : (program : Program) (heap : Heap) (ty : Type_) → IsOfType program heap ty (Num (pos 0)) → IsOfType program heap ty (Boolean false) → ⊥
two_values program heap (type.Plain base.Int) a b = b
two_values program heap (type.Plain base.Bool) a b = a
two_values program heap (type.Plain (base.Class class)) a b = a
two_values program heap (type.Array of depth element) a b = a
two_values program heap type.Void a b = a

module _ (program : Program) (locals : List (List Type_)) (formed : is_formed program locals ≡ true) (number : ℕ) (lt : number < length program.methods) (made : (method_at program number).constructor ≡ true) where
  abbrev method : Method
  method = method_at program number

  static : method.is_static ≡ false
  static = not_static program locals formed number lt made

  -- there is a first slot
  room : 1 ≤ method.slots
  room = by_static method.is_static static (method_has program locals formed number lt).room
    where
      by_static : (s : Bool) → s ≡ false → at_most (if s then length method.params else length method.params + 1) method.slots ≡ true → 1 ≤ method.slots
      by_static true e h = absurd (false≢true (sym e))
      by_static false e h = grind (arith, nat_tests)

  first_there : (types : Types) (tracks : Tracks program method types) → 0 < length tracks.slots
  first_there types tracks = let h = room in let s = tracks.size in omega (arith, h, s)

  pub gives_tracks : (types needed : Types) → Gives program types needed → Tracks program method types → Tracks program method needed
  gives_tracks types needed gives tracks = record { slots = tracks.slots; heap = tracks.heap; size = tracks.size; this = tracks.this; kind = tracks.kind; typed = gives tracks.slots tracks.heap tracks.typed }

  -- where nothing is known of the first slot it may hold anything
  any_first : (types : Types) (tracks : Tracks program method types) (x : Held) → types 0 ≡ None → SlotsTyped program types (slice_set tracks.slots 0 x) tracks.heap
  any_first types tracks x none slot ty is =
      by_test (slot == 0)
      (λ t. absurd (no_type (sym none ∙ subst (λ n. types n ≡ Some ty) (equal slot 0 t) is)))
      (λ t. subst (IsOfType program tracks.heap ty) (sym (value_other tracks.slots 0 slot x t)) (tracks.typed slot ty is))
    where
      no_type : ◌≡◌ {A = Option Type_} None (Some ty) → ⊥
      no_type e = absurd cc

  pub gives_none : (types needed : Types) → Gives program types needed → Tracks program method types → types 0 ≡ None → needed 0 ≡ None
  gives_none types needed gives tracks none = by_type (needed 0) refl
    where
      holds : (x : Held) (ty : Type_) → needed 0 ≡ Some ty → IsOfType program tracks.heap ty x
      holds x ty is = subst (IsOfType program tracks.heap ty) (value_set tracks.slots 0 x (first_there types tracks)) (gives (slice_set tracks.slots 0 x) tracks.heap (any_first types tracks x none) 0 ty is)

      by_type : (found : Option Type_) → needed 0 ≡ found → needed 0 ≡ None
      by_type None is = is
      by_type (Some ty) is = absurd (two_values program tracks.heap ty (holds (Num (pos 0)) ty is) (holds (Boolean false) ty is))

  -- ---- what is known of the first slot

  read_first : (types : Types) (tracks : Tracks program method types) (ty : Type_) → reads program method (Some types) 0 ty ≡ true → IsOfType program tracks.heap ty (At 0)
  read_first types tracks ty e = subst (IsOfType program tracks.heap ty) tracks.this (read_typed program (ways_end program locals formed) method types tracks.slots tracks.heap tracks.size tracks.typed 0 ty e).1

  -- a field that is written through it is one of the class
  pub own_field : (types : Types) → Tracks program method types → (field : ℕ) → field_fits program method (Some types) 0 field ≡ true → (place : ℕ) × (place_among (all_fields program method.class) field ≡ Some place)
  own_field types tracks field e =
      let parts = and_parts (is_there program.fields field) _ e in
      let below = read_first types tracks (class_type (field_at program field).class) parts.1 in
      let same : below.0 ≡ method.class = of_same (sym below.1 ∙ tracks.kind) in
      has_field program locals formed method.class field (let h = parts.0 in grind (arith, nat_tests)) (subst (λ c. is_below program c (field_at program field).class ≡ true) same below.2)
    where
      of_same : {a b : ℕ} → ObjectOf a ≡ ObjectOf b → a ≡ b
      of_same e = cc

  -- and where nothing is known of it, none is
  pub none_written : (types : Types) → types 0 ≡ None → (field : ℕ) → field_fits program method (Some types) 0 field ≡ true → ⊥
  none_written types none field e =
      let parts = and_parts (is_there program.fields field) _ e in
      let more = and_parts (is_slot program method 0) (type_fits program method (types 0) (class_type (field_at program field).class)) parts.1 in
      false≢true (subst (λ t. type_fits program method t (class_type (field_at program field).class) ≡ true) none more.1)

  -- ---- behind an operation

  first_param : param_slot method 0 ≡ 1
  first_param = rw static refl

  not_first : (t : ℕ) → 1 ≤ t → (t == 0) ≡ false
  not_first t le = grind (arith, nat_tests)

  first_not : (t : ℕ) → 1 ≤ t → (0 == t) ≡ false
  first_not t le = grind (arith, nat_tests)

  target_apart : (t : ℕ) → is_target program method t ≡ true → 1 ≤ t
  target_apart t e = by_static method.is_static static (and_parts (is_slot program method t) _ e).1
    where
      by_static : (s : Bool) → s ≡ false → at_most (if s then length method.params else length method.params + 1) t ≡ true → 1 ≤ t
      by_static true e h = absurd (false≢true (sym e))
      by_static false e h = grind (arith, nat_tests)

  -- types behind an operation, and what stays so of them
  pub record Behind (types after : Types) : Type 0 where
    pub tracks : Tracks program method after
    pub hidden : types 0 ≡ None → after 0 ≡ None

  set_tracks : (types : Types) (tracks : Tracks program method types) (t : ℕ) (ty : Type_) (x : Held) → 1 ≤ t → t < length tracks.slots → IsOfType program tracks.heap ty x → Behind types (with_type t ty types)
  set_tracks types tracks t ty x apart within is = record {
    tracks = record {
      slots = slice_set tracks.slots t x;
      heap = tracks.heap;
      size = length-set tracks.slots t x ∙ tracks.size;
      this = value_other tracks.slots t 0 x (first_not t apart) ∙ tracks.this;
      kind = tracks.kind;
      typed = assign_typed program types tracks.slots tracks.heap t ty x within is tracks.typed;
    };
    hidden = λ none. ap (λ b. if b then Some ty else types 0) (first_not t apart) ∙ none;
  }

  take : (types : Types) (tracks : Tracks program method types) (t : ℕ) (ty : Type_) (x : Held) → is_target program method t ≡ true → IsOfType program tracks.heap ty x → Behind types (with_type t ty types)
  take types tracks t ty x e is =
      set_tracks types tracks t ty x (target_apart t e)
      (slot_there program (ways_end program locals formed) method types tracks.slots tracks.heap tracks.size tracks.typed t (and_parts (is_slot program method t) _ e).0) is

  as_it_is : (types : Types) → Tracks program method types → Behind types types
  as_it_is types tracks = record { tracks = tracks; hidden = λ none. none }

  literal_typed : (heap : Heap) (value : Literal) → literal_fits program method value ≡ true → IsOfType program heap (literal_type value) (literal_value value)
  literal_typed heap (literal.Int n) e = tt
  literal_typed heap (literal.Bool answer) e = tt
  literal_typed heap (literal.NullOf ty) e = reference_typed program heap ty (and_parts (is_reference_type ty) (is_type program ty) e).0

  abbrev After : Op → OpKind → Types → Type 0
  After done kind types = (after : Types) × (op_types program method (locals_of program locals formed number) (Some types) done kind ≡ Some after) × Behind types after

  copied : (variable : Option Type_) (types : Types) (tracks : Tracks program method types) (t s : ℕ) (ty : Type_) (parts : _) → reads program method (Some types) s ty ≡ true
      → copy_fits program method (locals_of program locals formed number) variable t s ty parts ≡ true → Behind types (with_type t (unwrap_or variable ty) types)
  copied None types tracks t s ty parts from e =
      let one = and_parts (length parts == 0) _ e in
      take types tracks t ty (value_at tracks.slots s) (and_parts (is_target program method t) _ one.1).0 (read_typed program (ways_end program locals formed) method types tracks.slots tracks.heap tracks.size tracks.typed s ty from).1
  copied (Some variable) types tracks t s ty parts from e =
      let one = and_parts (length parts == 2) _ e in
      let two = and_parts (is_of program ty variable) _ one.1 in
      let three = and_parts (is_slot program method t) (at_most (param_slot method 0) t) two.1 in
      let apart = past_first three.1 in
      set_tracks types tracks t variable (value_at tracks.slots s) apart
      (slot_there program (ways_end program locals formed) method types tracks.slots tracks.heap tracks.size tracks.typed t three.0)
      (of_above program (ways_end program locals formed) tracks.heap ty variable (value_at tracks.slots s) two.0 (read_typed program (ways_end program locals formed) method types tracks.slots tracks.heap tracks.size tracks.typed s ty from).1)
    where
      past_first : at_most (param_slot method 0) t ≡ true → 1 ≤ t
      past_first h = let g : at_most 1 t ≡ true = subst (λ n. at_most n t ≡ true) first_param h in grind (arith, nat_tests)

  called : (types : Types) → Tracks program method types → (call : CallOp) → call_fits program method (Some types) call ≡ true → (after : Types) × (with_result program method call (Some types) ≡ Some after) × Behind types after
  called types tracks call e =
      let one = and_parts (is_there program.methods call.method) _ e in
      let two = and_parts (is_class program call.class) _ one.1 in
      let three = and_parts (args_fit program method (Some types) call.args (method_at program call.method).param_types) _ two.1 in
      let target = (and_parts (is_target program method call.target) _ three.1).0 in
      let there : call.method < length program.methods = (let h = one.0 in grind (arith, nat_tests)) in
      let result : Type_ = (method_at program call.method).result in
      by_test (is_void result)
      (λ t. (types, rw t refl, as_it_is types tracks))
      (λ t. (with_type call.target result types, rw t refl, take types tracks call.target result (default_of result) target (default_of_type program locals formed tracks.heap result (result_type call.method there t))))
    where
      result_type : (callee : ℕ) → callee < length program.methods → is_void (method_at program callee).result ≡ false → is_type program (method_at program callee).result ≡ true
      result_type callee there void = by_void (is_void (method_at program callee).result) void (method_has program locals formed callee there).result
        where
          by_void : (t : Bool) → t ≡ false → (if t then is_empty (method_at program callee).result_claims else is_type program (method_at program callee).result && list_all (claim_fits (method_at program callee).result (named_type program (method_at program callee))) (method_at program callee).result_claims) ≡ true
              → is_type program (method_at program callee).result ≡ true
          by_void true no_ h = absurd (false≢true (sym no_))
          by_void false no_ h = (and_parts (is_type program (method_at program callee).result) _ h).0

  -- the parent's constructor has run
  pub made_tracks : (types : Types) → Tracks program method types → Tracks program method (with_type 0 (class_type method.class) types)
  made_tracks types tracks = record {
    slots = slice_set tracks.slots 0 (At 0);
    heap = tracks.heap;
    size = length-set tracks.slots 0 (At 0) ∙ tracks.size;
    this = value_set tracks.slots 0 (At 0) (first_there types tracks);
    kind = tracks.kind;
    typed = assign_typed program types tracks.slots tracks.heap 0 (class_type method.class) (At 0) (first_there types tracks) (method.class, tracks.kind, itself method.class) tracks.typed;
  }
    where
      itself : (class : ℕ) → is_below program class class ≡ true
      itself class = first_among class class _ (same class)
        where
          same : (n : ℕ) → (n == n) ≡ true
          same n = grind (arith, nat_tests)

  pub operation_tracks : (done : Op) (kind : OpKind) (types : Types) → is_super_call kind ≡ false → op_fits program method (locals_of program locals formed number) (Some types) done kind ≡ true → Tracks program method types → After done kind types
  operation_tracks done (op.Const t value) types plain e tracks =
      let one = and_parts (literal_fits program method value) _ e in
      (_, refl, take types tracks t (literal_type value) (literal_value value) (and_parts (is_target program method t) _ one.1).0 (literal_typed tracks.heap value one.0))
  operation_tracks done (op.Copy t s ty) types plain e tracks =
      let one = and_parts (reads program method (Some types) s ty) _ e in
      let two = and_parts (not (t == s)) _ one.1 in
      (_, refl, copied (variable_type program method (locals_of program locals formed number) t done.span) types tracks t s ty done.parts one.0 two.1)
  operation_tracks done (op.Num t op_ y z) types plain e tracks =
      let one = and_parts (reads program method (Some types) y int_type) _ e in
      let two = and_parts (reads program method (Some types) z int_type) _ one.1 in
      (_, refl, take types tracks t int_type (Num (pos 0)) (and_parts (is_target program method t) _ two.1).0 tt)
  operation_tracks done (op.Unary t unary y) types plain e tracks =
      (_, refl, take types tracks t int_type (Num (pos 0)) (and_parts (is_target program method t) _ (and_parts (reads program method (Some types) y int_type) _ e).1).0 tt)
  operation_tracks done (op.Length t a) types plain e tracks =
      let one = and_parts (is_slot program method a) _ e in
      let two = and_parts (is_array_at (Some types) a) _ one.1 in
      (_, refl, take types tracks t int_type (Num (pos 0)) (and_parts (is_target program method t) _ two.1).0 tt)
  operation_tracks done (op.NewArray t ty n) types plain e tracks =
      let one = and_parts (reads program method (Some types) n int_type) _ e in
      let two = and_parts (is_array program ty) _ one.1 in
      (_, refl, take types tracks t ty Null (and_parts (is_target program method t) _ two.1).0 (null_typed program tracks.heap ty two.0))
  operation_tracks done (op.Fill t ty entries) types plain e tracks =
      let one = and_parts (is_array program ty) _ e in
      let two = and_parts (are_entries program method (Some types) t entries (cell_type ty)) _ one.1 in
      (_, refl, take types tracks t ty Null (and_parts (is_target program method t) _ two.1).0 (null_typed program tracks.heap ty one.0))
  operation_tracks done (op.Load t a i ty) types plain e tracks =
      let one = and_parts (is_array program ty) _ e in
      let two = and_parts (reads program method (Some types) a ty) _ one.1 in
      let three = and_parts (reads program method (Some types) i int_type) _ two.1 in
      (_, refl, take types tracks t (cell_type ty) (cell_default ty) (and_parts (is_target program method t) _ three.1).0 (default_typed program tracks.heap ty one.0))
  operation_tracks done (op.Store a i v ty) types plain e tracks = (types, refl, as_it_is types tracks)
  operation_tracks done (op.ReadField t o f) types plain e tracks =
      let one = and_parts (field_fits program method (Some types) o f) _ e in
      let there : f < length program.fields = (let h = (and_parts (is_there program.fields f) _ one.0).0 in grind (arith, nat_tests)) in
      (_, refl, take types tracks t (field_at program f).ty (default_of (field_at program f).ty) (and_parts (is_target program method t) _ one.1).0 (default_of_type program locals formed tracks.heap (field_at program f).ty (field_type_is program locals formed f there)))
  operation_tracks done (op.WriteField o f v) types plain e tracks = (types, refl, as_it_is types tracks)
  operation_tracks done (op.NewObject call) types plain e tracks =
      let one = and_parts (call_fits program method (Some types) call) _ (and_parts (new_fits program method (Some types) call) _ e).0 in
      let two = and_parts (is_there program.methods call.method) _ one.0 in
      let three = and_parts (is_class program call.class) _ two.1 in
      let four = and_parts (args_fit program method (Some types) call.args (method_at program call.method).param_types) _ three.1 in
      (_, refl, take types tracks call.target (class_type call.class) Null (and_parts (is_target program method call.target) _ four.1).0 tt)
  operation_tracks done (op.StaticCall call) types plain e tracks = called types tracks call (and_parts (call_fits program method (Some types) call) _ (and_parts (static_fits program method (Some types) call) _ e).0).0
  operation_tracks done (op.InstanceCall call) types plain e tracks = called types tracks call (and_parts (call_fits program method (Some types) call) _ (and_parts (instance_fits program method (Some types) call) _ e).0).0
  operation_tracks done (op.SuperCall call) types plain e tracks = absurd (false≢true (sym plain))
  operation_tracks done (op.Print value) types plain e tracks = (types, refl, as_it_is types tracks)
