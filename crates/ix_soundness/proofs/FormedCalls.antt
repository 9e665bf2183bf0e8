-- A call of a formed program whose text has no error fits the method that it names.
use Rattle.std.specs.Prelude.{◌≡◌, ℕ, suc, ◌+◌, ◌<◌, ◌≤◌, ◌==◌, Bool, true, false, not, List, [], length, map, option_map, Option, None, Some, unwrap_or, refl}
use Rattle.std.proofs.Common.{arith, sym, ap, ◌∙◌, subst}
use Rattle.std.proofs.lemmas.Bool.{and_parts, false≢true}
use Rattle.std.proofs.lemmas.Bool.Decides.{nat_tests}
use Rattle.std.proofs.lemmas.List.{length-map}
use Rattle.ix_core.specs.declared.claim.Type_.{Type_}
use Rattle.ix_core.specs.declared.op.Arg.{Arg}
use Rattle.ix_core.specs.declared.op.CallOp.{CallOp}
use Rattle.ix_core.specs.declared.op.OpKind.TheVariants as op
use Rattle.ix_core.specs.declared.program.Method.{Method}
use Rattle.ix_core.specs.declared.program.Program.{Program}
use Rattle.ix_core.specs.Formed.{is_formed, is_target, is_there, is_argument, is_this, is_parent, args_fit, call_fits, new_fits, static_fits, instance_fits, super_fits, receiver_fits, reads}
use Rattle.ix_core.specs.Heap.{Held, Heap, value_at}
use Rattle.ix_core.specs.Machine.{CallKind, Static, Instance, New, Super, target_of}
use Rattle.ix_core.specs.Objects.{IsInput}
use Rattle.ix_core.specs.Tables.{Tables, method_at, class_at, param_slots}
use Rattle.ix_core.specs.Typed.{SlotsTyped}
use Rattle.ix_core.specs.Types.{Types, is_class, class_type}
use Rattle.ix_core.specs.Waits.{FitsCall}
use Rattle.ix_core.specs.World.{tables_in}
use Rattle.ix_soundness.specs.Direct.{direct}
use Rattle.ix_core.proofs.Cases.{by_test, equal}
use Rattle.ix_core.proofs.Entered.{none_some}
use Rattle.ix_core.proofs.TypedCalls.{method_has, not_static, args_count}
use Rattle.ix_core.specs.declared.op.OpKind.{OpKind}
use Rattle.ix_soundness.specs.Clean.{IsClean}
use Rattle.ix_soundness.specs.Shown.{MayTake}
use Rattle.ix_soundness.proofs.FormedOperations.{may_take}
use Rattle.ix_soundness.proofs.NamedClaims.{count_params}

-- a call gives its value to its target, or to none
in_target : (target at : ℕ) (default : Option Held) → option_map (λ (d : Held). target) default ≡ Some at → at ≡ target
in_target target at None e = none_some at e
in_target target at (Some d) e = sym (ap (λ (o : Option ℕ). unwrap_or o 0) e)

pub target_is : (tables : Tables) (kind : CallKind) (call : CallOp) (at : ℕ) → target_of tables kind call ≡ Some at → at ≡ call.target
target_is tables Static call at e = in_target call.target at (tables.routines call.method).default e
target_is tables Instance call at e = in_target call.target at (tables.routines call.method).default e
target_is tables (New class) call at e = sym (ap (λ (o : Option ℕ). unwrap_or o 0) e)
target_is tables Super call at e = none_some at e

-- the operation that makes a call of this kind
abbrev pub kind_of : CallKind → CallOp → OpKind
kind_of Static call = op.StaticCall call
kind_of Instance call = op.InstanceCall call
kind_of (New class) call = op.NewObject call
kind_of Super call = op.SuperCall call

module _ (program : Program) (locals : List (List Type_)) (formed : is_formed program locals ≡ true) (number : ℕ) (lt : number < length program.methods) (slots : List Held) (heap : Heap) (types : Types)
    (size : length slots ≡ (method_at program number).slots) (typed : SlotsTyped program types slots heap) where
  abbrev method : Method
  method = method_at program number

  -- what formedness says of every call
  pub record CallHas (call : CallOp) : Type 0 where
    pub there : call.method < length program.methods
    pub args : length call.args ≡ length (method_at program call.method).params
    pub target : MayTake method slots call.target
    pub temporary : is_target program method call.target ≡ true
    pub apart : is_argument call.args call.target ≡ false

  is_false : (t : Bool) → not t ≡ true → t ≡ false
  is_false true e = absurd (false≢true e)
  is_false false e = refl

  pub call_has : (call : CallOp) → call_fits program method (Some types) call ≡ true → CallHas call
  call_has call e =
      let one = and_parts (is_there program.methods call.method) _ e in
      let two = and_parts (is_class program call.class) _ one.1 in
      let three = and_parts (args_fit program method (Some types) call.args (method_at program call.method).param_types) _ two.1 in
      let four = and_parts (is_target program method call.target) _ three.1 in
      let there : call.method < length program.methods = (let h = one.0 in grind (arith, nat_tests)) in record {
        there = there;
        args = args_count program locals formed method types call.args (method_at program call.method).param_types three.0 ∙ sym (count_params program locals formed call.method there);
        target = may_take program locals formed number lt slots heap types size typed call.target four.0;
        temporary = four.0;
        apart = is_false (is_argument call.args call.target) four.1;
      }

  module _ (call : CallOp) (has : CallHas call) where
    abbrev named : Method
    named = method_at program call.method

    room : param_slots named ≤ named.slots
    room = let h = (method_has program locals formed call.method has.there).room in grind (arith, nat_tests)

    within : (kind : CallKind) (at : ℕ) → target_of (tables_in (direct program)) kind call ≡ Some at → at < method.slots
    within kind at e = let t = target_is (tables_in (direct program)) kind call at e in let h = has.target.within in let s = size in omega (arith, t, h, s)

    not_input : (kind : CallKind) (at : ℕ) → target_of (tables_in (direct program)) kind call ≡ Some at → IsInput method at → ⊥
    not_input kind at e is = has.target.input (subst (IsInput method) (target_is (tables_in (direct program)) kind call at e) is)

    abbrev arg_values : List Held
    arg_values = map (λ (arg : Arg). value_at [] arg.slot) call.args

    count_static : named.is_static ≡ true → length arg_values ≡ param_slots named
    count_static s = length-map call.args (λ (arg : Arg). value_at [] arg.slot) ∙ (has.args ∙ sym (rw s refl))

    count_this : named.is_static ≡ false → suc (length arg_values) ≡ param_slots named
    count_this s = (let a = length-map call.args (λ (arg : Arg). value_at [] arg.slot) in let b = has.args in let c : param_slots named ≡ length named.params + 1 = rw s refl in omega (arith, a, b, c))

  not_constructor : (callee : ℕ) → callee < length program.methods → (method_at program callee).is_static ≡ true → (method_at program callee).constructor ≡ false
  not_constructor callee there s = by_test (method_at program callee).constructor (λ c. absurd (false≢true (sym (not_static program locals formed callee there c) ∙ s))) (λ c. c)

  -- ---- by kind

  pub static_fits_call : (call : CallOp) → static_fits program method (Some types) call ≡ true → IsClean program method (op.StaticCall call) → FitsCall (direct program) method (method_at program call.method) Static call
  static_fits_call call e clean =
      let one = and_parts (call_fits program method (Some types) call) _ e in
      let has = call_has call one.0 in
      let two = and_parts (method_at program call.method).is_static _ one.1 in record {
        kinds = not_constructor call.method has.there two.0;
        hidden = clean.hides;
        count = count_static call has two.0;
        room = room call has;
        effect = clean.quiet;
        within = within call has Static;
        target = not_input call has Static;
      }

  some_of : (receiver : Option ℕ) (target class : ℕ) → receiver_fits program method (Some types) receiver target class ≡ true → (slot : ℕ) × (receiver ≡ Some slot) × (reads program method (Some types) slot (class_type class) ≡ true) × ((slot == target) ≡ false)
  some_of None target class e = absurd (false≢true e)
  some_of (Some slot) target class e =
      let parts = and_parts (reads program method (Some types) slot (class_type class)) (not (slot == target)) e in
      (slot, refl, parts.0, is_false (slot == target) parts.1)

  pub receiver_has : (call : CallOp) → instance_fits program method (Some types) call ≡ true → (slot : ℕ) × (call.receiver ≡ Some slot) × ((slot == call.target) ≡ false)
  receiver_has call e =
      let one = and_parts (call_fits program method (Some types) call) _ e in
      let two = and_parts (receiver_fits program method (Some types) call.receiver call.target call.class) _ one.1 in
      let r = some_of call.receiver call.target call.class two.0 in
      (r.0, r.1, r.3)

  pub instance_named : (call : CallOp) → instance_fits program method (Some types) call ≡ true → ((method_at program call.method).is_static ≡ false) × ((method_at program call.method).constructor ≡ false)
  instance_named call e =
      let one = and_parts (call_fits program method (Some types) call) _ e in
      let two = and_parts (receiver_fits program method (Some types) call.receiver call.target call.class) _ one.1 in
      let three = and_parts (not (method_at program call.method).is_static) _ two.1 in
      let four = and_parts (not (method_at program call.method).constructor) _ three.1 in
      (is_false (method_at program call.method).is_static three.0, is_false (method_at program call.method).constructor four.0)

  pub instance_fits_call : (call : CallOp) → instance_fits program method (Some types) call ≡ true → IsClean program method (op.InstanceCall call) → FitsCall (direct program) method (method_at program call.method) Instance call
  instance_fits_call call e clean =
      let one = and_parts (call_fits program method (Some types) call) _ e in
      let has = call_has call one.0 in
      let receiver = receiver_has call e in
      let is = instance_named call e in record {
        kinds = (is.1, receiver.0, receiver.1, clean.hides.1 receiver.0 receiver.1);
        hidden = clean.hides.0;
        count = count_this call has is.0;
        room = room call has;
        effect = clean.quiet;
        within = within call has Instance;
        target = not_input call has Instance;
      }

  pub new_fits_call : (call : CallOp) → new_fits program method (Some types) call ≡ true → IsClean program method (op.NewObject call) → FitsCall (direct program) method (method_at program call.method) (New call.class) call
  new_fits_call call e clean =
      let one = and_parts (call_fits program method (Some types) call) _ e in
      let has = call_has call one.0 in
      let two = and_parts (method_at program call.method).constructor _ one.1 in
      let three = and_parts ((method_at program call.method).class == call.class) _ two.1 in record {
        kinds = (two.0, equal (method_at program call.method).class call.class three.0);
        hidden = clean.hides;
        count = count_this call has (not_static program locals formed call.method has.there two.0);
        room = room call has;
        effect = clean.quiet;
        within = within call has (New call.class);
        target = not_input call has (New call.class);
      }

  this_of : (receiver : Option ℕ) → is_this receiver ≡ true → receiver ≡ Some 0
  this_of None e = absurd (false≢true e)
  this_of (Some slot) e = ap Some (equal slot 0 e)

  parent_of : (parent : Option ℕ) (class : ℕ) → is_parent parent class ≡ true → parent ≡ Some class
  parent_of None class e = absurd (false≢true e)
  parent_of (Some other) class e = ap Some (equal other class e)

  pub super_fits_call : (call : CallOp) → super_fits program method (Some types) call ≡ true → IsClean program method (op.SuperCall call) → FitsCall (direct program) method (method_at program call.method) Super call
  super_fits_call call e clean =
      let one = and_parts (call_fits program method (Some types) call) _ e in
      let has = call_has call one.0 in
      let two = and_parts (is_this call.receiver) _ one.1 in
      let three = and_parts method.constructor _ two.1 in
      let four = and_parts (method_at program call.method).constructor _ three.1 in record {
        kinds = (three.0, four.0, this_of call.receiver two.0, parent_of (class_at program method.class).parent (method_at program call.method).class four.1);
        hidden = clean.hides;
        count = count_this call has (not_static program locals formed call.method has.there four.0);
        room = room call has;
        effect = clean.quiet;
        within = within call has Super;
        target = not_input call has Super;
      }
