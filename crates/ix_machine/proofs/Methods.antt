-- The room of a method's frame, and the frame of a call.
use Rattle.std.proofs.Common.{◌≡◌, ℕ, zero, suc, ◌+◌, ◌<◌, ◌≤◌, get_or, drop, max, sym, add-one, List, [], ◌∷◌, ◌++◌, length, map, arith, refl, ap, ◌∙◌}
use Rattle.std.proofs.Math.Seq.{drop-cons}
use Rattle.std.specs.Prelude.{slice_get, unwrap_or}
use Rattle.ix_core.specs.declared.op.Arg.{Arg}
use Rattle.ix_core.specs.declared.op.CallOp.{CallOp}
use Rattle.ix_core.specs.declared.program.Method.{Method}
use Rattle.ix_core.specs.Code.{Code}
use Rattle.ix_core.specs.Heap.{Held, value_at}
use Rattle.ix_core.specs.Machine.{Frame, frame, slots_with, CallKind, Static, Instance, New, Super, receiver}
use Rattle.ix_core.specs.Tables.{body_of, no_method}
use Rattle.ix_core.specs.Tasks.{Empty, code_then}
use Rattle.ix_machine_state.specs.declared.room.Room.{Room}
use Rattle.ix_machine_state.specs.Room.{code_above, code_values}
use Rattle.ix_machine.specs.Programs.{places_of, values_of}

pub record Fits (room : Room) (method : Method) : Type 0 where
  pub above : 1 + code_above (body_of method) ≤ room.places
  pub values : code_values (body_of method) ≤ room.values
  pub slots : method.slots ≤ room.values
  pub params : length method.param_types ≤ room.values

pub method_fits : (methods : List Method) (number : ℕ) (room : Room) → places_of methods ≤ room.places → values_of methods ≤ room.values → Fits room (unwrap_or (slice_get methods number) no_method)
method_fits [] number room places values = record { above = omega (arith, places); values = omega arith; slots = omega arith; params = omega arith }
method_fits (method ∷ methods) zero room places values = record { above = omega (arith, places); values = omega (arith, values); slots = omega (arith, values); params = omega (arith, values) }
method_fits (method ∷ methods) (suc number) room places values = method_fits methods number room (omega (arith, places)) (omega (arith, values))

pub receiver_is : (kind : CallKind) (op : CallOp) (number size : ℕ) (slots : List Held) → ((class : ℕ) → kind ≡ New class → number ≡ size) → receiver kind op number slots ≡ receiver kind op size slots
receiver_is Static op number size slots same = refl
receiver_is Instance op number size slots same = refl
receiver_is (New class) op number size slots same = ap (λ n. receiver (New class) op n slots) (same class refl)
receiver_is Super op number size slots same = refl

pub entered_frame : (method : ℕ) (top : Frame) (code body : Code) (count slots : ℕ) (this fresh : List Held) (args all : List Arg) (old : List Held)
    → top ≡ frame method (code_then code Empty) (slots_with count (this ++ map (λ (arg : Arg). value_at old arg.slot) args)) → code ≡ body → count ≡ slots → this ≡ fresh → args ≡ all
    → top ≡ frame method (code_then body Empty) (slots_with slots (fresh ++ map (λ (arg : Arg). value_at old arg.slot) all))
entered_frame method top code body count slots this fresh args all old is same many here there =
    is ∙ (ap (λ c. frame method (code_then c Empty) (slots_with count (this ++ map (λ (arg : Arg). value_at old arg.slot) args))) same
    ∙ (ap (λ n. frame method (code_then body Empty) (slots_with n (this ++ map (λ (arg : Arg). value_at old arg.slot) args))) many
    ∙ (ap (λ t. frame method (code_then body Empty) (slots_with slots (t ++ map (λ (arg : Arg). value_at old arg.slot) args))) here
    ∙ ap (λ xs. frame method (code_then body Empty) (slots_with slots (fresh ++ map (λ (arg : Arg). value_at old arg.slot) xs))) there)))

pub method_step : (methods : List Method) (index : ℕ) (method : Method) → index < length methods → method ≡ get_or methods index method
    → (places_of (drop index methods) ≡ max (1 + code_above (body_of method)) (places_of (drop (index + 1) methods)))
    × (values_of (drop index methods) ≡ max (max (max method.slots (length method.param_types)) (code_values (body_of method))) (values_of (drop (index + 1) methods)))
method_step methods index method within is =
    let cut : drop index methods ≡ method ∷ drop (index + 1) methods = drop-cons methods index method within ∙ (ap (λ m. m ∷ drop (suc index) methods) (sym is) ∙ rw add-one refl) in
    (ap places_of cut, omega (arith, ap values_of cut))

pub some_places : (methods : List Method) → 1 ≤ places_of methods
some_places [] = omega arith
some_places (method ∷ methods) = omega (arith, some_places methods)
