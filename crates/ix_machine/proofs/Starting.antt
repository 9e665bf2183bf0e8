-- A run begins, or is refused.
use Rattle.std.proofs.Common.{◌≡◌, ◌<◌, ◌≤◌, ◌+◌, ℕ, List, [], ◌∷◌, length, map, refl, ap, sym, ◌∙◌, subst, arith, Option, None, Some, Ok, Err, Result, option_map, IfErr, false}
use Rattle.std.specs.Result.{IsErrAnd}
use Rattle.std.proofs.lemmas.List.{length-map}
use Rattle.ix_core.specs.declared.claim.Type_.{Type_}
use Rattle.ix_core.specs.declared.program.Method.{Method}
use Rattle.ix_core.specs.declared.program.Program.{Program}
use Rattle.ix_core.specs.Heap.{Held, Heap, cells_used}
use Rattle.ix_core.specs.Inputs.{Unmet, first_unmet}
use Rattle.ix_core.specs.Machine.{State, frame, slots_with}
use Rattle.ix_core.specs.Safe.{Input, Whole, Flag, Ints, input_heap, input_values, start}
use Rattle.ix_core.specs.Tables.{method_at, body_of}
use Rattle.ix_core.specs.Tasks.{Empty, code_then}
use Rattle.ix_machine_inputs.specs.Words.{AreValues}
use Rattle.ix_machine.specs.declared.start.StartError.{StartError}
use Rattle.ix_machine.specs.declared.start.StartError.TheVariants as error
use Rattle.ix_machine.specs.Starts.{Given, Starts, Refuses, types_at, refusal_of, not_met, too_large, begins}
use Rattle.ix_machine.specs.Turns.{state_with}

pub err_is : {A E : Type 0} (r : Result A E) (error : E) (P : E → Type 0) → IsErrAnd r (λ e. e ≡ error) → P error → IfErr r P
err_is (Ok value) error P is holds = absurd is
err_is (Err e) error P is holds = subst P (sym is) holds

pub values_count : (types : List Type_) (words : List (List ℕ)) (inputs : List Input) → AreValues types words inputs → length inputs ≡ length types
values_count [] [] [] values = refl
values_count [] [] (input ∷ inputs) values = absurd values
values_count [] (word ∷ words) inputs values = absurd values
values_count (ty ∷ types) [] inputs values = absurd values
values_count (ty ∷ types) (word ∷ words) [] values = absurd values
values_count (ty ∷ types) (word ∷ words) (input ∷ inputs) values = omega (arith, values_count types words inputs values.1)

pub as_many_values : (number : ℕ) (inputs : List Input) → length (input_values number inputs) ≡ length inputs
as_many_values number [] = refl
as_many_values number (Whole n ∷ inputs) = omega (arith, as_many_values number inputs)
as_many_values number (Flag answer ∷ inputs) = omega (arith, as_many_values number inputs)
as_many_values number (Ints ns ∷ inputs) = omega (arith, as_many_values (number + 1) inputs)

-- so many slots take the values of inputs
pub value_count : {A : Type 0} (f : A → Held) (values : List A) (inputs : List Input) (types : List Type_) → map f values ≡ input_values 0 inputs → length inputs ≡ length types → length values ≤ length types
value_count f values inputs types is count = omega (arith, length-map values f, ap length is, as_many_values 0 inputs, count)

none_before : {A B : Type 0} (f : A → B) (found : Option A) → None ≡ option_map f found → found ≡ None
none_before f None is = refl
none_before f (Some value) is = absurd cc

module _ (program : Program) (entry : List ℕ) (words : List (List ℕ)) (cells method : ℕ) (found : Method) (inputs : List Input) (given : Given program entry words method inputs) (is : found ≡ method_at program method) where
  refused_by : (unmet : Option Unmet) (why : StartError) → first_unmet (method_at program method) inputs ≡ unmet → Some why ≡ option_map (refusal_of method) unmet → Refuses program entry words cells why
  refused_by None why first same = absurd cc
  refused_by (Some unmet) why first same = let is : refusal_of method unmet ≡ why = cc in subst (Refuses program entry words cells) is (not_met method inputs unmet given first)

  here : first_unmet (method_at program method) inputs ≡ first_unmet found inputs
  here = ap (λ (m : Method). first_unmet m inputs) (sym is)

  pub unmet_refuses : (why : StartError) → Some why ≡ option_map (refusal_of method) (first_unmet found inputs) → Refuses program entry words cells why
  unmet_refuses why same = refused_by (first_unmet found inputs) why here same

  pub all_met : None ≡ option_map (refusal_of method) (first_unmet found inputs) → first_unmet (method_at program method) inputs ≡ None
  all_met none = here ∙ none_before (refusal_of method) (first_unmet found inputs) none

  arrays : (types : List Type_) → types ≡ found.param_types → input_heap inputs types ≡ input_heap inputs (types_at program method)
  arrays types same = ap (input_heap inputs) (same ∙ ap (λ (m : Method). m.param_types) is)

  pub large_refuses : (types : List Type_) → types ≡ found.param_types → first_unmet (method_at program method) inputs ≡ None → cells < cells_used (input_heap inputs types) → Refuses program entry words cells error.InputsTooLarge
  large_refuses types same met large = too_large method inputs given met (omega (arith, large, ap cells_used (arrays types same)))

  pub state_is : (types : List Type_) (values : List Held) (heap : Heap) (state : State) → types ≡ found.param_types → values ≡ input_values 0 inputs → heap ≡ input_heap inputs types
      → state ≡ state_with (frame method (code_then (body_of (method_at program method)) Empty) (slots_with (method_at program method).slots values)) [] heap false → state ≡ start program method inputs
  state_is types values heap state same shown made told =
      told
      ∙ (ap (λ (vs : List Held). state_with (frame method (code_then (body_of (method_at program method)) Empty) (slots_with (method_at program method).slots vs)) [] heap false) shown
      ∙ ap (λ (h : Heap). state_with (frame method (code_then (body_of (method_at program method)) Empty) (slots_with (method_at program method).slots (input_values 0 inputs))) [] h false) (made ∙ arrays types same))

  pub state_begins : (types : List Type_) (state : State) → types ≡ found.param_types → first_unmet (method_at program method) inputs ≡ None → cells_used (input_heap inputs types) ≤ cells → state ≡ start program method inputs
      → Starts program entry words cells (Ok state)
  state_begins types state same met fits whole =
      subst (λ (s : State). Starts program entry words cells (Ok s)) (sym whole) (begins method inputs given met (omega (arith, fits, ap cells_used (arrays types same))))
