-- The meaning of a source: what is seen of a run of one of its methods, and how it ends.
use Rattle.std.specs.Prelude.{ℕ, Bool, false, List, [], map, slice_get, Option, Some, None}
use Rattle.ix_text.specs.declared.span.Span.{Span}
use Rattle.ix_core.specs.declared.claim.Type_.{Type_}
use Rattle.ix_core.specs.Heap.{Held, Null}
use Rattle.ix_core.specs.Machine.{Ending, Ended, result_shown}
use Rattle.ix_core.specs.Safe.{Input, input_values, input_heap}
use Rattle.ix_tree.specs.declared.decl.Unit.{Unit as Source}
use Rattle.ix_meaning.specs.Resolved.{Names, names}
use Rattle.ix_core.specs.Traces.{Observation}
use Rattle.ix_source.specs.Runs.{Now, Result, Gives, Stops, Cuts}
use Rattle.ix_source.specs.Context.{type_declared}
use Rattle.ix_source.specs.Bodies.{Written, Whole, whole, variables, method_run, context_of, calls_within}

-- What a run shows. It has no ending where it was cut.
pub record Shown : Type 0 where
  pub ending : Option Ending
  pub events : List Observation
  pub wrapped : Bool

abbrev pub shown : Option Ending → Now → Shown
shown ending now = record { ending = ending; events = now.events; wrapped = now.wrapped }

abbrev pub shown_by : Result (Option Held) → Shown
shown_by (Gives result now) = shown (Some (Ended (result_shown now.heap result))) now
shown_by (Stops ending now) = shown (Some ending) now
shown_by (Cuts now) = shown None now

abbrev pub types_of : Names → Option Written → List Type_
types_of names None = []
types_of names (Some method) = map (λ (param : Span). type_declared (names.declared param)) method.params

-- each input array is an array of its own
abbrev pub begun : Names → Option Written → List Input → Now
begun names method inputs = record { variables = variables Null []; heap = input_heap inputs (types_of names method); events = []; wrapped = false }

abbrev pub run_of : Whole → ℕ → List Input → ℕ → Shown
run_of w method inputs n =
    shown_by (method_run (context_of w n (calls_within w n n)) (slice_get w.methods method) Null (input_values 0 inputs) (begun w.names (slice_get w.methods method) inputs))

-- The run of the method with that number, where each entry into a loop makes at most n turns and calls nest at most n deep.
abbrev pub source : Source → ℕ → List Input → ℕ → Shown
source unit method inputs n = run_of (whole (names unit) unit.classes) method inputs n
