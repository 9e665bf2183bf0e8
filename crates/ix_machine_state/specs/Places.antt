-- What open places in the code stand for.
use Rattle.std.specs.Prelude.{ℕ, ◌-◌, ◌<◌, List, length, [], ◌∷◌, reverse, take, Bool, if◌then◌else◌}
use Rattle.ix_core.specs.Code.{Code, Condition, items_code, cond_code}
use Rattle.ix_core.specs.Tasks.{Tasks, Empty, Ask, Decide, DecideTruth, Head, Again, Out, code_then}
use Rattle.ix_machine_state.specs.declared.places.Turn.{Turn}
use Rattle.ix_machine_state.specs.declared.places.Place.{Place}
use Rattle.ix_machine_state.specs.declared.places.Place.TheVariants as place

-- the tasks after a test that holds, after one that doesn't, and after both
pub record Branches : Type 0 where
  pub when_true : Tasks
  pub when_false : Tasks
  pub after : Tasks

abbrev pub branches : Tasks → Tasks → Tasks → Branches
branches first second tasks = record { when_true = first; when_false = second; after = tasks }

abbrev pub head_of : Turn → Tasks → Tasks
head_of turn tasks = Head (cond_code turn.cond.now) (items_code turn.body.now) (items_code turn.next.now) tasks

abbrev pub again_of : Turn → Tasks → Tasks
again_of turn tasks = Again (cond_code turn.cond.now) (items_code turn.body.now) (items_code turn.next.now) tasks

abbrev mutual
  -- the tasks of open places, of which the first is the innermost
  pub tasks_of : List Place → Tasks
  tasks_of [] = Empty
  tasks_of (place.Rest items ∷ places) = code_then (items_code items.now) (tasks_of places)
  tasks_of (place.Ask cond ∷ places) = Ask (cond_code cond.now) (branches_of places).when_true (branches_of places).when_false (branches_of places).after
  tasks_of (place.Decide test ∷ places) = Decide test.now (branches_of places).when_true (branches_of places).when_false (branches_of places).after
  tasks_of (place.DecideTruth slot ∷ places) = DecideTruth slot (branches_of places).when_true (branches_of places).when_false (branches_of places).after
  tasks_of (place.Head turn ∷ places) = head_of turn (tasks_of places)
  tasks_of (place.Again turn ∷ places) = again_of turn (tasks_of places)
  tasks_of (place.Out ∷ places) = Out (tasks_of places)
  tasks_of (place.Branch first second ∷ places) = tasks_of places
  tasks_of (place.Enter turn ∷ places) = tasks_of places
  tasks_of (place.BothLeft cond ∷ places) = tasks_of places
  tasks_of (place.EitherLeft cond ∷ places) = tasks_of places
  tasks_of (place.Not ∷ places) = tasks_of places

  pub branches_of : List Place → Branches
  branches_of [] = branches Empty Empty Empty
  branches_of (place.Branch first second ∷ places) = branches (code_then (items_code first.now) Empty) (code_then (items_code second.now) Empty) (tasks_of places)
  branches_of (place.Enter turn ∷ places) = branches (code_then (items_code turn.body.now) (again_of turn Empty)) Empty (tasks_of places)
  branches_of (place.BothLeft cond ∷ places) = branches (Ask (cond_code cond.now) (branches_of places).when_true (branches_of places).when_false Empty) (branches_of places).when_false (branches_of places).after
  branches_of (place.EitherLeft cond ∷ places) = branches (branches_of places).when_true (Ask (cond_code cond.now) (branches_of places).when_true (branches_of places).when_false Empty) (branches_of places).after
  branches_of (place.Not ∷ places) = branches (branches_of places).when_false (branches_of places).when_true (branches_of places).after
  branches_of (place.Rest items ∷ places) = branches Empty Empty (code_then (items_code items.now) (tasks_of places))
  branches_of (place.Ask cond ∷ places) = branches Empty Empty (Ask (cond_code cond.now) (branches_of places).when_true (branches_of places).when_false (branches_of places).after)
  branches_of (place.Decide test ∷ places) = branches Empty Empty (Decide test.now (branches_of places).when_true (branches_of places).when_false (branches_of places).after)
  branches_of (place.DecideTruth slot ∷ places) = branches Empty Empty (DecideTruth slot (branches_of places).when_true (branches_of places).when_false (branches_of places).after)
  branches_of (place.Head turn ∷ places) = branches Empty Empty (head_of turn (tasks_of places))
  branches_of (place.Again turn ∷ places) = branches Empty Empty (again_of turn (tasks_of places))
  branches_of (place.Out ∷ places) = branches Empty Empty (Out (tasks_of places))

-- the tasks of a stack of open places, of which the last is the innermost
abbrev pub tasks_open : List Place → Tasks
tasks_open places = tasks_of (reverse places)

-- a loop that tests first begins at its head, and another at its body
abbrev pub loop_tasks : Bool → Condition → Code → Code → Tasks → Tasks
loop_tasks test_first asked body next tasks = if test_first then Head asked body next (Out tasks) else code_then body (Again asked body next (Out tasks))

-- a place that stands for a task of its own
abbrev pub IsTask : Place → Type 0
IsTask (place.Rest items) = 0 < length items.now
IsTask (place.Branch first second) = ⊥
IsTask (place.Enter turn) = ⊥
IsTask (place.BothLeft cond) = ⊥
IsTask (place.EitherLeft cond) = ⊥
IsTask place.Not = ⊥
IsTask _ = Unit {0}

-- the places outside the innermost
abbrev pub outer : List Place → List Place
outer places = take (length places - 1) places

-- The places outside of one that is done, of those that are open then: what is left of a block stays open.
abbrev pub around : Place → List Place → List Place
around (place.Rest items) places = outer places
around _ places = places

abbrev pub StaysOpen : Place → ℕ → Type 0
StaysOpen (place.Rest items) count = 0 < count
StaysOpen _ count = Unit {0}
