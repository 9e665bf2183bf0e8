-- The room that open places take.
use Rattle.std.specs.Prelude.{ℕ, ◌+◌, ◌≤◌, max, List, [], ◌∷◌}
use Rattle.ix_core.specs.Code.{Code, cond_code, items_code}
use Rattle.ix_machine_state.specs.declared.places.Turn.{Turn}
use Rattle.ix_machine_state.specs.declared.places.Place.{Place}
use Rattle.ix_machine_state.specs.declared.places.Place.TheVariants as place
use Rattle.ix_machine_state.specs.declared.room.Room.{Room}
use Rattle.ix_machine_state.specs.Room.{code_above, condition_above, code_values, condition_values}

abbrev pub turn_above : Turn → ℕ
turn_above turn = 1 + max (condition_above (cond_code turn.cond.now)) (max (code_above (items_code turn.body.now)) (code_above (items_code turn.next.now)))

abbrev pub turn_values : Turn → ℕ
turn_values turn = max (condition_values (cond_code turn.cond.now)) (max (code_values (items_code turn.body.now)) (code_values (items_code turn.next.now)))

-- how many places there may be above this one, until it is gone
abbrev pub above : Place → ℕ
above (place.Rest items) = code_above (items_code items.now)
above (place.Ask cond) = condition_above (cond_code cond.now)
above (place.Decide test) = 0
above (place.DecideTruth slot) = 0
above (place.Head turn) = turn_above turn
above (place.Again turn) = turn_above turn
above place.Out = 0
above (place.Branch first second) = max (code_above (items_code first.now)) (code_above (items_code second.now))
above (place.Enter turn) = turn_above turn
above (place.BothLeft cond) = condition_above (cond_code cond.now)
above (place.EitherLeft cond) = condition_above (cond_code cond.now)
above place.Not = 0

-- how many values a call in its code passes at most
abbrev pub values : Place → ℕ
values (place.Rest items) = code_values (items_code items.now)
values (place.Ask cond) = condition_values (cond_code cond.now)
values (place.Decide test) = 0
values (place.DecideTruth slot) = 0
values (place.Head turn) = turn_values turn
values (place.Again turn) = turn_values turn
values place.Out = 0
values (place.Branch first second) = max (code_values (items_code first.now)) (code_values (items_code second.now))
values (place.Enter turn) = turn_values turn
values (place.BothLeft cond) = condition_values (cond_code cond.now)
values (place.EitherLeft cond) = condition_values (cond_code cond.now)
values place.Not = 0

-- how high these places may grow, where so many lie below them; the last is the highest
abbrev pub reach : ℕ → List Place → ℕ
reach below [] = 0
reach below (place ∷ places) = max (below + 1 + above place) (reach (below + 1) places)

abbrev pub most_values : List Place → ℕ
most_values [] = 0
most_values (place ∷ places) = max (values place) (most_values places)

-- There is room for a place above so many.
pub record IsFree (below : ℕ) (room : Room) (place : Place) : Type 0 where
  pub above : below + 1 + above place ≤ room.places
  pub values : values place ≤ room.values

-- There is room for code above so many places.
pub record IsFreeFor (below : ℕ) (room : Room) (code : Code) : Type 0 where
  pub above : below + 1 + code_above code ≤ room.places
  pub values : code_values code ≤ room.values
