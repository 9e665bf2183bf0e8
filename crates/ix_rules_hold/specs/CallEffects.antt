-- What a call that returns is, and whose fields it leaves as they were, besides those that are final (JLS 15.12.4, 12.5, 17.5; Checker Framework manual,
-- "Type refinement": a method that is marked as free of side effects changes nothing that was known).
use Rattle.std.specs.Prelude.{◌≡◌, ℕ, ◌<◌, Bool, ◌||◌, length, None}
use Rattle.ix_core.specs.declared.program.Method.{Method}
use Rattle.ix_core.specs.Machine.{Limits, State, run}
use Rattle.ix_core.specs.Tables.{Tables}
use Rattle.ix_rules_hold.specs.MachineSteps.{own_slot}

-- Every object where the callee is free of side effects, else `this` of a constructor, to which no callee but the parent's constructor has a reference.
abbrev pub spared_in : Method → Method → ℕ → Bool
spared_in caller callee slot = callee.effect_free || own_slot caller slot

-- So many steps behind a state that calls, the call has returned: the run goes on, no more frames wait than at the call, and till then more did.
pub record HasReturned (limits : Limits) (tables : Tables) (state : State) (steps : ℕ) : Type 0 where
  pub begun : 0 < steps
  pub deeper : (count : ℕ) → 0 < count → count < steps → length state.below < length (run limits tables count state).below
  pub back : length (run limits tables steps state).below ≡ length state.below
  pub goes_on : (run limits tables steps state).ended ≡ None
