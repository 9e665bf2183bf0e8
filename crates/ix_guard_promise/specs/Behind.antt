-- An action of a guarded text beside that of its source.
use Rattle.std.specs.Prelude.{◌≡◌, ℕ, List}
use Rattle.ix_core.specs.Heap.{Held}
use Rattle.ix_core.specs.Machine.{Ending}
use Rattle.ix_source.specs.Context.{Context, Calls}
use Rattle.ix_source.specs.Runs.{Now, Result, Gives, Stops, Cuts, Action}
use Rattle.ix_source.specs.Values.{Target, Variable, FieldOf, Cell}
use Rattle.ix_guard_text.specs.Moved.{Move}
use Rattle.ix_guard_text.specs.GuardedNames.{SaysMoved}
use Rattle.ix_guard_promise.specs.Follows.{printed, SameEnding, IsOfGuard, IsFirst}

-- Two runs have come to the same, but for the places of what was seen.
pub record Like (new old : Now) : Type 0 where
  pub variables : new.variables ≡ old.variables
  pub heap : new.heap ≡ old.heap
  pub wrapped : new.wrapped ≡ old.wrapped
  pub events : printed new.events ≡ printed old.events

abbrev pub now_of : {A : Type 0} → Result A → Now
now_of (Gives value now) = now
now_of (Stops ending now) = now
now_of (Cuts now) = now

abbrev pub PrintedFirst : Now → Now → Type 0
PrintedFirst first whole = IsFirst (printed first.events) (printed whole.events)

-- the action only adds to what was printed
abbrev pub Shows : {A : Type 0} → Action A → Type 0
Shows action = (now : Now) → PrintedFirst now (now_of (action now))

module _ (move : Move) where
  -- The new one comes to what the old one comes to, with such values; or a guard threw before, and what was printed the old one printed first.
  pub data Behind {A : Type 0} (Same : A → A → Type 0) : Result A → Result A → Type 0 where
    both_give : (value other : A) (new old : Now) → Same value other → Like new old → Behind Same (Gives value new) (Gives other old)
    both_stop : (ending other : Ending) (new old : Now) → SameEnding ending other → Like new old → Behind Same (Stops ending new) (Stops other old)
    both_cut : (new old : Now) → Like new old → Behind Same (Cuts new) (Cuts old)
    thrown : (ending : Ending) (new : Now) (old : Result A) → IsOfGuard move ending → PrintedFirst new (now_of old) → Behind Same (Stops ending new) old

  abbrev pub FollowsBy : {A : Type 0} → (A → A → Type 0) → Action A → Action A → Type 0
  FollowsBy Same new old = (n o : Now) → Like n o → Behind Same (new n) (old o)

  -- with the same values
  abbrev pub Follows : {A : Type 0} → Action A → Action A → Type 0
  Follows new old = FollowsBy (λ value other. value ≡ other) new old

  -- the same parts of a target, but for the place of a cell
  abbrev pub SameTarget : Target → Target → Type 0
  SameTarget (Variable one) (Variable other) = one ≡ other
  SameTarget (FieldOf object field) (FieldOf other number) = (object ≡ other) × (field ≡ number)
  SameTarget (Cell array index place) (Cell other at from) = (array ≡ other) × (index ≡ at)
  SameTarget _ _ = ⊥

  -- Calls of the new source follow those of the old one, which only add to what was printed.
  pub record CallsFollow (new old : Calls) : Type 0 where
    pub method : (number : ℕ) (this : Held) (given : List Held) → Follows (new.method number this given) (old.method number this given)
    pub method_shows : (number : ℕ) (this : Held) (given : List Held) → Shows (old.method number this given)
    pub construct : (class : ℕ) (this : Held) (given : List Held) → Follows (new.construct class this given) (old.construct class this given)
    pub construct_shows : (class : ℕ) (this : Held) (given : List Held) → Shows (old.construct class this given)

  -- The context of the new source says of each place moved what the old one says of the place.
  pub record ContextFollows (new old : Context) : Type 0 where
    pub names : SaysMoved old.names new.names move
    pub members : new.members ≡ old.members
    pub calls : CallsFollow new.calls old.calls
    pub turns : new.turns ≡ old.turns
