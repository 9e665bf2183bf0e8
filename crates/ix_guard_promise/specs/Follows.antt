-- What a run of a guarded text shows, beside the run of its source: the same, or as much of it as was printed before a guard threw.
use Rattle.std.specs.Prelude.{◌≡◌, List, [], ◌∷◌, ◌++◌, Some, None, codes}
use Rattle.ix_core.specs.Heap.{Held}
use Rattle.ix_core.specs.Machine.{Ending, Ended, Outside, Negative, NullUsed, ZeroDivisor, Thrown, HeapFull, FrameFull}
use Rattle.ix_core.specs.Traces.{Observation, Printed, Accessed}
use Rattle.ix_source.specs.Source.{Shown}
use Rattle.ix_guard_text.specs.Moved.{Move}
use Rattle.ix_guard_text.specs.TestParts.{IsNew}

-- the values that are printed, first to last
abbrev pub printed : List Observation → List Held
printed [] = []
printed (Printed value ∷ events) = value ∷ printed events
printed (Accessed access ∷ events) = printed events

-- the same ending, wherever it comes about
abbrev pub SameEnding : Ending → Ending → Type 0
SameEnding (Ended one) (Ended other) = one ≡ other
SameEnding (Outside index size place) (Outside other length at) = (index ≡ other) × (size ≡ length)
SameEnding (Negative size place) (Negative other at) = size ≡ other
SameEnding (NullUsed place) (NullUsed at) = Unit {0}
SameEnding (ZeroDivisor place) (ZeroDivisor at) = Unit {0}
SameEnding (Thrown name place) (Thrown other at) = name ≡ other
SameEnding (HeapFull place) (HeapFull at) = Unit {0}
SameEnding (FrameFull place) (FrameFull at) = Unit {0}
SameEnding _ _ = ⊥

-- A guard threw: the throw stands where nothing of the source begins.
abbrev pub IsOfGuard : Move → Ending → Type 0
IsOfGuard move (Thrown name place) = (name ≡ codes "IndexOutOfBoundsException") × IsNew move place
IsOfGuard move _ = ⊥

-- what was printed first, of all that was printed
abbrev pub IsFirst : List Held → List Held → Type 0
IsFirst first whole = (rest : List Held) × (whole ≡ first ++ rest)

-- The new run ends as the old one does, and prints the same; or a guard threw, or the new run was cut, and what it printed the old one printed first.
pub data FollowsRun (move : Move) (new old : Shown) : Type 0 where
  same : (ending other : Ending) → new.ending ≡ Some ending → old.ending ≡ Some other → SameEnding ending other → printed new.events ≡ printed old.events → FollowsRun move new old
  thrown : (ending : Ending) → new.ending ≡ Some ending → IsOfGuard move ending → IsFirst (printed new.events) (printed old.events) → FollowsRun move new old
  cut : new.ending ≡ None → IsFirst (printed new.events) (printed old.events) → FollowsRun move new old
