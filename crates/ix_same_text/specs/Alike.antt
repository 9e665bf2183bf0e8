-- When two sources do the same in their runs.
use Rattle.std.specs.Prelude.{◌≡◌, ℕ, List, ◌++◌, map, Option, Some, option_map}
use Rattle.ix_core.specs.Machine.{Ending}
use Rattle.ix_core.specs.Safe.{Input}
use Rattle.ix_core.specs.Traces.{Observation}
use Rattle.ix_tree.specs.declared.decl.Unit.{Unit as Source}
use Rattle.ix_source.specs.Source.{Shown, source}
use Rattle.ix_same_code.specs.Bare.{bare_ending, bare_seen}

-- They end alike and show the same, but for places.
pub record Alike (shown other : Shown) : Type 0 where
  pub ending : option_map bare_ending shown.ending ≡ option_map bare_ending other.ending
  pub events : map bare_seen shown.events ≡ map bare_seen other.events
  pub wrapped : shown.wrapped ≡ other.wrapped

-- Each run of the first that ends is one of the second, and what a run of the first shows the second shows first.
pub record Follows (unit other : Source) (method : ℕ) (inputs : List Input) : Type 0 where
  pub ends : (n : ℕ) (ending : Ending) → (source unit method inputs n).ending ≡ Some ending → (m : ℕ) × Alike (source unit method inputs n) (source other method inputs m)
  pub shows : (n : ℕ) → (m : ℕ) × (rest : List Observation) × (map bare_seen (source other method inputs m).events ≡ map bare_seen (source unit method inputs n).events ++ rest)

-- Each does what the other does.
pub record SameSource (unit other : Source) (method : ℕ) (inputs : List Input) : Type 0 where
  pub on : Follows unit other method inputs
  pub back : Follows other unit method inputs
