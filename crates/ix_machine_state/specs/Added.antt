-- Cells behind others.
use Rattle.std.specs.Prelude.{◌≡◌, List, ◌++◌, map}
use Rattle.ix_core.specs.Heap as model
use Rattle.ix_machine_state.specs.declared.held.Held.{Held}
use Rattle.ix_machine_state.specs.Rows.{held_of}

-- The new cells are the old ones and, behind them, cells with these values.
pub record Added (old new : List Held) (shown : List model.Held) : Type 0 where
  pub more : List Held
  pub items : new ≡ old ++ more
  pub values : map held_of more ≡ shown
