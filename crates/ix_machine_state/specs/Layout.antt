-- How the cells of objects lie.
use Rattle.std.specs.Prelude.{◌≡◌, ℕ, ◌+◌, List, [], ◌∷◌}
use Rattle.std.specs.Coded.{×_prop, Coded-set, coded_ℕ}
use Rattle.ix_machine_state.specs.declared.heap.Row.{Row}

-- The rows lie one behind the other, from this place up to that.
abbrev pub IsLaidOut : ℕ → List Row → ℕ → Type 0
IsLaidOut at [] end = at ≡ end
IsLaidOut at (row ∷ rows) end = (row.from ≡ at) × IsLaidOut (at + row.len) rows end

pub laid_out_once : (at : ℕ) (rows : List Row) (end : ℕ) → IsProp (IsLaidOut at rows end)
laid_out_once at [] end = Coded-set coded_ℕ at end
laid_out_once at (row ∷ rows) end = ×_prop (Coded-set coded_ℕ row.from at) (laid_out_once (at + row.len) rows end)
