-- The slot that is spared, as code tells it.
use Rattle.std.specs.Prelude.{ℕ, Bool, true, false, Option, Some, None}

-- slot 0, or none
abbrev pub this_if : Bool → Option ℕ
this_if true = Some 0
this_if false = None
