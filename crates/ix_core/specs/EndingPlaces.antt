-- What holds of the place where a run stops.
use Rattle.std.specs.Prelude.{ℕ, Option, Some, None}
use Rattle.ix_core.specs.Machine.{Ending}
use Rattle.ix_core.specs.Machine as ending

-- A run that ends with a value stops nowhere.
abbrev pub EndingPlace : (ℕ → Type 0) → Ending → Type 0
EndingPlace P (ending.Ended value) = Unit {0}
EndingPlace P (ending.Outside index size at) = P at
EndingPlace P (ending.Negative size at) = P at
EndingPlace P (ending.NullUsed at) = P at
EndingPlace P (ending.ZeroDivisor at) = P at
EndingPlace P (ending.Thrown name at) = P at
EndingPlace P (ending.HeapFull at) = P at
EndingPlace P (ending.FrameFull at) = P at

-- It is so where a run has stopped, if it has.
abbrev pub EndPlace : (ℕ → Type 0) → Option Ending → Type 0
EndPlace P None = Unit {0}
EndPlace P (Some how) = EndingPlace P how
