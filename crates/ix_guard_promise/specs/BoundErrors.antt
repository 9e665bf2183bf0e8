-- The errors of bounds: access.low and access.high.
use Rattle.std.specs.Prelude.{◌≡◌, ◌⊎◌, ℕ}
use Rattle.ix_core.specs.declared.error.Error.{Error}
use Rattle.ix_core.specs.declared.program.Method.{Method}
use Rattle.ix_core.specs.declared.program.Program.{Program}
use Rattle.ix_facts.specs.Stores.{Stored}
use Rattle.ix_flow.specs.Flow.{Point}
use Rattle.ix_sign.specs.RuleErrors.{PointErrors}

-- the rules on an index that may be too low and on one that may be too high
abbrev pub IsOfBounds : Error → Type 0
IsOfBounds error = (error.rule ≡ 1) ⊎ (error.rule ≡ 2)

-- The store doesn't give the error at the point.
abbrev pub GivesNo : Program → Method → ℕ → Error → ℕ → Point → Stored → Type 0
GivesNo program method number error rank point store = PointErrors program method number point store error rank → ⊥
