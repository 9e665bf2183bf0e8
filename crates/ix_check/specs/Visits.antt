-- How many visits of nodes the errors of a program take at most: the sum over its methods of what their least labels take.
use Rattle.std.specs.Prelude.{◌≡◌, ℕ, zero, suc, ◌+◌, ◌≤◌, length}
use Rattle.ix_core.specs.declared.fact.Profile.{Profile}
use Rattle.ix_core.specs.declared.program.Program.{Program}
use Rattle.ix_core.specs.Tables.{method_at}
use Rattle.ix_labels.specs.Visits.{MostVisits}

-- what the first so many methods take at most in all
abbrev pub MostVisitsBelow : Program → Profile → ℕ → ℕ → Type 0
MostVisitsBelow program profile zero most = most ≡ 0
MostVisitsBelow program profile (suc count) most =
    (before : ℕ) × (last : ℕ) × MostVisitsBelow program profile count before × MostVisits program (method_at program count) profile last × (most ≡ before + last)

-- from `before` on no more were counted than the first so many methods take
abbrev pub VisitsOfFirst : Program → Profile → ℕ → ℕ → ℕ → Type 0
VisitsOfFirst program profile count before after = (most : ℕ) × MostVisitsBelow program profile count most × (after ≤ before + most)

-- than all methods take
abbrev pub AllVisitsWithin : Program → Profile → ℕ → ℕ → Type 0
AllVisitsWithin program profile before after = VisitsOfFirst program profile (length program.methods) before after
