-- How a run of a stated number of steps ends.
use Rattle.std.specs.Prelude.{ℕ, ◌≤◌, Option, None, Some}
use Rattle.std.specs.List.{AllByRecursion}
use Rattle.ix_core.specs.EndingPlaces.{EndPlace}
use Rattle.ix_core.specs.declared.program.Program.{Program}
use Rattle.ix_core.specs.Machine as machine
use Rattle.ix_core.specs.Tables.{tables_of}
use Rattle.ix_core.specs.Traces.{Observation, Printed, Accessed, trace}
use Rattle.ix_runs.specs.declared.running.RunEnd.{RunEnd}
use Rattle.ix_runs.specs.declared.running.RunEnd.TheVariants.{Ended, Stopped, StepsSpent}

abbrev pub end_of : Option machine.Ending → RunEnd
end_of None = StepsSpent
end_of (Some (machine.Ended value)) = Ended
end_of (Some _) = Stopped

-- Where a run stops within so many steps, it stops in a text of so many bytes, or at its end.
abbrev pub RunWithin : ℕ → Program → machine.Limits → ℕ → machine.State → Type 0
RunWithin end program limits steps state = EndPlace (λ at. at ≤ end) (machine.run limits (tables_of program) steps state).ended

abbrev pub IsSeenIn : ℕ → Observation → Type 0
IsSeenIn end (Printed value) = Unit {0}
IsSeenIn end (Accessed access) = access.place ≤ end

-- So does each access of so many steps.
abbrev pub TraceWithin : ℕ → Program → machine.Limits → ℕ → machine.State → Type 0
TraceWithin end program limits steps state = AllByRecursion (IsSeenIn end) (trace limits (tables_of program) steps state)
