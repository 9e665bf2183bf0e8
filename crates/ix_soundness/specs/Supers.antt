-- Where calls of the parent's constructor stand in what a constructor still has to do: at most one, and as an item of the body itself (JLS 8.8.7.1).
use Rattle.std.specs.Prelude.{◌≡◌, ◌≤◌, Bool, true, false}
use Rattle.ix_core.specs.Code.{Code}
use Rattle.ix_core.specs.Formed.{super_calls, super_calls_in, own_super_calls}
use Rattle.ix_core.specs.Tasks.{Tasks, Empty, Run, Ask, Decide, DecideTruth, Head, Again, Out}

-- In code before these tasks: none, but in the body's own items where it is still to come.
abbrev pub SuperEnds : Bool → Code → Tasks → Type 0
SuperEnds false code tasks = super_calls code ≡ 0
SuperEnds true code Empty = (super_calls code ≡ own_super_calls code) × (own_super_calls code ≤ 1)
SuperEnds true code _ = super_calls code ≡ 0

-- `true`: the call may be still to come.
abbrev pub Supers : Bool → Tasks → Type 0
Supers new Empty = Unit {0}
Supers new (Run code tasks) = SuperEnds new code tasks × Supers new tasks
Supers new (Ask asked first second tasks) = (super_calls_in asked ≡ 0) × Supers false first × Supers false second × Supers new tasks
Supers new (Decide test first second tasks) = Supers false first × Supers false second × Supers new tasks
Supers new (DecideTruth slot first second tasks) = Supers false first × Supers false second × Supers new tasks
Supers new (Head asked body next tasks) = (super_calls_in asked ≡ 0) × (super_calls body ≡ 0) × (super_calls next ≡ 0) × Supers new tasks
Supers new (Again asked body next tasks) = (super_calls_in asked ≡ 0) × (super_calls body ≡ 0) × (super_calls next ≡ 0) × Supers new tasks
Supers new (Out tasks) = Supers new tasks
