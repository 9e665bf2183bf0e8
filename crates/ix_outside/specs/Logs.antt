-- What was done with a source or a sink, and what it is after one thing more.
use Rattle.std.specs.Prelude.{ℕ, ◌+◌, List, [], ◌∷◌, ◌++◌}
use Rattle.ix_outside.specs.Outside.{add_last}
use Rattle.ix_outside.specs.declared.logs.SourceLog.{SourceLog}
use Rattle.ix_outside.specs.declared.logs.SinkLog.{SinkLog}

-- ---- sources: the names that were to be opened, the bytes handed out of each of their files, the count of reads, and of those before the last of these names

abbrev pub untouched : SourceLog
untouched = record { names = []; given = []; reads = 0; reads_before = 0 }

-- a file of that name was to be opened, whatever came of it
abbrev pub opening : List ℕ → SourceLog → SourceLog
opening name log = record { names = log.names ++ (name ∷ []); given = log.given ++ [] ∷ []; reads = log.reads; reads_before = log.reads }

-- it was read from, and handed out these bytes
abbrev pub reading : List ℕ → SourceLog → SourceLog
reading bytes log = record { names = log.names; given = add_last bytes log.given; reads = log.reads + 1; reads_before = log.reads_before }

-- it was read from, and handed out nothing
abbrev pub failing : SourceLog → SourceLog
failing log = record { names = log.names; given = log.given; reads = log.reads + 1; reads_before = log.reads_before }

-- ---- sinks: the bytes taken, and how many writes were refused

abbrev pub empty : SinkLog
empty = record { taken = []; refused = 0 }

-- it took these bytes
abbrev pub taking : List ℕ → SinkLog → SinkLog
taking bytes log = record { taken = log.taken ++ bytes; refused = log.refused }

-- it refused a write
abbrev pub refusing : SinkLog → SinkLog
refusing log = record { taken = log.taken; refused = log.refused + 1 }
