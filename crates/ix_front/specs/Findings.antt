-- What a finding of the code says, and where it stands.
use Rattle.std.specs.Prelude.{ℕ, ◌≤◌}
use Rattle.ix_core.specs.Formed.{Formed}
use Rattle.ix_core.specs.CodePlaces.{PlacesWithin}
use Rattle.ix_core.specs.Ready.{CanCheck}
use Rattle.ix_report.specs.Names.{StartWithin}
use Rattle.ix_front.specs.declared.finding.Finding.{Finding as Seen}
use Rattle.ix_front.specs.declared.finding.Finding.TheVariants as code
use Rattle.ix_front.specs.Found.{Finding, TooLong, Broken, Past, Misnamed, Whole}

abbrev pub seen : Seen → Finding
seen code.TooLong = TooLong
seen (code.Broken at key) = Broken at key.now
seen (code.Past at name) = Past at name.now
seen (code.Misnamed errors) = Misnamed errors
seen (code.Whole program) = Whole program

-- The place of each error or limit is not behind the end of the text, and so is each place that the program names.
abbrev pub IsPlaced : ℕ → Finding → Type 0
IsPlaced end (Broken at key) = at ≤ end
IsPlaced end (Past at name) = at ≤ end
IsPlaced end (Misnamed errors) = StartWithin end errors
IsPlaced end (Whole program) = PlacesWithin end program
IsPlaced end TooLong = Unit {0}

-- The plain form of a source is formed, and one that can be checked.
abbrev pub HasFormed : Finding → Type 0
HasFormed (Whole program) = Formed program × CanCheck program
HasFormed _ = Unit {0}
