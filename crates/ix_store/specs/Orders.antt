-- Facts in all their orders: a list of them, or the facts themselves.
use Rattle.std.specs.Prelude.{List, Option, Some, None}
use Rattle.ix_core.specs.declared.fact.Fact.{Fact}

abbrev pub ordered_by : List Fact → Option (List Fact) → List Fact
ordered_by facts None = facts
ordered_by facts (Some all) = all
