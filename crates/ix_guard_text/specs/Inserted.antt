-- The insertions of a guarded text, as what is added to a text.
use Rattle.std.specs.Prelude.{List, map}
use Rattle.ix_guard_text.specs.Woven.{Added}
use Rattle.ix_guard.specs.declared.insertion.Insertion.{Insertion}

abbrev pub of_insertion : Insertion → Added
of_insertion insertion = record { place = insertion.place; bytes = insertion.text }

abbrev pub added : List Insertion → List Added
added insertions = map of_insertion insertions
