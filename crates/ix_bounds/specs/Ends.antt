-- Ranges, classes and lengths: the facts that alone give the ends of an int's or a length's range, and say which length an int is.
use Rattle.std.specs.Prelude.{Bool, true, false, List, filter}
use Rattle.ix_core.specs.declared.fact.Fact.{Fact}
use Rattle.ix_core.specs.declared.fact.Fact.TheVariants.{Rng, LenRng, Low, IsLen}

-- The fact is a range, the class of an int, or says that an int is a length.
abbrev pub is_end : Fact → Bool
is_end (Rng p l h) = true
is_end (LenRng a l h) = true
is_end (Low p c) = true
is_end (IsLen p a) = true
is_end _ = false

abbrev pub ends_in : List Fact → List Fact
ends_in facts = filter is_end facts
