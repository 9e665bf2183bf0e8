-- Differences and lengths: the facts that alone tell how far two ints are apart.
use Rattle.std.specs.Prelude.{Bool, true, false, List, filter}
use Rattle.ix_core.specs.declared.fact.Fact.{Fact}
use Rattle.ix_core.specs.declared.fact.Fact.TheVariants.{IsLen, Less}

-- The fact says that an int is less than another, or that it is a length.
abbrev pub is_link : Fact → Bool
is_link (IsLen p a) = true
is_link (Less p q c) = true
is_link _ = false

abbrev pub links_in : List Fact → List Fact
links_in facts = filter is_link facts
