-- The kinds of facts: each fact is of just one of six, in whichever order it stands. A system is a table of the facts of one kind, a store has facts of any.
use Rattle.std.specs.Prelude.{Bool, true, false, cond, List, [], ◌∷◌}
use Rattle.ix_core.specs.declared.fact.Fact.{Fact}
use Rattle.ix_core.specs.declared.fact.Fact.TheVariants.{Rng, LenRng, Low, Same, IsLen, Less, Sum, Search, Neg, Upper}
use Rattle.ix_facts.specs.declared.kind.Kind.{Kind}
use Rattle.ix_facts.specs.declared.kind.Kind.TheVariants as kind

abbrev pub kind_of : Fact → Kind
kind_of (Rng p l h) = kind.Range
kind_of (LenRng a l h) = kind.Range
kind_of (Low p c) = kind.Low
kind_of (Same a b) = kind.Length
kind_of (IsLen p a) = kind.Length
kind_of (Less p q c) = kind.Difference
kind_of (Sum t y z) = kind.Difference
kind_of (Search p a) = kind.Search
kind_of (Neg p a) = kind.Search
kind_of (Upper p a o c) = kind.Upper

abbrev pub is_kind : Kind → Kind → Bool
is_kind kind.Any _ = true
is_kind kind.Range kind.Range = true
is_kind kind.Low kind.Low = true
is_kind kind.Length kind.Length = true
is_kind kind.Difference kind.Difference = true
is_kind kind.Search kind.Search = true
is_kind kind.Upper kind.Upper = true
is_kind _ _ = false

abbrev pub is_of : Kind → Fact → Bool
is_of own fact = is_kind own (kind_of fact)

-- the facts of a kind
abbrev pub of_kind : Kind → List Fact → List Fact
of_kind own [] = []
of_kind own (fact ∷ facts) = cond (is_of own fact) (fact ∷ of_kind own facts) (of_kind own facts)
