-- The arrays of which facts say that they have the length of another, or that an int is their length; each with what stands for its class.
use Rattle.std.specs.Prelude.{List, [], ◌∷◌, ◌++◌}
use Rattle.ix_core.specs.declared.fact.Path.{Path}
use Rattle.ix_core.specs.declared.fact.Fact.{Fact}
use Rattle.ix_core.specs.declared.fact.Fact.TheVariants.{LenRng, Same, IsLen, Search, Neg}
use Rattle.ix_facts.specs.Bounds.{is_path}
use Rattle.ix_facts.specs.Exact.{if_so}
use Rattle.ix_fact_table.specs.Classes.{Roots, root_of}

abbrev pub listed_by : Fact → List Path
listed_by (Same a b) = a ∷ b ∷ []
listed_by (IsLen p a) = a ∷ []
listed_by _ = []

abbrev pub all_listed : List Fact → List Path
all_listed [] = []
all_listed (fact ∷ facts) = listed_by fact ++ all_listed facts

-- each array with what stands for its class
abbrev pub labels_of : Roots → List Path → Roots
labels_of roots [] = []
labels_of roots (a ∷ arrays) = (a, root_of roots a) ∷ labels_of roots arrays

-- a fact of an array, said of another
abbrev pub said_of : Fact → Path → Fact
said_of (LenRng a l h) b = LenRng b l h
said_of (Same a c) b = Same a b
said_of (IsLen p a) b = IsLen p b
said_of (Search p a) b = Search p b
said_of (Neg p a) b = Neg p b
said_of fact b = fact

-- of each labelled array of a class what a fact says
abbrev pub over_class : Path → Fact → Roots → List Fact
over_class root fact [] = []
over_class root fact (label ∷ labels) = if_so (is_path label.1 root) (said_of fact label.0 ∷ []) ++ over_class root fact labels
