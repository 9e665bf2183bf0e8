-- Which arrays have the same length because one int is the length of both: each with the first array of which the int is the length.
use Rattle.std.specs.Prelude.{cond, List, [], ◌∷◌, ◌++◌, Option, Some, None}
use Rattle.ix_core.specs.declared.fact.Path.{Path}
use Rattle.ix_core.specs.declared.fact.Fact.{Fact}
use Rattle.ix_core.specs.declared.fact.Fact.TheVariants.{Same, IsLen}
use Rattle.ix_facts.specs.Bounds.{is_path}

abbrev pub first_of : List (Path × Path) → Path → Option Path
first_of [] p = None
first_of (entry ∷ firsts) p = cond (is_path entry.0 p) (Some entry.1) (first_of firsts p)

abbrev pub link : Option Path → Path → List Fact
link None a = []
link (Some b) a = Same b a ∷ []

abbrev pub with_first : Option Path → List (Path × Path) → Path → Path → List (Path × Path)
with_first None firsts p a = firsts ++ (p, a) ∷ []
with_first (Some b) firsts p a = firsts

abbrev pub links : List (Path × Path) → List Fact → List Fact
links firsts [] = []
links firsts (IsLen p a ∷ facts) = link (first_of firsts p) a ++ links (with_first (first_of firsts p) firsts p a) facts
links firsts (_ ∷ facts) = links firsts facts
