-- The facts on the arrays of which facts say that they have an array's length.
use Rattle.std.specs.Prelude.{List, []}
use Rattle.ix_core.specs.declared.fact.Path.{Path}
use Rattle.ix_core.specs.declared.fact.Fact.{Fact}
use Rattle.ix_core.specs.declared.fact.Fact.TheVariants.{Same}
use Rattle.ix_facts.specs.Bounds.{is_path}
use Rattle.ix_facts.specs.Exact.{if_so}

-- where the fact says that an array has the length of a, the facts on that array
abbrev pub alike_on : (Path → List Fact) → Path → Fact → List Fact
alike_on group a (Same b c) = if_so (is_path c a) (group b)
alike_on group a _ = []
