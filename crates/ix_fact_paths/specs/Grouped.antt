-- Facts with those on each path at hand: of few facts all, of many those that name the path.
use Rattle.std.specs.Prelude.{ℕ, cond, nat_le, List, length}
use Rattle.ix_core.specs.declared.fact.Path.{Path}
use Rattle.ix_core.specs.declared.fact.Fact.{Fact}
use Rattle.ix_fact_paths.specs.declared.grouped.Grouped.{Grouped}
use Rattle.ix_fact_paths.specs.declared.grouped.Grouped.TheVariants.{Few, ByPath}
use Rattle.ix_fact_paths.specs.ByPath.{on_index, on_it}

-- up to how many facts all are on each path
abbrev pub few : ℕ
few = 8

abbrev pub on_list : List Fact → Path → List Fact
on_list facts p = cond (nat_le (length facts) few) facts (on_it p facts)

abbrev pub on_grouped : Grouped → Path → List Fact
on_grouped (Few facts) p = facts.items
on_grouped (ByPath index) p = on_index index p
