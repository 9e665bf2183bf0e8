use Rattle.std.proofs.Common.{◌≡◌, ◌++◌, ◌≤◌, drop, length}
use Rattle.std.specs.Vec.{vec_len, vec_capacity}
use Rattle.ix_fact_paths.specs.ByPath.{paths_in, facts_in}
use Rattle.ix_fact_paths.proofs.by_path.paths_and_facts.Given as goal

abbrev pub invariant-loop-entry : goal.invariant-loop-entry
invariant-loop-entry l = record {
  paths : l.paths.items ++ paths_in (drop l.entry-index l.entries) ≡ paths_in l.entries;
  facts : l.facts.items ++ facts_in (drop l.entry-index l.entries) ≡ facts_in l.entries;
  paths_short : vec_len l.paths ≡ l.entry-index;
  facts_short : vec_len l.facts ≡ l.entry-index;
  paths_room : length l.entries ≤ vec_capacity l.paths;
  facts_room : length l.entries ≤ vec_capacity l.facts;
}
