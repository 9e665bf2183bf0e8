use Rattle.std.proofs.Common.{◌≡◌, ◌++◌, ◌≤◌, drop, length}
use Rattle.std.specs.Prelude.{IsTrue}
use Rattle.std.specs.Vec.{vec_len, vec_capacity}
use Rattle.ix_facts.specs.Round.{Rises}
use Rattle.ix_facts.specs.Systems.{system_rounded}
use Rattle.ix_fact_paths.proofs.filters.rounded_facts.Given as goal

abbrev pub invariant-loop-fact : goal.invariant-loop-fact
invariant-loop-fact l = record {
  facts : l.kept.items ++ system_rounded l.marks (drop l.fact-index l.facts) ≡ system_rounded l.marks l.facts;
  short : vec_len l.kept ≤ l.fact-index;
  room : length l.facts ≤ vec_capacity l.kept;
  rises : IsTrue l.rising → Rises l.marks;
}
