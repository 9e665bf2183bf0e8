use Rattle.std.proofs.Common.{◌≡◌, ◌+◌, ◌∷◌, drop}
use Rattle.ix_fact_table.proofs.RisingSteps.{Kept}
use Rattle.ix_fact_table.proofs.KeptFronts.{Fronts}
use Rattle.ix_fact_table.proofs.rising.kept_front.Given as goal

abbrev pub invariant-loop-fact : goal.invariant-loop-fact
invariant-loop-fact l = record {
  count : l.count ≡ l.fact-index + 1;
  here : drop l.fact-index l.facts ≡ l.last ∷ drop l.fact-index l.more;
  kept : Kept l.kind l.last;
  front : Fronts l.kind l.facts l.fact-index l.last;
}
