use Rattle.std.proofs.Common.{◌≡◌, ◌++◌, All, drop}
use Rattle.ix_facts.specs.Forget.{without}
use Rattle.ix_facts.specs.After.{of_target}
use Rattle.ix_facts.specs.Small.{HasSmallNumbers}
use Rattle.ix_fact_list.proofs.fact_list.facts_beside_changed.Given as goal

abbrev pub invariant-loop-k : goal.invariant-loop-k
invariant-loop-k g l = record {
  facts : l.facts.items ++ without (of_target l.kind) (drop l.k (g.K.Know.known l.know)) ≡ without (of_target l.kind) (g.K.Know.known l.know);
  small : All HasSmallNumbers l.facts.items;
}
