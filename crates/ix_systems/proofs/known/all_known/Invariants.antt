use Rattle.std.proofs.Common.{◌≡◌, All, take}
use Rattle.ix_facts.specs.Small.{HasSmallNumbers}
use Rattle.ix_systems.proofs.known.all_known.Given as goal

abbrev pub invariant-loop-k : goal.invariant-loop-k
invariant-loop-k g l = record {
  facts : l.facts.items ≡ take l.k (g.K.Know.known l.know);
  small : All HasSmallNumbers l.facts.items;
}
