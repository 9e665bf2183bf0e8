use Rattle.std.proofs.Common.{◌≡◌, List}
use Rattle.ix_labels.specs.Filled.{nodes_of}
use Rattle.ix_store.specs.declared.store.Store.{Store}
use Rattle.ix_labels.proofs.Filling.{AreMade, before_in}
use Rattle.ix_errors.specs.Exactly.{AddsExactly}
use Rattle.ix_check.specs.NodeErrors.{NodeGives}
use Rattle.ix_check.proofs.Added.{AtTurn}
use Rattle.ix_check.proofs.nodes.push_of_nodes.Given as goal

abbrev pub invariant-loop-turn : goal.invariant-loop-turn
invariant-loop-turn l =
    (made : List Store) × AreMade l.labels l.turn made × (l.label ≡ before_in made l.turn) × AddsExactly (AtTurn (NodeGives l.program l.within l.number) (nodes_of l.labels) made l.turn) l.fn.out.items l.out.items
