use Rattle.std.proofs.Common.{get_or, ◌≡◌, ◌<◌, [], ◌∷◌, ◌++◌, length, arith, subst, sym, ap}
use Rattle.ix_graph.specs.declared.node.Node.{Node}
use Rattle.ix_graph.specs.Built.{kind_of}
use Rattle.ix_labels.specs.Filled.{nodes_of, IsLabel}
use Rattle.ix_labels.specs.Runs.{node_in_turn}
use Rattle.ix_store.specs.StoredFacts.{stored}
use Rattle.ix_labels.proofs.Filling.{AreMade, none_made, one_made, last_label, ordered, all_filled}
use Rattle.ix_errors.specs.Exactly.{AddsExactly}
use Rattle.ix_check.specs.NodeErrors.{NodeGives}
use Rattle.ix_check.proofs.Added.{AtTurn, adds_none, none_yet, next_made, all_made}
use Rattle.ix_check.proofs.nodes.push_of_nodes.Goals as goal

pub node_in_turn-at-requires : goal.node_in_turn-at-requires
node_in_turn-at-requires c = subst (λ ns. c.loop-turn.turn < length ns) c.nodes-nodes.ensures c.loop-turn-test.true

pub bounds-nodes-at : goal.bounds-nodes-at
bounds-nodes-at c = subst (λ ns. c.node_in_turn-at.result < length ns) (sym c.nodes-nodes.ensures) c.node_in_turn-at.ensures.within

pub loop-turn-init : goal.loop-turn-init
loop-turn-init c = (
  [],
  none_made c.args.labels.now,
  c.unreachable-label.ensures.store,
  adds_none _ c.args.out.now.items (none_yet (NodeGives c.args.program.now c.args.within.now c.args.number) (nodes_of c.args.labels.now) []),
)

pub loop-turn-preserved : goal.loop-turn-preserved
loop-turn-preserved c =
    let labels = c.args.labels.now in
    let turn = c.loop-turn.turn in
    let at = c.node_in_turn-at.result in
    let made = c.loop-turn.invariant.0 in
    let are = c.loop-turn.invariant.1 in
    let label = c.in_ok-label.label in
    let nodes_are = c.nodes-nodes.ensures in
    let at_is = c.node_in_turn-at.ensures.node in
    let node_is = subst (λ ns. c.index-nodes-at.result ≡ get_or ns at c.index-nodes-at.result) nodes_are c.index-nodes-at.is in
    let gives = NodeGives c.args.program.now c.args.within.now c.args.number in
    let is = subst (λ b. IsLabel labels (node_in_turn (length (nodes_of labels)) turn) b label) c.loop-turn.invariant.2 (subst (λ n. IsLabel labels n c.loop-turn.label label) at_is c.in_ok-label.ensures) in (
      made ++ label ∷ [],
      one_made labels turn made label are is,
      last_label made label turn are.many,
      next_made gives (nodes_of labels) made label turn are.many c.index-nodes-at.result _ _ _ at at_is c.node_in_turn-at.ensures.within node_is c.loop-turn.invariant.3
          (subst (λ (n : Node). AddsExactly (gives (kind_of n.kind) (stored label)) c.loop-turn.out.items c.push_of_node.new.out.items) (sym c.index-nodes-at.is) c.in_ok-push_of_node.ensures),
    )

pub returns : goal.returns
returns c =
    let labels = c.args.labels.now in
    let made = c.loop-turn.invariant.0 in
    let nodes_are = c.nodes-nodes.ensures in
    let many = ap length nodes_are in
    let all : c.loop-turn.turn ≡ length (nodes_of labels) = omega (arith, c.loop-turn-test.false, c.loop-turn.auto.turn-end, many) in
    let are = subst (λ n. AreMade labels n made) all c.loop-turn.invariant.1 in
    record {
      all = ordered (length (nodes_of labels)) made;
      filled = all_filled labels made are;
      added = all_made (NodeGives c.args.program.now c.args.within.now c.args.number) (nodes_of labels) made c.args.out.now.items c.loop-turn.out.items are.many
          (subst (λ n. AddsExactly (AtTurn (NodeGives c.args.program.now c.args.within.now c.args.number) (nodes_of labels) made n) c.args.out.now.items c.loop-turn.out.items) all c.loop-turn.invariant.3);
    }
