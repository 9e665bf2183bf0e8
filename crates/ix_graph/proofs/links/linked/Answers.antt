use Rattle.std.proofs.Common.{◌≡◌, List, map, length, arith, sym, ap, ◌∙◌}
use Rattle.std.proofs.lemmas.List.{get_or_default, length-map}
use Rattle.ix_graph.specs.declared.node.Edge.TheVariants.{Next}
use Rattle.ix_graph.specs.declared.node.Node.{Node}
use Rattle.ix_graph.specs.declared.node.NodeKind.{NodeKind}
use Rattle.ix_graph.specs.Built.{kind_of}
use Rattle.ix_graph.specs.Linked.{kinds_in}
use Rattle.ix_graph.proofs.Attached.{rest_goes, rest_ends}
use Rattle.ix_graph.proofs.links.linked.Goals as goal

pub loop-edge-preserved : goal.loop-edge-preserved
loop-edge-preserved c = record {
  kinds = c.in_ok-attach.ensures.attached.kinds ∙ c.loop-edge.invariant.kinds;
  rest = rest_goes c.loop-edge.nodes.items c.attach.new.nodes.items c.args.edges.now c.loop-edge.edge-index _ c.loop-edge-test.true
      (get_or_default c.args.edges.now c.loop-edge.edge-index _ _ c.loop-edge-test.true) c.loop-edge.invariant.rest c.in_ok-attach.ensures.attached;
}

pub returns-clause-edges : goal.returns-clause-edges
returns-clause-edges c = rest_ends c.loop-edge.nodes.items c.args.edges.now c.loop-edge.edge-index (omega (arith, c.loop-edge-test.false)) c.loop-edge.invariant.rest

-- as many nodes as kinds
as_many : (nodes : List Node) (kinds : List NodeKind) → kinds_in nodes ≡ map kind_of kinds → length nodes ≡ length kinds
as_many nodes kinds same = sym (length-map nodes (λ (node : Node). kind_of node.kind)) ∙ (ap length same ∙ length-map kinds kind_of)

pub attach-requires-clause-node : goal.attach-requires-clause-node
attach-requires-clause-node c = omega (arith, (c.requires.within c.loop-edge.edge-index (0, Next, 0) c.loop-edge-test.true).0, as_many _ _ c.loop-edge.invariant.kinds)

pub attach-requires-clause-target : goal.attach-requires-clause-target
attach-requires-clause-target c = omega (arith, (c.requires.within c.loop-edge.edge-index (0, Next, 0) c.loop-edge-test.true).1, as_many _ _ c.loop-edge.invariant.kinds)
