use Rattle.std.proofs.Common.{◌≡◌, map, take, []}
use Rattle.ix_graph.specs.Built.{kind_of}
use Rattle.ix_graph.specs.Linked.{kinds_in, HaveEdges}
use Rattle.ix_graph.proofs.links.unlinked.Given as goal

abbrev pub invariant-loop-kind : goal.invariant-loop-kind
invariant-loop-kind l = record {
  kinds : kinds_in l.nodes.items ≡ map kind_of (take l.kind-index l.kinds);
  none : HaveEdges l.nodes.items [];
}
