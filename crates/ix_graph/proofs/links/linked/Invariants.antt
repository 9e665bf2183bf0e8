use Rattle.std.proofs.Common.{◌≡◌, map, drop}
use Rattle.ix_graph.specs.Built.{kind_of}
use Rattle.ix_graph.specs.Linked.{kinds_in}
use Rattle.ix_graph.proofs.Attached.{HaveRest}
use Rattle.ix_graph.proofs.links.linked.Given as goal

abbrev pub invariant-loop-edge : goal.invariant-loop-edge
invariant-loop-edge l = record {
  kinds : kinds_in l.nodes.items ≡ map kind_of l.kinds;
  rest : HaveRest l.nodes.items (drop l.edge-index l.edges) l.edges;
}
