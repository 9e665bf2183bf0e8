-- The least labels of a method, at the nodes of its graph.
use Rattle.std.specs.Prelude.{◌≡◌, List, length, map}
use Rattle.ix_core.specs.declared.fact.Profile.{Profile}
use Rattle.ix_core.specs.declared.program.Method.{Method}
use Rattle.ix_core.specs.declared.program.Program.{Program}
use Rattle.ix_core.specs.Code.{block_code}
use Rattle.ix_graph.specs.declared.node.Node.{Node}
use Rattle.ix_graph.specs.Graph.{behind_code, method_parts}
use Rattle.ix_graph.specs.GraphSolutions.{NodeAsks}
use Rattle.ix_graph.specs.Built.{kinds_of}
use Rattle.ix_graph.specs.Linked.{kinds_in}
use Rattle.ix_sign.specs.MethodRules.{method_rules}
use Rattle.ix_solve.specs.Solutions.{IsSolution, IsLeast}
use Rattle.ix_facts.specs.Stores.{IsBelow}
use Rattle.ix_store.specs.declared.store.Store.{Store}
use Rattle.ix_store.specs.StoredFacts.{stored}
use Rattle.ix_labels.specs.declared.labels.Labels.{Labels}

-- The nodes are those of the method's graph, and what the stores say is its least solution by the rules of the method.
pub record AreLabelsOf (program : Program) (method : Method) (profile : Profile) (nodes : List Node) (stores : List Store) : Type 0 where
  pub size : length nodes ≡ behind_code (block_code method.body) 2
  pub kinds : kinds_in nodes ≡ kinds_of (method_parts (block_code method.body))
  pub solution : IsSolution IsBelow (behind_code (block_code method.body) 2) (NodeAsks (method_rules program method profile) (method_parts (block_code method.body))) (map stored stores)
  pub least : IsLeast IsBelow (behind_code (block_code method.body) 2) (NodeAsks (method_rules program method profile) (method_parts (block_code method.body))) (map stored stores)

abbrev pub AreLabels : Program → Method → Profile → Labels → Type 0
AreLabels program method profile labels = AreLabelsOf program method profile labels.graph.nodes.items labels.stores.items
