-- The nodes of a graph with their edges.
use Rattle.std.specs.Prelude.{◌≡◌, ◌<◌, ℕ, List, [], ◌∷◌, ◌++◌, All, map, slice_get, Some}
use Rattle.ix_graph.specs.declared.node.Edge.{Edge}
use Rattle.ix_graph.specs.declared.node.Node.{Node}
use Rattle.ix_graph.specs.Graph.{Kind}
use Rattle.ix_graph.specs.Built.{kind_of, edges_to, targets_from}

-- what the nodes stand for, in the order of their numbers
abbrev pub kinds_in : List Node → List Kind
kinds_in nodes = map (λ (node : Node). kind_of node.kind) nodes

-- The node has the edges to it, each by the node that it comes from, and as its readers the nodes to which its own edges lead, all in their order.
pub record HasEdges (edges : List (ℕ × Edge × ℕ)) (at : ℕ) (node : Node) : Type 0 where
  pub from : node.from.items ≡ edges_to at edges
  pub readers : node.readers.items ≡ targets_from at edges

-- each node has its edges
abbrev pub HaveEdges : List Node → List (ℕ × Edge × ℕ) → Type 0
HaveEdges nodes edges = (at : ℕ) (node : Node) → slice_get nodes at ≡ Some node → HasEdges edges at node

-- each edge leads from one of so many nodes to another
abbrev pub AreWithin : ℕ → List (ℕ × Edge × ℕ) → Type 0
AreWithin count edges = All (λ (edge : ℕ × Edge × ℕ). (edge.0 < count) × (edge.2 < count)) edges

-- the nodes stand for the same, and have besides this edge
pub record Attaches (old new : List Node) (edge : ℕ × Edge × ℕ) : Type 0 where
  pub kinds : kinds_in new ≡ kinds_in old
  pub each : (at : ℕ) (node : Node) → slice_get new at ≡ Some node → (was : Node) × (slice_get old at ≡ Some was)
      × (node.from.items ≡ was.from.items ++ edges_to at (edge ∷ []))
      × (node.readers.items ≡ was.readers.items ++ targets_from at (edge ∷ []))
