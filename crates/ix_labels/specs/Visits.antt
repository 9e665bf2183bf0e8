-- How many visits of nodes the least labels of a method take at most: one of each node, and one more for each time that a label which the node reads can have
-- risen. A label rises at most as often as its rank falls.
use Rattle.std.specs.Prelude.{◌≡◌, ℕ, zero, suc, ◌+◌, ◌≤◌, List, [], ◌∷◌, map}
use Rattle.ix_core.specs.declared.fact.Profile.{Profile}
use Rattle.ix_core.specs.declared.program.Method.{Method}
use Rattle.ix_core.specs.declared.program.Program.{Program}
use Rattle.ix_core.specs.Code.{Code, block_code}
use Rattle.ix_graph.specs.declared.node.Edge.{Edge}
use Rattle.ix_graph.specs.Graph.{behind_code, method_parts}
use Rattle.ix_graph.specs.GraphSolutions.{NodeAsks}
use Rattle.ix_graph.specs.Built.{edges_of, targets_from}
use Rattle.ix_sign.specs.MethodRules.{method_rules}
use Rattle.ix_store.specs.declared.store.Store.{Store}
use Rattle.ix_facts.specs.Stores.{IsBelow}
use Rattle.ix_store.specs.StoredFacts.{stored}
use Rattle.ix_store.specs.StoreOrder.{store_rank, top_rank}
use Rattle.ix_solve.specs.Readers.{readings}
use Rattle.ix_solve.specs.Solutions.{IsSolution, IsLeast}

-- of each of so many nodes, from the number `at` on, the nodes to which its edges lead: these read its label
abbrev pub targets_of : List (ℕ × Edge × ℕ) → ℕ → ℕ → List (List ℕ)
targets_of edges at zero = []
targets_of edges at (suc count) = targets_from at edges ∷ targets_of edges (suc at) count

-- of each node of a body's graph
abbrev pub readers_by : Code → List (List ℕ)
readers_by body = targets_of (edges_of (method_parts body)) 0 (behind_code body 2)

-- a visit of each node, and of each of its readers one for each step that its label can have risen from the unreachable store, whose rank is the top one
abbrev pub visits_by : Code → List Store → ℕ
visits_by body labels = behind_code body 2 + readings store_rank top_rank (readers_by body) labels

-- The number that the least labels of a method give. Least labels have the same ranks, so there is one.
pub record MostVisits (program : Program) (method : Method) (profile : Profile) (most : ℕ) : Type 0 where
  pub labels : List Store
  pub solution : IsSolution IsBelow (behind_code (block_code method.body) 2) (NodeAsks (method_rules program method profile) (method_parts (block_code method.body))) (map stored labels)
  pub least : IsLeast IsBelow (behind_code (block_code method.body) 2) (NodeAsks (method_rules program method profile) (method_parts (block_code method.body))) (map stored labels)
  pub is : most ≡ visits_by (block_code method.body) labels

-- from `before` on no more were counted
abbrev pub VisitsWithin : Program → Method → Profile → ℕ → ℕ → Type 0
VisitsWithin program method profile before after = (most : ℕ) × MostVisits program method profile most × (after ≤ before + most)
