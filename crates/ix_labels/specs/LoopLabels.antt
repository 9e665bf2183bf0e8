-- The least labels of a method's loops, by their numbers.
use Rattle.std.specs.Prelude.{◌≡◌, ℕ, ◌<◌, Bool, true, false, if◌then◌else◌, List, [], ◌∷◌, length, map, slice_get, Some}
use Rattle.ix_core.specs.declared.fact.Profile.{Profile}
use Rattle.ix_core.specs.declared.program.Method.{Method}
use Rattle.ix_core.specs.declared.program.Program.{Program}
use Rattle.ix_core.specs.Code.{block_code}
use Rattle.ix_facts.specs.Stores.{Stored}
use Rattle.ix_flow.specs.Flow.{IsLeastFlow}
use Rattle.ix_graph.specs.declared.node.Node.{Node}
use Rattle.ix_graph.specs.Built.{kind_of}
use Rattle.ix_graph.specs.Graph.{Kind, Heads, method_parts}
use Rattle.ix_graph.specs.Heads.{heads_in}
use Rattle.ix_sign.specs.MethodRules.{method_rules}
use Rattle.ix_store.specs.declared.store.Store.{Store}
use Rattle.ix_store.specs.StoredFacts.{stored}

-- One label for each loop of the body, in the order of the loops' numbers: what they say are the labels of a flow of the body by the rules of the method, and below those of every flow.
pub record AreLoopLabels (program : Program) (method : Method) (profile : Profile) (found : List Store) : Type 0 where
  pub labels : ℕ → Stored
  pub least : IsLeastFlow (method_rules program method profile) (block_code method.body) (length found) labels
  pub there : (number : ℕ) → number < length found → slice_get (map stored found) number ≡ Some (labels number)
  pub each : length found ≡ length (heads_in (method_parts (block_code method.body)))

abbrev pub is_head : Kind → Bool
is_head (Heads number scope) = true
is_head _ = false

abbrev pub one_if : Bool → Store → List Store
one_if true store = store ∷ []
one_if false store = []

-- the stores beside the nodes that are heads of loops
abbrev pub head_stores : List Node → List Store → List Store
head_stores [] stores = []
head_stores nodes [] = []
head_stores (node ∷ nodes) (store ∷ stores) = if is_head (kind_of node.kind) then store ∷ head_stores nodes stores else head_stores nodes stores
