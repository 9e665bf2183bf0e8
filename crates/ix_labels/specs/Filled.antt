-- The labels of all nodes, by those that are kept.
use Rattle.std.specs.Prelude.{◌≡◌, ℕ, ◌+◌, Bool, true, false, List, length, map, slice_get, Some}
use Rattle.ix_core.specs.declared.fact.Profile.{Profile}
use Rattle.ix_core.specs.declared.program.Method.{Method}
use Rattle.ix_core.specs.declared.program.Program.{Program}
use Rattle.ix_core.specs.Code.{block_code}
use Rattle.ix_facts.specs.MethodLandmarks.{AreLandmarksOf}
use Rattle.ix_facts.specs.Stores.{IsBelow}
use Rattle.ix_graph.specs.declared.node.Node.{Node}
use Rattle.ix_graph.specs.Graph.{method_parts}
use Rattle.ix_graph.specs.Built.{kinds_of}
use Rattle.ix_graph.specs.Linked.{kinds_in}
use Rattle.ix_store.specs.declared.store.Store.{Store}
use Rattle.ix_store.specs.StoredFacts.{stored}
use Rattle.ix_store.specs.StoreOrder.{store_rank, top_rank}
use Rattle.ix_solve.specs.Readers.{readings}
use Rattle.ix_solve.specs.Solutions.{IsSolution, IsLeast, IsLeastOf}
use Rattle.ix_labels.specs.declared.problem.Problem.{Problem}
use Rattle.ix_labels.specs.declared.kept.RunLabels.{RunLabels}
use Rattle.ix_labels.specs.Problem.{rules_of, kinds_at, edges_at, kept_in, readers_of, Asks}
use Rattle.ix_labels.specs.Runs.{is_kept, goes_on, node_before}
use Rattle.ix_labels.specs.RunAsks.{Onto, EachBrings, FirstTo}

abbrev pub nodes_of : RunLabels → List Node
nodes_of labels = labels.problem.graph.nodes.items

-- The problem is that of the method in the profile.
pub record IsProblemOf (program : Program) (method : Method) (profile : Profile) (problem : Problem) : Type 0 where
  pub program_is : problem.program.now ≡ program
  pub method_is : problem.within.now ≡ method
  pub profile_is : problem.profile ≡ profile
  pub landmarks : AreLandmarksOf program method problem.marks.ints
  pub kinds : kinds_in problem.graph.nodes.items ≡ kinds_of (method_parts (block_code method.body))

-- What is kept is least for the problem of the method.
pub record AreRunLabels (program : Program) (method : Method) (profile : Profile) (labels : RunLabels) : Type 0 where
  pub of : IsProblemOf program method profile labels.problem
  pub solution : IsSolution IsBelow (length (nodes_of labels)) (Asks labels.problem) (map stored labels.stores.items)
  pub least : IsLeast IsBelow (length (nodes_of labels)) (Asks labels.problem) (map stored labels.stores.items)

-- whether a run goes on with the node, from the one before it in turn
abbrev pub goes_on_at : RunLabels → ℕ → Bool
goes_on_at labels at = goes_on (node_before (length (nodes_of labels)) at) (edges_at labels.problem at)

-- least by the label of the node before it in turn
abbrev pub IsNext : RunLabels → ℕ → Store → Store → Type 0
IsNext labels at before label =
    IsLeastOf IsBelow (Onto (rules_of labels.problem) (kinds_at labels.problem) (node_before (length (nodes_of labels)) at) (stored before)) (stored label)

-- least by what the edges to the node bring of labels that are kept, or of those that such labels give
abbrev pub IsFirst : RunLabels → ℕ → Store → Type 0
IsFirst labels at label =
    IsLeastOf IsBelow (EachBrings (rules_of labels.problem) (kinds_at labels.problem) (FirstTo (rules_of labels.problem) (kinds_at labels.problem) (kept_in labels.problem) (edges_at labels.problem) (map stored labels.stores.items)) (edges_at labels.problem at)) (stored label)

-- The label of a node that is passed: the least by that of the node before it in turn, or, where a run begins with it, by what is kept.
pub record IsMade (labels : RunLabels) (at : ℕ) (before label : Store) : Type 0 where
  pub next : goes_on_at labels at ≡ true → IsNext labels at before label
  pub first : goes_on_at labels at ≡ false → IsFirst labels at label

-- The label of a node is the one that is kept, or made by that of the node before it in turn and by what is kept.
pub record IsLabel (labels : RunLabels) (at : ℕ) (before label : Store) : Type 0 where
  pub kept : is_kept (kept_in labels.problem) at ≡ true → slice_get labels.stores.items at ≡ Some label
  pub passed : is_kept (kept_in labels.problem) at ≡ false → IsMade labels at before label

-- These are the labels of all nodes: each is the one that is kept, or the least by that of the node before it in turn, or by what is kept.
pub record AreFilled (labels : RunLabels) (all : List Store) : Type 0 where
  pub many : length all ≡ length (nodes_of labels)
  pub kept : (at : ℕ) (label : Store) → slice_get all at ≡ Some label → is_kept (kept_in labels.problem) at ≡ true → slice_get labels.stores.items at ≡ Some label
  pub next : (at : ℕ) (label before : Store) → slice_get all at ≡ Some label → slice_get all (node_before (length (nodes_of labels)) at) ≡ Some before → is_kept (kept_in labels.problem) at ≡ false → goes_on_at labels at ≡ true
      → IsNext labels at before label
  pub first : (at : ℕ) (label : Store) → slice_get all at ≡ Some label → is_kept (kept_in labels.problem) at ≡ false → goes_on_at labels at ≡ false → IsFirst labels at label

-- a visit of each node, and of each that reads a label one more for each step that the label can have risen
abbrev pub run_visits : RunLabels → ℕ
run_visits labels = length (nodes_of labels) + readings store_rank top_rank (readers_of labels.problem) labels.stores.items
