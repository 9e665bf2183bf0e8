-- The errors at the nodes of a method's graph: those that a node's label gives, and those of the text.
use Rattle.std.specs.Prelude.{◌≡◌, ◌⊎◌, ℕ, ◌<◌, List, length, slice_get, Some}
use Rattle.ix_core.specs.declared.error.Error.{Error}
use Rattle.ix_core.specs.declared.program.Method.{Method}
use Rattle.ix_core.specs.declared.program.Program.{Program}
use Rattle.ix_facts.specs.Stores.{Stored}
use Rattle.ix_flow.specs.Flow.{Doing, Returning, Ending}
use Rattle.ix_graph.specs.declared.node.Node.{Node}
use Rattle.ix_graph.specs.Graph.{Kind, Does, Compares, Returns, Ends}
use Rattle.ix_graph.specs.Built.{kind_of}
use Rattle.ix_labels.specs.declared.kept.RunLabels.{RunLabels}
use Rattle.ix_labels.specs.Filled.{nodes_of, AreFilled}
use Rattle.ix_sign.specs.RuleErrors.{PointErrors, OpText, TestEscapes}
use Rattle.ix_store.specs.declared.store.Store.{Store}
use Rattle.ix_store.specs.StoredFacts.{stored}
use Rattle.ix_errors.specs.declared.ranked.Ranked.{Ranked}
use Rattle.ix_errors.specs.Exactly.{AddsExactly}

-- by the label of a node
abbrev pub LabelGives : Program → Method → ℕ → Kind → Stored → Error → ℕ → Type 0
LabelGives program method number (Does done) store error rank = PointErrors program method number (Doing done) store error rank
LabelGives program method number (Returns value known span) store error rank = PointErrors program method number (Returning value known span) store error rank
LabelGives program method number Ends store error rank = PointErrors program method number Ending store error rank
LabelGives program method number _ store error rank = ⊥

-- by the text of a node
abbrev pub TextGives : Program → Method → Kind → Error → ℕ → Type 0
TextGives program method (Does done) error rank = OpText program method done error rank
TextGives program method (Compares test) error rank = TestEscapes method test error rank
TextGives program method _ error rank = ⊥

abbrev pub NodeGives : Program → Method → ℕ → Kind → Stored → Error → ℕ → Type 0
NodeGives program method number kind store error rank = LabelGives program method number kind store error rank ⊎ TextGives program method kind error rank

-- One of the first nodes, so many of them, has the error with its label.
pub record AtNode (Gives : Kind → Stored → Error → ℕ → Type 0) (nodes : List Node) (stores : List Store) (count : ℕ) (error : Error) (rank : ℕ) : Type 0 where
  pub at : ℕ
  pub before : at < count
  pub node : Node
  pub found : slice_get nodes at ≡ Some node
  pub label : Store
  pub labelled : slice_get stores at ≡ Some label
  pub here : Gives (kind_of node.kind) (stored label) error rank

-- The second list has besides exactly the errors at all nodes by their labels, of which those that are not kept were made again.
pub record AddsAtLabels (program : Program) (method : Method) (number : ℕ) (labels : RunLabels) (old new : List Ranked) : Type 0 where
  pub all : List Store
  pub filled : AreFilled labels all
  pub added : AddsExactly (AtNode (NodeGives program method number) (nodes_of labels) all (length (nodes_of labels))) old new
