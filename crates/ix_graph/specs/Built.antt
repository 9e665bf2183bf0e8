-- Nodes and edges as they are made, against the parts of a graph.
use Rattle.std.specs.Prelude.{◌≡◌, ◌==◌, if◌then◌else◌, ℕ, suc, Bool, true, false, List, [], ◌∷◌, ◌++◌, length, map}
use Rattle.ix_core.specs.Code.{Code, Condition, block_code}
use Rattle.ix_graph.specs.declared.node.Edge.{Edge}
use Rattle.ix_graph.specs.declared.node.Edge.TheVariants.{Next, WhenTrue, WhenFalse}
use Rattle.ix_graph.specs.declared.node.NodeKind.{NodeKind}
use Rattle.ix_graph.specs.declared.node.NodeKind.TheVariants as node
use Rattle.ix_graph.specs.declared.source.Source.{Source as CodeSource}
use Rattle.ix_graph.specs.declared.source.Source.TheVariants as source
use Rattle.ix_graph.specs.declared.builder.Builder.{Builder}
use Rattle.ix_graph.specs.declared.builder.Turns.{Turns}
use Rattle.ix_graph.specs.Graph.{Kind, Starts, Does, Compares, Tells, Joins, Heads, Returns, Ends, Pass, Onward, Through, Testing, Telling, Part, NodePart, EdgePart, Source, Unreached, From, behind_code, behind_condition, code_parts, condition_parts}

-- what a node stands for
abbrev pub kind_of : NodeKind → Kind
kind_of node.Entry = Starts
kind_of (node.Do op) = Does op.now
kind_of (node.Compare test) = Compares test.now
kind_of (node.Truth block slot) = Tells (block_code block.now) slot
kind_of node.Join = Joins
kind_of (node.Head number scope) = Heads number scope
kind_of (node.Return value known span) = Returns value known span
kind_of node.End = Ends

abbrev pub answered : Bool → Edge
answered true = WhenTrue
answered false = WhenFalse

-- the edge for what is carried: at its node it says all
abbrev pub edge_of : Pass → Edge
edge_of Onward = Next
edge_of (Through op) = Next
edge_of (Testing answer test) = answered answer
edge_of (Telling answer code slot) = answered answer

-- ---- of the parts of a graph: the nodes in the order of their numbers, the edges to a node, the nodes to which a node's edges lead

abbrev pub kinds_of : List Part → List Kind
kinds_of [] = []
kinds_of (NodePart at kind ∷ parts) = kind ∷ kinds_of parts
kinds_of (EdgePart node pass target ∷ parts) = kinds_of parts

abbrev pub edges_of : List Part → List (ℕ × Edge × ℕ)
edges_of [] = []
edges_of (NodePart at kind ∷ parts) = edges_of parts
edges_of (EdgePart node pass target ∷ parts) = (node, edge_of pass, target) ∷ edges_of parts

abbrev pub edges_to : ℕ → List (ℕ × Edge × ℕ) → List (ℕ × Edge)
edges_to at [] = []
edges_to at ((node, edge, target) ∷ edges) = if target == at then (node, edge) ∷ edges_to at edges else edges_to at edges

abbrev pub targets_from : ℕ → List (ℕ × Edge × ℕ) → List ℕ
targets_from at [] = []
targets_from at ((node, edge, target) ∷ edges) = if node == at then target ∷ targets_from at edges else targets_from at edges

-- ---- how they are made

pub record Made : Type 0 where
  pub kinds : List Kind
  pub edges : List (ℕ × Edge × ℕ)

abbrev pub made_of : Builder → Made
made_of builder = record { kinds = map kind_of builder.nodes.items; edges = builder.edges.items }

-- where control comes from
abbrev pub source_of : CodeSource → Source
source_of source.Unreached = Unreached
source_of (source.Onward node) = From node Onward
source_of (source.Through node op) = From node (Through op.now)

-- how many nodes there are, which is the number of the next
abbrev pub size : Made → ℕ
size made = length made.kinds

abbrev pub with_node : Made → Kind → Made
with_node made kind = record { kinds = made.kinds ++ kind ∷ []; edges = made.edges }

abbrev pub with_edge : Made → ℕ → Edge → ℕ → Made
with_edge made node edge target = record { kinds = made.kinds; edges = made.edges ++ (node, edge, target) ∷ [] }

-- the edge that has no target yet leads to the node
abbrev pub led : Made → Source → ℕ → Made
led made Unreached target = made
led made (From node pass) target = with_edge made node (edge_of pass) target

abbrev pub branched : Made → ℕ → ℕ → ℕ → Made
branched made node holds fails = with_edge (with_edge made node WhenTrue holds) node WhenFalse fails

-- with these parts too, in their order
abbrev pub with_parts : Made → List Part → Made
with_parts made [] = made
with_parts made (NodePart at kind ∷ parts) = with_parts (with_node made kind) parts
with_parts made (EdgePart node pass target ∷ parts) = with_parts (with_edge made node (edge_of pass) target) parts

-- From where a loop's condition is asked and where its turns begin: at the head and behind it, or the other way round.
abbrev pub ordered : Bool → ℕ → ℕ → ℕ × ℕ
ordered true head turn = (head, turn)
ordered false head turn = (turn, head)

-- The second has besides the four nodes of a loop, in order, and control led from the source to the first of them.
pub record AddsTurns (old new : Made) (head : Kind) (source : Source) (test_first : Bool) (turns : Turns) : Type 0 where
  pub made : new ≡ led (with_node (with_node (with_node (with_node old head) Joins) Joins) Joins) source (size old)
  pub tested : turns.tested ≡ (ordered test_first (size old) (suc (size old))).0
  pub begun : turns.begun ≡ (ordered test_first (size old) (suc (size old))).1
  pub out : turns.out ≡ suc (suc (size old))
  pub again : turns.again ≡ suc (suc (suc (size old)))

-- The second has besides what the first has the parts of the code: from the source to the node `end`, at a `break` to `leave` and at a `continue` to
-- `again`.
pub record MakesCode (code : Code) (source : Source) (end leave again : ℕ) (old new : Made) : Type 0 where
  pub numbers : (at : ℕ) → at ≡ size old → behind_code code at ≡ size new
  pub parts : (at : ℕ) (more : List Part) → at ≡ size old → with_parts old (code_parts code at source end leave again more) ≡ with_parts new more

-- the same of an item, behind which control comes from `last` to whatever comes next
pub record MakesItem (item : Code → Code) (source last : Source) (leave again : ℕ) (old new : Made) : Type 0 where
  pub numbers : (at : ℕ) (rest : Code) → at ≡ size old → behind_code (item rest) at ≡ behind_code rest (size new)
  pub parts : (at : ℕ) (rest : Code) (end : ℕ) (more : List Part) → at ≡ size old
      → with_parts old (code_parts (item rest) at source end leave again more) ≡ with_parts new (code_parts rest (size new) last end leave again more)

-- the same of a condition, from which control goes to `holds` or to `fails`
pub record MakesCondition (asked : Condition) (source : Source) (holds fails leave again : ℕ) (old new : Made) : Type 0 where
  pub numbers : (at : ℕ) → at ≡ size old → behind_condition asked at ≡ size new
  pub parts : (at : ℕ) (more : List Part) → at ≡ size old → with_parts old (condition_parts asked at source holds fails leave again more) ≡ with_parts new more
