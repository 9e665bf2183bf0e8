-- Straight runs of nodes: of which nodes the labels are kept, what is asked where the others are passed, and what all labels are by those that are kept.
use Rattle.std.specs.Prelude.{◌≡◌, ◌==◌, ◌&&◌, ◌||◌, not, nat_lt, if◌then◌else◌, ◌⊎◌, All, ℕ, zero, suc, ◌-◌, ◌<◌, ◌≤◌, Bool, true, false, List, [], ◌∷◌, length, map, slice_get, Some, unwrap_or, Vec}
use Rattle.std.proofs.Props.{props}
use Rattle.std.specs.declared.alloc.Global.{Global}
use Rattle.ix_solve.specs.Readers.{AreReadersInRange}
use Rattle.ix_graph.specs.declared.node.Edge.{Edge}
use Rattle.ix_graph.specs.declared.node.Edge.TheVariants.{Next, WhenTrue, WhenFalse}
use Rattle.ix_graph.specs.declared.node.Node.{Node}
use Rattle.ix_graph.specs.Graph.{Kind, Starts, Heads, Compares, Tells}
use Rattle.ix_graph.specs.Built.{kind_of}
use Rattle.ix_graph.proofs.AsProblem.{Among}

-- whether the label of a node is kept, by what is said of the first nodes
abbrev pub is_kept : List Bool → ℕ → Bool
is_kept kept at = unwrap_or (slice_get kept at) true

-- all labels are kept
abbrev pub AreKept : List Bool → Type 0
AreKept kept = (at : ℕ) → is_kept kept at ≡ true

-- whether the label of such a node is the store above what its edges bring
abbrev pub is_plain : Kind → Bool
is_plain Starts = false
is_plain (Heads number scope) = false
is_plain _ = true

-- whether ways part behind such a node
abbrev pub is_test : Kind → Bool
is_test (Compares test) = true
is_test (Tells code slot) = true
is_test _ = false

-- The node before one of so many, in the order in which labels are made one after the other: the entry, the nodes of the code, which have the numbers from 2 on,
-- and node 1, the end of the body.
abbrev pub node_before : ℕ → ℕ → ℕ
node_before count zero = 0
node_before count (suc zero) = count - 1
node_before count (suc (suc at)) = suc at

-- Of so many nodes the one whose turn it is, where labels are made one after the other: that of the end of the body last.
abbrev pub node_in_turn : ℕ → ℕ → ℕ
node_in_turn count zero = 0
node_in_turn count (suc turn) = if suc (suc turn) == count then 1 else suc (suc turn)

abbrev pub is_next : Edge → Bool
is_next Next = true
is_next WhenTrue = false
is_next WhenFalse = false

-- Whether a run goes on with the node to which these edges lead: it is one edge, from the node before it, which is one of the code's.
abbrev pub goes_on : ℕ → List (ℕ × Edge) → Bool
goes_on before [] = false
goes_on before (from ∷ []) = nat_lt 1 before && ((from.0 == before) && is_next from.1)
goes_on before (from ∷ other ∷ edges) = false

-- Whether ways meet before the node to which these edges lead, or part: they are not one edge that is taken always.
abbrev pub opens : List (ℕ × Edge) → Bool
opens [] = true
opens (from ∷ []) = not (is_next from.1)
opens (from ∷ other ∷ edges) = true

-- Whether a run leads on to a reader: to the node behind it, to the end of the body, from a node before which ways meet or part, or to a test.
abbrev pub leads_to : ℕ → Node → ℕ → Node → Bool
leads_to at node reader next = (reader == suc at) || ((reader == 1) || (opens node.from.items || is_test (kind_of next.kind)))

-- A node of the code has at most one reader, to which it alone leads. No other node has readers.
pub record LeadsOn (nodes : List Node) (at : ℕ) (node : Node) : Type 0 where
  pub some : (reader : ℕ) → Among reader node.readers.items → 1 < at
  pub one : (reader : ℕ) → Among reader node.readers.items → node.readers.items ≡ reader ∷ []
  pub alone : (reader : ℕ) (next : Node) → Among reader node.readers.items → slice_get nodes reader ≡ Some next → next.from.items ≡ (at, Next) ∷ []
  pub onto : (reader : ℕ) (next : Node) → Among reader node.readers.items → slice_get nodes reader ≡ Some next → leads_to at node reader next ≡ true

-- The label of a node may be passed: it is the store above what its edges bring. If no run goes on with the node, one begins with it, as with nodes of the code alone.
pub record Passes (nodes : List Node) (at : ℕ) (node : Node) : Type 0 where
  pub plain : is_plain (kind_of node.kind) ≡ true
  pub single : is_test (kind_of node.kind) ≡ false
  pub begins : goes_on (node_before (length nodes) at) node.from.items ≡ false → 1 < at
  pub leads : LeadsOn nodes at node

-- where a label is not kept, the node is one of these
abbrev pub ArePassed : List Node → List Bool → Type 0
ArePassed nodes kept = (at : ℕ) (node : Node) → slice_get nodes at ≡ Some node → is_kept kept at ≡ false → Passes nodes at node

-- The run that begins with a node ends with the second, the first whose label is kept, behind so many that are passed, each with one reader.
abbrev pub EndsBehind : List Node → List Bool → ℕ → ℕ → ℕ → Type 0
EndsBehind nodes kept zero from end = (is_kept kept from ≡ true) × (from ≡ end)
EndsBehind nodes kept (suc many) from end =
    (is_kept kept from ≡ false) × (node : Node) × (slice_get nodes from ≡ Some node) × (reader : ℕ) × (node.readers.items ≡ reader ∷ []) × EndsBehind nodes kept many reader end

-- the second is the end of the run that begins with the first, where that has one behind at most as many nodes
abbrev pub EndsAt : List Node → List Bool → ℕ → ℕ → Type 0
EndsAt nodes kept from found = (many end : ℕ) → many ≤ suc (length kept) → EndsBehind nodes kept many from end → found ≡ end

-- place by place, the ends of the runs that begin with these nodes
pub record AreEnds (nodes : List Node) (kept : List Bool) (begins ends : List ℕ) : Type 0 where
  pub many : length ends ≡ length begins
  pub each : (k from found : ℕ) → slice_get begins k ≡ Some from → slice_get ends k ≡ Some found → EndsAt nodes kept from found

-- The readers of a label that is kept are the ends of the runs that begin with the readers in the graph. No node reads any other.
pub record ReadsThrough (nodes : List Node) (kept : List Bool) (at : ℕ) (readers through : List ℕ) : Type 0 where
  pub ends : is_kept kept at ≡ true → AreEnds nodes kept readers through
  pub none : is_kept kept at ≡ false → through ≡ []

abbrev pub readers_through : List (Vec ℕ Global) → List (List ℕ)
readers_through readers = map (λ (by : Vec ℕ Global). by.items) readers

-- of each node whether its label is kept, and the nodes that read it through runs
pub record AreRuns (nodes : List Node) (kept : List Bool) (readers : List (List ℕ)) : Type 0 where
  pub all : length kept ≡ length nodes
  pub many : length readers ≡ length nodes
  pub passed : ArePassed nodes kept
  pub in_range : AreReadersInRange readers
  pub through : (at : ℕ) (node : Node) (by : List ℕ) → slice_get nodes at ≡ Some node → slice_get readers at ≡ Some by → ReadsThrough nodes kept at node.readers.items by

-- a node that may be passed stands there
abbrev pub PassesAt : List Node → ℕ → Type 0
PassesAt nodes at = (node : Node) × (slice_get nodes at ≡ Some node) × Passes nodes at node

-- the readers of each node are nodes
abbrev pub AreLinked : List Node → Type 0
AreLinked nodes = (at : ℕ) (node : Node) → slice_get nodes at ≡ Some node → All (λ reader. reader < length nodes) node.readers.items

-- a label that is passed, of a node with which the run from the one of the number before goes on
abbrev pub Continues : List Node → List Bool → ℕ → Type 0
Continues nodes kept at = (is_kept kept at ≡ false) × ((node : Node) → slice_get nodes at ≡ Some node → goes_on (at - 1) node.from.items ≡ true)

-- a label that is kept, or a node with which no run goes on
abbrev pub Begins : List Node → List Bool → ℕ → Type 0
Begins nodes kept at = (is_kept kept at ≡ true) ⊎ ((node : Node) → slice_get nodes at ≡ Some node → goes_on (at - 1) node.from.items ≡ false)

-- The run to a node begins there, or with the first node.
pub record IsStart (nodes : List Node) (kept : List Bool) (at start : ℕ) : Type 0 where
  pub on : start ≤ at
  pub begins : (start ≡ 0) ⊎ Begins nodes kept start
  pub continues : (k : ℕ) → start < k → k ≤ at → Continues nodes kept k

pub runs_once : (nodes : List Node) (kept : List Bool) (readers : List (List ℕ)) → IsProp (AreRuns nodes kept readers)
runs_once nodes kept readers = hlevel props
