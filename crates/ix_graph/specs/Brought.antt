-- What the edges of a graph carry to a node.
use Rattle.std.specs.Prelude.{◌≡◌, ℕ, true, false, unwrap_or, slice_get, List, [], ◌∷◌}
use Rattle.ix_solve.specs.Solutions.{IsLeastOf}
use Rattle.ix_flow.specs.Flow.{Rules, Anything}
use Rattle.ix_graph.specs.declared.node.Edge.{Edge}
use Rattle.ix_graph.specs.declared.node.Edge.TheVariants.{WhenTrue, WhenFalse}
use Rattle.ix_graph.specs.Built.{kinds_of}
use Rattle.ix_graph.specs.Graph.{Kind, Starts, Does, Compares, Tells, Joins, Heads, Pass, Onward, Through, Testing, Telling, Part}
use Rattle.ix_graph.specs.GraphSolutions.{Carries, Settles, label_at}

-- what an edge of a node carries, by what the node stands for
abbrev pub pass_of : Kind → Edge → Pass
pass_of (Does op) edge = Through op
pass_of (Compares test) WhenTrue = Testing true test
pass_of (Compares test) WhenFalse = Testing false test
pass_of (Tells code slot) WhenTrue = Telling true code slot
pass_of (Tells code slot) WhenFalse = Telling false code slot
pass_of _ edge = Onward

-- what the node of that number stands for
abbrev pub kind_at : List Part → ℕ → Kind
kind_at parts at = unwrap_or (slice_get (kinds_of parts) at) Joins

module _ (R : Rules) (kinds : ℕ → Kind) (labels : List R.Store) where
  -- the store is above what the edge carries of the label of the node that it comes from
  abbrev pub Brings : ℕ × Edge → R.Store → Type 0
  Brings from store = Carries R (Anything R) (λ number. store) (pass_of (kinds from.0) from.1) (label_at R labels from.0) store

  -- above what each of these edges carries
  abbrev pub AllBring : List (ℕ × Edge) → R.Store → Type 0
  AllBring [] store = Unit {0}
  AllBring (from ∷ edges) store = Brings from store × AllBring edges store

-- What is asked of a node's label, where nodes stand for these kinds and have these edges: some store is above what the edges bring, and the label above what
-- the node makes of it.
abbrev pub Gathers : (R : Rules) → (ℕ → Kind) → (ℕ → List (ℕ × Edge)) → ℕ → List R.Store → R.Store → Type 0
Gathers R kinds edges at labels label =
    (joined : R.Store) × AllBring R kinds labels (edges at) joined × Settles R (Anything R) (λ number. label) (kinds at) joined label

-- The label is the least that a node makes of a store: at the entry the least of the method's start, at a head the least of the rounded stores, and
-- elsewhere the store itself.
abbrev pub IsSettled : (R : Rules) → Kind → R.Store → R.Store → Type 0
IsSettled R Starts joined label = IsLeastOf R.Below R.Entry label
IsSettled R (Heads number scope) joined label = IsLeastOf R.Below (R.Rounded scope joined) label
IsSettled R _ joined label = label ≡ joined
