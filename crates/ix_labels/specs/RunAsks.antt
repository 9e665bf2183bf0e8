-- What is asked of labels where those within runs are passed.
use Rattle.std.specs.Prelude.{ℕ, zero, suc, Bool, true, false, List, [], ◌∷◌}
use Rattle.ix_flow.specs.Flow.{Rules, Anything}
use Rattle.ix_graph.specs.declared.node.Edge.{Edge}
use Rattle.ix_graph.specs.declared.node.Edge.TheVariants.{Next}
use Rattle.ix_graph.specs.Graph.{Kind}
use Rattle.ix_graph.specs.GraphSolutions.{Carries, Settles, label_at}
use Rattle.ix_graph.specs.Brought.{pass_of}
use Rattle.ix_labels.specs.Runs.{is_kept, goes_on}

-- the first where the answer is yes, else the second
abbrev pub Either : Bool → Type 0 → Type 0 → Type 0
Either true A B = A
Either false A B = B

module _ (R : Rules) (kinds : ℕ → Kind) where
  -- the second store is above what comes of the first from a node to the one behind it
  abbrev pub Onto : ℕ → R.Store → R.Store → Type 0
  Onto at s t = Carries R (Anything R) (λ number. t) (pass_of (kinds at) Next) s t

  -- above what an edge carries of some store of the node that it comes from
  abbrev pub BringsOf : (ℕ → R.Store → Type 0) → ℕ × Edge → R.Store → Type 0
  BringsOf To from store = (before : R.Store) × To from.0 before × Carries R (Anything R) (λ number. store) (pass_of (kinds from.0) from.1) before store

  -- above what each of these edges carries of some store of the node that it comes from
  abbrev pub EachBrings : (ℕ → R.Store → Type 0) → List (ℕ × Edge) → R.Store → Type 0
  EachBrings To [] store = Unit {0}
  EachBrings To (from ∷ froms) store = BringsOf To from store × EachBrings To froms store

  abbrev pub KeptTo : List R.Store → ℕ → R.Store → Type 0
  KeptTo labels at store = R.Below (label_at R labels at) store

  module _ (kept : List Bool) (edges : ℕ → List (ℕ × Edge)) where
    -- The store is above the label that is kept there, or what the edges to the node bring of labels that are kept.
    abbrev pub FirstTo : List R.Store → ℕ → R.Store → Type 0
    FirstTo labels at store = Either (is_kept kept at) (KeptTo labels at store) (EachBrings (KeptTo labels) (edges at) store)

    -- The store is above the label that is kept where the run to this node begins, or what the edges to its first node bring, with all that is done from there on.
    abbrev pub RunsTo : List R.Store → ℕ → R.Store → Type 0
    RunsTo labels zero store = KeptTo labels 0 store
    RunsTo labels (suc at) store =
        Either (is_kept kept (suc at)) (KeptTo labels (suc at) store)
        (Either (goes_on at (edges (suc at))) ((before : R.Store) × RunsTo labels at before × Onto at before store) (EachBrings (FirstTo labels) (edges (suc at)) store))

    -- Of a label that is kept the same as in the graph, with runs in place of edges; of any other nothing.
    abbrev pub RunAsks : ℕ → List R.Store → R.Store → Type 0
    RunAsks at labels label =
        Either (is_kept kept at) ((joined : R.Store) × EachBrings (RunsTo labels) (edges at) joined × Settles R (Anything R) (λ number. label) (kinds at) joined label) (Unit {0})
