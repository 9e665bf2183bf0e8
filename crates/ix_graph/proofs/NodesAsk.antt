-- What is asked of a node's label by what its edges bring.
use Rattle.std.specs.Prelude.{if◌then◌else◌, ◌==◌}
use Rattle.std.proofs.lemmas.Bool.{cases_Bool, eqb-true, eqb-false}
use Rattle.std.proofs.Common.{◌≡◌, ◌⊎◌, inl, inr, ◌+◌, ◌<◌, ℕ, zero, suc, true, false, List, [], ◌∷◌, ◌++◌, length, None, arith, sym, ap, subst, ◌∙◌}
use Rattle.ix_core.specs.Code.{Code}
use Rattle.ix_lattice.specs.Lattice.{IsJoin}
use Rattle.ix_solve.specs.Solutions.{IsLeastOf}
use Rattle.ix_core.specs.Posts.{last_done}
use Rattle.ix_flow.specs.Flow.{Rules, RulesLaws, Anything}
use Rattle.ix_graph.specs.declared.node.Edge.{Edge}
use Rattle.ix_graph.specs.Built.{kinds_of, edges_of, edges_to, edge_of}
use Rattle.ix_graph.specs.Graph.{Kind, Starts, Does, Compares, Tells, Joins, Heads, Returns, Ends, Pass, Onward, Through, Testing, Telling, Part, NodePart, EdgePart, method_parts, AreNumbered}
use Rattle.ix_graph.specs.GraphSolutions.{Carries, Settles, EdgesTo, KindAt, label_at, NodeAsks}
use Rattle.ix_graph.proofs.Numbers.{method_numbered}
use Rattle.ix_graph.specs.Brought.{pass_of, kind_at, Brings, AllBring}
use Rattle.ix_graph.proofs.EdgesFit.{NodesAre, EdgesFit, method_nodes, method_fits}

-- two numbers are one, or not
pub same_or : (n m : ℕ) → (((n == m) ≡ true) × (n ≡ m)) ⊎ (((n == m) ≡ false) × (n ≡ m → ⊥))
same_or n m = elim (cases_Bool (n == m)) [
  | inl same ↦ inl (same, eqb-true n m same)
  | inr apart ↦ inr (apart, eqb-false n m apart)
]

module _ (R : Rules) (L : RulesLaws R) (labels : List R.Store) where
  pub carries_as : (one other : ℕ → R.Store) (pass : Pass) (s t : R.Store) → Carries R (Anything R) one pass s t → Carries R (Anything R) other pass s t
  carries_as one other Onward s t carries = carries
  carries_as one other (Through op) s t carries = carries
  carries_as one other (Testing answer test) s t carries = carries
  carries_as one other (Telling answer code slot) s t carries = carries

  carries_up : (one other : ℕ → R.Store) (pass : Pass) (s t u : R.Store) → Carries R (Anything R) one pass s t → R.Below t u → Carries R (Anything R) other pass s u
  carries_up one other Onward s t u carries up = L.transitive s t u carries up
  carries_up one other (Through op) s t u carries up = L.after op s s t u (L.reflexive s) carries up
  carries_up one other (Testing answer test) s t u carries up = L.tested answer test s s t u (L.reflexive s) carries up
  carries_up one other (Telling answer code slot) s t u carries up = L.told answer (last_done None code) slot s s t u (L.reflexive s) carries up

  -- ---- what some edges bring

  module _ (kinds : ℕ → Kind) where
    pub brings_up : (from : ℕ × Edge) (s t : R.Store) → Brings R kinds labels from s → R.Below s t → Brings R kinds labels from t
    brings_up from s t brings up = carries_up (λ number. s) (λ number. t) (pass_of (kinds from.0) from.1) (label_at R labels from.0) s t brings up

    all_up : (edges : List (ℕ × Edge)) (s t : R.Store) → AllBring R kinds labels edges s → R.Below s t → AllBring R kinds labels edges t
    all_up [] s t all up = tt
    all_up (from ∷ edges) s t all up = (brings_up from s t all.0 up, all_up edges s t all.1 up)

    all_and : (edges : List (ℕ × Edge)) (from : ℕ × Edge) (s : R.Store) → AllBring R kinds labels edges s → Brings R kinds labels from s → AllBring R kinds labels (edges ++ from ∷ []) s
    all_and [] from s all last = (last, tt)
    all_and (first ∷ edges) from s all last = (all.0, all_and edges from s all.1 last)

    and_all : (edges : List (ℕ × Edge)) (from : ℕ × Edge) (s : R.Store) → AllBring R kinds labels (edges ++ from ∷ []) s → AllBring R kinds labels edges s × Brings R kinds labels from s
    and_all [] from s all = (tt, all.0)
    and_all (first ∷ edges) from s all = let r = and_all edges from s all.1 in ((all.0, r.0), r.1)

    pub none_bring : IsLeastOf R.Below (AllBring R kinds labels []) R.nowhere
    none_bring = (tt, λ other all. L.nowhere_below other)

    -- one edge more: the join with what it brings
    pub one_more : (edges : List (ℕ × Edge)) (from : ℕ × Edge) (s carried t : R.Store) → IsLeastOf R.Below (AllBring R kinds labels edges) s → IsLeastOf R.Below (Brings R kinds labels from) carried
        → IsJoin R.Below s carried t → IsLeastOf R.Below (AllBring R kinds labels (edges ++ from ∷ [])) t
    one_more edges from s carried t before last join = (
      all_and edges from t (all_up edges s t before.0 join.left) (brings_up from carried t last.0 join.right),
      λ other all. let r = and_all edges from other all in join.least other (before.1 other r.0) (last.1 other r.1),
    )

  -- ---- the edges to a node, and all parts of the graph

  module _ (kinds : ℕ → Kind) (at : ℕ) where
    pub edges_bring : (parts : List Part) (one : ℕ → R.Store) (store : R.Store) → EdgesFit kinds parts
        → EdgesTo at (λ node pass. Carries R (Anything R) one pass (label_at R labels node) store) parts → AllBring R kinds labels (edges_to at (edges_of parts)) store
    edges_bring [] one store fit into = tt
    edges_bring (NodePart number kind ∷ parts) one store fit into = edges_bring parts one store fit into
    edges_bring (EdgePart node pass target ∷ parts) one store fit into = elim (same_or target at) [
      | inl is ↦ subst (λ b. AllBring R kinds labels (if b then (node, edge_of pass) ∷ edges_to at (edges_of parts) else edges_to at (edges_of parts)) store) (sym is.0) (
        carries_as one (λ number. store) (pass_of (kinds node) (edge_of pass)) (label_at R labels node) store
            (subst (λ p. Carries R (Anything R) one p (label_at R labels node) store) (sym fit.0) (into.0 is.1)),
        edges_bring parts one store fit.1 into.1,
      )
      | inr other ↦ subst (λ b. AllBring R kinds labels (if b then (node, edge_of pass) ∷ edges_to at (edges_of parts) else edges_to at (edges_of parts)) store) (sym other.0) (edges_bring parts one store fit.1 into.1)
    ]

    pub bring_edges : (parts : List Part) (one : ℕ → R.Store) (store : R.Store) → EdgesFit kinds parts
        → AllBring R kinds labels (edges_to at (edges_of parts)) store → EdgesTo at (λ node pass. Carries R (Anything R) one pass (label_at R labels node) store) parts
    bring_edges [] one store fit all = tt
    bring_edges (NodePart number kind ∷ parts) one store fit all = bring_edges parts one store fit all
    bring_edges (EdgePart node pass target ∷ parts) one store fit all = elim (same_or target at) [
      | inl is ↦
          let both = subst (λ b. AllBring R kinds labels (if b then (node, edge_of pass) ∷ edges_to at (edges_of parts) else edges_to at (edges_of parts)) store) is.0 all in (
            λ e. subst (λ p. Carries R (Anything R) one p (label_at R labels node) store) fit.0 (carries_as (λ number. store) one (pass_of (kinds node) (edge_of pass)) (label_at R labels node) store both.0),
            bring_edges parts one store fit.1 both.1,
          )
      | inr other ↦
          let rest = subst (λ b. AllBring R kinds labels (if b then (node, edge_of pass) ∷ edges_to at (edges_of parts) else edges_to at (edges_of parts)) store) other.0 all in
          (λ e. absurd (other.1 e), bring_edges parts one store fit.1 rest)
    ]

    pub kind_asked : (P : Kind → Type 0) (parts : List Part) → NodesAre kinds parts → P (kinds at) → KindAt at P parts
    kind_asked P [] nodes holds = tt
    kind_asked P (NodePart number kind ∷ parts) nodes holds = (λ is. subst P (ap kinds (sym is) ∙ nodes.0) holds, kind_asked P parts nodes.1 holds)
    kind_asked P (EdgePart node pass target ∷ parts) nodes holds = kind_asked P parts nodes holds

    -- of a node that is there
    pub asked_kind : (P : Kind → Type 0) (parts : List Part) (first past : ℕ) → NodesAre kinds parts → AreNumbered first parts → at ≡ first + past → past < length (kinds_of parts) → KindAt at P parts → P (kinds at)
    asked_kind P [] first past nodes numbered is within asked = absurd (omega (arith, within))
    asked_kind P (NodePart number kind ∷ parts) first zero nodes numbered is within asked =
        let e : number ≡ at = omega (arith, is, numbered.0) in subst P (sym (ap kinds (sym e) ∙ nodes.0)) (asked.0 e)
    asked_kind P (NodePart number kind ∷ parts) first (suc past) nodes numbered is within asked = asked_kind P parts (suc first) past nodes.1 numbered.1 (omega (arith, is)) (omega (arith, within)) asked.1
    asked_kind P (EdgePart node pass target ∷ parts) first past nodes numbered is within asked = asked_kind P parts first past nodes numbered is within asked

  -- ---- a node's label, from what its edges bring

  settles_as : (one other : ℕ → R.Store) (kind : Kind) (joined label : R.Store) → ((number : ℕ) → one number ≡ other number) → Settles R (Anything R) one kind joined label → Settles R (Anything R) other kind joined label
  settles_as one other Starts joined label same settles = settles
  settles_as one other (Does op) joined label same settles = settles
  settles_as one other (Compares test) joined label same settles = settles
  settles_as one other (Tells code slot) joined label same settles = settles
  settles_as one other Joins joined label same settles = settles
  settles_as one other (Heads number scope) joined label same settles = (settles.0, sym (same number) ∙ settles.1)
  settles_as one other (Returns value known span) joined label same settles = settles
  settles_as one other Ends joined label same settles = settles

  module _ (body : Code) (at : ℕ) where
    abbrev pub parts : List Part
    parts = method_parts body

    abbrev pub edges : List (ℕ × Edge)
    edges = edges_to at (edges_of (method_parts body))

    pub asks : (joined label : R.Store) → AllBring R (kind_at parts) labels edges joined → Settles R (Anything R) (λ number. label) (kind_at parts at) joined label → NodeAsks R parts at labels label
    asks joined label all settles = (
      joined,
      bring_edges (kind_at parts) at parts (λ number. label) joined (method_fits body) all,
      kind_asked (kind_at parts) at (λ kind. Settles R (Anything R) (λ number. label) kind joined label) parts (method_nodes body) settles,
    )

    pub asked : (label : R.Store) → at < length (kinds_of parts) → NodeAsks R parts at labels label
        → (joined : R.Store) × AllBring R (kind_at parts) labels edges joined × Settles R (Anything R) (λ number. label) (kind_at parts at) joined label
    asked label within (joined, into, kind) = (
      joined,
      edges_bring (kind_at parts) at parts (λ number. label) joined (method_fits body) into,
      asked_kind (kind_at parts) at (λ kind. Settles R (Anything R) (λ number. label) kind joined label) parts 0 at (method_nodes body) (method_numbered body) (let e : at ≡ 0 + at = omega arith in e) within kind,
    )
