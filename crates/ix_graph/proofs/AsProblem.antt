-- The graph of a method as a problem: what is asked of labels is monotone and depends on what is read, and the least label of a node.
use Rattle.std.specs.Prelude.{if◌then◌else◌, Contains, slice_index_or}
use Rattle.std.specs.List.{AllZip}
use Rattle.std.proofs.Common.{◌≡◌, ◌⊎◌, inl, inr, ◌<◌, ℕ, zero, suc, List, [], ◌∷◌, None, Some, length, slice_get, unwrap_or, arith, refl, sym, ap, subst}
use Rattle.ix_solve.specs.Solutions.{IsLeastOf, IsMonotone}
use Rattle.ix_solve.specs.Readers.{DependsOnRead, AgreeWhereRead}
use Rattle.ix_core.specs.Posts.{last_done}
use Rattle.ix_flow.specs.Flow.{Rules, RulesLaws, Anything}
use Rattle.ix_graph.specs.declared.node.Edge.{Edge}
use Rattle.ix_graph.specs.Built.{edges_of, edges_to, targets_from, edge_of}
use Rattle.ix_graph.specs.Graph.{Kind, Starts, Does, Compares, Tells, Joins, Heads, Returns, Ends, Pass, Onward, Through, Testing, Telling, Part, NodePart, EdgePart, AreBelow}
use Rattle.ix_graph.specs.GraphSolutions.{Carries, Settles, label_at}
use Rattle.ix_graph.specs.Brought.{pass_of, AllBring, Gathers, IsSettled}
use Rattle.ix_graph.proofs.NodesAsk.{same_or}

-- ---- the nodes that read a label

abbrev pub Among : ℕ → List ℕ → Type 0
Among n [] = ⊥
Among n (m ∷ ms) = (n ≡ m) ⊎ Among n ms

among_contains : (n : ℕ) (ms : List ℕ) → Among n ms → Contains ms n
among_contains n [] has = absurd has
among_contains n (m ∷ ms) (inl is) = (0, omega arith, sym is)
among_contains n (m ∷ ms) (inr has) = let r = among_contains n ms has in (suc r.0, omega (arith, r.1), r.2)

there : {A : Type 0} (xs : List A) (k : ℕ) → k < length xs → (x : A) × (slice_get xs k ≡ Some x)
there [] k within = absurd (omega (arith, within))
there (x ∷ xs) zero within = (x, refl)
there (x ∷ xs) (suc k) within = there xs k (omega (arith, within))

-- an edge to a node leads there, from one of so many nodes
abbrev pub LeadTo : ℕ → ℕ → List (ℕ × Edge × ℕ) → List (ℕ × Edge) → Type 0
LeadTo count at edges [] = Unit {0}
LeadTo count at edges (from ∷ rest) = (from.0 < count) × Among at (targets_from from.0 edges) × LeadTo count at edges rest

among_later : (node other target at : ℕ) (edge : Edge) (edges : List (ℕ × Edge × ℕ)) → Among at (targets_from node edges) → Among at (targets_from node ((other, edge, target) ∷ edges))
among_later node other target at edge edges has = elim (same_or other node) [
  | inl is ↦ subst (λ t. Among at (if t then target ∷ targets_from node edges else targets_from node edges)) (sym is.0) (inr has)
  | inr apart ↦ subst (λ t. Among at (if t then target ∷ targets_from node edges else targets_from node edges)) (sym apart.0) has
]

among_first : (node target : ℕ) (edge : Edge) (edges : List (ℕ × Edge × ℕ)) → Among target (targets_from node ((node, edge, target) ∷ edges))
among_first node target edge edges = elim (same_or node node) [
  | inl is ↦ subst (λ t. Among target (if t then target ∷ targets_from node edges else targets_from node edges)) (sym is.0) (inl refl)
  | inr apart ↦ absurd (apart.1 refl)
]

lead_later : (count at node target : ℕ) (edge : Edge) (edges : List (ℕ × Edge × ℕ)) (froms : List (ℕ × Edge)) → LeadTo count at edges froms → LeadTo count at ((node, edge, target) ∷ edges) froms
lead_later count at node target edge edges [] lead = tt
lead_later count at node target edge edges (from ∷ froms) lead = (lead.0, among_later from.0 node target at edge edges lead.1, lead_later count at node target edge edges froms lead.2)

pub all_lead : (count at : ℕ) (parts : List Part) → AreBelow count parts → LeadTo count at (edges_of parts) (edges_to at (edges_of parts))
all_lead count at [] below = tt
all_lead count at (NodePart number kind ∷ parts) below = all_lead count at parts below.1
all_lead count at (EdgePart node pass target ∷ parts) below =
    let more = lead_later count at node target (edge_of pass) (edges_of parts) (edges_to at (edges_of parts)) (all_lead count at parts below.2) in
    elim (same_or target at) [
      | inl is ↦ subst (λ t. LeadTo count at ((node, edge_of pass, target) ∷ edges_of parts) (if t then (node, edge_of pass) ∷ edges_to at (edges_of parts) else edges_to at (edges_of parts))) (sym is.0)
          (below.0, subst (λ n. Among n (targets_from node ((node, edge_of pass, target) ∷ edges_of parts))) is.1 (among_first node target (edge_of pass) (edges_of parts)), more)
      | inr apart ↦ subst (λ t. LeadTo count at ((node, edge_of pass, target) ∷ edges_of parts) (if t then (node, edge_of pass) ∷ edges_to at (edges_of parts) else edges_to at (edges_of parts))) (sym apart.0) more
    ]

module _ (R : Rules) (L : RulesLaws R) where
  label_below : (a b : List R.Store) (k : ℕ) → AllZip R.Below a b → R.Below (label_at R a k) (label_at R b k)
  label_below [] [] k zip = L.reflexive R.nowhere
  label_below [] (y ∷ b) k zip = absurd zip
  label_below (x ∷ a) [] k zip = absurd zip
  label_below (x ∷ a) (y ∷ b) zero zip = zip.0
  label_below (x ∷ a) (y ∷ b) (suc k) zip = label_below a b k zip.1

  carries_down : (one other : ℕ → R.Store) (pass : Pass) (s t u : R.Store) → R.Below s t → Carries R (Anything R) one pass t u → Carries R (Anything R) other pass s u
  carries_down one other Onward s t u below carries = L.transitive s t u below carries
  carries_down one other (Through op) s t u below carries = L.after op s t u u below carries (L.reflexive u)
  carries_down one other (Testing answer test) s t u below carries = L.tested answer test s t u u below carries (L.reflexive u)
  carries_down one other (Telling answer code slot) s t u below carries = L.told answer (last_done None code) slot s t u u below carries (L.reflexive u)

  module _ (kinds : ℕ → Kind) where
    bring_down : (a b : List R.Store) (joined : R.Store) (froms : List (ℕ × Edge)) → AllZip R.Below a b → AllBring R kinds b froms joined → AllBring R kinds a froms joined
    bring_down a b joined [] zip all = tt
    bring_down a b joined (from ∷ froms) zip all = (
      carries_down (λ number. joined) (λ number. joined) (pass_of (kinds from.0) from.1) (label_at R a from.0) (label_at R b from.0) joined (label_below a b from.0 zip) all.0,
      bring_down a b joined froms zip all.1,
    )

    -- ---- monotone

    module _ (entry_up : (s t : R.Store) → R.Entry s → R.Below s t → R.Entry t) where
      settles_up : (kind : Kind) (joined v w : R.Store) → Settles R (Anything R) (λ number. v) kind joined v → R.Below v w → Settles R (Anything R) (λ number. w) kind joined w
      settles_up Starts joined v w settles up = entry_up v w settles up
      settles_up (Does op) joined v w settles up = (L.transitive joined v w settles.0 up, tt)
      settles_up (Compares test) joined v w settles up = L.transitive joined v w settles up
      settles_up (Tells code slot) joined v w settles up = L.transitive joined v w settles up
      settles_up Joins joined v w settles up = L.transitive joined v w settles up
      settles_up (Heads number scope) joined v w settles up = (L.rounded scope joined joined v w (L.reflexive joined) settles.0 up, refl)
      settles_up (Returns value known span) joined v w settles up = (L.transitive joined v w settles.0 up, tt)
      settles_up Ends joined v w settles up = (L.transitive joined v w settles.0 up, tt)

      pub gathers_monotone : (edges : ℕ → List (ℕ × Edge)) → IsMonotone R.Below (Gathers R kinds edges)
      gathers_monotone edges at a b v w zip (joined, all, settles) up = (joined, bring_down a b joined (edges at) zip all, settles_up (kinds at) joined v w settles up)

    -- ---- what is read

    module _ (readers : List (List ℕ)) (parts : List Part) (reads : (node : ℕ) (by : List ℕ) → slice_get readers node ≡ Some by → by ≡ targets_from node (edges_of parts)) where
      read_here : (at node : ℕ) (a b : List R.Store) → AgreeWhereRead readers at a b → node < length readers → Among at (targets_from node (edges_of parts)) → label_at R a node ≡ label_at R b node
      read_here at node a b agree within has =
          let by = there readers node within in
          ap (λ o. unwrap_or o R.nowhere)
          (agree node by.0 by.1 (subst (λ ms. Contains ms at) (sym (reads node by.0 by.1)) (among_contains at (targets_from node (edges_of parts)) has)))

      bring_same : (at : ℕ) (a b : List R.Store) (joined : R.Store) (froms : List (ℕ × Edge)) → LeadTo (length readers) at (edges_of parts) froms → AgreeWhereRead readers at a b
          → AllBring R kinds a froms joined → AllBring R kinds b froms joined
      bring_same at a b joined [] lead agree all = tt
      bring_same at a b joined (from ∷ froms) lead agree all = (
        subst (λ s. Carries R (Anything R) (λ number. joined) (pass_of (kinds from.0) from.1) s joined) (read_here at from.0 a b agree lead.0 lead.1) all.0,
        bring_same at a b joined froms lead.2 agree all.1,
      )

      pub gathers_depends : AreBelow (length readers) parts → DependsOnRead readers (Gathers R kinds (λ at. edges_to at (edges_of parts)))
      gathers_depends below at a b value within agree (joined, all, settles) = (joined, bring_same at a b joined (edges_to at (edges_of parts)) (all_lead (length readers) at parts below) agree all, settles)

  -- ---- the least label of a node

  settled : (kind : Kind) (joined label : R.Store) → IsSettled R kind joined label → Settles R (Anything R) (λ number. label) kind joined label
  settled Starts joined label is = is.0
  settled (Does op) joined label is = (subst (λ s. R.Below joined s) (sym is) (L.reflexive joined), tt)
  settled (Compares test) joined label is = subst (λ s. R.Below joined s) (sym is) (L.reflexive joined)
  settled (Tells code slot) joined label is = subst (λ s. R.Below joined s) (sym is) (L.reflexive joined)
  settled Joins joined label is = subst (λ s. R.Below joined s) (sym is) (L.reflexive joined)
  settled (Heads number scope) joined label is = (is.0, refl)
  settled (Returns value known span) joined label is = (subst (λ s. R.Below joined s) (sym is) (L.reflexive joined), tt)
  settled Ends joined label is = (subst (λ s. R.Below joined s) (sym is) (L.reflexive joined), tt)

  settled_below : (kind : Kind) (joined label above other : R.Store) → IsSettled R kind joined label → R.Below joined above → Settles R (Anything R) (λ number. other) kind above other → R.Below label other
  settled_below Starts joined label above other is up settles = is.1 other settles
  settled_below (Does op) joined label above other is up settles = subst (λ s. R.Below s other) (sym is) (L.transitive joined above other up settles.0)
  settled_below (Compares test) joined label above other is up settles = subst (λ s. R.Below s other) (sym is) (L.transitive joined above other up settles)
  settled_below (Tells code slot) joined label above other is up settles = subst (λ s. R.Below s other) (sym is) (L.transitive joined above other up settles)
  settled_below Joins joined label above other is up settles = subst (λ s. R.Below s other) (sym is) (L.transitive joined above other up settles)
  settled_below (Heads number scope) joined label above other is up settles = is.1 other (L.rounded scope joined above other other up settles.0 (L.reflexive other))
  settled_below (Returns value known span) joined label above other is up settles = subst (λ s. R.Below s other) (sym is) (L.transitive joined above other up settles.0)
  settled_below Ends joined label above other is up settles = subst (λ s. R.Below s other) (sym is) (L.transitive joined above other up settles.0)

  pub gathers_least : (kinds : ℕ → Kind) (edges : ℕ → List (ℕ × Edge)) (at : ℕ) (labels : List R.Store) (joined label : R.Store) → IsLeastOf R.Below (AllBring R kinds labels (edges at)) joined
      → IsSettled R (kinds at) joined label → IsLeastOf R.Below (Gathers R kinds edges at labels) label
  gathers_least kinds edges at labels joined label least is = (
    (joined, least.0, settled (kinds at) joined label is),
    λ other (above, all, settles). settled_below (kinds at) joined label above other is (least.1 above all) settles,
  )

-- ---- the ends of edges

pub lead_within : (count at : ℕ) (edges : List (ℕ × Edge × ℕ)) (froms : List (ℕ × Edge)) (k : ℕ) (d : ℕ × Edge) → LeadTo count at edges froms → k < length froms → (slice_index_or froms k d).0 < count
lead_within count at edges [] k d lead within = absurd (omega (arith, within))
lead_within count at edges (from ∷ froms) zero d lead within = lead.0
lead_within count at edges (from ∷ froms) (suc k) d lead within = lead_within count at edges froms k d lead.2 (omega (arith, within))

abbrev pub AreUnder : ℕ → List ℕ → Type 0
AreUnder count ns = (k d : ℕ) → k < length ns → slice_index_or ns k d < count

under_more : (count n : ℕ) (ns : List ℕ) → n < count → AreUnder count ns → AreUnder count (n ∷ ns)
under_more count n ns first rest zero d within = first
under_more count n ns first rest (suc k) d within = rest k d (omega (arith, within))

-- the nodes that an edge of a node leads to are nodes
pub targets_within : (count node : ℕ) (parts : List Part) → AreBelow count parts → AreUnder count (targets_from node (edges_of parts))
targets_within count node [] below = λ k d within. absurd (omega (arith, within))
targets_within count node (NodePart number kind ∷ parts) below = targets_within count node parts below.1
targets_within count node (EdgePart from pass target ∷ parts) below = elim (same_or from node) [
  | inl is ↦ subst (λ t. AreUnder count (if t then target ∷ targets_from node (edges_of parts) else targets_from node (edges_of parts))) (sym is.0)
      (under_more count target (targets_from node (edges_of parts)) below.1 (targets_within count node parts below.2))
  | inr apart ↦ subst (λ t. AreUnder count (if t then target ∷ targets_from node (edges_of parts) else targets_from node (edges_of parts))) (sym apart.0) (targets_within count node parts below.2)
]
