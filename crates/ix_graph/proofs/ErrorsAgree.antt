-- The errors at the nodes of the graph's least solution are those that the rules derive.
use Rattle.std.proofs.Common.{ℕ, List, [], ◌∷◌}
use Rattle.ix_core.specs.Code.{Code}
use Rattle.ix_flow.specs.Flow.{Point, Doing, Returning, Ending, Rules, RulesLaws, IsFlow, Anything, Avoids, IsDerived}
use Rattle.ix_graph.specs.Graph.{Starts, Does, Compares, Tells, Joins, Heads, Returns, Ends, Part, NodePart, EdgePart, method_parts}
use Rattle.ix_graph.specs.GraphSolutions.{AllKeep, AllNodes, AllPoints}
use Rattle.ix_graph.proofs.FlowOfGraph.{graph_flows}
use Rattle.ix_graph.proofs.LeastAgree.{IsLeastOf, solution_of}

module _ (R : Rules) (L : RulesLaws R) where
  module _ (Fine : Point → R.Store → Type 0) (labels J M : ℕ → R.Store) where
    -- a solution that is fine at each point
    pub with_points : (parts : List Part) → AllKeep R (Anything R) labels J M parts → AllPoints (λ at point. Fine point (M at)) parts → AllKeep R Fine labels J M parts
    with_points [] kept fine = tt
    with_points (NodePart at Starts ∷ parts) kept fine = (kept.0, with_points parts kept.1 fine)
    with_points (NodePart at (Does op) ∷ parts) kept fine = ((kept.0.0, fine.0), with_points parts kept.1 fine.1)
    with_points (NodePart at (Compares test) ∷ parts) kept fine = (kept.0, with_points parts kept.1 fine)
    with_points (NodePart at (Tells code slot) ∷ parts) kept fine = (kept.0, with_points parts kept.1 fine)
    with_points (NodePart at Joins ∷ parts) kept fine = (kept.0, with_points parts kept.1 fine)
    with_points (NodePart at (Heads number scope) ∷ parts) kept fine = (kept.0, with_points parts kept.1 fine)
    with_points (NodePart at (Returns value known span) ∷ parts) kept fine = ((kept.0.0, fine.0), with_points parts kept.1 fine.1)
    with_points (NodePart at Ends ∷ parts) kept fine = ((kept.0.0, fine.0), with_points parts kept.1 fine.1)
    with_points (EdgePart node pass target ∷ parts) kept fine = (kept.0, with_points parts kept.1 fine)

    -- and back
    pub points_of : (parts : List Part) → AllKeep R Fine labels J M parts → AllKeep R (Anything R) labels J M parts × AllPoints (λ at point. Fine point (M at)) parts
    points_of [] kept = (tt, tt)
    points_of (NodePart at Starts ∷ parts) kept = let r = points_of parts kept.1 in ((kept.0, r.0), r.1)
    points_of (NodePart at (Does op) ∷ parts) kept = let r = points_of parts kept.1 in (((kept.0.0, tt), r.0), (kept.0.1, r.1))
    points_of (NodePart at (Compares test) ∷ parts) kept = let r = points_of parts kept.1 in ((kept.0, r.0), r.1)
    points_of (NodePart at (Tells code slot) ∷ parts) kept = let r = points_of parts kept.1 in ((kept.0, r.0), r.1)
    points_of (NodePart at Joins ∷ parts) kept = let r = points_of parts kept.1 in ((kept.0, r.0), r.1)
    points_of (NodePart at (Heads number scope) ∷ parts) kept = let r = points_of parts kept.1 in ((kept.0, r.0), r.1)
    points_of (NodePart at (Returns value known span) ∷ parts) kept = let r = points_of parts kept.1 in (((kept.0.0, tt), r.0), (kept.0.1, r.1))
    points_of (NodePart at Ends ∷ parts) kept = let r = points_of parts kept.1 in (((kept.0.0, tt), r.0), (kept.0.1, r.1))
    points_of (EdgePart node pass target ∷ parts) kept = let r = points_of parts kept.1 in ((kept.0, r.0), r.1)

  module _ (Fine : Point → R.Store → Type 0) (finer : (point : Point) (s t : R.Store) → R.Below s t → Fine point t → Fine point s) where
    points_below : (M N : ℕ → R.Store) (parts : List Part) → AllNodes (λ at. R.Below (M at) (N at)) parts → AllPoints (λ at point. Fine point (N at)) parts → AllPoints (λ at point. Fine point (M at)) parts
    points_below M N [] below fine = tt
    points_below M N (NodePart at Starts ∷ parts) below fine = points_below M N parts below.1 fine
    points_below M N (NodePart at (Does op) ∷ parts) below fine = (finer (Doing op) (M at) (N at) below.0 fine.0, points_below M N parts below.1 fine.1)
    points_below M N (NodePart at (Compares test) ∷ parts) below fine = points_below M N parts below.1 fine
    points_below M N (NodePart at (Tells code slot) ∷ parts) below fine = points_below M N parts below.1 fine
    points_below M N (NodePart at Joins ∷ parts) below fine = points_below M N parts below.1 fine
    points_below M N (NodePart at (Heads number scope) ∷ parts) below fine = points_below M N parts below.1 fine
    points_below M N (NodePart at (Returns value known span) ∷ parts) below fine = (finer (Returning value known span) (M at) (N at) below.0 fine.0, points_below M N parts below.1 fine.1)
    points_below M N (NodePart at Ends ∷ parts) below fine = (finer Ending (M at) (N at) below.0 fine.0, points_below M N parts below.1 fine.1)
    points_below M N (EdgePart node pass target ∷ parts) below fine = points_below M N parts below fine

    -- What is fine in some flow is fine at each node of the least solution; and what is fine there is fine in the flow that it gives.
    pub fine_at_nodes : (body : Code) (M labels : ℕ → R.Store) → IsLeastOf R L (method_parts body) M → IsFlow R Fine labels body → AllPoints (λ at point. Fine point (M at)) (method_parts body)
    fine_at_nodes body M labels least flow =
        let s = solution_of R L Fine finer labels body flow in
        let r = points_of Fine labels s.0 s.1 (method_parts body) s.2 in
        points_below M s.1 (method_parts body) (least labels s.0 s.1 r.0) r.1

    pub fine_flows : (body : Code) (labels J M : ℕ → R.Store) → AllKeep R (Anything R) labels J M (method_parts body) → AllPoints (λ at point. Fine point (M at)) (method_parts body) → IsFlow R Fine labels body
    fine_flows body labels J M kept fine = graph_flows R L Fine finer labels J M body (with_points Fine labels J M (method_parts body) kept fine)

  module _ {E : Type 0} (Derives : Point → R.Store → E → Type 0) (weaker : (point : Point) (s t : R.Store) (error : E) → R.Below s t → Derives point s error → Derives point t error) where
    -- an error is derived exactly where not every node avoids it
    pub derived_exactly : (body : Code) (labels J M : ℕ → R.Store) (error : E) → AllKeep R (Anything R) labels J M (method_parts body) → IsLeastOf R L (method_parts body) M
        → (IsDerived R Derives body error → AllPoints (λ at point. Avoids R Derives error point (M at)) (method_parts body) → ⊥)
        × ((AllPoints (λ at point. Avoids R Derives error point (M at)) (method_parts body) → ⊥) → IsDerived R Derives body error)
    derived_exactly body labels J M error kept least =
        let finer : (point : Point) (s t : R.Store) → R.Below s t → Avoids R Derives error point t → Avoids R Derives error point s = λ point s t below avoids has. avoids (weaker point s t error below has) in (
          λ derived avoids. derived labels (fine_flows (Avoids R Derives error) finer body labels J M kept avoids),
          λ not other flow. not (fine_at_nodes (Avoids R Derives error) finer body M other least flow),
        )

    -- Of a least solution of the graph the labels at the heads are the least ones: an error is derived exactly where no flow with these labels avoids it.
    pub derived_at_least : (body : Code) (labels J M : ℕ → R.Store) (error : E) → AllKeep R (Anything R) labels J M (method_parts body) → IsLeastOf R L (method_parts body) M
        → (IsDerived R Derives body error → IsFlow R (Avoids R Derives error) labels body → ⊥)
        × ((IsFlow R (Avoids R Derives error) labels body → ⊥) → IsDerived R Derives body error)
    derived_at_least body labels J M error kept least =
        let finer : (point : Point) (s t : R.Store) → R.Below s t → Avoids R Derives error point t → Avoids R Derives error point s = λ point s t below avoids has. avoids (weaker point s t error below has) in (
          λ derived. derived labels,
          λ not other flow. not (fine_flows (Avoids R Derives error) finer body labels J M kept (fine_at_nodes (Avoids R Derives error) finer body M other least flow)),
        )
