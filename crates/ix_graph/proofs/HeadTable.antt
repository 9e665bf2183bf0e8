-- Where loops are numbered in the order of their heads, each head is found by its loop's number, and what is found for the graph is its least solution.
use Rattle.std.proofs.Common.{◌≡◌, ◌+◌, ℕ, suc, List, [], ◌∷◌, slice_get, unwrap_or, arith, sym, ap, ◌∙◌}
use Rattle.ix_core.specs.Code.{Code}
use Rattle.ix_flow.specs.Flow.{Rules, RulesLaws, Anything}
use Rattle.ix_graph.specs.Graph.{Part, NodePart, EdgePart, Starts, Does, Compares, Tells, Joins, Heads, Returns, Ends, behind_code, method_parts}
use Rattle.ix_graph.specs.GraphSolutions.{AllKeep, AllHeads, label_at, NodeAsks}
use Rattle.ix_graph.specs.Heads.{heads_in, AreInOrder, head_of}
use Rattle.ix_graph.proofs.LeastAgree.{IsLeastOf}
use Rattle.ix_graph.proofs.Numbers.{method_below}
use Rattle.ix_graph.proofs.Solved.{labels_of, joined_of, solution_keeps, keeps_solution, nodes_below, table}
use Rattle.ix_solve.specs.Solutions.{IsSolution, IsLeast}

heads_found : (all parts : List Part) (first : ℕ) → AreInOrder first parts → ((k : ℕ) → slice_get (heads_in parts) k ≡ slice_get (heads_in all) (first + k)) → AllHeads (λ at number. head_of all number ≡ at) parts
heads_found all [] first order same = tt
heads_found all (NodePart at Starts ∷ parts) first order same = heads_found all parts first order same
heads_found all (NodePart at (Does op) ∷ parts) first order same = heads_found all parts first order same
heads_found all (NodePart at (Compares test) ∷ parts) first order same = heads_found all parts first order same
heads_found all (NodePart at (Tells code slot) ∷ parts) first order same = heads_found all parts first order same
heads_found all (NodePart at Joins ∷ parts) first order same = heads_found all parts first order same
heads_found all (NodePart at (Heads number scope) ∷ parts) first order same = (
  (let e : first + 0 ≡ number = omega (arith, order.0) in ap (λ o. unwrap_or o 0) (ap (slice_get (heads_in all)) (sym e) ∙ sym (same 0))),
  heads_found all parts (suc first) order.1 (λ k. same (suc k) ∙ (let e : first + suc k ≡ suc first + k = omega arith in ap (slice_get (heads_in all)) e)),
)
heads_found all (NodePart at (Returns value known span) ∷ parts) first order same = heads_found all parts first order same
heads_found all (NodePart at Ends ∷ parts) first order same = heads_found all parts first order same
heads_found all (EdgePart node pass target ∷ parts) first order same = heads_found all parts first order same

pub found_by_number : (parts : List Part) → AreInOrder 0 parts → AllHeads (λ at number. head_of parts number ≡ at) parts
found_by_number parts order = heads_found parts parts 0 order (λ k. let e : k ≡ 0 + k = omega arith in ap (slice_get (heads_in parts)) e)

module _ (R : Rules) (L : RulesLaws R) (body : Code) (stores : List R.Store) where
  -- the stores that solve the problem of the graph keep what its parts ask
  pub stores_keep : AreInOrder 0 (method_parts body) → (solution : IsSolution R.Below (behind_code body 2) (NodeAsks R (method_parts body)) stores)
      → AllKeep R (Anything R) (labels_of R L (method_parts body) stores (behind_code body 2) solution (head_of (method_parts body))) (joined_of R L (method_parts body) stores (behind_code body 2) solution (head_of (method_parts body))) (label_at R stores) (method_parts body)
  stores_keep order solution =
      solution_keeps R L (method_parts body) stores (behind_code body 2) solution (head_of (method_parts body)) (method_below body) (found_by_number (method_parts body) order)

  pub stores_least : IsLeast R.Below (behind_code body 2) (NodeAsks R (method_parts body)) stores → IsLeastOf R L (method_parts body) (label_at R stores)
  stores_least least = λ labels J N kept.
      nodes_below R L N stores (behind_code body 2) (method_parts body) (least (table R L N 0 (behind_code body 2)) (keeps_solution R L labels J N (behind_code body 2) (method_parts body) kept (method_below body))) (method_below body)
