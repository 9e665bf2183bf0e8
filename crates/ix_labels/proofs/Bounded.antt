-- The bound on the visits of a method's nodes, by its edges and its least labels.
use Rattle.std.specs.List.{AllZip}
use Rattle.std.proofs.Common.{◌≡◌, ◌+◌, ◌*◌, ◌-◌, ◌≤◌, ℕ, suc, List, [], ◌∷◌, Some, length, map, slice_get, arith, refl, sym, ap, ◌∙◌}
use Rattle.ix_core.specs.declared.fact.Profile.{Profile}
use Rattle.ix_core.specs.declared.program.Method.{Method}
use Rattle.ix_core.specs.declared.program.Program.{Program}
use Rattle.ix_core.specs.Code.{Code, block_code}
use Rattle.ix_graph.specs.declared.node.Edge.{Edge}
use Rattle.ix_graph.specs.declared.node.Node.{Node}
use Rattle.ix_graph.specs.Built.{edges_of, targets_from}
use Rattle.ix_graph.specs.Graph.{behind_code, method_parts}
use Rattle.ix_graph.specs.Linked.{HaveEdges}
use Rattle.ix_lattice.specs.Lattice.{LatticeLaws, same_rank}
use Rattle.ix_facts.specs.Stores.{IsBelow}
use Rattle.ix_store.specs.declared.store.Store.{Store}
use Rattle.ix_store.specs.StoredFacts.{stored}
use Rattle.ix_store.specs.StoreOrder.{StoreBelow, store_rank, top_rank}
use Rattle.ix_solve.specs.Readers.{readings}
use Rattle.ix_solve.specs.Solutions.{one_least_solution}
use Rattle.ix_graph.specs.GraphSolutions.{NodeAsks}
use Rattle.ix_sign.specs.MethodRules.{method_rules}
use Rattle.ix_labels.specs.Labels.{AreLabelsOf}
use Rattle.ix_labels.specs.Problem.{readers_in}
use Rattle.ix_labels.specs.Visits.{targets_of, readers_by, visits_by, MostVisits, VisitsWithin}

-- the readers of the nodes are the targets of the edges
readers_from : (edges : List (ℕ × Edge × ℕ)) (nodes : List Node) (at : ℕ) → ((k : ℕ) (node : Node) → slice_get nodes k ≡ Some node → node.readers.items ≡ targets_from (at + k) edges) → readers_in nodes ≡ targets_of edges at (length nodes)
readers_from edges [] at each = refl
readers_from edges (node ∷ nodes) at each =
    let none : at + 0 ≡ at = omega arith in
    let first : node.readers.items ≡ targets_from at edges = each 0 node refl ∙ ap (λ n. targets_from n edges) none in
    let rest = readers_from edges nodes (suc at) (λ k other found. each (suc k) other found ∙ (let e : at + suc k ≡ suc at + k = omega arith in ap (λ n. targets_from n edges) e)) in
    ap (λ by. by ∷ readers_in nodes) first ∙ ap (λ more. targets_from at edges ∷ more) rest

pub readers_are : (body : Code) (nodes : List Node) → length nodes ≡ behind_code body 2 → HaveEdges nodes (edges_of (method_parts body)) → readers_in nodes ≡ readers_by body
readers_are body nodes size have =
    readers_from (edges_of (method_parts body)) nodes 0 (λ k node found. (have k node found).readers ∙ (let e : k ≡ 0 + k = omega arith in ap (λ n. targets_from n (edges_of (method_parts body))) e))
    ∙ ap (targets_of (edges_of (method_parts body)) 0) size

pub visits_within : (program : Program) (method : Method) (profile : Profile) (nodes : List Node) (stores : List Store) (before after : ℕ) → AreLabelsOf program method profile nodes stores
    → after ≤ before + visits_by (block_code method.body) stores → VisitsWithin program method profile before after
visits_within program method profile nodes stores before after are within = (
  visits_by (block_code method.body) stores,
  record { labels = stores; solution = are.solution; least = are.least; is = refl },
  within,
)

-- ---- there is one such number

same_readings : LatticeLaws StoreBelow store_rank → (readers : List (List ℕ)) (a b : List Store) → AllZip IsBelow (map stored a) (map stored b) → AllZip IsBelow (map stored b) (map stored a) → readings store_rank top_rank readers a ≡ readings store_rank top_rank readers b
same_readings laws [] a b up down = refl
same_readings laws (by ∷ readers) [] [] up down = refl
same_readings laws (by ∷ readers) [] (y ∷ b) up down = absurd up
same_readings laws (by ∷ readers) (x ∷ a) [] up down = absurd up
same_readings laws (by ∷ readers) (x ∷ a) (y ∷ b) up down =
    let one : store_rank x ≡ store_rank y = same_rank laws x y up.0 down.0 in
    ap (λ r. length by * (top_rank - r) + readings store_rank top_rank readers a) one ∙ ap (λ more. length by * (top_rank - store_rank y) + more) (same_readings laws readers a b up.1 down.1)

pub one_most : LatticeLaws StoreBelow store_rank → (program : Program) (method : Method) (profile : Profile) (first second : ℕ) → MostVisits program method profile first → MostVisits program method profile second → first ≡ second
one_most laws program method profile first second one other =
    let body = block_code method.body in
    let same = one_least_solution IsBelow (behind_code body 2) (NodeAsks (method_rules program method profile) (method_parts body)) (map stored one.labels) (map stored other.labels) one.solution one.least other.solution other.least in
    one.is ∙ ap (λ more. behind_code body 2 + more) (same_readings laws (readers_by body) one.labels other.labels same.0 same.1) ∙ sym other.is
