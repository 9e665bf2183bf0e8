-- What a solver finds for the graph as a problem is a solution of the graph, and the least one.
use Rattle.std.proofs.Common.{ℕ, zero, suc, ◌+◌, ◌<◌, ◌≤◌, ◌⊎◌, inl, inr, ◌≡◌, refl, sym, ap, subst, ◌∙◌, List, [], ◌∷◌, length, slice_get, Some, unwrap_or, arith}
use Rattle.std.specs.List.{AllZip}
use Rattle.std.proofs.lemmas.Option.{slice_get_within}
use Rattle.std.proofs.lemmas.Bool.{cases_lt}
use Rattle.ix_core.specs.Code.{Code}
use Rattle.ix_solve.specs.Solutions.{IsSolution, IsLeast}
use Rattle.ix_flow.specs.Flow.{Rules, RulesLaws, IsFlow, IsLeastFlow, Anything}
use Rattle.ix_graph.specs.Graph.{Kind, Starts, Does, Compares, Tells, Joins, Heads, Returns, Ends, Pass, Onward, Through, Testing, Telling, Part, NodePart, EdgePart, AreBelow, behind_code, method_parts}
use Rattle.ix_graph.specs.GraphSolutions.{AllKeep, AllNodes, AllHeads, HasHead, EdgesTo, KindAt, label_at, NodeAsks, Settles, Carries}
use Rattle.ix_graph.proofs.LeastAgree.{least_agrees}
use Rattle.ix_graph.proofs.Numbers.{method_below}

module _ (R : Rules) (L : RulesLaws R) where
  abbrev pub read : (labels : List R.Store) (at : ℕ) → at < length labels → (label : R.Store) × (slice_get labels at ≡ Some label) × (label_at R labels at ≡ label)
  read [] at within = absurd (omega arith)
  read (x ∷ labels) zero within = (x, refl, refl)
  read (x ∷ labels) (suc at) within = read labels at (omega arith)

  heads_later : (P : ℕ → ℕ → Type 0) (at : ℕ) (kind : Kind) (parts : List Part) → AllHeads P (NodePart at kind ∷ parts) → AllHeads P parts
  heads_later P at Starts parts heads = heads
  heads_later P at (Does op) parts heads = heads
  heads_later P at (Compares test) parts heads = heads
  heads_later P at (Tells code slot) parts heads = heads
  heads_later P at Joins parts heads = heads
  heads_later P at (Heads number scope) parts heads = heads.1
  heads_later P at (Returns value known span) parts heads = heads
  heads_later P at Ends parts heads = heads

  -- what a node makes of a store doesn't depend on the labels by loops, where the head's label is that of its loop
  settles_with : (labels : ℕ → R.Store) (P : ℕ → ℕ → Type 0) (at : ℕ) (kind : Kind) (parts : List Part) (joined label : R.Store) → ((number : ℕ) → P at number → labels number ≡ label)
      → AllHeads P (NodePart at kind ∷ parts) → Settles R (Anything R) (λ number. label) kind joined label → Settles R (Anything R) labels kind joined label
  settles_with labels P at Starts parts joined label named heads settles = settles
  settles_with labels P at (Does op) parts joined label named heads settles = settles
  settles_with labels P at (Compares test) parts joined label named heads settles = settles
  settles_with labels P at (Tells code slot) parts joined label named heads settles = settles
  settles_with labels P at Joins parts joined label named heads settles = settles
  settles_with labels P at (Heads number scope) parts joined label named heads settles = (settles.0, named number heads.0)
  settles_with labels P at (Returns value known span) parts joined label named heads settles = settles
  settles_with labels P at Ends parts joined label named heads settles = settles

  settles_alone : (labels : ℕ → R.Store) (kind : Kind) (joined label : R.Store) → Settles R (Anything R) labels kind joined label → Settles R (Anything R) (λ number. label) kind joined label
  settles_alone labels Starts joined label settles = settles
  settles_alone labels (Does op) joined label settles = settles
  settles_alone labels (Compares test) joined label settles = settles
  settles_alone labels (Tells code slot) joined label settles = settles
  settles_alone labels Joins joined label settles = settles
  settles_alone labels (Heads number scope) joined label settles = (settles.0, refl)
  settles_alone labels (Returns value known span) joined label settles = settles
  settles_alone labels Ends joined label settles = settles

  carries_any : (one other : ℕ → R.Store) (pass : Pass) (s t : R.Store) → Carries R (Anything R) one pass s t → Carries R (Anything R) other pass s t
  carries_any one other Onward s t carries = carries
  carries_any one other (Through op) s t carries = carries
  carries_any one other (Testing answer test) s t carries = carries
  carries_any one other (Telling answer code slot) s t carries = carries

  -- ---- from labels that are a solution of the problem to a solution of the graph
  module _ (all : List Part) (stores : List R.Store) (size : ℕ) (solution : IsSolution R.Below size (NodeAsks R all) stores) (head : ℕ → ℕ) where
    abbrev pub labels_of : ℕ → R.Store
    labels_of number = label_at R stores (head number)

    abbrev pub asked : (at : ℕ) → at < size → NodeAsks R all at stores (label_at R stores at)
    asked at within =
        let r = read stores at (omega (arith, solution.len)) in
        subst (NodeAsks R all at stores) (sym r.2) (solution.above at r.0 r.1)

    abbrev pub pick : (at : ℕ) → (at < size) ⊎ (size ≤ at) → R.Store
    pick at (inl within) = (asked at within).0
    pick at (inr past) = R.nowhere

    picked : (at : ℕ) (P : R.Store → Type 0) → ((within : at < size) → P ((asked at within).0)) → at < size → (cases : (at < size) ⊎ (size ≤ at)) → P (pick at cases)
    picked at P gives within (inl again) = gives again
    picked at P gives within (inr past) = absurd (omega arith)

    abbrev pub joined_of : ℕ → R.Store
    joined_of at = pick at (cases_lt at size)

    kept_from : (parts : List Part)
        → ((at : ℕ) (within : at < size) → EdgesTo at (λ node pass. Carries R (Anything R) (λ number. label_at R stores at) pass (label_at R stores node) ((asked at within).0)) parts)
        → ((at : ℕ) (within : at < size) → KindAt at (λ kind. Settles R (Anything R) (λ number. label_at R stores at) kind ((asked at within).0) (label_at R stores at)) parts)
        → AreBelow size parts → AllHeads (λ at number. head number ≡ at) parts → AllKeep R (Anything R) labels_of joined_of (label_at R stores) parts
    kept_from [] into kinds below heads = tt
    kept_from (NodePart at kind ∷ parts) into kinds below heads = (
      settles_with labels_of (λ at number. head number ≡ at) at kind parts (joined_of at) (label_at R stores at) (λ number is. ap (label_at R stores) is) heads
          (picked at (λ joined. Settles R (Anything R) (λ number. label_at R stores at) kind joined (label_at R stores at)) (λ within. (kinds at within).0 refl) below.0 (cases_lt at size)),
      kept_from parts into (λ n within. (kinds n within).1) below.1 (heads_later (λ at number. head number ≡ at) at kind parts heads),
    )
    kept_from (EdgePart node pass target ∷ parts) into kinds below heads = (
      picked target (λ joined. Carries R (Anything R) labels_of pass (label_at R stores node) joined)
          (λ within. carries_any (λ number. label_at R stores target) labels_of pass (label_at R stores node) ((asked target within).0) ((into target within).0 refl)) below.1 (cases_lt target size),
      kept_from parts (λ n within. (into n within).1) kinds below.2 heads,
    )

    pub solution_keeps : AreBelow size all → AllHeads (λ at number. head number ≡ at) all → AllKeep R (Anything R) labels_of joined_of (label_at R stores) all
    solution_keeps below heads = kept_from all (λ at within. (asked at within).1) (λ at within. (asked at within).2) below heads

  -- ---- and back
  abbrev pub table : (ℕ → R.Store) → ℕ → ℕ → List R.Store
  table M at zero = []
  table M at (suc size) = M at ∷ table M (suc at) size

  length-table : (M : ℕ → R.Store) (at size : ℕ) → length (table M at size) ≡ size
  length-table M at zero = refl
  length-table M at (suc size) = omega (arith, length-table M (suc at) size)

  table_at : (M : ℕ → R.Store) (at size k : ℕ) → k < size → slice_get (table M at size) k ≡ Some (M (at + k))
  table_at M at zero k within = absurd (omega arith)
  table_at M at (suc size) zero within = let e : at ≡ at + 0 = omega arith in ap (λ n. Some (M n)) e
  table_at M at (suc size) (suc k) within = let e : suc at + k ≡ at + suc k = omega arith in table_at M (suc at) size k (omega arith) ∙ ap (λ n. Some (M n)) e

  table_label : (M : ℕ → R.Store) (size k : ℕ) → k < size → label_at R (table M 0 size) k ≡ M k
  table_label M size k within = ap (λ o. unwrap_or o R.nowhere) (table_at M 0 size k within) ∙ (let e : 0 + k ≡ k = omega arith in ap M e)

  module _ (labels J M : ℕ → R.Store) (size : ℕ) where
    edges_back : (at : ℕ) (other : ℕ → R.Store) (parts : List Part) → AllKeep R (Anything R) labels J M parts → AreBelow size parts
        → EdgesTo at (λ node pass. Carries R (Anything R) other pass (label_at R (table M 0 size) node) (J at)) parts
    edges_back at other [] kept below = tt
    edges_back at other (NodePart n kind ∷ parts) kept below = edges_back at other parts kept.1 below.1
    edges_back at other (EdgePart node pass target ∷ parts) kept below = (
      λ is. subst (λ s. Carries R (Anything R) other pass s (J at)) (sym (table_label M size node below.0)) (subst (λ n. Carries R (Anything R) other pass (M node) (J n)) is (carries_any labels other pass (M node) (J target) kept.0)),
      edges_back at other parts kept.1 below.2,
    )

    kinds_back : (at : ℕ) (parts : List Part) → AllKeep R (Anything R) labels J M parts → KindAt at (λ kind. Settles R (Anything R) (λ number. M at) kind (J at) (M at)) parts
    kinds_back at [] kept = tt
    kinds_back at (NodePart n kind ∷ parts) kept = (λ is. subst (λ n. Settles R (Anything R) (λ number. M n) kind (J n) (M n)) is (settles_alone labels kind (J n) (M n) kept.0), kinds_back at parts kept.1)
    kinds_back at (EdgePart node pass target ∷ parts) kept = kinds_back at parts kept.1

    pub keeps_solution : (parts : List Part) → AllKeep R (Anything R) labels J M parts → AreBelow size parts → IsSolution R.Below size (NodeAsks R parts) (table M 0 size)
    keeps_solution parts kept below = record {
      len = length-table M 0 size;
      above = λ at label found.
          let within : at < size = omega (arith, slice_get_within (table M 0 size) at label found, length-table M 0 size) in
          let e : 0 + at ≡ at = omega arith in
          let both : Some label ≡ Some (M at) = sym found ∙ table_at M 0 size at within ∙ ap (λ n. Some (M n)) e in
          let is : label ≡ M at = cc in
          subst (NodeAsks R parts at (table M 0 size)) (sym is) (J at, edges_back at (λ number. M at) parts kept below, kinds_back at parts kept);
    }

  zip_label : (M : ℕ → R.Store) (labels : List R.Store) (at size k : ℕ) → AllZip R.Below labels (table M at size) → k < size → R.Below (label_at R labels k) (M (at + k))
  zip_label M labels at zero k zip within = absurd (omega arith)
  zip_label M [] at (suc size) k zip within = absurd zip
  zip_label M (x ∷ labels) at (suc size) zero zip within = let e : at ≡ at + 0 = omega arith in subst (λ n. R.Below x (M n)) e zip.0
  zip_label M (x ∷ labels) at (suc size) (suc k) zip within = let e : suc at + k ≡ at + suc k = omega arith in subst (λ n. R.Below (label_at R labels k) (M n)) e (zip_label M labels (suc at) size k zip.1 (omega arith))

  pub nodes_below : (N : ℕ → R.Store) (stores : List R.Store) (size : ℕ) (parts : List Part) → AllZip R.Below stores (table N 0 size) → AreBelow size parts → AllNodes (λ at. R.Below (label_at R stores at) (N at)) parts
  nodes_below N stores size [] zip below = tt
  nodes_below N stores size (NodePart at kind ∷ parts) zip below = (let e : 0 + at ≡ at = omega arith in subst (λ n. R.Below (label_at R stores at) (N n)) e (zip_label N stores 0 size at zip below.0), nodes_below N stores size parts zip below.1)
  nodes_below N stores size (EdgePart node pass target ∷ parts) zip below = nodes_below N stores size parts zip below.2

  -- What `solve_graph` answers for the graph of a body: labels at the heads that are a solution of the flow, below every solution.
  pub solved_flow : (body : Code) (size : ℕ) (stores : List R.Store) (head : ℕ → ℕ) → AreBelow size (method_parts body) → AllHeads (λ at number. head number ≡ at) (method_parts body)
      → IsSolution R.Below size (NodeAsks R (method_parts body)) stores → IsLeast R.Below size (NodeAsks R (method_parts body)) stores
      → IsFlow R (Anything R) (λ number. label_at R stores (head number)) body
      × ((other : ℕ → R.Store) → IsFlow R (Anything R) other body → AllHeads (λ at number. R.Below (label_at R stores (head number)) (other number)) (method_parts body))
  solved_flow body size stores head below heads solution least =
      least_agrees R L body (labels_of (method_parts body) stores size solution head) (joined_of (method_parts body) stores size solution head) (label_at R stores)
      (solution_keeps (method_parts body) stores size solution head below heads)
      (λ labels J N kept. nodes_below N stores size (method_parts body) (least (table N 0 size) (keeps_solution labels J N size (method_parts body) kept below)) below)

  -- what holds at each head holds at each loop whose head is there
  at_loop : (P : ℕ → Type 0) (loop : ℕ) (parts : List Part) → AllHeads (λ at number. P number) parts → HasHead loop parts → P loop
  at_loop P loop [] all has = absurd has
  at_loop P loop (NodePart at Starts ∷ parts) all has = at_loop P loop parts all has
  at_loop P loop (NodePart at (Does op) ∷ parts) all has = at_loop P loop parts all has
  at_loop P loop (NodePart at (Compares test) ∷ parts) all has = at_loop P loop parts all has
  at_loop P loop (NodePart at (Tells code slot) ∷ parts) all has = at_loop P loop parts all has
  at_loop P loop (NodePart at Joins ∷ parts) all has = at_loop P loop parts all has
  at_loop P loop (NodePart at (Heads number scope) ∷ parts) all (inl is) = subst P is all.0
  at_loop P loop (NodePart at (Heads number scope) ∷ parts) all (inr has) = at_loop P loop parts all.1 has
  at_loop P loop (NodePart at (Returns value known span) ∷ parts) all has = at_loop P loop parts all has
  at_loop P loop (NodePart at Ends ∷ parts) all has = at_loop P loop parts all has
  at_loop P loop (EdgePart node pass target ∷ parts) all has = at_loop P loop parts all has

  -- What `solve_graph` answers for the graph of a body whose loops have the numbers below `loops`, each at one head: the least labels of its loops.
  pub solved_least : (body : Code) (loops : ℕ) (stores : List R.Store) (head : ℕ → ℕ) → AllHeads (λ at number. head number ≡ at) (method_parts body) → ((number : ℕ) → number < loops → HasHead number (method_parts body))
      → IsSolution R.Below (behind_code body 2) (NodeAsks R (method_parts body)) stores → IsLeast R.Below (behind_code body 2) (NodeAsks R (method_parts body)) stores
      → IsLeastFlow R body loops (λ number. label_at R stores (head number))
  solved_least body loops stores head heads there solution least =
      let solved = solved_flow body (behind_code body 2) stores head (method_below body) heads solution least in (
        solved.0,
        λ other flow number within. at_loop (λ n. R.Below (label_at R stores (head n)) (other n)) number (method_parts body) (solved.1 other flow) (there number within),
      )
