-- The stores beside the heads are those at the loops' numbers.
use Rattle.std.proofs.Common.{◌≡◌, ◌+◌, ◌<◌, inl, inr, ℕ, zero, suc, Bool, true, false, List, [], ◌∷◌, ◌++◌, Some, length, map, slice_get, get_or, unwrap_or, drop, arith, refl, sym, ap, subst, ◌∙◌, append_assoc}
use Rattle.std.specs.Prelude.{if◌then◌else◌}
use Rattle.std.proofs.lemmas.List.{length-map}
use Rattle.ix_core.specs.declared.fact.Profile.{Profile}
use Rattle.ix_core.specs.declared.program.Method.{Method}
use Rattle.ix_core.specs.declared.program.Program.{Program}
use Rattle.ix_core.specs.Code.{block_code}
use Rattle.ix_graph.specs.declared.node.Node.{Node}
use Rattle.ix_graph.specs.Built.{kind_of, kinds_of}
use Rattle.ix_graph.specs.Linked.{kinds_in}
use Rattle.ix_graph.specs.Graph.{Kind, Starts, Does, Compares, Tells, Joins, Heads, Returns, Ends, Part, NodePart, EdgePart, method_parts, AreNumbered}
use Rattle.ix_graph.specs.GraphSolutions.{label_at, HasHead}
use Rattle.ix_graph.specs.Heads.{heads_in, AreInOrder, head_of}
use Rattle.ix_graph.proofs.HeadTable.{found_by_number}
use Rattle.ix_graph.proofs.Numbers.{method_numbered}
use Rattle.ix_graph.proofs.Solved.{solved_least}
use Rattle.ix_labels.specs.declared.labels.Labels.{Labels}
use Rattle.ix_labels.specs.Labels.{AreLabels}
use Rattle.ix_sign.specs.MethodRules.{method_rules}
use Rattle.ix_sign.proofs.MethodLaws.{method_laws}
use Rattle.ix_store.specs.declared.store.Store.{Store}
use Rattle.ix_store.specs.StoredFacts.{stored}
use Rattle.ix_solve.proofs.LabelLists.{meaning_at}
use Rattle.ix_labels.specs.LoopLabels.{AreLoopLabels, is_head, one_if, head_stores}

-- ---- one node more

by_head : (head : Bool) (store : Store) (rest : List Store) → (if head then store ∷ rest else rest) ≡ one_if head store ++ rest
by_head true store rest = refl
by_head false store rest = refl

here : (nodes : List Node) (stores : List Store) (at : ℕ) (node : Node) (store : Store) → at < length nodes → node ≡ get_or nodes at node → at < length stores → store ≡ get_or stores at store
    → head_stores (drop at nodes) (drop at stores) ≡ one_if (is_head (kind_of node.kind)) store ++ head_stores (drop (suc at) nodes) (drop (suc at) stores)
here [] stores at node store within is inside also = absurd (omega (arith, within))
here (first ∷ nodes) [] at node store within is inside also = absurd (omega (arith, inside))
here (first ∷ nodes) (one ∷ stores) zero node store within is inside also =
    subst (λ (n : Node). (if is_head (kind_of first.kind) then one ∷ head_stores nodes stores else head_stores nodes stores) ≡ one_if (is_head (kind_of n.kind)) store ++ head_stores nodes stores) (sym is)
    (subst (λ s. (if is_head (kind_of first.kind) then one ∷ head_stores nodes stores else head_stores nodes stores) ≡ one_if (is_head (kind_of first.kind)) s ++ head_stores nodes stores) (sym also)
    (by_head (is_head (kind_of first.kind)) one (head_stores nodes stores)))
here (first ∷ nodes) (one ∷ stores) (suc at) node store within is inside also = here nodes stores at node store (omega (arith, within)) is (omega (arith, inside)) also

pub next : (nodes : List Node) (stores found all : List Store) (at : ℕ) (node : Node) (store : Store) → at < length nodes → node ≡ get_or nodes at node → at < length stores → store ≡ get_or stores at store
    → found ++ head_stores (drop at nodes) (drop at stores) ≡ all → (found ++ one_if (is_head (kind_of node.kind)) store) ++ head_stores (drop (at + 1) nodes) (drop (at + 1) stores) ≡ all
next nodes stores found all at node store within is inside also before =
    let one : at + 1 ≡ suc at = omega arith in
    append_assoc found (one_if (is_head (kind_of node.kind)) store) (head_stores (drop (at + 1) nodes) (drop (at + 1) stores))
    ∙ ap (λ l. found ++ l) (ap (λ n. one_if (is_head (kind_of node.kind)) store ++ head_stores (drop n nodes) (drop n stores)) one ∙ sym (here nodes stores at node store within is inside also)) ∙ before

-- ---- by kinds

by_kinds : List Kind → List Store → List Store
by_kinds [] stores = []
by_kinds (kind ∷ kinds) [] = []
by_kinds (kind ∷ kinds) (store ∷ stores) = if is_head kind then store ∷ by_kinds kinds stores else by_kinds kinds stores

same_by : (nodes : List Node) (stores : List Store) → head_stores nodes stores ≡ by_kinds (kinds_in nodes) stores
unfolding by_kinds
same_by [] stores = refl
same_by (node ∷ nodes) [] = refl
same_by (node ∷ nodes) (store ∷ stores) = ap (λ l. if is_head (kind_of node.kind) then store ∷ l else l) (same_by nodes stores)

counts : (parts : List Part) (stores : List Store) → length stores ≡ length (kinds_of parts) → length (by_kinds (kinds_of parts) stores) ≡ length (heads_in parts)
unfolding by_kinds
counts [] stores same = refl
counts (NodePart at kind ∷ parts) [] same = absurd (omega (arith, same))
counts (NodePart at Starts ∷ parts) (store ∷ stores) same = counts parts stores (omega (arith, same))
counts (NodePart at (Does op) ∷ parts) (store ∷ stores) same = counts parts stores (omega (arith, same))
counts (NodePart at (Compares test) ∷ parts) (store ∷ stores) same = counts parts stores (omega (arith, same))
counts (NodePart at (Tells code slot) ∷ parts) (store ∷ stores) same = counts parts stores (omega (arith, same))
counts (NodePart at Joins ∷ parts) (store ∷ stores) same = counts parts stores (omega (arith, same))
counts (NodePart at (Heads number scope) ∷ parts) (store ∷ stores) same = let later = counts parts stores (omega (arith, same)) in omega (arith, later)
counts (NodePart at (Returns value known span) ∷ parts) (store ∷ stores) same = counts parts stores (omega (arith, same))
counts (NodePart at Ends ∷ parts) (store ∷ stores) same = counts parts stores (omega (arith, same))
counts (EdgePart node pass target ∷ parts) stores same = counts parts stores same

later_is : (stores all : List Store) (store : Store) (first : ℕ) → ((k : ℕ) → slice_get (store ∷ stores) k ≡ slice_get all (first + k)) → (k : ℕ) → slice_get stores k ≡ slice_get all (suc first + k)
later_is stores all store first same k = same (suc k) ∙ (let e : first + suc k ≡ suc first + k = omega arith in ap (slice_get all) e)

at_number : (parts : List Part) (first : ℕ) (stores all : List Store) → AreNumbered first parts → length stores ≡ length (kinds_of parts) → ((k : ℕ) → slice_get stores k ≡ slice_get all (first + k))
    → (number : ℕ) → number < length (heads_in parts) → slice_get (by_kinds (kinds_of parts) stores) number ≡ slice_get all (unwrap_or (slice_get (heads_in parts) number) 0)
unfolding by_kinds
at_number [] first stores all numbered same are number within = absurd (omega (arith, within))
at_number (NodePart at kind ∷ parts) first [] all numbered same are number within = absurd (omega (arith, same))
at_number (NodePart at Starts ∷ parts) first (store ∷ stores) all numbered same are number within = at_number parts (suc first) stores all numbered.1 (omega (arith, same)) (later_is stores all store first are) number within
at_number (NodePart at (Does op) ∷ parts) first (store ∷ stores) all numbered same are number within = at_number parts (suc first) stores all numbered.1 (omega (arith, same)) (later_is stores all store first are) number within
at_number (NodePart at (Compares test) ∷ parts) first (store ∷ stores) all numbered same are number within = at_number parts (suc first) stores all numbered.1 (omega (arith, same)) (later_is stores all store first are) number within
at_number (NodePart at (Tells code slot) ∷ parts) first (store ∷ stores) all numbered same are number within = at_number parts (suc first) stores all numbered.1 (omega (arith, same)) (later_is stores all store first are) number within
at_number (NodePart at Joins ∷ parts) first (store ∷ stores) all numbered same are number within = at_number parts (suc first) stores all numbered.1 (omega (arith, same)) (later_is stores all store first are) number within
at_number (NodePart at (Heads loop scope) ∷ parts) first (store ∷ stores) all numbered same are zero within = are 0 ∙ (let e : first + 0 ≡ at = omega (arith, numbered.0) in ap (slice_get all) e)
at_number (NodePart at (Heads loop scope) ∷ parts) first (store ∷ stores) all numbered same are (suc number) within =
    at_number parts (suc first) stores all numbered.1 (omega (arith, same)) (later_is stores all store first are) number (omega (arith, within))
at_number (NodePart at (Returns value known span) ∷ parts) first (store ∷ stores) all numbered same are number within = at_number parts (suc first) stores all numbered.1 (omega (arith, same)) (later_is stores all store first are) number within
at_number (NodePart at Ends ∷ parts) first (store ∷ stores) all numbered same are number within = at_number parts (suc first) stores all numbered.1 (omega (arith, same)) (later_is stores all store first are) number within
at_number (EdgePart node pass target ∷ parts) first stores all numbered same are number within = at_number parts first stores all numbered same are number within

has_head : (parts : List Part) (first number : ℕ) → AreInOrder first parts → number < length (heads_in parts) → HasHead (first + number) parts
has_head [] first number order within = absurd (omega (arith, within))
has_head (NodePart at Starts ∷ parts) first number order within = has_head parts first number order within
has_head (NodePart at (Does op) ∷ parts) first number order within = has_head parts first number order within
has_head (NodePart at (Compares test) ∷ parts) first number order within = has_head parts first number order within
has_head (NodePart at (Tells code slot) ∷ parts) first number order within = has_head parts first number order within
has_head (NodePart at Joins ∷ parts) first number order within = has_head parts first number order within
has_head (NodePart at (Heads loop scope) ∷ parts) first zero order within = inl (omega (arith, order.0))
has_head (NodePart at (Heads loop scope) ∷ parts) first (suc number) order within =
    inr (let e : suc first + number ≡ first + suc number = omega arith in subst (λ n. HasHead n parts) e (has_head parts (suc first) number order.1 (omega (arith, within))))
has_head (NodePart at (Returns value known span) ∷ parts) first number order within = has_head parts first number order within
has_head (NodePart at Ends ∷ parts) first number order within = has_head parts first number order within
has_head (EdgePart node pass target ∷ parts) first number order within = has_head parts first number order within

there : (stores : List Store) (k : ℕ) → k < length stores → (store : Store) × (slice_get stores k ≡ Some store)
there [] k within = absurd (omega (arith, within))
there (store ∷ stores) zero within = (store, refl)
there (store ∷ stores) (suc k) within = there stores k (omega (arith, within))

kinds_many : (nodes : List Node) → length (kinds_in nodes) ≡ length nodes
kinds_many [] = refl
kinds_many (node ∷ nodes) = let later = kinds_many nodes in omega (arith, later)

pub found_labels : (program : Program) (method : Method) (profile : Profile) (labels : Labels) (nodes : List Node) (stores found : List Store) → nodes ≡ labels.graph.nodes.items → stores ≡ labels.stores.items
    → AreLabels program method profile labels → AreInOrder 0 (method_parts (block_code method.body)) → found ≡ head_stores nodes stores → AreLoopLabels program method profile found
found_labels program method profile labels nodes stores found nodes_are stores_are are order is =
    let body = block_code method.body in
    let parts = method_parts body in
    let R = method_rules program method profile in
    let L = method_laws program method profile in
    let all = labels.stores.items in
    let said = map stored all in
    let kinds : kinds_in nodes ≡ kinds_of parts = ap kinds_in nodes_are ∙ are.kinds in
    let made : found ≡ by_kinds (kinds_of parts) all = is ∙ same_by nodes stores ∙ ap (λ ks. by_kinds ks stores) kinds ∙ ap (by_kinds (kinds_of parts)) stores_are in
    let many : length all ≡ length (kinds_of parts) = sym (length-map all stored) ∙ are.solution.len ∙ sym are.size ∙ sym (ap length nodes_are) ∙ sym (kinds_many nodes) ∙ ap length kinds in
    let each : length found ≡ length (heads_in parts) = ap length made ∙ counts parts all many in
    record {
      labels = λ number. label_at R said (head_of parts number);
      least = solved_least R L body (length found) said (head_of parts) (found_by_number parts order) (λ number within. let e : 0 + number ≡ number = omega arith in subst (λ n. HasHead n parts) e (has_head parts 0 number order (omega (arith, within, each)))) are.solution are.least;
      there = λ number within.
          let one = there found number within in
          let same : slice_get found number ≡ slice_get all (head_of parts number) =
          ap (λ l. slice_get l number) made ∙ at_number parts 0 all all (method_numbered body) many (λ k. let e : k ≡ 0 + k = omega arith in ap (slice_get all) e) number (omega (arith, within, each)) in
          let label : label_at R said (head_of parts number) ≡ stored one.0 = ap (λ o. unwrap_or o R.nowhere) (meaning_at stored all (head_of parts number) one.0 (sym same ∙ one.1)) in
          meaning_at stored found number one.0 one.1 ∙ ap (λ s. Some s) (sym label);
      each = each;
    }
