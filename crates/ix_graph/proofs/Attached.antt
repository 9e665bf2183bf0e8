-- Nodes, as edges are attached to them one by one.
use Rattle.std.proofs.Common.{◌≡◌, ◌≢◌, ◌==◌, ◌<◌, ◌≤◌, ℕ, zero, suc, ◌+◌, true, false, List, [], ◌∷◌, ◌++◌, length, map, take, set, drop, get_or, slice_get, Some, ◌⊎◌, inl, inr, ⊎_elim, arith, refl, ap, sym, ◌∙◌, subst, add-one}
use Rattle.std.proofs.Math.Seq.{drop-cons}
use Rattle.std.proofs.lemmas.Bool.{cases_eq}
use Rattle.std.proofs.lemmas.List.{append-nil, append_assoc, drop_all, length-map, map-append, take_more}
use Rattle.std.proofs.lemmas.List.Elements.{All-cons, All-nil}
use Rattle.std.proofs.lemmas.Option.{slice_get_read}
use Rattle.ix_core.proofs.Cases.{by_test, differ, equal}
use Rattle.ix_solve.proofs.NodeLists.{slice_get-set_same, slice_get-set_other}
use Rattle.ix_core.specs.Code.{Code}
use Rattle.ix_graph.specs.declared.node.Edge.{Edge}
use Rattle.ix_graph.specs.declared.node.Node.{Node}
use Rattle.ix_graph.specs.declared.node.NodeKind.{NodeKind}
use Rattle.ix_graph.specs.Graph.{Kind, Starts, Ends, Part, NodePart, EdgePart, From, Onward, behind_code, code_parts, method_parts, AreBelow}
use Rattle.ix_graph.specs.Built.{Made, size, with_node, with_parts, kind_of, kinds_of, edge_of, edges_of, edges_to, targets_from, MakesCode}
use Rattle.ix_graph.specs.Linked.{kinds_in, HaveEdges, AreWithin, Attaches}
use Rattle.ix_graph.proofs.Makes.{node_size}
use Rattle.ix_graph.proofs.Numbers.{method_below}

same : (n : ℕ) → (n == n) ≡ true
same n = by_test (n == n) (λ is. is) (λ not. absurd (differ n n not refl))

other : (n m : ℕ) → n ≢ m → (n == m) ≡ false
other n m differs = by_test (n == m) (λ is. absurd (differs (equal n m is))) (λ not. not)

-- ---- the edges of one node among all

edges_first : (at : ℕ) (edge : ℕ × Edge × ℕ) (edges : List (ℕ × Edge × ℕ)) → edges_to at (edge ∷ edges) ≡ edges_to at (edge ∷ []) ++ edges_to at edges
edges_first at (node, edge, target) edges = by_test (target == at) (λ is. rw is refl) (λ not. rw not refl)

targets_first : (at : ℕ) (edge : ℕ × Edge × ℕ) (edges : List (ℕ × Edge × ℕ)) → targets_from at (edge ∷ edges) ≡ targets_from at (edge ∷ []) ++ targets_from at edges
targets_first at (node, edge, target) edges = by_test (node == at) (λ is. rw is refl) (λ not. rw not refl)

-- ---- one edge is attached

-- each node has besides what is said of its number
abbrev Gains : List Node → List Node → (ℕ → List (ℕ × Edge)) → (ℕ → List ℕ) → Type 0
Gains old new edges targets = (at : ℕ) (node : Node) → slice_get new at ≡ Some node → (was : Node) × (slice_get old at ≡ Some was)
    × (node.from.items ≡ was.from.items ++ edges at)
    × (node.readers.items ≡ was.readers.items ++ targets at)

one_gains : (nodes : List Node) (number : ℕ) (was now : Node) (edges : ℕ → List (ℕ × Edge)) (targets : ℕ → List ℕ) → number < length nodes → was ≡ get_or nodes number was
    → now.from.items ≡ was.from.items ++ edges number → now.readers.items ≡ was.readers.items ++ targets number
    → ((at : ℕ) → at ≢ number → edges at ≡ []) → ((at : ℕ) → at ≢ number → targets at ≡ []) → Gains nodes (set nodes number now) edges targets
one_gains nodes number was now edges targets within read from readers no_edges no_targets at node found =
    let here : slice_get nodes number ≡ Some was = slice_get_read nodes (length nodes) number was refl within read in
    ⊎_elim
    (λ is.
    let both : Some now ≡ Some node = sym (slice_get-set_same nodes number now was here) ∙ subst (λ n. slice_get (set nodes number now) n ≡ Some node) is found in
    let same : now ≡ node = cc in (
      was,
      subst (λ n. slice_get nodes n ≡ Some was) (sym is) here,
      ap (λ (n : Node). n.from.items) (sym same) ∙ (from ∙ ap (λ n. was.from.items ++ edges n) (sym is)),
      ap (λ (n : Node). n.readers.items) (sym same) ∙ (readers ∙ ap (λ n. was.readers.items ++ targets n) (sym is)),
    ))
    (λ differs. (
      node,
      sym (slice_get-set_other nodes number at now differs) ∙ found,
      sym (append-nil node.from.items) ∙ ap (λ xs. node.from.items ++ xs) (sym (no_edges at differs)),
      sym (append-nil node.readers.items) ∙ ap (λ xs. node.readers.items ++ xs) (sym (no_targets at differs)),
    ))
    (cases_eq at number)

kinds_kept : (nodes : List Node) (number : ℕ) (was now : Node) → number < length nodes → was ≡ get_or nodes number was → now.kind ≡ was.kind → kinds_in (set nodes number now) ≡ kinds_in nodes
kinds_kept [] number was now within read is = absurd (omega arith)
kinds_kept (first ∷ nodes) zero was now within read is = ap (λ k. kind_of k ∷ kinds_in nodes) (is ∙ ap (λ (n : Node). n.kind) read)
kinds_kept (first ∷ nodes) (suc number) was now within read is = ap (λ ks. kind_of first.kind ∷ ks) (kinds_kept nodes number was now (omega arith) read is)

length_kept : (nodes : List Node) (number : ℕ) (now : Node) → length (set nodes number now) ≡ length nodes
length_kept [] number now = refl
length_kept (first ∷ nodes) zero now = refl
length_kept (first ∷ nodes) (suc number) now = omega (arith, length_kept nodes number now)

pub attaches : (nodes : List Node) (node target : ℕ) (edge : Edge) (was1 now1 was2 now2 : Node) → node < length nodes → target < length nodes
    → was1 ≡ get_or nodes target was1 → now1.kind ≡ was1.kind → now1.from.items ≡ was1.from.items ++ (node, edge) ∷ [] → now1.readers.items ≡ was1.readers.items
    → was2 ≡ get_or (set nodes target now1) node was2 → now2.kind ≡ was2.kind → now2.from.items ≡ was2.from.items → now2.readers.items ≡ was2.readers.items ++ target ∷ []
    → Attaches nodes (set (set nodes target now1) node now2) (node, edge, target)
attaches nodes node target edge was1 now1 was2 now2 node_in target_in read1 kind1 from1 readers1 read2 kind2 from2 readers2 =
    let middle = set nodes target now1 in
    let node_in2 : node < length middle = omega (arith, node_in, length_kept nodes target now1) in
    let here : edges_to target ((node, edge, target) ∷ []) ≡ (node, edge) ∷ [] = rw (same target) refl in
    let there : targets_from node ((node, edge, target) ∷ []) ≡ target ∷ [] = rw (same node) refl in
    let first = one_gains nodes target was1 now1 (λ at. edges_to at ((node, edge, target) ∷ [])) (λ at. []) target_in read1 (from1 ∙ ap (λ xs. was1.from.items ++ xs) (sym here)) (readers1 ∙ sym (append-nil was1.readers.items))
    (λ at differs. rw (other target at (λ e. differs (sym e))) refl) (λ at differs. refl) in
    let second = one_gains middle node was2 now2 (λ at. []) (λ at. targets_from at ((node, edge, target) ∷ [])) node_in2 read2 (from2 ∙ sym (append-nil was2.from.items)) (readers2 ∙ ap (λ xs. was2.readers.items ++ xs) (sym there))
    (λ at differs. refl) (λ at differs. rw (other node at (λ e. differs (sym e))) refl) in
    record {
      kinds = kinds_kept middle node was2 now2 node_in2 read2 kind2 ∙ kinds_kept nodes target was1 now1 target_in read1 kind1;
      each = λ at now found.
          let later = second at now found in
          let before = first at later.0 later.1 in (
            before.0,
            before.1,
            later.2 ∙ (append-nil later.0.from.items ∙ before.2),
            later.3 ∙ ap (λ xs. xs ++ targets_from at ((node, edge, target) ∷ [])) (before.3 ∙ append-nil before.0.readers.items),
          );
    }

-- ---- nodes without edges

last_cases : (nodes : List Node) (last : Node) (at : ℕ) (node : Node) → slice_get (nodes ++ last ∷ []) at ≡ Some node → (slice_get nodes at ≡ Some node) ⊎ (last ≡ node)
last_cases [] last zero node found = inr cc
last_cases [] last (suc at) node found = inl found
last_cases (first ∷ nodes) last zero node found = inl found
last_cases (first ∷ nodes) last (suc at) node found = last_cases nodes last at node found

pub none_more : (nodes : List Node) (last : Node) → HaveEdges nodes [] → last.from.items ≡ [] → last.readers.items ≡ [] → HaveEdges (nodes ++ last ∷ []) []
none_more nodes last have from readers at node found =
    ⊎_elim (have at node) (λ is. record { from = ap (λ (n : Node). n.from.items) (sym is) ∙ from; readers = ap (λ (n : Node). n.readers.items) (sym is) ∙ readers })
    (last_cases nodes last at node found)

pub kinds_more : (nodes : List Node) (last : Node) (kinds : List NodeKind) (index : ℕ) (kind : NodeKind) → index < length kinds → kind ≡ get_or kinds index kind → last.kind ≡ kind
    → kinds_in nodes ≡ map kind_of (take index kinds) → kinds_in (nodes ++ last ∷ []) ≡ map kind_of (take (index + 1) kinds)
kinds_more nodes last kinds index kind within is same so_far =
    map-append (λ (node : Node). kind_of node.kind) nodes (last ∷ [])
    ∙ (ap (λ ks. ks ++ kind_of last.kind ∷ []) so_far
    ∙ (ap (λ k. map kind_of (take index kinds) ++ kind_of k ∷ []) (same ∙ is)
    ∙ (sym (map-append kind_of (take index kinds) (get_or kinds index kind ∷ [])) ∙ ap (map kind_of) (sym (take_more kinds index kind within)))))

-- ---- some edges are attached, and others left

pub record HasRest (left edges : List (ℕ × Edge × ℕ)) (at : ℕ) (node : Node) : Type 0 where
  pub from : node.from.items ++ edges_to at left ≡ edges_to at edges
  pub readers : node.readers.items ++ targets_from at left ≡ targets_from at edges

abbrev pub HaveRest : List Node → (left edges : List (ℕ × Edge × ℕ)) → Type 0
HaveRest nodes left edges = (at : ℕ) (node : Node) → slice_get nodes at ≡ Some node → HasRest left edges at node

pub rest_begins : (nodes : List Node) (edges : List (ℕ × Edge × ℕ)) → HaveEdges nodes [] → HaveRest nodes edges edges
rest_begins nodes edges none at node found = record {
  from = ap (λ xs. xs ++ edges_to at edges) (none at node found).from;
  readers = ap (λ xs. xs ++ targets_from at edges) (none at node found).readers;
}

pub rest_goes : (old new : List Node) (edges : List (ℕ × Edge × ℕ)) (index : ℕ) (edge : ℕ × Edge × ℕ) → index < length edges → edge ≡ get_or edges index edge → HaveRest old (drop index edges) edges → Attaches old new edge
    → HaveRest new (drop (index + 1) edges) edges
rest_goes old new edges index edge within is have attached at node found =
    let cut : drop index edges ≡ edge ∷ drop (index + 1) edges = drop-cons edges index edge within ∙ (ap (λ e. e ∷ drop (suc index) edges) (sym is) ∙ rw add-one refl) in
    let rest = drop (index + 1) edges in
    let before = attached.each at node found in
    let had = have at before.0 before.1 in
    record {
      from = ap (λ xs. xs ++ edges_to at rest) before.2
          ∙ (append_assoc before.0.from.items (edges_to at (edge ∷ [])) (edges_to at rest)
          ∙ (ap (λ xs. before.0.from.items ++ xs) (sym (edges_first at edge rest) ∙ ap (edges_to at) (sym cut)) ∙ had.from));
      readers = ap (λ xs. xs ++ targets_from at rest) before.3
          ∙ (append_assoc before.0.readers.items (targets_from at (edge ∷ [])) (targets_from at rest)
          ∙ (ap (λ xs. before.0.readers.items ++ xs) (sym (targets_first at edge rest) ∙ ap (targets_from at) (sym cut)) ∙ had.readers));
    }

pub rest_ends : (nodes : List Node) (edges : List (ℕ × Edge × ℕ)) (index : ℕ) → length edges ≤ index → HaveRest nodes (drop index edges) edges → HaveEdges nodes edges
rest_ends nodes edges index past have at node found =
    let none : drop index edges ≡ [] = drop_all index edges past in
    let had = have at node found in
    record {
      from = sym (append-nil node.from.items) ∙ (ap (λ xs. node.from.items ++ edges_to at xs) (sym none) ∙ had.from);
      readers = sym (append-nil node.readers.items) ∙ (ap (λ xs. node.readers.items ++ targets_from at xs) (sym none) ∙ had.readers);
    }

pub as_many : (nodes : List Node) (kinds : List Kind) → kinds_in nodes ≡ kinds → length nodes ≡ length kinds
as_many nodes kinds is = sym (length-map nodes (λ (node : Node). kind_of node.kind)) ∙ ap length is

-- ---- the whole graph

parts_are : (made : Made) (parts : List Part) → (made.kinds ++ kinds_of parts ≡ (with_parts made parts).kinds) × (made.edges ++ edges_of parts ≡ (with_parts made parts).edges)
parts_are made [] = (append-nil made.kinds, append-nil made.edges)
parts_are made (NodePart at kind ∷ parts) =
    let r = parts_are (with_node made kind) parts in
    (sym (append_assoc made.kinds (kind ∷ []) (kinds_of parts)) ∙ r.0, r.1)
parts_are made (EdgePart node pass target ∷ parts) =
    let r = parts_are (record { kinds = made.kinds; edges = made.edges ++ (node, _, target) ∷ [] }) parts in
    (r.0, sym (append_assoc made.edges ((node, _, target) ∷ []) (edges_of parts)) ∙ r.1)

edges_within : (count : ℕ) (parts : List Part) → AreBelow count parts → AreWithin count (edges_of parts)
edges_within count [] below = All-nil _
edges_within count (NodePart at kind ∷ parts) below = edges_within count parts below.1
edges_within count (EdgePart node pass target ∷ parts) below =
    let edge : ℕ × Edge × ℕ = (node, edge_of pass, target) in
    let within : (edge.0 < count) × (edge.2 < count) = (below.0, below.1) in
    All-cons (λ (e : ℕ × Edge × ℕ). (e.0 < count) × (e.2 < count)) edge (edges_of parts) within (edges_within count parts below.2)

pub record IsWhole (body : Code) (made : Made) : Type 0 where
  pub count : behind_code body 2 ≡ size made
  pub kinds : made.kinds ≡ kinds_of (method_parts body)
  pub edges : made.edges ≡ edges_of (method_parts body)
  pub within : AreWithin (length made.kinds) made.edges

pub whole : (body : Code) (entry end : ℕ) (m0 m1 m2 m3 : Made) → m0 ≡ record { kinds = []; edges = [] } → entry ≡ size m0 → m1 ≡ with_node m0 Starts → end ≡ size m1 → m2 ≡ with_node m1 Ends
    → MakesCode body (From entry Onward) end end end m2 m3 → IsWhole body m3
whole body entry end m0 m1 m2 m3 none first starts last ends makes =
    let empty : Made = record { kinds = []; edges = [] } in
    let zeroth : size m0 ≡ 0 = ap size none in
    let s1 = node_size m0 m1 Starts starts in
    let s2 = node_size m1 m2 Ends ends in
    let two : 2 ≡ size m2 = omega (arith, zeroth, s1, s2) in
    let one : end ≡ 1 = omega (arith, zeroth, s1, last) in
    let zero_is : entry ≡ 0 = omega (arith, zeroth, first) in
    let begun : with_node (with_node empty Starts) Ends ≡ m2 = ap (λ m. with_node (with_node m Starts) Ends) (sym none) ∙ (ap (λ m. with_node m Ends) (sym starts) ∙ sym ends) in
    let makes1 : MakesCode body (From 0 Onward) 1 1 1 m2 m3 =
    subst (λ n. MakesCode body (From n Onward) 1 1 1 m2 m3) zero_is (subst (λ n. MakesCode body (From entry Onward) n n n m2 m3) one makes) in
    let count : behind_code body 2 ≡ size m3 = makes1.numbers 2 two in
    let all : with_parts empty (method_parts body) ≡ m3 =
    ap (λ m. with_parts m (code_parts body 2 (From 0 Onward) 1 1 1 [])) begun ∙ makes1.parts 2 [] two in
    let are = parts_are empty (method_parts body) in
    let kinds : m3.kinds ≡ kinds_of (method_parts body) = sym (are.0 ∙ ap (λ (m : Made). m.kinds) all) in
    let edges : m3.edges ≡ edges_of (method_parts body) = sym (are.1 ∙ ap (λ (m : Made). m.edges) all) in
    record {
      count = count;
      kinds = kinds;
      edges = edges;
      within = subst (AreWithin (length m3.kinds)) (sym edges) (subst (λ n. AreWithin n (edges_of (method_parts body))) count (edges_within (behind_code body 2) (method_parts body) (method_below body)));
    }
