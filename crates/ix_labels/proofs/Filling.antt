-- Labels that are made one after the other are those of all nodes, and are the least of the method.
use Rattle.std.proofs.Common.{◌≡◌, ◌⊎◌, inl, inr, ◌+◌, ◌*◌, ◌-◌, ◌<◌, ◌≤◌, ℕ, zero, suc, true, false, List, [], ◌∷◌, ◌++◌, Some, length, map, slice_get, unwrap_or, arith, refl, sym, ap, subst, ◌∙◌}
use Rattle.std.proofs.lemmas.Bool.{cases_Bool, cases_lt, false≢true}
use Rattle.std.proofs.lemmas.List.{length-map}
use Rattle.std.proofs.lemmas.Option.{slice_get_within}
use Rattle.ix_core.specs.declared.fact.Profile.{Profile}
use Rattle.ix_core.specs.declared.program.Method.{Method}
use Rattle.ix_core.specs.declared.program.Program.{Program}
use Rattle.ix_core.specs.Code.{Code, block_code}
use Rattle.ix_facts.specs.Stores.{IsBelow}
use Rattle.ix_flow.specs.Flow.{Rules, RulesLaws}
use Rattle.ix_graph.specs.declared.node.Node.{Node}
use Rattle.ix_graph.specs.Graph.{Joins, behind_code}
use Rattle.ix_graph.specs.GraphSolutions.{label_at}
use Rattle.ix_graph.specs.Built.{kind_of}
use Rattle.ix_store.specs.declared.store.Store.{Store}
use Rattle.ix_store.specs.StoredFacts.{stored}
use Rattle.ix_store.specs.StoreOrder.{nowhere, store_rank, top_rank}
use Rattle.ix_solve.proofs.LabelLists.{meaning_at}
use Rattle.ix_solve.specs.Readers.{readings}
use Rattle.ix_solve.specs.Solutions.{IsLeastOf}
use Rattle.ix_labels.specs.declared.problem.Problem.{Problem}
use Rattle.ix_labels.specs.declared.kept.RunLabels.{RunLabels}
use Rattle.ix_labels.specs.Problem.{rules_of, kinds_at, kind_in, edges_at, kept_in, readers_of, readers_in, parts_of}
use Rattle.ix_labels.specs.ProblemLaws.{laws_with, parts_below}
use Rattle.ix_labels.specs.Runs.{is_kept, node_before, node_in_turn, AreKept}
use Rattle.ix_labels.specs.RunAsks.{Onto, EachBrings, FirstTo}
use Rattle.ix_labels.specs.RunLaws.{there, goes_in}
use Rattle.ix_labels.specs.Filled.{nodes_of, goes_on_at, IsNext, AreRunLabels, IsLabel, AreFilled, run_visits}
use Rattle.ix_labels.specs.Labels.{AreLabelsOf}
use Rattle.ix_labels.specs.Visits.{readers_by, visits_by}
use Rattle.ix_labels.proofs.Bounded.{readers_are}
use Rattle.ix_labels.proofs.Turns.{turn_of, turn_within, turn_back, turn_down, in_order, order_many, order_there}
use Rattle.ix_labels.proofs.Filled.{graph_solution, graph_least}
use Rattle.ix_labels.proofs.Solved.{solved, least}

-- ---- one label more

pub get_front : (xs : List Store) (x : Store) (k : ℕ) → k < length xs → slice_get (xs ++ x ∷ []) k ≡ slice_get xs k
get_front [] x k within = absurd (omega (arith, within))
get_front (y ∷ xs) x zero within = refl
get_front (y ∷ xs) x (suc k) within = get_front xs x k (omega (arith, within))

pub get_last : (xs : List Store) (x : Store) → slice_get (xs ++ x ∷ []) (length xs) ≡ Some x
get_last [] x = refl
get_last (y ∷ xs) x = get_last xs x

-- the label of the turn before
abbrev pub before_in : List Store → ℕ → Store
before_in made zero = nowhere
before_in made (suc turn) = unwrap_or (slice_get made turn) nowhere

before_front : (xs : List Store) (x : Store) (k : ℕ) → k < suc (length xs) → before_in (xs ++ x ∷ []) k ≡ before_in xs k
before_front xs x zero within = refl
before_front xs x (suc k) within = ap (λ o. unwrap_or o nowhere) (get_front xs x k (omega (arith, within)))

pub one_longer : (xs : List Store) (x : Store) → length (xs ++ x ∷ []) ≡ suc (length xs)
one_longer [] x = refl
one_longer (y ∷ xs) x = ap (λ n. suc n) (one_longer xs x)

-- These are the labels of the first nodes in turn, so many of them, each by the one before.
pub record AreMade (labels : RunLabels) (count : ℕ) (made : List Store) : Type 0 where
  pub many : length made ≡ count
  pub each : (turn : ℕ) (label : Store) → slice_get made turn ≡ Some label → IsLabel labels (node_in_turn (length (nodes_of labels)) turn) (before_in made turn) label

pub none_made : (labels : RunLabels) → AreMade labels 0 []
none_made labels = record { many = refl; each = λ at label found. absurd (let within = slice_get_within [] at label found in omega (arith, within)) }

pub one_made : (labels : RunLabels) (count : ℕ) (made : List Store) (label : Store) → AreMade labels count made → IsLabel labels (node_in_turn (length (nodes_of labels)) count) (before_in made count) label → AreMade labels (count + 1) (made ++ label ∷ [])
one_made labels count made label are last = record {
  many = let n = one_longer made label in let m = are.many in omega (arith, n, m);
  each = λ at other found.
      let n = one_longer made label in
      let m = are.many in
      let size = length (nodes_of labels) in
      let within = slice_get_within (made ++ label ∷ []) at other found in
      elim (cases_lt at (length made)) [
        | inl low ↦ subst (λ b. IsLabel labels (node_in_turn size at) b other) (sym (before_front made label at (omega (arith, low)))) (are.each at other (sym (get_front made label at low) ∙ found))
        | inr high ↦
            let is : length made ≡ at = omega (arith, high, within, n) in
            let same : Some label ≡ Some other = sym (get_last made label) ∙ ap (slice_get (made ++ label ∷ [])) is ∙ found in
            let label_is : label ≡ other = cc in
            let count_is : count ≡ at = sym m ∙ is in
            subst (λ l. IsLabel labels (node_in_turn size at) (before_in (made ++ label ∷ []) at) l) label_is
            (subst (λ b. IsLabel labels (node_in_turn size at) b label) (sym (before_front made label at (omega (arith, is)))) (subst (λ k. IsLabel labels (node_in_turn size k) (before_in made k) label) count_is last))
      ];
}

pub last_label : (all : List Store) (label : Store) (count : ℕ) → length all ≡ count → label ≡ before_in (all ++ label ∷ []) (count + 1)
last_label all label count is =
    let e : suc (length all) ≡ count + 1 = omega (arith, is) in
    ap (λ o. unwrap_or o nowhere) (sym (get_last all label)) ∙ ap (before_in (all ++ label ∷ [])) e

-- ---- labels in turn are those of all nodes

abbrev pub ordered : ℕ → List Store → List Store
ordered = in_order nowhere

pub ordered_there : (count : ℕ) (made : List Store) (at : ℕ) → length made ≡ count → at < count → slice_get (ordered count made) at ≡ slice_get made (turn_of count at)
ordered_there = order_there nowhere

pub all_filled : (labels : RunLabels) (made : List Store) → AreMade labels (length (nodes_of labels)) made → AreFilled labels (ordered (length (nodes_of labels)) made)
all_filled labels made are =
    let count = length (nodes_of labels) in
    let all = ordered count made in
    let many = order_many nowhere count made in
    let label_of : (at : ℕ) (label : Store) → slice_get all at ≡ Some label → IsLabel labels at (before_in made (turn_of count at)) label = λ at label found.
    let within : at < count = let low = slice_get_within all at label found in omega (arith, low, many) in
    subst (λ n. IsLabel labels n (before_in made (turn_of count at)) label) (turn_back count at within)
    (are.each (turn_of count at) label (sym (ordered_there count made at are.many within) ∙ found)) in
    record {
      many = many;
      kept = λ at label found holds. (label_of at label found).kept holds;
      next = λ at label before found there_before fails goes.
          let within : at < count = let low = slice_get_within all at label found in omega (arith, low, many) in
          let turn = turn_of count at in
          let down = turn_down count turn (goes_in turn (edges_at labels.problem at) goes).0 in
          let last = turn_within count at within in
          let was : slice_get made (turn_of count turn) ≡ Some before = sym (ordered_there count made turn are.many last) ∙ there_before in
          let is : before_in made turn ≡ before = ap (before_in made) down ∙ ap (λ o. unwrap_or o nowhere) was in
          subst (λ b. IsNext labels at b label) is (((label_of at label found).passed fails).next goes);
      first = λ at label found fails begins. ((label_of at label found).passed fails).first begins;
    }

-- labels that are all kept
pub kept_filled : (labels : RunLabels) → AreKept (kept_in labels.problem) → AreFilled labels labels.stores.items
kept_filled labels kept = record { many = labels.all; kept = λ at label found holds. found; next = λ at label before found there_before fails. absurd (false≢true (sym fails ∙ kept at)); first = λ at label found fails. absurd (false≢true (sym fails ∙ kept at)) }

-- ---- all labels

kind_there : (nodes : List Node) (at : ℕ) (node : Node) → slice_get nodes at ≡ Some node → kind_in nodes at ≡ kind_of node.kind
kind_there [] at node found = cc
kind_there (first ∷ nodes) zero node found = let e : first ≡ node = cc in ap (λ (n : Node). kind_of n.kind) e
kind_there (first ∷ nodes) (suc at) node found = kind_there nodes at node found

module _ (labels : RunLabels) (all : List Store) (filled : AreFilled labels all) where
  abbrev problem : Problem
  problem = labels.problem

  abbrev R : Rules
  R = rules_of labels.problem

  abbrev L : RulesLaws (rules_of labels.problem)
  L = laws_with labels.problem.program.now labels.problem.within.now labels.problem.profile labels.problem.marks.ints

  said_at : (stores : List Store) (at : ℕ) (label : Store) → slice_get stores at ≡ Some label → label_at (rules_of labels.problem) (map stored stores) at ≡ stored label
  said_at stores at label found = ap (λ o. unwrap_or o (rules_of labels.problem).nowhere) (meaning_at stored stores at label found)

  same : (at : ℕ) → at < length (nodes_of labels) → is_kept (kept_in labels.problem) at ≡ true → label_at (rules_of labels.problem) (map stored all) at ≡ label_at (rules_of labels.problem) (map stored labels.stores.items) at
  same at within holds =
      let l = there all at (let m = filled.many in omega (arith, within, m)) in
      said_at all at l.0 l.1 ∙ sym (said_at labels.stores.items at l.0 (filled.kept at l.0 l.1 holds))

  next_least : (at : ℕ) → at < length (nodes_of labels) → is_kept (kept_in labels.problem) at ≡ false → goes_on_at labels at ≡ true
      → IsLeastOf IsBelow (Onto (rules_of labels.problem) (kinds_at labels.problem) (node_before (length (nodes_of labels)) at) (label_at (rules_of labels.problem) (map stored all) (node_before (length (nodes_of labels)) at)))
      (label_at (rules_of labels.problem) (map stored all) at)
  next_least at within fails goes =
      let count = length (nodes_of labels) in
      let from = node_before count at in
      let m = filled.many in
      let low = turn_within count at within in
      let l = there all at (omega (arith, within, m)) in
      let b = there all from (omega (arith, low, m)) in
      subst (λ s. IsLeastOf IsBelow (Onto (rules_of labels.problem) (kinds_at labels.problem) from (label_at (rules_of labels.problem) (map stored all) from)) s) (sym (said_at all at l.0 l.1))
      (subst (λ s. IsLeastOf IsBelow (Onto (rules_of labels.problem) (kinds_at labels.problem) from s) (stored l.0)) (sym (said_at all from b.0 b.1)) (filled.next at l.0 b.0 l.1 b.1 fails goes))

  first_least : (at : ℕ) → at < length (nodes_of labels) → is_kept (kept_in labels.problem) at ≡ false → goes_on_at labels at ≡ false
      → IsLeastOf IsBelow (EachBrings (rules_of labels.problem) (kinds_at labels.problem) (FirstTo (rules_of labels.problem) (kinds_at labels.problem) (kept_in labels.problem) (edges_at labels.problem) (map stored labels.stores.items)) (edges_at labels.problem at)) (label_at (rules_of labels.problem) (map stored all) at)
  first_least at within fails begins =
      let m = filled.many in
      let l = there all at (omega (arith, within, m)) in
      subst (IsLeastOf IsBelow (EachBrings (rules_of labels.problem) (kinds_at labels.problem) (FirstTo (rules_of labels.problem) (kinds_at labels.problem) (kept_in labels.problem) (edges_at labels.problem) (map stored labels.stores.items)) (edges_at labels.problem at))) (sym (said_at all at l.0 l.1)) (filled.first at l.0 l.1 fails begins)

  many_said : length (map stored all) ≡ length (nodes_of labels)
  many_said = length-map all stored ∙ filled.many

  own_labels : AreRunLabels labels.problem.program.now labels.problem.within.now labels.problem.profile labels → AreLabelsOf labels.problem.program.now labels.problem.within.now labels.problem.profile (nodes_of labels) all
  own_labels are =
      let method = labels.problem.within.now in
      let body = block_code method.body in
      let nodes = nodes_of labels in
      let kinds = are.of.kinds in
      let by_parts = λ (at : ℕ). ap (λ ks. unwrap_or (slice_get ks at) Joins) kinds in
      let count = sym (ap length kinds) ∙ length-map nodes (λ (node : Node). kind_of node.kind) ∙ labels.problem.size in
      record {
        size = labels.problem.size;
        kinds = kinds;
        solution =
            solved labels.problem.program.now method labels.problem.profile labels.problem.marks.ints are.of.landmarks body (kinds_at labels.problem) by_parts (length nodes) (behind_code body 2) (map stored all) labels.problem.size count
            (graph_solution R L (kinds_at labels.problem) (kept_in labels.problem) nodes (readers_of labels.problem) (parts_of labels.problem) labels.problem.through labels.problem.edges (parts_below labels.problem) (kind_there nodes)
            (map stored labels.stores.items) (map stored all) many_said same next_least first_least are.solution);
        least =
            least labels.problem.program.now method labels.problem.profile labels.problem.marks.ints are.of.landmarks body (kinds_at labels.problem) by_parts (length nodes) (behind_code body 2) (map stored all) labels.problem.size count
            (graph_least R L (kinds_at labels.problem) (kept_in labels.problem) nodes (readers_of labels.problem) (parts_of labels.problem) labels.problem.through labels.problem.edges (parts_below labels.problem) (kind_there nodes)
            (map stored labels.stores.items) (map stored all) many_said same next_least first_least are.least);
      }

  pub are_labels : (program : Program) (method : Method) (profile : Profile) → AreRunLabels program method profile labels → AreLabelsOf program method profile (nodes_of labels) all
  are_labels program method profile are =
      let is = are.of in
      let here : AreRunLabels labels.problem.program.now labels.problem.within.now labels.problem.profile labels =
      subst (λ p. AreRunLabels p labels.problem.within.now labels.problem.profile labels) (sym is.program_is)
      (subst (λ m. AreRunLabels program m labels.problem.profile labels) (sym is.method_is) (subst (λ f. AreRunLabels program method f labels) (sym is.profile_is) are)) in
      subst (λ p. AreLabelsOf p method profile (nodes_of labels) all) is.program_is
      (subst (λ m. AreLabelsOf labels.problem.program.now m profile (nodes_of labels) all) is.method_is
      (subst (λ f. AreLabelsOf labels.problem.program.now labels.problem.within.now f (nodes_of labels) all) is.profile_is (own_labels here)))

-- ---- visits

-- of each node as many readers with the same label, or none
abbrev NoMore : List (List ℕ) → List (List ℕ) → List Store → List Store → Type 0
NoMore through readers stores all = (k : ℕ) (few by : List ℕ) (store label : Store) → slice_get through k ≡ Some few → slice_get readers k ≡ Some by → slice_get stores k ≡ Some store → slice_get all k ≡ Some label
    → (few ≡ []) ⊎ ((length few ≡ length by) × (store ≡ label))

no_more : (through readers : List (List ℕ)) (stores all : List Store) → length stores ≡ length through → length readers ≡ length through → length all ≡ length through → NoMore through readers stores all
    → readings store_rank top_rank through stores ≤ readings store_rank top_rank readers all
no_more [] readers stores all s r a each = omega arith
no_more (few ∷ through) [] stores all s r a each = absurd (omega (arith, r))
no_more (few ∷ through) (by ∷ readers) [] all s r a each = absurd (omega (arith, s))
no_more (few ∷ through) (by ∷ readers) (store ∷ stores) [] s r a each = absurd (omega (arith, a))
no_more (few ∷ through) (by ∷ readers) (store ∷ stores) (label ∷ all) s r a each =
    let later = no_more through readers stores all (omega (arith, s)) (omega (arith, r)) (omega (arith, a)) (λ k f b st l. each (suc k) f b st l) in
    let first : length few * (top_rank - store_rank store) ≤ length by * (top_rank - store_rank label) = elim (each 0 few by store label refl refl refl refl) [
      | inl none ↦ let e : length few * (top_rank - store_rank store) ≡ 0 * (top_rank - store_rank store) = ap (λ (ns : List ℕ). length ns * (top_rank - store_rank store)) none in let z = no_times (top_rank - store_rank store) in omega (arith, e, z)
      | inr both ↦
          let e : length few * (top_rank - store_rank store) ≡ length by * (top_rank - store_rank label) = ap (λ n. n * (top_rank - store_rank store)) both.0 ∙ ap (λ x. length by * (top_rank - store_rank x)) both.1 in
          omega (arith, e)
    ] in
    omega (arith, first, later)
  where
    no_times : (n : ℕ) → 0 * n ≡ 0
    no_times n = omega arith

reader_there : (nodes : List Node) (k : ℕ) (by : List ℕ) → slice_get (readers_in nodes) k ≡ Some by → (node : Node) × (slice_get nodes k ≡ Some node) × (node.readers.items ≡ by)
reader_there [] k by found = cc
reader_there (node ∷ nodes) zero by found = (node, refl, cc)
reader_there (node ∷ nodes) (suc k) by found = reader_there nodes k by found

readers_many : (nodes : List Node) → length (readers_in nodes) ≡ length nodes
readers_many [] = refl
readers_many (node ∷ nodes) = ap (λ n. suc n) (readers_many nodes)

each_no_more : (labels : RunLabels) (all : List Store) → AreFilled labels all → NoMore (readers_of labels.problem) (readers_in (nodes_of labels)) labels.stores.items all
each_no_more labels all filled k few by store label at_few at_by at_store at_label =
    let node = reader_there (nodes_of labels) k by at_by in
    let through = labels.problem.through.through k node.0 few node.1 at_few in
    elim (cases_Bool (is_kept (kept_in labels.problem) k)) [
      | inl holds ↦
          let same : Some store ≡ Some label = sym at_store ∙ filled.kept k label at_label holds in
          let is : store ≡ label = cc in
          inr ((through.ends holds).many ∙ ap length node.2, is)
      | inr fails ↦ inl (through.none fails)
    ]

pub fewer_visits : (body : Code) (labels : RunLabels) (all : List Store) → body ≡ block_code labels.problem.within.now.body → AreFilled labels all → run_visits labels ≤ visits_by body all
fewer_visits body labels all is filled =
    let nodes = nodes_of labels in
    let many = labels.problem.through.many in
    let size = labels.problem.size in
    let m = filled.many in
    let s = labels.all in
    let r = readers_many nodes in
    let less = no_more (readers_of labels.problem) (readers_in nodes) labels.stores.items all (omega (arith, s, many)) (omega (arith, r, many)) (omega (arith, m, many)) (each_no_more labels all filled) in
    let are = readers_are (block_code labels.problem.within.now.body) nodes size labels.problem.edges in
    let same : readings store_rank top_rank (readers_in nodes) all ≡ readings store_rank top_rank (readers_by (block_code labels.problem.within.now.body)) all = ap (λ by. readings store_rank top_rank by all) are in
    let here : run_visits labels ≤ visits_by (block_code labels.problem.within.now.body) all = omega (arith, less, same, size) in
    subst (λ b. run_visits labels ≤ visits_by b all) (sym is) here

-- the visits of the labels that are kept are within what the least labels take
pub all_visits : (program : Program) (method : Method) (profile : Profile) (labels : RunLabels) (all : List Store) (before after : ℕ) → AreRunLabels program method profile labels → AreFilled labels all → after ≤ before + run_visits labels
    → after ≤ before + visits_by (block_code method.body) all
all_visits program method profile labels all before after are filled within =
    let fewer = fewer_visits (block_code method.body) labels all (ap (λ (m : Method). block_code m.body) (sym are.of.method_is)) filled in
    omega (arith, fewer, within)
