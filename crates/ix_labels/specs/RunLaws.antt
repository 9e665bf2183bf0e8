-- What is asked where labels within runs are passed is monotone, and depends on what is read.
use Rattle.std.specs.List.{AllZip}
use Rattle.std.proofs.Common.{◌≡◌, ◌⊎◌, inl, inr, ◌+◌, ◌<◌, ◌≤◌, ℕ, zero, suc, Bool, true, false, List, [], ◌∷◌, None, Some, length, slice_get, unwrap_or, arith, refl, sym, ap, subst, ◌∙◌}
use Rattle.std.specs.Prelude.{◌==◌, ◌&&◌, ◌||◌, nat_lt}
use Rattle.std.proofs.lemmas.Bool.{cases_Bool, or_cases, false≢true, and_parts, and_from, ltb-true, eqb-true, lt-ltb, eq-eqb}
use Rattle.std.proofs.lemmas.Option.{get_or_from_slice_get}
use Rattle.ix_core.specs.Posts.{last_done}
use Rattle.ix_flow.specs.Flow.{Rules, RulesLaws, Anything}
use Rattle.ix_graph.specs.declared.node.Edge.{Edge}
use Rattle.ix_graph.specs.declared.node.Edge.TheVariants.{Next, WhenTrue, WhenFalse}
use Rattle.ix_graph.specs.declared.node.Node.{Node}
use Rattle.ix_graph.specs.Graph.{Kind, Starts, Does, Compares, Tells, Joins, Heads, Returns, Ends, Pass, Onward, Through, Testing, Telling, Part, AreBelow}
use Rattle.ix_graph.specs.Built.{kind_of, edges_of, edges_to, targets_from}
use Rattle.ix_graph.specs.Brought.{pass_of}
use Rattle.ix_graph.specs.GraphSolutions.{Carries, Settles, label_at}
use Rattle.ix_graph.specs.Linked.{HaveEdges}
use Rattle.ix_graph.proofs.AsProblem.{Among, LeadTo, all_lead}
use Rattle.ix_solve.specs.Solutions.{IsMonotone}
use Rattle.ix_solve.specs.Readers.{DependsOnRead, AgreeWhereRead}
use Rattle.ix_labels.specs.Runs.{is_kept, is_next, is_test, goes_on, opens, leads_to, node_before, AreRuns, EndsBehind}
use Rattle.ix_labels.specs.RunAsks.{Either, Onto, EachBrings, KeptTo, FirstTo, RunsTo, RunAsks}

-- ---- one of two

pub first_of_two : (b : Bool) (A B : Type 0) → b ≡ true → Either b A B → A
first_of_two b A B holds one = subst (λ x. Either x A B) holds one

pub second_of_two : (b : Bool) (A B : Type 0) → b ≡ false → Either b A B → B
second_of_two b A B fails one = subst (λ x. Either x A B) fails one

pub of_first : (b : Bool) (A B : Type 0) → b ≡ true → A → Either b A B
of_first b A B holds one = subst (λ x. Either x A B) (sym holds) one

pub of_second : (b : Bool) (A B : Type 0) → b ≡ false → B → Either b A B
of_second b A B fails one = subst (λ x. Either x A B) (sym fails) one

pub each_of_two : (b : Bool) (A B C D : Type 0) → (b ≡ true → A → C) → (b ≡ false → B → D) → Either b A B → Either b C D
each_of_two b A B C D one other given = elim (cases_Bool b) [
  | inl holds ↦ of_first b C D holds (one holds (first_of_two b A B holds given))
  | inr fails ↦ of_second b C D fails (other fails (second_of_two b A B fails given))
]

-- ---- places in lists

pub there : {A : Type 0} (xs : List A) (k : ℕ) → k < length xs → (x : A) × (slice_get xs k ≡ Some x)
there [] k within = absurd (omega (arith, within))
there (x ∷ xs) zero within = (x, refl)
there (x ∷ xs) (suc k) within = there xs k (omega (arith, within))

place_of : (n : ℕ) (ms : List ℕ) → Among n ms → (k : ℕ) × (k < length ms) × (slice_get ms k ≡ Some n)
place_of n [] has = absurd has
place_of n (m ∷ ms) (inl is) = (0, omega arith, ap (λ j. Some j) (sym is))
place_of n (m ∷ ms) (inr has) = let r = place_of n ms has in (suc r.0, omega (arith, r.1), r.2)

came_back : (count at : ℕ) → 1 < suc at → node_before count (suc at) ≡ at
came_back count zero more = absurd (omega (arith, more))
came_back count (suc at) more = refl

is_next_edge : (way : Edge) → is_next way ≡ true → way ≡ Next
is_next_edge Next is = refl
is_next_edge WhenTrue is = absurd (false≢true is)
is_next_edge WhenFalse is = absurd (false≢true is)

-- where a run goes on
pub goes_in : (before : ℕ) (froms : List (ℕ × Edge)) → goes_on before froms ≡ true → (1 < before) × (froms ≡ (before, Next) ∷ [])
goes_in before [] is = absurd (false≢true is)
goes_in before ((from, way) ∷ []) is =
    let first = and_parts (nat_lt 1 before) ((from == before) && is_next way) is in
    let second = and_parts (from == before) (is_next way) first.1 in
    let from_is : from ≡ before = eqb-true from before second.0 in
    let way_is : way ≡ Next = is_next_edge way second.1 in
    (ltb-true 1 before first.0, ap (λ n. (n, way) ∷ []) from_is ∙ ap (λ w. (before, w) ∷ []) way_is)
goes_in before (from ∷ other ∷ froms) is = absurd (false≢true is)

goes_there : (before : ℕ) → 1 < before → goes_on before ((before, Next) ∷ []) ≡ true
goes_there before more = and_from (nat_lt 1 before) ((before == before) && true) (lt-ltb 1 before more) (and_from (before == before) true (eq-eqb before before refl) refl)

way_onto : (at : ℕ) (node : Node) (reader : ℕ) (next : Node) → leads_to at node reader next ≡ true
    → (reader ≡ suc at) ⊎ ((reader ≡ 1) ⊎ ((opens node.from.items ≡ true) ⊎ (is_test (kind_of next.kind) ≡ true)))
way_onto at node reader next leads = elim (or_cases (reader == suc at) ((reader == 1) || (opens node.from.items || is_test (kind_of next.kind))) leads) [
  | inl is ↦ inl (eqb-true reader (suc at) is)
  | inr more ↦ elim (or_cases (reader == 1) (opens node.from.items || is_test (kind_of next.kind)) more) [
    | inl last ↦ inr (inl (eqb-true reader 1 last))
    | inr rest ↦ inr (inr (or_cases (opens node.from.items) (is_test (kind_of next.kind)) rest))
  ]
]

-- the node before is the one of the number before
pub back_one : (count at : ℕ) (froms : List (ℕ × Edge)) → goes_on at froms ≡ true → node_before count (suc at) ≡ at
back_one count at froms goes = came_back count at (let more = (goes_in at froms goes).0 in omega (arith, more))

module _ (R : Rules) (L : RulesLaws R) where
  pub label_below : (a b : List R.Store) (k : ℕ) → AllZip R.Below a b → R.Below (label_at R a k) (label_at R b k)
  label_below [] [] k zip = L.reflexive R.nowhere
  label_below [] (y ∷ b) k zip = absurd zip
  label_below (x ∷ a) [] k zip = absurd zip
  label_below (x ∷ a) (y ∷ b) zero zip = zip.0
  label_below (x ∷ a) (y ∷ b) (suc k) zip = label_below a b k zip.1

  -- from a lower store to a higher one
  pub carries_more : (one other : ℕ → R.Store) (pass : Pass) (s t u w : R.Store) → R.Below s t → Carries R (Anything R) one pass t u → R.Below u w → Carries R (Anything R) other pass s w
  carries_more one other Onward s t u w down carries up = L.transitive s u w (L.transitive s t u down carries) up
  carries_more one other (Through op) s t u w down carries up = L.after op s t u w down carries up
  carries_more one other (Testing answer test) s t u w down carries up = L.tested answer test s t u w down carries up
  carries_more one other (Telling answer code slot) s t u w down carries up = L.told answer (last_done None code) slot s t u w down carries up

  -- above what each of some edges brings, by another such relation to a higher store
  pub brings_more : (kinds : ℕ → Kind) (To Up : ℕ → R.Store → Type 0) (froms : List (ℕ × Edge)) (v w : R.Store) → ((at : ℕ) (s : R.Store) → To at s → Up at s) → R.Below v w → EachBrings R kinds To froms v → EachBrings R kinds Up froms w
  brings_more kinds To Up [] v w each up all = tt
  brings_more kinds To Up (from ∷ froms) v w each up all =
      let r = all.0 in (
        (r.0, each from.0 r.0 r.1, carries_more (λ number. v) (λ number. w) (pass_of (kinds from.0) from.1) r.0 r.0 v w (L.reflexive r.0) r.2 up),
        brings_more kinds To Up froms v w each up all.1,
      )

  -- by another such relation of the nodes that lead there
  pub brings_of : (kinds : ℕ → Kind) (To Up : ℕ → R.Store → Type 0) (count at : ℕ) (edges : List (ℕ × Edge × ℕ)) (froms : List (ℕ × Edge)) (v : R.Store) → LeadTo count at edges froms
      → ((from : ℕ) (s : R.Store) → from < count → Among at (targets_from from edges) → To from s → Up from s) → EachBrings R kinds To froms v → EachBrings R kinds Up froms v
  brings_of kinds To Up count at edges [] v lead each all = tt
  brings_of kinds To Up count at edges (from ∷ froms) v lead each all =
      let r = all.0 in ((r.0, each from.0 r.0 lead.0 lead.1 r.1, r.2), brings_of kinds To Up count at edges froms v lead.2 each all.1)

  module _ (kinds : ℕ → Kind) (kept : List Bool) (edges : ℕ → List (ℕ × Edge)) where
    -- ---- the run to a node: its label is kept, or the run goes on with it, or begins with it

    abbrev FromBefore : List R.Store → ℕ → R.Store → Type 0
    FromBefore labels at store = (before : R.Store) × RunsTo R kinds kept edges labels at before × Onto R kinds at before store

    abbrev FromFirst : List R.Store → ℕ → R.Store → Type 0
    FromFirst labels at store = EachBrings R kinds (FirstTo R kinds kept edges labels) (edges (suc at)) store

    abbrev Passing : List R.Store → ℕ → R.Store → Type 0
    Passing labels at store = Either (goes_on at (edges (suc at))) (FromBefore labels at store) (FromFirst labels at store)

    pub kept_run : (labels : List R.Store) (at : ℕ) (store : R.Store) → is_kept kept (suc at) ≡ true → R.Below (label_at R labels (suc at)) store → RunsTo R kinds kept edges labels (suc at) store
    kept_run labels at store holds low = of_first (is_kept kept (suc at)) (R.Below (label_at R labels (suc at)) store) (Passing labels at store) holds low

    pub next_run : (labels : List R.Store) (at : ℕ) (store : R.Store) → is_kept kept (suc at) ≡ false → goes_on at (edges (suc at)) ≡ true → FromBefore labels at store → RunsTo R kinds kept edges labels (suc at) store
    next_run labels at store fails goes from =
        of_second (is_kept kept (suc at)) (R.Below (label_at R labels (suc at)) store) (Passing labels at store) fails (of_first (goes_on at (edges (suc at))) (FromBefore labels at store) (FromFirst labels at store) goes from)

    pub first_run : (labels : List R.Store) (at : ℕ) (store : R.Store) → is_kept kept (suc at) ≡ false → goes_on at (edges (suc at)) ≡ false → FromFirst labels at store → RunsTo R kinds kept edges labels (suc at) store
    first_run labels at store fails begins all =
        of_second (is_kept kept (suc at)) (R.Below (label_at R labels (suc at)) store) (Passing labels at store) fails (of_second (goes_on at (edges (suc at))) (FromBefore labels at store) (FromFirst labels at store) begins all)

    pub run_cases : (labels : List R.Store) (at : ℕ) (store : R.Store) → RunsTo R kinds kept edges labels (suc at) store
        → ((is_kept kept (suc at) ≡ true) × R.Below (label_at R labels (suc at)) store)
        ⊎ (((is_kept kept (suc at) ≡ false) × (goes_on at (edges (suc at)) ≡ true) × FromBefore labels at store)
        ⊎ ((is_kept kept (suc at) ≡ false) × (goes_on at (edges (suc at)) ≡ false) × FromFirst labels at store))
    run_cases labels at store runs = elim (cases_Bool (is_kept kept (suc at))) [
      | inl holds ↦ inl (holds, first_of_two (is_kept kept (suc at)) (R.Below (label_at R labels (suc at)) store) (Passing labels at store) holds runs)
      | inr fails ↦
          let passing = second_of_two (is_kept kept (suc at)) (R.Below (label_at R labels (suc at)) store) (Passing labels at store) fails runs in
          elim (cases_Bool (goes_on at (edges (suc at)))) [
            | inl goes ↦ inr (inl (fails, goes, first_of_two (goes_on at (edges (suc at))) (FromBefore labels at store) (FromFirst labels at store) goes passing))
            | inr begins ↦ inr (inr (fails, begins, second_of_two (goes_on at (edges (suc at))) (FromBefore labels at store) (FromFirst labels at store) begins passing))
          ]
    ]

    -- ---- of lower labels

    kept_more : (a b : List R.Store) → AllZip R.Below a b → (at : ℕ) (s : R.Store) → KeptTo R kinds b at s → KeptTo R kinds a at s
    kept_more a b zip at s low = L.transitive (label_at R a at) (label_at R b at) s (label_below a b at zip) low

    pub first_more : (a b : List R.Store) → AllZip R.Below a b → (at : ℕ) (s : R.Store) → FirstTo R kinds kept edges b at s → FirstTo R kinds kept edges a at s
    first_more a b zip at s first =
        each_of_two (is_kept kept at) (KeptTo R kinds b at s) (EachBrings R kinds (KeptTo R kinds b) (edges at) s) (KeptTo R kinds a at s) (EachBrings R kinds (KeptTo R kinds a) (edges at) s)
        (λ holds low. kept_more a b zip at s low)
        (λ fails all. brings_more kinds (KeptTo R kinds b) (KeptTo R kinds a) (edges at) s s (kept_more a b zip) (L.reflexive s) all) first

    runs_more : (a b : List R.Store) (at : ℕ) (v w : R.Store) → AllZip R.Below a b → R.Below v w → RunsTo R kinds kept edges b at v → RunsTo R kinds kept edges a at w
    runs_more a b zero v w zip up runs = L.transitive (label_at R a 0) v w (kept_more a b zip 0 v runs) up
    runs_more a b (suc at) v w zip up runs = elim (run_cases b at v runs) [
      | inl one ↦ kept_run a at w one.0 (L.transitive (label_at R a (suc at)) v w (kept_more a b zip (suc at) v one.1) up)
      | inr (inl one) ↦
          let r = one.2 in
          next_run a at w one.0 one.1 (r.0, runs_more a b at r.0 r.0 zip (L.reflexive r.0) r.1, carries_more (λ number. v) (λ number. w) (pass_of (kinds at) Next) r.0 r.0 v w (L.reflexive r.0) r.2 up)
      | inr (inr one) ↦ first_run a at w one.0 one.1 (brings_more kinds (FirstTo R kinds kept edges b) (FirstTo R kinds kept edges a) (edges (suc at)) v w (first_more a b zip) up one.2)
    ]

    -- ---- monotone

    module _ (entry_up : (s t : R.Store) → R.Entry s → R.Below s t → R.Entry t) where
      settles_up : (kind : Kind) (joined v w : R.Store) → Settles R (Anything R) (λ number. v) kind joined v → R.Below v w → Settles R (Anything R) (λ number. w) kind joined w
      settles_up Starts joined v w settles up = entry_up v w settles up
      settles_up (Does op) joined v w settles up = (L.transitive joined v w settles.0 up, tt)
      settles_up (Compares test) joined v w settles up = L.transitive joined v w settles up
      settles_up (Tells code slot) joined v w settles up = L.transitive joined v w settles up
      settles_up Joins joined v w settles up = L.transitive joined v w settles up
      settles_up (Heads number scope) joined v w settles up = (L.rounded scope joined joined v w (L.reflexive joined) settles.0 up, refl)
      settles_up (Returns value known span) joined v w settles up = (L.transitive joined v w settles.0 up, tt)
      settles_up Ends joined v w settles up = (L.transitive joined v w settles.0 up, tt)

      pub runs_monotone : IsMonotone R.Below (RunAsks R kinds kept edges)
      runs_monotone at a b v w zip asks up =
          each_of_two (is_kept kept at) ((joined : R.Store) × EachBrings R kinds (RunsTo R kinds kept edges b) (edges at) joined × Settles R (Anything R) (λ number. v) (kinds at) joined v) (Unit {0})
          ((joined : R.Store) × EachBrings R kinds (RunsTo R kinds kept edges a) (edges at) joined × Settles R (Anything R) (λ number. w) (kinds at) joined w) (Unit {0})
          (λ holds r. (
            r.0,
            brings_more kinds (RunsTo R kinds kept edges b) (RunsTo R kinds kept edges a) (edges at) r.0 r.0 (λ from s runs. runs_more a b from s s zip (L.reflexive s) runs) (L.reflexive r.0) r.1,
            settles_up (kinds at) r.0 v w r.2 up,
          ))
          (λ fails r. r) asks

  -- ---- nodes that are passed

  module _ (kept : List Bool) (nodes : List Node) (readers : List (List ℕ)) (runs : AreRuns nodes kept readers) where
    pub first_kept : 0 < length nodes → is_kept kept 0 ≡ true
    first_kept within = elim (cases_Bool (is_kept kept 0)) [
      | inl holds ↦ holds
      | inr fails ↦
          let n = there nodes 0 within in
          elim (cases_Bool (goes_on 0 n.0.from.items)) [
            | inl goes ↦ let more = (goes_in 0 n.0.from.items goes).0 in absurd (omega (arith, more))
            | inr begins ↦ let more = (runs.passed 0 n.0 n.1 fails).begins begins in absurd (omega (arith, more))
          ]
    ]

    module _ (parts : List Part) (have : HaveEdges nodes (edges_of parts)) (below : AreBelow (length nodes) parts) where
      -- the node that a run comes from
      pub edge_leads : (before at : ℕ) → goes_on before (edges_to at (edges_of parts)) ≡ true → (before < length nodes) × Among at (targets_from before (edges_of parts))
      edge_leads before at goes = let lead = subst (LeadTo (length nodes) at (edges_of parts)) (goes_in before (edges_to at (edges_of parts)) goes).1 (all_lead (length nodes) at parts below) in (lead.0, lead.1)

      -- the node before one that is passed is the one of the number before, if its label is read
      pub behind : (at reader : ℕ) → suc at < length nodes → is_kept kept (suc at) ≡ false → Among reader (targets_from (suc at) (edges_of parts)) → node_before (length nodes) (suc at) ≡ at
      behind at reader within fails has =
          let n = there nodes (suc at) within in
          came_back (length nodes) at ((runs.passed (suc at) n.0 n.1 fails).leads.some reader (subst (Among reader) (sym (have (suc at) n.0 n.1).readers) has))

      -- where a node that is passed leads, it leads alone
      leads_alone : (from at : ℕ) → from < length nodes → at < length nodes → is_kept kept from ≡ false → Among at (targets_from from (edges_of parts)) → edges_to at (edges_of parts) ≡ (from, Next) ∷ []
      leads_alone from at inside within passed has =
          let f = there nodes from inside in
          let n = there nodes at within in
          sym (have at n.0 n.1).from ∙ (runs.passed from f.0 f.1 passed).leads.alone at n.0 (subst (Among at) (sym (have from f.0 f.1).readers) has) n.1

      -- before a node where ways meet or part, all are kept
      opens_kept : (at : ℕ) → at < length nodes → opens (edges_to at (edges_of parts)) ≡ true → (from : ℕ) → from < length nodes → Among at (targets_from from (edges_of parts)) → is_kept kept from ≡ true
      opens_kept at within meets from inside has = elim (cases_Bool (is_kept kept from)) [
        | inl holds ↦ holds
        | inr passed ↦ absurd (false≢true (ap opens (sym (leads_alone from at inside within passed has)) ∙ meets))
      ]

      opens_begins : (before : ℕ) (froms : List (ℕ × Edge)) → opens froms ≡ true → goes_on before froms ≡ false
      opens_begins before froms meets = elim (cases_Bool (goes_on before froms)) [
        | inl goes ↦ absurd (false≢true (ap opens (sym (goes_in before froms goes).1) ∙ meets))
        | inr begins ↦ begins
      ]

      -- Before a node with which a run begins, a node is kept, or a run begins with it, and all before it are kept.
      abbrev pub IsEarly : ℕ → Type 0
      IsEarly from =
          (is_kept kept from ≡ true) ⊎ ((is_kept kept from ≡ false) × (goes_on (node_before (length nodes) from) (edges_to from (edges_of parts)) ≡ false)
          × ((other : ℕ) → other < length nodes → Among from (targets_from other (edges_of parts)) → is_kept kept other ≡ true))

      pub before_first : (at : ℕ) → at < length nodes → is_kept kept at ≡ false → goes_on (node_before (length nodes) at) (edges_to at (edges_of parts)) ≡ false
          → (from : ℕ) → from < length nodes → Among at (targets_from from (edges_of parts)) → IsEarly from
      before_first at within fails begins from inside has =
          let n = there nodes at within in
          let f = there nodes from inside in
          let p = runs.passed at n.0 n.1 fails in
          let none : goes_on (node_before (length nodes) at) n.0.from.items ≡ false = ap (goes_on (node_before (length nodes) at)) (have at n.0 n.1).from ∙ begins in
          let more = p.begins none in
          let reads : Among at f.0.readers.items = subst (Among at) (sym (have from f.0 f.1).readers) has in
          elim (cases_Bool (is_kept kept from)) [
            | inl holds ↦ inl holds
            | inr passed ↦
                let leads = (runs.passed from f.0 f.1 passed).leads in
                elim (way_onto from f.0 at n.0 (leads.onto at n.0 reads n.1)) [
                  | inl is ↦
                      let before : node_before (length nodes) at ≡ from = ap (node_before (length nodes)) is ∙ came_back (length nodes) from (subst (λ k. 1 < k) is more) in
                      let goes : goes_on (node_before (length nodes) at) n.0.from.items ≡ true = ap (λ m. goes_on m n.0.from.items) before ∙ ap (goes_on from) (leads.alone at n.0 reads n.1) ∙ goes_there from (leads.some at reads) in
                      absurd (false≢true (sym none ∙ goes))
                  | inr (inl last) ↦ absurd (omega (arith, more, last))
                  | inr (inr (inl meet)) ↦
                      let meets : opens (edges_to from (edges_of parts)) ≡ true = ap opens (sym (have from f.0 f.1).from) ∙ meet in
                      inr (passed, opens_begins (node_before (length nodes) from) (edges_to from (edges_of parts)) meets, opens_kept from inside meets)
                  | inr (inr (inr test)) ↦ absurd (false≢true (sym p.single ∙ test))
                ]
          ]

  -- ---- what is read

  module _ (kinds : ℕ → Kind) (kept : List Bool) (nodes : List Node) (readers : List (List ℕ)) (parts : List Part) (runs : AreRuns nodes kept readers) (have : HaveEdges nodes (edges_of parts)) (below : AreBelow (length nodes) parts)
      (at : ℕ) (a b : List R.Store) (agree : AgreeWhereRead readers at a b) where
    -- a label that is kept, from which a run leads to the node
    kept_reads : (from reader many : ℕ) → from < length nodes → is_kept kept from ≡ true → Among reader (targets_from from (edges_of parts)) → many ≤ suc (length nodes) → EndsBehind nodes kept many reader at → label_at R a from ≡ label_at R b from
    kept_reads from reader many within holds has few end =
        let n = there nodes from within in
        let inside : from < length readers = omega (arith, within, runs.many) in
        let by = there readers from inside in
        let ends = (runs.through from n.0 by.0 n.1 by.1).ends holds in
        let place = place_of reader n.0.readers.items (subst (Among reader) (sym (have from n.0 n.1).readers) has) in
        let k = place.0 in
        let here : k < length by.0 = omega (arith, place.1, ends.many) in
        let e = there by.0 k here in
        let all = runs.all in
        let is : e.0 ≡ at = ends.each k reader e.0 place.2 e.1 many at (omega (arith, few, all)) end in
        let found : slice_get by.0 k ≡ Some at = e.1 ∙ ap (λ j. Some j) is in
        ap (λ o. unwrap_or o R.nowhere) (agree from by.0 by.1 (k, here, get_or_from_slice_get by.0 k at at found))

    -- the run from a node that is passed ends where the one from its reader does
    end_through : (from reader many : ℕ) → from < length nodes → is_kept kept from ≡ false → Among reader (targets_from from (edges_of parts)) → EndsBehind nodes kept many reader at → EndsBehind nodes kept (suc many) from at
    end_through from reader many within fails has end =
        let n = there nodes from within in
        (fails, n.0, n.1, reader, (runs.passed from n.0 n.1 fails).leads.one reader (subst (Among reader) (sym (have from n.0 n.1).readers) has), end)

    first_same : (start many from : ℕ) (s : R.Store) → many ≤ length nodes → EndsBehind nodes kept many start at → from < length nodes → Among start (targets_from from (edges_of parts)) → IsEarly kept nodes readers runs parts have below from
        → FirstTo R kinds kept (λ n. edges_to n (edges_of parts)) a from s → FirstTo R kinds kept (λ n. edges_to n (edges_of parts)) b from s
    first_same start many from s few end inside has (inl holds) first =
        of_first (is_kept kept from) (KeptTo R kinds b from s) (EachBrings R kinds (KeptTo R kinds b) (edges_to from (edges_of parts)) s) holds
        (subst (λ t. R.Below t s) (kept_reads from start many inside holds has (omega (arith, few)) end)
        (first_of_two (is_kept kept from) (KeptTo R kinds a from s) (EachBrings R kinds (KeptTo R kinds a) (edges_to from (edges_of parts)) s) holds first))
    first_same start many from s few end inside has (inr early) first =
        of_second (is_kept kept from) (KeptTo R kinds b from s) (EachBrings R kinds (KeptTo R kinds b) (edges_to from (edges_of parts)) s) early.0
        (brings_of kinds (KeptTo R kinds a) (KeptTo R kinds b) (length nodes) from (edges_of parts) (edges_to from (edges_of parts)) s (all_lead (length nodes) from parts below)
        (λ other t within lead low. subst (λ u. R.Below u t) (kept_reads other from (suc many) within (early.2 other within lead) lead (omega (arith, few)) (end_through from start many inside early.0 has end)) low)
        (second_of_two (is_kept kept from) (KeptTo R kinds a from s) (EachBrings R kinds (KeptTo R kinds a) (edges_to from (edges_of parts)) s) early.0 first))

    runs_same : (from reader many : ℕ) (v : R.Store) → from < length nodes → Among reader (targets_from from (edges_of parts)) → many + from ≤ length nodes → EndsBehind nodes kept many reader at
        → RunsTo R kinds kept (λ n. edges_to n (edges_of parts)) a from v → RunsTo R kinds kept (λ n. edges_to n (edges_of parts)) b from v
    runs_same zero reader many v within has few end runs_to =
        subst (λ s. R.Below s v) (kept_reads 0 reader many within (first_kept kept nodes readers runs within) has (omega (arith, few)) end) runs_to
    runs_same (suc from) reader many v within has few end runs_to = elim (run_cases kinds kept (λ n. edges_to n (edges_of parts)) a from v runs_to) [
      | inl one ↦ kept_run kinds kept (λ n. edges_to n (edges_of parts)) b from v one.0 (subst (λ s. R.Below s v) (kept_reads (suc from) reader many within one.0 has (omega (arith, few)) end) one.1)
      | inr (inl one) ↦
          let lead = edge_leads kept nodes readers runs parts have below from (suc from) one.1 in
          let r = one.2 in
          next_run kinds kept (λ n. edges_to n (edges_of parts)) b from v one.0 one.1 (r.0, runs_same from (suc from) (suc many) r.0 lead.0 lead.1 (omega (arith, few)) (end_through (suc from) reader many within one.0 has end) r.1, r.2)
      | inr (inr one) ↦
          let before = behind kept nodes readers runs parts have below from reader within one.0 has in
          let begins = ap (λ m. goes_on m (edges_to (suc from) (edges_of parts))) before ∙ one.1 in
          let through = end_through (suc from) reader many within one.0 has end in
          first_run kinds kept (λ n. edges_to n (edges_of parts)) b from v one.0 one.1
          (brings_of kinds (FirstTo R kinds kept (λ n. edges_to n (edges_of parts)) a) (FirstTo R kinds kept (λ n. edges_to n (edges_of parts)) b) (length nodes) (suc from) (edges_of parts) (edges_to (suc from) (edges_of parts)) v
          (all_lead (length nodes) (suc from) parts below)
          (λ other s inside lead first. first_same (suc from) (suc many) other s (omega (arith, few)) through inside lead (before_first kept nodes readers runs parts have below (suc from) within one.0 begins other inside lead) first) one.2)
    ]

    pub asks_same : (value : R.Store) → at < length nodes → RunAsks R kinds kept (λ n. edges_to n (edges_of parts)) at a value → RunAsks R kinds kept (λ n. edges_to n (edges_of parts)) at b value
    asks_same value within asks =
        each_of_two (is_kept kept at) ((joined : R.Store) × EachBrings R kinds (RunsTo R kinds kept (λ n. edges_to n (edges_of parts)) a) (edges_to at (edges_of parts)) joined × Settles R (Anything R) (λ number. value) (kinds at) joined value) (Unit {0})
        ((joined : R.Store) × EachBrings R kinds (RunsTo R kinds kept (λ n. edges_to n (edges_of parts)) b) (edges_to at (edges_of parts)) joined × Settles R (Anything R) (λ number. value) (kinds at) joined value) (Unit {0})
        (λ holds r. (
          r.0,
          brings_of kinds (RunsTo R kinds kept (λ n. edges_to n (edges_of parts)) a) (RunsTo R kinds kept (λ n. edges_to n (edges_of parts)) b) (length nodes) at (edges_of parts) (edges_to at (edges_of parts)) r.0 (all_lead (length nodes) at parts below)
              (λ from s inside lead runs_to. runs_same from at 0 s inside lead (omega (arith, inside)) (holds, refl) runs_to) r.1,
          r.2,
        ))
        (λ fails r. r) asks

  pub runs_depend : (kinds : ℕ → Kind) (kept : List Bool) (nodes : List Node) (readers : List (List ℕ)) (parts : List Part) → AreRuns nodes kept readers → HaveEdges nodes (edges_of parts) → AreBelow (length nodes) parts
      → DependsOnRead readers (RunAsks R kinds kept (λ n. edges_to n (edges_of parts)))
  runs_depend kinds kept nodes readers parts runs have below at a b value within agree asks =
      asks_same kinds kept nodes readers parts runs have below at a b agree value (let many = runs.many in omega (arith, within, many)) asks
