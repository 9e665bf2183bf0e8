-- The labels of all nodes, by those that are kept: if the kept ones are the least of what is asked with runs, all are the least solution of the graph.
use Rattle.std.specs.List.{AllZip}
use Rattle.std.proofs.Common.{◌≡◌, inl, inr, ◌<◌, ℕ, zero, suc, Bool, true, false, List, [], ◌∷◌, Some, length, slice_get, unwrap_or, arith, sym, ap, subst, ◌∙◌}
use Rattle.std.proofs.lemmas.Bool.{cases_Bool}
use Rattle.std.proofs.lemmas.Option.{slice_get_within}
use Rattle.ix_flow.specs.Flow.{Rules, RulesLaws, Anything}
use Rattle.ix_graph.specs.declared.node.Edge.{Edge}
use Rattle.ix_graph.specs.declared.node.Edge.TheVariants.{Next}
use Rattle.ix_graph.specs.declared.node.Node.{Node}
use Rattle.ix_graph.specs.Graph.{Kind, Starts, Does, Compares, Tells, Joins, Heads, Returns, Ends, Part, AreBelow}
use Rattle.ix_graph.specs.Built.{kind_of, edges_of, edges_to, targets_from}
use Rattle.ix_graph.specs.Brought.{pass_of, AllBring, Gathers}
use Rattle.ix_graph.specs.GraphSolutions.{Settles, label_at}
use Rattle.ix_graph.specs.Linked.{HaveEdges}
use Rattle.ix_graph.proofs.AsProblem.{Among, LeadTo, all_lead}
use Rattle.ix_solve.specs.Solutions.{IsSolution, IsLeast, IsLeastOf}
use Rattle.ix_labels.specs.Runs.{is_kept, is_plain, goes_on, node_before, AreRuns}
use Rattle.ix_labels.specs.RunAsks.{Onto, EachBrings, KeptTo, FirstTo, RunsTo, RunAsks}
use Rattle.ix_labels.specs.RunLaws.{first_of_two, second_of_two, of_first, of_second, there, goes_in, back_one, label_below, carries_more, brings_more, brings_of, kept_run, next_run, first_run, run_cases, first_more, first_kept, edge_leads, behind, IsEarly, before_first}

module _ (R : Rules) (L : RulesLaws R) where
  -- the label of a plain node is the store before it
  plain_settles : (kind : Kind) (s : R.Store) → is_plain kind ≡ true → Settles R (Anything R) (λ number. s) kind s s
  plain_settles Starts s is = cc
  plain_settles (Does op) s is = (L.reflexive s, tt)
  plain_settles (Compares test) s is = L.reflexive s
  plain_settles (Tells code slot) s is = L.reflexive s
  plain_settles Joins s is = L.reflexive s
  plain_settles (Heads number scope) s is = cc
  plain_settles (Returns value known span) s is = (L.reflexive s, tt)
  plain_settles Ends s is = (L.reflexive s, tt)

  plain_settled : (kind : Kind) (joined s : R.Store) → is_plain kind ≡ true → Settles R (Anything R) (λ number. s) kind joined s → R.Below joined s
  plain_settled Starts joined s is settles = cc
  plain_settled (Does op) joined s is settles = settles.0
  plain_settled (Compares test) joined s is settles = settles
  plain_settled (Tells code slot) joined s is settles = settles
  plain_settled Joins joined s is settles = settles
  plain_settled (Heads number scope) joined s is settles = cc
  plain_settled (Returns value known span) joined s is settles = settles.0
  plain_settled Ends joined s is settles = settles.0

  -- place by place below
  zip_of : (a b : List R.Store) → length a ≡ length b → ((k : ℕ) → k < length a → R.Below (label_at R a k) (label_at R b k)) → AllZip R.Below a b
  zip_of [] [] same each = tt
  zip_of [] (y ∷ b) same each = absurd (omega (arith, same))
  zip_of (x ∷ a) [] same each = absurd (omega (arith, same))
  zip_of (x ∷ a) (y ∷ b) same each = (each 0 (omega arith), zip_of a b (omega (arith, same)) (λ k within. each (suc k) (omega (arith, within))))

  label_is : (labels : List R.Store) (k : ℕ) (label : R.Store) → slice_get labels k ≡ Some label → label_at R labels k ≡ label
  label_is labels k label found = ap (λ o. unwrap_or o R.nowhere) found

  -- above what edges bring of labels
  bring_up : (kinds : ℕ → Kind) (labels : List R.Store) (froms : List (ℕ × Edge)) (v w : R.Store) → AllBring R kinds labels froms v → R.Below v w → AllBring R kinds labels froms w
  bring_up kinds labels [] v w all up = tt
  bring_up kinds labels (from ∷ froms) v w all up = (
    carries_more R L (λ number. v) (λ number. w) (pass_of (kinds from.0) from.1) (label_at R labels from.0) (label_at R labels from.0) v w (L.reflexive (label_at R labels from.0)) all.0 up,
    bring_up kinds labels froms v w all.1 up,
  )

  -- of labels that are such stores, and of such stores, which labels are below
  of_labels : (kinds : ℕ → Kind) (To : ℕ → R.Store → Type 0) (labels : List R.Store) (count at : ℕ) (edges : List (ℕ × Edge × ℕ)) (froms : List (ℕ × Edge)) (v : R.Store) → LeadTo count at edges froms
      → ((from : ℕ) → from < count → To from (label_at R labels from)) → AllBring R kinds labels froms v → EachBrings R kinds To froms v
  of_labels kinds To labels count at edges [] v lead each all = tt
  of_labels kinds To labels count at edges (from ∷ froms) v lead each all = ((label_at R labels from.0, each from.0 lead.0, all.0), of_labels kinds To labels count at edges froms v lead.2 each all.1)

  to_labels : (kinds : ℕ → Kind) (To : ℕ → R.Store → Type 0) (labels : List R.Store) (count at : ℕ) (edges : List (ℕ × Edge × ℕ)) (froms : List (ℕ × Edge)) (v : R.Store) → LeadTo count at edges froms
      → ((from : ℕ) (s : R.Store) → from < count → Among at (targets_from from edges) → To from s → R.Below (label_at R labels from) s) → EachBrings R kinds To froms v → AllBring R kinds labels froms v
  to_labels kinds To labels count at edges [] v lead each all = tt
  to_labels kinds To labels count at edges (from ∷ froms) v lead each all =
      let r = all.0 in (
        carries_more R L (λ number. v) (λ number. v) (pass_of (kinds from.0) from.1) (label_at R labels from.0) r.0 v v (each from.0 r.0 lead.0 lead.1 r.1) r.2 (L.reflexive v),
        to_labels kinds To labels count at edges froms v lead.2 each all.1,
      )

  module _ (kinds : ℕ → Kind) (kept : List Bool) (nodes : List Node) (readers : List (List ℕ)) (parts : List Part) (runs : AreRuns nodes kept readers) (have : HaveEdges nodes (edges_of parts)) (below : AreBelow (length nodes) parts)
      (are : (at : ℕ) (node : Node) → slice_get nodes at ≡ Some node → kinds at ≡ kind_of node.kind) where
    abbrev edges : ℕ → List (ℕ × Edge)
    edges n = edges_to n (edges_of parts)

    zero_kept : 0 < length nodes → is_kept kept 0 ≡ true
    zero_kept within = first_kept R L kept nodes readers runs within

    plain_is : (at : ℕ) → at < length nodes → is_kept kept at ≡ false → is_plain (kinds at) ≡ true
    plain_is at within fails = let n = there nodes at within in ap is_plain (are at n.0 n.1) ∙ (runs.passed at n.0 n.1 fails).plain

    -- the one edge to a node with which a run goes on, and the node that it comes from
    one_edge : (before at : ℕ) → goes_on before (edges_to at (edges_of parts)) ≡ true → edges_to at (edges_of parts) ≡ (before, Next) ∷ []
    one_edge before at goes = (goes_in before (edges_to at (edges_of parts)) goes).1

    leads_there : (before at : ℕ) → goes_on before (edges_to at (edges_of parts)) ≡ true → (before < length nodes) × Among at (targets_from before (edges_of parts))
    leads_there before at goes = edge_leads R L kept nodes readers runs parts have below before at goes

    -- that is the node before in turn; and if no run goes on with a node whose label is read from the node of the number before, one begins with it
    before_is : (at : ℕ) → goes_on at (edges_to (suc at) (edges_of parts)) ≡ true → at ≡ node_before (length nodes) (suc at)
    before_is at goes = sym (back_one (length nodes) at (edges_to (suc at) (edges_of parts)) goes)

    goes_there : (at : ℕ) → goes_on at (edges_to (suc at) (edges_of parts)) ≡ true → goes_on (node_before (length nodes) (suc at)) (edges_to (suc at) (edges_of parts)) ≡ true
    goes_there at goes = ap (λ m. goes_on m (edges_to (suc at) (edges_of parts))) (sym (before_is at goes)) ∙ goes

    begins_there : (at reader : ℕ) → suc at < length nodes → is_kept kept (suc at) ≡ false → Among reader (targets_from (suc at) (edges_of parts)) → goes_on at (edges_to (suc at) (edges_of parts)) ≡ false
        → goes_on (node_before (length nodes) (suc at)) (edges_to (suc at) (edges_of parts)) ≡ false
    begins_there at reader within fails has begins = ap (λ m. goes_on m (edges_to (suc at) (edges_of parts))) (behind R L kept nodes readers runs parts have below at reader within fails has) ∙ begins

    -- ---- a solution of the graph is one with runs

    module _ (other : List R.Store) (solution : IsSolution R.Below (length nodes) (Gathers R kinds edges) other) where
      asked : (at : ℕ) → at < length nodes → Gathers R kinds edges at other (label_at R other at)
      asked at within =
          let l = there other at (let same = solution.len in omega (arith, within, same)) in
          subst (Gathers R kinds edges at other) (sym (label_is other at l.0 l.1)) (solution.above at l.0 l.1)

      -- what its label is above, where a node is passed
      pub bring : (at : ℕ) → at < length nodes → is_kept kept at ≡ false → AllBring R kinds other (edges_to at (edges_of parts)) (label_at R other at)
      bring at within fails = let r = asked at within in bring_up kinds other (edges_to at (edges_of parts)) r.0 (label_at R other at) r.1 (plain_settled (kinds at) r.0 (label_at R other at) (plain_is at within fails) r.2)

      pub onto : (before at : ℕ) → at < length nodes → is_kept kept at ≡ false → goes_on before (edges_to at (edges_of parts)) ≡ true → Onto R kinds before (label_at R other before) (label_at R other at)
      onto before at within fails goes = (subst (λ es. AllBring R kinds other es (label_at R other at)) (one_edge before at goes) (bring at within fails)).0

      first_itself : (at : ℕ) → at < length nodes → FirstTo R kinds kept edges other at (label_at R other at)
      first_itself at within =
          elim (cases_Bool (is_kept kept at)) [
            | inl holds ↦ of_first (is_kept kept at) (KeptTo R kinds other at (label_at R other at)) (EachBrings R kinds (KeptTo R kinds other) (edges at) (label_at R other at)) holds (L.reflexive (label_at R other at))
            | inr fails ↦ of_second (is_kept kept at) (KeptTo R kinds other at (label_at R other at)) (EachBrings R kinds (KeptTo R kinds other) (edges at) (label_at R other at)) fails
                (of_labels kinds (KeptTo R kinds other) other (length nodes) at (edges_of parts) (edges at) (label_at R other at) (all_lead (length nodes) at parts below) (λ from inside. L.reflexive (label_at R other from)) (bring at within fails))
          ]

      pub bring_first : (at : ℕ) → at < length nodes → is_kept kept at ≡ false → EachBrings R kinds (FirstTo R kinds kept edges other) (edges_to at (edges_of parts)) (label_at R other at)
      bring_first at within fails =
          of_labels kinds (FirstTo R kinds kept edges other) other (length nodes) at (edges_of parts) (edges at) (label_at R other at) (all_lead (length nodes) at parts below) first_itself (bring at within fails)

      runs_itself : (at : ℕ) → at < length nodes → RunsTo R kinds kept edges other at (label_at R other at)
      runs_itself zero within = L.reflexive (label_at R other 0)
      runs_itself (suc at) within =
          elim (cases_Bool (is_kept kept (suc at))) [
            | inl holds ↦ kept_run R L kinds kept edges other at (label_at R other (suc at)) holds (L.reflexive (label_at R other (suc at)))
            | inr fails ↦ elim (cases_Bool (goes_on at (edges_to (suc at) (edges_of parts)))) [
              | inl goes ↦ next_run R L kinds kept edges other at (label_at R other (suc at)) fails goes (label_at R other at, runs_itself at (omega (arith, within)), onto at (suc at) within fails goes)
              | inr begins ↦ first_run R L kinds kept edges other at (label_at R other (suc at)) fails begins (bring_first (suc at) within fails)
            ]
          ]

      run_asks : (at : ℕ) (label : R.Store) → slice_get other at ≡ Some label → RunAsks R kinds kept edges at other label
      run_asks at label found =
          let r = solution.above at label found in
          elim (cases_Bool (is_kept kept at)) [
            | inl holds ↦ of_first (is_kept kept at) ((joined : R.Store) × EachBrings R kinds (RunsTo R kinds kept edges other) (edges at) joined × Settles R (Anything R) (λ number. label) (kinds at) joined label) (Unit {0}) holds
                (r.0, of_labels kinds (RunsTo R kinds kept edges other) other (length nodes) at (edges_of parts) (edges at) r.0 (all_lead (length nodes) at parts below) runs_itself r.1, r.2)
            | inr fails ↦ of_second (is_kept kept at) ((joined : R.Store) × EachBrings R kinds (RunsTo R kinds kept edges other) (edges at) joined × Settles R (Anything R) (λ number. label) (kinds at) joined label) (Unit {0}) fails tt
          ]

      pub run_solution : IsSolution R.Below (length nodes) (RunAsks R kinds kept edges) other
      run_solution = record { len = solution.len; above = run_asks }

    -- ---- all labels by those that are kept

    module _ (labels all : List R.Store) (many : length all ≡ length nodes)
        (same : (at : ℕ) → at < length nodes → is_kept kept at ≡ true → label_at R all at ≡ label_at R labels at)
        (next : (at : ℕ) → at < length nodes → is_kept kept at ≡ false → goes_on (node_before (length nodes) at) (edges_to at (edges_of parts)) ≡ true
        → IsLeastOf R.Below (Onto R kinds (node_before (length nodes) at) (label_at R all (node_before (length nodes) at))) (label_at R all at))
        (first : (at : ℕ) → at < length nodes → is_kept kept at ≡ false → goes_on (node_before (length nodes) at) (edges_to at (edges_of parts)) ≡ false
        → IsLeastOf R.Below (EachBrings R kinds (FirstTo R kinds kept edges labels) (edges_to at (edges_of parts))) (label_at R all at)) where
      -- by the number before
      next_there : (at : ℕ) → suc at < length nodes → is_kept kept (suc at) ≡ false → goes_on at (edges_to (suc at) (edges_of parts)) ≡ true → IsLeastOf R.Below (Onto R kinds at (label_at R all at)) (label_at R all (suc at))
      next_there at within fails goes = subst (λ n. IsLeastOf R.Below (Onto R kinds n (label_at R all n)) (label_at R all (suc at))) (sym (before_is at goes)) (next (suc at) within fails (goes_there at goes))

      kept_under : (at : ℕ) (u : R.Store) → at < length nodes → is_kept kept at ≡ true → KeptTo R kinds labels at u → R.Below (label_at R all at) u
      kept_under at u within holds low = subst (λ s. R.Below s u) (sym (same at within holds)) low

      -- what a node before the first of a run has
      early_under : (at : ℕ) (u : R.Store) → at < length nodes → IsEarly R L kept nodes readers runs parts have below at → FirstTo R kinds kept edges labels at u → R.Below (label_at R all at) u
      early_under at u within (inl holds) given = kept_under at u within holds (first_of_two (is_kept kept at) (KeptTo R kinds labels at u) (EachBrings R kinds (KeptTo R kinds labels) (edges at) u) holds given)
      early_under at u within (inr early) given =
          let all_kept = second_of_two (is_kept kept at) (KeptTo R kinds labels at u) (EachBrings R kinds (KeptTo R kinds labels) (edges at) u) early.0 given in
          (first at within early.0 early.1).1 u
          (brings_of R L kinds (KeptTo R kinds labels) (FirstTo R kinds kept edges labels) (length nodes) at (edges_of parts) (edges at) u (all_lead (length nodes) at parts below)
          (λ from s inside lead low. of_first (is_kept kept from) (KeptTo R kinds labels from s) (EachBrings R kinds (KeptTo R kinds labels) (edges from) s) (early.2 from inside lead) low) all_kept)

      under : (at reader : ℕ) (u : R.Store) → at < length nodes → Among reader (targets_from at (edges_of parts)) → RunsTo R kinds kept edges labels at u → R.Below (label_at R all at) u
      under zero reader u within has low = kept_under 0 u within (zero_kept within) low
      under (suc at) reader u within has given =
          elim (run_cases R L kinds kept edges labels at u given) [
            | inl one ↦ kept_under (suc at) u within one.0 one.1
            | inr (inl one) ↦
                let r = one.2 in
                let lead = leads_there at (suc at) one.1 in
                (next_there at within one.0 one.1).1 u (carries_more R L (λ number. u) (λ number. u) (pass_of (kinds at) Next) (label_at R all at) r.0 u u (under at (suc at) r.0 lead.0 lead.1 r.1) r.2 (L.reflexive u))
            | inr (inr one) ↦ (first (suc at) within one.0 (begins_there at reader within one.0 has one.1)).1 u one.2
          ]

      kept_gathers : (solution : IsSolution R.Below (length nodes) (RunAsks R kinds kept edges) labels) (at : ℕ) → at < length nodes → is_kept kept at ≡ true → Gathers R kinds edges at all (label_at R all at)
      kept_gathers solution at within holds =
          let l = there labels at (let count = solution.len in omega (arith, within, count)) in
          let asks = solution.above at l.0 l.1 in
          let r = first_of_two (is_kept kept at) ((joined : R.Store) × EachBrings R kinds (RunsTo R kinds kept edges labels) (edges at) joined × Settles R (Anything R) (λ number. l.0) (kinds at) joined l.0) (Unit {0}) holds asks in
          let is : l.0 ≡ label_at R all at = sym (label_is labels at l.0 l.1) ∙ sym (same at within holds) in
          let bring_all = to_labels kinds (RunsTo R kinds kept edges labels) all (length nodes) at (edges_of parts) (edges at) r.0 (all_lead (length nodes) at parts below) (λ from s inside lead runs_to. under from at s inside lead runs_to) r.1 in
          subst (Gathers R kinds edges at all) is (r.0, bring_all, r.2)

      passed_bring : (at : ℕ) → at < length nodes → is_kept kept at ≡ false → AllBring R kinds all (edges_to at (edges_of parts)) (label_at R all at)
      passed_bring at within fails = elim (cases_Bool (goes_on (node_before (length nodes) at) (edges_to at (edges_of parts)))) [
        | inl goes ↦ subst (λ es. AllBring R kinds all es (label_at R all at)) (sym (one_edge (node_before (length nodes) at) at goes)) ((next at within fails goes).0, tt)
        | inr begins ↦
            to_labels kinds (FirstTo R kinds kept edges labels) all (length nodes) at (edges_of parts) (edges at) (label_at R all at) (all_lead (length nodes) at parts below)
            (λ from s inside lead given. early_under from s inside (before_first R L kept nodes readers runs parts have below at within fails begins from inside lead) given) (first at within fails begins).0
      ]

      gathers : (solution : IsSolution R.Below (length nodes) (RunAsks R kinds kept edges) labels) (at : ℕ) → at < length nodes → Gathers R kinds edges at all (label_at R all at)
      gathers solution at within = elim (cases_Bool (is_kept kept at)) [
        | inl holds ↦ kept_gathers solution at within holds
        | inr fails ↦ (label_at R all at, passed_bring at within fails, plain_settles (kinds at) (label_at R all at) (plain_is at within fails))
      ]

      pub graph_solution : IsSolution R.Below (length nodes) (RunAsks R kinds kept edges) labels → IsSolution R.Below (length nodes) (Gathers R kinds edges) all
      graph_solution solution = record {
        len = many;
        above = λ at label found.
            let within = slice_get_within all at label found in
            subst (Gathers R kinds edges at all) (label_is all at label found) (gathers solution at (omega (arith, within, many)));
      }

      -- ---- they are below any other solution of the graph

      module _ (other : List R.Store) (solution : IsSolution R.Below (length nodes) (Gathers R kinds edges) other) (zip : AllZip R.Below labels other) where
        kept_low : (at : ℕ) → at < length nodes → is_kept kept at ≡ true → R.Below (label_at R all at) (label_at R other at)
        kept_low at within holds = kept_under at (label_at R other at) within holds (label_below R L labels other at zip)

        next_under : (before at : ℕ) → at < length nodes → is_kept kept at ≡ false → goes_on before (edges_to at (edges_of parts)) ≡ true → IsLeastOf R.Below (Onto R kinds before (label_at R all before)) (label_at R all at)
            → R.Below (label_at R all before) (label_at R other before) → R.Below (label_at R all at) (label_at R other at)
        next_under before at within fails goes least low =
            let o = label_at R other at in
            least.1 o (carries_more R L (λ number. o) (λ number. o) (pass_of (kinds before) Next) (label_at R all before) (label_at R other before) o o low (onto other solution before at within fails goes) (L.reflexive o))

        first_under : (at : ℕ) → at < length nodes → is_kept kept at ≡ false → goes_on (node_before (length nodes) at) (edges_to at (edges_of parts)) ≡ false → R.Below (label_at R all at) (label_at R other at)
        first_under at within fails begins =
            let o = label_at R other at in
            (first at within fails begins).1 o
            (brings_more R L kinds (FirstTo R kinds kept edges other) (FirstTo R kinds kept edges labels) (edges at) o o (first_more R L kinds kept edges labels other zip) (L.reflexive o) (bring_first other solution at within fails))

        read_under : (at reader : ℕ) → at < length nodes → Among reader (targets_from at (edges_of parts)) → R.Below (label_at R all at) (label_at R other at)
        read_under zero reader within has = kept_low 0 within (zero_kept within)
        read_under (suc at) reader within has = elim (cases_Bool (is_kept kept (suc at))) [
          | inl holds ↦ kept_low (suc at) within holds
          | inr fails ↦ elim (cases_Bool (goes_on at (edges_to (suc at) (edges_of parts)))) [
            | inl goes ↦ let lead = leads_there at (suc at) goes in next_under at (suc at) within fails goes (next_there at within fails goes) (read_under at (suc at) lead.0 lead.1)
            | inr begins ↦ first_under (suc at) within fails (begins_there at reader within fails has begins)
          ]
        ]

        all_under : (at : ℕ) → at < length nodes → R.Below (label_at R all at) (label_at R other at)
        all_under at within = elim (cases_Bool (is_kept kept at)) [
          | inl holds ↦ kept_low at within holds
          | inr fails ↦ elim (cases_Bool (goes_on (node_before (length nodes) at) (edges_to at (edges_of parts)))) [
            | inl goes ↦
                let lead = leads_there (node_before (length nodes) at) at goes in
                next_under (node_before (length nodes) at) at within fails goes (next at within fails goes) (read_under (node_before (length nodes) at) at lead.0 lead.1)
            | inr begins ↦ first_under at within fails begins
          ]
        ]

      pub graph_least : IsLeast R.Below (length nodes) (RunAsks R kinds kept edges) labels → IsLeast R.Below (length nodes) (Gathers R kinds edges) all
      graph_least least other solution =
          let zip = least other (run_solution other solution) in
          let count = solution.len in
          zip_of all other (omega (arith, many, count)) (λ k within. all_under other solution zip k (omega (arith, within, many)))
