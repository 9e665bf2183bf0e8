-- What a visit of a node finds.
use Rattle.std.proofs.Common.{◌≡◌, ◌⊎◌, inl, inr, ◌<◌, ◌+◌, ℕ, zero, suc, Bool, true, false, List, [], ◌∷◌, ◌++◌, Some, None, length, map, slice_get, get_or, take, ◌-◌, arith, refl, sym, ap, subst, ◌∙◌}
use Rattle.std.proofs.Math.Seq.{take-suc}
use Rattle.std.proofs.lemmas.Bool.{false≢true}
use Rattle.ix_core.specs.declared.op.Test.{Test}
use Rattle.ix_core.specs.Posts.{last_done}
use Rattle.ix_facts.specs.Round.{rounded}
use Rattle.ix_facts.specs.Stores.{Stored, Unreachable, IsBelow, IsStoreOf, IsJoined, IsTested, IsRounded, outcomes_of}
use Rattle.ix_facts.proofs.StepLaws.{told_give, told_least, given_gives, given_least}
use Rattle.ix_facts.proofs.StoreLaws.{below_itself, store_above, store_least, joined_least}
use Rattle.ix_flow.specs.Flow.{Rules, RulesLaws, Anything}
use Rattle.ix_graph.specs.declared.node.Edge.{Edge}
use Rattle.ix_graph.specs.declared.node.Edge.TheVariants.{Next}
use Rattle.ix_graph.specs.declared.node.Node.{Node}
use Rattle.ix_graph.specs.declared.node.NodeKind.{NodeKind}
use Rattle.ix_graph.specs.declared.node.NodeKind.TheVariants as node
use Rattle.ix_graph.specs.Graph.{Kind, Starts, Does, Compares, Tells, Joins, Heads, Returns, Ends, Pass, Testing, Telling, behind_code, method_parts}
use Rattle.ix_lattice.specs.Lattice.{IsJoin}
use Rattle.ix_core.specs.Code.{Code, block_code}
use Rattle.ix_graph.specs.GraphSolutions.{Carries, Settles, label_at}
use Rattle.ix_graph.proofs.AsProblem.{LeadTo, AreUnder, all_lead, lead_within, targets_within}
use Rattle.ix_graph.proofs.NodesAsk.{carries_as}
use Rattle.ix_graph.proofs.Numbers.{method_below}
use Rattle.ix_graph.specs.Brought.{pass_of, IsSettled}
use Rattle.ix_graph.specs.Built.{kind_of, edges_of, targets_from}
use Rattle.ix_graph.specs.Linked.{HaveEdges}
use Rattle.ix_signatures.specs.Signs as signs
use Rattle.ix_signatures.specs.Signs.{Adds, entry_facts, told_facts}
use Rattle.ix_solve.specs.Solutions.{IsLeastOf}
use Rattle.ix_store.specs.declared.store.Store.{Store}
use Rattle.ix_store.specs.StoredFacts.{stored}
use Rattle.ix_store.specs.StoreOrder.{StoreBelow}
use Rattle.ix_labels.specs.declared.problem.Problem.{Problem}
use Rattle.ix_labels.specs.Problem.{rules_of, kind_in, kinds_at, kept_in, parts_of, edges_at, readers_of, Asks}
use Rattle.ix_labels.specs.ProblemLaws.{laws_with}
use Rattle.ix_labels.specs.Runs.{is_kept, goes_on, AreLinked, Continues, Begins}
use Rattle.ix_labels.specs.RunAsks.{Onto, BringsOf, EachBrings, KeptTo, FirstTo, RunsTo}
use Rattle.ix_labels.specs.RunLaws.{first_of_two, second_of_two, of_first, of_second, there, carries_more, kept_run, next_run, first_run, run_cases, first_kept}

pub kind_found : (nodes : List Node) (at : ℕ) (node : Node) → at < length nodes → node ≡ get_or nodes at node → kind_in nodes at ≡ kind_of node.kind
kind_found [] at node within is = absurd (omega (arith, within))
kind_found (first ∷ nodes) zero node within is = ap (λ (n : Node). kind_of n.kind) (sym is)
kind_found (first ∷ nodes) (suc at) node within is = kind_found nodes at node (omega (arith, within)) is

module _ (problem : Problem) where
  -- the least store above what an edge carries
  abbrev pub IsCarried : Pass → Stored → Stored → Type 0
  IsCarried pass label = IsLeastOf IsBelow (Carries (rules_of problem) (Anything (rules_of problem)) (λ number. label) pass label)

  pub tested_least : (answer : Bool) (test : Test) (label after : Stored) → IsTested answer test label after → IsCarried (Testing answer test) label after
  tested_least answer test label after tested = (
    told_give (outcomes_of answer test) label after tested,
    λ other carries. told_least (outcomes_of answer test) label after other tested carries,
  )

  pub tells_least : (answer : Bool) (code : Code) (slot : ℕ) (label after : Stored) → signs.IsLeastOf (Adds (told_facts problem.program.now (last_done None code) slot answer)) label after → IsCarried (Telling answer code slot) label after
  tells_least answer code slot label after least = (least.above, least.least)

  pub same_least : (kind : NodeKind) (edge : Edge) (label : Stored) → ((op : _) → kind ≡ node.Do op → ⊥) → ((test : _) → kind ≡ node.Compare test → edge ≡ Next) → ((block slot : _) → kind ≡ node.Truth block slot → edge ≡ Next) → IsCarried (pass_of (kind_of kind) edge) label label
  same_least node.Entry edge label no_op asked told = (below_itself label, λ other carries. carries)
  same_least (node.Do op) edge label no_op asked told = absurd (no_op op refl)
  same_least (node.Compare test) edge label no_op asked told =
      subst (λ e. IsCarried (pass_of (kind_of (node.Compare test)) e) label label) (sym (asked test refl)) (below_itself label, λ other carries. carries)
  same_least (node.Truth block slot) edge label no_op asked told =
      subst (λ e. IsCarried (pass_of (kind_of (node.Truth block slot)) e) label label) (sym (told block slot refl)) (below_itself label, λ other carries. carries)
  same_least node.Join edge label no_op asked told = (below_itself label, λ other carries. carries)
  same_least (node.Head number scope) edge label no_op asked told = (below_itself label, λ other carries. carries)
  same_least (node.Return value known span) edge label no_op asked told = (below_itself label, λ other carries. carries)
  same_least node.End edge label no_op asked told = (below_itself label, λ other carries. carries)

  pub entered : (joined label : Stored) → IsStoreOf (entry_facts problem.program.now problem.within.now) label → IsSettled (rules_of problem) Starts joined label
  entered joined label is = (
    store_above (entry_facts problem.program.now problem.within.now) label is,
    λ other entry. store_least (entry_facts problem.program.now problem.within.now) label other is entry,
  )

  pub headed : (number scope : ℕ) (joined label : Stored) → IsRounded problem.marks.ints scope joined label → IsSettled (rules_of problem) (Heads number scope) joined label
  headed number scope joined label is = (
    given_gives (rounded problem.marks.ints scope) joined label is,
    λ other gives. given_least (rounded problem.marks.ints scope) joined label other is gives,
  )

  pub as_joined : (kind : NodeKind) (joined label : Stored) → (kind ≡ node.Entry → ⊥) → ((number scope : ℕ) → kind ≡ node.Head number scope → ⊥) → label ≡ joined → IsSettled (rules_of problem) (kind_of kind) joined label
  as_joined node.Entry joined label no_entry no_head is = absurd (no_entry refl)
  as_joined (node.Do op) joined label no_entry no_head is = is
  as_joined (node.Compare test) joined label no_entry no_head is = is
  as_joined (node.Truth block slot) joined label no_entry no_head is = is
  as_joined node.Join joined label no_entry no_head is = is
  as_joined (node.Head number scope) joined label no_entry no_head is = absurd (no_head number scope refl)
  as_joined (node.Return value known span) joined label no_entry no_head is = is
  as_joined node.End joined label no_entry no_head is = is

-- the edges that were gone over, and the next
pub next_front : {A : Type 0} (xs : List A) (k : ℕ) (d : A) → k < length xs → take (k + 1) xs ≡ take k xs ++ get_or xs k d ∷ []
next_front xs k d within = (let e : k + 1 ≡ suc k = omega arith in ap (λ j. take j xs) e) ∙ take-suc xs k d within

pub node_there : (nodes : List Node) (at : ℕ) (node : Node) → at < length nodes → node ≡ get_or nodes at node → slice_get nodes at ≡ Some node
node_there [] at node within is = absurd (omega (arith, within))
node_there (first ∷ nodes) zero node within is = ap Some (sym is)
node_there (first ∷ nodes) (suc at) node within is = node_there nodes at node (omega (arith, within)) is

-- the edges to a node come from nodes
pub edges_are : (problem : Problem) (at : ℕ) (node : Node) (items : List (ℕ × Edge)) → at < length problem.graph.nodes.items → node ≡ get_or problem.graph.nodes.items at node → items ≡ node.from.items → items ≡ edges_at problem at
edges_are problem at node items within is read = read ∙ (problem.edges at node (node_there problem.graph.nodes.items at node within is)).from

pub from_within : (problem : Problem) (at : ℕ) (items : List (ℕ × Edge)) (k : ℕ) (d : ℕ × Edge) → items ≡ edges_at problem at → k < length items → (get_or items k d).0 < length problem.graph.nodes.items
from_within problem at items k d are within =
    subst (λ n. (get_or items k d).0 < n) (sym problem.size)
    (lead_within (behind_code (block_code problem.within.now.body) 2) at (edges_of (parts_of problem)) items k d
    (subst (LeadTo (behind_code (block_code problem.within.now.body) 2) at (edges_of (parts_of problem))) (sym are)
    (all_lead (behind_code (block_code problem.within.now.body) 2) at (parts_of problem) (method_below (block_code problem.within.now.body)))) within)

-- what a join says is the join of what the two say, among all that can be said
pub join_said : (one other join : Store) → IsJoin StoreBelow one other join → IsJoined (stored one) (stored other) (stored join) → IsJoin IsBelow (stored one) (stored other) (stored join)
join_said one other join is said = record { left = is.left; right = is.right; least = λ above. joined_least (stored one) (stored other) (stored join) above said }

-- ---- runs

module _ (problem : Problem) (labels : List Stored) where
  abbrev R : Rules
  R = rules_of problem

  abbrev L : RulesLaws (rules_of problem)
  L = laws_with problem.program.now problem.within.now problem.profile problem.marks.ints

  abbrev pub To : ℕ → Stored → Type 0
  To = RunsTo (rules_of problem) (kinds_at problem) (kept_in problem) (edges_at problem) labels

  abbrev pub Kept : ℕ → Stored → Type 0
  Kept = KeptTo (rules_of problem) (kinds_at problem) labels

  abbrev pub First : ℕ → Stored → Type 0
  First = FirstTo (rules_of problem) (kinds_at problem) (kept_in problem) (edges_at problem) labels

  pub kept_least : (at : ℕ) → IsLeastOf IsBelow (Kept at) (label_at (rules_of problem) labels at)
  kept_least at = (below_itself (label_at (rules_of problem) labels at), λ other low. low)

  -- before the first node of a run
  pub first_kept_least : (at : ℕ) → is_kept (kept_in problem) at ≡ true → IsLeastOf IsBelow (First at) (label_at (rules_of problem) labels at)
  first_kept_least at holds = (
    of_first (is_kept (kept_in problem) at) (Kept at (label_at (rules_of problem) labels at)) (EachBrings (rules_of problem) (kinds_at problem) Kept (edges_at problem at) (label_at (rules_of problem) labels at)) holds
        (below_itself (label_at (rules_of problem) labels at)),
    λ other first. first_of_two (is_kept (kept_in problem) at) (Kept at other) (EachBrings (rules_of problem) (kinds_at problem) Kept (edges_at problem at) other) holds first,
  )

  pub first_passed_least : (at : ℕ) (store : Stored) → is_kept (kept_in problem) at ≡ false → IsLeastOf IsBelow (EachBrings (rules_of problem) (kinds_at problem) Kept (edges_at problem at)) store → IsLeastOf IsBelow (First at) store
  first_passed_least at store fails least = (
    of_second (is_kept (kept_in problem) at) (Kept at store) (EachBrings (rules_of problem) (kinds_at problem) Kept (edges_at problem at) store) fails least.0,
    λ other first. least.1 other (second_of_two (is_kept (kept_in problem) at) (Kept at other) (EachBrings (rules_of problem) (kinds_at problem) Kept (edges_at problem at) other) fails first),
  )

  -- where a run begins with a label that is kept
  pub run_kept : (at : ℕ) → is_kept (kept_in problem) at ≡ true → IsLeastOf IsBelow (To at) (label_at (rules_of problem) labels at)
  run_kept zero holds = (below_itself (label_at (rules_of problem) labels 0), λ other low. low)
  run_kept (suc at) holds = (
    kept_run R L (kinds_at problem) (kept_in problem) (edges_at problem) labels at (label_at (rules_of problem) labels (suc at)) holds (below_itself (label_at (rules_of problem) labels (suc at))),
    λ other runs. elim (run_cases R L (kinds_at problem) (kept_in problem) (edges_at problem) labels at other runs) [
      | inl one ↦ one.1
      | inr (inl one) ↦ absurd (false≢true (sym one.0 ∙ holds))
      | inr (inr one) ↦ absurd (false≢true (sym one.0 ∙ holds))
    ],
  )

  -- whether a run goes on with a node, by its edges
  edges_there : (at : ℕ) (b : Bool) → suc at < length problem.graph.nodes.items → ((node : Node) → slice_get problem.graph.nodes.items (suc at) ≡ Some node → goes_on (suc at - 1) node.from.items ≡ b) → goes_on at (edges_at problem (suc at)) ≡ b
  edges_there at b within each =
      let n = there problem.graph.nodes.items (suc at) within in
      let e : at ≡ suc at - 1 = omega arith in
      ap (goes_on at) (sym (problem.edges (suc at) n.0 n.1).from) ∙ ap (λ m. goes_on m n.0.from.items) e ∙ each n.0 n.1

  -- where one begins with a label that is passed
  pub run_first : (at : ℕ) (store : Stored) → at < length problem.graph.nodes.items → is_kept (kept_in problem) at ≡ false → (at ≡ 0) ⊎ Begins problem.graph.nodes.items (kept_in problem) at
      → IsLeastOf IsBelow (EachBrings (rules_of problem) (kinds_at problem) First (edges_at problem at)) store → IsLeastOf IsBelow (To at) store
  run_first zero store within fails begins least = absurd (false≢true (sym fails ∙ first_kept R L (kept_in problem) problem.graph.nodes.items (readers_of problem) problem.through within))
  run_first (suc at) store within fails (inl none) least = absurd (omega (arith, none))
  run_first (suc at) store within fails (inr (inl holds)) least = absurd (false≢true (sym fails ∙ holds))
  run_first (suc at) store within fails (inr (inr apart)) least =
      let begins = edges_there at false within apart in (
        first_run R L (kinds_at problem) (kept_in problem) (edges_at problem) labels at store fails begins least.0,
        λ other runs. elim (run_cases R L (kinds_at problem) (kept_in problem) (edges_at problem) labels at other runs) [
          | inl one ↦ absurd (false≢true (sym fails ∙ one.0))
          | inr (inl one) ↦ absurd (false≢true (sym begins ∙ one.1))
          | inr (inr one) ↦ least.1 other one.2
        ],
      )

  -- one node more
  pub run_goes_on : (at : ℕ) (before after : Stored) → suc at < length problem.graph.nodes.items → Continues problem.graph.nodes.items (kept_in problem) (suc at) → IsLeastOf IsBelow (To at) before
      → IsCarried problem (pass_of (kinds_at problem at) Next) before after → IsLeastOf IsBelow (To (suc at)) after
  run_goes_on at before after within continues least carried =
      let goes = edges_there at true within continues.1 in (
        next_run R L (kinds_at problem) (kept_in problem) (edges_at problem) labels at after continues.0 goes
            (before, least.0, carries_as R L labels (λ number. before) (λ number. after) (pass_of (kinds_at problem at) Next) before after carried.0),
        λ other runs. elim (run_cases R L (kinds_at problem) (kept_in problem) (edges_at problem) labels at other runs) [
          | inl one ↦ absurd (false≢true (sym continues.0 ∙ one.0))
          | inr (inl one) ↦
              let r = one.2 in
              carried.1 other (carries_more R L (λ number. other) (λ number. before) (pass_of (kinds_at problem at) Next) before r.0 other other (least.1 r.0 r.1) r.2 (below_itself other))
          | inr (inr one) ↦ absurd (false≢true (sym one.1 ∙ goes))
        ],
      )

  -- ---- what edges bring of the least stores of the nodes that they come from

  module _ (Of : ℕ → Stored → Type 0) where
    abbrev All : List (ℕ × Edge) → Stored → Type 0
    All = EachBrings (rules_of problem) (kinds_at problem) Of

    abbrev One : ℕ × Edge → Stored → Type 0
    One = BringsOf (rules_of problem) (kinds_at problem) Of

    pub edge_brings : (from : ℕ × Edge) (before after : Stored) → IsLeastOf IsBelow (Of from.0) before → IsCarried problem (pass_of (kinds_at problem from.0) from.1) before after → IsLeastOf IsBelow (One from) after
    edge_brings from before after least carried = (
      (before, least.0, carries_as R L labels (λ number. before) (λ number. after) (pass_of (kinds_at problem from.0) from.1) before after carried.0),
      λ other given. carried.1 other (carries_more R L (λ number. other) (λ number. before) (pass_of (kinds_at problem from.0) from.1) before given.0 other other (least.1 given.0 given.1) given.2 (below_itself other)),
    )

    one_up : (from : ℕ × Edge) (s t : Stored) → One from s → IsBelow s t → One from t
    one_up from s t given up = (given.0, given.1, carries_more R L (λ number. s) (λ number. t) (pass_of (kinds_at problem from.0) from.1) given.0 given.0 s t (below_itself given.0) given.2 up)

    all_up : (edges : List (ℕ × Edge)) (s t : Stored) → All edges s → IsBelow s t → All edges t
    all_up [] s t all up = tt
    all_up (from ∷ edges) s t all up = (one_up from s t all.0 up, all_up edges s t all.1 up)

    all_and : (edges : List (ℕ × Edge)) (from : ℕ × Edge) (s : Stored) → All edges s → One from s → All (edges ++ from ∷ []) s
    all_and [] from s all last = (last, tt)
    all_and (first ∷ edges) from s all last = (all.0, all_and edges from s all.1 last)

    and_all : (edges : List (ℕ × Edge)) (from : ℕ × Edge) (s : Stored) → All (edges ++ from ∷ []) s → All edges s × One from s
    and_all [] from s all = (tt, all.0)
    and_all (first ∷ edges) from s all = let r = and_all edges from s all.1 in ((all.0, r.0), r.1)

    -- one edge more
    pub one_more_edge : (items : List (ℕ × Edge)) (k : ℕ) (d : ℕ × Edge) (joined carried new : Stored) → k < length items → IsLeastOf IsBelow (All (take k items)) joined → IsLeastOf IsBelow (One (get_or items k d)) carried
        → IsJoin IsBelow joined carried new → IsLeastOf IsBelow (All (take (k + 1) items)) new
    one_more_edge items k d joined carried new within before last join =
        subst (λ es. IsLeastOf IsBelow (All es) new) (sym (next_front items k d within)) (
          all_and (take k items) (get_or items k d) new (all_up (take k items) joined new before.0 join.left) (one_up (get_or items k d) carried new last.0 join.right),
          λ other all. let r = and_all (take k items) (get_or items k d) other all in join.least other (before.1 other r.0) (last.1 other r.1),
        )

laws_of : (problem : Problem) → RulesLaws (rules_of problem)
laws_of problem = laws_with problem.program.now problem.within.now problem.profile problem.marks.ints

settled : (problem : Problem) (kind : Kind) (joined label : Stored) → IsSettled (rules_of problem) kind joined label → Settles (rules_of problem) (Anything (rules_of problem)) (λ number. label) kind joined label
settled problem Starts joined label is = is.0
settled problem (Does op) joined label is = (subst (λ s. IsBelow joined s) (sym is) (below_itself joined), tt)
settled problem (Compares test) joined label is = subst (λ s. IsBelow joined s) (sym is) (below_itself joined)
settled problem (Tells code slot) joined label is = subst (λ s. IsBelow joined s) (sym is) (below_itself joined)
settled problem Joins joined label is = subst (λ s. IsBelow joined s) (sym is) (below_itself joined)
settled problem (Heads number scope) joined label is = (is.0, refl)
settled problem (Returns value known span) joined label is = (subst (λ s. IsBelow joined s) (sym is) (below_itself joined), tt)
settled problem Ends joined label is = (subst (λ s. IsBelow joined s) (sym is) (below_itself joined), tt)

settled_below : (problem : Problem) (kind : Kind) (joined label above other : Stored) → IsSettled (rules_of problem) kind joined label → IsBelow joined above
    → Settles (rules_of problem) (Anything (rules_of problem)) (λ number. other) kind above other → IsBelow label other
settled_below problem Starts joined label above other is up settles = is.1 other settles
settled_below problem (Does op) joined label above other is up settles = subst (λ s. IsBelow s other) (sym is) ((laws_of problem).transitive joined above other up settles.0)
settled_below problem (Compares test) joined label above other is up settles = subst (λ s. IsBelow s other) (sym is) ((laws_of problem).transitive joined above other up settles)
settled_below problem (Tells code slot) joined label above other is up settles = subst (λ s. IsBelow s other) (sym is) ((laws_of problem).transitive joined above other up settles)
settled_below problem Joins joined label above other is up settles = subst (λ s. IsBelow s other) (sym is) ((laws_of problem).transitive joined above other up settles)
settled_below problem (Heads number scope) joined label above other is up settles = is.1 other ((laws_of problem).rounded scope joined above other other up settles.0 (below_itself other))
settled_below problem (Returns value known span) joined label above other is up settles = subst (λ s. IsBelow s other) (sym is) ((laws_of problem).transitive joined above other up settles.0)
settled_below problem Ends joined label above other is up settles = subst (λ s. IsBelow s other) (sym is) ((laws_of problem).transitive joined above other up settles.0)

-- the least store above what comes of a store from a node to the one behind it
pub onto_least : (problem : Problem) (at : ℕ) (s t : Stored) → IsCarried problem (pass_of (kinds_at problem at) Next) s t → IsLeastOf IsBelow (Onto (rules_of problem) (kinds_at problem) at s) t
onto_least problem at s t carried = (
  carries_as (rules_of problem) (laws_of problem) [] (λ number. s) (λ number. t) (pass_of (kinds_at problem at) Next) s t carried.0,
  λ other onto. carried.1 other (carries_as (rules_of problem) (laws_of problem) [] (λ number. other) (λ number. s) (pass_of (kinds_at problem at) Next) s other onto),
)

-- what a label in a list says
pub said_there : (problem : Problem) (labels : List Store) (k : ℕ) (label : Store) → k < length labels → label ≡ get_or labels k label → label_at (rules_of problem) (map stored labels) k ≡ stored label
said_there problem [] k label within is = absurd (omega (arith, within))
said_there problem (first ∷ labels) zero label within is = ap stored (sym is)
said_there problem (first ∷ labels) (suc k) label within is = said_there problem labels k label (omega (arith, within)) is

-- the least label of a node that is kept, and of one that isn't
pub label_asked : (problem : Problem) (labels : List Stored) (at : ℕ) (joined label : Stored) → is_kept (kept_in problem) at ≡ true
    → IsLeastOf IsBelow (EachBrings (rules_of problem) (kinds_at problem) (RunsTo (rules_of problem) (kinds_at problem) (kept_in problem) (edges_at problem) labels) (edges_at problem at)) joined → IsSettled (rules_of problem) (kinds_at problem at) joined label
    → IsLeastOf IsBelow (Asks problem at labels) label
label_asked problem labels at joined label holds least is =
    let R = rules_of problem in
    let kept = is_kept (kept_in problem) at in (
      of_first kept ((s : Stored) × EachBrings R (kinds_at problem) (RunsTo R (kinds_at problem) (kept_in problem) (edges_at problem) labels) (edges_at problem at) s × Settles R (Anything R) (λ number. label) (kinds_at problem at) s label) (Unit {0}) holds
          (joined, least.0, settled problem (kinds_at problem at) joined label is),
      λ other asks.
          let r = first_of_two kept ((s : Stored) × EachBrings R (kinds_at problem) (RunsTo R (kinds_at problem) (kept_in problem) (edges_at problem) labels) (edges_at problem at) s × Settles R (Anything R) (λ number. other) (kinds_at problem at) s other) (Unit {0}) holds asks in
          settled_below problem (kinds_at problem at) joined label r.0 other is (least.1 r.0 r.1) r.2,
    )

pub nothing_asked : (problem : Problem) (labels : List Stored) (at : ℕ) (label : Stored) → is_kept (kept_in problem) at ≡ false → ((other : Stored) → IsBelow label other) → IsLeastOf IsBelow (Asks problem at labels) label
nothing_asked problem labels at label fails bottom =
    let R = rules_of problem in (
      of_second (is_kept (kept_in problem) at) ((s : Stored) × EachBrings R (kinds_at problem) (RunsTo R (kinds_at problem) (kept_in problem) (edges_at problem) labels) (edges_at problem at) s × Settles R (Anything R) (λ number. label) (kinds_at problem at) s label) (Unit {0}) fails tt,
      λ other asks. bottom other,
    )

-- ---- the readers of each node are nodes

pub are_linked : (body : Code) (nodes : List Node) → length nodes ≡ behind_code body 2 → HaveEdges nodes (edges_of (method_parts body)) → AreLinked nodes
are_linked body nodes size have at node found =
    subst (AreUnder (length nodes)) (sym (have at node found).readers)
    (subst (λ n. AreUnder n (targets_from at (edges_of (method_parts body)))) (sym size) (targets_within (behind_code body 2) at (method_parts body) (method_below body)))

-- a label that is passed says nothing
pub passed_asked : (problem : Problem) (labels : List Stored) (at : ℕ) (label : Stored) → is_kept (kept_in problem) at ≡ false → label ≡ Unreachable → IsLeastOf IsBelow (Asks problem at labels) label
passed_asked problem labels at label passed is =
    let R = rules_of problem in
    let kept = is_kept (kept_in problem) at in
    subst (λ (l : Stored). IsLeastOf IsBelow (Asks problem at labels) l) (sym is) (
      of_second kept ((s : Stored) × EachBrings R (kinds_at problem) (RunsTo R (kinds_at problem) (kept_in problem) (edges_at problem) labels) (edges_at problem at) s × Settles R (Anything R) (λ number. Unreachable) (kinds_at problem at) s Unreachable) (Unit {0}) passed
          tt,
      λ other asks. tt,
    )
