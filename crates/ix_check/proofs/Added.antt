-- Errors that are added node by node.
use Rattle.std.proofs.Common.{◌≡◌, ◌⊎◌, inl, inr, ◌↔◌, ◌+◌, ◌<◌, ℕ, zero, suc, List, [], ◌∷◌, ◌++◌, Some, length, slice_get, get_or, unwrap_or, arith, sym, ap, subst, ◌∙◌, append-nil}
use Rattle.std.specs.Prelude.{Result, OnOk}
use Rattle.std.specs.Result.{result_and}
use Rattle.std.proofs.lemmas.Bool.{cases_lt}
use Rattle.ix_text.proofs.Chained.{both_ok}
use Rattle.ix_core.specs.declared.error.Error.{Error}
use Rattle.ix_core.specs.declared.program.Method.{Method}
use Rattle.ix_core.specs.declared.program.Program.{Program}
use Rattle.ix_core.specs.Tables.{method_at, no_method}
use Rattle.ix_facts.specs.Stores.{Stored}
use Rattle.ix_graph.specs.declared.node.Node.{Node}
use Rattle.ix_graph.specs.Built.{kind_of}
use Rattle.ix_graph.specs.Graph.{Kind}
use Rattle.ix_errors.specs.declared.ranked.Ranked.{Ranked}
use Rattle.ix_errors.specs.Exactly.{AddsExactly}
use Rattle.ix_errors.proofs.Refused.{exactly_none, exactly_same, adds_both}
use Rattle.ix_labels.specs.Runs.{node_in_turn}
use Rattle.ix_store.specs.declared.store.Store.{Store}
use Rattle.ix_store.specs.StoredFacts.{stored}
use Rattle.ix_labels.proofs.Filling.{get_front, get_last, ordered, ordered_there}
use Rattle.ix_labels.proofs.Turns.{node_turn, node_within, turn_back, turn_of, turn_within}
use Rattle.ix_check.specs.NodeErrors.{AtNode}

-- three calls behind one another
pub three_ok : {T U V E : Type 0} (one : Result T E) (two between : Result U E) (three whole : Result V E) (A B C D : Type 0) → between ≡ result_and one two → whole ≡ result_and between three
    → OnOk one A → OnOk two B → OnOk three C → (A → B → C → D) → OnOk whole D
three_ok one two between three whole A B C D is last first second third so =
    both_ok between three whole (A × B) C D last (both_ok one two between A B (A × B) is first second (λ a b. (a, b))) third (λ both c. so both.0 both.1 c)

pub adds_none : (Derived : Error → ℕ → Type 0) (old : List Ranked) → ((error : Error) (rank : ℕ) → Derived error rank → ⊥) → AddsExactly Derived old old
adds_none Derived old none = ([], sym (append-nil old), exactly_none Derived none)

pub adds_same : (First Second : Error → ℕ → Type 0) (old new : List Ranked) → ((error : Error) (rank : ℕ) → First error rank ↔ Second error rank) → AddsExactly First old new → AddsExactly Second old new
adds_same First Second old new same (more, added, exact) = (more, added, exactly_same First Second more same exact)

there : {A : Type 0} (xs : List A) (k : ℕ) (x : A) → k < length xs → x ≡ get_or xs k x → slice_get xs k ≡ Some x
there [] k x within is = absurd (omega (arith, within))
there (y ∷ xs) zero x within is = ap Some (sym is)
there (y ∷ xs) (suc k) x within is = there xs k x (omega (arith, within)) is

-- One of the first nodes in turn, so many of them, has the error with its label.
pub record AtTurn (Gives : Kind → Stored → Error → ℕ → Type 0) (nodes : List Node) (made : List Store) (count : ℕ) (error : Error) (rank : ℕ) : Type 0 where
  pub turn : ℕ
  pub before : turn < count
  pub node : Node
  pub found : slice_get nodes (node_in_turn (length nodes) turn) ≡ Some node
  pub label : Store
  pub labelled : slice_get made turn ≡ Some label
  pub here : Gives (kind_of node.kind) (stored label) error rank

module _ (Gives : Kind → Stored → Error → ℕ → Type 0) (nodes : List Node) where
  pub none_yet : (made : List Store) (error : Error) (rank : ℕ) → AtTurn Gives nodes made 0 error rank → ⊥
  none_yet made error rank node = absurd (omega (arith, node.before))

  -- one label more
  module _ (made : List Store) (label : Store) (k : ℕ) (many : length made ≡ k) where
    at_last : slice_get (made ++ label ∷ []) k ≡ Some label
    at_last = ap (slice_get (made ++ label ∷ [])) (sym many) ∙ get_last made label

    one_more : (node : Node) → slice_get nodes (node_in_turn (length nodes) k) ≡ Some node → (error : Error) (rank : ℕ)
        → (AtTurn Gives nodes made k error rank ⊎ Gives (kind_of node.kind) (stored label) error rank) ↔ AtTurn Gives nodes (made ++ label ∷ []) (k + 1) error rank
    one_more node found error rank = (
      λ either. elim either [
        | inl before ↦ record {
          turn = before.turn;
          before = omega (arith, before.before);
          node = before.node;
          found = before.found;
          label = before.label;
          labelled = let low = before.before in get_front made label before.turn (omega (arith, low, many)) ∙ before.labelled;
          here = before.here;
        }
        | inr here ↦ record {
          turn = k;
          before = omega arith;
          node = node;
          found = found;
          label = label;
          labelled = at_last;
          here = here;
        }
      ],
      λ any. elim (cases_lt any.turn k) [
        | inl low ↦ inl (record {
          turn = any.turn;
          before = low;
          node = any.node;
          found = any.found;
          label = any.label;
          labelled = sym (get_front made label any.turn (omega (arith, low, many))) ∙ any.labelled;
          here = any.here;
        })
        | inr past ↦ inr (
            let same : any.turn ≡ k = omega (arith, past, any.before) in
            let one : Some any.node ≡ Some node = sym any.found ∙ (ap (λ n. slice_get nodes (node_in_turn (length nodes) n)) same ∙ found) in
            let two : Some any.label ≡ Some label = sym any.labelled ∙ (ap (slice_get (made ++ label ∷ [])) same ∙ at_last) in
            let one_is : any.node ≡ node = cc in
            let two_is : any.label ≡ label = cc in
            subst (λ (n : Node). Gives (kind_of n.kind) (stored label) error rank) one_is (subst (λ s. Gives (kind_of any.node.kind) (stored s) error rank) two_is any.here)
            )
      ],
    )

    pub next_made : (node : Node) (old middle new : List Ranked) (at : ℕ) → at ≡ node_in_turn (length nodes) k → at < length nodes → node ≡ get_or nodes at node → AddsExactly (AtTurn Gives nodes made k) old middle
        → AddsExactly (Gives (kind_of node.kind) (stored label)) middle new → AddsExactly (AtTurn Gives nodes (made ++ label ∷ []) (k + 1)) old new
    next_made node old middle new at at_is within is before last =
        adds_same _ _ old new (one_more node (ap (slice_get nodes) (sym at_is) ∙ there nodes at node within is)) (adds_both (AtTurn Gives nodes made k) (Gives (kind_of node.kind) (stored label)) old middle new before last)

  -- all nodes in turn are all nodes
  all_turns : (made : List Store) → length made ≡ length nodes → (error : Error) (rank : ℕ) → AtTurn Gives nodes made (length nodes) error rank ↔ AtNode Gives nodes (ordered (length nodes) made) (length nodes) error rank
  all_turns made many error rank = (
    λ here.
        let at = node_in_turn (length nodes) here.turn in
        let within = node_within (length nodes) here.turn here.before in
        record {
          at = at;
          before = within;
          node = here.node;
          found = here.found;
          label = here.label;
          labelled = ordered_there (length nodes) made at many within ∙ ap (slice_get made) (node_turn (length nodes) here.turn here.before) ∙ here.labelled;
          here = here.here;
        },
    λ here. record {
      turn = turn_of (length nodes) here.at;
      before = turn_within (length nodes) here.at here.before;
      node = here.node;
      found = ap (slice_get nodes) (turn_back (length nodes) here.at here.before) ∙ here.found;
      label = here.label;
      labelled = sym (ordered_there (length nodes) made here.at many here.before) ∙ here.labelled;
      here = here.here;
    },
  )

  pub all_made : (made : List Store) (old new : List Ranked) → length made ≡ length nodes → AddsExactly (AtTurn Gives nodes made (length nodes)) old new → AddsExactly (AtNode Gives nodes (ordered (length nodes) made) (length nodes)) old new
  all_made made old new many = adds_same _ _ old new (all_turns made many)

-- the method of a number that is in range
pub method_is : (program : Program) (number : ℕ) (methods : List Method) (method : Method) → methods ≡ program.methods → number < length methods → method ≡ get_or methods number method → method_at program number ≡ method
method_is program number methods method are within is = ap (λ o. unwrap_or o no_method) (ap (λ ms. slice_get ms number) (sym are) ∙ there methods number method within is)
