-- The errors at the nodes of a method's graph, by its least labels, are exactly those of the method.
use Rattle.std.proofs.Common.{◌≡◌, inl, inr, ◌+◌, ◌<◌, ℕ, zero, suc, List, [], ◌∷◌, Some, length, slice_get, arith, refl, sym, ap, subst, ◌∙◌}
use Rattle.ix_core.specs.declared.error.Error.{Error}
use Rattle.ix_core.specs.declared.fact.Profile.{Profile}
use Rattle.ix_core.specs.declared.program.Method.{Method}
use Rattle.ix_core.specs.declared.program.Program.{Program}
use Rattle.ix_facts.specs.Stores.{Stored}
use Rattle.ix_flow.specs.Flow.{Rules, Avoids}
use Rattle.ix_graph.specs.declared.node.Node.{Node}
use Rattle.ix_graph.specs.Built.{kind_of, kinds_of}
use Rattle.ix_graph.specs.Graph.{Kind, Starts, Does, Compares, Tells, Joins, Heads, Returns, Ends, Part, NodePart, EdgePart, AreNumbered}
use Rattle.ix_graph.specs.GraphSolutions.{AllPoints, label_at}
use Rattle.ix_graph.specs.Linked.{kinds_in}
use Rattle.ix_sign.specs.MethodRules.{method_rules}
use Rattle.ix_sign.specs.RuleErrors.{OpText, TestEscapes}
use Rattle.ix_errors.specs.declared.ranked.Ranked.{Ranked}
use Rattle.ix_store.specs.declared.store.Store.{Store}
use Rattle.ix_soundness.specs.Errors.{NoErrors}
use Rattle.ix_check.specs.NodeErrors.{LabelGives, TextGives}
use Rattle.ix_check.specs.MethodErrors.{Derives}
use Rattle.ix_check.proofs.Texts.{Here, InKinds}

-- ---- nodes by their numbers

pub kind_there : (nodes : List Node) (at : ℕ) (node : Node) → slice_get nodes at ≡ Some node → slice_get (kinds_in nodes) at ≡ Some (kind_of node.kind)
kind_there [] at node found = cc
kind_there (first ∷ nodes) zero node found = let e : first ≡ node = cc in ap (λ (n : Node). Some (kind_of n.kind)) e
kind_there (first ∷ nodes) (suc at) node found = kind_there nodes at node found

pub node_there : (nodes : List Node) (at : ℕ) (kind : Kind) → slice_get (kinds_in nodes) at ≡ Some kind → (node : Node) × (slice_get nodes at ≡ Some node) × (kind_of node.kind ≡ kind)
node_there [] at kind found = cc
node_there (first ∷ nodes) zero kind found = (first, refl, cc)
node_there (first ∷ nodes) (suc at) kind found = node_there nodes at kind found

pub store_there : (stores : List Store) (at : ℕ) → at < length stores → (store : Store) × (slice_get stores at ≡ Some store)
store_there [] at within = absurd (omega (arith, within))
store_there (first ∷ stores) zero within = (first, refl)
store_there (first ∷ stores) (suc at) within = store_there stores at (omega (arith, within))

module _ (program : Program) (method : Method) (number : ℕ) (profile : Profile) (stores : List Stored) (error : Error) (rank : ℕ) where
  abbrev pub R : Rules
  R = method_rules program method profile

  abbrev pub found : Ranked
  found = record { error = error; rank = rank }

  -- ---- points and nodes

  abbrev pub AvoidAll : List Part → Type 0
  AvoidAll = AllPoints (λ at point. Avoids R (Derives program method number) found point (label_at R stores at))

  here_is : (all rest : List Kind) (kind : Kind) (first at : ℕ) → at ≡ first → ((k : ℕ) → slice_get (kind ∷ rest) k ≡ slice_get all (first + k)) → slice_get all at ≡ Some kind
  here_is all rest kind first at is same = let e : first + 0 ≡ at = omega (arith, is) in ap (slice_get all) (sym e) ∙ sym (same 0)

  later_is : (all rest : List Kind) (kind : Kind) (first : ℕ) → ((k : ℕ) → slice_get (kind ∷ rest) k ≡ slice_get all (first + k)) → (k : ℕ) → slice_get rest k ≡ slice_get all (suc first + k)
  later_is all rest kind first same k = same (suc k) ∙ (let e : first + suc k ≡ suc first + k = omega arith in ap (slice_get all) e)

  pub avoid : (all : List Kind) (parts : List Part) (first : ℕ) → AreNumbered first parts → ((k : ℕ) → slice_get (kinds_of parts) k ≡ slice_get all (first + k))
      → ((at : ℕ) (kind : Kind) → slice_get all at ≡ Some kind → LabelGives program method number kind (label_at R stores at) error rank → ⊥) → AvoidAll parts
  avoid all [] first numbered same none = tt
  avoid all (NodePart at Starts ∷ parts) first numbered same none = avoid all parts (suc first) numbered.1 (later_is all (kinds_of parts) Starts first same) none
  avoid all (NodePart at (Does op) ∷ parts) first numbered same none =
      (none at (Does op) (here_is all (kinds_of parts) (Does op) first at numbered.0 same), avoid all parts (suc first) numbered.1 (later_is all (kinds_of parts) (Does op) first same) none)
  avoid all (NodePart at (Compares test) ∷ parts) first numbered same none = avoid all parts (suc first) numbered.1 (later_is all (kinds_of parts) (Compares test) first same) none
  avoid all (NodePart at (Tells code slot) ∷ parts) first numbered same none = avoid all parts (suc first) numbered.1 (later_is all (kinds_of parts) (Tells code slot) first same) none
  avoid all (NodePart at Joins ∷ parts) first numbered same none = avoid all parts (suc first) numbered.1 (later_is all (kinds_of parts) Joins first same) none
  avoid all (NodePart at (Heads loop scope) ∷ parts) first numbered same none = avoid all parts (suc first) numbered.1 (later_is all (kinds_of parts) (Heads loop scope) first same) none
  avoid all (NodePart at (Returns value known span) ∷ parts) first numbered same none =
      (none at (Returns value known span) (here_is all (kinds_of parts) (Returns value known span) first at numbered.0 same), avoid all parts (suc first) numbered.1 (later_is all (kinds_of parts) (Returns value known span) first same) none)
  avoid all (NodePart at Ends ∷ parts) first numbered same none =
      (none at Ends (here_is all (kinds_of parts) Ends first at numbered.0 same), avoid all parts (suc first) numbered.1 (later_is all (kinds_of parts) Ends first same) none)
  avoid all (EdgePart node pass target ∷ parts) first numbered same none = avoid all parts first numbered same none

  -- what is avoided at all points no label gives
  pub refused : (parts : List Part) (first k at : ℕ) (kind : Kind) → AreNumbered first parts → at ≡ first + k → slice_get (kinds_of parts) k ≡ Some kind → AvoidAll parts
      → LabelGives program method number kind (label_at R stores at) error rank → ⊥
  refused [] first k at kind numbered is there avoided gives = cc
  refused (NodePart n Starts ∷ parts) first zero at kind numbered is there avoided gives = subst (λ j. LabelGives program method number j (label_at R stores at) error rank) (let e : kind ≡ Starts = cc in e) gives
  refused (NodePart n Starts ∷ parts) first (suc k) at kind numbered is there avoided gives = refused parts (suc first) k at kind numbered.1 (omega (arith, is)) there avoided gives
  refused (NodePart n (Does op) ∷ parts) first zero at kind numbered is there avoided gives =
      let e : at ≡ n = omega (arith, is, numbered.0) in
      avoided.0 (subst (λ m. LabelGives program method number (Does op) (label_at R stores m) error rank) e (subst (λ j. LabelGives program method number j (label_at R stores at) error rank) (let i : kind ≡ Does op = cc in i) gives))
  refused (NodePart n (Does op) ∷ parts) first (suc k) at kind numbered is there avoided gives = refused parts (suc first) k at kind numbered.1 (omega (arith, is)) there avoided.1 gives
  refused (NodePart n (Compares test) ∷ parts) first zero at kind numbered is there avoided gives = subst (λ j. LabelGives program method number j (label_at R stores at) error rank) (let e : kind ≡ Compares test = cc in e) gives
  refused (NodePart n (Compares test) ∷ parts) first (suc k) at kind numbered is there avoided gives = refused parts (suc first) k at kind numbered.1 (omega (arith, is)) there avoided gives
  refused (NodePart n (Tells code slot) ∷ parts) first zero at kind numbered is there avoided gives = subst (λ j. LabelGives program method number j (label_at R stores at) error rank) (let e : kind ≡ Tells code slot = cc in e) gives
  refused (NodePart n (Tells code slot) ∷ parts) first (suc k) at kind numbered is there avoided gives = refused parts (suc first) k at kind numbered.1 (omega (arith, is)) there avoided gives
  refused (NodePart n Joins ∷ parts) first zero at kind numbered is there avoided gives = subst (λ j. LabelGives program method number j (label_at R stores at) error rank) (let e : kind ≡ Joins = cc in e) gives
  refused (NodePart n Joins ∷ parts) first (suc k) at kind numbered is there avoided gives = refused parts (suc first) k at kind numbered.1 (omega (arith, is)) there avoided gives
  refused (NodePart n (Heads loop scope) ∷ parts) first zero at kind numbered is there avoided gives = subst (λ j. LabelGives program method number j (label_at R stores at) error rank) (let e : kind ≡ Heads loop scope = cc in e) gives
  refused (NodePart n (Heads loop scope) ∷ parts) first (suc k) at kind numbered is there avoided gives = refused parts (suc first) k at kind numbered.1 (omega (arith, is)) there avoided gives
  refused (NodePart n (Returns value known span) ∷ parts) first zero at kind numbered is there avoided gives =
      let e : at ≡ n = omega (arith, is, numbered.0) in
      avoided.0 (subst (λ m. LabelGives program method number (Returns value known span) (label_at R stores m) error rank) e (subst (λ j. LabelGives program method number j (label_at R stores at) error rank) (let i : kind ≡ Returns value known span = cc in i) gives))
  refused (NodePart n (Returns value known span) ∷ parts) first (suc k) at kind numbered is there avoided gives = refused parts (suc first) k at kind numbered.1 (omega (arith, is)) there avoided.1 gives
  refused (NodePart n Ends ∷ parts) first zero at kind numbered is there avoided gives =
      let e : at ≡ n = omega (arith, is, numbered.0) in
      avoided.0 (subst (λ m. LabelGives program method number Ends (label_at R stores m) error rank) e (subst (λ j. LabelGives program method number j (label_at R stores at) error rank) (let i : kind ≡ Ends = cc in i) gives))
  refused (NodePart n Ends ∷ parts) first (suc k) at kind numbered is there avoided gives = refused parts (suc first) k at kind numbered.1 (omega (arith, is)) there avoided.1 gives
  refused (EdgePart node pass target ∷ parts) first k at kind numbered is there avoided gives = refused parts first k at kind numbered is there avoided gives

  -- ---- the text

  here_text : (kind : Kind) → Here (λ done. OpText program method done error rank) (λ test. TestEscapes method test error rank) kind → TextGives program method kind error rank
  here_text Starts here = here
  here_text (Does op) here = here
  here_text (Compares test) here = here
  here_text (Tells code slot) here = here
  here_text Joins here = here
  here_text (Heads loop scope) here = here
  here_text (Returns value known span) here = here
  here_text Ends here = here

  text_here : (kind : Kind) → TextGives program method kind error rank → Here (λ done. OpText program method done error rank) (λ test. TestEscapes method test error rank) kind
  text_here Starts here = here
  text_here (Does op) here = here
  text_here (Compares test) here = here
  text_here (Tells code slot) here = here
  text_here Joins here = here
  text_here (Heads loop scope) here = here
  text_here (Returns value known span) here = here
  text_here Ends here = here

  abbrev pub InText : List Kind → Type 0
  InText = InKinds (λ done. OpText program method done error rank) (λ test. TestEscapes method test error rank)

  pub text_at : (kinds : List Kind) → InText kinds → (at : ℕ) × (kind : Kind) × (slice_get kinds at ≡ Some kind) × TextGives program method kind error rank
  text_at [] has = absurd has
  text_at (kind ∷ kinds) (inl here) = (0, kind, refl, here_text kind here)
  text_at (kind ∷ kinds) (inr has) = let r = text_at kinds has in (suc r.0, r.1, r.2, r.3)

  pub at_text : (kinds : List Kind) (at : ℕ) (kind : Kind) → slice_get kinds at ≡ Some kind → TextGives program method kind error rank → InText kinds
  at_text [] at kind there gives = cc
  at_text (first ∷ kinds) zero kind there gives = inl (text_here first (subst (λ k. TextGives program method k error rank) (let e : kind ≡ first = cc in e) gives))
  at_text (first ∷ kinds) (suc at) kind there gives = inr (at_text kinds at kind there gives)

-- what avoids each error has none
pub together : (program : Program) (method : Method) (number : ℕ) (profile : Profile) (stores : List Stored) (parts : List Part) → ((error : Error) (rank : ℕ) → AvoidAll program method number profile stores error rank parts)
    → AllPoints (λ at point. NoErrors program method number point (label_at (method_rules program method profile) stores at)) parts
together program method number profile stores [] avoided = tt
together program method number profile stores (NodePart at Starts ∷ parts) avoided = together program method number profile stores parts avoided
together program method number profile stores (NodePart at (Does op) ∷ parts) avoided = (λ error rank. (avoided error rank).0, together program method number profile stores parts (λ error rank. (avoided error rank).1))
together program method number profile stores (NodePart at (Compares test) ∷ parts) avoided = together program method number profile stores parts avoided
together program method number profile stores (NodePart at (Tells code slot) ∷ parts) avoided = together program method number profile stores parts avoided
together program method number profile stores (NodePart at Joins ∷ parts) avoided = together program method number profile stores parts avoided
together program method number profile stores (NodePart at (Heads loop scope) ∷ parts) avoided = together program method number profile stores parts avoided
together program method number profile stores (NodePart at (Returns value known span) ∷ parts) avoided = (λ error rank. (avoided error rank).0, together program method number profile stores parts (λ error rank. (avoided error rank).1))
together program method number profile stores (NodePart at Ends ∷ parts) avoided = (λ error rank. (avoided error rank).0, together program method number profile stores parts (λ error rank. (avoided error rank).1))
together program method number profile stores (EdgePart node pass target ∷ parts) avoided = together program method number profile stores parts avoided
