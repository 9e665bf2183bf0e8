-- What is found at the nodes of a method's graph, with what overriding gives, is exactly what the rules derive of the method.
use Rattle.std.proofs.Common.{◌≡◌, ◌⊎◌, inl, inr, ◌+◌, ◌<◌, ℕ, zero, suc, List, [], ◌∷◌, ◌++◌, Some, length, map, slice_get, unwrap_or, arith, sym, ap, subst, ◌∙◌}
use Rattle.std.proofs.lemmas.List.{length-map}
use Rattle.std.proofs.lemmas.Option.{slice_get_within}
use Rattle.ix_core.specs.declared.error.Error.{Error}
use Rattle.ix_core.specs.declared.fact.Profile.{Profile}
use Rattle.ix_core.specs.declared.program.Method.{Method}
use Rattle.ix_core.specs.declared.program.Program.{Program}
use Rattle.ix_core.specs.Code.{Code, block_code}
use Rattle.ix_core.specs.Tables.{method_at}
use Rattle.ix_facts.specs.Stores.{Stored}
use Rattle.ix_flow.specs.Flow.{Rules, RulesLaws, IsDerived}
use Rattle.ix_graph.specs.declared.node.Node.{Node}
use Rattle.ix_graph.specs.Built.{kind_of, kinds_of}
use Rattle.ix_graph.specs.Graph.{Kind, Part, NodePart, EdgePart, behind_code, method_parts, AreNumbered, AreBelow}
use Rattle.ix_graph.specs.GraphSolutions.{label_at}
use Rattle.ix_graph.specs.Heads.{AreInOrder, head_of}
use Rattle.ix_graph.proofs.ErrorsAgree.{derived_exactly, fine_flows}
use Rattle.ix_graph.proofs.HeadTable.{stores_keep, stores_least}
use Rattle.ix_graph.proofs.Numbers.{method_numbered, method_below}
use Rattle.ix_graph.proofs.Solved.{labels_of, joined_of}
use Rattle.ix_labels.specs.Labels.{AreLabelsOf}
use Rattle.ix_sign.specs.MethodRules.{method_rules}
use Rattle.ix_sign.specs.RuleErrors.{OverridesBy, OpText, TestEscapes}
use Rattle.ix_sign.proofs.MethodLaws.{method_laws}
use Rattle.ix_sign.proofs.ErrorsWeaker.{errors_weaker}
use Rattle.ix_errors.specs.declared.ranked.Ranked.{Ranked}
use Rattle.ix_errors.specs.Exactly.{IsListed, AreExactly, AddsExactly}
use Rattle.ix_errors.proofs.Refused.{adds_both}
use Rattle.ix_store.specs.declared.store.Store.{Store}
use Rattle.ix_store.specs.StoredFacts.{stored}
use Rattle.ix_solve.proofs.LabelLists.{meaning_at}
use Rattle.ix_soundness.specs.Errors.{NoErrors}
use Rattle.ix_soundness.specs.Sound.{HasNoErrors}
use Rattle.ix_check.specs.NodeErrors.{LabelGives, TextGives, NodeGives, AtNode}
use Rattle.ix_check.specs.MethodErrors.{Derives, IsErrorOf}
use Rattle.ix_check.proofs.NodesByLabels.{AvoidAll, kind_there, node_there, store_there, avoid, refused, text_at, at_text, together}
use Rattle.ix_check.proofs.Listing.{listed_or_not}
use Rattle.ix_check.proofs.Texts.{somewhere_node, node_somewhere}

-- a node's number is below the number of nodes
below_at : (parts : List Part) (first k size : ℕ) → AreNumbered first parts → AreBelow size parts → k < length (kinds_of parts) → first + k < size
below_at [] first k size numbered below within = absurd (omega (arith, within))
below_at (NodePart at kind ∷ parts) first zero size numbered below within = omega (arith, numbered.0, below.0)
below_at (NodePart at kind ∷ parts) first (suc k) size numbered below within = let later = below_at parts (suc first) k size numbered.1 below.1 (omega (arith, within)) in omega (arith, later)
below_at (EdgePart node pass target ∷ parts) first k size numbered below within = below_at parts first k size numbered below.2 within

module _ (program : Program) (profile : Profile) (number : ℕ) (nodes : List Node) (stores : List Store) (are : AreLabelsOf program (method_at program number) profile nodes stores)
    (order : AreInOrder 0 (method_parts (block_code (method_at program number).body))) where
  abbrev method : Method
  method = method_at program number

  abbrev body : Code
  body = block_code method.body

  abbrev parts : List Part
  parts = method_parts body

  abbrev R : Rules
  R = method_rules program method profile

  abbrev L : RulesLaws R
  L = method_laws program method profile

  -- what they say
  abbrev said : List Stored
  said = map stored stores

  label_is : (at : ℕ) (label : Store) → slice_get stores at ≡ Some label → label_at R said at ≡ stored label
  label_is at label found = ap (λ o. unwrap_or o R.nowhere) (meaning_at stored stores at label found)

  -- a node of a kind, with its label
  node_at : (at : ℕ) (kind : Kind) → slice_get (kinds_of parts) at ≡ Some kind → (node : Node) × (label : Store) × (at < length nodes) × (slice_get nodes at ≡ Some node) × (slice_get stores at ≡ Some label) × (kind_of node.kind ≡ kind)
  node_at at kind there =
      let n = node_there nodes at kind (ap (λ ks. slice_get ks at) are.kinds ∙ there) in
      let within : at < length nodes = slice_get_within nodes at n.0 n.1 in
      let inside : 0 + at < behind_code body 2 = below_at parts 0 at (behind_code body 2) (method_numbered body) (method_below body) (slice_get_within (kinds_of parts) at kind there) in
      let s = store_there stores at (omega (arith, inside, are.solution.len, length-map stores stored)) in
      (n.0, s.0, within, n.1, s.1, n.2)

  -- ---- what labels give

  module _ (errors : List Ranked) (exact : AreExactly (λ error rank. OverridesBy program method number method.overrides error rank ⊎ AtNode (NodeGives program method number) nodes stores (length nodes) error rank) errors) where
    module _ (error : Error) (rank : ℕ) where
      abbrev it : Ranked
      it = record { error = error; rank = rank }

      agrees : (IsDerived R (Derives program method number) body it → AvoidAll program method number profile said error rank parts → ⊥)
          × ((AvoidAll program method number profile said error rank parts → ⊥) → IsDerived R (Derives program method number) body it)
      agrees =
          derived_exactly R L (Derives program method number) (λ point s t e below. errors_weaker s t below program method number e.error e.rank point) body
          (labels_of R L parts said (behind_code body 2) are.solution (head_of parts)) (joined_of R L parts said (behind_code body 2) are.solution (head_of parts)) (label_at R said) it
          (stores_keep R L body said order are.solution) (stores_least R L body said are.least)

      -- an error of a node's label is listed
      labelled : (at : ℕ) (kind : Kind) → slice_get (kinds_of parts) at ≡ Some kind → LabelGives program method number kind (label_at R said at) error rank → IsListed it errors
      labelled at kind there gives =
          let n = node_at at kind there in
          exact.all error rank (inr (record {
            at = at;
            before = n.2;
            node = n.0;
            found = n.3;
            label = n.1;
            labelled = n.4;
            here = inl (subst (λ k. LabelGives program method number k (stored n.1) error rank) (sym n.5) (subst (λ s. LabelGives program method number kind s error rank) (label_is at n.1 n.4) gives));
          }))

      derived_listed : IsDerived R (Derives program method number) body it → IsListed it errors
      derived_listed derived = elim (listed_or_not it errors) [
        | inl has ↦ has
        | inr absent ↦ absurd (agrees.0 derived (avoid program method number profile said error rank (kinds_of parts) parts 0 (method_numbered body) (λ k. let e : k ≡ 0 + k = omega arith in ap (slice_get (kinds_of parts)) e)
            (λ at kind there gives. absent (labelled at kind there gives))))
      ]

      text_listed : (at : ℕ) (kind : Kind) → slice_get (kinds_of parts) at ≡ Some kind → TextGives program method kind error rank → IsListed it errors
      text_listed at kind there gives =
          let n = node_at at kind there in
          exact.all error rank (inr (record {
            at = at;
            before = n.2;
            node = n.0;
            found = n.3;
            label = n.1;
            labelled = n.4;
            here = inr (subst (λ k. TextGives program method k error rank) (sym n.5) gives);
          }))

      all_listed : IsErrorOf program profile number error rank → IsListed it errors
      all_listed (inl derived) = derived_listed derived
      all_listed (inr (inl over)) = exact.all error rank (inl over)
      all_listed (inr (inr somewhere)) =
          let r = text_at program method number profile said error rank (kinds_of parts) (somewhere_node (λ done. OpText program method done error rank) (λ test. TestEscapes method test error rank) body somewhere) in
          text_listed r.0 r.1 r.2 r.3

      node_only : AtNode (NodeGives program method number) nodes stores (length nodes) error rank → IsErrorOf program profile number error rank
      node_only node =
          let there : slice_get (kinds_of parts) node.at ≡ Some (kind_of node.node.kind) = ap (λ ks. slice_get ks node.at) (sym are.kinds) ∙ kind_there nodes node.at node.node node.found in
          elim node.here [
            | inl gives ↦ inl (agrees.1 (λ avoided. refused program method number profile said error rank parts 0 node.at node.at (kind_of node.node.kind) (method_numbered body) (let e : node.at ≡ 0 + node.at = omega arith in e) there avoided
                (subst (λ s. LabelGives program method number (kind_of node.node.kind) s error rank) (sym (label_is node.at node.label node.labelled)) gives)))
            | inr gives ↦ inr (inr (node_somewhere (λ done. OpText program method done error rank) (λ test. TestEscapes method test error rank) body
                (at_text program method number profile said error rank (kinds_of parts) node.at (kind_of node.node.kind) there gives)))
          ]

    pub method_exact : AreExactly (IsErrorOf program profile number) errors
    method_exact = record {
      all = all_listed;
      only = λ found has. elim (exact.only found has) [
        | inl over ↦ inr (inl over)
        | inr node ↦ node_only found.error found.rank node
      ];
    }

    -- no listed error is no derived one
    module _ (none : errors ≡ []) where
      unlisted : (found : Ranked) → IsListed found errors → ⊥
      unlisted found has = subst (IsListed found) none has

      avoids : (error : Error) (rank : ℕ) → AvoidAll program method number profile said error rank parts
      avoids error rank =
          avoid program method number profile said error rank (kinds_of parts) parts 0 (method_numbered body) (λ k. let e : k ≡ 0 + k = omega arith in ap (slice_get (kinds_of parts)) e)
          (λ at kind there gives. unlisted (it error rank) (labelled error rank at kind there gives))

      pub has_none : HasNoErrors program profile number
      has_none = record {
        labels = labels_of R L parts said (behind_code body 2) are.solution (head_of parts);
        flow =
            fine_flows R L (NoErrors program method number) (λ point s t below fine error rank has. fine error rank (errors_weaker s t below program method number error rank point has)) body
            (labels_of R L parts said (behind_code body 2) are.solution (head_of parts)) (joined_of R L parts said (behind_code body 2) are.solution (head_of parts)) (label_at R said)
            (stores_keep R L body said order are.solution) (together program method number profile said parts avoids);
        text = λ error rank gives. unlisted (it error rank) (all_listed error rank (inr gives));
      }

nothing_more : (start more : List Ranked) → start ++ more ≡ start → more ≡ []
nothing_more [] more same = same
nothing_more (first ∷ start) more same = nothing_more start more (let e : start ++ more ≡ start = cc in e)

-- What was added for overriding and for all nodes.
pub found_all : (program : Program) (profile : Profile) (number : ℕ) (within : Method) (nodes : List Node) (stores : List Store) (start middle new : List Ranked) → method_at program number ≡ within → AreLabelsOf program within profile nodes stores
    → AreInOrder 0 (method_parts (block_code (method_at program number).body)) → AddsExactly (OverridesBy program within number within.overrides) start middle
    → AddsExactly (AtNode (NodeGives program within number) nodes stores (length nodes)) middle new → AddsExactly (IsErrorOf program profile number) start new × (new ≡ start → HasNoErrors program profile number)
found_all program profile number within nodes stores start middle new is are order over there =
    let both = adds_both (OverridesBy program within number within.overrides) (AtNode (NodeGives program within number) nodes stores (length nodes)) start middle new over there in
    let here : AreLabelsOf program (method_at program number) profile nodes stores = subst (λ (m : Method). AreLabelsOf program m profile nodes stores) (sym is) are in
    let given = subst (λ (m : Method). AreExactly (λ error rank. OverridesBy program m number m.overrides error rank ⊎ AtNode (NodeGives program m number) nodes stores (length nodes) error rank) both.0) (sym is) both.2 in (
      (both.0, both.1, method_exact program profile number nodes stores here order both.0 given),
      λ same. has_none program profile number nodes stores here order both.0 given (nothing_more start both.0 (sym both.1 ∙ same)),
    )
