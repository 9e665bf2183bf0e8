use Rattle.std.proofs.Common.{◌≡◌, ◌⊎◌, inl, inr, ◌<◌, true, false, [], ◌-◌, All, Some, length, slice_get, slice_index_or, get_or, arith, refl, sym, ap, subst, ◌∙◌}
use Rattle.std.proofs.lemmas.Option.{slice_get_read}
use Rattle.ix_graph.specs.declared.node.Node.{Node}
use Rattle.ix_labels.specs.Runs.{is_kept}
use Rattle.ix_labels.proofs.KeptNodes.{kept_index, none_in, ends_here, ends_further, reader_within}
use Rattle.ix_labels.proofs.runs.end_of.Goals as goal

pub returns-then-kept-at-clause-end : goal.returns-then-kept-at-clause-end
returns-then-kept-at-clause-end c = λ many end few ends.
    let nodes = c.args.nodes.now in
    let kept = c.args.kept.now in
    let at = c.loop-many.at in
    let node = c.index-nodes-at.result in
    let low = c.loop-many.invariant.0 in
    let there : slice_get nodes at ≡ Some node = slice_get_read nodes (length nodes) at node refl (omega (arith, low, c.requires.all)) c.index-nodes-at.is in
    let stops : (is_kept kept at ≡ true) ⊎ (node.readers.items ≡ []) = elim c.then-kept-at.either [
      | inl holds ↦ inl (kept_index kept at low ∙ holds)
      | inr none ↦ inr (ap (λ (n : Node). n.readers.items) c.index-nodes-at.is ∙ sym c.as_slice-readers.ensures.value ∙ none_in c.as_slice-readers.result.now none.1)
    ] in
    let r = c.loop-many.invariant.1 many end ends in
    ends_here nodes kept (many - c.loop-many._many) at end node there stops r.1

pub loop-many-preserved : goal.loop-many-preserved
loop-many-preserved c =
    let nodes = c.args.nodes.now in
    let kept = c.args.kept.now in
    let at = c.loop-many.at in
    let node = c.index-nodes-at.result in
    let low = c.loop-many.invariant.0 in
    let readers = c.as_slice-readers.result.now in
    let reader = slice_index_or readers 0 0 in
    let fails : is_kept kept at ≡ false = kept_index kept at low ∙ c.if-kept-at.false in
    let there : slice_get nodes at ≡ Some node = slice_get_read nodes (length nodes) at node refl (omega (arith, low, c.requires.all)) c.index-nodes-at.is in
    let readers_are : readers ≡ node.readers.items = c.as_slice-readers.ensures.value ∙ sym (ap (λ (n : Node). n.readers.items) c.index-nodes-at.is) in
    let some = c.if-readers-eq0.false in
    let within : reader < length nodes = reader_within (length nodes) readers (subst (λ rs. All (λ r. r < length nodes) rs) (sym readers_are) (c.requires.linked at node there)) some in
    let is : reader ≡ get_or node.readers.items 0 0 = ap (λ rs. get_or rs 0 0) readers_are in
    (omega (arith, within, c.requires.all), ends_further nodes kept c.args.from c.loop-many._many at reader node there fails is c.loop-many.invariant.1)
