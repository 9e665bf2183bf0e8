use Rattle.std.proofs.Common.{length, ap, sym, ◌∙◌}
use Rattle.std.proofs.lemmas.List.{length-map}
use Rattle.std.proofs.lemmas.Result.{IfOk-weaker}
use Rattle.ix_store.specs.StoredFacts.{stored}
use Rattle.ix_labels.proofs.Bounded.{visits_within}
use Rattle.ix_labels.proofs.HeadStores.{found_labels}
use Rattle.ix_labels.proofs.loops.loop_labels.Goals as goal

pub at_heads-requires : goal.at_heads-requires
at_heads-requires g c =
    ap length c.as_slice-2.ensures.value ∙ sym (length-map c.in_ok-labels.labels.stores.items stored) ∙ c.in_ok-labels.ensures.labels.solution.len ∙ sym c.in_ok-labels.ensures.labels.size ∙ sym (ap length c.as_slice.ensures.value)

pub returns-clause-labels : goal.returns-clause-labels
returns-clause-labels g c =
    IfOk-weaker c.at_heads.result _ _
    (λ found is. found_labels c.args.program.now c.args.within.now c.args.profile c.in_ok-labels.labels c.as_slice.result.now c.as_slice-2.result.now found.items c.as_slice.ensures.value c.as_slice-2.ensures.value
    c.in_ok-labels.ensures.labels c.requires.loops is) c.at_heads.ensures

pub returns-clause-at_most : goal.returns-clause-at_most
returns-clause-at_most g c =
    IfOk-weaker c.at_heads.result _ _
    (λ found _. visits_within c.args.program.now c.args.within.now c.args.profile c.in_ok-labels.labels.graph.nodes.items c.in_ok-labels.labels.stores.items c.args.steps.now c.label_nodes.new.steps c.in_ok-labels.ensures.labels c.in_ok-labels.ensures.at_most)
    c.at_heads.ensures
