use Rattle.std.proofs.Common.{◌≤◌, ◌+◌, Vec, refl, sym, subst}
use Rattle.std.specs.declared.alloc.Global.{Global}
use Rattle.ix_core.specs.Code.{block_code}
use Rattle.ix_graph.specs.declared.node.Graph.{Graph}
use Rattle.ix_store.specs.declared.store.Store.{Store}
use Rattle.ix_labels.specs.Labels.{AreLabelsOf}
use Rattle.ix_labels.specs.Visits.{visits_by}
use Rattle.ix_labels.proofs.Filling.{are_labels, all_visits, kept_filled}
use Rattle.ix_labels.proofs.labels.label_nodes.Goals as goal

pub returns-clause-labels : goal.returns-clause-labels
returns-clause-labels c e =
    let labels = e.in_ok-labels.labels in
    let parts = e.into_parts-graph.ensures in
    subst (λ (g : Graph). AreLabelsOf e.args.program.now e.args.within.now e.args.profile g.nodes.items e.into_parts-graph.result.1.items) (sym parts.graph)
    (subst (λ (stores : Vec Store Global). AreLabelsOf e.args.program.now e.args.within.now e.args.profile labels.problem.graph.nodes.items stores.items) (sym parts.stores)
    (are_labels labels labels.stores.items (kept_filled labels (e.in_ok-labels.ensures.all refl)) e.args.program.now e.args.within.now e.args.profile e.in_ok-labels.ensures.labels))

pub returns-clause-at_most : goal.returns-clause-at_most
returns-clause-at_most c e =
    let labels = e.in_ok-labels.labels in
    subst (λ (stores : Vec Store Global). e.solved.new.steps ≤ e.args.steps.now + visits_by (block_code e.args.within.now.body) stores.items) (sym e.into_parts-graph.ensures.stores)
    (all_visits e.args.program.now e.args.within.now e.args.profile labels labels.stores.items e.args.steps.now e.solved.new.steps e.in_ok-labels.ensures.labels (kept_filled labels (e.in_ok-labels.ensures.all refl)) e.in_ok-labels.ensures.at_most)
