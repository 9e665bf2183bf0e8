use Rattle.std.proofs.Common.{◌≤◌, ◌+◌, ◌<◌, length, sym, subst}
use Rattle.ix_text.proofs.Chained.{both_ok}
use Rattle.ix_core.specs.declared.program.Method.{Method}
use Rattle.ix_core.specs.Code.{block_code}
use Rattle.ix_graph.specs.Graph.{behind_code}
use Rattle.ix_labels.specs.Visits.{VisitsWithin}
use Rattle.ix_labels.specs.Filled.{nodes_of}
use Rattle.ix_labels.proofs.Bounded.{visits_within}
use Rattle.ix_labels.proofs.Filling.{are_labels, all_visits}
use Rattle.ix_check.proofs.Added.{method_is}
use Rattle.ix_check.proofs.WholeMethods.{found_all}
use Rattle.ix_check.proofs.method.push_method_errors.Goals as goal

pub returns-clause-errors : goal.returns-clause-errors
returns-clause-errors c e =
    let within : e.args.number < length e.as_slice.result.now = subst (λ ms. e.args.number < length ms) (sym e.as_slice.ensures) e.requires.number in
    let is = method_is e.args.program.now e.args.number e.as_slice.result.now e.index-as_slice-number.result e.as_slice.ensures within e.index-as_slice-number.is in
    both_ok e.push_of_overriding.result e.push_of_nodes.result e.and.result _ _ _ e.and.ensures e.push_of_overriding.ensures e.push_of_nodes.ensures (λ over added.
    (found_all e.args.program.now e.args.profile e.args.number e.index-as_slice-number.result (nodes_of e.in_ok-labels.labels) added.all e.args.out.now.items e.push_of_overriding.new.out.items e.push_of_nodes.new.out.items is
    (are_labels e.in_ok-labels.labels added.all added.filled e.args.program.now e.index-as_slice-number.result e.args.profile e.in_ok-labels.ensures.labels) e.requires.loops over added.added).0)

pub returns-clause-none : goal.returns-clause-none
returns-clause-none c e =
    let within : e.args.number < length e.as_slice.result.now = subst (λ ms. e.args.number < length ms) (sym e.as_slice.ensures) e.requires.number in
    let is = method_is e.args.program.now e.args.number e.as_slice.result.now e.index-as_slice-number.result e.as_slice.ensures within e.index-as_slice-number.is in
    both_ok e.push_of_overriding.result e.push_of_nodes.result e.and.result _ _ _ e.and.ensures e.push_of_overriding.ensures e.push_of_nodes.ensures (λ over added.
    (found_all e.args.program.now e.args.profile e.args.number e.index-as_slice-number.result (nodes_of e.in_ok-labels.labels) added.all e.args.out.now.items e.push_of_overriding.new.out.items e.push_of_nodes.new.out.items is
    (are_labels e.in_ok-labels.labels added.all added.filled e.args.program.now e.index-as_slice-number.result e.args.profile e.in_ok-labels.ensures.labels) e.requires.loops over added.added).1)

pub returns-clause-at_least : goal.returns-clause-at_least
returns-clause-at_least c e =
    let within : e.args.number < length e.as_slice.result.now = subst (λ ms. e.args.number < length ms) (sym e.as_slice.ensures) e.requires.number in
    let is = method_is e.args.program.now e.args.number e.as_slice.result.now e.index-as_slice-number.result e.as_slice.ensures within e.index-as_slice-number.is in
    both_ok e.push_of_overriding.result e.push_of_nodes.result e.and.result _ _ _ e.and.ensures e.push_of_overriding.ensures e.push_of_nodes.ensures (λ _ _. subst (λ (m : Method). e.args.steps.now + behind_code (block_code m.body) 2 ≤ e.label_runs.new.steps) (sym is) e.in_ok-labels.ensures.at_least)

pub returns-clause-at_most : goal.returns-clause-at_most
returns-clause-at_most c e =
    let within : e.args.number < length e.as_slice.result.now = subst (λ ms. e.args.number < length ms) (sym e.as_slice.ensures) e.requires.number in
    let is = method_is e.args.program.now e.args.number e.as_slice.result.now e.index-as_slice-number.result e.as_slice.ensures within e.index-as_slice-number.is in
    let labels = e.in_ok-labels.labels in
    both_ok e.push_of_overriding.result e.push_of_nodes.result e.and.result _ _ _ e.and.ensures e.push_of_overriding.ensures e.push_of_nodes.ensures
    (λ _ added. subst (λ (m : Method). VisitsWithin e.args.program.now m e.args.profile e.args.steps.now e.label_runs.new.steps) (sym is)
    (visits_within e.args.program.now e.index-as_slice-number.result e.args.profile (nodes_of labels) added.all e.args.steps.now e.label_runs.new.steps
    (are_labels labels added.all added.filled e.args.program.now e.index-as_slice-number.result e.args.profile e.in_ok-labels.ensures.labels)
    (all_visits e.args.program.now e.index-as_slice-number.result e.args.profile labels added.all e.args.steps.now e.label_runs.new.steps e.in_ok-labels.ensures.labels added.filled e.in_ok-labels.ensures.at_most)))
