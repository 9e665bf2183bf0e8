use Rattle.std.proofs.Common.{◌≡◌, true, false, vec_len, length, map, arith, sym, ap, subst, ◌∙◌}
use Rattle.std.proofs.lemmas.Bool.{false≢true}
use Rattle.std.proofs.lemmas.Result.{IfOk-weaker}
use Rattle.ix_facts.specs.Stores.{IsBelow}
use Rattle.ix_store.specs.StoredFacts.{stored}
use Rattle.ix_solve.specs.Solutions.{IsLeastOf}
use Rattle.ix_labels.specs.Problem.{rules_of, kinds_at, edges_at, kept_in}
use Rattle.ix_labels.specs.Runs.{goes_on, node_before}
use Rattle.ix_labels.specs.RunAsks.{Onto, EachBrings, FirstTo}
use Rattle.ix_labels.specs.Filled.{nodes_of, goes_on_at}
use Rattle.ix_labels.proofs.Visited.{edges_are, onto_least}
use Rattle.ix_labels.proofs.kept.RunLabels.made.Goals as goal

pub returns-then-goes_on : goal.returns-then-goes_on
returns-then-goes_on c =
    let labels = c.args.self.now in
    let at = c.args.at in
    let from = c.node_before-from.result in
    let counted : c.len.result ≡ vec_len labels.problem.graph.nodes = c.len.ensures in
    let ok = labels.problem.graph.nodes.ok.0 in
    let count : c.len.result ≡ length (nodes_of labels) = omega (arith, counted, ok) in
    let from_is : from ≡ node_before (length (nodes_of labels)) at = c.node_before-from.ensures.node ∙ ap (λ n. node_before n at) count in
    let are = edges_are labels.problem at c.index.result.now c.as_slice.result.now c.requires c.index.ensures c.as_slice.ensures.value in
    let goes : goes_on_at labels at ≡ true = ap (goes_on (node_before (length (nodes_of labels)) at)) (sym are) ∙ ap (λ m. goes_on m c.as_slice.result.now) (sym from_is) ∙ sym c.goes_on.ensures ∙ c.if-goes_on.true in
    IfOk-weaker c.brought.result _ _
    (λ store least. record {
      next = λ _. subst (λ n. IsLeastOf IsBelow (Onto (rules_of labels.problem) (kinds_at labels.problem) n (stored c.args.before.now)) (stored store)) from_is
          (onto_least labels.problem from (stored c.args.before.now) (stored store) least);
      first = λ begins. absurd (false≢true (sym begins ∙ goes));
    }) c.brought.ensures.least

pub returns-else-goes_on : goal.returns-else-goes_on
returns-else-goes_on c =
    let labels = c.args.self.now in
    let at = c.args.at in
    let from = c.node_before-from.result in
    let counted : c.len.result ≡ vec_len labels.problem.graph.nodes = c.len.ensures in
    let ok = labels.problem.graph.nodes.ok.0 in
    let count : c.len.result ≡ length (nodes_of labels) = omega (arith, counted, ok) in
    let from_is : from ≡ node_before (length (nodes_of labels)) at = c.node_before-from.ensures.node ∙ ap (λ n. node_before n at) count in
    let are = edges_are labels.problem at c.index.result.now c.as_slice.result.now c.requires c.index.ensures c.as_slice.ensures.value in
    let begins : goes_on_at labels at ≡ false = ap (goes_on (node_before (length (nodes_of labels)) at)) (sym are) ∙ ap (λ m. goes_on m c.as_slice.result.now) (sym from_is) ∙ sym c.goes_on.ensures ∙ c.if-goes_on.false in
    let stores_are = c.as_slice-else-goes_on.ensures.value in
    IfOk-weaker c.gathered_first.result _ _
    (λ store least. record {
      next = λ goes. absurd (false≢true (sym begins ∙ goes));
      first = λ _. subst (λ items. IsLeastOf IsBelow (EachBrings (rules_of labels.problem) (kinds_at labels.problem) (FirstTo (rules_of labels.problem) (kinds_at labels.problem) (kept_in labels.problem) (edges_at labels.problem) (map stored items)) (edges_at labels.problem at)) (stored store)) stores_are least;
    }) c.gathered_first.ensures.least
