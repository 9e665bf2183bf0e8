use Rattle.std.proofs.Common.{◌≡◌, ◌<◌, ◌-◌, List, ℕ, Some, not, inl, inr, length, slice_get, get_or, arith, refl, sym, ap, ◌∙◌}
use Rattle.std.proofs.lemmas.Bool.{false≢true}
use Rattle.std.proofs.lemmas.Option.{slice_get_read}
use Rattle.ix_graph.specs.declared.node.Node.{Node}
use Rattle.ix_labels.specs.Runs.{goes_on}
use Rattle.ix_labels.proofs.KeptNodes.{kept_index}
use Rattle.ix_labels.proofs.runs.continues.Goals as goal

same_node : (nodes : List Node) (at : ℕ) (one other : Node) → at < length nodes → one ≡ get_or nodes at one → slice_get nodes at ≡ Some other → other ≡ get_or nodes at one
same_node nodes at one other within is found =
    let same : Some other ≡ Some one = sym found ∙ slice_get_read nodes (length nodes) at one refl within is in
    let e : other ≡ one = cc in
    e ∙ is

pub returns-else-not-kept-at : goal.returns-else-not-kept-at
returns-else-not-kept-at c =
    let kept = c.args.kept.now in
    let within : c.args.at < length kept = omega (arith, c.requires.node, c.requires.all) in
    record {
      yes = λ passed. absurd (false≢true (sym (ap not c.if-not-kept-at.false) ∙ passed));
      no = λ holds. inl (kept_index kept c.args.at within ∙ c.if-not-kept-at.false);
    }

pub returns-then-not-kept-at : goal.returns-then-not-kept-at
returns-then-not-kept-at c =
    let kept = c.args.kept.now in
    let nodes = c.args.nodes.now in
    let at = c.args.at in
    let within : at < length kept = omega (arith, c.requires.node, c.requires.all) in
    let read = ap (goes_on (at - 1)) (sym c.as_slice.ensures.value) ∙ sym c.goes_on.ensures in
    record {
      yes = λ goes. (kept_index kept at within ∙ c.if-not-kept-at.true, λ node found. ap (λ (n : Node). goes_on (at - 1) n.from.items) (same_node nodes at c.index-nodes-at.result node c.requires.node c.index-nodes-at.is found) ∙ (read ∙ goes));
      no = λ stops. inr (λ node found. ap (λ (n : Node). goes_on (at - 1) n.from.items) (same_node nodes at c.index-nodes-at.result node c.requires.node c.index-nodes-at.is found) ∙ (read ∙ stops));
    }
