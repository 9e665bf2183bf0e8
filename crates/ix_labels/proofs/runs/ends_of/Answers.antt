use Rattle.std.proofs.Common.{◌≡◌, ◌+◌, ◌<◌, ◌∷◌, [], ◌++◌, All, length, take, take_all, get_or, arith, sym, subst}
use Rattle.std.proofs.lemmas.List.Elements.{All-push}
use Rattle.ix_labels.specs.Runs.{AreEnds}
use Rattle.ix_labels.proofs.KeptNodes.{no_ends, ends_next, next_taken}
use Rattle.ix_labels.proofs.runs.ends_of.Goals as goal

pub loop-node-init : goal.loop-node-init
loop-node-init c =
    let nodes = c.args.nodes.now in
    let kept = c.args.kept.now in
    subst (λ ends. All (λ node. node < length kept) ends × AreEnds nodes kept [] ends) (sym c.new-ends.ensures.items) ((λ k d within. absurd (omega (arith, within))), no_ends nodes kept)

pub end_of-requires : goal.end_of-requires
end_of-requires c = record { from = c.requires.begins c.loop-node.node-index 0 c.loop-node-test.true; all = c.requires.all; linked = c.requires.linked }

pub loop-node-preserved : goal.loop-node-preserved
loop-node-preserved c =
    let kept = c.args.kept.now in
    let nodes = c.args.nodes.now in
    let begins = c.args.begins.now in
    let k = c.loop-node.node-index in
    let ends = c.loop-node.ends.items in
    let items : c.push.new.self.items ≡ ends ++ c.end_of.result ∷ [] = c.in_ok-push.ensures.items in
    subst (λ es. All (λ node. node < length kept) es × AreEnds nodes kept (take (k + 1) begins) es) (sym items) (
      All-push (λ node. node < length kept) ends c.end_of.result c.loop-node.invariant.0 c.end_of.ensures.within,
      subst (λ ns. AreEnds nodes kept ns (ends ++ c.end_of.result ∷ [])) (sym (next_taken begins k 0 c.loop-node-test.true))
          (ends_next nodes kept (take k begins) ends (get_or begins k 0) c.end_of.result c.loop-node.invariant.1 c.end_of.ensures.end),
    )

pub returns-clause-within : goal.returns-clause-within
returns-clause-within c = c.loop-node.invariant.0

pub returns-clause-ends : goal.returns-clause-ends
returns-clause-ends c =
    subst (λ ns. AreEnds c.args.nodes.now c.args.kept.now ns c.loop-node.ends.items) (take_all c.loop-node.node-index c.args.begins.now c.loop-node-test.false) c.loop-node.invariant.1
