use Rattle.std.proofs.Common.{◌+◌, ◌++◌, ◌<◌, drop, length, arith, ap, ◌∙◌}
use Rattle.ix_labels.specs.LoopLabels.{head_stores}
use Rattle.ix_labels.proofs.HeadStores.{next}
use Rattle.ix_labels.proofs.loops.at_heads.Goals as goal

pub loop-at-preserved : goal.loop-at-preserved
loop-at-preserved c =
    let nodes = c.args.nodes.now in
    let stores = c.args.stores.now in
    let at = c.loop-at.at in
    let within : at < length nodes = c.loop-at-test.true in
    let inside : at < length stores = omega (arith, within, c.requires) in
    ap (λ l. l ++ head_stores (drop (at + 1) nodes) (drop (at + 1) stores)) c.in_ok-push_at_head.ensures
    ∙ next nodes stores c.loop-at.found.items (head_stores nodes stores) at c.index-nodes-at.result c.index-stores-at.result within c.index-nodes-at.is inside c.index-stores-at.is c.loop-at.invariant
