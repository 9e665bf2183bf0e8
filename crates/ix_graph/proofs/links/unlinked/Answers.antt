use Rattle.std.proofs.Common.{◌≡◌, sym, subst, map, take, [], ◌+◌, refl}
use Rattle.ix_graph.specs.Built.{kind_of}
use Rattle.ix_graph.specs.Linked.{kinds_in, HaveEdges}
use Rattle.ix_graph.proofs.Attached.{none_more, kinds_more}
use Rattle.ix_graph.proofs.links.unlinked.Goals as goal

pub loop-kind-preserved : goal.loop-kind-preserved
loop-kind-preserved c = record {
  kinds = subst (λ xs. kinds_in xs ≡ map kind_of (take (c.loop-kind.kind-index + 1) c.args.kinds.now)) (sym c.in_ok-push.ensures.items)
      (kinds_more c.loop-kind.nodes.items _ c.args.kinds.now c.loop-kind.kind-index c.kind-item.result c.loop-kind-test.true c.kind-item.is refl c.loop-kind.invariant.kinds);
  none = subst (λ xs. HaveEdges xs []) (sym c.in_ok-push.ensures.items) (none_more c.loop-kind.nodes.items _ c.loop-kind.invariant.none c.new.ensures.items c.new-in-loop-kind.ensures.items);
}
