use Rattle.ix_graph.proofs.Attached.{attaches}
use Rattle.std.proofs.Common.{refl}
use Rattle.ix_graph.proofs.links.attach.Goals as goal

pub returns : goal.returns
returns c = record {
  attached = attaches c.args.nodes.now.items c.args.edge.0 c.args.edge.2 c.args.edge.1 c.index_mut.result.now _ c.index_mut-2.result.now _ c.requires.node c.requires.target c.index_mut.ensures.value refl c.in_ok-push.ensures.items refl
      c.index_mut-2.ensures.value refl refl c.in_ok-push-2.ensures.items;
}
