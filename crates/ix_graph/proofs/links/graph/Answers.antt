use Rattle.std.proofs.Common.{ap, map, length, sym, subst, ◌∙◌}
use Rattle.std.proofs.lemmas.List.{length-map}
use Rattle.std.proofs.lemmas.Result.{IfOk-weaker}
use Rattle.ix_core.specs.Code.{block_code}
use Rattle.ix_graph.specs.Built.{kind_of}
use Rattle.ix_graph.specs.Linked.{HaveEdges, AreWithin}
use Rattle.ix_graph.proofs.Attached.{whole, as_many}
use Rattle.ix_graph.proofs.links.graph.Goals as goal

pub linked-requires : goal.linked-requires
linked-requires c =
    let w = whole (block_code c.args.method.now.body) c.in_ok-entry.entry c.in_ok-end.end _ _ _ _ c.new-builder.ensures c.in_ok-entry.ensures.number c.in_ok-entry.ensures.added c.in_ok-end.ensures.number c.in_ok-end.ensures.added
    c.in_ok-block.ensures.made in
    let nodes = c.block.new.self.nodes.items in
    record {
      within = subst (λ xs. AreWithin (length c.deref.result.now) xs) (sym c.deref-2.ensures.value)
          (subst (λ n. AreWithin n c.block.new.self.edges.items) (length-map nodes kind_of ∙ ap length (sym c.deref.ensures.value)) w.within);
    }

pub returns-clause-kinds : goal.returns-clause-kinds
returns-clause-kinds c =
    let w = whole (block_code c.args.method.now.body) c.in_ok-entry.entry c.in_ok-end.end _ _ _ _ c.new-builder.ensures c.in_ok-entry.ensures.number c.in_ok-entry.ensures.added c.in_ok-end.ensures.number c.in_ok-end.ensures.added
    c.in_ok-block.ensures.made in
    IfOk-weaker c.linked.result _ _ (λ graph is. is ∙ (ap (map kind_of) c.deref.ensures.value ∙ w.kinds)) c.linked.ensures.kinds

pub returns-clause-edges : goal.returns-clause-edges
returns-clause-edges c =
    let w = whole (block_code c.args.method.now.body) c.in_ok-entry.entry c.in_ok-end.end _ _ _ _ c.new-builder.ensures c.in_ok-entry.ensures.number c.in_ok-entry.ensures.added c.in_ok-end.ensures.number c.in_ok-end.ensures.added
    c.in_ok-block.ensures.made in
    IfOk-weaker c.linked.result _ _ (λ graph have. subst (HaveEdges graph.nodes.items) (c.deref-2.ensures.value ∙ w.edges) have) c.linked.ensures.edges

pub returns-clause-size : goal.returns-clause-size
returns-clause-size c =
    let w = whole (block_code c.args.method.now.body) c.in_ok-entry.entry c.in_ok-end.end _ _ _ _ c.new-builder.ensures c.in_ok-entry.ensures.number c.in_ok-entry.ensures.added c.in_ok-end.ensures.number c.in_ok-end.ensures.added
    c.in_ok-block.ensures.made in
    IfOk-weaker c.linked.result _ _ (λ graph is. as_many graph.nodes.items _ (is ∙ ap (map kind_of) c.deref.ensures.value) ∙ sym w.count) c.linked.ensures.kinds
