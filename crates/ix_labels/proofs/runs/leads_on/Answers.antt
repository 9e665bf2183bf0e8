use Rattle.std.proofs.Common.{◌≡◌, ◌<◌, [], ◌∷◌, Some, get_or, length, refl, sym, ap, ◌∙◌}
use Rattle.std.proofs.lemmas.Option.{slice_get_read}
use Rattle.ix_graph.specs.declared.node.Node.{Node}
use Rattle.ix_labels.proofs.KeptNodes.{none_in, one_in, leads_none, leads_one}
use Rattle.ix_labels.proofs.runs.leads_on.Goals as goal

pub returns-then-readers-eq0 : goal.returns-then-readers-eq0
returns-then-readers-eq0 c = λ _ node found.
    let nodes = c.args.nodes.now in
    let there = slice_get_read nodes (length nodes) c.args.at c.index-nodes-at.result refl c.requires.node c.index-nodes-at.is in
    let same : Some c.index-nodes-at.result ≡ Some node = sym there ∙ found in
    let node_is : c.index-nodes-at.result ≡ node = cc in
    leads_none nodes c.args.at node (ap (λ (n : Node). n.readers.items) (sym node_is ∙ c.index-nodes-at.is) ∙ sym c.as_slice-readers.ensures.value ∙ none_in c.as_slice-readers.result.now c.if-readers-eq0.true)

pub returns-then-comes_alone : goal.returns-then-comes_alone
returns-then-comes_alone c = λ leads node found.
    let nodes = c.args.nodes.now in
    let there = slice_get_read nodes (length nodes) c.args.at c.index-nodes-at.result refl c.requires.node c.index-nodes-at.is in
    let same : Some c.index-nodes-at.result ≡ Some node = sym there ∙ found in
    let node_is : c.index-nodes-at.result ≡ node = cc in
    let readers = c.as_slice-readers.result.now in
    let reader = get_or readers 0 0 in
    let one : node.readers.items ≡ reader ∷ [] = ap (λ (n : Node). n.readers.items) (sym node_is ∙ c.index-nodes-at.is) ∙ sym c.as_slice-readers.ensures.value ∙ one_in readers 0 c.if-readers-ne1.false in
    let within : reader < length nodes = c.if-readers-nodes.false in
    let next = c.index-nodes-reader.result in
    let next_there = slice_get_read nodes (length nodes) reader next refl within c.index-nodes-reader.is in
    leads_one nodes c.args.at node reader next one c.if-at-le-END.false next_there (ap (λ (n : Node). n.from.items) c.index-nodes-reader.is ∙ sym c.as_slice.ensures.value ∙ c.comes_alone.ensures c.if-comes_alone.true) (c.leads_to.ensures leads node next found next_there)
