use Rattle.ix_errors.proofs.Refused.{adds_both}
use Rattle.ix_text.proofs.Chained.{both_ok}
use Rattle.ix_check.proofs.nodes.push_of_node.Goals as goal

pub returns : goal.returns
returns c = both_ok c.push_of_label.result c.push_of_text.result c.and.result _ _ _ c.and.ensures c.push_of_label.ensures c.push_of_text.ensures (λ one last. adds_both _ _ _ _ _ one last)
