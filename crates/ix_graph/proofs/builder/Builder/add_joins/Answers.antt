use Rattle.std.proofs.Common.{ap, suc, ◌∙◌}
use Rattle.ix_graph.specs.Graph.{Joins}
use Rattle.ix_graph.specs.Built.{with_node}
use Rattle.ix_graph.proofs.Makes.{node_size}
use Rattle.ix_graph.proofs.builder.Builder.add_joins.Goals as goal

pub returns : goal.returns
returns c =
    let one = node_size _ _ Joins c.in_ok-first.ensures.added in
    let two = node_size _ _ Joins c.in_ok-second.ensures.added in
    record {
      first = c.in_ok-first.ensures.number;
      second = c.in_ok-second.ensures.number ∙ one;
      third = c.in_ok-third.ensures.number ∙ (two ∙ ap suc one);
      added = c.in_ok-third.ensures.added ∙ ap (λ m. with_node m Joins) (c.in_ok-second.ensures.added ∙ ap (λ m. with_node m Joins) c.in_ok-first.ensures.added);
    }
