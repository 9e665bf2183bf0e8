use Rattle.std.proofs.Common.{◌++◌, ap, ◌∙◌}
use Rattle.ix_fact_table.proofs.WalksAlongBoth.{none_passed}
use Rattle.ix_fact_table.proofs.walks.passed.Goals as goal

pub returns-then-not-is_long_before-clause-run : goal.returns-then-not-is_long_before-clause-run
returns-then-not-is_long_before-clause-run c = none_passed c.args.facts.now c.args.other.now c.args.all.now.items

pub returns-clause-run : goal.returns-clause-run
returns-clause-run c = record {
  count = c.run_before.result;
  within = c.run_before.ensures.within;
  before = c.run_before.ensures.before;
  run = c.in_ok-extend_from_slice.ensures.items ∙ ap (λ l. c.args.all.now.items ++ l) c.split_at.ensures.front;
  left_over = c.split_at.ensures.back;
}
