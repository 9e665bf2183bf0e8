use Rattle.ix_fact_table.proofs.WalksAlongBoth.{none_skipped}
use Rattle.ix_fact_table.proofs.walks.skipped.Goals as goal

pub returns-then-not-is_long_before : goal.returns-then-not-is_long_before
returns-then-not-is_long_before c = record { run = none_skipped c.args.facts.now c.args.other.now }

pub returns : goal.returns
returns c = record {
  run = record {
    count = c.run_before.result;
    within = c.run_before.ensures.within;
    before = c.run_before.ensures.before;
    left_over = c.split_at.ensures.back;
  };
}
