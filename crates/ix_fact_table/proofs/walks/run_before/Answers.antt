use Rattle.std.proofs.Common.{rules, arith}
use Rattle.std.proofs.lemmas.Fn.{always_returns_same}
use Rattle.ix_fact_table.specs.FactOrder.{fact_cmp}
use Rattle.ix_fact_table.proofs.KeySearches.{found_past, missed_past}
use Rattle.ix_fact_table.proofs.walks.run_before.Goals as goal

pub returns-in-Ok : goal.returns-in-Ok
returns-in-Ok c =
    let other = c.args.other.now in
    record {
      within = omega (arith, c.in-Ok.ensures.bound);
      before = found_past c.args.facts.now other c.in-Ok.place c.requires.rises c.in-Ok.ensures.bound (c.in-Ok.ensures.position (λ fact. fact_cmp fact other) (always_returns_same _ _ _ (λ a r next called. search rules)));
    }

pub returns-in-Err : goal.returns-in-Err
returns-in-Err c =
    let other = c.args.other.now in
    record {
      within = c.in-Err.ensures.bound;
      before = missed_past c.args.facts.now other c.in-Err.place c.requires.rises (c.in-Err.ensures.position (λ fact. fact_cmp fact other) (always_returns_same _ _ _ (λ a r next called. search rules)));
    }
