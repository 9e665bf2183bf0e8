use Rattle.std.proofs.Common.{rules}
use Rattle.ix_meaning.specs.Limits as spec
use Rattle.ix_names.specs.Counted as counts
use Rattle.ix_names.specs.Shown.{shown}
use Rattle.ix_names.proofs.FirstPassed.{found, on, past_body}
use Rattle.ix_names.proofs.claims.+statements.Goals as goal

pub statements-returns-in-Some : goal.statements-returns-in-Some
statements-returns-in-Some t c =
    found (λ s. spec.past_claims (spec.stmt_annots s)) (λ ss. spec.past_claims (counts.all_statements ss)) past_body
    c.args.body.now c.loop-stmt.stmt-index c.stmt-item.result (shown c.in-Some.passed) (search rules) (search rules) (search rules) (search rules)

pub statements-loop-stmt-preserved : goal.statements-loop-stmt-preserved
statements-loop-stmt-preserved t c =
    on (λ s. spec.past_claims (spec.stmt_annots s)) (λ ss. spec.past_claims (counts.all_statements ss)) past_body
    c.args.body.now c.loop-stmt.stmt-index c.stmt-item.result (search rules) (search rules) (search rules) (search rules)
