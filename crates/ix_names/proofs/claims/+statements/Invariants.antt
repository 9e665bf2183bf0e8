use Rattle.std.proofs.Common.{◌≡◌, drop}
use Rattle.ix_meaning.specs.Limits as spec
use Rattle.ix_names.specs.Counted as counts
use Rattle.ix_names.proofs.claims.+statements.Given as goal

abbrev pub invariant-statements-loop-stmt : goal.invariant-statements-loop-stmt
invariant-statements-loop-stmt l = spec.past_claims (counts.all_statements (drop l.stmt-index l.body)) ≡ spec.past_claims (counts.all_statements l.body)
