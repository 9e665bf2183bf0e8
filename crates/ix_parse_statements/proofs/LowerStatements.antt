-- The rules for the statements within a statement are those of a height that is lower, as the code computes it.
use Rattle.std.proofs.Common.{◌≡◌, ℕ, suc, ◌-◌, ◌<◌, true, false, refl, arith}
use Rattle.ix_grammar_rules.specs.ReadingStatements.{stmt_rule}
use Rattle.ix_grammar_rules.specs.StmtRules.{stmts_below}

plain_below : (left k : ℕ) → left ≡ suc k → (stmts_below left).plain ≡ stmt_rule false k
unfolding stmts_below
plain_below left k e = rw e refl

block_below : (left k : ℕ) → left ≡ suc k → (stmts_below left).block ≡ stmt_rule true k
unfolding stmts_below
block_below left k e = rw e refl

pub lower_plain : (left : ℕ) → 0 < left → (stmts_below left).plain ≡ stmt_rule false (left - 1)
lower_plain left positive = plain_below left (left - 1) (omega (arith, positive))

pub lower_block : (left : ℕ) → 0 < left → (stmts_below left).block ≡ stmt_rule true (left - 1)
lower_block left positive = block_below left (left - 1) (omega (arith, positive))

pub ruleset lower_statements = (lower_plain, lower_block)
