-- Sources with more height left, if that holds of expressions and statements.
use Rattle.std.proofs.Common.{ℕ, ◌≤◌, ◌+◌, arith}
use Rattle.ix_grammar_rules.specs.ExprRules.{args, expr, init}
use Rattle.ix_grammar_rules.specs.StmtRules.{block_statement}
use Rattle.ix_grammar_rules.specs.ClassRules.{program}
use Rattle.ix_grammar_rules.specs.SourceRules.{super_args, parts, source}
use Rattle.ix_grammar_rules.proofs.OverRules.{Over, over_stop}
use Rattle.ix_grammar_rules.proofs.AnnotOver.{over_token}
use Rattle.ix_grammar_rules.proofs.ClassOver.{program_over}

-- what is asked of expressions, and of statements
pub record TermsOver : Type 0 where
  pub init : (left more : ℕ) → left + 5 ≤ more → Over (init left) (init more)
  pub args : (left more : ℕ) → left + 5 ≤ more → Over (args (expr left)) (args (expr more))
  pub statement : (left more : ℕ) → left + 5 ≤ more → Over (block_statement left) (block_statement more)

super_args_over : TermsOver → (left more : ℕ) → left + 5 ≤ more → Over (super_args left) (super_args more)
unfolding super_args
super_args_over terms left more room = over_token _ _ _ _ _ (λ opening. terms.args left more room) over_stop

pub source_over : TermsOver → (more : ℕ) → 205 ≤ more → Over source (program parts more)
unfolding source
source_over terms more room = program_over parts (record { init = terms.init; args = super_args_over terms; statement = terms.statement }) 200 more (omega arith) (omega (arith, room))
