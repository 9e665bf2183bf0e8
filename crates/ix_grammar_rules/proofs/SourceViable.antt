-- Where the rules of a source stop, the tokens before begin a source of a height of at most 200, if that holds of expressions and statements.
use Rattle.std.proofs.Common.{◌≡◌, ℕ, ◌≤◌, List, [], ◌∷◌, ◌++◌, Err, arith}
use Rattle.ix_text.specs.declared.span.Span.{Span}
use Rattle.ix_lexer.specs.declared.token.Token.{Token}
use Rattle.ix_lexer.specs.declared.fixed.TheConstants.{OPEN_PAREN, CLOSE_PAREN}
use Rattle.ix_grammar_rules.specs.declared.stop.Stop.{Stop}
use Rattle.ix_grammar.specs.declared.found.Args.{Args}
use Rattle.ix_grammar.specs.declared.found.FoundInit.{FoundInit}
use Rattle.ix_grammar.specs.declared.found.FoundStmt.{FoundStmt}
use Rattle.ix_grammar_rules.specs.Rule.{run}
use Rattle.ix_grammar.specs.Patterns.{sign}
use Rattle.ix_grammar.specs.Begins.{IsLowSource}
use Rattle.ix_grammar.specs.ExprGrammar.{IsArgs, IsInit, no_args}
use Rattle.ix_grammar.specs.ExprNodes.{no_exprs, all_args}
use Rattle.ix_grammar_rules.specs.ExprRules.{args, expr, init}
use Rattle.ix_grammar.specs.StmtGrammar.{IsBlockStmt}
use Rattle.ix_grammar_rules.specs.StmtRules.{block_statement}
use Rattle.ix_grammar_rules.specs.ClassRules.{program}
use Rattle.ix_grammar.specs.SourceGrammar.{IsSource, source_parts}
use Rattle.ix_grammar_rules.specs.SourceRules.{super_args, parts, source}
use Rattle.ix_grammar_rules.proofs.GiveRules.{both}
use Rattle.ix_grammar_rules.proofs.StmtsSound.{block_statement_sound}
use Rattle.ix_grammar_rules.proofs.StmtHeights.{block_statement_within}
use Rattle.ix_grammar_rules.proofs.SourceSound.{super_args_sound, init_fits}
use Rattle.ix_grammar_rules.proofs.ViableRules.{Goes, Viable, stop_viable, sign_viable}
use Rattle.ix_grammar_rules.proofs.ListsViable.{here}
use Rattle.ix_grammar_rules.proofs.ClassViable.{program_viable}

-- what is asked of expressions, and of statements
pub record TermsViable : Type 0 where
  pub init : (left : ℕ) → 1 ≤ left → Viable (λ ts (i : FoundInit). IsInit ts i × (i.height ≤ left)) (init left)
  pub args : (left : ℕ) (opening : Span) → Viable (λ ts (a : Args). IsArgs (sign OPEN_PAREN opening ∷ ts) a × (a.height ≤ left)) (args (expr left))
  pub statement : (left : ℕ) → 1 ≤ left → Viable (λ ts (s : FoundStmt). IsBlockStmt ts s × (s.height ≤ left)) (block_statement left)

super_args_viable : TermsViable → (left : ℕ) → Viable (λ ts a. IsArgs ts a × (a.height ≤ left)) (super_args left)
unfolding super_args
super_args_viable terms left = sign_viable _ _ _ _ (λ f. absurd (cc)) (λ f opening. terms.args left opening)
    (stop_viable (sign OPEN_PAREN here ∷ sign CLOSE_PAREN here ∷ [], all_args no_exprs here, (no_args here here, omega arith)))

-- with any height left
pub high_viable : TermsViable → (left : ℕ) → 5 ≤ left → Viable (λ ts found. IsSource ts found × (found.height ≤ left)) (program parts left)
high_viable terms left room = program_viable source_parts parts
    (record { init = init_fits; args = super_args_sound; statement = λ left. both _ (block_statement_sound left) (block_statement_within left) })
    (record { init = terms.init; args = super_args_viable terms; statement = terms.statement }) left room

pub source_viable : TermsViable → Viable IsLowSource source
unfolding source
source_viable terms = high_viable terms 200 (omega arith)

-- Where the rules stop, the tokens before go on to a source.
pub source_goes : TermsViable → (tokens : List Token) (why : Stop) (left : List Token) → run source tokens ≡ Err (why, left) → (seen : List Token) × (tokens ≡ seen ++ left) × Goes IsLowSource seen
source_goes terms tokens why left h = let s = source_viable terms in s.at tokens left why h
