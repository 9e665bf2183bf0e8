-- A source that is read is in the grammar, and 200 nodes high at most, if that holds of the statements in it.
use Rattle.std.proofs.Common.{ℕ, ◌≤◌, arith}
use Rattle.ix_grammar.specs.declared.found.Several.{Several}
use Rattle.ix_grammar.specs.ExprGrammar.{IsArgs, IsInit}
use Rattle.ix_grammar.specs.ExprNodes.{no_exprs, with_expr}
use Rattle.ix_grammar_rules.specs.ExprRules.{more_exprs, args, expr, init}
use Rattle.ix_grammar_rules.specs.StmtRules.{block_statement}
use Rattle.ix_grammar_rules.specs.ClassRules.{program}
use Rattle.ix_grammar.specs.SourceGrammar.{IsSource, source_parts}
use Rattle.ix_grammar_rules.specs.SourceRules.{super_args, parts, source}
use Rattle.ix_grammar_rules.proofs.SoundRules.{Sound, weaken, stop_sound, sign_sound}
use Rattle.ix_grammar_rules.proofs.GiveRules.{Gives, take_gives, bind_gives, pure_gives, stop_gives, loop_gives, Turned, both}
use Rattle.ix_grammar_rules.proofs.ExprSound.{args_sound, expr_sound, init_is_sound}
use Rattle.ix_grammar_rules.proofs.ExprHeights.{expr_within, init_is_within}
use Rattle.ix_grammar_rules.proofs.StmtsSound.{block_statement_sound}
use Rattle.ix_grammar_rules.proofs.ClassSound.{program_sound}

more_low : (left : ℕ) (s : Several) → s.height ≤ left → Gives (Turned (λ s. s.height ≤ left) (λ s. s.height ≤ left)) (more_exprs (expr left) s)
unfolding more_exprs
more_low left s q = take_gives _ _ _ _ (λ b c. bind_gives _ _ (expr_within left) (λ f w. pure_gives _ (omega (arith, q, w.1)))) (pure_gives _ q)

pub args_low : (left : ℕ) → Gives (λ a. a.height ≤ left) (args (expr left))
unfolding args
args_low left = take_gives _ _ _ _ (λ b r. pure_gives _ (omega arith))
    (bind_gives _ _ (expr_within left) (λ f w. bind_gives _ _ (loop_gives (more_exprs (expr left)) (λ s. s.height ≤ left) (λ s. s.height ≤ left) (more_low left) (with_expr no_exprs f) (omega (arith, w.1)))
    (λ s q. take_gives _ _ _ _ (λ b r. pure_gives _ q) stop_gives)))

pub super_args_sound : (left : ℕ) → Sound (λ ts a. IsArgs ts a × (a.height ≤ left)) (super_args left)
unfolding super_args
super_args_sound left = sign_sound _ _ _ _ (λ opening. weaken _ (λ ts a r. (r.0 opening, r.1)) (both _ (args_sound (expr left) (expr_sound left)) (args_low left))) stop_sound

pub init_fits : (left : ℕ) → Sound (λ ts i. IsInit ts i × (i.height ≤ left)) (init left)
init_fits left = weaken _ (λ ts i r. (r.0, r.1.1)) (both _ (init_is_sound left) (init_is_within left))

-- with any height left
pub high_sound : ((left : ℕ) → Gives (λ s. s.height ≤ left) (block_statement left)) → (left : ℕ) → 1 ≤ left → Sound (λ ts found. IsSource ts found × (found.height ≤ left)) (program parts left)
high_sound low left one = program_sound source_parts parts (record { init = init_fits; args = super_args_sound; statement = λ left. both _ (block_statement_sound left) (low left) }) left one

pub source_sound : ((left : ℕ) → Gives (λ s. s.height ≤ left) (block_statement left)) → Sound (λ ts found. IsSource ts found × (found.height ≤ 200)) source
unfolding source
source_sound low = high_sound low 200 (omega arith)
