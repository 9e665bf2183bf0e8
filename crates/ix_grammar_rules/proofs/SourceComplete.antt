-- A source that is in the grammar is read, if it is 200 nodes high at most, and if that holds of the statements in it.
use Rattle.std.proofs.Common.{◌≡◌, ℕ, ◌<◌, ◌≤◌, suc, List, [], ◌∷◌, ◌++◌, length, None, Ok, ap, ◌∙◌, arith}
use Rattle.ix_text.specs.declared.span.Span.{Span}
use Rattle.ix_lexer.specs.declared.token.Token.{Token}
use Rattle.ix_lexer.specs.declared.fixed.TheConstants.{ELSE, SUPER, CLOSE_BRACE, OPEN_PAREN}
use Rattle.ix_grammar.specs.declared.classes.FoundUnit.{FoundUnit}
use Rattle.ix_grammar.specs.declared.found.Args.{Args}
use Rattle.ix_grammar.specs.declared.found.FoundInit.{FoundInit}
use Rattle.ix_grammar.specs.declared.found.FoundStmt.{FoundStmt}
use Rattle.ix_grammar_rules.specs.Rule.{look, run}
use Rattle.ix_grammar.specs.Patterns.{sign, a_sign}
use Rattle.ix_grammar.specs.ExprGrammar.{IsArgs, IsInit}
use Rattle.ix_grammar_rules.specs.ExprRules.{args, expr, init, whole_of, below, parts_of}
use Rattle.ix_grammar.specs.StmtGrammar.{IsBlockStmt}
use Rattle.ix_grammar_rules.specs.StmtRules.{block_statement}
use Rattle.ix_grammar_rules.specs.ClassRules.{program}
use Rattle.ix_grammar.specs.SourceGrammar.{IsSource, source_parts}
use Rattle.ix_grammar_rules.specs.SourceRules.{super_args, parts, source}
use Rattle.ix_grammar_rules.proofs.Follows.{AfterWhole, after_comma, after_semicolon}
use Rattle.ix_grammar_rules.proofs.ExprComplete.{complete_args, complete_init}
use Rattle.ix_grammar_rules.proofs.DeclComplete.{Parted, comma, semicolon}
use Rattle.ix_grammar_rules.proofs.ClassComplete.{program_reads}

-- Statements of a block that are in the grammar are read.
pub record StatementsComplete : Type 0 where
  pub statement : (ts : List Token) (found : FoundStmt) → IsBlockStmt ts found → (room : ℕ) → found.height ≤ room → (us : List Token) → look (a_sign ELSE) us ≡ None → run (block_statement room) (ts ++ us) ≡ Ok (found, us)
  pub no_else : (ts : List Token) (found : FoundStmt) → IsBlockStmt ts found → (us : List Token) → look (a_sign ELSE) (ts ++ us) ≡ None
  pub no_brace : (ts : List Token) (found : FoundStmt) → IsBlockStmt ts found → (us : List Token) → look (a_sign CLOSE_BRACE) (ts ++ us) ≡ None
  pub no_super : (ts : List Token) (found : FoundStmt) → IsBlockStmt ts found → (us : List Token) → look (a_sign SUPER) (ts ++ us) ≡ None
  pub takes : (ts : List Token) (found : FoundStmt) → IsBlockStmt ts found → 0 < length ts

after_parted : (us : List Token) → Parted us → AfterWhole us
after_parted _ (comma span us) = after_comma span us
after_parted _ (semicolon span us) = after_semicolon span us

init_reads : (ts : List Token) (found : FoundInit) → IsInit ts found → (room : ℕ) → found.height ≤ room → (us : List Token) → Parted us → run (init room) (ts ++ us) ≡ Ok (found, us)
init_reads ts found d room le us p = complete_init d room us le (after_parted us p)

opened_args : (left : ℕ) (opening : Span) (ts us : List Token) (found : Args) → run (args (expr left)) ts ≡ Ok (found, us) → run (super_args left) (sign OPEN_PAREN opening ∷ ts) ≡ Ok (found, us)
unfolding super_args run
opened_args left opening ts us found h = h

args_read : (ts : List Token) (found : Args) → IsArgs ts found → (room : ℕ) → found.height ≤ room → (us : List Token) → run (super_args room) (ts ++ us) ≡ Ok (found, us)
unfolding whole_of below parts_of
args_read ts found d room le us =
    let r = complete_args d (suc room) 0 us (omega arith) (omega (arith, le)) in
    ap (λ y. run (super_args room) (y ++ us)) r.2 ∙ opened_args room r.0 (r.1 ++ us) us found r.3

-- with any height left
pub high_reads : StatementsComplete → (left : ℕ) (ts : List Token) (found : FoundUnit) → IsSource ts found → found.height ≤ left → run (program parts left) ts ≡ Ok (found, [])
high_reads s left ts found d le = program_reads source_parts parts (record {
  init = init_reads;
  args = args_read;
  statement = s.statement;
  no_else = s.no_else;
  no_brace = s.no_brace;
  no_super = s.no_super;
  takes = s.takes;
}) left ts found d le

pub source_reads : StatementsComplete → (ts : List Token) (found : FoundUnit) → IsSource ts found → found.height ≤ 200 → run source ts ≡ Ok (found, [])
unfolding source
source_reads s ts found d le = high_reads s 200 ts found d le
