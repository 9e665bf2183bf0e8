-- What functions promise that read the statements within a statement, and the parts of longer rules that functions of their own read.
use Rattle.std.specs.Prelude.{◌<◌, ◌≤◌, ◌+◌, ◌-◌, ℕ, nat_le, Bool, true, false, List, length, Option, Some, None, Result, OnOk, IfOk}
use Rattle.std.specs.declared.alloc.Global.{Global}
use Rattle.std.specs.Borrow.{MutBor}
use Rattle.ix_lexer.specs.declared.token.Token.{Token}
use Rattle.ix_lexer.specs.declared.fixed.TheConstants.{INT, BOOLEAN, WHILE, DO, FOR, BREAK, CONTINUE, RETURN, THROW, DOT, SEMICOLON, OPEN_BRACKET, OPEN_PAREN}
use Rattle.ix_tree.specs.declared.annot.BaseTree.TheVariants.{Int, Boolean}
use Rattle.ix_tree.specs.declared.stmt.StmtKind.TheVariants as s
use Rattle.ix_grammar.specs.Nodes.{across}
use Rattle.ix_grammar_rules.specs.declared.stop.Stop.{Stop}
use Rattle.ix_grammar_rules.specs.declared.stop.Stop.TheVariants.{Syntax, TooDeep}
use Rattle.ix_grammar.specs.declared.found.FoundStmt.{FoundStmt}
use Rattle.ix_grammar_rules.specs.declared.begun.Begun.{Begun}
use Rattle.ix_grammar_rules.specs.declared.begun.Begun.TheVariants.{Local, Run, Print}
use Rattle.ix_grammar.specs.Patterns.{a_sign, a_name, one_of, assign_signs, step_signs}
use Rattle.ix_grammar_rules.specs.Rule.{Rule, pure, take, bind, stop, look, run}
use Rattle.ix_grammar.specs.TypeGrammar.{based}
use Rattle.ix_grammar_rules.specs.TypeRules.{type_rest}
use Rattle.ix_grammar.specs.DeclGrammar.{no_mods}
use Rattle.ix_grammar_rules.specs.ExprRules.{statement_expr}
use Rattle.ix_grammar.specs.StmtGrammar.{stmt_node}
use Rattle.ix_grammar_rules.specs.StmtRules.{StmtParts, stmt, block_statement, named_type, named_first, print_or, begun, finished, while_rule, do_rule, for_rule, return_rule, throw_rule}
use Rattle.ix_grammar_rules.specs.Taking.{Follows}

-- a statement of a height of at most so much, and whether it may declare locals
abbrev pub stmt_rule : Bool → ℕ → Rule FoundStmt
stmt_rule false left = stmt left
stmt_rule true left = block_statement left

-- `pre` and `post` are those of a function value that reads each statement of a height below `left`, of 200,000 tokens at most.
pub record ReadsStatements (left : ℕ) (pre : Global → MutBor (List Token) → ℕ → Bool → Type 0)
    (post : Global → MutBor (List Token) → ℕ → Bool → Result FoundStmt Stop → MutBor (List Token) → Type 0) : Type 0 where
  pub callable : (alloc : Global) (old : MutBor (List Token)) (height : ℕ) (locals : Bool) → height < left → length old.now ≤ 200000 → pre alloc old height locals
  pub reads : (alloc : Global) (old new : MutBor (List Token)) (height : ℕ) (locals : Bool) (result : Result FoundStmt Stop) → post alloc old height locals result new
      → Follows (run (stmt_rule locals height) old.now) result new.now
  pub shorter : (alloc : Global) (old new : MutBor (List Token)) (height : ℕ) (locals : Bool) (result : Result FoundStmt Stop) → post alloc old height locals result new
      → OnOk result (length new.now < length old.now)
  pub fits : (alloc : Global) (old new : MutBor (List Token)) (height : ℕ) (locals : Bool) (result : Result FoundStmt Stop) → post alloc old height locals result new
      → IfOk result (λ found. found.height ≤ height)

-- What a statement of a height of at most so much begins with is lower.
abbrev pub begun_fits : ℕ → Begun → Type 0
begun_fits left (Local mods ty found) = found.height + 1 ≤ left
begun_fits left (Run f) = f.height + 1 ≤ left
begun_fits left (Print system) = 1 ≤ left

-- ---- the last alternatives of a beginning

abbrev pub named_or_run : Bool → ℕ → Rule Begun
named_or_run locals left = take a_name (nat_le 3 left) (named_first locals left) (bind (statement_expr (left - 1)) (λ f. pure (Run f)))

abbrev pub printed_or_named : Bool → Bool → ℕ → Rule Begun
printed_or_named prints locals left = print_or prints locals left (named_or_run locals left)

-- where locals may be declared
abbrev pub based_or_named : Bool → ℕ → Rule Begun
based_or_named prints left =
    take (a_sign INT) (nat_le 3 left) (λ span. bind (type_rest (left - 2) (based Int span)) (named_type left no_mods))
    (take (a_sign BOOLEAN) (nat_le 3 left) (λ span. bind (type_rest (left - 2) (based Boolean span)) (named_type left no_mods))
    (printed_or_named prints true left))

-- ---- behind a variable that is too high

-- A token that is there is too high.
abbrev pub too_deep_or : {V : Type 0} → Option V → Stop → Stop
too_deep_or (Some found) other = TooDeep
too_deep_or None other = other

-- Why reading stops: what would go on with the variable is too high.
abbrev pub behind_high : List Token → Stop
behind_high tokens =
    too_deep_or (look (a_sign DOT) tokens) (too_deep_or (look (a_sign OPEN_BRACKET) tokens) (too_deep_or (look (one_of assign_signs) tokens) (too_deep_or (look (one_of step_signs) tokens) Syntax)))

-- Likewise where the variable's name may yet be that of a method.
abbrev pub behind_high_name : List Token → Stop
behind_high_name tokens = too_deep_or (look (a_sign OPEN_PAREN) tokens) (behind_high tokens)

-- ---- the last alternatives of a statement

abbrev pub begun_stmt : Bool → ℕ → Rule FoundStmt
begun_stmt locals left = bind (begun true locals left) (finished left)

abbrev pub jump_or_begun : Bool → ℕ → Rule FoundStmt
jump_or_begun locals left =
    take (a_sign BREAK) (nat_le 1 left) (λ start. take (a_sign SEMICOLON) true (λ end. pure (stmt_node s.Break 0 (across start end))) stop)
    (take (a_sign CONTINUE) (nat_le 1 left) (λ start. take (a_sign SEMICOLON) true (λ end. pure (stmt_node s.Continue 0 (across start end))) stop)
    (take (a_sign RETURN) (nat_le 1 left) (return_rule left)
    (take (a_sign THROW) (nat_le 2 left) throw_rule
    (begun_stmt locals left))))

abbrev pub loop_or_other : StmtParts → Bool → ℕ → Rule FoundStmt
loop_or_other parts locals left =
    take (a_sign WHILE) (nat_le 2 left) (while_rule parts left)
    (take (a_sign DO) (nat_le 2 left) (do_rule parts left)
    (take (a_sign FOR) (nat_le 2 left) (for_rule parts left)
    (jump_or_begun locals left)))
