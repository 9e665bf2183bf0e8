-- How a whole source is read: the rules of members and classes over those of expressions and statements.
use Rattle.std.specs.Prelude.{ℕ, true}
use Rattle.ix_lexer.specs.declared.fixed.TheConstants.{OPEN_PAREN}
use Rattle.ix_grammar.specs.declared.found.Args.{Args}
use Rattle.ix_grammar.specs.declared.classes.FoundUnit.{FoundUnit}
use Rattle.ix_grammar_rules.specs.Rule.{Rule, take, stop}
use Rattle.ix_grammar.specs.Patterns.{a_sign}
use Rattle.ix_grammar_rules.specs.ExprRules.{expr, init, args}
use Rattle.ix_grammar_rules.specs.StmtRules.{block_statement}
use Rattle.ix_grammar_rules.specs.ClassRules.{PartRules, program}

-- Args = "(" [Expr {"," Expr}] ")", with the height that is left for an argument
unfoldable pub super_args : ℕ → Rule Args
super_args left = take (a_sign OPEN_PAREN) true (λ opening. args (expr left)) stop

abbrev pub parts : PartRules
parts = record { init = init; args = super_args; statement = block_statement }

-- A source may be 200 nodes high.
unfoldable pub source : Rule FoundUnit
source = program parts 200
