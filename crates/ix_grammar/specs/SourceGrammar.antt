-- A whole source as a relation between its tokens and what they are: members and classes over expressions and statements.
use Rattle.std.specs.Prelude.{List}
use Rattle.ix_lexer.specs.declared.token.Token.{Token}
use Rattle.ix_grammar.specs.declared.classes.FoundUnit.{FoundUnit}
use Rattle.ix_grammar.specs.ExprGrammar.{IsInit, IsArgs}
use Rattle.ix_grammar.specs.StmtGrammar.{IsBlockStmt}
use Rattle.ix_grammar.specs.ClassGrammar.{Parts, IsProgram}

abbrev pub source_parts : Parts
source_parts = record { IsInit = IsInit; IsArgs = IsArgs; IsStmt = IsBlockStmt }

abbrev pub IsSource : List Token → FoundUnit → Type 0
IsSource = IsProgram source_parts
