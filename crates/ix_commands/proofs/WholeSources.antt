-- Bytes that have a program are a source without errors on names.
use Rattle.std.proofs.Common.{◌≡◌, ◌≤◌, ◌∙◌, ℕ, List, length, Some, Ok, ap, refl}
use Rattle.ix_core.specs.declared.program.Program.{Program}
use Rattle.ix_lexer.specs.declared.token.LexError.{LexError}
use Rattle.ix_lexer.specs.declared.token.LexError.TheVariants as lexical
use Rattle.ix_lexer.specs.declared.token.Token.{Token}
use Rattle.ix_lexer.specs.Tokens.{Tokens, most_tokens}
use Rattle.ix_grammar.specs.declared.error.ParseError.{ParseError}
use Rattle.ix_grammar.specs.declared.error.ParseError.TheVariants as syntax
use Rattle.ix_grammar.specs.Refusals.{HasTree}
use Rattle.ix_tree.specs.declared.decl.Unit.{Unit as Source}
use Rattle.ix_meaning.specs.Resolved.{Accepts, names}
use Rattle.ix_plain.specs.Program.{program as program_of}
use Rattle.ix_front.specs.Found.{Finding, Whole, Found, too_long, no_tokens, lexed, no_tree, tree, of_lex_error, of_parse_error, FoundIn, passes_limit, misnames, inherits, too_big, named}
use Rattle.ix_guard_text.specs.Guarding.{IsNamed}

lexed_whole : (why : LexError) (finding : Finding) (program : Program) → of_lex_error why ≡ Some finding → finding ≡ Whole program → ⊥
lexed_whole (lexical.BadUtf8 at) finding program is whole = cc
lexed_whole (lexical.BadChar at) finding program is whole = cc
lexed_whole (lexical.OpenComment at) finding program is whole = cc
lexed_whole (lexical.OpenString at) finding program is whole = cc
lexed_whole (lexical.BadNumber at) finding program is whole = cc
lexed_whole (lexical.TooMany at) finding program is whole = cc
lexed_whole lexical.Memory finding program is whole = cc

parsed_whole : (tokens : List Token) (end : ℕ) (why : ParseError) (finding : Finding) (program : Program) → of_parse_error tokens end why ≡ Some finding → finding ≡ Whole program → ⊥
parsed_whole tokens end (syntax.Syntax number) finding program is whole = cc
parsed_whole tokens end (syntax.TooDeep from) finding program is whole = cc
parsed_whole tokens end syntax.Memory finding program is whole = cc

whole_same : (made program : Program) → Whole made ≡ Whole program → made ≡ program
whole_same made program is = cc

whole_in : (unit : Source) (program : Program) (finding : Finding) → FoundIn unit finding → finding ≡ Whole program → Accepts unit × (program_of (names unit) unit.classes ≡ Ok program)
whole_in unit program _ (passes_limit p passed) is = absurd (cc)
whole_in unit program _ (misnames errors refused) is = absurd (cc)
whole_in unit program _ (inherits p within clean passed) is = absurd (cc)
whole_in unit program _ (too_big p accepts passed) is = absurd (cc)
whole_in unit program _ (named made accepts made_is) is = (accepts, made_is ∙ ap (λ (p : Program). Ok p) (whole_same made program is))

-- The bytes are a source without errors on names, and this is its program.
pub record IsWhole (bytes : List ℕ) (program : Program) : Type 0 where
  pub tokens : List Token
  pub lexing : Tokens bytes tokens
  pub few : length tokens ≤ most_tokens
  pub source : Source
  pub has : HasTree tokens source
  pub accepts : Accepts source
  pub plain : program_of (names source) source.classes ≡ Ok program

pub whole_source : (bytes : List ℕ) (program : Program) (finding : Finding) → Found bytes finding → finding ≡ Whole program → IsWhole bytes program
whole_source bytes program _ (too_long past) is = absurd (cc)
whole_source bytes program finding (no_tokens why short fails same) is = absurd (lexed_whole why finding program same is)
whole_source bytes program finding (lexed tokens short lexing few (no_tree why none same)) is = absurd (parsed_whole tokens (length bytes) why finding program same is)
whole_source bytes program finding (lexed tokens short lexing few (tree unit has within)) is =
    let fine = whole_in unit program finding within is in
    record { tokens = tokens; lexing = lexing; few = few; source = unit; has = has; accepts = fine.0; plain = fine.1 }

pub named_bytes : (bytes : List ℕ) (program : Program) → Found bytes (Whole program) → IsNamed bytes
named_bytes bytes program found =
    let whole = whole_source bytes program (Whole program) found refl in
    record { tokens = whole.tokens; lexed = whole.lexing; few = whole.few; tree = record { source = whole.source; parsed = whole.has; accepts = whole.accepts } }
