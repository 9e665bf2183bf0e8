-- What the bytes of a file turn out to be.
use Rattle.std.specs.Prelude.{◌≡◌, ◌≤◌, ◌<◌, ℕ, List, [], ◌∷◌, Option, Some, None, Ok, Err, length, drop, codes}
use Rattle.ix_lexer.specs.declared.token.LexError.{LexError}
use Rattle.ix_lexer.specs.declared.token.LexError.TheVariants as lexical
use Rattle.ix_lexer.specs.declared.token.Token.{Token}
use Rattle.ix_lexer.specs.Tokens.{Tokens, Fails, most_tokens}
use Rattle.ix_tree.specs.declared.decl.Unit.{Unit as Source}
use Rattle.ix_grammar.specs.declared.error.ParseError.{ParseError}
use Rattle.ix_grammar.specs.declared.error.ParseError.TheVariants as syntax
use Rattle.ix_grammar.specs.Refusals.{HasTree, Refused}
use Rattle.ix_meaning.specs.declared.note.NameError.{NameError}
use Rattle.ix_meaning.specs.declared.note.NameErrors.{NameErrors}
use Rattle.ix_meaning.specs.declared.note.NameErrors.TheVariants as refusal
use Rattle.ix_meaning.specs.Limits.{Passed, limit, inheritance_limit}
use Rattle.ix_meaning.specs.Resolved.{name_errors, Accepts, IsRefused, names}
use Rattle.ix_report.specs.Names.{limit_name}
use Rattle.ix_core.specs.declared.program.Program.{Program}
use Rattle.ix_source.specs.LowerError.{LowerError}
use Rattle.ix_source.specs.LowerError.TheVariants as lowering
use Rattle.ix_plain.specs.Program.{program}
use Rattle.ix_outside.specs.Reading.{most_bytes}

pub data Finding : Type 0 where
  -- more bytes than a source may have
  TooLong : Finding
  -- a lexical error or a syntax error at a byte, by its key
  Broken : ℕ → List ℕ → Finding
  -- a limit that is passed at a byte, by its name
  Past : ℕ → List ℕ → Finding
  -- errors on names, types and annotations, as they are listed
  Misnamed : List NameError → Finding
  -- a source without these: its program
  Whole : Program → Finding

-- a text without tokens; want of memory is no finding
abbrev pub of_lex_error : LexError → Option Finding
of_lex_error (lexical.BadUtf8 at) = Some (Broken at (codes "bad.utf8"))
of_lex_error (lexical.BadChar at) = Some (Broken at (codes "bad.character"))
of_lex_error (lexical.OpenComment at) = Some (Broken at (codes "open.comment"))
of_lex_error (lexical.OpenString at) = Some (Broken at (codes "open.string"))
of_lex_error (lexical.BadNumber at) = Some (Broken at (codes "bad.number"))
of_lex_error (lexical.TooMany at) = Some (Past at (codes "tokens"))
of_lex_error lexical.Memory = None

-- where the first of these tokens starts, or the text's end
abbrev pub start_of : List Token → ℕ → ℕ
start_of [] end = end
start_of (token ∷ later) end = token.span.from

-- tokens without a tree, in a text of that length
abbrev pub of_parse_error : List Token → ℕ → ParseError → Option Finding
of_parse_error tokens end (syntax.Syntax number) = Some (Broken (start_of (drop number tokens) end) (codes "syntax"))
of_parse_error tokens end (syntax.TooDeep from) = Some (Past from (codes "height"))
of_parse_error tokens end syntax.Memory = None

-- a limit that is passed
abbrev pub of_limit : Passed → Finding
of_limit p = Past p.place (limit_name p.which)

-- a source whose names have errors; want of memory is no finding
abbrev pub of_name_errors : NameErrors → Option Finding
of_name_errors (refusal.Errors errors) = Some (Misnamed errors)
of_name_errors (refusal.Limit which place) = Some (Past place (limit_name which))
of_name_errors refusal.Memory = None

-- a source that has no plain form; want of memory is no finding
abbrev pub of_lower_error : LowerError → Option Finding
of_lower_error (lowering.Limit which place) = Some (Past place (limit_name which))
of_lower_error lowering.Memory = None

-- This is found of a source. The first that holds decides: a limit of the source, errors on names, the limit of inheritance, a limit of its
-- methods' loops, slots or operations.
pub data FoundIn (source : Source) : Finding → Type 0 where
  passes_limit : (p : Passed) → limit source.classes ≡ Some p → FoundIn source (of_limit p)
  misnames : (errors : List NameError) → IsRefused source errors → FoundIn source (Misnamed errors)
  inherits : (p : Passed) → limit source.classes ≡ None → name_errors source ≡ [] → inheritance_limit source.classes ≡ Some p → FoundIn source (of_limit p)
  too_big : (p : Passed) → Accepts source → program (names source) source.classes ≡ Err p → FoundIn source (of_limit p)
  named : (made : Program) → Accepts source → program (names source) source.classes ≡ Ok made → FoundIn source (Whole made)

-- This is found of the tokens of a text of that length.
pub data FoundOf (tokens : List Token) (end : ℕ) : Finding → Type 0 where
  no_tree : {finding : Finding} (why : ParseError) → Refused tokens why → of_parse_error tokens end why ≡ Some finding → FoundOf tokens end finding
  tree : {finding : Finding} (source : Source) → HasTree tokens source → FoundIn source finding → FoundOf tokens end finding

-- This is found of the bytes of a file. The first that holds decides: too many bytes, no tokens, no tree, what is found of the tree.
pub data Found (bytes : List ℕ) : Finding → Type 0 where
  too_long : most_bytes < length bytes → Found bytes TooLong
  no_tokens : {finding : Finding} (why : LexError) → length bytes ≤ most_bytes → Fails bytes why → of_lex_error why ≡ Some finding → Found bytes finding
  lexed : {finding : Finding} (tokens : List Token) → length bytes ≤ most_bytes → Tokens bytes tokens → length tokens ≤ most_tokens → FoundOf tokens (length bytes) finding
      → Found bytes finding
