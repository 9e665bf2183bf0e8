-- Of all bytes something is found.
use Rattle.std.proofs.Common.{◌≡◌, ℕ, ◌≤◌, List, [], ◌∷◌, length, Option, Some, None, Result, Ok, Err, refl, inl, inr}
use Rattle.std.proofs.lemmas.Bool.{cases_lt}
use Rattle.ix_lexer.specs.declared.token.Token.{Token}
use Rattle.ix_lexer.specs.declared.token.LexError.{LexError}
use Rattle.ix_lexer.specs.declared.token.LexError.TheVariants as lexical
use Rattle.ix_lexer.specs.Tokens.{Fails, StopsFirst, first_escape}
use Rattle.ix_lexer.specs.Characters.{Text}
use Rattle.ix_tree.specs.declared.decl.Unit.{Unit as Source}
use Rattle.ix_grammar.specs.declared.error.ParseError.{ParseError}
use Rattle.ix_grammar.specs.declared.error.ParseError.TheVariants as syntax
use Rattle.ix_grammar.specs.Refusals.{Refused, unfinished, no_further, too_deep}
use Rattle.ix_meaning.specs.declared.note.NameError.{NameError}
use Rattle.ix_meaning.specs.Limits.{Passed, limit, inheritance_limit}
use Rattle.ix_meaning.specs.Resolved.{name_errors, Accepts, names}
use Rattle.ix_core.specs.declared.program.Program.{Program}
use Rattle.ix_outside.specs.Reading.{most_bytes}
use Rattle.ix_parser.proofs.Laws.{decided}
use Rattle.ix_plain.specs.Program.{program}
use Rattle.ix_front.specs.Found.{Finding, TooLong, Misnamed, Whole, Found, too_long, no_tokens, lexed, FoundOf, no_tree, tree, FoundIn, passes_limit, misnames, inherits, too_big, named, of_limit}
use Rattle.ix_front.proofs.EachText.{each_bytes}
use Rattle.ix_symbols.proofs.SomeList.{some_list}

-- ---- of a tree

by_program : (source : Source) → Accepts source → (o : Result Program Passed) → program (names source) source.classes ≡ o → (finding : Finding) × FoundIn source finding
by_program source accepts (Err p) h = (of_limit p, too_big p accepts h)
by_program source accepts (Ok made) h = (Whole made, named made accepts h)

by_inheritance : (source : Source) → limit source.classes ≡ None → name_errors source ≡ [] → (o : Option Passed) → inheritance_limit source.classes ≡ o → (finding : Finding) × FoundIn source finding
by_inheritance source within clean (Some p) h = (of_limit p, inherits p within clean h)
by_inheritance source within clean None h =
    by_program source (record { within = within; no_errors = clean; few_inherited = h }) (program (names source) source.classes) refl

by_errors : (source : Source) → limit source.classes ≡ None → (es : List NameError) → name_errors source ≡ es → (finding : Finding) × FoundIn source finding
by_errors source within [] h = by_inheritance source within h (inheritance_limit source.classes) refl
by_errors source within (e ∷ es) h =
    let l = some_list (name_errors source) (λ none. cc) in
    (Misnamed l.0, misnames l.0 (record { within = within; listed = l.1; some = l.2 }))

by_limit : (source : Source) (o : Option Passed) → limit source.classes ≡ o → (finding : Finding) × FoundIn source finding
by_limit source (Some p) h = (of_limit p, passes_limit p h)
by_limit source None h = by_errors source h (name_errors source) refl

-- ---- of tokens

no_memory : (tokens : List Token) (why : ParseError) → Refused tokens why → why ≡ syntax.Memory → ⊥
no_memory tokens _ (unfinished stops) h = cc
no_memory tokens _ (no_further stops is none) h = cc
no_memory tokens _ (too_deep stops is some) h = cc

refused_as : (tokens : List Token) (end : ℕ) (why : ParseError) → Refused tokens why → (finding : Finding) × FoundOf tokens end finding
refused_as tokens end (syntax.Syntax number) refused = (_, no_tree (syntax.Syntax number) refused refl)
refused_as tokens end (syntax.TooDeep from) refused = (_, no_tree (syntax.TooDeep from) refused refl)
refused_as tokens end syntax.Memory refused = absurd (no_memory tokens syntax.Memory refused refl)

finding_of : (tokens : List Token) (end : ℕ) → (finding : Finding) × FoundOf tokens end finding
finding_of tokens end =
    elim (decided tokens) [
      | inl t ↦ let f = by_limit t.0 (limit t.0.classes) refl in (f.0, tree t.0 t.1 f.1)
      | inr r ↦ refused_as tokens end r.0 r.1
    ]

-- ---- of bytes

no_want : (escape : Option ℕ) (text : Text) → StopsFirst escape text lexical.Memory → ⊥
no_want None text s = s.5
no_want (Some place) text (inl s) = s.0.5
no_want (Some place) text (inr s) = let e = s.0 in cc

unlexed : (bytes : List ℕ) → length bytes ≤ most_bytes → (why : LexError) → Fails bytes why → (finding : Finding) × Found bytes finding
unlexed bytes short (lexical.BadUtf8 at) fails = (_, no_tokens (lexical.BadUtf8 at) short fails refl)
unlexed bytes short (lexical.BadChar at) fails = (_, no_tokens (lexical.BadChar at) short fails refl)
unlexed bytes short (lexical.OpenComment at) fails = (_, no_tokens (lexical.OpenComment at) short fails refl)
unlexed bytes short (lexical.OpenString at) fails = (_, no_tokens (lexical.OpenString at) short fails refl)
unlexed bytes short (lexical.BadNumber at) fails = (_, no_tokens (lexical.BadNumber at) short fails refl)
unlexed bytes short (lexical.TooMany at) fails = (_, no_tokens (lexical.TooMany at) short fails refl)
unlexed bytes short lexical.Memory fails = absurd (no_want (first_escape fails.0) fails.0 fails.2)

pub some_finding : (bytes : List ℕ) → (finding : Finding) × Found bytes finding
some_finding bytes =
    elim (cases_lt most_bytes (length bytes)) [
      | inl long ↦ (TooLong, too_long long)
      | inr short ↦ elim (each_bytes bytes) [
        | inl t ↦ let f = finding_of t.0 (length bytes) in (f.0, lexed t.0 short t.1 t.2 f.1)
        | inr s ↦ unlexed bytes short s.0 s.1
      ]
    ]
