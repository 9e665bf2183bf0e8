-- A guarded text passes a limit, or has a program.
use Rattle.std.specs.Prelude.{codes}
use Rattle.std.proofs.Common.{◌≡◌, inl, inr, ℕ, List, length, Some, subst}
use Rattle.ix_core.specs.declared.error.Error.{Error}
use Rattle.ix_lexer.specs.declared.token.Token.{Token}
use Rattle.ix_lexer.specs.declared.token.LexError.{LexError}
use Rattle.ix_lexer.specs.declared.token.LexError.TheVariants as lexical
use Rattle.ix_lexer.specs.Tokens.{Tokens}
use Rattle.ix_tree.specs.declared.decl.Unit.{Unit as Source}
use Rattle.ix_grammar.specs.declared.error.ParseError.{ParseError}
use Rattle.ix_grammar.specs.declared.error.ParseError.TheVariants as syntax
use Rattle.ix_grammar.specs.Refusals.{HasTree}
use Rattle.ix_guard_text.proofs.Laws as parsing
use Rattle.ix_meaning.specs.Resolved.{Accepts, names, name_errors}
use Rattle.ix_report.proofs.OneList.{none_listed}
use Rattle.ix_front.specs.Found.{Finding, Found, too_long, no_tokens, lexed, no_tree, tree, FoundIn, passes_limit, misnames, inherits, too_big, named, of_lex_error, of_parse_error, Past}
use Rattle.ix_front.proofs.BytesFound.{some_is}
use Rattle.ix_front.proofs.FoundPrograms.{tree_parsed}
use Rattle.ix_guard_text.specs.Derived.{Derives}
use Rattle.ix_guard_text.proofs.DerivedAnswers.{derived_many, derived_tree}
use Rattle.ix_guard_text.proofs.GuardedAgain.{derived_accepts}
use Rattle.ix_guard_text.proofs.ParsedJoint.{parsed_joint}
use Rattle.ix_guard_text.specs.Guarding.{IsGuarded, IsNamed, tree_by}
use Rattle.ix_guard_text.proofs.DerivedGuards.{text_derives}
use Rattle.ix_commands.specs.Findings.{MayBeGuarded}

too_many : (place : ℕ) (why : LexError) (finding : Finding) → why ≡ lexical.TooMany place → of_lex_error why ≡ Some finding → MayBeGuarded finding
too_many place (lexical.TooMany at) finding is same = subst MayBeGuarded (some_is (Past at (codes "tokens")) finding same) tt
too_many place (lexical.BadUtf8 at) finding is same = cc
too_many place (lexical.BadChar at) finding is same = cc
too_many place (lexical.OpenComment at) finding is same = cc
too_many place (lexical.OpenString at) finding is same = cc
too_many place (lexical.BadNumber at) finding is same = cc
too_many place lexical.Memory finding is same = cc

too_deep : (tokens : List Token) (end place : ℕ) (why : ParseError) (finding : Finding) → why ≡ syntax.TooDeep place → of_parse_error tokens end why ≡ Some finding → MayBeGuarded finding
too_deep tokens end place (syntax.TooDeep at) finding is same = subst MayBeGuarded (some_is (Past at (codes "height")) finding same) tt
too_deep tokens end place (syntax.Syntax number) finding is same = cc
too_deep tokens end place syntax.Memory finding is same = cc

accepted_in : (source : Source) (finding : Finding) → Accepts source → FoundIn source finding → MayBeGuarded finding
accepted_in source _ accepts (passes_limit p is) = tt
accepted_in source _ accepts (misnames errors refused) = refused.some (none_listed (name_errors source) errors refused.listed accepts.no_errors)
accepted_in source _ accepts (inherits p within clean is) = tt
accepted_in source _ accepts (too_big p also is) = tt
accepted_in source _ accepts (named made also is) = tt

-- a tree of a guarded text has no errors on names
guarded_named : (bytes : List ℕ) (errors : List Error) (text : List ℕ) (whole : IsNamed bytes) → Derives text (tree_by whole errors) → (tokens : List Token) (source : Source) → Tokens text tokens → HasTree tokens source
    → Accepts source
guarded_named bytes errors text whole derives tokens source lexing has =
    let old = whole.tree.source in
    let readable = (tree_parsed bytes whole.tokens old whole.lexed whole.few whole.tree.parsed).readable in
    derived_accepts text old (names old) errors derives readable (parsed_joint bytes whole.tokens old whole.lexed whole.tree.parsed) whole.tree.accepts tokens source lexing has

pub guarded_finding : (bytes : List ℕ) (errors : List Error) (text : List ℕ) (finding : Finding) → IsGuarded bytes errors text → Found text finding → MayBeGuarded finding
guarded_finding bytes errors text finding is found = go finding found
  where
    whole : IsNamed bytes
    whole = is.named

    derives : Derives text (tree_by whole errors)
    derives = text_derives bytes errors text is whole

    go : (other : Finding) → Found text other → MayBeGuarded other
    go _ (too_long past) = tt
    go other (no_tokens why short fails same) = let many = derived_many text (tree_by whole errors) derives why fails in too_many many.0 why other many.1 same
    go other (lexed tokens short lexing few (tree source has within)) = accepted_in source other (guarded_named bytes errors text whole derives tokens source lexing has) within
    go other (lexed tokens short lexing few (no_tree why refused same)) = elim (derived_tree text (tree_by whole errors) derives tokens lexing) [
      | inl one ↦ absurd (parsing.not_both tokens one.0 why one.1 refused)
      | inr deep ↦ too_deep tokens (length text) deep.0 why other (parsing.one_error tokens why (syntax.TooDeep deep.0) refused deep.1) same
    ]
