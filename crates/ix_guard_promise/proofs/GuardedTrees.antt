-- The tree of a guarded text: it is accepted, stands beside that of its source, and its names mean the same.
use Rattle.std.proofs.Common.{◌≡◌, ◌≤◌, ℕ, List, length, refl, sym, ap, subst}
use Rattle.ix_core.specs.declared.error.Error.{Error}
use Rattle.ix_lexer.specs.declared.token.Token.{Token}
use Rattle.ix_lexer.specs.Tokens.{Tokens, most_tokens}
use Rattle.ix_tree.specs.declared.decl.Unit.{Unit as Source}
use Rattle.ix_grammar.specs.declared.classes.FoundUnit.{FoundUnit}
use Rattle.ix_grammar.specs.Refusals.{HasTree}
use Rattle.ix_grammar.specs.SourceGrammar.{IsSource}
use Rattle.ix_meaning.specs.Resolved.{Accepts, names}
use Rattle.ix_formed.specs.Parsed.{IsParsed}
use Rattle.ix_guard.specs.Guards.{guarded, insertions}
use Rattle.ix_guard.specs.Tests.{Site}
use Rattle.ix_guard_text.proofs.DerivedAnswers.{one_lexing, one_source}
use Rattle.ix_guard_text.specs.Inserted.{added}
use Rattle.ix_guard_text.proofs.GuardedAgain.{derived_accepts}
use Rattle.ix_guard_text.proofs.ParsedJoint.{parsed_joint}
use Rattle.ix_guard_text.specs.GuardedPlaces.{PlacedSource, GuardedAt}
use Rattle.ix_guard_text.specs.GuardedNames.{SaysMoved, IsMeant}
use Rattle.ix_guard_text.specs.TestParts.{IsWritten}
use Rattle.ix_guard_text.proofs.SourcePlaces.{guarded_places}
use Rattle.ix_guard_text.proofs.MovedSays.{inserted_says}
use Rattle.ix_guard_text.proofs.PlacedSays.{placed_says}
use Rattle.ix_guard_text.proofs.PlacedMeant.{placed_meant}
use Rattle.ix_guard_text.specs.Guarding.{IsGuarded}
use Rattle.ix_guard_text.proofs.DerivedGuards.{text_derives}
use Rattle.ix_guard_promise.specs.Promise.{IsTreeOf, into_guarded}

-- each tree of the tokens of bytes has what a parsed tree has
abbrev pub TreesParsed : Type 0
TreesParsed = (bytes : List ℕ) (tokens : List Token) (unit : Source) → Tokens bytes tokens → length tokens ≤ most_tokens → HasTree tokens unit → IsParsed unit

module _ (tree_parsed : TreesParsed) (bytes : List ℕ) (errors : List Error) (text : List ℕ) (is : IsGuarded bytes errors text) where
  abbrev pub old : Source
  old = is.named.tree.source

  abbrev pub site : Site
  site = record { names = names old; errors = errors }

  abbrev found : FoundUnit
  found = record { unit = old; height = is.named.tree.parsed.0 }

  stands : GuardedAt text site (into_guarded old errors) found
  stands = subst (λ b. GuardedAt b site (into_guarded old errors) found) (sym is.text_is) (guarded_places bytes is.named.tokens found (names old) errors is.named.lexed is.named.tree.parsed.1.0)

  pub old_parsed : IsParsed old
  old_parsed = tree_parsed bytes is.named.tokens old is.named.lexed is.named.few is.named.tree.parsed

  module _ (new : Source) (has : IsTreeOf text new) where
    same_tree : stands.other.unit ≡ new
    same_tree =
        let tokens : stands.tokens ≡ has.tokens = one_lexing text stands.tokens has.tokens stands.text has.lexed in
        ap (λ (f : FoundUnit). f.unit) (one_source has.tokens stands.other (record { unit = new; height = has.parsed.0 }) (subst (λ ts. IsSource ts stands.other) tokens stands.is) has.parsed.1.0)

    pub new_parsed : IsParsed new
    new_parsed = tree_parsed text has.tokens new has.lexed has.few has.parsed

    pub new_accepts : Accepts new
    new_accepts = derived_accepts text old (names old) errors (text_derives bytes errors text is is.named) old_parsed.readable (parsed_joint bytes is.named.tokens old is.named.lexed is.named.tree.parsed)
        is.named.tree.accepts has.tokens new has.lexed has.parsed

    written : PlacedSource site (into_guarded old errors) (IsWritten (into_guarded old errors)) old new
    written = subst (PlacedSource site (into_guarded old errors) (IsWritten (into_guarded old errors)) old) same_tree stands.placed

    pub says : SaysMoved (names old) (names new) (into_guarded old errors)
    says = placed_says (into_guarded old errors) site old new written (inserted_says (added (insertions site old)) old is.named.tree.accepts)

    pub meant : PlacedSource site (into_guarded old errors) (IsMeant (names old) (names new) (into_guarded old errors)) old new
    meant = placed_meant site (into_guarded old errors) old new refl written says new_parsed.can new_accepts
