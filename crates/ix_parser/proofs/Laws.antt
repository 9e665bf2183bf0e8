-- What the grammar gives a list of tokens: one tree or one error, and never both.
use Rattle.std.proofs.Common.{◌≡◌, List, [], ◌∷◌, Ok, Err, refl, arith, ◌⊎◌, inl, inr}
use Rattle.ix_lexer.specs.declared.token.Token.{Token}
use Rattle.ix_tree.specs.declared.decl.Unit.{Unit as Source}
use Rattle.ix_grammar.specs.declared.classes.FoundUnit.{FoundUnit}
use Rattle.ix_grammar.specs.declared.error.ParseError.{ParseError}
use Rattle.ix_grammar.specs.Refusals.{HasTree, Refused}
use Rattle.ix_grammar_rules.specs.declared.stop.Stop.TheVariants as stop
use Rattle.ix_grammar_rules.specs.Rule.{Outcome, run}
use Rattle.ix_grammar_rules.specs.SourceRules.{source}
use Rattle.ix_grammar_rules.proofs.SourceLaws.{source_is_read}
use Rattle.ix_parser.proofs.Refusing.{has_tree, only_tree, never_memory}
use Rattle.ix_parser.proofs.ExactPlaces.{refused_exact, refused_one, refused_no_tree}
use Rattle.ix_parser.proofs.Answered.{viable, over, over_refused}

-- at most one tree
pub one_tree : (tokens : List Token) (a b : Source) → HasTree tokens a → HasTree tokens b → a ≡ b
one_tree tokens a b (height, low) other = (only_tree tokens [] (record { unit = a; height = height }) b (source_is_read tokens (record { unit = a; height = height }) low) other).1

-- at most one error
pub one_error : (tokens : List Token) (e f : ParseError) → Refused tokens e → Refused tokens f → e ≡ f
one_error = refused_one

-- never both
pub not_both : (tokens : List Token) (unit : Source) (e : ParseError) → HasTree tokens unit → Refused tokens e → ⊥
not_both tokens unit e (height, low) d = refused_no_tree tokens e (record { unit = unit; height = height }) d low

-- one of the two always
abbrev pub Decided : List Token → Type 0
Decided tokens = ((unit : Source) × HasTree tokens unit) ⊎ ((e : ParseError) × Refused tokens e)

by_outcome : (tokens : List Token) (o : Outcome FoundUnit) → run source tokens ≡ o → Decided tokens
by_outcome tokens (Ok (found, [])) h = inl (found.unit, has_tree tokens [] found refl h)
by_outcome tokens (Ok (found, token ∷ later)) h = inr (_, over_refused tokens (token ∷ later) found (λ none. omega (arith, none)) h)
by_outcome tokens (Err (stop.Syntax, left)) h = inr (_, refused_exact viable over tokens left stop.Syntax (λ same. cc) h)
by_outcome tokens (Err (stop.TooDeep, left)) h = inr (_, refused_exact viable over tokens left stop.TooDeep (λ same. cc) h)
by_outcome tokens (Err (stop.Memory, left)) h = absurd (never_memory tokens left h)

pub decided : (tokens : List Token) → Decided tokens
decided tokens = by_outcome tokens (run source tokens) refl
