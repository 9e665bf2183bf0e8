-- Of what stops a reading and of an escape, the one that stands first refuses the text.
use Rattle.std.proofs.Common.{◌≡◌, ℕ, List, Option, Some, None, refl, sym, subst, ◌∙◌, inl, inr, ◌≢◌}
use Rattle.ix_lexer.specs.declared.token.Token.{Token}
use Rattle.ix_lexer.specs.declared.token.LexError.{LexError}
use Rattle.ix_lexer.specs.declared.token.LexError.TheVariants as error
use Rattle.ix_lexer.specs.Characters.{Text}
use Rattle.ix_lexer.specs.Spans.{IsWithin}
use Rattle.ix_lexer.specs.Steps.{HasTokens, IsFirst}
use Rattle.ix_lexer.specs.Tokens.{first_escape, StopsFirst, Stopped}
use Rattle.ix_lexer.proofs.OneAnswer.{not_both, one_cause}

-- where nothing stops the reading
pub escape_alone : (text : Text) (tokens : List Token) (place : ℕ) (escape : Option ℕ) → escape ≡ first_escape text → escape ≡ Some place → HasTokens text tokens
    → StopsFirst (first_escape text) text (error.BadChar place)
escape_alone text tokens place escape e s a =
    subst (λ f. StopsFirst f text (error.BadChar place)) (sym s ∙ e) (inr (refl, λ other o w. not_both text tokens other a.0 a.1 o))

no_memory : (why : LexError) (place : ℕ) → (IsWithin place why → ⊥) → why ≢ error.Memory
no_memory why place n h = n (subst (IsWithin place) (sym h) tt)

-- where something stops it
pub first_of_both : (text : Text) (why result : LexError) (escape : Option ℕ) → (why ≢ error.Memory → Stopped text why) → IsFirst why escape result → result ≢ error.Memory → StopsFirst escape text result
first_of_both text why result None s c m = subst (Stopped text) (sym c) (s (λ h. m (c ∙ h)))
first_of_both text why result (Some place) s (inl c) m = inl (subst (λ x. Stopped text x × IsWithin place x) (sym c.0) (s (λ h. m (c.0 ∙ h)), c.1))
first_of_both text why result (Some place) s (inr c) m =
    inr (c.0, λ other o w. c.1 (subst (IsWithin place) (one_cause text other why o (s (no_memory why place c.1))) w))
