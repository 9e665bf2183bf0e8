-- Bytes have one list of tokens or one cause for which they have none, and never both.
use Rattle.std.proofs.Common.{◌≡◌, ℕ, ◌≤◌, List, length, Option, Some, None, refl, sym, ap, subst, ◌∙◌, ◌⊎◌, inl, inr}
use Rattle.std.specs.Str.{IsUtf8, IsValidUpTo}
use Rattle.std.proofs.lemmas.Str.{encodes_same, utf8_valid_len-IsValidUpTo}
use Rattle.ix_lexer.specs.declared.token.Token.{Token}
use Rattle.ix_lexer.specs.declared.token.LexError.{LexError}
use Rattle.ix_lexer.specs.declared.token.LexError.TheVariants as error
use Rattle.ix_lexer.specs.Characters.{Text}
use Rattle.ix_lexer.specs.Tokens.{most_tokens, first_escape, StopsFirst, Spells, Complete, Stopped, Tokens, Fails}
use Rattle.ix_lexer.proofs.OneAnswer as one

same_text : (bytes : List ℕ) (text other : Text) → Spells text bytes → Spells other bytes → text ≡ other
same_text bytes text other a b = encodes_same text other (a.1 ∙ sym b.1)

-- ---- the cause

-- the bytes are no text, or the text has no tokens
abbrev Cause : List ℕ → LexError → Type 0
Cause bytes why =
    ((k : ℕ) × (why ≡ error.BadUtf8 k) × (IsUtf8 bytes → ⊥) × IsValidUpTo bytes k) ⊎ ((text : Text) × Spells text bytes × StopsFirst (first_escape text) text why)

cause : (bytes : List ℕ) (why : LexError) → Fails bytes why → Cause bytes why
cause bytes (error.BadUtf8 k) f = inl (k, refl, f.0, f.1)
cause bytes (error.BadChar k) f = inr f
cause bytes (error.OpenComment k) f = inr f
cause bytes (error.OpenString k) f = inr f
cause bytes (error.BadNumber k) f = inr f
cause bytes (error.TooMany k) f = inr f
cause bytes error.Memory f = inr f

one_first : (escape : Option ℕ) (text : Text) (x y : LexError) → StopsFirst escape text x → StopsFirst escape text y → x ≡ y
one_first None text x y a b = one.one_cause text x y a b
one_first (Some place) text x y (inl a) (inl b) = one.one_cause text x y a.0 b.0
one_first (Some place) text x y (inl a) (inr b) = absurd (b.1 x a.0 a.1)
one_first (Some place) text x y (inr a) (inl b) = absurd (a.1 y b.0 b.1)
one_first (Some place) text x y (inr a) (inr b) = a.0 ∙ sym b.0

causes : (bytes : List ℕ) (x y : LexError) → Cause bytes x → Cause bytes y → x ≡ y
causes bytes x y (inl a) (inl b) = a.1 ∙ ap error.BadUtf8 (sym (utf8_valid_len-IsValidUpTo bytes a.0 a.3) ∙ utf8_valid_len-IsValidUpTo bytes b.0 b.3) ∙ sym b.1
causes bytes x y (inl a) (inr b) = absurd (a.2 (b.0, b.1))
causes bytes x y (inr a) (inl b) = absurd (b.2 (a.0, a.1))
causes bytes x y (inr a) (inr b) = one_first (first_escape a.0) a.0 x y a.2 (subst (λ t. StopsFirst (first_escape t) t y) (same_text bytes b.0 a.0 b.1 a.1) b.2)

pub one_failure : (bytes : List ℕ) (x y : LexError) → Fails bytes x → Fails bytes y → x ≡ y
one_failure bytes x y a b = causes bytes x y (cause bytes x a) (cause bytes y b)

-- ---- the tokens

pub one_lexing : (bytes : List ℕ) (ts us : List Token) → Tokens bytes ts → Tokens bytes us → length ts ≤ most_tokens → length us ≤ most_tokens → ts ≡ us
one_lexing bytes ts us a b m n = one.one_list a.0 ts us a.2 (subst (λ t. Complete t us) (same_text bytes b.0 a.0 b.1 a.1) b.2) m n

-- ---- never both

stopped : (escape : Option ℕ) (text : Text) (why : LexError) → escape ≡ None → StopsFirst escape text why → Stopped text why
stopped None text why e s = s
stopped (Some place) text why e s = absurd (let h = e in cc)

never : (bytes : List ℕ) (ts : List Token) (why : LexError) → Tokens bytes ts → length ts ≤ most_tokens → Cause bytes why → ⊥
never bytes ts why a m (inl b) = b.2 (a.0, a.1)
never bytes ts why a m (inr b) =
    one.not_both a.0 ts why a.2 m (stopped (first_escape a.0) a.0 why a.3 (subst (λ t. StopsFirst (first_escape t) t why) (same_text bytes b.0 a.0 b.1 a.1) b.2))

pub never_both : (bytes : List ℕ) (ts : List Token) (why : LexError) → Tokens bytes ts → length ts ≤ most_tokens → Fails bytes why → ⊥
never_both bytes ts why a m f = never bytes ts why a m (cause bytes why f)
