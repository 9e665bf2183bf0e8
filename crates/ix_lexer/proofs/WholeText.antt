-- What holds of a text's characters, said of its bytes.
use Rattle.std.proofs.Common.{◌≡◌, ℕ, ◌<◌, ◌≤◌, List, length, Option, Some, None, Result, Ok, Err, refl, sym, ap, subst, ◌∙◌, arith, ◌⊎◌, inl, inr, ◌≢◌, Vec, Global}
use Rattle.std.specs.Prelude.{IfOk, IfErr, MatchResult}
use Rattle.std.specs.Str.{chars, IsUtf8, IsValidUpTo}
use Rattle.std.proofs.lemmas.Str.{encodes-chars, scalars-chars, encodes_same, utf8_valid_len-IsValidUpTo}
use Rattle.ix_lexer.specs.declared.token.Token.{Token}
use Rattle.ix_lexer.specs.declared.token.LexError.{LexError}
use Rattle.ix_lexer.specs.declared.token.LexError.TheVariants as error
use Rattle.ix_lexer.specs.Characters.{Text}
use Rattle.ix_lexer.specs.Steps.{HasTokens}
use Rattle.ix_lexer.specs.Tokens.{most_tokens, size, first_escape, StopsFirst, Spells, Complete, Stopped, Tokens, Fails}
use Rattle.ix_lexer.proofs.OneAnswer.{one_list, not_both, one_cause}

abbrev pub Answer : Type 0
Answer = Result (Vec Token Global) LexError

pub same_text : (bytes : List ℕ) (text other : Text) → Spells text bytes → Spells other bytes → text ≡ other
same_text bytes text other a b = encodes_same text other (a.1 ∙ sym b.1)

pub size_of : (bytes text : List ℕ) (n : ℕ) → IsUtf8 bytes → text ≡ chars bytes → length bytes < n → size text < n
size_of bytes text n u e h = omega (arith, ap size e, ap length (encodes-chars bytes u))

-- ---- what stands first, of a stop and an escape

no_utf8 : (escape : Option ℕ) (text : Text) (k : ℕ) → StopsFirst escape text (error.BadUtf8 k) → ⊥
no_utf8 None text k s = s.5
no_utf8 (Some place) text k (inl s) = s.0.5
no_utf8 (Some place) text k (inr s) = let e = s.0 in cc

without_escape : (escape : Option ℕ) (text : Text) (why : LexError) → escape ≡ None → StopsFirst escape text why → Stopped text why
without_escape None text why e s = s
without_escape (Some place) text why e s = absurd (let h = e in cc)

pub one_first : (escape : Option ℕ) (text : Text) (x y : LexError) → StopsFirst escape text x → StopsFirst escape text y → x ≡ y
one_first None text x y a b = one_cause text x y a b
one_first (Some place) text x y (inl a) (inl b) = one_cause text x y a.0 b.0
one_first (Some place) text x y (inl a) (inr b) = absurd (b.1 x a.0 a.1)
one_first (Some place) text x y (inr a) (inl b) = absurd (a.1 y b.0 b.1)
one_first (Some place) text x y (inr a) (inr b) = a.0 ∙ sym b.0

module _ (bytes : List ℕ) (u : IsUtf8 bytes) (text : Text) (is : text ≡ chars bytes) where
  spelled : Spells text bytes
  spelled = subst (λ t. Spells t bytes) (sym is) (scalars-chars bytes u, encodes-chars bytes u)

  fails : (why : LexError) → StopsFirst (first_escape text) text why → Fails bytes why
  fails (error.BadUtf8 k) s = absurd (no_utf8 (first_escape text) text k s)
  fails (error.BadChar k) s = (text, spelled, s)
  fails (error.OpenComment k) s = (text, spelled, s)
  fails (error.OpenString k) s = (text, spelled, s)
  fails (error.BadNumber k) s = (text, spelled, s)
  fails (error.TooMany k) s = (text, spelled, s)
  fails error.Memory s = (text, spelled, s)

  complete : (tokens : List Token) → Tokens bytes tokens → Complete text tokens × (first_escape text ≡ None)
  complete tokens t = subst (λ x. Complete x tokens × (first_escape x ≡ None)) (same_text bytes t.0 text t.1 spelled) (t.2, t.3)

  stopped_as : (why : LexError) → (other : Text) × Spells other bytes × StopsFirst (first_escape other) other why → StopsFirst (first_escape text) text why
  stopped_as why f = subst (λ x. StopsFirst (first_escape x) x why) (same_text bytes f.0 text f.1 spelled) f.2

  stopped : (why : LexError) → Fails bytes why → StopsFirst (first_escape text) text why
  stopped (error.BadUtf8 k) f = absurd (f.0 u)
  stopped (error.BadChar k) f = stopped_as (error.BadChar k) f
  stopped (error.OpenComment k) f = stopped_as (error.OpenComment k) f
  stopped (error.OpenString k) f = stopped_as (error.OpenString k) f
  stopped (error.BadNumber k) f = stopped_as (error.BadNumber k) f
  stopped (error.TooMany k) f = stopped_as (error.TooMany k) f
  stopped error.Memory f = stopped_as error.Memory f

  memory_or : (why : LexError) → (why ≡ error.Memory) ⊎ (why ≢ error.Memory)
  memory_or (error.BadUtf8 k) = inr (λ h. cc)
  memory_or (error.BadChar k) = inr (λ h. cc)
  memory_or (error.OpenComment k) = inr (λ h. cc)
  memory_or (error.OpenString k) = inr (λ h. cc)
  memory_or (error.BadNumber k) = inr (λ h. cc)
  memory_or (error.TooMany k) = inr (λ h. cc)
  memory_or error.Memory = inl refl

  -- a text that has its tokens is refused for no cause
  not_refused : (tokens : List Token) (why : LexError) → Complete text tokens → first_escape text ≡ None → length tokens ≤ most_tokens → StopsFirst (first_escape text) text why → ⊥
  not_refused tokens why a e m s = not_both text tokens why a m (without_escape (first_escape text) text why e s)

  pub answer_tokens : (r : Answer) → IfOk r (λ v. HasTokens text v.items × (first_escape text ≡ None)) → IfOk r (λ v. Tokens bytes v.items)
  answer_tokens (Ok v) a = (text, spelled, a.0.0, a.1)
  answer_tokens (Err x) a = tt

  pub answer_cause : (r : Answer) → IfErr r (λ x. x ≢ error.Memory → StopsFirst (first_escape text) text x) → IfErr r (λ x. x ≢ error.Memory → Fails bytes x)
  answer_cause (Ok v) s = tt
  answer_cause (Err x) s = λ h. fails x (s h)

  pub only_tokens : (r : Answer) → IfOk r (λ v. HasTokens text v.items × (first_escape text ≡ None)) → IfErr r (λ x. x ≢ error.Memory → StopsFirst (first_escape text) text x)
      → (tokens : List Token) → Tokens bytes tokens → length tokens ≤ most_tokens → MatchResult r (λ v. v.items ≡ tokens) (λ x. x ≡ error.Memory)
  only_tokens (Ok v) a s tokens t m = one_list text v.items tokens a.0.0 (complete tokens t).0 a.0.1 m
  only_tokens (Err x) a s tokens t m =
      let c = complete tokens t in
      elim (memory_or x) [ inl h ↦ h | inr h ↦ absurd (not_refused tokens x c.0 c.1 m (s h)) ]

  pub only_cause : (r : Answer) → IfOk r (λ v. HasTokens text v.items × (first_escape text ≡ None)) → IfErr r (λ x. x ≢ error.Memory → StopsFirst (first_escape text) text x)
      → (cause : LexError) → Fails bytes cause → MatchResult r (λ v. ⊥) (λ x. (x ≡ cause) ⊎ (x ≡ error.Memory))
  only_cause (Ok v) a s cause f = not_refused v.items cause a.0.0 a.1 a.0.1 (stopped cause f)
  only_cause (Err x) a s cause f = elim (memory_or x) [ inl h ↦ inr h | inr h ↦ inl (one_first (first_escape text) text x cause (s h) (stopped cause f)) ]

-- ---- bytes that are no text

not_spelled : (bytes : List ℕ) → (IsUtf8 bytes → ⊥) → (why : LexError) → ((text : Text) × Spells text bytes × StopsFirst (first_escape text) text why) → ⊥
not_spelled bytes n why f = n (f.0, f.1)

pub only_bad_utf8 : (bytes : List ℕ) (at : ℕ) → (IsUtf8 bytes → ⊥) → IsValidUpTo bytes at → (why : LexError) → Fails bytes why → error.BadUtf8 at ≡ why
only_bad_utf8 bytes at n v (error.BadUtf8 k) f = ap error.BadUtf8 (sym (utf8_valid_len-IsValidUpTo bytes at v) ∙ utf8_valid_len-IsValidUpTo bytes k f.1)
only_bad_utf8 bytes at n v (error.BadChar k) f = absurd (not_spelled bytes n (error.BadChar k) f)
only_bad_utf8 bytes at n v (error.OpenComment k) f = absurd (not_spelled bytes n (error.OpenComment k) f)
only_bad_utf8 bytes at n v (error.OpenString k) f = absurd (not_spelled bytes n (error.OpenString k) f)
only_bad_utf8 bytes at n v (error.BadNumber k) f = absurd (not_spelled bytes n (error.BadNumber k) f)
only_bad_utf8 bytes at n v (error.TooMany k) f = absurd (not_spelled bytes n (error.TooMany k) f)
only_bad_utf8 bytes at n v error.Memory f = absurd (not_spelled bytes n error.Memory f)
