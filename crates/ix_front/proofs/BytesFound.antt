-- What is found of bytes, and that nothing else is.
use Rattle.std.proofs.Common.{◌≡◌, ◌≢◌, ℕ, zero, suc, ◌<◌, ◌≤◌, drop, codes, ◌⊎◌, inl, inr, List, [], ◌∷◌, Some, length, ap, sym, subst, ◌∙◌, refl, arith}
use Rattle.ix_lexer.specs.declared.token.LexError.{LexError}
use Rattle.ix_lexer.specs.declared.token.LexError.TheVariants as lexical
use Rattle.ix_lexer.specs.declared.token.Token.{Token}
use Rattle.ix_grammar.specs.declared.error.ParseError.{ParseError}
use Rattle.ix_grammar.specs.Refusals.{HasTree, Refused, IsWithin}
use Rattle.ix_lexer.specs.Spans.{InOrder, IsWithin as LexWithin}
use Rattle.ix_lexer.specs.Tokens.{Tokens, Fails, most_tokens}
use Rattle.ix_grammar.specs.declared.error.ParseError.TheVariants as syntax
use Rattle.ix_front.specs.Found.{Finding, TooLong, Broken, Past, Found, too_long, no_tokens, lexed, FoundOf, no_tree, tree, FoundIn, of_lex_error, of_parse_error, start_of}
use Rattle.ix_front.specs.Findings.{IsPlaced, HasFormed}
use Rattle.ix_outside.specs.Reading.{most_bytes}
use Rattle.ix_tree.specs.declared.decl.Unit.{Unit as Source}

-- ---- what is found

pub past-only : (bytes : List ℕ) (finding : Finding) → most_bytes < length bytes → Found bytes finding → TooLong ≡ finding
past-only bytes _ past (too_long more) = refl
past-only bytes _ past (no_tokens why short fails is) = absurd (omega (arith, past, short))
past-only bytes _ past (lexed tokens short is few found) = absurd (omega (arith, past, short))

pub some_is : (a b : Finding) → Some a ≡ Some b → a ≡ b
some_is a b h = cc

-- ---- what the calls below answer is what is found

-- what is found of the tokens of this tree is found in it
pub tree_found : (tokens : List Token) (end : ℕ) (source : Source) (other : Finding) → ((unit : Source) → HasTree tokens unit → source ≡ unit) → ((why : ParseError) → Refused tokens why → ⊥)
    → FoundOf tokens end other → FoundIn source other
tree_found tokens end source other one none (no_tree why refused is) = absurd (none why refused)
tree_found tokens end source other one none (tree unit has found) = subst (λ u. FoundIn u other) (sym (one unit has)) found

known_refusal : (tokens : List Token) (end : ℕ) (why : ParseError) (finding : Finding) → Some finding ≡ of_parse_error tokens end why → why ≢ syntax.Memory
known_refusal tokens end (syntax.Syntax number) finding is = λ same. cc
known_refusal tokens end (syntax.TooDeep from) finding is = λ same. cc
known_refusal tokens end syntax.Memory finding is = cc

pub refusal_of : (tokens : List Token) (end : ℕ) (why : ParseError) (finding : Finding) → Some finding ≡ of_parse_error tokens end why → (why ≢ syntax.Memory → Refused tokens why)
    → FoundOf tokens end finding
refusal_of tokens end why finding is refused = no_tree why (refused (known_refusal tokens end why finding is)) (sym is)

-- no other finding than that of this refusal
pub refusal_only : (tokens : List Token) (end : ℕ) (why : ParseError) (finding other : Finding) → Some finding ≡ of_parse_error tokens end why
    → ((unit : Source) → HasTree tokens unit → why ≡ syntax.Memory) → ((error : ParseError) → Refused tokens error → (why ≡ error) ⊎ (why ≡ syntax.Memory))
    → FoundOf tokens end other → finding ≡ other
refusal_only tokens end why finding other is none one (no_tree error refused same) = elim (one error refused) [
  | inl e ↦ some_is finding other (is ∙ ap (of_parse_error tokens end) e ∙ same)
  | inr e ↦ absurd (known_refusal tokens end why finding is e)
]
refusal_only tokens end why finding other is none one (tree unit has found) = absurd (known_refusal tokens end why finding is (none unit has))

after : (from end : ℕ) (tokens : List Token) → InOrder from end tokens → from ≤ end
after from end [] order = order
after from end (token ∷ tokens) order = let (a, b, c) = order in omega (arith, a, b, after token.span.to end tokens c)

start_within : (n from end : ℕ) (tokens : List Token) → InOrder from end tokens → start_of (drop n tokens) end ≤ end
start_within zero from end [] order = omega arith
start_within zero from end (token ∷ tokens) order = let (a, b, c) = order in omega (arith, b, after token.span.to end tokens c)
start_within (suc n) from end [] order = omega arith
start_within (suc n) from end (token ∷ tokens) order = let (a, b, c) = order in start_within n token.span.to end tokens c

pub refusal_placed : (tokens : List Token) (end : ℕ) (why : ParseError) (finding : Finding) → InOrder 0 end tokens → IsWithin (length tokens) end why → Some finding ≡ of_parse_error tokens end why
    → IsPlaced end finding
refusal_placed tokens end (syntax.Syntax number) finding order within is =
    rw (some_is finding (Broken (start_of (drop number tokens) end) (codes "syntax")) is) (start_within number 0 end tokens order)
refusal_placed tokens end (syntax.TooDeep from) finding order within is = rw (some_is finding (Past from (codes "height")) is) (omega (arith, within))
refusal_placed tokens end syntax.Memory finding order within is = cc

pub refusal_formed : (tokens : List Token) (end : ℕ) (why : ParseError) (finding : Finding) → Some finding ≡ of_parse_error tokens end why → HasFormed finding
refusal_formed tokens end (syntax.Syntax number) finding is = rw (some_is finding (Broken (start_of (drop number tokens) end) (codes "syntax")) is) tt
refusal_formed tokens end (syntax.TooDeep from) finding is = rw (some_is finding (Past from (codes "height")) is) tt
refusal_formed tokens end syntax.Memory finding is = cc

pub lex_placed : (why : LexError) (end : ℕ) (finding : Finding) → LexWithin end why → Some finding ≡ of_lex_error why → IsPlaced end finding
lex_placed (lexical.BadUtf8 at) end finding within is = rw (some_is finding _ is) within
lex_placed (lexical.BadChar at) end finding within is = rw (some_is finding _ is) within
lex_placed (lexical.OpenComment at) end finding within is = rw (some_is finding _ is) within
lex_placed (lexical.OpenString at) end finding within is = rw (some_is finding _ is) within
lex_placed (lexical.BadNumber at) end finding within is = rw (some_is finding _ is) within
lex_placed (lexical.TooMany at) end finding within is = rw (some_is finding _ is) within
lex_placed lexical.Memory end finding within is = cc

-- what is found of the bytes is found of their tokens
pub of_lexed : (bytes : List ℕ) (tokens : List Token) (finding : Finding) → length bytes ≤ most_bytes → ((more : List Token) → Tokens bytes more → length more ≤ most_tokens → tokens ≡ more)
    → ((why : LexError) → Fails bytes why → ⊥) → Found bytes finding → FoundOf tokens (length bytes) finding
of_lexed bytes tokens _ short one none (too_long past) = absurd (omega (arith, past, short))
of_lexed bytes tokens finding short one none (no_tokens why small fails is) = absurd (none why fails)
of_lexed bytes tokens finding short one none (lexed more small lexing few found) = subst (λ ts. FoundOf ts (length bytes) finding) (sym (one more lexing few)) found

known_cause : (why : LexError) (finding : Finding) → Some finding ≡ of_lex_error why → why ≢ lexical.Memory
known_cause (lexical.BadUtf8 at) finding is = λ same. cc
known_cause (lexical.BadChar at) finding is = λ same. cc
known_cause (lexical.OpenComment at) finding is = λ same. cc
known_cause (lexical.OpenString at) finding is = λ same. cc
known_cause (lexical.BadNumber at) finding is = λ same. cc
known_cause (lexical.TooMany at) finding is = λ same. cc
known_cause lexical.Memory finding is = cc

pub cause_of : (bytes : List ℕ) (why : LexError) (finding : Finding) → Some finding ≡ of_lex_error why → length bytes ≤ most_bytes → (why ≢ lexical.Memory → Fails bytes why) → Found bytes finding
cause_of bytes why finding is short fails = no_tokens why short (fails (known_cause why finding is)) (sym is)

-- no other finding than that of this cause
pub cause_only : (bytes : List ℕ) (why : LexError) (finding other : Finding) → Some finding ≡ of_lex_error why → length bytes ≤ most_bytes
    → ((more : List Token) → Tokens bytes more → length more ≤ most_tokens → why ≡ lexical.Memory) → ((error : LexError) → Fails bytes error → (why ≡ error) ⊎ (why ≡ lexical.Memory))
    → Found bytes other → finding ≡ other
cause_only bytes why finding other is short none one (too_long past) = absurd (omega (arith, past, short))
cause_only bytes why finding other is short none one (no_tokens error small fails same) = elim (one error fails) [
  | inl e ↦ some_is finding other (is ∙ ap of_lex_error e ∙ same)
  | inr e ↦ absurd (known_cause why finding is e)
]
cause_only bytes why finding other is short none one (lexed more small lexing few found) = absurd (known_cause why finding is (none more lexing few))

pub lex_formed : (why : LexError) (finding : Finding) → Some finding ≡ of_lex_error why → HasFormed finding
lex_formed (lexical.BadUtf8 at) finding is = rw (some_is finding _ is) tt
lex_formed (lexical.BadChar at) finding is = rw (some_is finding _ is) tt
lex_formed (lexical.OpenComment at) finding is = rw (some_is finding _ is) tt
lex_formed (lexical.OpenString at) finding is = rw (some_is finding _ is) tt
lex_formed (lexical.BadNumber at) finding is = rw (some_is finding _ is) tt
lex_formed (lexical.TooMany at) finding is = rw (some_is finding _ is) tt
lex_formed lexical.Memory finding is = cc
