-- The tokens of a text in which texts are inserted between its tokens.
use Rattle.std.specs.Prelude.{◌≡◌, ℕ, ◌+◌, ◌-◌, ◌==◌, nat_lt, Bool, true, not, ◌&&◌, ◌||◌, List, [], ◌∷◌, ◌++◌, map, take, drop}
use Rattle.std.specs.List.{list_all}
use Rattle.std.specs.Str.{encode_utf8_all, all_scalars}
use Rattle.ix_lexer.specs.declared.token.Token.{Token}
use Rattle.ix_lexer.specs.declared.token.TokenKind.{TokenKind}
use Rattle.ix_lexer.specs.declared.token.TokenKind.TheVariants as kind
use Rattle.ix_lexer.specs.Characters.{Text, backslash}
use Rattle.ix_lexer.specs.Tokens.{size, Reads}

-- the kinds of tokens
abbrev pub kinds : List Token → List TokenKind
kinds tokens = map (λ token. token.kind) tokens

-- bytes that are inserted before the byte at a place
pub record Added : Type 0 where
  pub place : ℕ
  pub bytes : List ℕ

-- bytes that begin at this place, with others inserted
abbrev pub with_added : ℕ → List ℕ → List Added → List ℕ
with_added at bytes [] = bytes
with_added at bytes (added ∷ rest) = take (added.place - at) bytes ++ (added.bytes ++ with_added added.place (drop (added.place - at) bytes) rest)

-- whatever follows, the text is read as tokens of these kinds
pub record IsReadAs (text : Text) (tokens : List Token) (at : ℕ) (rest : Text) : Type 0 where
  pub found : List Token
  pub reads : Reads at (text ++ rest) found (at + size text) rest
  pub same : kinds found ≡ kinds tokens

-- Bytes that are the tokens of these kinds wherever they stand: they spell a text without a backslash that begins with this character.
pub record IsInserted (bytes : List ℕ) (first : ℕ) (tokens : List Token) : Type 0 where
  pub later : Text
  pub spelled : encode_utf8_all (first ∷ later) ≡ bytes
  pub scalars : all_scalars (first ∷ later) ≡ true
  pub plain : list_all (λ c. not (c == backslash)) (first ∷ later) ≡ true
  pub read : (at : ℕ) (rest : Text) → IsReadAs (first ∷ later) tokens at rest

-- Whether a token of this kind may be a word or a number, which would go on with a letter behind it.
abbrev pub is_word_like : TokenKind → Bool
is_word_like (kind.Fixed number) = nat_lt number 53
is_word_like _ = true

-- Whether a text that begins with this character may be inserted behind a word or a number, or behind any other token: a blank, an opening brace, and `i`.
abbrev pub may_open : Bool → ℕ → Bool
may_open word_like c = c == 32 || (c == 123 || (c == 105 && not word_like))

-- Old tokens, and bytes that are inserted between them, give new tokens: from behind a token that may be a word, and that ends at some place, to behind another.
pub data Woven : Bool → ℕ → List Token → List Added → List Token → Bool → ℕ → Type 0 where
  done : {word : Bool} {at : ℕ} → Woven word at [] [] [] word at
  keep : {word last : Bool} {at end : ℕ} {olds news : List Token} {added : List Added} (token : Token) → Woven (is_word_like token.kind) token.span.to olds added news last end
      → Woven word at (token ∷ olds) added (token ∷ news) last end
  -- before a token
  before : {word last : Bool} {at end : ℕ} {olds news : List Token} {added : List Added} (token : Token) (new : Added) (first : ℕ) (tokens : List Token) → new.place ≡ token.span.from
      → IsInserted new.bytes first tokens → may_open word first ≡ true → Woven (is_word_like token.kind) token.span.to olds added news last end
      → Woven word at (token ∷ olds) (new ∷ added) (tokens ++ token ∷ news) last end
  -- behind a token
  behind : {word last : Bool} {at end : ℕ} {olds news : List Token} {added : List Added} (new : Added) (tokens : List Token) → new.place ≡ at → IsInserted new.bytes 32 tokens
      → Woven word at olds added news last end → Woven word at olds (new ∷ added) (tokens ++ news) last end
