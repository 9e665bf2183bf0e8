-- The tokens of a text in which texts are inserted, each of which is an old one, that is told by its place, or a new one.
use Rattle.std.specs.Prelude.{◌≡◌, ℕ, ◌+◌, nat_lt, Bool, true, if◌then◌else◌, List, [], ◌∷◌, ◌++◌, map, length}
use Rattle.ix_lexer.specs.declared.token.Token.{Token}
use Rattle.ix_guard_text.specs.Woven.{Added, IsInserted, is_word_like, may_open}
use Rattle.ix_guard_text.specs.Moved.{Move, moved_token}
use Rattle.ix_guard_text.specs.TestParts.{IsNew}

-- ---- where an old place is

-- the length of all that is inserted before the byte at that place, and right there
abbrev pub added_up_to : List Added → ℕ → ℕ
added_up_to [] place = 0
added_up_to (new ∷ added) place = (if nat_lt place new.place then 0 else length new.bytes) + added_up_to added place

-- the length of all that is inserted before that place
abbrev pub added_before : List Added → ℕ → ℕ
added_before [] place = 0
added_before (new ∷ added) place = (if nat_lt new.place place then length new.bytes else 0) + added_before added place

-- What begins at a place begins behind all that is inserted there, and what ends there ends before it.
abbrev pub moving : List Added → Move
moving added = record { from = λ place. place + added_up_to added place; to = λ place. place + added_before added place }

-- ---- tokens between which others are inserted

-- A token of the old text, or one of an inserted text, whose place isn't told.
pub data Piece : Type 0 where
  old new : Token → Piece

abbrev pub token_of : Piece → Token
token_of (old token) = token
token_of (new token) = token

abbrev pub olds : List Token → List Piece
olds tokens = map old tokens

abbrev pub news : List Token → List Piece
news tokens = map new tokens

-- Old tokens, and bytes that are inserted between them, give these pieces: as Woven, which doesn't tell which tokens are old.
pub data Interleaved : Bool → ℕ → List Token → List Added → List Piece → Bool → ℕ → Type 0 where
  done : {word : Bool} {at : ℕ} → Interleaved word at [] [] [] word at
  keep : {word last : Bool} {at end : ℕ} {tokens : List Token} {pieces : List Piece} {added : List Added} (token : Token) → Interleaved (is_word_like token.kind) token.span.to tokens added pieces last end
      → Interleaved word at (token ∷ tokens) added (old token ∷ pieces) last end
  -- before a token
  before : {word last : Bool} {at end : ℕ} {tokens : List Token} {pieces : List Piece} {added : List Added} (token : Token) (text : Added) (first : ℕ) (inserted : List Token) → text.place ≡ token.span.from
      → IsInserted text.bytes first inserted → may_open word first ≡ true → Interleaved (is_word_like token.kind) token.span.to tokens added pieces last end
      → Interleaved word at (token ∷ tokens) (text ∷ added) (news inserted ++ old token ∷ pieces) last end
  -- behind a token
  behind : {word last : Bool} {at end : ℕ} {tokens : List Token} {pieces : List Piece} {added : List Added} (text : Added) (inserted : List Token) → text.place ≡ at → IsInserted text.bytes 32 inserted
      → Interleaved word at tokens added pieces last end → Interleaved word at tokens (text ∷ added) (news inserted ++ pieces) last end

-- The tokens that these pieces are: each old one at its place moved, each new one where no old one begins.
pub data Realised (move : Move) : List Piece → List Token → Type 0 where
  none : Realised move [] []
  kept : {pieces : List Piece} {tokens : List Token} (token : Token) → Realised move pieces tokens → Realised move (old token ∷ pieces) (moved_token move token ∷ tokens)
  put : {pieces : List Piece} {tokens : List Token} (token found : Token) → found.kind ≡ token.kind → IsNew move found.span.from → Realised move pieces tokens → Realised move (new token ∷ pieces) (found ∷ tokens)
