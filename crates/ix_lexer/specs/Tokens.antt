-- The tokens of a text, and why a text has none (JLS 3.2, 3.5).
use Rattle.std.specs.Prelude.{◌≡◌, ◌≤◌, ℕ, ◌+◌, ◌-◌, Bool, true, ◌&&◌, not, ◌==◌, ◌⊎◌, nat_eq, if◌then◌else◌, List, [], ◌∷◌, ◌++◌, length, take, drop, Option, Some, None}
use Rattle.std.specs.List.{position_from}
use Rattle.std.specs.Cmp.Lexicographic.{pointwise}
use Rattle.std.specs.Str.{byte, encode_utf8_all, all_scalars, IsUtf8, IsValidUpTo}
use Rattle.std.specs.Int.{cast_signed, w32}
use Rattle.ix_lexer.specs.declared.elements.Element.{Element}
use Rattle.ix_lexer.specs.declared.elements.Element.TheVariants as element
use Rattle.ix_lexer.specs.declared.token.Token.{Token}
use Rattle.ix_lexer.specs.declared.token.TokenKind.{TokenKind}
use Rattle.ix_lexer.specs.declared.token.TokenKind.TheVariants as kind
use Rattle.ix_lexer.specs.declared.token.LexError.{LexError}
use Rattle.ix_lexer.specs.declared.token.LexError.TheVariants as error
unfoldable pub use Rattle.ix_lexer.specs.Fixed.{words}
use Rattle.ix_lexer.specs.Characters.{Text, backslash, first}
use Rattle.ix_lexer.specs.Elements.{IsElement, signs}
use Rattle.ix_lexer.specs.Numbers.{number_of, is_hexadecimal}
use Rattle.ix_lexer.specs.Spans.{IsWithin}

-- The text begins with the element `w`, and with no longer one: "the longest possible translation is used at each step" (JLS 3.2).
abbrev pub Longest : Element → Text → Text → Type 0
Longest which w text = IsElement which w × ((rest : Text) × (text ≡ w ++ rest)) × ((other : Element) (v rest : Text) → text ≡ v ++ rest → IsElement other v → length v ≤ length w)

-- ---- what kind of token an element is

-- the number of a fixed text in a table whose first one has the number `first`
abbrev pub number_in : ℕ → List Text → Text → Option ℕ
number_in first table w = position_from (λ fixed. pointwise nat_eq fixed w) first table

abbrev pub fixed_or : Option TokenKind → Option ℕ → Option TokenKind
fixed_or otherwise None = otherwise
fixed_or otherwise (Some n) = Some (kind.Fixed n)

-- The low 32 bits count, so 0xFFFFFFFF is -1. The decimal 2147483648 is a kind of its own.
abbrev pub number_kind : Bool → Option ℕ → Option TokenKind
number_kind hexadecimal None = None
number_kind hexadecimal (Some n) = if not hexadecimal && n == 2147483648 then Some kind.MinLit else Some (kind.Int (cast_signed w32 n))

-- the text between the quotes
abbrev pub between_quotes : Text → Text
between_quotes w = take (length w - 2) (drop 1 w)

abbrev pub kind_of : Element → Text → Option TokenKind
kind_of element.Word w = fixed_or (Some (kind.Ident (encode_utf8_all w))) (number_in 0 words w)
kind_of element.Number w = number_kind (is_hexadecimal w) (number_of w)
kind_of element.Quoted w = Some (kind.Str (encode_utf8_all (between_quotes w)))
kind_of element.Sign w = fixed_or None (number_in 53 signs w)
kind_of element.Gap w = None
kind_of element.OpenComment w = None
kind_of element.OpenString w = None

-- ---- a whole text

-- how many bytes the characters have in UTF-8
abbrev pub size : Text → ℕ
size w = length (encode_utf8_all w)

abbrev pub token : TokenKind → ℕ → ℕ → Token
token what from to = record { kind = what; span = record { from = from; to = to } }

-- From the byte place `at` on, where `text` is still to be read, come these tokens; and then, at the place `to`, `left` is still to be read.
pub data Reads : ℕ → Text → List Token → ℕ → Text → Type 0 where
  none : {at : ℕ} {text : Text} → Reads at text [] at text
  gap : {at to : ℕ} {text left : Text} {tokens : List Token} (w rest : Text) → text ≡ w ++ rest → Longest element.Gap w text
      → Reads (at + size w) rest tokens to left → Reads at text tokens to left
  one : {at to : ℕ} {text left : Text} {tokens : List Token} (which : Element) (w rest : Text) (what : TokenKind) → text ≡ w ++ rest → Longest which w text → kind_of which w ≡ Some what
      → Reads (at + size w) rest tokens to left → Reads at text (token what at (at + size w) ∷ tokens) to left

-- how many tokens a text may have
abbrev pub most_tokens : ℕ
most_tokens = 200000

-- Why no further token is read at the place `at`, where `text` is still to be read, after `count` tokens.
abbrev pub Stops : LexError → ℕ → ℕ → Text → Type 0
Stops (error.BadChar place) count at text = (place ≡ at) × (1 ≤ length text) × ((which : Element) (w rest : Text) → text ≡ w ++ rest → IsElement which w → ⊥)
Stops (error.OpenComment place) count at text = (place ≡ at) × ((w : Text) × Longest element.OpenComment w text)
Stops (error.OpenString place) count at text = (place ≡ at) × ((w : Text) × Longest element.OpenString w text)
Stops (error.BadNumber place) count at text = (place ≡ at) × ((w : Text) × Longest element.Number w text × (number_of w ≡ None))
Stops (error.TooMany place) count at text = (place ≡ at) × (count ≡ most_tokens) × ((which : Element) × (w : Text) × (what : TokenKind) × Longest which w text × (kind_of which w ≡ Some what))
Stops _ count at text = ⊥

-- the characters have these tokens, up to their end
abbrev pub Complete : Text → List Token → Type 0
Complete text tokens = (end : ℕ) × Reads 0 text tokens end []

-- the characters have some tokens, and then none for this cause
abbrev pub Stopped : Text → LexError → Type 0
Stopped text why = (tokens : List Token) × (at : ℕ) × (left : Text) × Reads 0 text tokens at left × (length tokens ≤ most_tokens) × Stops why (length tokens) at left

-- ---- Unicode escapes

-- The place of the first Unicode escape (JLS 3.3): a backslash behind an even number of backslashes, with a `u` behind it. `at`: the place of the
-- text, `even`: whether an even number of backslashes stands directly before it.
abbrev pub escape_from : Bool → ℕ → Text → Option ℕ
escape_from even at [] = None
escape_from even at (c ∷ cs) =
    if even && c == backslash && first cs == byte "u" then Some at else escape_from (not (even && c == backslash)) (at + size (c ∷ [])) cs

abbrev pub first_escape : Text → Option ℕ
first_escape text = escape_from true 0 text

-- Java reads an escape before anything else, so in a comment or a string too it would mean something else there. It is refused wherever it stands; of
-- what stops the reading and of an escape that comes which stands first.
abbrev pub StopsFirst : Option ℕ → Text → LexError → Type 0
StopsFirst None text why = Stopped text why
StopsFirst (Some place) text why =
    (Stopped text why × IsWithin place why) ⊎ ((why ≡ error.BadChar place) × ((other : LexError) → Stopped text other → IsWithin place other → ⊥))

-- ---- bytes

-- the bytes are these characters in UTF-8
abbrev pub Spells : Text → List ℕ → Type 0
Spells text bytes = (all_scalars text ≡ true) × (encode_utf8_all text ≡ bytes)

-- The bytes have these tokens.
abbrev pub Tokens : List ℕ → List Token → Type 0
Tokens bytes tokens = (text : Text) × Spells text bytes × Complete text tokens × (first_escape text ≡ None)

-- The bytes have no list of at most 200,000 tokens, for this cause.
abbrev pub Fails : List ℕ → LexError → Type 0
Fails bytes (error.BadUtf8 place) = (IsUtf8 bytes → ⊥) × IsValidUpTo bytes place
Fails bytes why = (text : Text) × Spells text bytes × StopsFirst (first_escape text) text why
