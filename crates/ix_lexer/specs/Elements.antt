-- The input elements of JLS 3.5: which texts are white space or a comment, and which are what a token is written with.
use Rattle.std.specs.Prelude.{◌≡◌, Bool, true, false, ◌&&◌, ◌||◌, not, ◌==◌, ℕ, [], ◌∷◌, ◌++◌, codes}
use Rattle.std.specs.List.{list_all, Contains}
use Rattle.std.specs.Char.{is_ascii_digit}
use Rattle.std.specs.Str.{byte}
use Rattle.ix_lexer.specs.declared.elements.Element.{Element}
use Rattle.ix_lexer.specs.declared.elements.Element.TheVariants as element
use Rattle.ix_lexer.specs.Characters.{Text, ends_line, is_white_space, starts_identifier, continues_identifier, quote, backslash, first}
unfoldable pub use Rattle.ix_lexer.specs.Fixed.{signs}

-- Whether `*/` stands somewhere in the text.
abbrev pub closes_comment : Text → Bool
closes_comment [] = false
closes_comment (c ∷ cs) = c == byte "*" && first cs == byte "/" || closes_comment cs

-- What stands between the quotes of a string (JLS 3.10.5): no quote and no end of a line. A backslash takes the next character with it.
pub data IsStringBody : Text → Type 0 where
  nothing : IsStringBody []
  plain : {c : ℕ} {cs : Text} → (c == quote || c == backslash || ends_line c) ≡ false → IsStringBody cs → IsStringBody (c ∷ cs)
  escaped : {c : ℕ} {cs : Text} → ends_line c ≡ false → IsStringBody cs → IsStringBody (backslash ∷ c ∷ cs)

-- Each rule is one kind of input element. White space and comments are gaps (JLS 3.6, 3.7). A word is an identifier or a keyword
-- (JLS 3.8, 3.9). A number is whatever begins with a digit and goes on as a word does (JLS 3.10.1), a sign a separator or operator (JLS 3.11, 3.12).
-- `/*` and a quote are elements by themselves: a comment or a string that is closed is longer, so they are the longest exactly where nothing closes them.
pub data IsElement : Element → Text → Type 0 where
  white_space : {c : ℕ} → is_white_space c ≡ true → IsElement element.Gap (c ∷ [])
  line_comment : {cs : Text} → list_all (λ c. not (ends_line c)) cs ≡ true → IsElement element.Gap (codes "//" ++ cs)
  comment : (cs : Text) → closes_comment (cs ++ codes "*") ≡ false → IsElement element.Gap (codes "/*" ++ (cs ++ codes "*/"))
  open_comment : IsElement element.OpenComment (codes "/*")
  word : {c : ℕ} {cs : Text} → starts_identifier c ≡ true → list_all continues_identifier cs ≡ true → IsElement element.Word (c ∷ cs)
  number : {c : ℕ} {cs : Text} → is_ascii_digit c ≡ true → list_all continues_identifier cs ≡ true → IsElement element.Number (c ∷ cs)
  quoted : (cs : Text) → IsStringBody cs → IsElement element.Quoted (quote ∷ (cs ++ quote ∷ []))
  open_string : IsElement element.OpenString (quote ∷ [])
  sign : {cs : Text} → Contains signs cs → IsElement element.Sign cs
