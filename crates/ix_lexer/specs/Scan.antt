-- Which element is the longest at the front of a text, found from the front.
use Rattle.std.specs.Prelude.{ℕ, ◌+◌, Bool, true, false, ◌&&◌, not, ◌==◌, nat_eq, nat_lt, nat_le, if◌then◌else◌, ◌*◌, List, [], ◌∷◌, length, Option, Some, None}
use Rattle.std.specs.List.{prefix_len}
use Rattle.std.specs.Cmp.Lexicographic.{pointwise}
use Rattle.std.specs.Char.{is_ascii_digit, digit_value}
use Rattle.std.specs.Str.{byte}
use Rattle.ix_lexer.specs.declared.elements.Element.{Element}
use Rattle.ix_lexer.specs.declared.elements.Element.TheVariants as element
use Rattle.ix_lexer.specs.Characters.{Text, starts_identifier, continues_identifier, is_white_space, ends_line, quote, backslash, first}
use Rattle.ix_lexer.specs.Elements.{signs}

-- an element, and how many characters it has
abbrev pub Found : Type 0
Found = Option (Element × ℕ)

abbrev pub stays_in_line : ℕ → Bool
stays_in_line c = not (ends_line c)

-- How many characters stand up to and with the closing quote, with `before` of them before these; `escaped`: behind a backslash.
abbrev pub closing_quote : Bool → ℕ → Text → Option ℕ
closing_quote escaped before [] = None
closing_quote escaped before (c ∷ cs) =
    if not escaped && c == quote then Some (before + 1)
    else (if ends_line c then None else closing_quote (not escaped && c == backslash) (before + 1) cs)

-- How many characters stand up to and with the first `*/`, with `before` of them before these.
abbrev pub comment_end : ℕ → Text → Option ℕ
comment_end before [] = None
comment_end before (c ∷ cs) = if c == byte "*" && first cs == byte "/" then Some (before + 2) else comment_end (before + 1) cs

-- whether the text begins with the sign
abbrev pub begins : Text → Text → Bool
begins [] text = true
begins (s ∷ ss) [] = false
begins (s ∷ ss) (c ∷ cs) = c == s && begins ss cs

-- the length of the longest sign that the text begins with, or `best` where none is longer
abbrev pub longest : List Text → ℕ → Text → ℕ
longest [] best text = best
longest (s ∷ ss) best text = longest ss (if nat_lt best (length s) && begins s text then length s else best) text

unfoldable pub sign : Text → Found
sign text = let n = longest signs 0 text in if n == 0 then None else Some (element.Sign, n)

abbrev pub comment : Option ℕ → Found
comment None = Some (element.OpenComment, 2)
comment (Some n) = Some (element.Gap, n)

abbrev pub quoted : Option ℕ → Found
quoted None = Some (element.OpenString, 1)
quoted (Some n) = Some (element.Quoted, n)

abbrev pub behind_slash : Text → Text → Found
behind_slash text [] = sign text
behind_slash text (d ∷ ds) =
    if d == byte "/" then Some (element.Gap, 2 + prefix_len stays_in_line ds)
    else (if d == byte "*" then comment (comment_end 2 ds) else sign text)

abbrev pub slash : Text → Found
slash [] = None
slash (c ∷ cs) = behind_slash (c ∷ cs) cs

unfoldable pub element_at : Text → Found
element_at [] = None
element_at (c ∷ cs) =
    if starts_identifier c then Some (element.Word, 1 + prefix_len continues_identifier cs)
    else (if is_ascii_digit c then Some (element.Number, 1 + prefix_len continues_identifier cs)
    else (if is_white_space c then Some (element.Gap, 1)
    else (if c == quote then quoted (closing_quote false 1 cs)
    else (if c == byte "/" then slash (c ∷ cs)
    else sign (c ∷ cs)))))

-- Digits read from the front, behind the number `before`; `wanted`: a digit has to come.
abbrev pub digits_from : ℕ → ℕ → Bool → ℕ → Text → Option ℕ
digits_from base most wanted before [] = if wanted then None else Some before
digits_from base most wanted before (c ∷ cs) =
    if c == byte "_" then digits_from base most true before cs
    else (if nat_lt (digit_value c) base && nat_le (before * base + digit_value c) most then digits_from base most false (before * base + digit_value c) cs else None)

-- the number beside a text in a table
abbrev pub entry_number : List (ℕ × Text) → Text → Option ℕ
entry_number [] w = None
entry_number (entry ∷ entries) w = if pointwise nat_eq entry.1 w then Some entry.0 else entry_number entries w
