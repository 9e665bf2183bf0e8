-- The integer literals (JLS 3.10.1): decimal up to 2147483648, and hexadecimal up to 0xFFFFFFFF. Others of Java, as octal ones, are none here.
use Rattle.std.specs.Prelude.{ℕ, ◌+◌, ◌*◌, Bool, true, ◌&&◌, ◌||◌, not, ◌==◌, nat_lt, nat_le, if◌then◌else◌, [], ◌∷◌, drop, length, Option, Some, None}
use Rattle.std.specs.List.{list_all}
use Rattle.std.specs.Char.{digit_value}
use Rattle.std.specs.Str.{byte}
use Rattle.ix_lexer.specs.Characters.{Text, first}

abbrev pub is_digit_or_underscore : ℕ → ℕ → Bool
is_digit_or_underscore base c = c == byte "_" || nat_lt (digit_value c) base

-- The number that these characters write behind the number `before`. Underscores count nothing.
abbrev pub value_behind : ℕ → ℕ → Text → ℕ
value_behind base before [] = before
value_behind base before (c ∷ cs) = if c == byte "_" then value_behind base before cs else value_behind base (before * base + digit_value c) cs

-- Whether the last character is an underscore; `otherwise` where there is none.
abbrev pub ends_in_underscore : Bool → Text → Bool
ends_in_underscore otherwise [] = otherwise
ends_in_underscore otherwise (c ∷ cs) = ends_in_underscore (c == byte "_") cs

-- Digits, with underscores only between two of them, whose number is at most `most`.
abbrev pub are_digits : ℕ → ℕ → Text → Bool
are_digits base most cs = not (first cs == byte "_") && (list_all (is_digit_or_underscore base) cs && (not (ends_in_underscore true cs) && nat_le (value_behind base 0 cs) most))

unfoldable pub digits : ℕ → ℕ → Text → Option ℕ
digits base most cs = if are_digits base most cs then Some (value_behind base 0 cs) else None

abbrev pub is_hexadecimal : Text → Bool
is_hexadecimal cs = first cs == byte "0" && (first (drop 1 cs) == byte "x" || first (drop 1 cs) == byte "X")

-- The number that a run of digits and letters writes. No zero stands before a decimal number but 0 itself.
abbrev pub number_of : Text → Option ℕ
number_of cs =
    if is_hexadecimal cs then digits 16 4294967295 (drop 2 cs)
    else (if first cs == byte "0" then (if length cs == 1 then Some 0 else None) else digits 10 2147483648 cs)
