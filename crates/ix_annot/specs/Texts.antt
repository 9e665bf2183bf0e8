-- The texts in annotations: which of them name an array, an offset or a bound (Checker Framework manual, Index Checker, "Writing Java
-- expressions as annotation arguments"). A text is the list of its characters. Blanks may stand between its parts, and at neither end.
use Rattle.std.specs.Prelude.{ℕ, ◌+◌, ◌-◌, ◌*◌, ◌==◌, nat_eq, nat_lt, nat_le, ℤ, pos, ◌-ℤ◌, Bool, not, ◌&&◌, ◌||◌, if◌then◌else◌, Option, Some, None, option_map, List, [], ◌∷◌, length, take, drop, codes}
use Rattle.std.specs.Option.{option_and_then}
use Rattle.std.specs.List.{list_all, list_any, prefix_len}
use Rattle.std.specs.Cmp.Lexicographic.{pointwise}
use Rattle.std.specs.Char.{digit_value}
use Rattle.std.specs.Str.{byte, encode_utf8_all}
use Rattle.ix_lexer.specs.Characters.{Text, starts_identifier, continues_identifier, first}
unfoldable pub use Rattle.ix_lexer.specs.Fixed.{words}
use Rattle.ix_lexer.specs.Scan.{begins}
use Rattle.ix_annot.specs.declared.texts.Naming.{Naming}
use Rattle.ix_annot.specs.declared.texts.Naming.TheVariants.{Parameter, OfThis, Variable}
use Rattle.ix_annot.specs.declared.texts.Offset.{Offset}
use Rattle.ix_annot.specs.declared.texts.Offset.TheVariants.{Constant, Plus, Minus}

abbrev pub is_blank : ℕ → Bool
is_blank c = c == byte " "

abbrev pub after_blanks : Text → Text
after_blanks text = drop (prefix_len is_blank text) text

-- a part at the front of a text, and the text behind it
abbrev pub Front : Type 0 → Type 0
Front A = Option (A × Text)

-- ---- numbers: `0`, or digits of which the first is not 0

-- the number that digits write behind the number `before`
abbrev pub value_behind : ℕ → Text → ℕ
value_behind before [] = before
value_behind before (c ∷ cs) = value_behind (before * 10 + digit_value c) cs

abbrev pub is_digit : ℕ → Bool
is_digit c = nat_lt (digit_value c) 10

-- the digits write a number of at most `most`
abbrev pub digits : ℕ → Text → Option ℕ
digits most text = if list_all is_digit text && nat_le (value_behind 0 text) most then Some (value_behind 0 text) else None

abbrev pub is_without_zeros : Text → Bool
is_without_zeros text = length text == 1 || (nat_le 1 (length text) && not (first text == byte "0"))

-- The whole text is a number of at most `most`.
abbrev pub number : ℕ → Text → Option ℕ
number most text = if is_without_zeros text then digits most text else None

abbrev pub greatest_int : ℕ
greatest_int = 2147483647

-- ---- identifiers (JLS 3.8): no keyword, no Boolean literal and no `null` is one

abbrev pub is_word : Text → Bool
is_word text = list_any (λ word. pointwise nat_eq word text) words

-- how many characters the letters and digits at the front have
abbrev pub word_len : Text → ℕ
word_len [] = 0
word_len (c ∷ cs) = if starts_identifier c then 1 + prefix_len continues_identifier cs else 0

abbrev pub begins_with_identifier : Text → Bool
begins_with_identifier text = nat_le 1 (word_len text) && not (is_word (take (word_len text) text))

-- an identifier, in UTF-8
abbrev pub identifier : Text → Front (List ℕ)
identifier text = if begins_with_identifier text then Some (encode_utf8_all (take (word_len text) text), drop (word_len text) text) else None

-- ---- names: `#` and the number of a parameter, from 1; `this.` and an identifier; or an identifier

abbrev pub digits_len : Text → ℕ
digits_len text = prefix_len is_digit text

-- The parameters are numbered from 0 in a `Naming`.
abbrev pub parameter_of : Text → Option ℕ → Front Naming
parameter_of rest None = None
parameter_of rest (Some k) = if nat_le 1 k then Some (Parameter (k - 1), rest) else None

abbrev pub parameter : Text → Front Naming
parameter text = parameter_of (drop (digits_len text) text) (number greatest_int (take (digits_len text) text))

abbrev pub of_this : Text → Front Naming
of_this text = option_map (λ found. (OfThis found.0, found.1)) (identifier text)

abbrev pub variable : Text → Front Naming
variable text = option_map (λ found. (Variable found.0, found.1)) (identifier text)

abbrev pub name : Text → Front Naming
name text =
    if begins (codes "#") text then parameter (after_blanks (drop 1 text))
    else if begins (codes "this.") text then of_this (after_blanks (drop 5 text))
    else variable text

-- ---- what may stand behind a name: nothing, or a sign and an unsigned int

abbrev pub negated : ℕ → ℤ
negated n = pos 0 -ℤ pos n

abbrev pub signed_constant : Text → Option ℤ
signed_constant text =
    if begins (codes "+") text then option_map pos (number greatest_int (after_blanks (drop 1 text)))
    else if begins (codes "-") text then option_map negated (number greatest_int (after_blanks (drop 1 text)))
    else None

abbrev pub constant : Text → Option ℤ
constant text = if length text == 0 then Some (pos 0) else signed_constant (after_blanks text)

-- ---- the three forms of text

abbrev pub alone : Naming × Text → Option Naming
alone found = if length found.1 == 0 then Some found.0 else None

-- A text that names an array: a name.
unfoldable pub array_text : Text → Option Naming
array_text text = option_and_then alone (name text)

abbrev pub with_constant : Naming × Text → Option (Naming × ℤ)
with_constant found = option_map (λ c. (found.0, c)) (constant found.1)

-- A text of `@LessThan`: a name, and optionally a sign and an unsigned int.
unfoldable pub bound_text : Text → Option (Naming × ℤ)
bound_text text = option_and_then with_constant (name text)

abbrev pub constant_or : Option Offset → Option ℤ → Option Offset
constant_or otherwise None = otherwise
constant_or otherwise (Some c) = Some (Constant c)

unfoldable pub plain_offset : Text → Option Offset
plain_offset text = constant_or (option_map (λ bound. Plus bound.0 bound.1) (bound_text text)) (option_map pos (number greatest_int text))

unfoldable pub negative_offset : Text → Option Offset
negative_offset text = constant_or (option_map (λ bound. Minus bound.0 bound.1) (bound_text text)) (option_map negated (number (greatest_int + 1) text))

-- A text of an offset: an int with an optional minus, or an optional minus, a name, and optionally a sign and an unsigned int.
unfoldable pub offset_text : Text → Option Offset
offset_text text = if begins (codes "-") text then negative_offset (after_blanks (drop 1 text)) else plain_offset text
