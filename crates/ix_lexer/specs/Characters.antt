-- The classes of characters. A character is its code point, and a text is the list of its characters.
use Rattle.std.specs.Prelude.{ℕ, Bool, ◌&&◌, ◌||◌, not, ◌==◌, List, [], ◌∷◌}
use Rattle.std.specs.Str.{byte}
use Rattle.unicode_ident.specs.Ident.{is_xid_start, is_xid_continue}

abbrev pub Text : Type 0
Text = List ℕ

-- LF and CR, of which either ends a line for comments and strings (JLS 3.4).
abbrev pub ends_line : ℕ → Bool
ends_line c = c == 10 || c == 13

-- Space, tab, form feed and the ends of lines (JLS 3.6).
abbrev pub is_white_space : ℕ → Bool
is_white_space c = c == 32 || c == 9 || c == 12 || ends_line c

-- The characters that go on an identifier by Unicode's tables but that Java ignores in one (JLS 3.8): U+200C and U+200D.
abbrev pub is_ignored : ℕ → Bool
is_ignored c = c == 8204 || c == 8205

-- The Java letters and the Java letters and digits of JLS 3.8, as Unicode's annex 31 gives them: XID_Start and XID_Continue, but for what Java ignores,
-- so that two names that are one to Java are one here.
abbrev pub starts_identifier : ℕ → Bool
starts_identifier c = is_xid_start c || c == byte "_" || c == byte "$"

abbrev pub continues_identifier : ℕ → Bool
continues_identifier c = is_xid_continue c && not (is_ignored c) || c == byte "$"

-- the double quote and the backslash
abbrev pub quote : ℕ
quote = 34

abbrev pub backslash : ℕ
backslash = 92

-- the first character, or 0 at the end of the text
abbrev pub first : Text → ℕ
first [] = 0
first (c ∷ cs) = c
