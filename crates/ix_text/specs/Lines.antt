-- The place of a byte in a text as people write it: its line and its column, both counted from 1.
use Rattle.std.specs.Prelude.{ℕ, ◌+◌, ◌-◌, ◌*◌, ◌/◌, Bool, ◌&&◌, ◌||◌, not, ◌==◌, nat_le, List, length, filter, map, take, slice_index, slice_range}
use Rattle.std.specs.List.{count_by, range_with_len}

-- Whether a line starts at the place `at`: at the start of the text, after LF, and after a CR that no LF follows (JLS 3.4).
-- LF is 10 and CR is 13.
abbrev pub starts_line : List ℕ → ℕ → Bool
starts_line text at = at == 0 || (slice_index text (at - 1) == 10 || (slice_index text (at - 1) == 13 && not (slice_index text at == 10)))

-- the places at which the lines start, first to last
abbrev pub line_starts : List ℕ → List ℕ
line_starts text = filter (starts_line text) (range_with_len 0 (length text + 1))

-- how many lines start at the place or before it
abbrev pub line_of : List ℕ → ℕ → ℕ
line_of text at = count_by (λ start. nat_le start at) (line_starts text)

-- where the line of the place starts
abbrev pub line_start : List ℕ → ℕ → ℕ
line_start text at = slice_index (line_starts text) (line_of text at - 1)

-- Whether the byte is the first of a character of UTF-8: any byte but 0x80 to 0xBF.
abbrev pub begins_character : ℕ → Bool
begins_character byte = not (nat_le 128 byte && nat_le byte 191)

abbrev pub characters : List ℕ → ℕ
characters bytes = count_by begins_character bytes

-- one more than the characters of the line before the place
abbrev pub column_of : List ℕ → ℕ → ℕ
column_of text at = 1 + characters (slice_range text (line_start text at) at)

-- the line and the column
abbrev pub place : List ℕ → ℕ → ℕ × ℕ
place text at = (line_of text at, column_of text at)

-- What a `LineMap` keeps so that no call counts a long line from its start: the characters before each block of 64 bytes.
abbrev pub block_count : List ℕ → ℕ → ℕ
block_count text block = characters (take (block * 64) text)

abbrev pub block_counts : List ℕ → List ℕ
block_counts text = map (block_count text) (range_with_len 0 (length text / 64 + 1))
