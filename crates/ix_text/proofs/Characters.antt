-- The characters before a place, counted up to a place before it and from there on.
use Rattle.std.proofs.Common.{◌≡◌, ℕ, ◌+◌, ◌-◌, ◌*◌, ◌/◌, ◌≤◌, cond, List, [], ◌∷◌, ◌++◌, map, length, take, drop, get_or, ap, sym, ◌∙◌, arith, length-take}
use Rattle.std.proofs.Math.Seq.{take-add}
use Rattle.std.proofs.lemmas.List.Sums.{sum_by-append, count_by-le-length}
use Rattle.std.specs.List.{range_with_len}
use Rattle.std.proofs.lemmas.List.FromFn.{length-map-range_with_len, get_or-map-range_with_len, map-range_with_len_more}
use Rattle.ix_text.specs.Lines.{characters, begins_character, block_count, block_counts, line_start, column_of}

added : (text : List ℕ) (from more : ℕ) → characters (take (from + more) text) ≡ characters (take from text) + characters (take more (drop from text))
added text from more = ap characters (take-add from more text) ∙ sum_by-append (λ byte. cond (begins_character byte) 1 0) (take from text) (take more (drop from text))

pub characters_split : (text : List ℕ) (from to : ℕ) → from ≤ to → characters (take to text) ≡ characters (take from text) + characters (take (to - from) (drop from text))
characters_split text from to h =
    let together : from + (to - from) ≡ to = omega arith in
    ap (λ n. characters (take n text)) (sym together) ∙ added text from (to - from)

pub few_characters : (text : List ℕ) (at : ℕ) → characters (take at text) ≤ at
few_characters text at = omega (arith, count_by-le-length begins_character (take at text), length-take at text)

pub block_count_at : (text counts : List ℕ) (block : ℕ) → counts ≡ block_counts text → block ≤ length text / 64 → get_or counts block 0 ≡ characters (take (block * 64) text)
block_count_at text counts block e h = ap (λ xs. get_or xs block 0) e ∙ get_or-map-range_with_len (block_count text) 0 (length text / 64 + 1) block block 0 (omega arith) (omega arith)

pub length-block_counts : (text counts : List ℕ) → counts ≡ block_counts text → length counts ≡ length text / 64 + 1
length-block_counts text counts e = ap length e ∙ length-map-range_with_len (block_count text) 0 (length text / 64 + 1)

-- one more block is counted
pub block_counts_more : (text counts more : List ℕ) (block before : ℕ) → counts ≡ map (block_count text) (range_with_len 0 block) → before ≡ block_count text block → more ≡ counts ++ before ∷ [] → more ≡ map (block_count text) (range_with_len 0 (block + 1))
block_counts_more text counts more block before e b m = let step : map (block_count text) (range_with_len 0 (block + 1)) ≡ map (block_count text) (range_with_len 0 block) ++ block_count text block ∷ [] = map-range_with_len_more (block_count text) 0 block block (omega arith) in cc

pub block_count_more : (text : List ℕ) (block : ℕ) → block_count text (block + 1) ≡ block_count text block + characters (take ((block + 1) * 64 - block * 64) (drop (block * 64) text))
block_count_more text block = characters_split text (block * 64) ((block + 1) * 64) (omega arith)

-- the characters before a place and before its line, which are counted in copies of the text
pub record Counted (text : List ℕ) (at start before before_line : ℕ) : Type 0 where
  pub within : start ≤ at
  pub at_place : before ≡ characters (take at text)
  pub at_line : before_line ≡ characters (take start text)

pub counted : (text copy line_copy : List ℕ) (at start before before_line : ℕ) → start ≤ at → before ≡ characters (take at copy) → before_line ≡ characters (take start line_copy) → copy ≡ text → line_copy ≡ text → Counted text at start before before_line
counted text copy line_copy at start before before_line le b l e f = record { within = le; at_place = b ∙ ap (λ t. characters (take at t)) e; at_line = l ∙ ap (λ t. characters (take start t)) f }

pub line_before_place : {text : List ℕ} {at start before before_line : ℕ} → Counted text at start before before_line → before_line ≤ before
line_before_place {text} {at} {start} k = omega (arith, characters_split text start at k.within, k.at_place, k.at_line)

pub column_is : {text : List ℕ} {at start before before_line : ℕ} → Counted text at start before before_line → start ≡ line_start text at → 1 + before - before_line ≡ column_of text at
column_is {text} {at} {start} {before} {before_line} k s =
    let all : 1 + before - before_line ≡ 1 + characters (take (at - start) (drop start text)) = omega (arith, characters_split text start at k.within, k.at_place, k.at_line) in
    all ∙ ap (λ n. 1 + characters (take (at - n) (drop n text))) s
