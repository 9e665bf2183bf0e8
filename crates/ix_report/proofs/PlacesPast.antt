-- Past its end a text has the place of its end.
use Rattle.std.proofs.Common.{◌≡◌, ◌∙◌, ℕ, zero, suc, ◌+◌, ◌-◌, ◌≤◌, Bool, true, false, cond, List, ◌∷◌, length, take, drop, fold, filter, nat_le, refl, sym, ap, arith}
use Rattle.std.specs.List.{range_with_len}
use Rattle.std.proofs.lemmas.Bool.{le-leb}
use Rattle.std.proofs.lemmas.List.{take_all, length-drop}
use Rattle.ix_text.specs.Lines.{starts_line, line_of, line_start, column_of, characters, place}

-- how many of these starts come at the place or before it, with those that were counted before
abbrev below : ℕ → ℕ → List ℕ → ℕ
below before at starts = fold (λ n start. n + cond (nat_le start at) 1 0) before starts

one_more : (kept : Bool) (before from last at : ℕ) (starts : List ℕ) → nat_le from last ≡ nat_le from at → ((n : ℕ) → below n last starts ≡ below n at starts)
    → below before last (cond kept (from ∷ starts) starts) ≡ below before at (cond kept (from ∷ starts) starts)
one_more false before from last at starts test rest = rest before
one_more true before from last at starts test rest = ap (λ t. below (before + cond t 1 0) last starts) test ∙ rest (before + cond (nat_le from at) 1 0)

counted : (p : ℕ → Bool) (last at from n : ℕ) → last ≤ at → from + n ≤ last + 1 → (before : ℕ) → below before last (filter p (range_with_len from n)) ≡ below before at (filter p (range_with_len from n))
counted p last at from zero le fits before = refl
counted p last at from (suc n) le fits before =
    one_more (p from) before from last at (filter p (range_with_len (from + 1) n)) (le-leb from last (omega (arith, fits)) ∙ sym (le-leb from at (omega (arith, fits, le)))) (counted p last at (from + 1) n le (omega (arith, fits)))

same_line : (text : List ℕ) (at : ℕ) → length text ≤ at → line_of text (length text) ≡ line_of text at
same_line text at past = counted (starts_line text) (length text) at 0 (length text + 1) past (omega arith) 0

rest_of : (text : List ℕ) (at start : ℕ) → length text ≤ at → take (at - start) (drop start text) ≡ drop start text
rest_of text at start past = take_all (at - start) (drop start text) (omega (arith, past, length-drop start text))

pub place_past : (text : List ℕ) (at : ℕ) → length text ≤ at → place text (length text) ≡ place text at
place_past text at past =
    let line = same_line text at past in
    let start : line_start text (length text) ≡ line_start text at = rw line refl in
    let column : column_of text (length text) ≡ column_of text at =
    ap (λ s. 1 + characters (take (length text - s) (drop s text))) start ∙ ap (λ bytes. 1 + characters bytes) (rest_of text (length text) (line_start text at) (omega arith) ∙ sym (rest_of text at (line_start text at) past)) in
    ap (λ l. (l, column_of text (length text))) line ∙ ap (λ c. (line_of text at, c)) column
