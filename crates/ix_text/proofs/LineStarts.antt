-- The line starts of a text rise, the first is 0, and there are at most one more than the text has bytes.
use Rattle.std.proofs.Common.{◌≡◌, ℕ, zero, suc, ◌+◌, ◌<◌, ◌≤◌, Bool, true, false, cond, nat_le, List, [], ◌∷◌, ◌++◌, length, filter, ◌-◌, get_or, refl, sym, ap, ◌∙◌, arith, add-one}
use Rattle.std.proofs.lemmas.List.{append-nil, get_or_default}
use Rattle.std.proofs.lemmas.List.Elements.{filter-append}
use Rattle.std.specs.List.{count_by, range_with_len}
use Rattle.std.specs.List.Sorted.{IsNonDecreasing}
use Rattle.std.proofs.lemmas.Bool.{le-leb}
use Rattle.std.proofs.lemmas.List.Sums.{sum_by-cons, length-filter, count_by-le-length}
use Rattle.std.proofs.lemmas.List.FromFn.{length-range_with_len, get_or-range_with_len}
use Rattle.std.proofs.lemmas.List.Kept.{IsNonDecreasingBy-filter}
use Rattle.ix_text.specs.Lines.{starts_line, line_starts, line_of, line_start}

range_rises : (first n : ℕ) → IsNonDecreasing (range_with_len first n)
range_rises first n = λ i j d le lt.
    let short : j < n = omega (arith, length-range_with_len first n) in
    omega (arith, get_or-range_with_len first n i d (omega arith), get_or-range_with_len first n j d short)

pub line_starts_rise : (text : List ℕ) → IsNonDecreasing (line_starts text)
line_starts_rise text = IsNonDecreasingBy-filter (λ place. place) (starts_line text) (range_with_len 0 (length text + 1)) (range_rises 0 (length text + 1))

pub few_lines : (text : List ℕ) → length (line_starts text) ≤ length text + 1
few_lines text = omega (arith, length-filter (starts_line text) (range_with_len 0 (length text + 1)), count_by-le-length (starts_line text) (range_with_len 0 (length text + 1)), length-range_with_len 0 (length text + 1))

count_first : (p : ℕ → Bool) (x : ℕ) (xs : List ℕ) → p x ≡ true → 1 ≤ count_by p (x ∷ xs)
count_first p x xs h = let more : count_by p (x ∷ xs) ≡ cond (p x) 1 0 + count_by p xs = sum_by-cons (λ y. cond (p y) 1 0) x xs in rw (more, h) (omega arith)

-- each place is in a line
pub some_line : (text : List ℕ) (at : ℕ) → 1 ≤ line_of text at
some_line text at = rw (add-one (length text)) (count_first (λ start. nat_le start at) 0 (filter (starts_line text) (range_with_len 1 (length text))) (le-leb 0 at (omega arith)))

count_more : (p : ℕ → Bool) (x n : ℕ) (xs : List ℕ) (b : Bool) → p x ≡ b → count_by p xs ≡ n → count_by p (x ∷ xs) ≡ cond b 1 0 + n
count_more p x n xs b e h = sum_by-cons (λ y. cond (p y) 1 0) x xs ∙ rw (e, h) refl

-- where the elements that pass a test stand before those that fail it, the place between them counts them
pub count_to_point : (p : ℕ → Bool) (xs : List ℕ) (i : ℕ) → i ≤ length xs → ((k : ℕ) → k < i → p (get_or xs k 0) ≡ true) → ((k : ℕ) → i ≤ k → k < length xs → p (get_or xs k 0) ≡ false) → count_by p xs ≡ i
count_to_point p [] i h below above = omega arith
count_to_point p (x ∷ xs) zero h below above =
    count_more p x 0 xs false (above 0 (omega arith) (omega arith)) (count_to_point p xs 0 (omega arith) (λ k l. absurd (omega arith)) (λ k l m. above (suc k) (omega arith) (omega arith)))
count_to_point p (x ∷ xs) (suc i) h below above =
    count_more p x i xs true (below 0 (omega arith)) (count_to_point p xs i (omega arith) (λ k l. below (suc k) (omega arith)) (λ k l m. above (suc k) (omega arith) (omega arith)))
    ∙ omega arith

range_more : (first n last : ℕ) → first + n ≡ last → range_with_len first (suc n) ≡ range_with_len first n ++ last ∷ []
range_more first zero last e = let same : first ≡ last = omega arith in ap (λ x. x ∷ []) same
range_more first (suc n) last e = ap (λ xs. first ∷ xs) (range_more (first + 1) n last (omega arith))

starts_more : (text : List ℕ) (at : ℕ) → filter (starts_line text) (range_with_len 0 (at + 1)) ≡ filter (starts_line text) (range_with_len 0 at) ++ cond (starts_line text at) (at ∷ []) []
starts_more text at =
    let places : range_with_len 0 (at + 1) ≡ range_with_len 0 at ++ at ∷ [] = rw (add-one at) (range_more 0 at at (omega arith)) in
    ap (filter (starts_line text)) places ∙ filter-append (starts_line text) (range_with_len 0 at) (at ∷ [])

-- the places up to one that starts a line, and up to one that does not
pub starts_with : (text starts more : List ℕ) (at : ℕ) → starts ≡ filter (starts_line text) (range_with_len 0 at) → starts_line text at ≡ true → more ≡ starts ++ at ∷ [] → more ≡ filter (starts_line text) (range_with_len 0 (at + 1))
starts_with text starts more at e here m = rw (starts_more text at, here) (m ∙ ap (λ xs. xs ++ at ∷ []) e)

pub starts_without : (text starts : List ℕ) (at : ℕ) → starts ≡ filter (starts_line text) (range_with_len 0 at) → starts_line text at ≡ false → starts ≡ filter (starts_line text) (range_with_len 0 (at + 1))
starts_without text starts at e none = rw (starts_more text at, none) (e ∙ sym (append-nil (filter (starts_line text) (range_with_len 0 at))))

-- the line that is counted in a list of the line starts
pub line_is : (text starts seen : List ℕ) (at line : ℕ) → line ≡ count_by (λ start. nat_le start at) seen → seen ≡ starts → starts ≡ line_starts text → line ≡ line_of text at
line_is text starts seen at line counted e f = counted ∙ ap (count_by (λ start. nat_le start at)) (e ∙ f)

-- its start, which is not behind the place
pub start_is : (text starts : List ℕ) (at line start : ℕ) → starts ≡ line_starts text → line ≡ line_of text at → line ≤ length starts → start ≡ get_or starts (line - 1) start → start ≡ line_start text at
start_is text starts at line start e l short read =
    let inside : line - 1 < length starts = omega (arith, some_line text at) in
    let first : start ≡ get_or starts (line - 1) 0 = read ∙ get_or_default starts (line - 1) start 0 inside in
    cc

pub start_within : (starts seen : List ℕ) (at line start : ℕ) → seen ≡ starts → 1 ≤ line → line ≤ length seen → (0 < line → get_or seen (line - 1) 0 ≤ at) → start ≡ get_or starts (line - 1) start → start ≤ at
start_within starts seen at line start e some short before read =
    let inside : line - 1 < length starts = omega (arith, ap length e) in
    let low : get_or seen (line - 1) 0 ≤ at = before (omega arith) in
    let first : start ≡ get_or seen (line - 1) 0 = read ∙ get_or_default starts (line - 1) start 0 inside ∙ ap (λ xs. get_or xs (line - 1) 0) (sym e) in
    omega arith
