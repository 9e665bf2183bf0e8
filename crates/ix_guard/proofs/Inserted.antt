-- Bytes with the texts inserted: one more text.
use Rattle.std.proofs.Common.{◌≡◌, ℕ, ◌<◌, ◌+◌, ◌-◌, suc, List, ◌∷◌, ◌++◌, length, take, drop, get_or, sym, ap, ◌∙◌, refl, append_assoc, add-one}
use Rattle.std.proofs.Math.Seq.{drop-cons}
use Rattle.ix_guard.specs.declared.insertion.Insertion.{Insertion}
use Rattle.ix_guard.specs.Guards.{with_texts}

unrolled : (xs : List Insertion) (index : ℕ) (x : Insertion) → index < length xs → x ≡ get_or xs index x → drop index xs ≡ x ∷ drop (index + 1) xs
unrolled xs index x within is = drop-cons xs index x within ∙ (ap (λ a. a ∷ drop (suc index) xs) (sym is) ∙ rw add-one refl)

pub one_text : (bytes first behind : List ℕ) (at count : ℕ) (xs : List Insertion) (index : ℕ) (x : Insertion) (before middle after whole : List ℕ)
    → index < length xs → x ≡ get_or xs index x → count ≡ x.place - at → first ≡ take count bytes → behind ≡ drop count bytes → middle ≡ before ++ first → after ≡ middle ++ x.text
    → before ++ with_texts at bytes (drop index xs) ≡ whole → after ++ with_texts x.place behind (drop (index + 1) xs) ≡ whole
one_text bytes first behind at count xs index x before middle after whole within is far begins left one two so_far =
    let rest : List Insertion = drop (index + 1) xs in
    let on : List ℕ = with_texts x.place behind rest in
    ap (λ l. l ++ on) (two ∙ ap (λ l. l ++ x.text) one) ∙ append_assoc (before ++ first) x.text on ∙ append_assoc before first (x.text ++ on)
    ∙ (ap (λ l. before ++ (l ++ (x.text ++ on))) (begins ∙ ap (λ n. take n bytes) far) ∙ ap (λ l. before ++ (take (x.place - at) bytes ++ (x.text ++ with_texts x.place l rest))) (left ∙ ap (λ n. drop n bytes) far))
    ∙ (ap (λ l. before ++ with_texts at bytes l) (sym (unrolled xs index x within is)) ∙ so_far)
