-- What is made of a list item by item, before what is made of the items that are left.
use Rattle.std.proofs.Common.{◌≡◌, ℕ, ◌<◌, ◌≤◌, ◌+◌, List, [], ◌∷◌, ◌++◌, length, drop, get_or, sym, ap, ◌∙◌, append_assoc, append-nil}
use Rattle.std.proofs.lemmas.List.{at_drop_more, at_drop_all}

pub one_more : {X Y : Type 0} (sum : List X → List Y) (own : X → List Y) → ((x : X) (xs : List X) → sum (x ∷ xs) ≡ own x ++ sum xs)
    → (xs : List X) (index : ℕ) (x : X) (before after whole : List Y) → index < length xs → x ≡ get_or xs index x → after ≡ before ++ own x → before ++ sum (drop index xs) ≡ whole
    → after ++ sum (drop (index + 1) xs) ≡ whole
one_more {X} sum own law xs index x before after whole within is added so_far =
    let left : List X = drop (index + 1) xs in
    ap (λ l. l ++ sum left) added ∙ append_assoc before (own x) (sum left)
    ∙ ap (λ l. before ++ l) (sym (at_drop_more sum xs index x within ∙ ap (λ y. sum (y ∷ left)) (sym is) ∙ law x left)) ∙ so_far

pub none_left : {X Y : Type 0} (sum : List X → List Y) → sum [] ≡ [] → (xs : List X) (index : ℕ) (before whole : List Y) → length xs ≤ index → before ++ sum (drop index xs) ≡ whole → before ≡ whole
none_left sum law xs index before whole ended so_far = sym (append-nil before) ∙ ap (λ l. before ++ l) (sym (at_drop_all sum xs index ended ∙ law)) ∙ so_far
