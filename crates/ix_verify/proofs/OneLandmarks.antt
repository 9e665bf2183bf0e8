-- The landmarks of a method are one list.
use Rattle.std.proofs.Common.{◌≡◌, inl, inr, ℤ, ◌<ℤ◌, List, [], ◌∷◌, arith, refl, sym, ap, subst, ◌∙◌}
use Rattle.std.proofs.lemmas.Int.{ints}
use Rattle.ix_facts.specs.Round.{IsAmong, Rises, AreLandmarks}

above_first : (n : ℤ) (ns : List ℤ) (m : ℤ) → Rises (n ∷ ns) → IsAmong m ns → n <ℤ m
above_first n [] m rises has = absurd has
above_first n (k ∷ ns) m rises (inl is) = subst (λ j. n <ℤ j) (sym is) rises.0
above_first n (k ∷ ns) m rises (inr has) = let later : k <ℤ m = above_first k ns m rises.1 has in let first : n <ℤ k = rises.0 in grind (arith, ints)

rest_rises : (n : ℤ) (ns : List ℤ) → Rises (n ∷ ns) → Rises ns
rest_rises n [] rises = tt
rest_rises n (m ∷ ns) rises = rises.1

least_first : (x y : ℤ) (xs ys : List ℤ) → Rises (x ∷ xs) → Rises (y ∷ ys) → IsAmong x (y ∷ ys) → IsAmong y (x ∷ xs) → x ≡ y
least_first x y xs ys first second (inl is) other = is
least_first x y xs ys first second (inr has) (inl is) = sym is
least_first x y xs ys first second (inr has) (inr other) =
    let one : y <ℤ x = above_first y ys x second has in
    let two : x <ℤ y = above_first x xs y first other in
    absurd (grind (arith, ints))

later_among : (x m : ℤ) (xs ys : List ℤ) → Rises (x ∷ xs) → IsAmong m xs → IsAmong m (x ∷ ys) → IsAmong m ys
later_among x m xs ys rises has (inr other) = other
later_among x m xs ys rises has (inl is) =
    let above : x <ℤ m = above_first x xs m rises has in
    let same : m ≡ x = is in
    absurd (grind (arith, ints))

one_rising : (xs ys : List ℤ) → Rises xs → Rises ys → ((n : ℤ) → IsAmong n xs → IsAmong n ys) → ((n : ℤ) → IsAmong n ys → IsAmong n xs) → xs ≡ ys
one_rising [] [] first second to back = refl
one_rising [] (y ∷ ys) first second to back = absurd (back y (inl refl))
one_rising (x ∷ xs) [] first second to back = absurd (to x (inl refl))
one_rising (x ∷ xs) (y ∷ ys) first second to back =
    let same = least_first x y xs ys first second (to x (inl refl)) (back y (inl refl)) in
    let rest : xs ≡ ys =
    one_rising xs ys (rest_rises x xs first) (rest_rises y ys second)
    (λ n has. later_among x n xs ys first has (subst (λ h. IsAmong n (h ∷ ys)) (sym same) (to n (inr has))))
    (λ n has. later_among y n ys xs second has (subst (λ h. IsAmong n (h ∷ xs)) same (back n (inr has)))) in
    ap (λ h. h ∷ xs) same ∙ ap (λ t. y ∷ t) rest

pub one_landmarks : (numbers marks others : List ℤ) → AreLandmarks numbers marks → AreLandmarks numbers others → marks ≡ others
one_landmarks numbers marks others first second =
    one_rising marks others first.rises second.rises (λ n has. second.all n (first.only n has)) (λ n has. first.all n (second.only n has))
