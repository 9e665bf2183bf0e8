-- Of the errors on names one list alone is listed.
use Rattle.std.proofs.Common.{length, ◌≡◌, inl, inr, List, [], ◌∷◌, refl, sym, ◌∙◌, ap, subst, arith}
use Rattle.ix_meaning.specs.declared.note.NameError.{NameError}
use Rattle.ix_meaning.specs.Listed.{IsBefore, Rises, IsListed}
use Rattle.ix_meaning.proofs.ErrorLists.{In, to_in, from_in, of_all}

-- ---- the order

not_both : (x y : NameError) → IsBefore x y → IsBefore y x → ⊥
not_both x y (inl a) (inl b) = omega (arith, a, b)
not_both x y (inl a) (inr (e, b)) = omega (arith, a, e)
not_both x y (inr (e, a)) (inl b) = omega (arith, e, b)
not_both x y (inr (e, inl a)) (inr (f, inl b)) = omega (arith, a, b)
not_both x y (inr (e, inl a)) (inr (f, inr (g, b))) = omega (arith, a, g)
not_both x y (inr (e, inr (g, a))) (inr (f, inl b)) = omega (arith, g, b)
not_both x y (inr (e, inr (g, a))) (inr (f, inr (h, b))) = omega (arith, a, b)

not_before_itself : (x : NameError) → IsBefore x x → ⊥
not_before_itself x before = not_both x x before before

-- two lists that rise and have the same members are one
same_rising : (xs ys : List NameError) → Rises xs → Rises ys → ((x : NameError) → In x xs → In x ys) → ((y : NameError) → In y ys → In y xs) → xs ≡ ys
same_rising [] [] rx ry there back = refl
same_rising [] (y ∷ ys) rx ry there back = absurd (back y (inl refl))
same_rising (x ∷ xs) [] rx ry there back = absurd (there x (inl refl))
same_rising (x ∷ xs) (y ∷ ys) rx ry there back =
    let same = heads (there x (inl refl)) (back y (inl refl)) in
    cons same (same_rising xs ys rx.1 ry.1
    (λ w h. later y ys w (subst (λ v. IsBefore v w) same (of_all (IsBefore x) xs w rx.0 h)) (there w (inr h)))
    (λ w h. later x xs w (subst (λ v. IsBefore v w) (sym same) (of_all (IsBefore y) ys w ry.0 h)) (back w (inr h))))
  where
    heads : In x (y ∷ ys) → In y (x ∷ xs) → x ≡ y
    heads (inl h) k = h
    heads (inr h) (inl k) = sym k
    heads (inr h) (inr k) = absurd (not_both x y (of_all (IsBefore x) xs y rx.0 k) (of_all (IsBefore y) ys x ry.0 h))

    apart : (v w : NameError) → IsBefore v w → w ≡ v → ⊥
    apart v w before same = not_before_itself v (subst (IsBefore v) same before)

    later : (v : NameError) (zs : List NameError) (w : NameError) → IsBefore v w → In w (v ∷ zs) → In w zs
    later v zs w before (inl h) = absurd (apart v w before h)
    later v zs w before (inr h) = h

    cons : x ≡ y → xs ≡ ys → x ∷ xs ≡ y ∷ ys
    cons same rest = ap (λ v. v ∷ xs) same ∙ ap (λ l. y ∷ l) rest

-- ---- listed errors

-- what one list has, another has
has_too : (es ys zs : List NameError) → IsListed es ys → IsListed es zs → (y : NameError) → In y ys → In y zs
has_too es ys zs a b y h = to_in zs y (b.all y (a.found y (from_in ys y h)))

pub one_list : (es ys zs : List NameError) → IsListed es ys → IsListed es zs → ys ≡ zs
one_list es ys zs a b = same_rising ys zs a.rises b.rises (has_too es ys zs a b) (has_too es zs ys b a)

-- without errors nothing is listed
pub none_listed : (es ys : List NameError) → IsListed es ys → es ≡ [] → ys ≡ []
none_listed es [] l none = refl
none_listed es (y ∷ ys) l none = let c = l.found y (0, omega arith, refl) in absurd (omega (arith, c.1, ap length none))
