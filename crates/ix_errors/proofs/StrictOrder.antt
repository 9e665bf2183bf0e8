-- What is before, as words in a dictionary, is less: a strict order.
use Rattle.std.proofs.Common.{◌≡◌, ◌&&◌, ◌||◌, Bool, true, false, cond, List, [], ◌∷◌, refl, sym, ◌∙◌, ap, ℤ, int_lt}
use Rattle.std.specs.Ordering.{int_cmp, int_eq, ordering_then, is_lt, is_eq}
use Rattle.std.specs.declared.cmp.Ordering.{Ordering}
use Rattle.std.specs.declared.cmp.Ordering.TheVariants.{Less, Equal, Greater}
use Rattle.std.specs.Cmp.{int_cmp_total, tied_itself}
use Rattle.std.specs.Cmp.Lexicographic.{slice_cmp, lists_total}
use Rattle.ix_errors.specs.Order.{is_before}

before_by : (m n : ℤ) (less more : Bool) (rest : Ordering) → int_lt m n ≡ less → int_lt n m ≡ more
    → (less || (is_eq (cond less Less (cond more Greater Equal)) && is_lt rest)) ≡ is_lt (ordering_then (cond less Less (cond more Greater Equal)) rest)
before_by m n true more rest p q = refl
before_by m n false true rest p q = refl
before_by m n false false rest p q = refl

pub before_is : (xs ys : List ℤ) → is_before xs ys ≡ is_lt (slice_cmp int_cmp xs ys)
before_is [] [] = refl
before_is [] (y ∷ ys) = refl
before_is (x ∷ xs) [] = refl
before_is (x ∷ xs) (y ∷ ys) = ap (λ b. int_lt x y || (int_eq x y && b)) (before_is xs ys) ∙ before_by x y (int_lt x y) (int_lt y x) (slice_cmp int_cmp xs ys) refl refl

pub not_before_itself : (xs : List ℤ) → is_before xs xs ≡ false
not_before_itself xs = before_is xs xs ∙ ap is_lt (tied_itself (lists_total int_cmp_total) xs)

less_so : (r : Ordering) → is_lt r ≡ true → r ≡ Less
less_so Less h = refl
less_so Equal h = cc
less_so Greater h = cc

pub before_trans : (xs ys zs : List ℤ) → is_before xs ys ≡ true → is_before ys zs ≡ true → is_before xs zs ≡ true
before_trans xs ys zs h k =
    let first = less_so (slice_cmp int_cmp xs ys) (sym (before_is xs ys) ∙ h) in
    let second = less_so (slice_cmp int_cmp ys zs) (sym (before_is ys zs) ∙ k) in
    before_is xs zs ∙ ap is_lt ((lists_total int_cmp_total).trans xs ys zs first second)
