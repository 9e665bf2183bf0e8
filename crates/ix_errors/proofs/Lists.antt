-- Lists of errors: of the same errors there is one list, and it is empty where no error is derived.
use Rattle.std.proofs.Common.{zero, suc, ◌≡◌, ℕ, ◌⊎◌, inl, inr, true, false, Some, List, [], ◌∷◌, refl, sym, ◌∙◌, subst, arith, slice_get}
use Rattle.std.specs.List.{AllByRecursion}
use Rattle.ix_core.specs.declared.error.Error.{Error}
use Rattle.ix_errors.specs.ErrorList.{HasRank, IsErrorList}
use Rattle.ix_errors.specs.Order.{error_key, is_before}
use Rattle.ix_errors.proofs.StrictOrder.{not_before_itself, before_trans}

-- ---- the same errors

pub same_list : (D E : Error → ℕ → Type 0) → ((error : Error) (rank : ℕ) → D error rank → E error rank) → ((error : Error) (rank : ℕ) → E error rank → D error rank)
    → (errors : List Error) → IsErrorList D errors → IsErrorList E errors
same_list D E to back errors h = record {
  all = λ error rank e. h.all error rank (back error rank e);
  only = λ at error here. let c = h.only at error here in (c.0, record { is = to error c.0 c.1.is; least = λ other e. c.1.least other (back error other e) });
  ordered = λ at error next rank after here there r s. h.ordered at error next rank after here there (ranked error rank r) (ranked next after s);
}
  where
    ranked : (error : Error) (rank : ℕ) → HasRank E error rank → HasRank D error rank
    ranked error rank r = record { is = back error rank r.is; least = λ other d. r.least other (to error other d) }

-- ---- one list

pub one_rank : (D : Error → ℕ → Type 0) (error : Error) (rank other : ℕ) → HasRank D error rank → HasRank D error other → rank ≡ other
one_rank D error rank other h k = let a = h.least other k.is in let b = k.least rank h.is in omega (arith, a, b)

module _ (D : Error → ℕ → Type 0) where
  -- the first error is listed before the second
  record IsBefore (one other : Error) : Type 0 where
    rank : ℕ
    after : ℕ
    first : HasRank D one rank
    second : HasRank D other after
    less : is_before (error_key one rank) (error_key other after) ≡ true

  never_itself : (one : Error) → IsBefore one one → ⊥
  never_itself one b =
      let same : b.rank ≡ b.after = one_rank D one b.rank b.after b.first b.second in
      let itself : is_before (error_key one b.rank) (error_key one b.after) ≡ false = subst (λ n. is_before (error_key one b.rank) (error_key one n) ≡ false) same (not_before_itself (error_key one b.rank)) in
      let less : is_before (error_key one b.rank) (error_key one b.after) ≡ true = b.less in
      cc

  chain : (x y z : Error) → IsBefore x y → IsBefore y z → IsBefore x z
  chain x y z a b =
      let same : b.rank ≡ a.after = one_rank D y b.rank a.after b.first a.second in
      let on : is_before (error_key y a.after) (error_key z b.after) ≡ true = subst (λ n. is_before (error_key y n) (error_key z b.after) ≡ true) same b.less in
      record { rank = a.rank; after = b.after; first = a.first; second = b.second; less = before_trans (error_key x a.rank) (error_key y a.after) (error_key z b.after) a.less on }

  Rising : List Error → Type 0
  Rising [] = Unit {0}
  Rising (x ∷ xs) = AllByRecursion (IsBefore x) xs × Rising xs

  Stands : Error → List Error → Type 0
  Stands error xs = (at : ℕ) × (slice_get xs at ≡ Some error)

  all_after : (x y : Error) (zs : List Error) → IsBefore x y → AllByRecursion (IsBefore y) zs → AllByRecursion (IsBefore x) zs
  all_after x y [] b a = tt
  all_after x y (z ∷ zs) b a = (chain x y z b a.0, all_after x y zs b a.1)

  rising : (xs : List Error) → ((at : ℕ) (error : Error) → slice_get xs at ≡ Some error → (rank : ℕ) × HasRank D error rank)
      → ((at : ℕ) (error next : Error) (rank after : ℕ) → slice_get xs at ≡ Some error → slice_get xs (suc at) ≡ Some next → HasRank D error rank → HasRank D next after
      → is_before (error_key error rank) (error_key next after) ≡ true)
      → Rising xs
  unfolding Rising
  rising [] only ordered = tt
  rising (x ∷ []) only ordered = (tt, tt)
  rising (x ∷ y ∷ zs) only ordered =
      let rest = rising (y ∷ zs) (λ at error here. only (suc at) error here) (λ at error next rank after here there. ordered (suc at) error next rank after here there) in
      let r = only 0 x refl in
      let s = only 1 y refl in
      let first : IsBefore x y = record { rank = r.0; after = s.0; first = r.1; second = s.1; less = ordered 0 x y r.0 s.0 refl refl r.1 s.1 } in
      ((first, all_after x y zs first rest.0), rest)

  after_head : (x : Error) (xs : List Error) (error : Error) → AllByRecursion (IsBefore x) xs → Stands error xs → IsBefore x error
  unfolding Stands
  after_head x xs error a s = at xs s.0 a s.1
    where
      at : (xs : List Error) (k : ℕ) → AllByRecursion (IsBefore x) xs → slice_get xs k ≡ Some error → IsBefore x error
      at [] k a h = cc
      at (y ∷ ys) zero a h = let same : y ≡ error = cc in subst (λ (v : Error). IsBefore x v) same a.0
      at (y ∷ ys) (suc k) a h = at ys k a.1 h

  head_or_later : (x : Error) (xs : List Error) (error : Error) → Stands error (x ∷ xs) → (x ≡ error) ⊎ Stands error xs
  unfolding Stands
  head_or_later x xs error s = at s.0 s.1
    where
      at : (k : ℕ) → slice_get (x ∷ xs) k ≡ Some error → (x ≡ error) ⊎ Stands error xs
      at zero h = inl cc
      at (suc k) h = inr (k, h)

  heads_same : (x y : Error) (xs ys : List Error) → Rising (x ∷ xs) → Rising (y ∷ ys) → Stands x (y ∷ ys) → Stands y (x ∷ xs) → x ≡ y
  unfolding Rising
  heads_same x y xs ys r s a b = by (head_or_later y ys x a) (head_or_later x xs y b)
    where
      by : (y ≡ x) ⊎ Stands x ys → (x ≡ y) ⊎ Stands y xs → x ≡ y
      by (inl h) k = sym h
      by (inr h) (inl k) = k
      by (inr h) (inr k) = absurd (never_itself x (chain x y x (after_head x xs y r.0 k) (after_head y ys x s.0 h)))

  -- what stands in the first list stands in the second: so it is with the rests
  rest_stands : (x y : Error) (xs ys : List Error) → x ≡ y → Rising (x ∷ xs) → ((error : Error) → Stands error (x ∷ xs) → Stands error (y ∷ ys)) → (error : Error) → Stands error xs → Stands error ys
  unfolding Rising Stands
  rest_stands x y xs ys same r to error s = by (head_or_later y ys error (to error (suc s.0, s.1)))
    where
      by : (y ≡ error) ⊎ Stands error ys → Stands error ys
      by (inl h) = absurd (never_itself x (subst (λ (v : Error). IsBefore x v) (sym h ∙ sym same) (after_head x xs error r.0 s)))
      by (inr h) = h

  one_rising : (xs ys : List Error) → Rising xs → Rising ys → ((error : Error) → Stands error xs → Stands error ys) → ((error : Error) → Stands error ys → Stands error xs) → xs ≡ ys
  unfolding Rising Stands
  one_rising [] [] r s to back = refl
  one_rising [] (y ∷ ys) r s to back = let c = back y (0, refl) in let no : slice_get [] c.0 ≡ Some y = c.1 in cc
  one_rising (x ∷ xs) [] r s to back = let c = to x (0, refl) in let no : slice_get [] c.0 ≡ Some x = c.1 in cc
  one_rising (x ∷ xs) (y ∷ ys) r s to back =
      let same = heads_same x y xs ys r s (to x (0, refl)) (back y (0, refl)) in
      let rest = one_rising xs ys r.1 s.1 (rest_stands x y xs ys same r to) (rest_stands y x ys xs (sym same) s back) in
      cc

  pub one_list : (xs ys : List Error) → IsErrorList D xs → IsErrorList D ys → xs ≡ ys
  unfolding Stands
  one_list xs ys h k = one_rising xs ys (rising xs h.only h.ordered) (rising ys k.only k.ordered)
      (λ error s. let c = h.only s.0 error s.1 in k.all error c.0 c.1.is)
      (λ error s. let c = k.only s.0 error s.1 in h.all error c.0 c.1.is)

-- ---- no error

pub none_listed : (D : Error → ℕ → Type 0) (errors : List Error) → IsErrorList D errors → errors ≡ [] → (error : Error) (rank : ℕ) → D error rank → ⊥
none_listed D errors h none error rank d =
    let c = h.all error rank d in
    let no : slice_get [] c.0 ≡ Some error = subst (λ (v : List Error). slice_get v c.0 ≡ Some error) none c.1 in
    cc

pub none_derived : (D : Error → ℕ → Type 0) (errors : List Error) → IsErrorList D errors → ((error : Error) (rank : ℕ) → D error rank → ⊥) → errors ≡ []
none_derived D [] h none = refl
none_derived D (x ∷ xs) h none = let c = h.only 0 x refl in absurd (none x c.0 c.1.is)
