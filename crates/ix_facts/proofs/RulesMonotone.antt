-- Stronger facts derive stronger facts: each rule after an operation, and all of an operation where the exact interval of the stronger is not empty.
use Rattle.std.specs.Prelude.{◌≡◌, Bool, true, ◌&&◌, ℤ, pos, negsuc, ◌+ℤ◌, ◌-ℤ◌, ◌≤ℤ◌, int_le, List, [], ◌∷◌, ◌++◌, Option, Some, None}
use Rattle.std.specs.Int.{int_min, int_max}
use Rattle.std.proofs.Common.{arith}
use Rattle.std.proofs.lemmas.Bool.{and_parts, and_from, false≢true}
use Rattle.std.proofs.lemmas.Int.{ints, clamps}
use Rattle.ix_num.specs.declared.interval.Interval.{Interval}
use Rattle.ix_num.specs.Ints.{greatest_int}
use Rattle.ix_num.specs.Intervals.{IsWithin}
use Rattle.ix_tables.specs.declared.low.Low.{Low as Class}
use Rattle.ix_tables.specs.LowClasses.{class_of}
use Rattle.ix_core.specs.declared.claim.Type_.{Type_}
use Rattle.ix_core.specs.declared.fact.Path.{Path}
use Rattle.ix_core.specs.declared.fact.PathOff.{PathOff}
use Rattle.ix_core.specs.declared.fact.PathOff.TheVariants.{Nothing, Plus, Minus}
use Rattle.ix_core.specs.declared.fact.Fact.{Fact}
use Rattle.ix_core.specs.declared.fact.Fact.TheVariants.{Rng, Low, Same, IsLen, Less, Sum, Search, Neg, Upper}
use Rattle.ix_core.specs.declared.fact.Profile.{Profile}
use Rattle.ix_facts.specs.Facts.{Covers, Stronger, rng, len_rng, low, same, is_len, less, sum, search, neg, upper}
use Rattle.ix_facts.specs.Bounds
use Rattle.ix_facts.specs.Bounds.{is_path}
use Rattle.ix_facts.specs.Exact.{if_so, each, if_some, named_arrays, lies_in_int, fits, range_facts, low_facts, class_facts, class_number}
use Rattle.ix_facts.specs.AfterOperation as after
use Rattle.ix_facts.proofs.Tests.{at_most_true, at_most_is}
use Rattle.ix_facts.proofs.BoundsMonotone.{lower_mono, limit_mono, length_low_mono, length_high_mono, fact_less_mono, upper_mono, less_mono}
use Rattle.ix_facts.proofs.Worse.{Up, Down, Worse}
use Rattle.ix_facts.proofs.FactLists.{stronger_app, stronger_cons, stronger_one, stronger_none, stronger_itself}
use Rattle.ix_facts.proofs.RuleForms.{stronger_if, stronger_some, stronger_each, stronger_each_path, named_arrays_mono}
use Rattle.ix_facts.proofs.ExactLaws.{ends_within, in_int_mono, fits_mono}
use Rattle.ix_facts.proofs.ClassLaws.{class_up}

-- ---- a test that stays true of a lower number

pub still_at_most : (x y n : ℤ) → y ≤ℤ x → int_le x n ≡ true → int_le y n ≡ true
still_at_most x y n h t = let k = at_most_true x n t in at_most_is y n (omega (arith, ints))

pub still_at_least : (x y n : ℤ) → x ≤ℤ y → int_le n x ≡ true → int_le n y ≡ true
still_at_least x y n h t = let k = at_most_true n x t in at_most_is n y (omega (arith, ints))

both_still : (a b c d : Bool) → (a ≡ true → c ≡ true) → (b ≡ true → d ≡ true) → (a && b) ≡ true → (c && d) ≡ true
both_still a b c d p q t = let both = and_parts a b t in and_from c d (p both.0) (q both.1)

-- ---- ranges and classes of a result

module _ (profile : Profile) (t : Path) (i j : Interval) (some : i.lo ≤ℤ i.hi) (within : IsWithin i j) where
  pub range_facts_mono : Stronger (range_facts t i) (range_facts t j)
  range_facts_mono =
      let e = ends_within i j some within in
      stronger_if (lies_in_int j) (lies_in_int i) (Rng t i.lo i.hi ∷ []) (Rng t j.lo j.hi ∷ []) (in_int_mono i j some within) (λ x. stronger_one _ _ (rng t i.lo i.hi j.lo j.hi e.0 e.1))

  class_facts_mono : (strong weak : Class) → Worse Up (class_number weak) (class_number strong) → Stronger (class_facts t strong) (class_facts t weak)
  class_facts_mono strong weak w = stronger_some Up (Low t) (class_number weak) (class_number strong) (λ x y h. low t y x h) w

  pub low_facts_mono : (strong weak : Class) → Worse Up (class_number weak) (class_number strong) → Stronger (low_facts profile t i strong) (low_facts profile t j weak)
  low_facts_mono strong weak w =
      let e = ends_within i j some within in
      stronger_if (fits profile j) (fits profile i) (class_facts t (class_of i.lo) ++ class_facts t strong) (class_facts t (class_of j.lo) ++ class_facts t weak) (fits_mono profile i j some within)
      (λ x. stronger_app _ _ _ _ (class_facts_mono (class_of i.lo) (class_of j.lo) (class_up j.lo i.lo e.0)) (class_facts_mono strong weak w))

-- ---- copies

copied_one : (t s : Path) (g f : Fact) → Covers g f → Stronger (after.copied_by t s g) (after.copied_by t s f)
copied_one t s _ _ (rng p l h m k x y) = stronger_if (is_path p s) (is_path p s) _ _ (λ u. u) (λ u. stronger_one _ _ (rng t l h m k x y))
copied_one t s _ _ (len_rng p l h m k x y) = stronger_if (is_path p s) (is_path p s) _ _ (λ u. u) (λ u. stronger_one _ _ (len_rng t l h m k x y))
copied_one t s _ _ (low p k m x) = stronger_if (is_path p s) (is_path p s) _ _ (λ u. u) (λ u. stronger_one _ _ (low t k m x))
copied_one t s _ _ (same a b) = stronger_itself (after.copied_by t s (Same a b))
copied_one t s _ _ (is_len p a) = stronger_itself (after.copied_by t s (IsLen p a))
copied_one t s _ _ (sum u y z) = stronger_itself (after.copied_by t s (Sum u y z))
copied_one t s _ _ (search p a) = stronger_itself (after.copied_by t s (Search p a))
copied_one t s _ _ (neg p a) = stronger_itself (after.copied_by t s (Neg p a))
copied_one t s _ _ (less p q c d x) = stronger_none []
copied_one t s _ _ (upper p a o c d x) = stronger_none []

array_copied_one : (t s : Path) (g f : Fact) → Covers g f → Stronger (after.array_copied_by t s g) (after.array_copied_by t s f)
array_copied_one t s _ _ (upper p a o c d x) = stronger_if (is_path a s) (is_path a s) _ _ (λ u. u) (λ u. stronger_one _ _ (upper p t o c d x))
array_copied_one t s _ _ (rng _ _ _ _ _ _ _) = stronger_none []
array_copied_one t s _ _ (len_rng _ _ _ _ _ _ _) = stronger_none []
array_copied_one t s _ _ (low _ _ _ _) = stronger_none []
array_copied_one t s _ _ (less _ _ _ _ _) = stronger_none []
array_copied_one t s _ _ (same _ _) = stronger_none []
array_copied_one t s _ _ (is_len _ _) = stronger_none []
array_copied_one t s _ _ (sum _ _ _) = stronger_none []
array_copied_one t s _ _ (search _ _) = stronger_none []
array_copied_one t s _ _ (neg _ _) = stronger_none []

module _ (strong weak : List Fact) (s : Stronger strong weak) where
  pub copied_mono : (ty : Type_) (t p : Path) → Stronger (after.copied strong ty t p) (after.copied weak ty t p)
  copied_mono ty t p =
      stronger_app _ _ _ _
      (stronger_if (after.is_int ty) (after.is_int ty) (after.copied_int strong t p) (after.copied_int weak t p) (λ u. u)
      (λ u. stronger_cons _ _ _ _ (less t p (pos 1) (pos 1) (omega (arith, ints))) (stronger_cons _ _ _ _ (less p t (pos 1) (pos 1) (omega (arith, ints))) (stronger_each (after.copied_by t p) (after.copied_by t p) (copied_one t p) strong weak s))))
      (stronger_if (after.is_array ty) (after.is_array ty) (after.copied_array strong t p) (after.copied_array weak t p) (λ u. u)
      (λ u. stronger_cons _ _ _ _ (same t p) (stronger_each (after.array_copied_by t p) (after.array_copied_by t p) (array_copied_one t p) strong weak s)))

  -- ---- arithmetic

  from_mono : (p : Path) (n : ℤ) → after.is_from weak p n ≡ true → after.is_from strong p n ≡ true
  from_mono p n t = still_at_least (Bounds.lower_bound weak p) (Bounds.lower_bound strong p) n (lower_mono strong weak s p) t

  both_from_mono : (p q : Path) (m n : ℤ) → (after.is_from weak p m && after.is_from weak q n) ≡ true → (after.is_from strong p m && after.is_from strong q n) ≡ true
  both_from_mono p q m n = both_still (after.is_from weak p m) (after.is_from weak q n) (after.is_from strong p m) (after.is_from strong q n) (from_mono p m) (from_mono q n)

  upper_given : (make : ℤ → Fact) (p a : Path) (o : PathOff) → ((x y : ℤ) → x ≤ℤ y → Covers (make y) (make x)) → Stronger (if_some make (Bounds.upper_bound strong p a o)) (if_some make (Bounds.upper_bound weak p a o))
  upper_given make p a o k = stronger_some Up make (Bounds.upper_bound weak p a o) (Bounds.upper_bound strong p a o) k (upper_mono strong weak s p a o)

  module _ (t y z : Path) where
    sum_array_mono : (a : Path) → Stronger (after.sum_array strong t y z a) (after.sum_array weak t y z a)
    sum_array_mono a =
        stronger_app _ _ _ _ (upper_given (Upper t a Nothing) y a (Plus z) (λ x w h. upper t a Nothing w x h))
        (stronger_app _ _ _ _ (upper_given (Upper t a (Minus z)) y a Nothing (λ x w h. upper t a (Minus z) w x h))
        (upper_given (Upper t a (Minus y)) z a Nothing (λ x w h. upper t a (Minus y) w x h)))

    difference_array_mono : (a : Path) → Stronger (after.difference_array strong t y z a) (after.difference_array weak t y z a)
    difference_array_mono a =
        stronger_app _ _ _ _ (upper_given (Upper t a (Plus z)) y a Nothing (λ x w h. upper t a (Plus z) w x h))
        (upper_given (Upper t a Nothing) y a (Minus z) (λ x w h. upper t a Nothing w x h))

  less_given : (p q r x : Path) → Stronger (if_some (Less p q) (Bounds.fact_less strong r x)) (if_some (Less p q) (Bounds.fact_less weak r x))
  less_given p q r x = stronger_some Down (Less p q) (Bounds.fact_less weak r x) (Bounds.fact_less strong r x) (λ c d h. less p q d c h) (fact_less_mono strong weak s r x)

  sum_beside_mono : (t y z : Path) (g f : Fact) → Covers g f → Stronger (after.sum_beside strong t y z g) (after.sum_beside weak t y z f)
  sum_beside_mono t y z _ _ (sum r x q) =
      stronger_if (is_path x y) (is_path x y) (if_some (Less t r) (Bounds.fact_less strong z q) ++ if_some (Less r t) (Bounds.fact_less strong q z)) (if_some (Less t r) (Bounds.fact_less weak z q) ++ if_some (Less r t) (Bounds.fact_less weak q z)) (λ u. u)
      (λ u. stronger_app _ _ _ _ (less_given t r z q) (less_given r t q z))
  sum_beside_mono t y z _ _ (rng _ _ _ _ _ _ _) = stronger_none []
  sum_beside_mono t y z _ _ (len_rng _ _ _ _ _ _ _) = stronger_none []
  sum_beside_mono t y z _ _ (low _ _ _ _) = stronger_none []
  sum_beside_mono t y z _ _ (less _ _ _ _ _) = stronger_none []
  sum_beside_mono t y z _ _ (same _ _) = stronger_none []
  sum_beside_mono t y z _ _ (is_len _ _) = stronger_none []
  sum_beside_mono t y z _ _ (search _ _) = stronger_none []
  sum_beside_mono t y z _ _ (neg _ _) = stronger_none []
  sum_beside_mono t y z _ _ (upper _ _ _ _ _ _) = stronger_none []

  pub sum_facts_mono : (t y z : Path) → Stronger (after.sum_facts strong t y z) (after.sum_facts weak t y z)
  sum_facts_mono t y z =
      let a = lower_mono strong weak s y in
      let b = limit_mono strong weak s y in
      let c = lower_mono strong weak s z in
      let d = limit_mono strong weak s z in
      stronger_cons _ _ _ _ (sum t y z)
      (stronger_cons _ _ _ _ (less t y (Bounds.upper_limit strong z +ℤ pos 1) (Bounds.upper_limit weak z +ℤ pos 1) (omega (arith, ints)))
      (stronger_cons _ _ _ _ (less y t (pos 1 -ℤ Bounds.lower_bound strong z) (pos 1 -ℤ Bounds.lower_bound weak z) (omega (arith, ints)))
      (stronger_cons _ _ _ _ (less t z (Bounds.upper_limit strong y +ℤ pos 1) (Bounds.upper_limit weak y +ℤ pos 1) (omega (arith, ints)))
      (stronger_cons _ _ _ _ (less z t (pos 1 -ℤ Bounds.lower_bound strong y) (pos 1 -ℤ Bounds.lower_bound weak y) (omega (arith, ints)))
      (stronger_app _ _ _ _ (stronger_each_path (after.sum_array strong t y z) (after.sum_array weak t y z) (sum_array_mono t y z) (named_arrays strong) (named_arrays weak) (named_arrays_mono strong weak s))
      (stronger_app _ _ _ _ (stronger_each _ _ (sum_beside_mono t y z) strong weak s) (stronger_each _ _ (sum_beside_mono t z y) strong weak s)))))))

  pub difference_facts_mono : (t y z : Path) → Stronger (after.difference_facts strong t y z) (after.difference_facts weak t y z)
  difference_facts_mono t y z =
      let c = lower_mono strong weak s z in
      let d = limit_mono strong weak s z in
      stronger_cons _ _ _ _ (sum y t z)
      (stronger_cons _ _ _ _ (less t y (pos 1 -ℤ Bounds.lower_bound strong z) (pos 1 -ℤ Bounds.lower_bound weak z) (omega (arith, ints)))
      (stronger_cons _ _ _ _ (less y t (Bounds.upper_limit strong z +ℤ pos 1) (Bounds.upper_limit weak z +ℤ pos 1) (omega (arith, ints)))
      (stronger_each_path (after.difference_array strong t y z) (after.difference_array weak t y z) (difference_array_mono t y z) (named_arrays strong) (named_arrays weak) (named_arrays_mono strong weak s))))

  -- a test that stays true, with facts that do not depend on what is known
  fixed : (u v : Bool) (a : List Fact) → (v ≡ true → u ≡ true) → Stronger (if_so u a) (if_so v a)
  fixed u v a k = stronger_if v u a a k (λ x. stronger_itself a)

  pub product_facts_mono : (t y z : Path) → Stronger (after.product_facts strong t y z) (after.product_facts weak t y z)
  product_facts_mono t y z = stronger_app _ _ _ _ (fixed _ _ (Less y t (pos 1) ∷ []) (both_from_mono y z (pos 0) (pos 1))) (fixed _ _ (Less z t (pos 1) ∷ []) (both_from_mono z y (pos 0) (pos 1)))

  pub quotient_facts_mono : (t y z : Path) → Stronger (after.quotient_facts strong t y z) (after.quotient_facts weak t y z)
  quotient_facts_mono t y z = stronger_app _ _ _ _ (fixed _ _ (Less t y (pos 1) ∷ []) (both_from_mono y z (pos 0) (pos 0))) (fixed _ _ (Less t y (pos 0) ∷ []) (both_from_mono y z (pos 1) (pos 2)))

  pub remainder_facts_mono : (t y z : Path) → Stronger (after.remainder_facts strong t y z) (after.remainder_facts weak t y z)
  remainder_facts_mono t y z = stronger_app _ _ _ _ (fixed _ _ (Less t z (pos 0) ∷ []) (from_mono z (pos 0))) (fixed _ _ (Less t y (pos 1) ∷ []) (from_mono y (pos 0)))

  pub and_facts_mono : (t y z : Path) → Stronger (after.and_facts strong t y z) (after.and_facts weak t y z)
  and_facts_mono t y z = stronger_app _ _ _ _ (fixed _ _ (Less t z (pos 1) ∷ []) (from_mono z (pos 0))) (fixed _ _ (Less t y (pos 1) ∷ []) (from_mono y (pos 0)))

  pub shift_facts_mono : (t y : Path) → Stronger (after.shift_facts strong t y) (after.shift_facts weak t y)
  shift_facts_mono t y = fixed _ _ (Less t y (pos 1) ∷ []) (from_mono y (pos 0))

  half_between_mono : (t y z : Path) → Stronger (after.half_between strong t y z) (after.half_between weak t y z)
  half_between_mono t y z =
      let l = less_mono strong weak s y z in
      stronger_app _ _ _ _
      (fixed _ _ (Less y t (pos 1) ∷ Less t z (pos 1) ∷ []) (still_at_most (Bounds.less_bound weak y z) (Bounds.less_bound strong y z) (pos 1) l))
      (fixed _ _ (Less t z (pos 0) ∷ []) (still_at_most (Bounds.less_bound weak y z) (Bounds.less_bound strong y z) (pos 0) l))

  half_one_mono : (t p : Path) (g f : Fact) → Covers g f → Stronger (after.half_by strong t p g) (after.half_by weak t p f)
  half_one_mono t p _ _ (sum x y z) = stronger_if (is_path x p) (is_path x p) (after.half_between strong t y z) (after.half_between weak t y z) (λ u. u) (λ u. half_between_mono t y z)
  half_one_mono t p _ _ (rng _ _ _ _ _ _ _) = stronger_none []
  half_one_mono t p _ _ (len_rng _ _ _ _ _ _ _) = stronger_none []
  half_one_mono t p _ _ (low _ _ _ _) = stronger_none []
  half_one_mono t p _ _ (less _ _ _ _ _) = stronger_none []
  half_one_mono t p _ _ (same _ _) = stronger_none []
  half_one_mono t p _ _ (is_len _ _) = stronger_none []
  half_one_mono t p _ _ (search _ _) = stronger_none []
  half_one_mono t p _ _ (neg _ _) = stronger_none []
  half_one_mono t p _ _ (upper _ _ _ _ _ _) = stronger_none []

  pub half_facts_mono : (n : ℤ) (t p z : Path) → Stronger (after.half_facts strong n t p z) (after.half_facts weak n t p z)
  half_facts_mono n t p z =
      let k = limit_mono strong weak s z in
      stronger_if (after.is_from weak z n && (int_le (Bounds.upper_limit weak z) n && after.is_from weak p (pos 0))) (after.is_from strong z n && (int_le (Bounds.upper_limit strong z) n && after.is_from strong p (pos 0))) (each (after.half_by strong t p) strong) (each (after.half_by weak t p) weak)
      (both_still (after.is_from weak z n) (int_le (Bounds.upper_limit weak z) n && after.is_from weak p (pos 0)) (after.is_from strong z n) (int_le (Bounds.upper_limit strong z) n && after.is_from strong p (pos 0)) (from_mono z n)
      (both_still (int_le (Bounds.upper_limit weak z) n) (after.is_from weak p (pos 0)) (int_le (Bounds.upper_limit strong z) n) (after.is_from strong p (pos 0)) (still_at_most (Bounds.upper_limit weak z) (Bounds.upper_limit strong z) n k) (from_mono p (pos 0))))
      (λ u. stronger_each (after.half_by strong t p) (after.half_by weak t p) (half_one_mono t p) strong weak s)

  reaches_mono : (a b : Option ℤ) (n : ℤ) → Worse Up a b → after.reaches weak a n ≡ true → after.reaches strong b n ≡ true
  reaches_mono None b n w t = absurd (false≢true t)
  reaches_mono (Some x) None n w t = absurd w
  reaches_mono (Some x) (Some y) n w t = still_at_least x y n w t

  flip_array_mono : (t y a : Path) → Stronger (after.flip_array strong t y a) (after.flip_array weak t y a)
  flip_array_mono t y a =
      fixed _ _ (Neg t a ∷ []) (both_still (after.is_from weak y (pos 0)) (after.reaches weak (Bounds.upper_bound weak y a Nothing) (negsuc 0)) (after.is_from strong y (pos 0)) (after.reaches strong (Bounds.upper_bound strong y a Nothing) (negsuc 0)) (from_mono y (pos 0)) (reaches_mono (Bounds.upper_bound weak y a Nothing) (Bounds.upper_bound strong y a Nothing) (negsuc 0) (upper_mono strong weak s y a Nothing)))

  flip_one_mono : (t y : Path) (g f : Fact) → Covers g f → Stronger (after.flip_by strong t y g) (after.flip_by weak t y f)
  flip_one_mono t y _ _ (search p a) = stronger_itself (if_so (is_path p y) (Upper t a Nothing (negsuc 0) ∷ []))
  flip_one_mono t y _ _ (rng _ _ _ _ _ _ _) = stronger_none []
  flip_one_mono t y _ _ (len_rng _ _ _ _ _ _ _) = stronger_none []
  flip_one_mono t y _ _ (low _ _ _ _) = stronger_none []
  flip_one_mono t y _ _ (less _ _ _ _ _) = stronger_none []
  flip_one_mono t y _ _ (same _ _) = stronger_none []
  flip_one_mono t y _ _ (is_len _ _) = stronger_none []
  flip_one_mono t y _ _ (sum _ _ _) = stronger_none []
  flip_one_mono t y _ _ (neg _ _) = stronger_none []
  flip_one_mono t y _ _ (upper _ _ _ _ _ _) = stronger_none []

  pub flip_facts_mono : (t y : Path) → Stronger (after.flip_facts strong t y) (after.flip_facts weak t y)
  flip_facts_mono t y =
      stronger_app _ _ _ _ (stronger_each_path (after.flip_array strong t y) (after.flip_array weak t y) (flip_array_mono t y) (named_arrays strong) (named_arrays weak) (named_arrays_mono strong weak s))
      (stronger_each (after.flip_by strong t y) (after.flip_by weak t y) (flip_one_mono t y) strong weak s)

  -- ---- lengths and arrays

  length_one_mono : (t a : Path) (g f : Fact) → Covers g f → Stronger (after.length_by strong t a g) (after.length_by weak t a f)
  length_one_mono t a _ _ (upper p b Nothing c d x) = stronger_if (is_path b a) (is_path b a) (Less p t (pos 0 -ℤ c) ∷ []) (Less p t (pos 0 -ℤ d) ∷ []) (λ u. u) (λ u. stronger_one _ _ (less p t (pos 0 -ℤ c) (pos 0 -ℤ d) (omega (arith, ints))))
  length_one_mono t a _ _ (upper p b (Plus q) c d x) = stronger_none []
  length_one_mono t a _ _ (upper p b (Minus q) c d x) = stronger_none []
  length_one_mono t a _ _ (is_len q b) = stronger_itself (if_so (is_path b a) (Less q t (pos 1) ∷ Less t q (pos 1) ∷ []))
  length_one_mono t a _ _ (rng _ _ _ _ _ _ _) = stronger_none []
  length_one_mono t a _ _ (len_rng _ _ _ _ _ _ _) = stronger_none []
  length_one_mono t a _ _ (low _ _ _ _) = stronger_none []
  length_one_mono t a _ _ (less _ _ _ _ _) = stronger_none []
  length_one_mono t a _ _ (same _ _) = stronger_none []
  length_one_mono t a _ _ (sum _ _ _) = stronger_none []
  length_one_mono t a _ _ (search _ _) = stronger_none []
  length_one_mono t a _ _ (neg _ _) = stronger_none []

  pub length_facts_mono : (t a : Path) → Stronger (after.length_facts strong t a) (after.length_facts weak t a)
  length_facts_mono t a =
      stronger_cons _ _ _ _ (is_len t a)
      (stronger_cons _ _ _ _ (rng t (Bounds.length_low strong a) (Bounds.length_high strong a) (Bounds.length_low weak a) (Bounds.length_high weak a) (length_low_mono strong weak s a) (length_high_mono strong weak s a))
      (stronger_each (after.length_by strong t a) (after.length_by weak t a) (length_one_mono t a) strong weak s))

  new_array_one_mono : (t n : Path) (g f : Fact) → Covers g f → Stronger (after.new_array_by strong t n g) (after.new_array_by weak t n f)
  new_array_one_mono t n _ _ (less p q c d x) = stronger_if (is_path q n) (is_path q n) (Upper p t Nothing (pos 0 -ℤ c) ∷ []) (Upper p t Nothing (pos 0 -ℤ d) ∷ []) (λ u. u) (λ u. stronger_one _ _ (upper p t Nothing (pos 0 -ℤ c) (pos 0 -ℤ d) (omega (arith, ints))))
  new_array_one_mono t n _ _ (sum x y z) = stronger_itself (if_so (is_path x n) (Upper y t (Plus z) (negsuc 0) ∷ []))
  new_array_one_mono t n _ _ (rng _ _ _ _ _ _ _) = stronger_none []
  new_array_one_mono t n _ _ (len_rng _ _ _ _ _ _ _) = stronger_none []
  new_array_one_mono t n _ _ (low _ _ _ _) = stronger_none []
  new_array_one_mono t n _ _ (same _ _) = stronger_none []
  new_array_one_mono t n _ _ (is_len _ _) = stronger_none []
  new_array_one_mono t n _ _ (search _ _) = stronger_none []
  new_array_one_mono t n _ _ (neg _ _) = stronger_none []
  new_array_one_mono t n _ _ (upper _ _ _ _ _ _) = stronger_none []

  pub new_array_facts_mono : (t n : Path) → Stronger (after.new_array_facts strong t n) (after.new_array_facts weak t n)
  new_array_facts_mono t n =
      let l = lower_mono strong weak s n in
      let k = limit_mono strong weak s n in
      stronger_cons _ _ _ _ (is_len n t)
      (stronger_cons _ _ _ _ (same t t)
      (stronger_cons _ _ _ _ (len_rng t (int_max (Bounds.lower_bound strong n) (pos 0)) (int_min (Bounds.upper_limit strong n) greatest_int) (int_max (Bounds.lower_bound weak n) (pos 0)) (int_min (Bounds.upper_limit weak n) greatest_int) (omega (arith, ints, clamps)) (omega (arith, ints, clamps)))
      (stronger_each (after.new_array_by strong t n) (after.new_array_by weak t n) (new_array_one_mono t n) strong weak s)))
