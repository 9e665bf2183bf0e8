-- Numbers of near paths, raised and lowered fact by fact.
use Rattle.std.specs.Prelude.{◌≡◌, ◌≢◌, ◌<◌, ◌≤◌, ℕ, ◌+◌, ℤ, ◌+ℤ◌, ◌-ℤ◌, pos, true, false, nat_eq, get_or, length, drop, slice_set, slice_index_or, All, IfSome, Option, Some, None, List, [], ◌∷◌, refl}
use Rattle.std.specs.Int.{int_min, int_max}
use Rattle.std.proofs.Common.{add-one, arith, ap, sym, subst, ◌∙◌}
use Rattle.std.proofs.Math.Seq.{drop-cons}
use Rattle.std.proofs.lemmas.Bool.{false≢true}
use Rattle.std.proofs.lemmas.Int.{ints, clamps}
use Rattle.std.proofs.lemmas.List.{get_or-set_same, get_or-set_other, drop_all}
use Rattle.std.proofs.lemmas.List.Elements.{All-head, All-tail}
use Rattle.ix_num.specs.Ints.{least_int, greatest_int}
use Rattle.ix_core.specs.declared.fact.Path.{Path}
use Rattle.ix_core.specs.declared.fact.PathOff.TheVariants.{Nothing}
use Rattle.ix_core.specs.declared.fact.Fact.{Fact}
use Rattle.ix_core.specs.declared.fact.Fact.TheVariants.{Rng, LenRng, Low, Same, IsLen, Less, Sum, Search, Neg, Upper}
use Rattle.ix_core.proofs.Cases.{by_test}
use Rattle.ix_facts.specs.Bounds.{is_path, when, best, best_of, greatest, least, at_least, at_most, range_low_by, range_high_by, length_low_by, length_high_by, range_low, range_high, length_low, length_high, lower_by, limit_by}
use Rattle.ix_facts.specs.PathOrder.{path_same}
use Rattle.ix_facts.specs.Small.{HasSmallNumbers, IsClass, IsEnd, IsLimit, IsBound}
use Rattle.ix_bounds.proofs.BestOfParts.{low_joined, high_joined}
use Rattle.ix_fact_paths.specs.ByPath.{is_near, near_place}
use Rattle.ix_fact_paths.proofs.NearPlaces.{number_itself, number_same, place_tells}
use Rattle.ix_fact_list.specs.NearNumbers.{number_at, Raises, Lowers, AreLimits, AreNumbers}

-- ---- one number

pub raised : (old new : List ℤ) (d : ℤ) (p : Path) (n : ℤ) → is_near p ≡ true → ((at : ℕ) → get_or new at d ≡ at_least (get_or old at d) (when (nat_eq (near_place p) at) (Some n))) → Raises old new d (λ q. when (is_path p q) (Some n))
raised old new d p n near put q by = put (near_place q) ∙ ap (λ t. at_least (get_or old (near_place q) d) (when t (Some n))) (place_tells p q near by)

pub lowered : (old new : List ℤ) (d : ℤ) (p : Path) (n : ℤ) → is_near p ≡ true → ((at : ℕ) → get_or new at d ≡ at_most (get_or old at d) (when (nat_eq (near_place p) at) (Some n))) → Lowers old new d (λ q. when (is_path p q) (Some n))
lowered old new d p n near put q by = put (near_place q) ∙ ap (λ t. at_most (get_or old (near_place q) d) (when t (Some n))) (place_tells p q near by)

-- a path that is not near changes the number of no near path
other : (p q : Path) → is_near p ≡ false → is_near q ≡ true → is_path p q ≡ false
other p q far near = by_test (is_path p q) (λ t. absurd (false≢true (sym far ∙ (ap is_near (path_same p q t) ∙ near)))) (λ t. t)

pub far_raised : (old : List ℤ) (d : ℤ) (p : Path) (n : ℤ) → is_near p ≡ false → Raises old old d (λ q. when (is_path p q) (Some n))
far_raised old d p n far q near = rw (other p q far near) refl

pub far_lowered : (old : List ℤ) (d : ℤ) (p : Path) (n : ℤ) → is_near p ≡ false → Lowers old old d (λ q. when (is_path p q) (Some n))
far_lowered old d p n far q near = rw (other p q far near) refl

-- ---- a number is put at its place

apart : (m n : ℕ) → nat_eq m n ≡ false → n ≢ m
apart m n t e = false≢true (sym t ∙ subst (λ k. nat_eq m k ≡ true) (sym e) (number_itself m))

module _ (old reached : List ℤ) (d : ℤ) (place : ℕ) (given : ℤ) (long : place < length reached) (same : (at : ℕ) → get_or reached at d ≡ get_or old at d) where
  pub set_raised : (n : ℤ) → n ≡ int_max (get_or reached place d) given → (at : ℕ) → get_or (slice_set reached place n) at d ≡ at_least (get_or old at d) (when (nat_eq place at) (Some given))
  set_raised n is at =
      by_test (nat_eq place at)
      (λ t. rw t
      (subst (λ k. get_or (slice_set reached place n) k d ≡ int_max (get_or old k d) given) (number_same place at t)
      (get_or-set_same reached place n d long ∙ (is ∙ ap (λ x. int_max x given) (same place)))))
      (λ t. rw t (get_or-set_other reached place at n d (apart place at t) ∙ same at))

  pub set_lowered : (n : ℤ) → n ≡ int_min (get_or reached place d) given → (at : ℕ) → get_or (slice_set reached place n) at d ≡ at_most (get_or old at d) (when (nat_eq place at) (Some given))
  set_lowered n is at =
      by_test (nat_eq place at)
      (λ t. rw t
      (subst (λ k. get_or (slice_set reached place n) k d ≡ int_min (get_or old k d) given) (number_same place at t)
      (get_or-set_same reached place n d long ∙ (is ∙ ap (λ x. int_min x given) (same place)))))
      (λ t. rw t (get_or-set_other reached place at n d (apart place at t) ∙ same at))

-- ---- the same of each path

pub raised_as : (old new : List ℤ) (d : ℤ) (by given : Path → Option ℤ) → ((p : Path) → by p ≡ given p) → Raises old new d by → Raises old new d given
raised_as old new d by given e more p near = more p near ∙ ap (at_least (number_at old d p)) (e p)

pub lowered_as : (old new : List ℤ) (d : ℤ) (by given : Path → Option ℤ) → ((p : Path) → by p ≡ given p) → Lowers old new d by → Lowers old new d given
lowered_as old new d by given e more p near = more p near ∙ ap (at_most (number_at old d p)) (e p)

pub not_raised : (old : List ℤ) (d : ℤ) (given : Path → Option ℤ) → ((p : Path) → None ≡ given p) → Raises old old d given
not_raised old d given e p near = ap (at_least (number_at old d p)) (e p)

pub not_lowered : (old : List ℤ) (d : ℤ) (given : Path → Option ℤ) → ((p : Path) → None ≡ given p) → Lowers old old d given
not_lowered old d given e p near = ap (at_most (number_at old d p)) (e p)

-- ---- numbers stay small

max_limit : (x y : ℤ) → IsLimit x → IsLimit y → IsLimit (int_max x y)
max_limit x y a b = record { above = omega (arith, ints, clamps, a.above, b.above); below = omega (arith, ints, clamps, a.below, b.below) }

min_limit : (x y : ℤ) → IsLimit x → IsLimit y → IsLimit (int_min x y)
min_limit x y a b = record { above = omega (arith, ints, clamps, a.above, b.above); below = omega (arith, ints, clamps, a.below, b.below) }

pub raised_small : (old new : List ℤ) (d : ℤ) (place : ℕ) (n : ℤ) → ((at : ℕ) → get_or new at d ≡ at_least (get_or old at d) (when (nat_eq place at) (Some n))) → IsLimit n → AreLimits old d → AreLimits new d
raised_small old new d place n put small now at =
    subst IsLimit (sym (put at)) (by_test (nat_eq place at) (λ t. rw t (max_limit (get_or old at d) n (now at) small)) (λ t. rw t (now at)))

pub lowered_small : (old new : List ℤ) (d : ℤ) (place : ℕ) (n : ℤ) → ((at : ℕ) → get_or new at d ≡ at_most (get_or old at d) (when (nat_eq place at) (Some n))) → IsLimit n → AreLimits old d → AreLimits new d
lowered_small old new d place n put small now at =
    subst IsLimit (sym (put at)) (by_test (nat_eq place at) (λ t. rw t (min_limit (get_or old at d) n (now at) small)) (λ t. rw t (now at)))

-- ---- fact by fact: what stands, and what the facts that are left give, are what all give

abbrev pub Rising : (Path → Fact → Option ℤ) → (Path → ℤ) → List ℤ → ℤ → List Fact → Type 0
Rising by of numbers d rest = (p : Path) → is_near p ≡ true → at_least (number_at numbers d p) (greatest (by p) rest) ≡ of p

abbrev pub Falling : (Path → Fact → Option ℤ) → (Path → ℤ) → List ℤ → ℤ → List Fact → Type 0
Falling by of numbers d rest = (p : Path) → is_near p ≡ true → at_most (number_at numbers d p) (least (by p) rest) ≡ of p

pub next_rises : (by : Path → Fact → Option ℤ) (of : Path → ℤ) (old new : List ℤ) (d : ℤ) (fact : Fact) (rest : List Fact) → Raises old new d (λ p. by p fact) → Rising by of old d (fact ∷ rest) → Rising by of new d rest
next_rises by of old new d fact rest more now p near =
    ap (λ x. at_least x (greatest (by p) rest)) (more p near) ∙ (low_joined (number_at old d p) (by p fact) (greatest (by p) rest) ∙ now p near)

pub next_falls : (by : Path → Fact → Option ℤ) (of : Path → ℤ) (old new : List ℤ) (d : ℤ) (fact : Fact) (rest : List Fact) → Lowers old new d (λ p. by p fact) → Falling by of old d (fact ∷ rest) → Falling by of new d rest
next_falls by of old new d fact rest more now p near =
    ap (λ x. at_most x (least (by p) rest)) (more p near) ∙ (high_joined (number_at old d p) (by p fact) (least (by p) rest) ∙ now p near)

-- ---- no fact left

pub risen : (by : Path → Fact → Option ℤ) (of : Path → ℤ) (numbers : List ℤ) (d : ℤ) (facts : List Fact) (k : ℕ) → length facts ≤ k → Rising by of numbers d (drop k facts) → AreNumbers numbers d of
risen by of numbers d facts k past all p near = subst (λ left. at_least (number_at numbers d p) (greatest (by p) left) ≡ of p) (drop_all k facts past) (all p near)

pub fallen : (by : Path → Fact → Option ℤ) (of : Path → ℤ) (numbers : List ℤ) (d : ℤ) (facts : List Fact) (k : ℕ) → length facts ≤ k → Falling by of numbers d (drop k facts) → AreNumbers numbers d of
fallen by of numbers d facts k past all p near = subst (λ left. at_most (number_at numbers d p) (least (by p) left) ≡ of p) (drop_all k facts past) (all p near)

-- a number that is told, made of two others
pub told_by : (of : ℤ → ℤ → ℤ) (told made from end c k : ℤ) (whole : ℤ) → told ≡ made → made ≡ of from k → from ≡ end → end ≡ whole → k ≡ c → told ≡ of whole c
told_by of told made from end c k whole a e b f d = a ∙ (e ∙ (ap (λ x. of x k) (b ∙ f) ∙ ap (of whole) d))

-- ---- no fact yet

abbrev pub AreNone : List ℤ → ℤ → Type 0
AreNone numbers d = (at : ℕ) → get_or numbers at d ≡ d

pub rising_at_first : (by : Path → Fact → Option ℤ) (of : Path → ℤ) (numbers : List ℤ) (d : ℤ) (facts : List Fact) → AreNone numbers d → ((p : Path) → at_least d (greatest (by p) facts) ≡ of p) → Rising by of numbers d facts
rising_at_first by of numbers d facts none all p near = ap (λ x. at_least x (greatest (by p) facts)) (none (near_place p)) ∙ all p

pub falling_at_first : (by : Path → Fact → Option ℤ) (of : Path → ℤ) (numbers : List ℤ) (d : ℤ) (facts : List Fact) → AreNone numbers d → ((p : Path) → at_most d (least (by p) facts) ≡ of p) → Falling by of numbers d facts
falling_at_first by of numbers d facts none all p near = ap (λ x. at_most x (least (by p) facts)) (none (near_place p)) ∙ all p

pub small_at_first : (numbers : List ℤ) (d : ℤ) → AreNone numbers d → IsLimit d → AreLimits numbers d
small_at_first numbers d none small at = subst IsLimit (sym (none at)) small

-- ---- one fact further

module _ (by : Path → Fact → Option ℤ) (of : Path → ℤ) (old new : List ℤ) (d : ℤ) (facts : List Fact) (k : ℕ) (none : Fact) (more : k < length facts) where
  here : drop k facts ≡ slice_index_or facts k none ∷ drop (k + 1) facts
  here = rw add-one (drop-cons facts k none more)

  pub rises : Raises old new d (λ p. by p (slice_index_or facts k none)) → Rising by of old d (drop k facts) → Rising by of new d (drop (k + 1) facts)
  rises put now = next_rises by of old new d (slice_index_or facts k none) (drop (k + 1) facts) put (subst (Rising by of old d) here now)

  pub falls : Lowers old new d (λ p. by p (slice_index_or facts k none)) → Falling by of old d (drop k facts) → Falling by of new d (drop (k + 1) facts)
  falls put now = next_falls by of old new d (slice_index_or facts k none) (drop (k + 1) facts) put (subst (Falling by of old d) here now)

-- ---- what one fact gives

module _ (fact : Fact) where
  pub range_low_told : (q : Path) (l h n : ℤ) → fact ≡ Rng q l h → n ≡ l → (p : Path) → when (is_path q p) (Some n) ≡ range_low_by p fact
  range_low_told q l h n e m p = subst (λ f. when (is_path q p) (Some n) ≡ range_low_by p f) (sym e) (ap (λ x. when (is_path q p) (Some x)) m)

  pub class_told : (q : Path) (c n : ℤ) → fact ≡ Low q c → n ≡ c → (p : Path) → when (is_path q p) (Some n) ≡ range_low_by p fact
  class_told q c n e m p = subst (λ f. when (is_path q p) (Some n) ≡ range_low_by p f) (sym e) (ap (λ x. when (is_path q p) (Some x)) m)

  pub range_high_told : (q : Path) (l h n : ℤ) → fact ≡ Rng q l h → n ≡ h → (p : Path) → when (is_path q p) (Some n) ≡ range_high_by p fact
  range_high_told q l h n e m p = subst (λ f. when (is_path q p) (Some n) ≡ range_high_by p f) (sym e) (ap (λ x. when (is_path q p) (Some x)) m)

  pub length_low_told : (a : Path) (l h n : ℤ) → fact ≡ LenRng a l h → n ≡ l → (p : Path) → when (is_path a p) (Some n) ≡ length_low_by p fact
  length_low_told a l h n e m p = subst (λ f. when (is_path a p) (Some n) ≡ length_low_by p f) (sym e) (ap (λ x. when (is_path a p) (Some x)) m)

  pub length_high_told : (a : Path) (l h n : ℤ) → fact ≡ LenRng a l h → n ≡ h → (p : Path) → when (is_path a p) (Some n) ≡ length_high_by p fact
  length_high_told a l h n e m p = subst (λ f. when (is_path a p) (Some n) ≡ length_high_by p f) (sym e) (ap (λ x. when (is_path a p) (Some x)) m)

module _ (facts : List Fact) (fact : Fact) where
  pub low_of_less : (q r : Path) (c n : ℤ) → fact ≡ Less q r c → n ≡ range_low facts q -ℤ c +ℤ pos 1 → (p : Path) → when (is_path r p) (Some n) ≡ lower_by facts p fact
  low_of_less q r c n e m p = subst (λ f. when (is_path r p) (Some n) ≡ lower_by facts p f) (sym e) (ap (λ x. when (is_path r p) (Some x)) m)

  pub low_of_length : (r a : Path) (n : ℤ) → fact ≡ IsLen r a → n ≡ length_low facts a → (p : Path) → when (is_path r p) (Some n) ≡ lower_by facts p fact
  low_of_length r a n e m p = subst (λ f. when (is_path r p) (Some n) ≡ lower_by facts p f) (sym e) (ap (λ x. when (is_path r p) (Some x)) m)

  pub high_of_less : (q r : Path) (c n : ℤ) → fact ≡ Less q r c → n ≡ range_high facts r +ℤ c -ℤ pos 1 → (p : Path) → when (is_path q p) (Some n) ≡ limit_by facts p fact
  high_of_less q r c n e m p = subst (λ f. when (is_path q p) (Some n) ≡ limit_by facts p f) (sym e) (ap (λ x. when (is_path q p) (Some x)) m)

  pub high_of_upper : (r a : Path) (c n : ℤ) → fact ≡ Upper r a Nothing c → n ≡ length_high facts a -ℤ pos 1 -ℤ c → (p : Path) → when (is_path r p) (Some n) ≡ limit_by facts p fact
  high_of_upper r a c n e m p = subst (λ f. when (is_path r p) (Some n) ≡ limit_by facts p f) (sym e) (ap (λ x. when (is_path r p) (Some x)) m)

  pub high_of_length : (r a : Path) (n : ℤ) → fact ≡ IsLen r a → n ≡ length_high facts a → (p : Path) → when (is_path r p) (Some n) ≡ limit_by facts p fact
  high_of_length r a n e m p = subst (λ f. when (is_path r p) (Some n) ≡ limit_by facts p f) (sym e) (ap (λ x. when (is_path r p) (Some x)) m)

-- ---- a difference raises the one int and lowers the other

module _ (facts : List Fact) (fact : Fact) (q r : Path) (c : ℤ) (is : fact ≡ Less q r c) (m : ℤ) (same : m ≡ c) (small great : ℕ) (of_q : is_near q ≡ true) (of_r : is_near r ≡ true) (at_q : small ≡ near_place q) (at_r : great ≡ near_place r) (old new : List ℤ) (numbers : List ℤ) (d : ℤ) where
  pub less_raised : get_or numbers small d ≡ range_low facts q → ((at : ℕ) → get_or new at d ≡ at_least (get_or old at d) (when (nat_eq great at) (Some (get_or numbers small d -ℤ m +ℤ pos 1)))) → Raises old new d (λ p. lower_by facts p fact)
  less_raised low put =
      let n = get_or numbers small d -ℤ m +ℤ pos 1 in
      raised_as old new d (λ p. when (is_path r p) (Some n)) (λ p. lower_by facts p fact) (low_of_less facts fact q r c n is (ap (λ x. x -ℤ m +ℤ pos 1) low ∙ ap (λ k. range_low facts q -ℤ k +ℤ pos 1) same))
      (raised old new d r n of_r (λ at. put at ∙ ap (λ k. at_least (get_or old at d) (when (nat_eq k at) (Some n))) at_r))

  pub less_lowered : get_or numbers great d ≡ range_high facts r → ((at : ℕ) → get_or new at d ≡ at_most (get_or old at d) (when (nat_eq small at) (Some (get_or numbers great d +ℤ m -ℤ pos 1)))) → Lowers old new d (λ p. limit_by facts p fact)
  less_lowered high put =
      let n = get_or numbers great d +ℤ m -ℤ pos 1 in
      lowered_as old new d (λ p. when (is_path q p) (Some n)) (λ p. limit_by facts p fact) (high_of_less facts fact q r c n is (ap (λ x. x +ℤ m -ℤ pos 1) high ∙ ap (λ k. range_high facts r +ℤ k -ℤ pos 1) same))
      (lowered old new d q n of_q (λ at. put at ∙ ap (λ k. at_most (get_or old at d) (when (nat_eq k at) (Some n))) at_q))

-- ---- the ends of ranges are small

max_end : (x y : ℤ) → IsEnd x → IsEnd y → IsEnd (int_max x y)
max_end x y a b = record { above = omega (arith, ints, clamps, a.above, b.above); below = omega (arith, ints, clamps, a.below, b.below) }

min_end : (x y : ℤ) → IsEnd x → IsEnd y → IsEnd (int_min x y)
min_end x y a b = record { above = omega (arith, ints, clamps, a.above, b.above); below = omega (arith, ints, clamps, a.below, b.below) }

best_end : (better : ℤ → ℤ → ℤ) → ((x y : ℤ) → IsEnd x → IsEnd y → IsEnd (better x y)) → (x y : Option ℤ) → IfSome x IsEnd → IfSome y IsEnd → IfSome (best better x y) IsEnd
best_end better two None y a b = b
best_end better two (Some x) None a b = a
best_end better two (Some x) (Some y) a b = two x y a b

best_small : (better : ℤ → ℤ → ℤ) → ((x y : ℤ) → IsEnd x → IsEnd y → IsEnd (better x y)) → (by : Fact → Option ℤ) → ((f : Fact) → HasSmallNumbers f → IfSome (by f) IsEnd) → (facts : List Fact) → All HasSmallNumbers facts → IfSome (best_of better by facts) IsEnd
best_small better two by each [] s = tt
best_small better two by each (f ∷ facts) s =
    best_end better two (by f) (best_of better by facts) (each f (All-head HasSmallNumbers f facts s)) (best_small better two by each facts (All-tail HasSmallNumbers f facts s))

low_end : (n : ℤ) (x : Option ℤ) → IsEnd n → IfSome x IsEnd → IsEnd (at_least n x)
low_end n None a b = a
low_end n (Some x) a b = max_end n x a b

high_end : (n : ℤ) (x : Option ℤ) → IsEnd n → IfSome x IsEnd → IsEnd (at_most n x)
high_end n None a b = a
high_end n (Some x) a b = min_end n x a b

pub least_small : IsEnd least_int
least_small = record { above = omega (arith, ints); below = omega (arith, ints) }

pub greatest_small : IsEnd greatest_int
greatest_small = record { above = omega (arith, ints); below = omega (arith, ints) }

zero_small : IsEnd (pos 0)
zero_small = record { above = omega (arith, ints); below = omega (arith, ints) }

pub limit_of_end : (n : ℤ) → IsEnd n → IsLimit n
limit_of_end n a = record { above = omega (arith, ints, a.above); below = omega (arith, ints, a.below) }

pub bound_of_limit : (n : ℤ) → IsLimit n → IsBound n
bound_of_limit n a = record { above = omega (arith, ints, a.above); below = omega (arith, ints, a.below) }

class_end : (c : ℤ) → IsClass c → IsEnd c
class_end c a = record { above = omega (arith, ints, a.above); below = omega (arith, ints, a.below) }

low_each : (p : Path) (f : Fact) → HasSmallNumbers f → IfSome (range_low_by p f) IsEnd
low_each p (Rng q l h) s = by_test (is_path q p) (λ t. rw t s.0) (λ t. rw t tt)
low_each p (Low q c) s = by_test (is_path q p) (λ t. rw t (class_end c s)) (λ t. rw t tt)
low_each p (LenRng a l h) s = tt
low_each p (Same a b) s = tt
low_each p (IsLen q a) s = tt
low_each p (Less q r c) s = tt
low_each p (Sum t y z) s = tt
low_each p (Search q a) s = tt
low_each p (Neg q a) s = tt
low_each p (Upper q a o c) s = tt

high_each : (p : Path) (f : Fact) → HasSmallNumbers f → IfSome (range_high_by p f) IsEnd
high_each p (Rng q l h) s = by_test (is_path q p) (λ t. rw t s.1) (λ t. rw t tt)
high_each p (Low q c) s = tt
high_each p (LenRng a l h) s = tt
high_each p (Same a b) s = tt
high_each p (IsLen q a) s = tt
high_each p (Less q r c) s = tt
high_each p (Sum t y z) s = tt
high_each p (Search q a) s = tt
high_each p (Neg q a) s = tt
high_each p (Upper q a o c) s = tt

length_low_each : (p : Path) (f : Fact) → HasSmallNumbers f → IfSome (length_low_by p f) IsEnd
length_low_each p (LenRng a l h) s = by_test (is_path a p) (λ t. rw t s.0) (λ t. rw t tt)
length_low_each p (Rng q l h) s = tt
length_low_each p (Low q c) s = tt
length_low_each p (Same a b) s = tt
length_low_each p (IsLen q a) s = tt
length_low_each p (Less q r c) s = tt
length_low_each p (Sum t y z) s = tt
length_low_each p (Search q a) s = tt
length_low_each p (Neg q a) s = tt
length_low_each p (Upper q a o c) s = tt

length_high_each : (p : Path) (f : Fact) → HasSmallNumbers f → IfSome (length_high_by p f) IsEnd
length_high_each p (LenRng a l h) s = by_test (is_path a p) (λ t. rw t s.1) (λ t. rw t tt)
length_high_each p (Rng q l h) s = tt
length_high_each p (Low q c) s = tt
length_high_each p (Same a b) s = tt
length_high_each p (IsLen q a) s = tt
length_high_each p (Less q r c) s = tt
length_high_each p (Sum t y z) s = tt
length_high_each p (Search q a) s = tt
length_high_each p (Neg q a) s = tt
length_high_each p (Upper q a o c) s = tt

module _ (facts : List Fact) (p : Path) (s : All HasSmallNumbers facts) where
  pub range_low_small : IsEnd (range_low facts p)
  range_low_small = low_end least_int (greatest (range_low_by p) facts) least_small (best_small int_max max_end (range_low_by p) (low_each p) facts s)

  pub range_high_small : IsEnd (range_high facts p)
  range_high_small = high_end greatest_int (least (range_high_by p) facts) greatest_small (best_small int_min min_end (range_high_by p) (high_each p) facts s)

  pub length_low_small : IsEnd (length_low facts p)
  length_low_small = low_end (pos 0) (greatest (length_low_by p) facts) zero_small (best_small int_max max_end (length_low_by p) (length_low_each p) facts s)

  pub length_high_small : IsEnd (length_high facts p)
  length_high_small = high_end greatest_int (least (length_high_by p) facts) greatest_small (best_small int_min min_end (length_high_by p) (length_high_each p) facts s)
