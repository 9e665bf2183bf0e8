-- What the rules of operations give of facts that are within: paths that the facts name, the target and the operands.
use Rattle.std.specs.Prelude.{◌≡◌, false, ℤ, pos, negsuc, ◌+ℤ◌, ◌-ℤ◌, List, [], ◌∷◌, ◌++◌}
use Rattle.ix_num.specs.declared.arith.Arith.{Arith}
use Rattle.ix_num.specs.declared.arith.Arith.TheVariants.{Add, Sub, Mul, Div, Rem, And, Or, Xor, Shl, Shr, Ushr}
use Rattle.ix_num.specs.declared.interval.Interval.{Interval}
use Rattle.ix_core.specs.declared.claim.Claim.{Claim}
use Rattle.ix_core.specs.declared.claim.Claim.TheVariants as claim
use Rattle.ix_core.specs.declared.claim.Type_.{Type_}
use Rattle.ix_core.specs.declared.fact.Path.{Path}
use Rattle.ix_core.specs.declared.fact.PathOff.{PathOff}
use Rattle.ix_core.specs.declared.fact.PathOff.TheVariants.{Nothing, Plus, Minus}
use Rattle.ix_core.specs.declared.fact.Fact.{Fact}
use Rattle.ix_core.specs.declared.fact.Fact.TheVariants.{Rng, LenRng, Low, Same, IsLen, Less, Sum, Search, Neg, Upper}
use Rattle.ix_core.specs.declared.fact.Profile.{Profile}
use Rattle.ix_core.specs.declared.op.UnaryNum.{UnaryNum}
use Rattle.ix_core.specs.declared.op.UnaryNum.TheVariants.{Neg as Negated, Flip}
use Rattle.ix_tables.specs.declared.low.Low.{Low as Class}
use Rattle.ix_tables.specs.declared.low.Low.TheVariants as class
use Rattle.ix_tables.specs.LowClasses.{class_of}
use Rattle.ix_facts.specs.Bounds
use Rattle.ix_facts.specs.Bounds.{is_path}
use Rattle.ix_facts.specs.Exact.{if_so, each, each_path, named_ints, named_arrays, range_facts, class_facts, class_number, low_facts, exact_range, exact_unary, table_class, fits}
use Rattle.ix_facts.specs.AfterOperation as after
use Rattle.ix_facts.specs.AfterOperation.{is_int, is_array, copied_by, loaded_facts}
use Rattle.ix_facts.specs.After.{finished_by}
use Rattle.ix_facts.specs.Finish as finish
use Rattle.ix_facts.proofs.Tests.{off}
use Rattle.ix_certify.proofs.Paths.{OffsetWithin, Within}
use Rattle.ix_certify.proofs.ListsWithin.{Each, none, next, one, two, both, if_within, some_within, path_within, fact_within, named_ints_within, named_arrays_within}

-- The target is one of the paths; the stored facts speak of others, of which none is the target.
module _ (In Of : Path → Type 0) (t : Path) (own : In t) (more : (p : Path) → Of p → In p) (apart : (p : Path) → Of p → is_path t p ≡ false) where
  turned : (p : Path) → Of p → is_path p t ≡ false
  turned p i = off t p (apart p i)

  -- differences with the target, both ways
  target_less : (p : Path) → Of p → In t × In p × (is_path t p ≡ false)
  target_less p i = (own, more p i, apart p i)

  less_target : (p : Path) → Of p → In p × In t × (is_path p t ≡ false)
  less_target p i = (more p i, own, turned p i)

  offset_more : (o : PathOff) → OffsetWithin Of o → OffsetWithin In o
  offset_more Nothing x = x
  offset_more (Plus q) x = more q x
  offset_more (Minus q) x = more q x

  class_within : (known : Class) → Each In (class_facts t known)
  class_within known = some_within In (Low t) (λ c. own) (class_number known)

  range_within : (i : Interval) → Each In (range_facts t i)
  range_within i = if_within In _ (Rng t i.lo i.hi ∷ []) (one In _ own)

  low_within : (profile : Profile) (i : Interval) (known : Class) → Each In (low_facts profile t i known)
  low_within profile i known = if_within In (fits profile i) _ (both In _ _ (class_within (class_of i.lo)) (class_within known))

  pub loaded_within : (claims : List Claim) → Each In (loaded_facts t claims)
  loaded_within [] = none
  loaded_within (claim.Range from to ∷ claims) = next _ _ own (loaded_within claims)
  loaded_within (claim.Low from ∷ claims) = next _ _ own (both In _ _ (if_within In _ (Low t from ∷ []) (one In _ own)) (loaded_within claims))
  loaded_within (claim.Length least ∷ claims) = loaded_within claims
  loaded_within (claim.Same other ∷ claims) = loaded_within claims
  loaded_within (claim.Less name constant ∷ claims) = loaded_within claims
  loaded_within (claim.Upper array offset constant ∷ claims) = loaded_within claims
  loaded_within (claim.Search array ∷ claims) = loaded_within claims
  loaded_within (claim.Negative array ∷ claims) = loaded_within claims

  -- ---- a copy

  two_copied_within : (make : Path → Path → Fact) (s p q : Path) → ((x y : Path) → In x → In y → Within In (make x y)) → Of p → Of q → Each In (after.two_copied make t s p q)
  two_copied_within make s p q all i j =
      both In _ _ (if_within In _ (make p t ∷ []) (one In _ (all p t (more p i) own)))
      (both In _ _ (if_within In _ (make t q ∷ []) (one In _ (all t q own (more q j)))) (if_within In _ (make t t ∷ []) (one In _ (all t t own own))))

  copied_within : (s : Path) (f : Fact) → Within Of f → Each In (copied_by t s f)
  copied_within s (Rng p l h) x = if_within In _ (Rng t l h ∷ []) (one In _ own)
  copied_within s (LenRng p l h) x = if_within In _ (LenRng t l h ∷ []) (one In _ own)
  copied_within s (Low p c) x = if_within In _ (Low t c ∷ []) (one In _ own)
  copied_within s (Same a b) x = two_copied_within Same s a b (λ y z i j. (i, j)) x.0 x.1
  copied_within s (IsLen p a) x = two_copied_within IsLen s p a (λ y z i j. (i, j)) x.0 x.1
  copied_within s (Search p a) x = two_copied_within Search s p a (λ y z i j. (i, j)) x.0 x.1
  copied_within s (Neg p a) x = two_copied_within Neg s p a (λ y z i j. (i, j)) x.0 x.1
  copied_within s (Sum u y z) x =
      both In _ _ (two_copied_within (Sum u) s y z (λ p q i j. (more u x.0, i, j)) x.1 x.2)
      (if_within In _ (Sum t y z ∷ after.two_copied (Sum t) t s y z) (next _ _ (own, more y x.1, more z x.2) (two_copied_within (Sum t) s y z (λ p q i j. (own, i, j)) x.1 x.2)))
  copied_within s (Less p q c) x = none
  copied_within s (Upper p a o c) x = none

  array_copied_within : (s : Path) (f : Fact) → Within Of f → Each In (after.array_copied_by t s f)
  array_copied_within s (Upper p a o c) x = if_within In _ (Upper p t o c ∷ []) (one In _ (more p x.0, own, offset_more o x.2))
  array_copied_within s (Rng p l h) x = none
  array_copied_within s (LenRng p l h) x = none
  array_copied_within s (Low p c) x = none
  array_copied_within s (Same a b) x = none
  array_copied_within s (IsLen p a) x = none
  array_copied_within s (Less p q c) x = none
  array_copied_within s (Sum u y z) x = none
  array_copied_within s (Search p a) x = none
  array_copied_within s (Neg p a) x = none

  pub copied_facts_within : (facts : List Fact) → Each Of facts → (s : Path) → Of s → (ty : Type_) → Each In (after.copied facts ty t s)
  copied_facts_within facts stored s i ty =
      both In _ _ (if_within In (is_int ty) (after.copied_int facts t s) (next _ _ (target_less s i) (next _ _ (less_target s i) (fact_within In (copied_by t s) Of (copied_within s) facts stored))))
      (if_within In (is_array ty) (after.copied_array facts t s) (next _ _ (own, more s i) (fact_within In (after.array_copied_by t s) Of (array_copied_within s) facts stored)))

  -- ---- the rest of the facts on the target

  module _ (facts new : List Fact) (stored : Each Of facts) where
    above_within : (q : Path) (c : ℤ) (f : Fact) → Within Of f → Each In (finish.step_above t q c f)
    above_within q c (Less x r d) i = if_within In (is_path x q) (Less t r (c +ℤ d -ℤ pos 1) ∷ []) (one In _ (target_less r i.1))
    above_within q c (Rng p l h) i = none
    above_within q c (LenRng p l h) i = none
    above_within q c (Low p d) i = none
    above_within q c (Same a b) i = none
    above_within q c (IsLen p a) i = none
    above_within q c (Sum u y z) i = none
    above_within q c (Search p a) i = none
    above_within q c (Neg p a) i = none
    above_within q c (Upper p a o d) i = none

    below_within : (q : Path) (c : ℤ) (f : Fact) → Within Of f → Each In (finish.step_below t q c f)
    below_within q c (Less r x d) i = if_within In (is_path x q) (Less r t (c +ℤ d -ℤ pos 1) ∷ []) (one In _ (less_target r i.0))
    below_within q c (Rng p l h) i = none
    below_within q c (LenRng p l h) i = none
    below_within q c (Low p d) i = none
    below_within q c (Same a b) i = none
    below_within q c (IsLen p a) i = none
    below_within q c (Sum u y z) i = none
    below_within q c (Search p a) i = none
    below_within q c (Neg p a) i = none
    below_within q c (Upper p a o d) i = none

    bound_above_within : (q : Path) (c : ℤ) (f : Fact) → Within Of f → Each In (finish.bound_above t q c f)
    bound_above_within q c (Upper x a o d) i = if_within In (is_path x q) (Upper t a o (d -ℤ c +ℤ pos 1) ∷ []) (one In _ (own, more a i.1, offset_more o i.2))
    bound_above_within q c (IsLen x a) i = if_within In (is_path x q) (Upper t a Nothing (pos 0 -ℤ c) ∷ []) (one In _ (own, more a i.1, tt))
    bound_above_within q c (Rng p l h) i = none
    bound_above_within q c (LenRng p l h) i = none
    bound_above_within q c (Low p d) i = none
    bound_above_within q c (Same a b) i = none
    bound_above_within q c (Less x y d) i = none
    bound_above_within q c (Sum u y z) i = none
    bound_above_within q c (Search p a) i = none
    bound_above_within q c (Neg p a) i = none

    bound_below_within : (q : Path) (c : ℤ) (f : Fact) → Within Of f → Each In (finish.bound_below t q c f)
    bound_below_within q c (Upper r a (Minus x) d) i = if_within In (is_path x q) (Upper r a (Minus t) (d -ℤ c +ℤ pos 1) ∷ []) (one In _ (more r i.0, more a i.1, own))
    bound_below_within q c (Upper r a (Plus x) d) i = none
    bound_below_within q c (Upper r a Nothing d) i = none
    bound_below_within q c (Rng p l h) i = none
    bound_below_within q c (LenRng p l h) i = none
    bound_below_within q c (Low p d) i = none
    bound_below_within q c (Same a b) i = none
    bound_below_within q c (IsLen p a) i = none
    bound_below_within q c (Less x y d) i = none
    bound_below_within q c (Sum u y z) i = none
    bound_below_within q c (Search p a) i = none
    bound_below_within q c (Neg p a) i = none

    above_all : (q : Path) (c : ℤ) → Each In (each (finish.step_above t q c) facts ++ each (finish.bound_above t q c) facts)
    above_all q c = both In _ _ (fact_within In (finish.step_above t q c) Of (above_within q c) facts stored) (fact_within In (finish.bound_above t q c) Of (bound_above_within q c) facts stored)

    below_all : (q : Path) (c : ℤ) → Each In (each (finish.step_below t q c) facts ++ each (finish.bound_below t q c) facts)
    below_all q c = both In _ _ (fact_within In (finish.step_below t q c) Of (below_within q c) facts stored) (fact_within In (finish.bound_below t q c) Of (bound_below_within q c) facts stored)

    along_within : (f : Fact) → Each In (finish.along_by facts new t f)
    along_within (Less p q c) =
        both In (if_so (is_path p t) (each (finish.step_above t q c) facts ++ each (finish.bound_above t q c) facts)) (if_so (is_path q t) (each (finish.step_below t p c) facts ++ each (finish.bound_below t p c) facts))
        (if_within In (is_path p t) _ (above_all q c)) (if_within In (is_path q t) _ (below_all p c))
    along_within (Rng p l h) = none
    along_within (LenRng p l h) = none
    along_within (Low p d) = none
    along_within (Same a b) = none
    along_within (IsLen p a) = none
    along_within (Sum u y z) = none
    along_within (Search p a) = none
    along_within (Neg p a) = none
    along_within (Upper p a o d) = none

    along_each : (list : List Fact) → Each In (each (finish.along_by facts new t) list)
    along_each [] = none
    along_each (f ∷ list) = both In (finish.along_by facts new t f) (each (finish.along_by facts new t) list) (along_within f) (along_each list)

    pub int_within : Each In (finish.finish_int facts new t)
    int_within =
        both In (each (finish.along_by facts new t) new) (each_path (finish.beside_int facts new t) (named_ints facts) ++ each_path (finish.beside_array facts new t) (named_arrays facts))
        (along_each new)
        (both In (each_path (finish.beside_int facts new t) (named_ints facts)) (each_path (finish.beside_array facts new t) (named_arrays facts))
        (path_within In (finish.beside_int facts new t) Of (λ r i. both In _ _ (if_within In _ (Less t r _ ∷ []) (one In _ (target_less r i))) (if_within In _ (Less r t _ ∷ []) (one In _ (less_target r i)))) (named_ints facts) (named_ints_within Of facts stored))
        (path_within In (finish.beside_array facts new t) Of (λ a i. if_within In _ (Upper t a Nothing _ ∷ []) (one In _ (own, more a i, tt))) (named_arrays facts) (named_arrays_within Of facts stored)))

    pub array_within : Each In (finish.finish_array facts new t)
    array_within =
        path_within In (finish.beside_length facts new t) Of (λ r i. if_within In _ (Upper r t Nothing _ ∷ []) (one In _ (more r i, own, tt))) (named_ints facts) (named_ints_within Of facts stored)

    pub by_within : (ty : Type_) → Each In (finished_by ty facts new t)
    by_within ty = both In _ _ (if_within In (is_int ty) (finish.finish_int facts new t) int_within) (if_within In (is_array ty) (finish.finish_array facts new t) array_within)

  -- ---- the rules of operations

  module _ (facts : List Fact) (stored : Each Of facts) (profile : Profile) (y z : Path) (left : Of y) (right : Of z) where
    sum_array_within : (a : Path) → Of a → Each In (after.sum_array facts t y z a)
    sum_array_within a i =
        both In _ _ (some_within In (Upper t a Nothing) (λ c. (own, more a i, tt)) (Bounds.upper_bound facts y a (Plus z)))
        (both In _ _ (some_within In (Upper t a (Minus z)) (λ c. (own, more a i, more z right)) (Bounds.upper_bound facts y a Nothing))
        (some_within In (Upper t a (Minus y)) (λ c. (own, more a i, more y left)) (Bounds.upper_bound facts z a Nothing)))

    sum_beside_within : (x w : Path) (f : Fact) → Within Of f → Each In (after.sum_beside facts t x w f)
    sum_beside_within x w (Sum r v q) i =
        if_within In (is_path v x) _ (both In _ _ (some_within In (Less t r) (λ c. target_less r i.0) (Bounds.fact_less facts w q)) (some_within In (Less r t) (λ c. less_target r i.0) (Bounds.fact_less facts q w)))
    sum_beside_within x w (Rng p l h) i = none
    sum_beside_within x w (LenRng p l h) i = none
    sum_beside_within x w (Low p d) i = none
    sum_beside_within x w (Same a b) i = none
    sum_beside_within x w (IsLen p a) i = none
    sum_beside_within x w (Less p q d) i = none
    sum_beside_within x w (Search p a) i = none
    sum_beside_within x w (Neg p a) i = none
    sum_beside_within x w (Upper p a o d) i = none

    sum_within : Each In (after.sum_facts facts t y z)
    sum_within =
        next _ _ (own, more y left, more z right) (next _ _ (target_less y left) (next _ _ (less_target y left) (next _ _ (target_less z right) (next _ _ (less_target z right)
        (both In _ _ (path_within In (after.sum_array facts t y z) Of sum_array_within (named_arrays facts) (named_arrays_within Of facts stored))
        (both In _ _ (fact_within In (after.sum_beside facts t y z) Of (sum_beside_within y z) facts stored) (fact_within In (after.sum_beside facts t z y) Of (sum_beside_within z y) facts stored)))))))

    difference_array_within : (a : Path) → Of a → Each In (after.difference_array facts t y z a)
    difference_array_within a i =
        both In _ _ (some_within In (Upper t a (Plus z)) (λ c. (own, more a i, more z right)) (Bounds.upper_bound facts y a Nothing)) (some_within In (Upper t a Nothing) (λ c. (own, more a i, tt)) (Bounds.upper_bound facts y a (Minus z)))

    difference_within : Each In (after.difference_facts facts t y z)
    difference_within =
        next _ _ (more y left, own, more z right) (next _ _ (target_less y left) (next _ _ (less_target y left) (path_within In (after.difference_array facts t y z) Of difference_array_within (named_arrays facts) (named_arrays_within Of facts stored))))

    between_within : (p q : Path) → Of p → Of q → Each In (after.half_between facts t p q)
    between_within p q i j = both In _ _ (if_within In _ (Less p t (pos 1) ∷ Less t q (pos 1) ∷ []) (two In _ _ (less_target p i) (target_less q j))) (if_within In _ (Less t q (pos 0) ∷ []) (one In _ (target_less q j)))

    half_by_within : (f : Fact) → Within Of f → Each In (after.half_by facts t y f)
    half_by_within (Sum x p q) i = if_within In (is_path x y) (after.half_between facts t p q) (between_within p q i.1 i.2)
    half_by_within (Rng p l h) i = none
    half_by_within (LenRng p l h) i = none
    half_by_within (Low p d) i = none
    half_by_within (Same a b) i = none
    half_by_within (IsLen p a) i = none
    half_by_within (Less p q d) i = none
    half_by_within (Search p a) i = none
    half_by_within (Neg p a) i = none
    half_by_within (Upper p a o d) i = none

    half_within : (n : ℤ) → Each In (after.half_facts facts n t y z)
    half_within n = if_within In _ (each (after.half_by facts t y) facts) (fact_within In (after.half_by facts t y) Of half_by_within facts stored)

    shift_within : Each In (after.shift_facts facts t y)
    shift_within = if_within In _ (Less t y (pos 1) ∷ []) (one In _ (target_less y left))

    arith_within : (arith_op : Arith) → Each In (after.arith_facts facts profile arith_op t y z)
    arith_within Add = if_within In _ (after.sum_facts facts t y z) sum_within
    arith_within Sub = if_within In _ (after.difference_facts facts t y z) difference_within
    arith_within Mul = if_within In _ (after.product_facts facts t y z) (both In _ _ (if_within In _ (Less y t (pos 1) ∷ []) (one In _ (less_target y left))) (if_within In _ (Less z t (pos 1) ∷ []) (one In _ (less_target z right))))
    arith_within Div = both In _ _ (both In _ _ (if_within In _ (Less t y (pos 1) ∷ []) (one In _ (target_less y left))) (if_within In _ (Less t y (pos 0) ∷ []) (one In _ (target_less y left)))) (half_within (pos 2))
    arith_within Rem = both In _ _ (if_within In _ (Less t z (pos 0) ∷ []) (one In _ (target_less z right))) (if_within In _ (Less t y (pos 1) ∷ []) (one In _ (target_less y left)))
    arith_within And = both In _ _ (if_within In _ (Less t z (pos 1) ∷ []) (one In _ (target_less z right))) (if_within In _ (Less t y (pos 1) ∷ []) (one In _ (target_less y left)))
    arith_within Or = none
    arith_within Xor = none
    arith_within Shl = none
    arith_within Shr = both In _ _ shift_within (half_within (pos 1))
    arith_within Ushr = both In _ _ shift_within (half_within (pos 1))

    pub num_within : (arith_op : Arith) → Each In (after.num_facts facts profile arith_op t y z)
    num_within arith_op =
        both In _ _ (range_within (exact_range facts arith_op y z)) (both In _ _ (low_within profile (exact_range facts arith_op y z) (table_class facts arith_op y z)) (arith_within arith_op))

  module _ (facts : List Fact) (stored : Each Of facts) (y : Path) (operand : Of y) where
    flip_array_within : (a : Path) → Of a → Each In (after.flip_array facts t y a)
    flip_array_within a i = if_within In _ (Neg t a ∷ []) (one In _ (own, more a i))

    flip_by_within : (f : Fact) → Within Of f → Each In (after.flip_by facts t y f)
    flip_by_within (Search p a) i = if_within In _ (Upper t a Nothing (negsuc 0) ∷ []) (one In _ (own, more a i.1, tt))
    flip_by_within (Rng p l h) i = none
    flip_by_within (LenRng p l h) i = none
    flip_by_within (Low p d) i = none
    flip_by_within (Same a b) i = none
    flip_by_within (IsLen p a) i = none
    flip_by_within (Less p q d) i = none
    flip_by_within (Sum u p q) i = none
    flip_by_within (Neg p a) i = none
    flip_by_within (Upper p a o d) i = none

    unary_within : (unary : UnaryNum) → Each In (after.unary_rule facts unary t y)
    unary_within Negated = none
    unary_within Flip = both In _ _ (path_within In (after.flip_array facts t y) Of flip_array_within (named_arrays facts) (named_arrays_within Of facts stored)) (fact_within In (after.flip_by facts t y) Of flip_by_within facts stored)

    pub unary_facts_within : (profile : Profile) (unary : UnaryNum) → Each In (after.unary_facts facts profile unary t y)
    unary_facts_within profile unary =
        both In _ _ (range_within (exact_unary facts unary y)) (both In _ _ (low_within profile (exact_unary facts unary y) class.Unknown) (unary_within unary))

    length_by_within : (f : Fact) → Within Of f → Each In (after.length_by facts t y f)
    length_by_within (Upper p b Nothing c) i = if_within In _ (Less p t (pos 0 -ℤ c) ∷ []) (one In _ (less_target p i.0))
    length_by_within (Upper p b (Plus q) c) i = none
    length_by_within (Upper p b (Minus q) c) i = none
    length_by_within (IsLen q b) i = if_within In _ (Less q t (pos 1) ∷ Less t q (pos 1) ∷ []) (two In _ _ (less_target q i.0) (target_less q i.0))
    length_by_within (Rng p l h) i = none
    length_by_within (LenRng p l h) i = none
    length_by_within (Low p d) i = none
    length_by_within (Same a b) i = none
    length_by_within (Less p q d) i = none
    length_by_within (Sum u p q) i = none
    length_by_within (Search p a) i = none
    length_by_within (Neg p a) i = none

    pub length_within : Each In (after.length_facts facts t y)
    length_within = next _ _ (own, more y operand) (next _ _ own (fact_within In (after.length_by facts t y) Of length_by_within facts stored))

    new_by_within : (f : Fact) → Within Of f → Each In (after.new_array_by facts t y f)
    new_by_within (Less p q c) i = if_within In _ (Upper p t Nothing (pos 0 -ℤ c) ∷ []) (one In _ (more p i.0, own, tt))
    new_by_within (Sum x p q) i = if_within In _ (Upper p t (Plus q) (negsuc 0) ∷ []) (one In _ (more p i.1, own, more q i.2))
    new_by_within (Rng p l h) i = none
    new_by_within (LenRng p l h) i = none
    new_by_within (Low p d) i = none
    new_by_within (Same a b) i = none
    new_by_within (IsLen p a) i = none
    new_by_within (Search p a) i = none
    new_by_within (Neg p a) i = none
    new_by_within (Upper p a o d) i = none

    pub new_array_within : Each In (after.new_array_facts facts t y)
    new_array_within = next _ _ (more y operand, own) (next _ _ (own, own) (next _ _ own (fact_within In (after.new_array_by facts t y) Of new_by_within facts stored)))
