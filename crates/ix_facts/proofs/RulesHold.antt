-- What each rule gives of an operation holds after its step: in the one state after it, in which the facts hold that do not name the target.
use Rattle.std.specs.Prelude.{◌≡◌, true, ◌&&◌, ℤ, pos, negsuc, ◌+ℤ◌, ◌-ℤ◌, ◌*ℤ◌, ◌≤ℤ◌, int_le, List, [], ◌∷◌, ◌++◌, Option, Some, None, refl}
use Rattle.std.proofs.Common.{arith, sym, ◌∙◌, subst}
use Rattle.std.proofs.lemmas.Bool.{and_parts, false≢true}
use Rattle.std.proofs.lemmas.Int.{ints, clamps}
use Rattle.ix_num.specs.declared.interval.Interval.{Interval}
use Rattle.ix_num.specs.Ints.{IsInt}
use Rattle.ix_num.specs.Intervals.{Includes}
use Rattle.ix_tables.specs.declared.low.Low.{Low as Class}
use Rattle.ix_tables.specs.LowClasses.{AtLeast, class_of}
use Rattle.ix_core.specs.declared.fact.Path.{Path}
use Rattle.ix_core.specs.declared.fact.PathOff.TheVariants.{Nothing, Plus, Minus}
use Rattle.ix_core.specs.declared.fact.Fact.{Fact}
use Rattle.ix_core.specs.declared.fact.Fact.TheVariants.{Rng, LenRng, Low, Same, IsLen, Less, Sum, Search, Neg, Upper}
use Rattle.ix_core.specs.declared.fact.Profile.{Profile}
use Rattle.ix_core.specs.Numbers.{Numbers}
use Rattle.ix_facts.specs.Facts.{Holds, AllHold}
use Rattle.ix_facts.specs.Bounds
use Rattle.ix_facts.specs.Bounds.{is_path}
use Rattle.ix_facts.specs.Exact.{if_so, each, each_path, if_some, named_arrays, lies_in_int, fits, range_facts, low_facts, class_facts, class_number}
use Rattle.ix_facts.specs.AfterOperation as after
use Rattle.ix_facts.specs.AfterOperation.{Computed}
use Rattle.ix_facts.specs.Laws.{Alike}
use Rattle.ix_facts.proofs.Gives.{Gives}
use Rattle.ix_facts.proofs.Tests.{at_most_true}
use Rattle.ix_facts.proofs.BoundsHold.{int_same, size_same, LessIs, UpperIs, lower_holds, limit_holds, length_low_holds, length_high_holds, fact_less_holds, upper_holds, less_holds}
use Rattle.ix_facts.proofs.FactLists.{all_hold_app}
use Rattle.ix_facts.proofs.RuleForms.{if_so_holds, each_holds, each_path_holds, if_some_holds}
use Rattle.ix_facts.proofs.ExactLaws.{in_int_from, value_is_exact}
use Rattle.ix_facts.proofs.ClassLaws.{class_holds, number_holds}
use Rattle.ix_facts.proofs.OperatorBounds.{IsHalf, product_at_least, product_at_least_right}

-- ---- ranges and classes of a result

module _ (w : Numbers) (profile : Profile) (t : Path) (exact : Interval) (result : Option ℤ) (c : Computed profile result (w.int t)) (p : Includes exact c.result) where
  value_in_int : lies_in_int exact ≡ true → w.int t ≡ c.result
  value_in_int h =
      let b = in_int_from exact h in
      let int : IsInt c.result = record { from = omega (arith, ints, p.from); to = omega (arith, ints, p.to) } in
      c.kept ∙ Rattle.ix_num.proofs.OpRangeLaws.wrap_of_int c.result int

  pub range_facts_hold : AllHold (range_facts t exact) w
  range_facts_hold = if_so_holds w (lies_in_int exact) (Rng t exact.lo exact.hi ∷ []) (λ h. let e = value_in_int h in ((omega (arith, ints, p.from), omega (arith, ints, p.to)), tt))

  class_facts_hold : (class : Class) → AtLeast class (w.int t) → AllHold (class_facts t class) w
  class_facts_hold class a = if_some_holds w (Low t) (λ k. k ≤ℤ w.int t) (class_number class) (λ k l. l) (number_holds class (w.int t) a)

  pub low_facts_hold : (class : Class) → AtLeast class c.result → AllHold (low_facts profile t exact class) w
  low_facts_hold class a =
      if_so_holds w (fits profile exact) (class_facts t (class_of exact.lo) ++ class_facts t class)
      (λ f.
      let e = value_is_exact profile exact result (w.int t) c p f in
      all_hold_app w (class_facts t (class_of exact.lo)) (class_facts t class)
      (class_facts_hold (class_of exact.lo) (class_holds exact.lo (w.int t) (omega (arith, ints, p.from))))
      (class_facts_hold class (subst (AtLeast class) (sym e) a)))

-- ---- copies

module _ (w : Numbers) (t s : Path) (a : Alike w t s) where
  copy_like : (p : Path) → is_path p s ≡ true → Alike w t p
  copy_like p x = record { int = a.int ∙ sym (int_same w p s x); size = a.size ∙ sym (size_same w p s x) }

  itself : (p : Path) → Alike w p p
  itself p = record { int = refl; size = refl }

  -- a fact with a copy in its places holds where it holds of all paths with the same numbers
  two_hold : (make : Path → Path → Fact) (p q : Path) → ((x y : Path) → Alike w x p → Alike w y q → Holds (make x y) w) → AllHold (after.two_copied make t s p q) w
  two_hold make p q one =
      all_hold_app w (if_so (is_path q s) (make p t ∷ [])) (if_so (is_path p s) (make t q ∷ []) ++ if_so (is_path p s && is_path q s) (make t t ∷ []))
      (if_so_holds w (is_path q s) (make p t ∷ []) (λ x. (one p t (itself p) (copy_like q x), tt)))
      (all_hold_app w (if_so (is_path p s) (make t q ∷ [])) (if_so (is_path p s && is_path q s) (make t t ∷ []))
      (if_so_holds w (is_path p s) (make t q ∷ []) (λ x. (one t q (copy_like p x) (itself q), tt)))
      (if_so_holds w (is_path p s && is_path q s) (make t t ∷ []) (λ x. let both = and_parts (is_path p s) (is_path q s) x in (one t t (copy_like p both.0) (copy_like q both.1), tt))))

  copied_one : (f : Fact) → Holds f w → AllHold (after.copied_by t s f) w
  copied_one (Rng p l h) g = if_so_holds w (is_path p s) (Rng t l h ∷ []) (λ x. let e = int_same w p s x in let k = a.int in ((omega (arith, ints), omega (arith, ints)), tt))
  copied_one (LenRng p l h) g = if_so_holds w (is_path p s) (LenRng t l h ∷ []) (λ x. let e = size_same w p s x in let k = a.size in ((omega (arith, ints), omega (arith, ints)), tt))
  copied_one (Low p c) g = if_so_holds w (is_path p s) (Low t c ∷ []) (λ x. let e = int_same w p s x in let k = a.int in (omega (arith, ints), tt))
  copied_one (Same p q) g = two_hold Same p q (λ x y i j. i.size ∙ g ∙ sym j.size)
  copied_one (IsLen p q) g = two_hold IsLen p q (λ x y i j. i.int ∙ g ∙ sym j.size)
  copied_one (Search p q) g = two_hold Search p q (λ x y i j. let e = i.int in let k = j.size in (omega (arith, ints), omega (arith, ints)))
  copied_one (Neg p q) g = two_hold Neg p q (λ x y i j. let e = i.int in let k = j.size in (omega (arith, ints), omega (arith, ints)))
  copied_one (Sum u p q) g =
      all_hold_app w (after.two_copied (Sum u) t s p q) (if_so (is_path u s) (Sum t p q ∷ after.two_copied (Sum t) t s p q))
      (two_hold (Sum u) p q (λ x y i j. let e = i.int in let k = j.int in omega (arith, ints)))
      (if_so_holds w (is_path u s) (Sum t p q ∷ after.two_copied (Sum t) t s p q)
      (λ z. let m = (copy_like u z).int in (omega (arith, ints), two_hold (Sum t) p q (λ x y i j. let e = i.int in let k = j.int in omega (arith, ints)))))
  copied_one (Less p q c) g = tt
  copied_one (Upper p b o c) g = tt

  array_copied_one : (f : Fact) → Holds f w → AllHold (after.array_copied_by t s f) w
  array_copied_one (Upper p b o c) g = if_so_holds w (is_path b s) (Upper p t o c ∷ []) (λ x. let e = size_same w b s x in let k = a.size in (omega (arith, ints), tt))
  array_copied_one _ g = tt

  pub copied_hold : (facts : List Fact) → AllHold facts w → (ty : Rattle.ix_core.specs.declared.claim.Type_.Type_) → AllHold (after.copied facts ty t s) w
  copied_hold facts h ty =
      let k = a.int in
      all_hold_app w (if_so (after.is_int ty) (after.copied_int facts t s)) (if_so (after.is_array ty) (after.copied_array facts t s))
      (if_so_holds w (after.is_int ty) (after.copied_int facts t s) (λ x. (omega (arith, ints), (omega (arith, ints), each_holds w (after.copied_by t s) copied_one facts h))))
      (if_so_holds w (after.is_array ty) (after.copied_array facts t s) (λ x. (a.size, each_holds w (after.array_copied_by t s) array_copied_one facts h)))

-- ---- arithmetic

module _ (w : Numbers) (facts : List Fact) (h : AllHold facts w) where
  pub from_holds : (p : Path) (n : ℤ) → after.is_from facts p n ≡ true → n ≤ℤ w.int p
  from_holds p n x = let l = lower_holds w facts h p in let k = at_most_true n (Bounds.lower_bound facts p) x in omega (arith, ints)

  both_from : (p q : Path) (m n : ℤ) → (after.is_from facts p m && after.is_from facts q n) ≡ true → (m ≤ℤ w.int p) × (n ≤ℤ w.int q)
  both_from p q m n x = let both = and_parts (after.is_from facts p m) (after.is_from facts q n) x in (from_holds p m both.0, from_holds q n both.1)

  sum_beside_holds : (t y z : Path) → w.int t ≡ w.int y +ℤ w.int z → (f : Fact) → Holds f w → AllHold (after.sum_beside facts t y z f) w
  sum_beside_holds t y z e (Sum r x q) g =
      if_so_holds w (is_path x y) (if_some (Less t r) (Bounds.fact_less facts z q) ++ if_some (Less r t) (Bounds.fact_less facts q z))
      (λ s. let k = int_same w x y s in all_hold_app w (if_some (Less t r) (Bounds.fact_less facts z q)) (if_some (Less r t) (Bounds.fact_less facts q z))
      (if_some_holds w (Less t r) (LessIs w z q) (Bounds.fact_less facts z q) (λ c m. omega (arith, ints)) (fact_less_holds w facts h z q))
      (if_some_holds w (Less r t) (LessIs w q z) (Bounds.fact_less facts q z) (λ c m. omega (arith, ints)) (fact_less_holds w facts h q z)))
  sum_beside_holds t y z e _ g = tt

  sum_array_holds : (t y z : Path) → w.int t ≡ w.int y +ℤ w.int z → (a : Path) → AllHold (after.sum_array facts t y z a) w
  sum_array_holds t y z e a =
      let u = Bounds.upper_bound facts y a (Plus z) in
      let m = Bounds.upper_bound facts y a Nothing in
      let n = Bounds.upper_bound facts z a Nothing in
      all_hold_app w (if_some (Upper t a Nothing) u) (if_some (Upper t a (Minus z)) m ++ if_some (Upper t a (Minus y)) n)
      (if_some_holds w (Upper t a Nothing) (UpperIs w y a (Plus z)) u (λ c k. omega (arith, ints)) (upper_holds w facts h y a (Plus z)))
      (all_hold_app w (if_some (Upper t a (Minus z)) m) (if_some (Upper t a (Minus y)) n)
      (if_some_holds w (Upper t a (Minus z)) (UpperIs w y a Nothing) m (λ c k. omega (arith, ints)) (upper_holds w facts h y a Nothing))
      (if_some_holds w (Upper t a (Minus y)) (UpperIs w z a Nothing) n (λ c k. omega (arith, ints)) (upper_holds w facts h z a Nothing)))

  pub sum_facts_hold : (t y z : Path) → w.int t ≡ w.int y +ℤ w.int z → AllHold (after.sum_facts facts t y z) w
  sum_facts_hold t y z e =
      let a = lower_holds w facts h y in
      let b = limit_holds w facts h y in
      let c = lower_holds w facts h z in
      let d = limit_holds w facts h z in
      let flip : w.int t ≡ w.int z +ℤ w.int y = omega (arith, ints) in
      let rest = all_hold_app w (each_path (after.sum_array facts t y z) (named_arrays facts)) (each (after.sum_beside facts t y z) facts ++ each (after.sum_beside facts t z y) facts)
      (each_path_holds w (after.sum_array facts t y z) (sum_array_holds t y z e) (named_arrays facts))
      (all_hold_app w (each (after.sum_beside facts t y z) facts) (each (after.sum_beside facts t z y) facts) (each_holds w (after.sum_beside facts t y z) (sum_beside_holds t y z e) facts h) (each_holds w (after.sum_beside facts t z y) (sum_beside_holds t z y flip) facts h)) in
      (e, (omega (arith, ints), (omega (arith, ints), (omega (arith, ints), (omega (arith, ints), rest)))))

  difference_array_holds : (t y z : Path) → w.int t ≡ w.int y -ℤ w.int z → (a : Path) → AllHold (after.difference_array facts t y z a) w
  difference_array_holds t y z e a =
      let m = Bounds.upper_bound facts y a Nothing in
      let n = Bounds.upper_bound facts y a (Minus z) in
      all_hold_app w (if_some (Upper t a (Plus z)) m) (if_some (Upper t a Nothing) n)
      (if_some_holds w (Upper t a (Plus z)) (UpperIs w y a Nothing) m (λ c k. omega (arith, ints)) (upper_holds w facts h y a Nothing))
      (if_some_holds w (Upper t a Nothing) (UpperIs w y a (Minus z)) n (λ c k. omega (arith, ints)) (upper_holds w facts h y a (Minus z)))

  pub difference_facts_hold : (t y z : Path) → w.int t ≡ w.int y -ℤ w.int z → AllHold (after.difference_facts facts t y z) w
  difference_facts_hold t y z e =
      let c = lower_holds w facts h z in
      let d = limit_holds w facts h z in
      (omega (arith, ints), (omega (arith, ints), (omega (arith, ints), each_path_holds w (after.difference_array facts t y z) (difference_array_holds t y z e) (named_arrays facts))))

  pub product_facts_hold : (t y z : Path) → w.int t ≡ w.int y *ℤ w.int z → AllHold (after.product_facts facts t y z) w
  product_facts_hold t y z e =
      all_hold_app w (if_so (after.is_from facts y (pos 0) && after.is_from facts z (pos 1)) (Less y t (pos 1) ∷ [])) (if_so (after.is_from facts z (pos 0) && after.is_from facts y (pos 1)) (Less z t (pos 1) ∷ []))
      (if_so_holds w (after.is_from facts y (pos 0) && after.is_from facts z (pos 1)) (Less y t (pos 1) ∷ []) (λ x. let b = both_from y z (pos 0) (pos 1) x in let l : w.int y ≤ℤ w.int t = rw e (product_at_least (w.int y) (w.int z) b.0 b.1) in (omega (arith, ints), tt)))
      (if_so_holds w (after.is_from facts z (pos 0) && after.is_from facts y (pos 1)) (Less z t (pos 1) ∷ []) (λ x. let b = both_from z y (pos 0) (pos 1) x in let l : w.int z ≤ℤ w.int t = rw e (product_at_least_right (w.int y) (w.int z) b.0 b.1) in (omega (arith, ints), tt)))

  half_between_holds : (t s y z : Path) → IsHalf (w.int s) (w.int t) → w.int s ≡ w.int y +ℤ w.int z → AllHold (after.half_between facts t y z) w
  half_between_holds t s y z i e =
      let l = less_holds w facts h y z in
      all_hold_app w (if_so (int_le (Bounds.less_bound facts y z) (pos 1)) (Less y t (pos 1) ∷ Less t z (pos 1) ∷ [])) (if_so (int_le (Bounds.less_bound facts y z) (pos 0)) (Less t z (pos 0) ∷ []))
      (if_so_holds w (int_le (Bounds.less_bound facts y z) (pos 1)) (Less y t (pos 1) ∷ Less t z (pos 1) ∷ []) (λ x. let k = at_most_true (Bounds.less_bound facts y z) (pos 1) x in (omega (arith, ints, i.0, i.1), (omega (arith, ints, i.0, i.1), tt))))
      (if_so_holds w (int_le (Bounds.less_bound facts y z) (pos 0)) (Less t z (pos 0) ∷ []) (λ x. let k = at_most_true (Bounds.less_bound facts y z) (pos 0) x in (omega (arith, ints, i.0, i.1), tt)))

  half_one : (t s : Path) → IsHalf (w.int s) (w.int t) → (f : Fact) → Holds f w → AllHold (after.half_by facts t s f) w
  half_one t s i (Sum x y z) g = if_so_holds w (is_path x s) (after.half_between facts t y z) (λ u. let e = int_same w x s u in half_between_holds t s y z i (omega (arith, ints)))
  half_one t s i _ g = tt

  pub half_facts_hold : (n : ℤ) (t s z : Path) → (pos 0 ≤ℤ w.int s → w.int z ≡ n → IsHalf (w.int s) (w.int t)) → AllHold (after.half_facts facts n t s z) w
  half_facts_hold n t s z half =
      if_so_holds w (after.is_from facts z n && (int_le (Bounds.upper_limit facts z) n && after.is_from facts s (pos 0))) (each (after.half_by facts t s) facts)
      (λ x.
      let a = and_parts (after.is_from facts z n) (int_le (Bounds.upper_limit facts z) n && after.is_from facts s (pos 0)) x in
      let b = and_parts (int_le (Bounds.upper_limit facts z) n) (after.is_from facts s (pos 0)) a.1 in
      let low = from_holds z n a.0 in
      let high = limit_holds w facts h z in
      let k = at_most_true (Bounds.upper_limit facts z) n b.0 in
      each_holds w (after.half_by facts t s) (half_one t s (half (from_holds s (pos 0) b.1) (omega (arith, ints)))) facts h)

  reached : (t y a : Path) (o : Option ℤ) → Gives o (UpperIs w y a Nothing) → after.reaches facts o (negsuc 0) ≡ true → w.int y ≤ℤ w.size a
  reached t y a None g x = absurd (false≢true x)
  reached t y a (Some c) g x = let k = at_most_true (negsuc 0) c x in omega (arith, ints)

  flip_array_holds : (t y : Path) → w.int t ≡ negsuc 0 -ℤ w.int y → (a : Path) → AllHold (after.flip_array facts t y a) w
  flip_array_holds t y e a =
      if_so_holds w (after.is_from facts y (pos 0) && after.reaches facts (Bounds.upper_bound facts y a Nothing) (negsuc 0)) (Neg t a ∷ [])
      (λ x.
      let both = and_parts (after.is_from facts y (pos 0)) (after.reaches facts (Bounds.upper_bound facts y a Nothing) (negsuc 0)) x in
      let l = from_holds y (pos 0) both.0 in
      let k = reached t y a (Bounds.upper_bound facts y a Nothing) (upper_holds w facts h y a Nothing) both.1 in
      ((omega (arith, ints), omega (arith, ints)), tt))

  flip_one : (t y : Path) → w.int t ≡ negsuc 0 -ℤ w.int y → (f : Fact) → Holds f w → AllHold (after.flip_by facts t y f) w
  flip_one t y e (Search p a) g = if_so_holds w (is_path p y) (Upper t a Nothing (negsuc 0) ∷ []) (λ x. let k = int_same w p y x in (omega (arith, ints), tt))
  flip_one t y e _ g = tt

  pub flip_facts_hold : (t y : Path) → w.int t ≡ negsuc 0 -ℤ w.int y → AllHold (after.flip_facts facts t y) w
  flip_facts_hold t y e =
      all_hold_app w (each_path (after.flip_array facts t y) (named_arrays facts)) (each (after.flip_by facts t y) facts)
      (each_path_holds w (after.flip_array facts t y) (flip_array_holds t y e) (named_arrays facts))
      (each_holds w (after.flip_by facts t y) (flip_one t y e) facts h)

  -- ---- lengths and arrays

  length_one : (t a : Path) → w.int t ≡ w.size a → (f : Fact) → Holds f w → AllHold (after.length_by facts t a f) w
  length_one t a e (Upper p b Nothing c) g = if_so_holds w (is_path b a) (Less p t (pos 0 -ℤ c) ∷ []) (λ x. let k = size_same w b a x in (omega (arith, ints), tt))
  length_one t a e (IsLen q b) g = if_so_holds w (is_path b a) (Less q t (pos 1) ∷ Less t q (pos 1) ∷ []) (λ x. let k = size_same w b a x in (omega (arith, ints), (omega (arith, ints), tt)))
  length_one t a e _ g = tt

  pub length_facts_hold : (t a : Path) → w.int t ≡ w.size a → AllHold (after.length_facts facts t a) w
  length_facts_hold t a e =
      let l = length_low_holds w facts h a in
      let k = length_high_holds w facts h a in
      (e, ((omega (arith, ints), omega (arith, ints)), each_holds w (after.length_by facts t a) (length_one t a e) facts h))

  new_array_one : (t n : Path) → w.size t ≡ w.int n → (f : Fact) → Holds f w → AllHold (after.new_array_by facts t n f) w
  new_array_one t n e (Less p q c) g = if_so_holds w (is_path q n) (Upper p t Nothing (pos 0 -ℤ c) ∷ []) (λ x. let k = int_same w q n x in (omega (arith, ints), tt))
  new_array_one t n e (Sum x y z) g = if_so_holds w (is_path x n) (Upper y t (Plus z) (negsuc 0) ∷ []) (λ u. let k = int_same w x n u in (omega (arith, ints), tt))
  new_array_one t n e _ g = tt

  pub new_array_facts_hold : (t n : Path) → w.size t ≡ w.int n → AllHold (after.new_array_facts facts t n) w
  new_array_facts_hold t n e =
      let l = lower_holds w facts h n in
      let k = limit_holds w facts h n in
      let s = w.size_from t in
      let u = w.size_to t in
      (sym e, (refl, ((omega (arith, ints, clamps), omega (arith, ints, clamps)), each_holds w (after.new_array_by facts t n) (new_array_one t n e) facts h)))
