-- What the new facts of an operation give with the others holds where both do, and is stronger where both are.
use Rattle.std.specs.Prelude.{ℤ, pos, negsuc, ◌+ℤ◌, ◌-ℤ◌, ◌≤ℤ◌, int_le, List, [], ◌∷◌, ◌++◌}
use Rattle.std.proofs.Common.{arith}
use Rattle.std.proofs.lemmas.Int.{ints}
use Rattle.ix_core.specs.declared.fact.Path.{Path}
use Rattle.ix_core.specs.declared.fact.PathOff.TheVariants.{Nothing, Plus, Minus}
use Rattle.ix_core.specs.declared.fact.Fact.{Fact}
use Rattle.ix_core.specs.declared.fact.Fact.TheVariants.{IsLen, Less, Upper}
use Rattle.ix_core.specs.Numbers.{Numbers}
use Rattle.ix_facts.specs.Facts.{Holds, AllHold, Covers, Stronger, rng, len_rng, low, same, is_len, less, sum, search, neg, upper}
use Rattle.ix_facts.specs.Bounds
use Rattle.ix_facts.specs.Bounds.{is_path}
use Rattle.ix_facts.specs.Exact.{if_so, each, each_path, named_ints, named_arrays}
use Rattle.ix_facts.specs.Finish as finish
use Rattle.ix_facts.proofs.BoundsHold.{int_same, lower_holds, limit_holds, length_low_holds, range_low_holds, range_high_holds}
use Rattle.ix_facts.proofs.BoundsMonotone.{lower_mono, limit_mono, length_low_mono, range_low_mono, range_high_mono}
use Rattle.ix_facts.proofs.FactLists.{all_hold_app, stronger_app, stronger_one, stronger_none}
use Rattle.ix_facts.proofs.RuleForms.{if_so_holds, each_holds, each_path_holds, stronger_if, stronger_each, stronger_each_path, named_ints_mono, named_arrays_mono}
use Rattle.ix_facts.proofs.RulesMonotone.{still_at_most, still_at_least}

module _ (w : Numbers) (facts new : List Fact) (h : AllHold facts w) (k : AllHold new w) (t : Path) where
  above_one : (q : Path) (c : ℤ) → Holds (Less t q c) w → (f : Fact) → Holds f w → AllHold (finish.step_above t q c f) w
  above_one q c m (Less x r d) g = if_so_holds w (is_path x q) (Less t r (c +ℤ d -ℤ pos 1) ∷ []) (λ u. let e = int_same w x q u in (omega (arith, ints), tt))
  above_one q c m _ g = tt

  below_one : (q : Path) (c : ℤ) → Holds (Less q t c) w → (f : Fact) → Holds f w → AllHold (finish.step_below t q c f) w
  below_one q c m (Less r x d) g = if_so_holds w (is_path x q) (Less r t (c +ℤ d -ℤ pos 1) ∷ []) (λ u. let e = int_same w x q u in (omega (arith, ints), tt))
  below_one q c m _ g = tt

  bound_above_one : (q : Path) (c : ℤ) → Holds (Less t q c) w → (f : Fact) → Holds f w → AllHold (finish.bound_above t q c f) w
  bound_above_one q c m (Upper x a o d) g = if_so_holds w (is_path x q) (Upper t a o (d -ℤ c +ℤ pos 1) ∷ []) (λ u. let e = int_same w x q u in (omega (arith, ints), tt))
  bound_above_one q c m (IsLen x a) g = if_so_holds w (is_path x q) (Upper t a Nothing (pos 0 -ℤ c) ∷ []) (λ u. let e = int_same w x q u in (omega (arith, ints), tt))
  bound_above_one q c m _ g = tt

  bound_below_one : (q : Path) (c : ℤ) → Holds (Less q t c) w → (f : Fact) → Holds f w → AllHold (finish.bound_below t q c f) w
  bound_below_one q c m (Upper r a (Minus x) d) g = if_so_holds w (is_path x q) (Upper r a (Minus t) (d -ℤ c +ℤ pos 1) ∷ []) (λ u. let e = int_same w x q u in (omega (arith, ints), tt))
  bound_below_one q c m _ g = tt

  along_one : (f : Fact) → Holds f w → AllHold (finish.along_by facts new t f) w
  along_one (Less p q c) g =
      all_hold_app w (if_so (is_path p t) (each (finish.step_above t q c) facts ++ each (finish.bound_above t q c) facts)) (if_so (is_path q t) (each (finish.step_below t p c) facts ++ each (finish.bound_below t p c) facts))
      (if_so_holds w (is_path p t) (each (finish.step_above t q c) facts ++ each (finish.bound_above t q c) facts)
      (λ u.
      let e = int_same w p t u in
      let m : Holds (Less t q c) w = omega (arith, ints) in
      all_hold_app w (each (finish.step_above t q c) facts) (each (finish.bound_above t q c) facts) (each_holds w (finish.step_above t q c) (above_one q c m) facts h) (each_holds w (finish.bound_above t q c) (bound_above_one q c m) facts h)))
      (if_so_holds w (is_path q t) (each (finish.step_below t p c) facts ++ each (finish.bound_below t p c) facts)
      (λ u.
      let e = int_same w q t u in
      let m : Holds (Less p t c) w = omega (arith, ints) in
      all_hold_app w (each (finish.step_below t p c) facts) (each (finish.bound_below t p c) facts) (each_holds w (finish.step_below t p c) (below_one p c m) facts h) (each_holds w (finish.bound_below t p c) (bound_below_one p c m) facts h)))
  along_one _ g = tt

  beside_int_holds : (r : Path) → AllHold (finish.beside_int facts new t r) w
  beside_int_holds r =
      let a = range_high_holds w new k t in
      let b = range_low_holds w new k t in
      let c = lower_holds w facts h r in
      let d = limit_holds w facts h r in
      all_hold_app w (if_so (int_le (Bounds.range_high new t -ℤ Bounds.lower_bound facts r +ℤ pos 1) (pos 1)) (Less t r (Bounds.range_high new t -ℤ Bounds.lower_bound facts r +ℤ pos 1) ∷ [])) (if_so (int_le (Bounds.upper_limit facts r -ℤ Bounds.range_low new t +ℤ pos 1) (pos 1)) (Less r t (Bounds.upper_limit facts r -ℤ Bounds.range_low new t +ℤ pos 1) ∷ []))
      (if_so_holds w (int_le (Bounds.range_high new t -ℤ Bounds.lower_bound facts r +ℤ pos 1) (pos 1)) (Less t r (Bounds.range_high new t -ℤ Bounds.lower_bound facts r +ℤ pos 1) ∷ []) (λ u. (omega (arith, ints), tt)))
      (if_so_holds w (int_le (Bounds.upper_limit facts r -ℤ Bounds.range_low new t +ℤ pos 1) (pos 1)) (Less r t (Bounds.upper_limit facts r -ℤ Bounds.range_low new t +ℤ pos 1) ∷ []) (λ u. (omega (arith, ints), tt)))

  beside_array_holds : (a : Path) → AllHold (finish.beside_array facts new t a) w
  beside_array_holds a =
      let b = range_high_holds w new k t in
      let c = length_low_holds w facts h a in
      if_so_holds w (int_le (negsuc 0) (Bounds.length_low facts a -ℤ pos 1 -ℤ Bounds.range_high new t)) (Upper t a Nothing (Bounds.length_low facts a -ℤ pos 1 -ℤ Bounds.range_high new t) ∷ []) (λ u. (omega (arith, ints), tt))

  pub finish_int_holds : AllHold (finish.finish_int facts new t) w
  finish_int_holds =
      all_hold_app w (each (finish.along_by facts new t) new) (each_path (finish.beside_int facts new t) (named_ints facts) ++ each_path (finish.beside_array facts new t) (named_arrays facts))
      (each_holds w (finish.along_by facts new t) along_one new k)
      (all_hold_app w (each_path (finish.beside_int facts new t) (named_ints facts)) (each_path (finish.beside_array facts new t) (named_arrays facts))
      (each_path_holds w (finish.beside_int facts new t) beside_int_holds (named_ints facts))
      (each_path_holds w (finish.beside_array facts new t) beside_array_holds (named_arrays facts)))

  beside_length_holds : (r : Path) → AllHold (finish.beside_length facts new t r) w
  beside_length_holds r =
      let b = length_low_holds w new k t in
      let c = limit_holds w facts h r in
      if_so_holds w (int_le (negsuc 0) (Bounds.length_low new t -ℤ pos 1 -ℤ Bounds.upper_limit facts r)) (Upper r t Nothing (Bounds.length_low new t -ℤ pos 1 -ℤ Bounds.upper_limit facts r) ∷ []) (λ u. (omega (arith, ints), tt))

  pub finish_array_holds : AllHold (finish.finish_array facts new t) w
  finish_array_holds = each_path_holds w (finish.beside_length facts new t) beside_length_holds (named_ints facts)

-- ---- monotone

module _ (t : Path) where
  above_mono : (q : Path) (c d : ℤ) → c ≤ℤ d → (g f : Fact) → Covers g f → Stronger (finish.step_above t q c g) (finish.step_above t q d f)
  above_mono q c d h _ _ (less x r e m k) = stronger_if (is_path x q) (is_path x q) (Less t r (c +ℤ e -ℤ pos 1) ∷ []) (Less t r (d +ℤ m -ℤ pos 1) ∷ []) (λ u. u) (λ u. stronger_one _ _ (less t r (c +ℤ e -ℤ pos 1) (d +ℤ m -ℤ pos 1) (omega (arith, ints))))
  above_mono q c d h _ _ (rng _ _ _ _ _ _ _) = stronger_none []
  above_mono q c d h _ _ (len_rng _ _ _ _ _ _ _) = stronger_none []
  above_mono q c d h _ _ (low _ _ _ _) = stronger_none []
  above_mono q c d h _ _ (same _ _) = stronger_none []
  above_mono q c d h _ _ (is_len _ _) = stronger_none []
  above_mono q c d h _ _ (sum _ _ _) = stronger_none []
  above_mono q c d h _ _ (search _ _) = stronger_none []
  above_mono q c d h _ _ (neg _ _) = stronger_none []
  above_mono q c d h _ _ (upper _ _ _ _ _ _) = stronger_none []

  below_mono : (q : Path) (c d : ℤ) → c ≤ℤ d → (g f : Fact) → Covers g f → Stronger (finish.step_below t q c g) (finish.step_below t q d f)
  below_mono q c d h _ _ (less r x e m k) = stronger_if (is_path x q) (is_path x q) (Less r t (c +ℤ e -ℤ pos 1) ∷ []) (Less r t (d +ℤ m -ℤ pos 1) ∷ []) (λ u. u) (λ u. stronger_one _ _ (less r t (c +ℤ e -ℤ pos 1) (d +ℤ m -ℤ pos 1) (omega (arith, ints))))
  below_mono q c d h _ _ (rng _ _ _ _ _ _ _) = stronger_none []
  below_mono q c d h _ _ (len_rng _ _ _ _ _ _ _) = stronger_none []
  below_mono q c d h _ _ (low _ _ _ _) = stronger_none []
  below_mono q c d h _ _ (same _ _) = stronger_none []
  below_mono q c d h _ _ (is_len _ _) = stronger_none []
  below_mono q c d h _ _ (sum _ _ _) = stronger_none []
  below_mono q c d h _ _ (search _ _) = stronger_none []
  below_mono q c d h _ _ (neg _ _) = stronger_none []
  below_mono q c d h _ _ (upper _ _ _ _ _ _) = stronger_none []

  bound_above_mono : (q : Path) (c d : ℤ) → c ≤ℤ d → (g f : Fact) → Covers g f → Stronger (finish.bound_above t q c g) (finish.bound_above t q d f)
  bound_above_mono q c d h _ _ (upper x a o e m k) = stronger_if (is_path x q) (is_path x q) (Upper t a o (e -ℤ c +ℤ pos 1) ∷ []) (Upper t a o (m -ℤ d +ℤ pos 1) ∷ []) (λ u. u) (λ u. stronger_one _ _ (upper t a o (e -ℤ c +ℤ pos 1) (m -ℤ d +ℤ pos 1) (omega (arith, ints))))
  bound_above_mono q c d h _ _ (is_len x a) = stronger_if (is_path x q) (is_path x q) (Upper t a Nothing (pos 0 -ℤ c) ∷ []) (Upper t a Nothing (pos 0 -ℤ d) ∷ []) (λ u. u) (λ u. stronger_one _ _ (upper t a Nothing (pos 0 -ℤ c) (pos 0 -ℤ d) (omega (arith, ints))))
  bound_above_mono q c d h _ _ (rng _ _ _ _ _ _ _) = stronger_none []
  bound_above_mono q c d h _ _ (len_rng _ _ _ _ _ _ _) = stronger_none []
  bound_above_mono q c d h _ _ (low _ _ _ _) = stronger_none []
  bound_above_mono q c d h _ _ (same _ _) = stronger_none []
  bound_above_mono q c d h _ _ (less _ _ _ _ _) = stronger_none []
  bound_above_mono q c d h _ _ (sum _ _ _) = stronger_none []
  bound_above_mono q c d h _ _ (search _ _) = stronger_none []
  bound_above_mono q c d h _ _ (neg _ _) = stronger_none []

  bound_below_mono : (q : Path) (c d : ℤ) → c ≤ℤ d → (g f : Fact) → Covers g f → Stronger (finish.bound_below t q c g) (finish.bound_below t q d f)
  bound_below_mono q c d h _ _ (upper r a (Minus x) e m k) = stronger_if (is_path x q) (is_path x q) (Upper r a (Minus t) (e -ℤ c +ℤ pos 1) ∷ []) (Upper r a (Minus t) (m -ℤ d +ℤ pos 1) ∷ []) (λ u. u) (λ u. stronger_one _ _ (upper r a (Minus t) (e -ℤ c +ℤ pos 1) (m -ℤ d +ℤ pos 1) (omega (arith, ints))))
  bound_below_mono q c d h _ _ (upper r a Nothing e m k) = stronger_none []
  bound_below_mono q c d h _ _ (upper r a (Plus x) e m k) = stronger_none []
  bound_below_mono q c d h _ _ (rng _ _ _ _ _ _ _) = stronger_none []
  bound_below_mono q c d h _ _ (len_rng _ _ _ _ _ _ _) = stronger_none []
  bound_below_mono q c d h _ _ (low _ _ _ _) = stronger_none []
  bound_below_mono q c d h _ _ (same _ _) = stronger_none []
  bound_below_mono q c d h _ _ (is_len _ _) = stronger_none []
  bound_below_mono q c d h _ _ (less _ _ _ _ _) = stronger_none []
  bound_below_mono q c d h _ _ (sum _ _ _) = stronger_none []
  bound_below_mono q c d h _ _ (search _ _) = stronger_none []
  bound_below_mono q c d h _ _ (neg _ _) = stronger_none []

module _ (strong weak new weak_new : List Fact) (s : Stronger strong weak) (n : Stronger new weak_new) (t : Path) where
  along_mono : (g f : Fact) → Covers g f → Stronger (finish.along_by strong new t g) (finish.along_by weak weak_new t f)
  along_mono _ _ (less p q c d x) =
      stronger_app _ _ _ _
      (stronger_if (is_path p t) (is_path p t) (each (finish.step_above t q c) strong ++ each (finish.bound_above t q c) strong) (each (finish.step_above t q d) weak ++ each (finish.bound_above t q d) weak) (λ u. u)
      (λ u. stronger_app _ _ _ _ (stronger_each (finish.step_above t q c) (finish.step_above t q d) (above_mono t q c d x) strong weak s) (stronger_each (finish.bound_above t q c) (finish.bound_above t q d) (bound_above_mono t q c d x) strong weak s)))
      (stronger_if (is_path q t) (is_path q t) (each (finish.step_below t p c) strong ++ each (finish.bound_below t p c) strong) (each (finish.step_below t p d) weak ++ each (finish.bound_below t p d) weak) (λ u. u)
      (λ u. stronger_app _ _ _ _ (stronger_each (finish.step_below t p c) (finish.step_below t p d) (below_mono t p c d x) strong weak s) (stronger_each (finish.bound_below t p c) (finish.bound_below t p d) (bound_below_mono t p c d x) strong weak s)))
  along_mono _ _ (rng _ _ _ _ _ _ _) = stronger_none []
  along_mono _ _ (len_rng _ _ _ _ _ _ _) = stronger_none []
  along_mono _ _ (low _ _ _ _) = stronger_none []
  along_mono _ _ (same _ _) = stronger_none []
  along_mono _ _ (is_len _ _) = stronger_none []
  along_mono _ _ (sum _ _ _) = stronger_none []
  along_mono _ _ (search _ _) = stronger_none []
  along_mono _ _ (neg _ _) = stronger_none []
  along_mono _ _ (upper _ _ _ _ _ _) = stronger_none []

  -- `p < q + c` where c is at most a number
  less_if : (p q : Path) (c d n : ℤ) → c ≤ℤ d → Stronger (if_so (int_le c n) (Less p q c ∷ [])) (if_so (int_le d n) (Less p q d ∷ []))
  less_if p q c d n h = stronger_if (int_le d n) (int_le c n) (Less p q c ∷ []) (Less p q d ∷ []) (still_at_most d c n h) (λ u. stronger_one _ _ (less p q c d h))

  upper_if : (p a : Path) (c d n : ℤ) → d ≤ℤ c → Stronger (if_so (int_le n c) (Upper p a Nothing c ∷ [])) (if_so (int_le n d) (Upper p a Nothing d ∷ []))
  upper_if p a c d n h = stronger_if (int_le n d) (int_le n c) (Upper p a Nothing c ∷ []) (Upper p a Nothing d ∷ []) (still_at_least d c n h) (λ u. stronger_one _ _ (upper p a Nothing c d h))

  beside_int_mono : (r : Path) → Stronger (finish.beside_int strong new t r) (finish.beside_int weak weak_new t r)
  beside_int_mono r =
      let a = range_high_mono new weak_new n t in
      let b = range_low_mono new weak_new n t in
      let c = lower_mono strong weak s r in
      let d = limit_mono strong weak s r in
      stronger_app _ _ _ _
      (less_if t r (Bounds.range_high new t -ℤ Bounds.lower_bound strong r +ℤ pos 1) (Bounds.range_high weak_new t -ℤ Bounds.lower_bound weak r +ℤ pos 1) (pos 1) (omega (arith, ints)))
      (less_if r t (Bounds.upper_limit strong r -ℤ Bounds.range_low new t +ℤ pos 1) (Bounds.upper_limit weak r -ℤ Bounds.range_low weak_new t +ℤ pos 1) (pos 1) (omega (arith, ints)))

  beside_array_mono : (a : Path) → Stronger (finish.beside_array strong new t a) (finish.beside_array weak weak_new t a)
  beside_array_mono a =
      let b = range_high_mono new weak_new n t in
      let c = length_low_mono strong weak s a in
      upper_if t a (Bounds.length_low strong a -ℤ pos 1 -ℤ Bounds.range_high new t) (Bounds.length_low weak a -ℤ pos 1 -ℤ Bounds.range_high weak_new t) (negsuc 0) (omega (arith, ints))

  pub finish_int_mono : Stronger (finish.finish_int strong new t) (finish.finish_int weak weak_new t)
  finish_int_mono =
      stronger_app _ _ _ _ (stronger_each (finish.along_by strong new t) (finish.along_by weak weak_new t) along_mono new weak_new n)
      (stronger_app _ _ _ _
      (stronger_each_path (finish.beside_int strong new t) (finish.beside_int weak weak_new t) beside_int_mono (named_ints strong) (named_ints weak) (named_ints_mono strong weak s))
      (stronger_each_path (finish.beside_array strong new t) (finish.beside_array weak weak_new t) beside_array_mono (named_arrays strong) (named_arrays weak) (named_arrays_mono strong weak s)))

  beside_length_mono : (r : Path) → Stronger (finish.beside_length strong new t r) (finish.beside_length weak weak_new t r)
  beside_length_mono r =
      let b = length_low_mono new weak_new n t in
      let c = limit_mono strong weak s r in
      upper_if r t (Bounds.length_low new t -ℤ pos 1 -ℤ Bounds.upper_limit strong r) (Bounds.length_low weak_new t -ℤ pos 1 -ℤ Bounds.upper_limit weak r) (negsuc 0) (omega (arith, ints))

  pub finish_array_mono : Stronger (finish.finish_array strong new t) (finish.finish_array weak weak_new t)
  finish_array_mono = stronger_each_path (finish.beside_length strong new t) (finish.beside_length weak weak_new t) beside_length_mono (named_ints strong) (named_ints weak) (named_ints_mono strong weak s)
