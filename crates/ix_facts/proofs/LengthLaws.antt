-- To read a length fact as an upper bound as well gives no better bound, where the facts are closed.
use Rattle.std.specs.Prelude.{◌≡◌, Bool, true, false, ◌&&◌, ◌||◌, ℤ, pos, negsuc, ◌+ℤ◌, ◌-ℤ◌, ◌≤ℤ◌, List, [], ◌∷◌, Option, Some, None, refl}
use Rattle.std.specs.Option.{option_map}
use Rattle.std.specs.Int.{int_min, int_max}
use Rattle.std.proofs.Common.{arith, inl, inr, sym, ap, ◌∙◌, subst, ⊎_elim}
use Rattle.std.proofs.lemmas.Bool.{and_parts, and_from, false≢true}
use Rattle.std.proofs.lemmas.Int.{ints}
use Rattle.ix_core.specs.declared.fact.Path.{Path}
use Rattle.ix_core.specs.declared.fact.PathOff.{PathOff}
use Rattle.ix_core.specs.declared.fact.PathOff.TheVariants.{Nothing, Plus, Minus}
use Rattle.ix_core.specs.declared.fact.Fact.{Fact}
use Rattle.ix_core.specs.declared.fact.Fact.TheVariants.{Rng, LenRng, Low, Same, IsLen, Less, Sum, Search, Neg, Upper}
use Rattle.ix_core.proofs.Cases.{by_test}
use Rattle.ix_facts.specs.Bounds
use Rattle.ix_facts.specs.Bounds.{is_path, is_offset, says_same, when, best, best_of, greatest, least}
use Rattle.ix_facts.specs.Facts.{IsIn, Covers, Stronger, is_len, less, sum, upper}
use Rattle.ix_facts.specs.Closure.{given, is_len_along}
use Rattle.ix_facts.specs.Laws.{SameBounds, ClosedAsItStands, with_lengths}
use Rattle.ix_facts.proofs.Tests.{path_true, or_else}
use Rattle.ix_facts.proofs.BoundLaws.{bounds_no_weaker, better_some}
use Rattle.ix_facts.proofs.BoundsMonotone.{length_low_one, length_high_one, own_low_one, range_low_one, range_high_one}
use Rattle.ix_facts.proofs.FactLists.{covers_itself, stronger_none, stronger_cons}
use Rattle.ix_facts.proofs.Worse.{BestLaws, Up, Down, up_laws, down_laws, Worse, worse_when, worse_map, worse_both, worse_in, worse_best, at_least_up, at_most_down}
use Rattle.ix_facts.specs.PathOrder.{path_itself}

worse_test : (R : ℤ → ℤ → Type 0) (t : Bool) (a b : Option ℤ) → (t ≡ true → Worse R a b) → Worse R (when t a) b
worse_test R true a b h = h refl
worse_test R false a b h = tt

never : (t u : Bool) → (t && (u && false)) ≡ true → ⊥
never t u h = let x = and_parts t (u && false) h in let y = and_parts u false x.1 in false≢true y.1

covers_len : (g : Fact) (q a : Path) → Covers g (IsLen q a) → g ≡ IsLen q a
covers_len _ q a (is_len _ _) = refl

-- a stored fact of equal lengths, as it stands
same_is : (a b : Path) (f : Fact) → says_same a b f ≡ true → f ≡ Same a b
same_is a b (Same c d) h = let x = and_parts (is_path c a) (is_path d b) h in let i = path_true c a x.0 in let j = path_true d b x.1 in cc
same_is a b (Rng _ _ _) h = absurd (false≢true h)
same_is a b (LenRng _ _ _) h = absurd (false≢true h)
same_is a b (Low _ _) h = absurd (false≢true h)
same_is a b (IsLen _ _) h = absurd (false≢true h)
same_is a b (Less _ _ _) h = absurd (false≢true h)
same_is a b (Sum _ _ _) h = absurd (false≢true h)
same_is a b (Search _ _) h = absurd (false≢true h)
same_is a b (Neg _ _) h = absurd (false≢true h)
same_is a b (Upper _ _ _ _) h = absurd (false≢true h)

same_stored : (facts : List Fact) (a b : Path) → Bounds.stored_same facts a b ≡ true → IsIn (Same a b) facts
same_stored [] a b h = absurd (false≢true h)
same_stored (f ∷ facts) a b h =
    by_test (says_same a b f) (λ t. inl (sym (same_is a b f t))) (λ t. inr (same_stored facts a b (or_else (says_same a b f) (Bounds.stored_same facts a b) h t)))

same_lengths : (facts : List Fact) (a b : Path) → Bounds.stored_same (with_lengths facts) a b ≡ Bounds.stored_same facts a b
same_lengths [] a b = refl
same_lengths (IsLen p c ∷ facts) a b = same_lengths facts a b
same_lengths (Rng p l h ∷ facts) a b = ap (λ u. says_same a b (Rng p l h) || u) (same_lengths facts a b)
same_lengths (LenRng p l h ∷ facts) a b = ap (λ u. says_same a b (LenRng p l h) || u) (same_lengths facts a b)
same_lengths (Low p n ∷ facts) a b = ap (λ u. says_same a b (Low p n) || u) (same_lengths facts a b)
same_lengths (Same c d ∷ facts) a b = ap (λ u. says_same a b (Same c d) || u) (same_lengths facts a b)
same_lengths (Less p q n ∷ facts) a b = ap (λ u. says_same a b (Less p q n) || u) (same_lengths facts a b)
same_lengths (Sum t y z ∷ facts) a b = ap (λ u. says_same a b (Sum t y z) || u) (same_lengths facts a b)
same_lengths (Search p c ∷ facts) a b = ap (λ u. says_same a b (Search p c) || u) (same_lengths facts a b)
same_lengths (Neg p c ∷ facts) a b = ap (λ u. says_same a b (Neg p c) || u) (same_lengths facts a b)
same_lengths (Upper p c o n ∷ facts) a b = ap (λ u. says_same a b (Upper p c o n) || u) (same_lengths facts a b)

-- what no fact gives better, and no length fact as a bound, the list does not give better
module _ (facts : List Fact) (R : ℤ → ℤ → Type 0) (better : ℤ → ℤ → ℤ) (l : BestLaws R better) (by weak_by : Fact → Option ℤ) (one : (g f : Fact) → Covers g f → Worse R (weak_by f) (by g)) where
  Extra : Type 0
  Extra = (q b : Path) → IsIn (IsLen q b) facts → Worse R (weak_by (Upper q b Nothing (negsuc 0))) (best_of better by facts)

  first : (f : Fact) (rest : List Fact) → ((g : Fact) → IsIn g (f ∷ rest) → IsIn g facts) → Worse R (best_of better weak_by (with_lengths rest)) (best_of better by facts) → Worse R (best_of better weak_by (f ∷ with_lengths rest)) (best_of better by facts)
  first f rest among more =
      worse_both R better l (weak_by f) (best_of better weak_by (with_lengths rest)) (best_of better by facts)
      (worse_in R better l by (weak_by f) f facts (among f (inl refl)) (one f f (covers_itself f))) more

  along : Extra → (rest : List Fact) → ((g : Fact) → IsIn g rest → IsIn g facts) → Worse R (best_of better weak_by (with_lengths rest)) (best_of better by facts)
  unfolding Extra
  along extra [] among = tt
  along extra (IsLen q b ∷ rest) among =
      let more = along extra rest (λ g i. among g (inr i)) in
      worse_both R better l (weak_by (IsLen q b)) (best_of better weak_by (Upper q b Nothing (negsuc 0) ∷ with_lengths rest)) (best_of better by facts)
      (worse_in R better l by (weak_by (IsLen q b)) (IsLen q b) facts (among (IsLen q b) (inl refl)) (one (IsLen q b) (IsLen q b) (covers_itself (IsLen q b))))
      (worse_both R better l (weak_by (Upper q b Nothing (negsuc 0))) (best_of better weak_by (with_lengths rest)) (best_of better by facts) (extra q b (among (IsLen q b) (inl refl))) more)
  along extra (Rng p x h ∷ rest) among = first (Rng p x h) rest among (along extra rest (λ g i. among g (inr i)))
  along extra (LenRng p x h ∷ rest) among = first (LenRng p x h) rest among (along extra rest (λ g i. among g (inr i)))
  along extra (Low p n ∷ rest) among = first (Low p n) rest among (along extra rest (λ g i. among g (inr i)))
  along extra (Same c d ∷ rest) among = first (Same c d) rest among (along extra rest (λ g i. among g (inr i)))
  along extra (Less p q n ∷ rest) among = first (Less p q n) rest among (along extra rest (λ g i. among g (inr i)))
  along extra (Sum t y z ∷ rest) among = first (Sum t y z) rest among (along extra rest (λ g i. among g (inr i)))
  along extra (Search p c ∷ rest) among = first (Search p c) rest among (along extra rest (λ g i. among g (inr i)))
  along extra (Neg p c ∷ rest) among = first (Neg p c) rest among (along extra rest (λ g i. among g (inr i)))
  along extra (Upper p c o n ∷ rest) among = first (Upper p c o n) rest among (along extra rest (λ g i. among g (inr i)))

worse_lengths : (facts : List Fact) (R : ℤ → ℤ → Type 0) (better : ℤ → ℤ → ℤ) (l : BestLaws R better) (by weak_by : Fact → Option ℤ) → ((g f : Fact) → Covers g f → Worse R (weak_by f) (by g))
    → ((q b : Path) → IsIn (IsLen q b) facts → Worse R (weak_by (Upper q b Nothing (negsuc 0))) (best_of better by facts)) → Worse R (best_of better weak_by (with_lengths facts)) (best_of better by facts)
unfolding Extra
worse_lengths facts R better l by weak_by one extra = along facts R better l by weak_by one extra facts (λ g i. i)

module _ (facts : List Fact) (closed : ClosedAsItStands facts) where
  are_same_mono : (a b : Path) → Bounds.are_same (with_lengths facts) a b ≡ true → Bounds.are_same facts a b ≡ true
  are_same_mono a b h = ap (λ t. is_path a b || t) (sym (same_lengths facts a b)) ∙ h

  length_low_mono : (a : Path) → Bounds.length_low (with_lengths facts) a ≤ℤ Bounds.length_low facts a
  length_low_mono a = at_least_up _ _ _ _ (omega (arith, ints)) (worse_lengths facts Up int_max up_laws _ _ (length_low_one a) (λ q b i. tt))

  length_high_mono : (a : Path) → Bounds.length_high facts a ≤ℤ Bounds.length_high (with_lengths facts) a
  length_high_mono a = at_most_down _ _ _ _ (omega (arith, ints)) (worse_lengths facts Down int_min down_laws _ _ (length_high_one a) (λ q b i. tt))

  own_low_mono : (p : Path) → Bounds.own_low (with_lengths facts) p ≤ℤ Bounds.own_low facts p
  own_low_mono p = at_least_up _ _ _ _ (omega (arith, ints)) (worse_lengths facts Up int_max up_laws _ _ (own_low_one p) (λ q b i. tt))

  range_low_mono : (p : Path) → Bounds.range_low (with_lengths facts) p ≤ℤ Bounds.range_low facts p
  range_low_mono p = at_least_up _ _ _ _ (omega (arith, ints)) (worse_lengths facts Up int_max up_laws _ _ (range_low_one p) (λ q b i. tt))

  range_high_mono : (p : Path) → Bounds.range_high facts p ≤ℤ Bounds.range_high (with_lengths facts) p
  range_high_mono p = at_most_down _ _ _ _ (omega (arith, ints)) (worse_lengths facts Down int_min down_laws _ _ (range_high_one p) (λ q b i. tt))

  lower_one : (p : Path) (g f : Fact) → Covers g f → Worse Up (Bounds.lower_by (with_lengths facts) p f) (Bounds.lower_by facts p g)
  lower_one p _ _ (less q r c d x) = worse_when Up (Some (Bounds.range_low (with_lengths facts) q -ℤ d +ℤ pos 1)) (Some (Bounds.range_low facts q -ℤ c +ℤ pos 1)) (is_path r p) (is_path r p) (λ t. t) (λ t. let b = range_low_mono q in omega (arith, ints))
  lower_one p _ _ (is_len r a) = worse_when Up (Some (Bounds.length_low (with_lengths facts) a)) (Some (Bounds.length_low facts a)) (is_path r p) (is_path r p) (λ t. t) (λ t. length_low_mono a)
  lower_one p _ _ _ = tt

  lower_mono : (p : Path) → Bounds.lower_bound (with_lengths facts) p ≤ℤ Bounds.lower_bound facts p
  lower_mono p = at_least_up _ _ _ _ (range_low_mono p) (worse_lengths facts Up int_max up_laws _ _ (lower_one p) (λ q b i. tt))

  limit_one : (p : Path) (g f : Fact) → Covers g f → Worse Down (Bounds.limit_by (with_lengths facts) p f) (Bounds.limit_by facts p g)
  limit_one p _ _ (less r q c d x) = worse_when Down (Some (Bounds.range_high (with_lengths facts) q +ℤ d -ℤ pos 1)) (Some (Bounds.range_high facts q +ℤ c -ℤ pos 1)) (is_path r p) (is_path r p) (λ t. t) (λ t. let b = range_high_mono q in omega (arith, ints))
  limit_one p _ _ (upper r a Nothing c d x) = worse_when Down (Some (Bounds.length_high (with_lengths facts) a -ℤ pos 1 -ℤ d)) (Some (Bounds.length_high facts a -ℤ pos 1 -ℤ c)) (is_path r p) (is_path r p) (λ t. t) (λ t. let b = length_high_mono a in omega (arith, ints))
  limit_one p _ _ (is_len r a) = worse_when Down (Some (Bounds.length_high (with_lengths facts) a)) (Some (Bounds.length_high facts a)) (is_path r p) (is_path r p) (λ t. t) (λ t. length_high_mono a)
  limit_one p _ _ _ = tt

  limit_extra : (p q b : Path) → IsIn (IsLen q b) facts → Worse Down (Bounds.limit_by (with_lengths facts) p (Upper q b Nothing (negsuc 0))) (best_of int_min (Bounds.limit_by facts p) facts)
  limit_extra p q b i =
      worse_in Down int_min down_laws (Bounds.limit_by facts p) (Bounds.limit_by (with_lengths facts) p (Upper q b Nothing (negsuc 0))) (IsLen q b) facts i
      (worse_when Down (Some (Bounds.length_high (with_lengths facts) b -ℤ pos 1 -ℤ negsuc 0)) (Some (Bounds.length_high facts b)) (is_path q p) (is_path q p) (λ t. t) (λ t. let h = length_high_mono b in omega (arith, ints)))

  limit_mono : (p : Path) → Bounds.upper_limit facts p ≤ℤ Bounds.upper_limit (with_lengths facts) p
  limit_mono p = at_most_down _ _ _ _ (range_high_mono p) (worse_lengths facts Down int_min down_laws _ _ (limit_one p) (limit_extra p))

  -- a test with `are_same` in it
  with_same : (t u : Bool) (b a : Path) → (t && (Bounds.are_same (with_lengths facts) b a && u)) ≡ true → (t && (Bounds.are_same facts b a && u)) ≡ true
  with_same t u b a h =
      let x = and_parts t (Bounds.are_same (with_lengths facts) b a && u) h in
      let y = and_parts (Bounds.are_same (with_lengths facts) b a) u x.1 in
      and_from t (Bounds.are_same facts b a && u) x.0 (and_from (Bounds.are_same facts b a) u (are_same_mono b a y.0) y.1)

  with_path : (t : Bool) (b a : Path) → (t && Bounds.are_same (with_lengths facts) b a) ≡ true → (t && Bounds.are_same facts b a) ≡ true
  with_path t b a h = let x = and_parts t (Bounds.are_same (with_lengths facts) b a) h in and_from t (Bounds.are_same facts b a) x.0 (are_same_mono b a x.1)

  stored_upper_one : (p a : Path) (o : PathOff) (g f : Fact) → Covers g f → Worse Up (Bounds.stored_upper_by (with_lengths facts) p a o f) (Bounds.stored_upper_by facts p a o g)
  stored_upper_one p a o _ _ (upper r b x c d h) = worse_when Up (Some d) (Some c) (is_path r p && (Bounds.are_same (with_lengths facts) b a && is_offset x o)) (is_path r p && (Bounds.are_same facts b a && is_offset x o)) (with_same (is_path r p) (is_offset x o) b a) (λ t. h)
  stored_upper_one p a Nothing _ _ (is_len r b) = worse_when Up (Some (negsuc 0)) (Some (negsuc 0)) (is_path r p && is_path b a) (is_path r p && is_path b a) (λ t. t) (λ t. omega (arith, ints))
  stored_upper_one p a o _ _ _ = tt

  -- a length of an array is one of each array that is known to have the same
  len_moves : (q b a : Path) → IsIn (IsLen q b) facts → Bounds.are_same facts b a ≡ true → IsIn (IsLen q a) facts
  len_moves q b a i h =
      by_test (is_path b a)
      (λ t. subst (λ x. IsIn (IsLen q x) facts) (path_true b a t) i)
      (λ t.
      let j = same_stored facts b a (or_else (is_path b a) (Bounds.stored_same facts b a) h t) in
      ⊎_elim (λ d. absurd d) (λ x. subst (λ g. IsIn g facts) (covers_len x.0 q a x.2) x.1) (closed.says (IsLen q a) (is_len_along q b a (given (Same b a) j) (given (IsLen q b) i))))

  stored_upper_extra : (p a : Path) (o : PathOff) (q b : Path) → IsIn (IsLen q b) facts → Worse Up (Bounds.stored_upper_by (with_lengths facts) p a o (Upper q b Nothing (negsuc 0))) (best_of int_max (Bounds.stored_upper_by facts p a o) facts)
  stored_upper_extra p a Nothing q b i =
      worse_test Up (is_path q p && (Bounds.are_same (with_lengths facts) b a && true)) (Some (negsuc 0)) (best_of int_max (Bounds.stored_upper_by facts p a Nothing) facts)
      (λ t.
      let x = and_parts (is_path q p) (Bounds.are_same (with_lengths facts) b a && true) t in
      let y = and_parts (Bounds.are_same (with_lengths facts) b a) true x.1 in
      worse_in Up int_max up_laws (Bounds.stored_upper_by facts p a Nothing) (Some (negsuc 0)) (IsLen q a) facts (len_moves q b a i (are_same_mono b a y.0)) (rw (x.0, path_itself a) (omega (arith, ints))))
  stored_upper_extra p a (Plus r) q b i = worse_test Up (is_path q p && (Bounds.are_same (with_lengths facts) b a && false)) (Some (negsuc 0)) (best_of int_max (Bounds.stored_upper_by facts p a (Plus r)) facts) (λ t. absurd (never (is_path q p) (Bounds.are_same (with_lengths facts) b a) t))
  stored_upper_extra p a (Minus r) q b i = worse_test Up (is_path q p && (Bounds.are_same (with_lengths facts) b a && false)) (Some (negsuc 0)) (best_of int_max (Bounds.stored_upper_by facts p a (Minus r)) facts) (λ t. absurd (never (is_path q p) (Bounds.are_same (with_lengths facts) b a) t))

  stored_upper_mono : (p a : Path) (o : PathOff) → Worse Up (Bounds.stored_upper (with_lengths facts) p a o) (Bounds.stored_upper facts p a o)
  stored_upper_mono p a o = worse_lengths facts Up int_max up_laws _ _ (stored_upper_one p a o) (stored_upper_extra p a o)

  fact_less_one : (p q : Path) (g f : Fact) → Covers g f → Worse Down (Bounds.fact_less_by p q f) (Bounds.fact_less_by p q g)
  fact_less_one p q _ _ (less r t c d x) = worse_when Down (Some d) (Some c) (is_path r p && is_path t q) (is_path r p && is_path t q) (λ u. u) (λ u. x)
  fact_less_one p q _ _ _ = tt

  fact_less_mono : (p q : Path) → Worse Down (Bounds.fact_less (with_lengths facts) p q) (Bounds.fact_less facts p q)
  fact_less_mono p q = worse_lengths facts Down int_min down_laws _ _ (fact_less_one p q) (λ q b i. tt)

  stored_less_one : (p q : Path) (g f : Fact) → Covers g f → Worse Down (Bounds.stored_less_by (with_lengths facts) p q f) (Bounds.stored_less_by facts p q g)
  stored_less_one p q _ _ (less r t c d x) = worse_when Down (Some d) (Some c) (is_path r p && is_path t q) (is_path r p && is_path t q) (λ u. u) (λ u. x)
  stored_less_one p q _ _ (is_len r a) =
      worse_when Down (option_map (λ c. pos 0 -ℤ c) (Bounds.stored_upper (with_lengths facts) p a Nothing)) (option_map (λ c. pos 0 -ℤ c) (Bounds.stored_upper facts p a Nothing)) (is_path r q) (is_path r q) (λ u. u)
      (λ u. worse_map Up Down _ _ _ _ (λ x y h. omega (arith, ints)) (stored_upper_mono p a Nothing))
  stored_less_one p q _ _ _ = tt

  stored_less_mono : (p q : Path) → Worse Down (Bounds.stored_less (with_lengths facts) p q) (Bounds.stored_less facts p q)
  stored_less_mono p q = worse_lengths facts Down int_min down_laws _ _ (stored_less_one p q) (λ q b i. tt)

  through_mono : (c d : ℤ) (p q : Path) → d ≤ℤ c → Worse Up (Bounds.through (with_lengths facts) d (Bounds.stored_less (with_lengths facts) p q)) (Bounds.through facts c (Bounds.stored_less facts p q))
  through_mono c d p q h = worse_map Down Up _ _ _ _ (λ x y k. omega (arith, ints)) (stored_less_mono p q)

  moved_mono : (x o : PathOff) (c d : ℤ) → d ≤ℤ c → Worse Up (Bounds.offset_moved (with_lengths facts) d x o) (Bounds.offset_moved facts c x o)
  moved_mono (Plus q) (Plus r) c d h = through_mono c d r q h
  moved_mono (Minus q) (Minus r) c d h = through_mono c d q r h
  moved_mono _ _ c d h = tt

  shifted_one : (p a : Path) (o : PathOff) (g f : Fact) → Covers g f → Worse Up (Bounds.shifted_by (with_lengths facts) p a o f) (Bounds.shifted_by facts p a o g)
  shifted_one p a o _ _ (upper r b x c d h) =
      worse_when Up
      (best int_max (when (is_offset x o) (Bounds.through (with_lengths facts) d (Bounds.stored_less (with_lengths facts) p r))) (when (is_path r p) (Bounds.offset_moved (with_lengths facts) d x o)))
      (best int_max (when (is_offset x o) (Bounds.through facts c (Bounds.stored_less facts p r))) (when (is_path r p) (Bounds.offset_moved facts c x o)))
      (Bounds.are_same (with_lengths facts) b a) (Bounds.are_same facts b a) (are_same_mono b a)
      (λ t. worse_best Up int_max up_laws
      (when (is_offset x o) (Bounds.through (with_lengths facts) d (Bounds.stored_less (with_lengths facts) p r))) (when (is_path r p) (Bounds.offset_moved (with_lengths facts) d x o))
      (when (is_offset x o) (Bounds.through facts c (Bounds.stored_less facts p r))) (when (is_path r p) (Bounds.offset_moved facts c x o))
      (worse_when Up (Bounds.through (with_lengths facts) d (Bounds.stored_less (with_lengths facts) p r)) (Bounds.through facts c (Bounds.stored_less facts p r)) (is_offset x o) (is_offset x o) (λ u. u) (λ u. through_mono c d p r h))
      (worse_when Up (Bounds.offset_moved (with_lengths facts) d x o) (Bounds.offset_moved facts c x o) (is_path r p) (is_path r p) (λ u. u) (λ u. moved_mono x o c d h)))
  shifted_one p a Nothing _ _ (is_len r b) =
      worse_when Up (Bounds.through (with_lengths facts) (negsuc 0) (Bounds.stored_less (with_lengths facts) p r)) (Bounds.through facts (negsuc 0) (Bounds.stored_less facts p r)) (is_path b a) (is_path b a) (λ u. u)
      (λ u. through_mono (negsuc 0) (negsuc 0) p r (omega (arith, ints)))
  shifted_one p a o _ _ _ = tt

  shifted_extra : (p a : Path) (o : PathOff) (q b : Path) → IsIn (IsLen q b) facts → Worse Up (Bounds.shifted_by (with_lengths facts) p a o (Upper q b Nothing (negsuc 0))) (best_of int_max (Bounds.shifted_by facts p a o) facts)
  shifted_extra p a Nothing q b i =
      let none = when (is_path q p) None in
      let here = Bounds.through (with_lengths facts) (negsuc 0) (Bounds.stored_less (with_lengths facts) p q) in
      let all = best_of int_max (Bounds.shifted_by facts p a Nothing) facts in
      worse_test Up (Bounds.are_same (with_lengths facts) b a) (best int_max here none) all
      (λ t.
      worse_both Up int_max up_laws here none all
      (worse_in Up int_max up_laws (Bounds.shifted_by facts p a Nothing) here (IsLen q a) facts (len_moves q b a i (are_same_mono b a t)) (rw (path_itself a) (through_mono (negsuc 0) (negsuc 0) p q (omega (arith, ints)))))
      (worse_test Up (is_path q p) None all (λ u. tt)))
  shifted_extra p a (Plus r) q b i =
      worse_test Up (Bounds.are_same (with_lengths facts) b a) (when (is_path q p) None) (best_of int_max (Bounds.shifted_by facts p a (Plus r)) facts)
      (λ t. worse_test Up (is_path q p) None (best_of int_max (Bounds.shifted_by facts p a (Plus r)) facts) (λ u. tt))
  shifted_extra p a (Minus r) q b i =
      worse_test Up (Bounds.are_same (with_lengths facts) b a) (when (is_path q p) None) (best_of int_max (Bounds.shifted_by facts p a (Minus r)) facts)
      (λ t. worse_test Up (is_path q p) None (best_of int_max (Bounds.shifted_by facts p a (Minus r)) facts) (λ u. tt))

  shifted_mono : (p a : Path) (o : PathOff) → Worse Up (Bounds.shifted_upper (with_lengths facts) p a o) (Bounds.shifted_upper facts p a o)
  shifted_mono p a o =
      worse_best Up int_max up_laws (Bounds.stored_upper (with_lengths facts) p a o) (greatest (Bounds.shifted_by (with_lengths facts) p a o) (with_lengths facts)) (Bounds.stored_upper facts p a o) (greatest (Bounds.shifted_by facts p a o) facts)
      (stored_upper_mono p a o) (worse_lengths facts Up int_max up_laws _ _ (shifted_one p a o) (shifted_extra p a o))

  upper_one : (p a : Path) (o : PathOff) (g f : Fact) → Covers g f → Worse Up (Bounds.upper_by (with_lengths facts) p a o f) (Bounds.upper_by facts p a o g)
  upper_one p a Nothing _ _ (upper r b (Plus q) c d h) = worse_when Up (Some (d +ℤ Bounds.lower_bound (with_lengths facts) q)) (Some (c +ℤ Bounds.lower_bound facts q)) (is_path r p && Bounds.are_same (with_lengths facts) b a) (is_path r p && Bounds.are_same facts b a) (with_path (is_path r p) b a) (λ t. let l = lower_mono q in omega (arith, ints))
  upper_one p a Nothing _ _ (upper r b (Minus q) c d h) = worse_when Up (Some (d -ℤ Bounds.upper_limit (with_lengths facts) q)) (Some (c -ℤ Bounds.upper_limit facts q)) (is_path r p && Bounds.are_same (with_lengths facts) b a) (is_path r p && Bounds.are_same facts b a) (with_path (is_path r p) b a) (λ t. let l = limit_mono q in omega (arith, ints))
  upper_one p a (Plus q) _ _ (sum t y z) = worse_when Up (Bounds.stored_upper (with_lengths facts) t a Nothing) (Bounds.stored_upper facts t a Nothing) (is_path y p && is_path z q) (is_path y p && is_path z q) (λ u. u) (λ u. stored_upper_mono t a Nothing)
  upper_one p a (Minus q) _ _ (sum t y z) = worse_when Up (Bounds.stored_upper (with_lengths facts) y a Nothing) (Bounds.stored_upper facts y a Nothing) (is_path t p && is_path z q) (is_path t p && is_path z q) (λ u. u) (λ u. stored_upper_mono y a Nothing)
  upper_one p a _ _ _ _ = tt

  upper_extra : (p a : Path) (o : PathOff) (q b : Path) → IsIn (IsLen q b) facts → Worse Up (Bounds.upper_by (with_lengths facts) p a o (Upper q b Nothing (negsuc 0))) (best_of int_max (Bounds.upper_by facts p a o) facts)
  upper_extra p a Nothing q b i = tt
  upper_extra p a (Plus r) q b i = tt
  upper_extra p a (Minus r) q b i = tt

  from_ends_mono : (p a : Path) (o : PathOff) → Worse Up (Bounds.upper_from_ends (with_lengths facts) p a o) (Bounds.upper_from_ends facts p a o)
  from_ends_mono p a Nothing = let l = length_low_mono a in let k = limit_mono p in omega (arith, ints)
  from_ends_mono p a (Plus q) =
      worse_best Up int_max up_laws
      (option_map (λ c. c -ℤ Bounds.upper_limit (with_lengths facts) q) (Bounds.shifted_upper (with_lengths facts) p a Nothing)) (option_map (λ c. c -ℤ Bounds.upper_limit (with_lengths facts) p) (Bounds.shifted_upper (with_lengths facts) q a Nothing))
      (option_map (λ c. c -ℤ Bounds.upper_limit facts q) (Bounds.shifted_upper facts p a Nothing)) (option_map (λ c. c -ℤ Bounds.upper_limit facts p) (Bounds.shifted_upper facts q a Nothing))
      (worse_map Up Up _ _ _ _ (λ x y h. let k = limit_mono q in omega (arith, ints)) (shifted_mono p a Nothing))
      (worse_map Up Up _ _ _ _ (λ x y h. let k = limit_mono p in omega (arith, ints)) (shifted_mono q a Nothing))
  from_ends_mono p a (Minus q) = worse_map Up Up _ _ _ _ (λ x y h. let k = lower_mono q in omega (arith, ints)) (shifted_mono p a Nothing)

  upper_mono : (p a : Path) (o : PathOff) → Worse Up (Bounds.upper_bound (with_lengths facts) p a o) (Bounds.upper_bound facts p a o)
  upper_mono p a o =
      worse_best Up int_max up_laws
      (Bounds.shifted_upper (with_lengths facts) p a o) (best int_max (Bounds.upper_from_ends (with_lengths facts) p a o) (greatest (Bounds.upper_by (with_lengths facts) p a o) (with_lengths facts)))
      (Bounds.shifted_upper facts p a o) (best int_max (Bounds.upper_from_ends facts p a o) (greatest (Bounds.upper_by facts p a o) facts))
      (shifted_mono p a o)
      (worse_best Up int_max up_laws
      (Bounds.upper_from_ends (with_lengths facts) p a o) (greatest (Bounds.upper_by (with_lengths facts) p a o) (with_lengths facts))
      (Bounds.upper_from_ends facts p a o) (greatest (Bounds.upper_by facts p a o) facts)
      (from_ends_mono p a o) (worse_lengths facts Up int_max up_laws _ _ (upper_one p a o) (upper_extra p a o)))

  less_mono : (p q : Path) → Bounds.less_bound facts p q ≤ℤ Bounds.less_bound (with_lengths facts) p q
  less_mono p q = let l = lower_mono q in let k = limit_mono p in at_most_down _ _ _ _ (omega (arith, ints)) (stored_less_mono p q)

with_more : (facts : List Fact) → Stronger (with_lengths facts) facts
with_more [] = stronger_none []
with_more (IsLen p a ∷ facts) =
    stronger_cons (IsLen p a) (IsLen p a) (Upper p a Nothing (negsuc 0) ∷ with_lengths facts) facts (covers_itself (IsLen p a))
    (record { met = λ f i. let x = (with_more facts).met f i in (x.0, inr x.1, x.2) })
with_more (Rng p l h ∷ facts) = stronger_cons (Rng p l h) (Rng p l h) (with_lengths facts) facts (covers_itself (Rng p l h)) (with_more facts)
with_more (LenRng p l h ∷ facts) = stronger_cons (LenRng p l h) (LenRng p l h) (with_lengths facts) facts (covers_itself (LenRng p l h)) (with_more facts)
with_more (Low p n ∷ facts) = stronger_cons (Low p n) (Low p n) (with_lengths facts) facts (covers_itself (Low p n)) (with_more facts)
with_more (Same c d ∷ facts) = stronger_cons (Same c d) (Same c d) (with_lengths facts) facts (covers_itself (Same c d)) (with_more facts)
with_more (Less p q n ∷ facts) = stronger_cons (Less p q n) (Less p q n) (with_lengths facts) facts (covers_itself (Less p q n)) (with_more facts)
with_more (Sum t y z ∷ facts) = stronger_cons (Sum t y z) (Sum t y z) (with_lengths facts) facts (covers_itself (Sum t y z)) (with_more facts)
with_more (Search p c ∷ facts) = stronger_cons (Search p c) (Search p c) (with_lengths facts) facts (covers_itself (Search p c)) (with_more facts)
with_more (Neg p c ∷ facts) = stronger_cons (Neg p c) (Neg p c) (with_lengths facts) facts (covers_itself (Neg p c)) (with_more facts)
with_more (Upper p c o n ∷ facts) = stronger_cons (Upper p c o n) (Upper p c o n) (with_lengths facts) facts (covers_itself (Upper p c o n)) (with_more facts)

pub same_with_lengths : (facts : List Fact) → ClosedAsItStands facts → SameBounds (with_lengths facts) facts
same_with_lengths facts closed = (
  bounds_no_weaker (with_lengths facts) facts (with_more facts),
  record {
    lower = lower_mono facts closed;
    limit = limit_mono facts closed;
    length_from = length_low_mono facts closed;
    length_to = length_high_mono facts closed;
    upper = λ p a o c e. better_some (Bounds.upper_bound (with_lengths facts) p a o) (Bounds.upper_bound facts p a o) c (upper_mono facts closed p a o) e;
    less = less_mono facts closed;
    same = are_same_mono facts closed;
  },
)
