-- `shifted_upper` goes over facts; it is the best of what goes over paths: the stored bound, that of each int q that p is below, and those at each
-- offset that is greater.
use Rattle.std.specs.Prelude.{◌≡◌, Bool, true, false, ◌&&◌, ℤ, pos, negsuc, ◌+ℤ◌, ◌-ℤ◌, ◌≤ℤ◌, List, [], ◌∷◌, Option, Some, None, refl}
use Rattle.std.specs.Int.{int_max}
use Rattle.std.proofs.Common.{arith, ◌⊎◌, inl, inr, sym, ap, subst, ⊎_elim}
use Rattle.std.proofs.lemmas.Bool.{and_parts, false≢true}
use Rattle.std.proofs.lemmas.Int.{ints, clamps, by_lt_z}
use Rattle.ix_core.specs.declared.fact.Path.{Path}
use Rattle.ix_core.specs.declared.fact.PathOff.{PathOff}
use Rattle.ix_core.specs.declared.fact.PathOff.TheVariants.{Nothing, Plus, Minus}
use Rattle.ix_core.specs.declared.fact.Fact.{Fact}
use Rattle.ix_core.specs.declared.fact.Fact.TheVariants.{Rng, LenRng, Low, Same, IsLen, Less, Sum, Search, Neg, Upper}
use Rattle.ix_facts.specs.Facts.{IsIn}
use Rattle.ix_facts.specs.Bounds
use Rattle.ix_facts.specs.Bounds.{is_path, is_offset, when, best, greatest}
use Rattle.ix_facts.specs.Laws.{Way, itself, greater, plus, minus}
use Rattle.ix_facts.proofs.Tests.{path_true}
use Rattle.ix_facts.proofs.Worse.{Up, up_laws, Worse, worse_left, worse_right, worse_in}
use Rattle.ix_facts.specs.PathOrder.{path_itself}

-- ---- the greatest is one of what the facts give

either : (a b : Option ℤ) (c : ℤ) → best int_max a b ≡ Some c → (a ≡ Some c) ⊎ (b ≡ Some c)
either None b c e = inr e
either (Some x) None c e = inl e
either (Some x) (Some y) c e =
    let i : int_max x y ≡ c = cc in
    by_lt_z y x (λ h. let j : x ≡ c = omega (arith, ints, clamps) in inl (ap Some j)) (λ h. let j : y ≡ c = omega (arith, ints, clamps) in inr (ap Some j))

attained : (by : Fact → Option ℤ) (c : ℤ) (facts : List Fact) → greatest by facts ≡ Some c → (f : Fact) × IsIn f facts × (by f ≡ Some c)
attained by c [] e = absurd cc
attained by c (f ∷ facts) e = ⊎_elim (λ x. (f, inl refl, x)) (λ x. let y = attained by c facts x in (y.0, inr y.1, y.2)) (either (by f) (greatest by facts) c e)

of_when : (t : Bool) (o : Option ℤ) (c : ℤ) → when t o ≡ Some c → (t ≡ true) × (o ≡ Some c)
of_when true o c e = (refl, e)
of_when false o c e = absurd cc

no_worse : (o : Option ℤ) → Worse Up o o
no_worse None = tt
no_worse (Some c) = omega (arith, ints)

module _ (facts : List Fact) (p a : Path) where
  in_shifted : (o : PathOff) (n : Option ℤ) (f : Fact) → IsIn f facts → Worse Up n (Bounds.shifted_by facts p a o f) → Worse Up n (Bounds.shifted_upper facts p a o)
  in_shifted o n f i w =
      worse_right Up int_max up_laws n (Bounds.stored_upper facts p a o) (greatest (Bounds.shifted_by facts p a o) facts)
      (worse_in Up int_max up_laws (Bounds.shifted_by facts p a o) n f facts i w)

  -- ---- a bound of q, which p is below

  greater_one : (q : Path) (o : PathOff) (c : ℤ) (f : Fact) → Bounds.stored_upper_by facts q a o f ≡ Some c → Worse Up (Bounds.through facts c (Bounds.stored_less facts p q)) (Bounds.shifted_by facts p a o f)
  greater_one q o c (Upper r b x d) e =
      let t = of_when (is_path r q && (Bounds.are_same facts b a && is_offset x o)) (Some d) c e in
      let both = and_parts (is_path r q) (Bounds.are_same facts b a && is_offset x o) t.0 in
      let more = and_parts (Bounds.are_same facts b a) (is_offset x o) both.1 in
      let i : r ≡ q = path_true r q both.0 in
      let j : d ≡ c = cc (t.1) in
      let here : Worse Up (Bounds.through facts c (Bounds.stored_less facts p q)) (Bounds.through facts d (Bounds.stored_less facts p r)) =
      subst (λ z. Worse Up (Bounds.through facts c (Bounds.stored_less facts p q)) (Bounds.through facts d (Bounds.stored_less facts p z))) (sym i)
      (subst (λ z. Worse Up (Bounds.through facts c (Bounds.stored_less facts p q)) (Bounds.through facts z (Bounds.stored_less facts p q))) (sym j) (no_worse (Bounds.through facts c (Bounds.stored_less facts p q)))) in
      rw (more.0, more.1) (worse_left Up int_max up_laws (Bounds.through facts c (Bounds.stored_less facts p q)) (Bounds.through facts d (Bounds.stored_less facts p r)) (when (is_path r p) (Bounds.offset_moved facts d x o)) here)
  greater_one q Nothing c (IsLen r b) e =
      let t = of_when (is_path r q && is_path b a) (Some (negsuc 0)) c e in
      let both = and_parts (is_path r q) (is_path b a) t.0 in
      let i : r ≡ q = path_true r q both.0 in
      let j : negsuc 0 ≡ c = cc (t.1) in
      rw (both.1)
      (subst (λ z. Worse Up (Bounds.through facts c (Bounds.stored_less facts p q)) (Bounds.through facts (negsuc 0) (Bounds.stored_less facts p z))) (sym i)
      (subst (λ z. Worse Up (Bounds.through facts c (Bounds.stored_less facts p q)) (Bounds.through facts z (Bounds.stored_less facts p q))) (sym j) (no_worse (Bounds.through facts c (Bounds.stored_less facts p q)))))
  greater_one q (Plus _) c (IsLen r b) e = absurd cc
  greater_one q (Minus _) c (IsLen r b) e = absurd cc
  greater_one q _ c (Rng _ _ _) e = absurd cc
  greater_one q _ c (LenRng _ _ _) e = absurd cc
  greater_one q _ c (Low _ _) e = absurd cc
  greater_one q _ c (Same _ _) e = absurd cc
  greater_one q _ c (Less _ _ _) e = absurd cc
  greater_one q _ c (Sum _ _ _) e = absurd cc
  greater_one q _ c (Search _ _) e = absurd cc
  greater_one q _ c (Neg _ _) e = absurd cc

  -- Where c is the stored bound of q and `p < q + d`, c - d + 1 is counted.
  pub of_greater : (q : Path) (o : PathOff) (c : ℤ) → Bounds.stored_upper facts q a o ≡ Some c → Worse Up (Bounds.through facts c (Bounds.stored_less facts p q)) (Bounds.shifted_upper facts p a o)
  of_greater q o c e =
      let x = attained (Bounds.stored_upper_by facts q a o) c facts e in
      in_shifted o (Bounds.through facts c (Bounds.stored_less facts p q)) x.0 x.1 (greater_one q o c x.0 x.2)

  -- ---- a bound at a greater offset

  impossible : (t u : Bool) (n c : ℤ) → when (t && (u && false)) (Some n) ≡ Some c → ⊥
  impossible t u n c e =
      let x = of_when (t && (u && false)) (Some n) c e in
      let y = and_parts t (u && false) x.0 in
      let z = and_parts u false y.1 in
      false≢true z.1

  plus_one : (r q : Path) (c : ℤ) (f : Fact) → Bounds.stored_upper_by facts p a (Plus q) f ≡ Some c → Worse Up (Bounds.through facts c (Bounds.stored_less facts r q)) (Bounds.shifted_by facts p a (Plus r) f)
  plus_one r q c (Upper x b (Plus y) d) e =
      let t = of_when (is_path x p && (Bounds.are_same facts b a && is_path y q)) (Some d) c e in
      let both = and_parts (is_path x p) (Bounds.are_same facts b a && is_path y q) t.0 in
      let more = and_parts (Bounds.are_same facts b a) (is_path y q) both.1 in
      let i : y ≡ q = path_true y q more.1 in
      let j : d ≡ c = cc (t.1) in
      let here : Worse Up (Bounds.through facts c (Bounds.stored_less facts r q)) (Bounds.through facts d (Bounds.stored_less facts r y)) =
      subst (λ z. Worse Up (Bounds.through facts c (Bounds.stored_less facts r q)) (Bounds.through facts d (Bounds.stored_less facts r z))) (sym i)
      (subst (λ z. Worse Up (Bounds.through facts c (Bounds.stored_less facts r q)) (Bounds.through facts z (Bounds.stored_less facts r q))) (sym j) (no_worse (Bounds.through facts c (Bounds.stored_less facts r q)))) in
      rw (more.0, both.0) (worse_right Up int_max up_laws (Bounds.through facts c (Bounds.stored_less facts r q)) (when (is_path y r) (Bounds.through facts d (Bounds.stored_less facts p x))) (Bounds.through facts d (Bounds.stored_less facts r y)) here)
  plus_one r q c (Upper x b Nothing d) e = absurd (impossible (is_path x p) (Bounds.are_same facts b a) d c e)
  plus_one r q c (Upper x b (Minus y) d) e = absurd (impossible (is_path x p) (Bounds.are_same facts b a) d c e)
  plus_one r q c (Rng _ _ _) e = absurd cc
  plus_one r q c (LenRng _ _ _) e = absurd cc
  plus_one r q c (Low _ _) e = absurd cc
  plus_one r q c (Same _ _) e = absurd cc
  plus_one r q c (IsLen _ _) e = absurd cc
  plus_one r q c (Less _ _ _) e = absurd cc
  plus_one r q c (Sum _ _ _) e = absurd cc
  plus_one r q c (Search _ _) e = absurd cc
  plus_one r q c (Neg _ _) e = absurd cc

  -- Where c is the stored bound at the offset +q and `r < q + d`, c - d + 1 is counted at +r.
  pub of_plus : (r q : Path) (c : ℤ) → Bounds.stored_upper facts p a (Plus q) ≡ Some c → Worse Up (Bounds.through facts c (Bounds.stored_less facts r q)) (Bounds.shifted_upper facts p a (Plus r))
  of_plus r q c e =
      let x = attained (Bounds.stored_upper_by facts p a (Plus q)) c facts e in
      in_shifted (Plus r) (Bounds.through facts c (Bounds.stored_less facts r q)) x.0 x.1 (plus_one r q c x.0 x.2)

  minus_one : (r q : Path) (c : ℤ) (f : Fact) → Bounds.stored_upper_by facts p a (Minus q) f ≡ Some c → Worse Up (Bounds.through facts c (Bounds.stored_less facts q r)) (Bounds.shifted_by facts p a (Minus r) f)
  minus_one r q c (Upper x b (Minus y) d) e =
      let t = of_when (is_path x p && (Bounds.are_same facts b a && is_path y q)) (Some d) c e in
      let both = and_parts (is_path x p) (Bounds.are_same facts b a && is_path y q) t.0 in
      let more = and_parts (Bounds.are_same facts b a) (is_path y q) both.1 in
      let i : y ≡ q = path_true y q more.1 in
      let j : d ≡ c = cc (t.1) in
      let here : Worse Up (Bounds.through facts c (Bounds.stored_less facts q r)) (Bounds.through facts d (Bounds.stored_less facts y r)) =
      subst (λ z. Worse Up (Bounds.through facts c (Bounds.stored_less facts q r)) (Bounds.through facts d (Bounds.stored_less facts z r))) (sym i)
      (subst (λ z. Worse Up (Bounds.through facts c (Bounds.stored_less facts q r)) (Bounds.through facts z (Bounds.stored_less facts q r))) (sym j) (no_worse (Bounds.through facts c (Bounds.stored_less facts q r)))) in
      rw (more.0, both.0) (worse_right Up int_max up_laws (Bounds.through facts c (Bounds.stored_less facts q r)) (when (is_path y r) (Bounds.through facts d (Bounds.stored_less facts p x))) (Bounds.through facts d (Bounds.stored_less facts y r)) here)
  minus_one r q c (Upper x b Nothing d) e = absurd (impossible (is_path x p) (Bounds.are_same facts b a) d c e)
  minus_one r q c (Upper x b (Plus y) d) e = absurd (impossible (is_path x p) (Bounds.are_same facts b a) d c e)
  minus_one r q c (Rng _ _ _) e = absurd cc
  minus_one r q c (LenRng _ _ _) e = absurd cc
  minus_one r q c (Low _ _) e = absurd cc
  minus_one r q c (Same _ _) e = absurd cc
  minus_one r q c (IsLen _ _) e = absurd cc
  minus_one r q c (Less _ _ _) e = absurd cc
  minus_one r q c (Sum _ _ _) e = absurd cc
  minus_one r q c (Search _ _) e = absurd cc
  minus_one r q c (Neg _ _) e = absurd cc

  -- Where c is the stored bound at the offset -q and `q < r + d`, c - d + 1 is counted at -r.
  pub of_minus : (r q : Path) (c : ℤ) → Bounds.stored_upper facts p a (Minus q) ≡ Some c → Worse Up (Bounds.through facts c (Bounds.stored_less facts q r)) (Bounds.shifted_upper facts p a (Minus r))
  of_minus r q c e =
      let x = attained (Bounds.stored_upper_by facts p a (Minus q)) c facts e in
      in_shifted (Minus r) (Bounds.through facts c (Bounds.stored_less facts q r)) x.0 x.1 (minus_one r q c x.0 x.2)

  -- ---- and nothing else is counted

  of_map : (c n : ℤ) (o : Option ℤ) → Bounds.through facts c o ≡ Some n → (d : ℤ) × (o ≡ Some d) × (n ≡ c -ℤ d +ℤ pos 1)
  of_map c n None e = absurd cc
  of_map c n (Some d) e = let i : c -ℤ d +ℤ pos 1 ≡ n = cc in (d, refl, sym i)

  some_above : (d : ℤ) (o : Option ℤ) → Worse Up (Some d) o → (c : ℤ) × (o ≡ Some c) × (d ≤ℤ c)
  some_above d None w = absurd w
  some_above d (Some c) w = (c, refl, w)

  -- a fact gives its own bound to the stored one of its path
  stored_here : (r b : Path) (x o : PathOff) (d : ℤ) → IsIn (Upper r b x d) facts → Bounds.are_same facts b a ≡ true → is_offset x o ≡ true → (c : ℤ) × (Bounds.stored_upper facts r a o ≡ Some c) × (d ≤ℤ c)
  stored_here r b x o d i t u =
      let here : Worse Up (Some d) (Bounds.stored_upper_by facts r a o (Upper r b x d)) = rw (path_itself r, t, u) (no_worse (Some d)) in
      some_above d (Bounds.stored_upper facts r a o) (worse_in Up int_max up_laws (Bounds.stored_upper_by facts r a o) (Some d) (Upper r b x d) facts i here)

  moved_way : (r b : Path) (x o : PathOff) (d n : ℤ) → IsIn (Upper r b x d) facts → Bounds.are_same facts b a ≡ true → is_path r p ≡ true → Bounds.offset_moved facts d x o ≡ Some n → Way facts p a o n
  moved_way r b (Plus q) (Plus s) d n i t u e =
      let z = of_map d n (Bounds.stored_less facts s q) e in
      let k = stored_here r b (Plus q) (Plus q) d i t (path_itself q) in
      let m = path_true r p u in
      plus s q k.0 z.0 refl (subst (λ y. Bounds.stored_upper facts y a (Plus q) ≡ Some k.0) m k.1) z.1 (omega (arith, ints, z.2, k.2))
  moved_way r b (Minus q) (Minus s) d n i t u e =
      let z = of_map d n (Bounds.stored_less facts q s) e in
      let k = stored_here r b (Minus q) (Minus q) d i t (path_itself q) in
      let m = path_true r p u in
      minus s q k.0 z.0 refl (subst (λ y. Bounds.stored_upper facts y a (Minus q) ≡ Some k.0) m k.1) z.1 (omega (arith, ints, z.2, k.2))
  moved_way r b Nothing _ d n i t u e = absurd cc
  moved_way r b (Plus q) Nothing d n i t u e = absurd cc
  moved_way r b (Plus q) (Minus s) d n i t u e = absurd cc
  moved_way r b (Minus q) Nothing d n i t u e = absurd cc
  moved_way r b (Minus q) (Plus s) d n i t u e = absurd cc

  fact_way : (o : PathOff) (n : ℤ) (f : Fact) → IsIn f facts → Bounds.shifted_by facts p a o f ≡ Some n → Way facts p a o n
  fact_way o n (Upper r b x d) i e =
      let t = of_when (Bounds.are_same facts b a) (best int_max (when (is_offset x o) (Bounds.through facts d (Bounds.stored_less facts p r))) (when (is_path r p) (Bounds.offset_moved facts d x o))) n e in
      ⊎_elim
      (λ y.
      let u = of_when (is_offset x o) (Bounds.through facts d (Bounds.stored_less facts p r)) n y in
      let z = of_map d n (Bounds.stored_less facts p r) u.1 in
      let k = stored_here r b x o d i t.0 u.0 in
      greater r k.0 z.0 k.1 z.1 (omega (arith, ints, z.2, k.2)))
      (λ y. let u = of_when (is_path r p) (Bounds.offset_moved facts d x o) n y in moved_way r b x o d n i t.0 u.0 u.1)
      (either (when (is_offset x o) (Bounds.through facts d (Bounds.stored_less facts p r))) (when (is_path r p) (Bounds.offset_moved facts d x o)) n t.1)
  fact_way Nothing n (IsLen r b) i e =
      let t = of_when (is_path b a) (Bounds.through facts (negsuc 0) (Bounds.stored_less facts p r)) n e in
      let z = of_map (negsuc 0) n (Bounds.stored_less facts p r) t.1 in
      let here : Worse Up (Some (negsuc 0)) (Bounds.stored_upper_by facts r a Nothing (IsLen r b)) = rw (path_itself r, t.0) (no_worse (Some (negsuc 0))) in
      let k = some_above (negsuc 0) (Bounds.stored_upper facts r a Nothing) (worse_in Up int_max up_laws (Bounds.stored_upper_by facts r a Nothing) (Some (negsuc 0)) (IsLen r b) facts i here) in
      greater r k.0 z.0 k.1 z.1 (omega (arith, ints, z.2, k.2))
  fact_way (Plus _) n (IsLen r b) i e = absurd cc
  fact_way (Minus _) n (IsLen r b) i e = absurd cc
  fact_way _ n (Rng _ _ _) i e = absurd cc
  fact_way _ n (LenRng _ _ _) i e = absurd cc
  fact_way _ n (Low _ _) i e = absurd cc
  fact_way _ n (Same _ _) i e = absurd cc
  fact_way _ n (Less _ _ _) i e = absurd cc
  fact_way _ n (Sum _ _ _) i e = absurd cc
  fact_way _ n (Search _ _) i e = absurd cc
  fact_way _ n (Neg _ _) i e = absurd cc

  -- The shifted bound is at most one of the ways.
  pub shifted_way : (o : PathOff) (n : ℤ) → Bounds.shifted_upper facts p a o ≡ Some n → Way facts p a o n
  shifted_way o n e =
      ⊎_elim
      (λ x. itself n x (omega (arith, ints)))
      (λ x. let y = attained (Bounds.shifted_by facts p a o) n facts x in fact_way o n y.0 y.1 y.2)
      (either (Bounds.stored_upper facts p a o) (greatest (Bounds.shifted_by facts p a o) facts) n e)

  -- the bound of each way is counted
  above : (n m : ℤ) (o : Option ℤ) → n ≤ℤ m → Worse Up (Some m) o → (c : ℤ) × (o ≡ Some c) × (n ≤ℤ c)
  above n m None h w = absurd w
  above n m (Some c) h w = (c, refl, omega (arith, ints))

  through_some : (c d : ℤ) (l : Option ℤ) → l ≡ Some d → Bounds.through facts c l ≡ Some (c -ℤ d +ℤ pos 1)
  through_some c d None e = absurd cc
  through_some c d (Some x) e = let i : x ≡ d = cc in ap (λ z. Some (c -ℤ z +ℤ pos 1)) i

  pub way_counts : (o : PathOff) (n : ℤ) → Way facts p a o n → (m : ℤ) × (Bounds.shifted_upper facts p a o ≡ Some m) × (n ≤ℤ m)
  way_counts o n (itself c e h) =
      above n c (Bounds.shifted_upper facts p a o) h
      (worse_left Up int_max up_laws (Some c) (Bounds.stored_upper facts p a o) (greatest (Bounds.shifted_by facts p a o) facts) (subst (Worse Up (Some c)) (sym e) (no_worse (Some c))))
  way_counts o n (greater q c d e f h) =
      above n (c -ℤ d +ℤ pos 1) (Bounds.shifted_upper facts p a o) h
      (subst (λ z. Worse Up z (Bounds.shifted_upper facts p a o)) (through_some c d (Bounds.stored_less facts p q) f) (of_greater q o c e))
  way_counts o n (plus r q c d i e f h) =
      above n (c -ℤ d +ℤ pos 1) (Bounds.shifted_upper facts p a o) h
      (subst (λ y. Worse Up (Some (c -ℤ d +ℤ pos 1)) (Bounds.shifted_upper facts p a y)) (sym i)
      (subst (λ z. Worse Up z (Bounds.shifted_upper facts p a (Plus r))) (through_some c d (Bounds.stored_less facts r q) f) (of_plus r q c e)))
  way_counts o n (minus r q c d i e f h) =
      above n (c -ℤ d +ℤ pos 1) (Bounds.shifted_upper facts p a o) h
      (subst (λ y. Worse Up (Some (c -ℤ d +ℤ pos 1)) (Bounds.shifted_upper facts p a y)) (sym i)
      (subst (λ z. Worse Up z (Bounds.shifted_upper facts p a (Minus r))) (through_some c d (Bounds.stored_less facts q r) f) (of_minus r q c e)))
