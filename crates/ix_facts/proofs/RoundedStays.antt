-- A closed list stays closed where its constants move to landmarks: ints with 0 among them.
use Rattle.std.specs.Prelude.{◌≡◌, ◌⊎◌, ℕ, ℤ, pos, ◌≤ℤ◌, int_le, List, [], ◌∷◌, Option, Some, None, refl}
use Rattle.std.specs.Int.{int_min, int_max}
use Rattle.std.proofs.Common.{arith, inl, inr, sym, ◌∙◌, subst, ⊎_elim}
use Rattle.std.proofs.lemmas.Int.{ints, clamps}
use Rattle.ix_num.specs.Ints.{greatest_int, IsInt}
use Rattle.ix_core.specs.declared.fact.Path.{Path}
use Rattle.ix_core.specs.declared.fact.PathOff.TheVariants.{Plus}
use Rattle.ix_core.specs.declared.fact.Fact.{Fact}
use Rattle.ix_core.specs.declared.fact.Fact.TheVariants.{Rng, LenRng, Low, Same, IsLen, Sum, Search, Neg, Upper}
use Rattle.ix_facts.specs.Bounds.{when}
use Rattle.ix_facts.specs.Facts.{IsIn, Covers, orders, rng, len_rng}
use Rattle.ix_facts.specs.Closure.{Follows, given, weaker, any_int, any_size, met, len_met, class, class_one, turned, joined, both_len, len_along, is_len_along, search_along, neg_along, neg_search, search_neg, sum_turned, upper_turned, Default, Said, SaysAll, Closed}
use Rattle.ix_facts.specs.Exact.{each}
use Rattle.ix_facts.specs.Forget.{without}
use Rattle.ix_facts.specs.Round.{mark_below, mark_above, if_both, rounded_fact, is_beyond, rounded, IsAmong, AreLandmarks}
use Rattle.ix_facts.proofs.ClosedStays.{without_closed}
use Rattle.ix_facts.proofs.ClosureLaws.{said_follows}
use Rattle.ix_facts.proofs.FactLists.{covers_itself, covers_covers, in_left, from_in_orders, in_in_orders}
use Rattle.ix_facts.proofs.Gives.{Gives, max_chooses, min_chooses, gives_when, gives_best}
use Rattle.ix_facts.proofs.RoundLaws.{below_mono, above_mono, fact_weaker}
use Rattle.ix_facts.proofs.SaidLaws.{each_said, each_says, from_each, said_itself, said_turned, said_weaker}
use Rattle.ix_facts.proofs.SaidRules.{only, round_by_fact}
use Rattle.ix_facts.proofs.SaidTables.{system_round_weaker}
use Rattle.ix_facts.proofs.Tests.{at_most_is}
use Rattle.ix_facts.proofs.Worse.{Up, Down, up_laws, Worse, worse_left, worse_right}

-- ---- marks

below_among : (all marks : List ℤ) (n : ℤ) → ((m : ℤ) → IsAmong m marks → IsAmong m all) → Gives (mark_below marks n) (λ m. IsAmong m all)
below_among all [] n sub = tt
below_among all (mark ∷ marks) n sub =
    gives_best (λ m. IsAmong m all) int_max max_chooses (when (int_le mark n) (Some mark)) (mark_below marks n)
    (gives_when (λ m. IsAmong m all) (Some mark) (int_le mark n) (λ t. sub mark (inl refl))) (below_among all marks n (λ m i. sub m (inr i)))

above_among : (all marks : List ℤ) (n : ℤ) → ((m : ℤ) → IsAmong m marks → IsAmong m all) → Gives (mark_above marks n) (λ m. IsAmong m all)
above_among all [] n sub = tt
above_among all (mark ∷ marks) n sub =
    gives_best (λ m. IsAmong m all) int_min min_chooses (when (int_le n mark) (Some mark)) (mark_above marks n)
    (gives_when (λ m. IsAmong m all) (Some mark) (int_le n mark) (λ t. sub mark (inl refl))) (above_among all marks n (λ m i. sub m (inr i)))

-- a number from 0 on moves to a mark from 0 on
zero_below : (marks : List ℤ) (n : ℤ) → IsAmong (pos 0) marks → pos 0 ≤ℤ n → Worse Up (Some (pos 0)) (mark_below marks n)
zero_below [] n i h = absurd i
zero_below (mark ∷ marks) n i h =
    ⊎_elim
    (λ e.
    let here : Worse Up (Some (pos 0)) (when (int_le (pos 0) n) (Some (pos 0))) = rw (at_most_is (pos 0) n h) (omega (arith, ints)) in
    worse_left Up int_max up_laws (Some (pos 0)) (when (int_le mark n) (Some mark)) (mark_below marks n) (subst (λ m. Worse Up (Some (pos 0)) (when (int_le m n) (Some m))) e here))
    (λ j. worse_right Up int_max up_laws (Some (pos 0)) (when (int_le mark n) (Some mark)) (mark_below marks n) (zero_below marks n j h))
    i

given_at : (P : ℤ → Type 0) (o : Option ℤ) (m : ℤ) → o ≡ Some m → Gives o P → P m
given_at P o m e g = subst (λ x. Gives x P) e g

worse_at : (R : ℤ → ℤ → Type 0) (a b : Option ℤ) (x y : ℤ) → a ≡ Some x → b ≡ Some y → Worse R a b → R x y
worse_at R a b x y e d w = subst (λ z. Worse R (Some x) z) d (subst (λ z. Worse R z b) e w)

worse_some : (R : ℤ → ℤ → Type 0) (a b : Option ℤ) (x : ℤ) → a ≡ Some x → Worse R a b → (y : ℤ) × (b ≡ Some y)
worse_some R None b x e w = absurd cc
worse_some R (Some z) None x e w = absurd w
worse_some R (Some z) (Some y) x e w = (y, refl)

both_in : (make : ℤ → ℤ → Fact) (a b : Option ℤ) (l h : ℤ) → a ≡ Some l → b ≡ Some h → IsIn (make l h) (if_both make a b)
both_in make a b l h e d = rw (e, d) (inl refl)

in_both : (make : ℤ → ℤ → Fact) (a b : Option ℤ) (x : Fact) → IsIn x (if_both make a b) → (l : ℤ) × (h : ℤ) × (a ≡ Some l) × (b ≡ Some h) × (x ≡ make l h)
in_both make None b x i = absurd i
in_both make (Some l) None x i = absurd i
in_both make (Some l) (Some h) x i = (l, h, refl, refl, only (make l h) x i)

rng_form : (g : Fact) (p : Path) (l h : ℤ) → Covers g (Rng p l h) → (m : ℤ) × (k : ℤ) × (g ≡ Rng p m k) × (l ≤ℤ m) × (k ≤ℤ h)
rng_form _ p l h (rng _ m k _ _ x y) = (m, k, refl, x, y)

len_form : (g : Fact) (p : Path) (l h : ℤ) → Covers g (LenRng p l h) → (m : ℤ) × (k : ℤ) × (g ≡ LenRng p m k) × (l ≤ℤ m) × (k ≤ℤ h)
len_form _ p l h (len_rng _ m k _ _ x y) = (m, k, refl, x, y)

module _ (marks : List ℤ) (are_ints : (n : ℤ) → IsAmong n marks → IsInt n) (zero : IsAmong (pos 0) marks) (facts : List Fact) (closed : Closed facts) where
  moved : List Fact
  moved = each (rounded_fact marks) facts

  whole : (f : Fact) → Said moved f → Follows facts f
  unfolding moved
  whole f said = said_follows facts f (system_round_weaker marks facts f said)

  one_says : (g : Fact) → Said facts g → SaysAll facts (g ∷ [])
  one_says g said = each_said facts (g ∷ []) (λ x i. let y = from_in_orders x (g ∷ []) i in said_turned facts g x (subst (λ z. IsIn x (orders z)) (only g y.0 y.1) y.2) said)

  -- what the facts say, moved
  round_said : (g x : Fact) → Said facts g → IsIn x (rounded_fact marks g) → Said moved x
  unfolding moved
  round_said g x said i =
      each_says (rounded_fact marks) (round_by_fact marks) facts (g ∷ []) (one_says g said) x (said_itself (each (rounded_fact marks) (g ∷ [])) x (in_left x (rounded_fact marks g) [] i))

  -- a fact without constants that follows by a rule
  by_rule : (f : Fact) → rounded_fact marks f ≡ f ∷ [] → Follows facts f → Said moved f
  by_rule f e r = round_said f f (closed f r) (subst (IsIn f) (sym e) (inl refl))

  -- the fact of the list that a fact that is said was moved from
  source : (f : Fact) → Said moved f → Default f ⊎ ((y : Fact) × (x : Fact) × Said facts y × IsIn x (rounded_fact marks y) × Covers x f)
  unfolding moved
  source f said =
      ⊎_elim
      (λ d. inl d)
      (λ z.
      let u = from_in_orders z.0 (each (rounded_fact marks) facts) z.1 in
      let v = from_each (rounded_fact marks) u.0 facts u.1 in
      let y = (round_by_fact marks).from v.0 u.0 z.0 v.2 u.2 in
      let told = (round_by_fact marks).default v.0 u.0 v.2 u.3 in
      inr (y.0, z.0, inr (y.0, in_in_orders y.0 v.0 facts v.1 y.1 told, covers_itself y.0), y.2, z.2))
      said

  -- a range that is said: the ends that it was moved from and to
  record Moved (make : ℤ → ℤ → Fact) (l h : ℤ) : Type 0 where
    low : ℤ
    high : ℤ
    low_mark : ℤ
    high_mark : ℤ
    said : Said facts (make low high)
    below : mark_below marks low ≡ Some low_mark
    above : mark_above marks high ≡ Some high_mark
    from : l ≤ℤ low_mark
    to : high_mark ≤ℤ h

  int_mark_below : (n m : ℤ) → mark_below marks n ≡ Some m → IsInt m
  int_mark_below n m e = are_ints m (given_at (λ x. IsAmong x marks) (mark_below marks n) m e (below_among marks marks n (λ x i. i)))

  int_mark_above : (n m : ℤ) → mark_above marks n ≡ Some m → IsInt m
  int_mark_above n m e = are_ints m (given_at (λ x. IsAmong x marks) (mark_above marks n) m e (above_among marks marks n (λ x i. i)))

  rng_source : (p : Path) (l h : ℤ) → Said moved (Rng p l h) → Default (Rng p l h) ⊎ Moved (Rng p) l h
  rng_source p l h said =
      ⊎_elim
      (λ d. inl d)
      (λ z.
      let w = (fact_weaker marks z.0).met z.1 z.3 in
      let covers = covers_covers z.0 z.1 (Rng p l h) (subst (λ g. Covers g z.1) (only z.0 w.0 w.1) w.2) z.4 in
      let f = rng_form z.0 p l h covers in
      let i = in_both (Rng p) (mark_below marks f.0) (mark_above marks f.1) z.1 (subst (λ g. IsIn z.1 (rounded_fact marks g)) f.2 z.3) in
      let c = rng_form z.1 p l h z.4 in
      let e : Rng p c.0 c.1 ≡ Rng p i.0 i.1 = sym c.2 ∙ i.4 in
      let a : c.0 ≡ i.0 = cc in
      let b : c.1 ≡ i.1 = cc in
      inr (record { low = f.0; high = f.1; low_mark = i.0; high_mark = i.1; said = subst (Said facts) f.2 z.2; below = i.2; above = i.3; from = subst (λ n. l ≤ℤ n) a c.3; to = subst (λ n. n ≤ℤ h) b c.4 }))
      (source (Rng p l h) said)

  -- a range of the facts, moved, is said
  rng_moved : (p : Path) (l h n w : ℤ) → Said facts (Rng p l h) → mark_below marks l ≡ Some n → mark_above marks h ≡ Some w → Said moved (Rng p n w)
  rng_moved p l h n w said e d = round_said (Rng p l h) (Rng p n w) said (both_in (Rng p) (mark_below marks l) (mark_above marks h) n w e d)

  -- two ranges met, where both were moved
  rng_met : (p : Path) (l h m k : ℤ) → Moved (Rng p) l h → Moved (Rng p) m k → Said moved (Rng p (int_max l m) (int_min h k))
  rng_met p l h m k x y =
      let top = int_max x.low y.low in
      let end = int_min x.high y.high in
      let together = closed (Rng p top end) (met p x.low x.high y.low y.high (said_follows facts (Rng p x.low x.high) x.said) (said_follows facts (Rng p y.low y.high) y.said)) in
      let left = below_mono marks x.low top (omega (arith, ints, clamps)) in
      let right = below_mono marks y.low top (omega (arith, ints, clamps)) in
      let upper_left = above_mono marks end x.high (omega (arith, ints, clamps)) in
      let upper_right = above_mono marks end y.high (omega (arith, ints, clamps)) in
      let n = worse_some Up (mark_below marks x.low) (mark_below marks top) x.low_mark x.below left in
      let w = worse_some Down (mark_above marks x.high) (mark_above marks end) x.high_mark x.above upper_left in
      let a = worse_at Up (mark_below marks x.low) (mark_below marks top) x.low_mark n.0 x.below n.1 left in
      let b = worse_at Up (mark_below marks y.low) (mark_below marks top) y.low_mark n.0 y.below n.1 right in
      let c = worse_at Down (mark_above marks x.high) (mark_above marks end) x.high_mark w.0 x.above w.1 upper_left in
      let d = worse_at Down (mark_above marks y.high) (mark_above marks end) y.high_mark w.0 y.above w.1 upper_right in
      let f = x.from in
      let g = y.from in
      let t = x.to in
      let u = y.to in
      said_weaker moved (Rng p n.0 w.0) (Rng p (int_max l m) (int_min h k)) (rng p n.0 w.0 (int_max l m) (int_min h k) (omega (arith, ints, clamps, a, b, f, g)) (omega (arith, ints, clamps, c, d, t, u)))
      (rng_moved p top end n.0 w.0 together n.1 w.1)

  len_source : (p : Path) (l h : ℤ) → Said moved (LenRng p l h) → Default (LenRng p l h) ⊎ Moved (LenRng p) l h
  len_source p l h said =
      ⊎_elim
      (λ d. inl d)
      (λ z.
      let w = (fact_weaker marks z.0).met z.1 z.3 in
      let covers = covers_covers z.0 z.1 (LenRng p l h) (subst (λ g. Covers g z.1) (only z.0 w.0 w.1) w.2) z.4 in
      let f = len_form z.0 p l h covers in
      let i = in_both (LenRng p) (mark_below marks f.0) (mark_above marks f.1) z.1 (subst (λ g. IsIn z.1 (rounded_fact marks g)) f.2 z.3) in
      let c = len_form z.1 p l h z.4 in
      let e : LenRng p c.0 c.1 ≡ LenRng p i.0 i.1 = sym c.2 ∙ i.4 in
      let a : c.0 ≡ i.0 = cc in
      let b : c.1 ≡ i.1 = cc in
      inr (record { low = f.0; high = f.1; low_mark = i.0; high_mark = i.1; said = subst (Said facts) f.2 z.2; below = i.2; above = i.3; from = subst (λ n. l ≤ℤ n) a c.3; to = subst (λ n. n ≤ℤ h) b c.4 }))
      (source (LenRng p l h) said)

  -- a range of the facts, moved, is said
  len_moved : (p : Path) (l h n w : ℤ) → Said facts (LenRng p l h) → mark_below marks l ≡ Some n → mark_above marks h ≡ Some w → Said moved (LenRng p n w)
  len_moved p l h n w said e d = round_said (LenRng p l h) (LenRng p n w) said (both_in (LenRng p) (mark_below marks l) (mark_above marks h) n w e d)

  -- two ranges met, where both were moved
  len_both : (p : Path) (l h m k : ℤ) → Moved (LenRng p) l h → Moved (LenRng p) m k → Said moved (LenRng p (int_max l m) (int_min h k))
  len_both p l h m k x y =
      let top = int_max x.low y.low in
      let end = int_min x.high y.high in
      let together = closed (LenRng p top end) (len_met p x.low x.high y.low y.high (said_follows facts (LenRng p x.low x.high) x.said) (said_follows facts (LenRng p y.low y.high) y.said)) in
      let left = below_mono marks x.low top (omega (arith, ints, clamps)) in
      let right = below_mono marks y.low top (omega (arith, ints, clamps)) in
      let upper_left = above_mono marks end x.high (omega (arith, ints, clamps)) in
      let upper_right = above_mono marks end y.high (omega (arith, ints, clamps)) in
      let n = worse_some Up (mark_below marks x.low) (mark_below marks top) x.low_mark x.below left in
      let w = worse_some Down (mark_above marks x.high) (mark_above marks end) x.high_mark x.above upper_left in
      let a = worse_at Up (mark_below marks x.low) (mark_below marks top) x.low_mark n.0 x.below n.1 left in
      let b = worse_at Up (mark_below marks y.low) (mark_below marks top) y.low_mark n.0 y.below n.1 right in
      let c = worse_at Down (mark_above marks x.high) (mark_above marks end) x.high_mark w.0 x.above w.1 upper_left in
      let d = worse_at Down (mark_above marks y.high) (mark_above marks end) y.high_mark w.0 y.above w.1 upper_right in
      let f = x.from in
      let g = y.from in
      let t = x.to in
      let u = y.to in
      said_weaker moved (LenRng p n.0 w.0) (LenRng p (int_max l m) (int_min h k)) (len_rng p n.0 w.0 (int_max l m) (int_min h k) (omega (arith, ints, clamps, a, b, f, g)) (omega (arith, ints, clamps, c, d, t, u)))
      (len_moved p top end n.0 w.0 together n.1 w.1)

  -- a range met with one that is said of every path
  rng_default : (p : Path) (l h m k : ℤ) → Default (Rng p l h) → Moved (Rng p) m k → Said moved (Rng p (int_max l m) (int_min h k))
  rng_default p l h m k d y =
      let a = (int_mark_below y.low y.low_mark y.below).from in
      let b = (int_mark_above y.high y.high_mark y.above).to in
      let f = y.from in
      let t = y.to in
      let x = d.0 in
      let z = d.1 in
      said_weaker moved (Rng p y.low_mark y.high_mark) (Rng p (int_max l m) (int_min h k)) (rng p y.low_mark y.high_mark (int_max l m) (int_min h k) (omega (arith, ints, clamps, a, f, x)) (omega (arith, ints, clamps, b, t, z)))
      (rng_moved p y.low y.high y.low_mark y.high_mark y.said y.below y.above)

  -- of lengths, which are from 0 on
  len_default : (p : Path) (l h m k : ℤ) → Default (LenRng p l h) → Moved (LenRng p) m k → Said moved (LenRng p (int_max l m) (int_min h k))
  len_default p l h m k d y =
      let top = int_max (pos 0) y.low in
      let end = int_min greatest_int y.high in
      let together = closed (LenRng p top end) (len_met p (pos 0) greatest_int y.low y.high (any_size p) (said_follows facts (LenRng p y.low y.high) y.said)) in
      let right = below_mono marks y.low top (omega (arith, ints, clamps)) in
      let upper_right = above_mono marks end y.high (omega (arith, ints, clamps)) in
      let n = worse_some Up (mark_below marks y.low) (mark_below marks top) y.low_mark y.below right in
      let w = worse_some Down (mark_above marks y.high) (mark_above marks end) y.high_mark y.above upper_right in
      let a = worse_at Up (mark_below marks y.low) (mark_below marks top) y.low_mark n.0 y.below n.1 right in
      let b = worse_at Up (Some (pos 0)) (mark_below marks top) (pos 0) n.0 refl n.1 (zero_below marks top zero (omega (arith, ints, clamps))) in
      let c = worse_at Down (mark_above marks y.high) (mark_above marks end) y.high_mark w.0 y.above w.1 upper_right in
      let e = (int_mark_above end w.0 w.1).to in
      let f = y.from in
      let t = y.to in
      let x = d.0 in
      let z = d.1 in
      said_weaker moved (LenRng p n.0 w.0) (LenRng p (int_max l m) (int_min h k)) (len_rng p n.0 w.0 (int_max l m) (int_min h k) (omega (arith, ints, clamps, a, b, f, x)) (omega (arith, ints, clamps, c, e, t, z)))
      (len_moved p top end n.0 w.0 together n.1 w.1)

  turned_ends : (make : ℤ → ℤ → Fact) (l h m k : ℤ) → Said moved (make (int_max m l) (int_min k h)) → Said moved (make (int_max l m) (int_min h k))
  turned_ends make l h m k said =
      let a : int_max m l ≡ int_max l m = omega (arith, ints, clamps) in
      let b : int_min k h ≡ int_min h k = omega (arith, ints, clamps) in
      subst (λ n. Said moved (make (int_max l m) n)) b (subst (λ n. Said moved (make n (int_min k h))) a said)

  stays : (f : Fact) → Follows moved f → Said moved f
  unfolding moved
  stays _ (given f i) = said_itself (each (rounded_fact marks) facts) f i
  stays _ (weaker g f c r) = said_weaker (each (rounded_fact marks) facts) g f c (stays g r)
  stays _ (any_int p) = inl (omega (arith, ints), omega (arith, ints))
  stays _ (any_size a) = inl (omega (arith, ints), omega (arith, ints))
  stays _ (met p l h m k r s) =
      ⊎_elim
      (λ d.
      ⊎_elim
      (λ e. inl (omega (arith, ints, clamps, d.0, d.1, e.0, e.1), omega (arith, ints, clamps, d.0, d.1, e.0, e.1)))
      (λ y. rng_default p l h m k d y)
      (rng_source p m k (stays (Rng p m k) s)))
      (λ x. ⊎_elim (λ e. turned_ends (Rng p) l h m k (rng_default p m k l h e x)) (λ y. rng_met p l h m k x y) (rng_source p m k (stays (Rng p m k) s)))
      (rng_source p l h (stays (Rng p l h) r))
  stays _ (len_met p l h m k r s) =
      ⊎_elim
      (λ d.
      ⊎_elim
      (λ e. inl (omega (arith, ints, clamps, d.0, d.1, e.0, e.1), omega (arith, ints, clamps, d.0, d.1, e.0, e.1)))
      (λ y. len_default p l h m k d y)
      (len_source p m k (stays (LenRng p m k) s)))
      (λ x. ⊎_elim (λ e. turned_ends (LenRng p) l h m k (len_default p m k l h e x)) (λ y. len_both p l h m k x y) (len_source p m k (stays (LenRng p m k) s)))
      (len_source p l h (stays (LenRng p l h) r))
  stays _ (class p l h r x y) = by_rule (Low p l) refl (class p l h (whole (Rng p l h) (stays (Rng p l h) r)) x y)
  stays _ (class_one p l h r x) = by_rule (Low p (pos 1)) refl (class_one p l h (whole (Rng p l h) (stays (Rng p l h) r)) x)
  stays _ (turned a b r) = by_rule (Same b a) refl (turned a b (whole (Same a b) (stays (Same a b) r)))
  stays _ (joined a b c r s) = by_rule (Same a c) refl (joined a b c (whole (Same a b) (stays (Same a b) r)) (whole (Same b c) (stays (Same b c) s)))
  stays _ (both_len p a b r s) = by_rule (Same a b) refl (both_len p a b (whole (IsLen p a) (stays (IsLen p a) r)) (whole (IsLen p b) (stays (IsLen p b) s)))
  stays _ (len_along a b l h r s) =
      ⊎_elim
      (λ d. inl d)
      (λ x.
      let along = closed (LenRng b x.low x.high) (len_along a b x.low x.high (whole (Same a b) (stays (Same a b) r)) (said_follows facts (LenRng a x.low x.high) x.said)) in
      said_weaker (each (rounded_fact marks) facts) (LenRng b x.low_mark x.high_mark) (LenRng b l h) (len_rng b x.low_mark x.high_mark l h x.from x.to) (len_moved b x.low x.high x.low_mark x.high_mark along x.below x.above))
      (len_source a l h (stays (LenRng a l h) s))
  stays _ (is_len_along p a b r s) = by_rule (IsLen p b) refl (is_len_along p a b (whole (Same a b) (stays (Same a b) r)) (whole (IsLen p a) (stays (IsLen p a) s)))
  stays _ (search_along p a b r s) = by_rule (Search p b) refl (search_along p a b (whole (Same a b) (stays (Same a b) r)) (whole (Search p a) (stays (Search p a) s)))
  stays _ (neg_along p a b r s) = by_rule (Neg p b) refl (neg_along p a b (whole (Same a b) (stays (Same a b) r)) (whole (Neg p a) (stays (Neg p a) s)))
  stays _ (neg_search p a r) = by_rule (Search p a) refl (neg_search p a (whole (Neg p a) (stays (Neg p a) r)))
  stays _ (search_neg p a l h r s x) = by_rule (Neg p a) refl (search_neg p a l h (whole (Search p a) (stays (Search p a) r)) (whole (Rng p l h) (stays (Rng p l h) s)) x)
  stays _ (sum_turned t y z r) = said_turned (each (rounded_fact marks) facts) (Sum t y z) (Sum t z y) (inr (inl refl)) (stays (Sum t y z) r)
  stays _ (upper_turned p a q c r) = said_turned (each (rounded_fact marks) facts) (Upper p a (Plus q) c) (Upper q a (Plus p) c) (inr (inl refl)) (stays (Upper p a (Plus q) c) r)

pub rounded_closed : (numbers marks : List ℤ) (scope : ℕ) (facts : List Fact) → AreLandmarks numbers marks → Closed facts → Closed (rounded marks scope facts)
unfolding moved
rounded_closed numbers marks scope facts are closed =
    stays marks (λ n i. (are.only n i).int)
    (are.all (pos 0) (record { int = record { from = omega (arith, ints); to = omega (arith, ints) }; is = inr (inl (omega (arith, ints), omega (arith, ints))) }))
    (without (is_beyond scope) facts) (without_closed (is_beyond scope) facts closed)
