-- A closed list stays closed where the facts that name some paths are dropped.
use Rattle.std.specs.Prelude.{◌≡◌, ◌⊎◌, Bool, true, false, ◌||◌, pos, List, refl}
use Rattle.std.specs.Int.{int_min, int_max}
use Rattle.std.proofs.Common.{arith, inl, inr, sym, ◌∙◌, ⊎_elim}
use Rattle.std.proofs.lemmas.Int.{ints, clamps}
use Rattle.ix_core.specs.declared.fact.Path.{Path}
use Rattle.ix_core.specs.declared.fact.PathOff.TheVariants.{Plus}
use Rattle.ix_core.specs.declared.fact.Fact.{Fact}
use Rattle.ix_core.specs.declared.fact.Fact.TheVariants.{Rng, LenRng, Low, Same, IsLen, Sum, Search, Neg, Upper}
use Rattle.ix_facts.specs.Closure.{Follows, given, weaker, any_int, any_size, met, len_met, class, class_one, turned, joined, both_len, len_along, is_len_along, search_along, neg_along, neg_search, search_neg, sum_turned, upper_turned, Default, Said, Closed}
use Rattle.ix_facts.specs.Forget.{names, without}
use Rattle.ix_facts.proofs.ClosureLaws.{said_follows}
use Rattle.ix_facts.proofs.FactLists.{from_in_orders, in_in_orders}
use Rattle.ix_facts.proofs.Frame.{in_without, without_in, covers_names}
use Rattle.ix_facts.proofs.SaidLaws.{said_itself, said_weaker, said_turned, order_names}
use Rattle.ix_facts.proofs.SaidTables.{without_weaker}
use Rattle.ix_facts.proofs.Tests.{neither}

both_false : (x y : Bool) → x ≡ false → y ≡ false → (x || y) ≡ false
both_false true y a b = a
both_false false y a b = b

-- ---- without some paths

module _ (is : Path → Bool) (facts : List Fact) (closed : Closed facts) where
  rest : List Fact
  rest = without is facts

  -- what the rest says is said of every path, or names none of these
  unnamed : (f : Fact) → Said rest f → Default f ⊎ (names is f ≡ false)
  unfolding rest
  unnamed f said =
      ⊎_elim
      (λ d. inl d)
      (λ x. let y = from_in_orders x.0 (without is facts) x.1 in inr (sym (covers_names is x.0 f x.2) ∙ (order_names is y.0 x.0 y.2 ∙ (in_without is y.0 facts y.1).1)))
      said

  -- what all say and names none of these, the rest says
  kept_said : (f : Fact) → names is f ≡ false → Said facts f → Said rest f
  unfolding rest
  kept_said f n said =
      ⊎_elim
      (λ d. inl d)
      (λ x.
      let y = from_in_orders x.0 facts x.1 in
      let m : names is y.0 ≡ false = sym (order_names is y.0 x.0 y.2) ∙ (covers_names is x.0 f x.2 ∙ n) in
      inr (x.0, in_in_orders x.0 y.0 (without is facts) (without_in is y.0 facts y.1 m) y.2 y.3, x.2))
      said

  whole : (f : Fact) → Said rest f → Follows facts f
  unfolding rest
  whole f said = said_follows facts f (without_weaker is facts f said)

  -- what follows by a rule, and names no path but those of what it follows from
  by_rule : (f : Fact) → Follows facts f → Default f ⊎ (names is f ≡ false) → Said rest f
  by_rule f r n = ⊎_elim (λ d. inl d) (λ m. kept_said f m (closed f r)) n

  -- two arrays, an int and an array, of which the rest says something
  two : (x y : Path) → (f : Fact) → names is f ≡ (is x || is y) → Said rest f → (Default f → ⊥) → (is x ≡ false) × (is y ≡ false)
  two x y f e said told = ⊎_elim (λ d. absurd (told d)) (λ n. neither (is x) (is y) (sym e ∙ n)) (unnamed f said)

  stays : (f : Fact) → Follows rest f → Said rest f
  unfolding rest
  stays _ (given f i) = said_itself (without is facts) f i
  stays _ (weaker g f c r) = said_weaker (without is facts) g f c (stays g r)
  stays _ (any_int p) = inl (omega (arith, ints), omega (arith, ints))
  stays _ (any_size a) = inl (omega (arith, ints), omega (arith, ints))
  stays _ (met p l h m k r s) =
      let x = stays (Rng p l h) r in
      let y = stays (Rng p m k) s in
      by_rule (Rng p (int_max l m) (int_min h k)) (met p l h m k (whole (Rng p l h) x) (whole (Rng p m k) y))
      (⊎_elim (λ d. ⊎_elim (λ e. inl (omega (arith, ints, clamps, d.0, d.1, e.0, e.1), omega (arith, ints, clamps, d.0, d.1, e.0, e.1))) (λ n. inr n) (unnamed (Rng p m k) y)) (λ n. inr n) (unnamed (Rng p l h) x))
  stays _ (len_met p l h m k r s) =
      let x = stays (LenRng p l h) r in
      let y = stays (LenRng p m k) s in
      by_rule (LenRng p (int_max l m) (int_min h k)) (len_met p l h m k (whole (LenRng p l h) x) (whole (LenRng p m k) y))
      (⊎_elim (λ d. ⊎_elim (λ e. inl (omega (arith, ints, clamps, d.0, d.1, e.0, e.1), omega (arith, ints, clamps, d.0, d.1, e.0, e.1))) (λ n. inr n) (unnamed (LenRng p m k) y)) (λ n. inr n) (unnamed (LenRng p l h) x))
  stays _ (class p l h r x y) =
      let said = stays (Rng p l h) r in
      by_rule (Low p l) (class p l h (whole (Rng p l h) said) x y)
      (⊎_elim (λ d. let no : ⊥ = omega (arith, ints, d.0, x) in absurd no) (λ n. inr n) (unnamed (Rng p l h) said))
  stays _ (class_one p l h r x) =
      let said = stays (Rng p l h) r in
      by_rule (Low p (pos 1)) (class_one p l h (whole (Rng p l h) said) x)
      (⊎_elim (λ d. let no : ⊥ = omega (arith, ints, d.0, x) in absurd no) (λ n. inr n) (unnamed (Rng p l h) said))
  stays _ (turned a b r) =
      let x = stays (Same a b) r in
      let n = two a b (Same a b) refl x (λ d. d) in
      by_rule (Same b a) (turned a b (whole (Same a b) x)) (inr (both_false (is b) (is a) n.1 n.0))
  stays _ (joined a b c r s) =
      let x = stays (Same a b) r in
      let y = stays (Same b c) s in
      let n = two a b (Same a b) refl x (λ d. d) in
      let m = two b c (Same b c) refl y (λ d. d) in
      by_rule (Same a c) (joined a b c (whole (Same a b) x) (whole (Same b c) y)) (inr (both_false (is a) (is c) n.0 m.1))
  stays _ (both_len p a b r s) =
      let x = stays (IsLen p a) r in
      let y = stays (IsLen p b) s in
      let n = two p a (IsLen p a) refl x (λ d. d) in
      let m = two p b (IsLen p b) refl y (λ d. d) in
      by_rule (Same a b) (both_len p a b (whole (IsLen p a) x) (whole (IsLen p b) y)) (inr (both_false (is a) (is b) n.1 m.1))
  stays _ (len_along a b l h r s) =
      let x = stays (Same a b) r in
      let y = stays (LenRng a l h) s in
      let n = two a b (Same a b) refl x (λ d. d) in
      by_rule (LenRng b l h) (len_along a b l h (whole (Same a b) x) (whole (LenRng a l h) y)) (inr n.1)
  stays _ (is_len_along p a b r s) =
      let x = stays (Same a b) r in
      let y = stays (IsLen p a) s in
      let n = two a b (Same a b) refl x (λ d. d) in
      let m = two p a (IsLen p a) refl y (λ d. d) in
      by_rule (IsLen p b) (is_len_along p a b (whole (Same a b) x) (whole (IsLen p a) y)) (inr (both_false (is p) (is b) m.0 n.1))
  stays _ (search_along p a b r s) =
      let x = stays (Same a b) r in
      let y = stays (Search p a) s in
      let n = two a b (Same a b) refl x (λ d. d) in
      let m = two p a (Search p a) refl y (λ d. d) in
      by_rule (Search p b) (search_along p a b (whole (Same a b) x) (whole (Search p a) y)) (inr (both_false (is p) (is b) m.0 n.1))
  stays _ (neg_along p a b r s) =
      let x = stays (Same a b) r in
      let y = stays (Neg p a) s in
      let n = two a b (Same a b) refl x (λ d. d) in
      let m = two p a (Neg p a) refl y (λ d. d) in
      by_rule (Neg p b) (neg_along p a b (whole (Same a b) x) (whole (Neg p a) y)) (inr (both_false (is p) (is b) m.0 n.1))
  stays _ (neg_search p a r) =
      let x = stays (Neg p a) r in
      let n = two p a (Neg p a) refl x (λ d. d) in
      by_rule (Search p a) (neg_search p a (whole (Neg p a) x)) (inr (both_false (is p) (is a) n.0 n.1))
  stays _ (search_neg p a l h r s e) =
      let x = stays (Search p a) r in
      let y = stays (Rng p l h) s in
      let n = two p a (Search p a) refl x (λ d. d) in
      by_rule (Neg p a) (search_neg p a l h (whole (Search p a) x) (whole (Rng p l h) y) e) (inr (both_false (is p) (is a) n.0 n.1))
  stays _ (sum_turned t y z r) = said_turned (without is facts) (Sum t y z) (Sum t z y) (inr (inl refl)) (stays (Sum t y z) r)
  stays _ (upper_turned p a q c r) = said_turned (without is facts) (Upper p a (Plus q) c) (Upper q a (Plus p) c) (inr (inl refl)) (stays (Upper p a (Plus q) c) r)

pub without_closed : (is : Path → Bool) (facts : List Fact) → Closed facts → Closed (without is facts)
unfolding rest
without_closed is facts closed = stays is facts closed
