-- The ranges of facts, met in a table: what is merged of the facts' ranges is covered by a stored one, and each stored one follows from the facts.
use Rattle.std.specs.Prelude.{◌≡◌, ◌⊎◌, true, ℤ, pos, negsuc, ◌≤ℤ◌, int_le, List, refl}
use Rattle.std.specs.Int.{int_min}
use Rattle.std.proofs.Common.{arith, inl, inr, sym, subst, ⊎_elim}
use Rattle.std.proofs.lemmas.Int.{ints, clamps}
use Rattle.ix_core.specs.declared.fact.Path.{Path}
use Rattle.ix_core.specs.declared.fact.PathOff.TheVariants.{Nothing, Plus, Minus}
use Rattle.ix_core.specs.declared.fact.Fact.{Fact}
use Rattle.ix_core.specs.declared.fact.Fact.TheVariants.{Rng, LenRng, Low, Same, IsLen, Less, Sum, Search, Neg, Upper}
use Rattle.ix_facts.specs.declared.kind.Kind.TheVariants as kind
use Rattle.ix_facts.specs.Bounds.{range_high}
use Rattle.ix_facts.specs.Facts.{IsIn, Covers, rng, orders, in_orders}
use Rattle.ix_facts.specs.Closure.{Follows}
use Rattle.ix_facts.specs.Closure as closure
use Rattle.ix_facts.specs.Kinds.{of_kind}
use Rattle.ix_facts.specs.Systems.{Merges, IsTable}
use Rattle.ix_facts.specs.Systems as merges
use Rattle.ix_facts.proofs.FactLists.{from_in_orders}
use Rattle.ix_core.proofs.Cases.{by_test}
use Rattle.ix_fact_table.proofs.OneKind.{from_kind}
use Rattle.ix_fact_table.specs.Saturated.{negative_of, class_of}
use Rattle.ix_fact_table.proofs.Members.{if_true}
use Rattle.ix_fact_table.proofs.HighEnds.{high_below, stored_high}

-- what is merged of facts that follow follows
pub merges_follow : (facts some : List Fact) → ((f : Fact) → IsIn f some → Follows facts f) → (f : Fact) → Merges some f → Follows facts f
merges_follow facts some k _ (merges.given f i) = k f i
merges_follow facts some k _ (merges.weaker g f c r) = closure.weaker g f c (merges_follow facts some k g r)
merges_follow facts some k _ (merges.any_int p) = closure.any_int p
merges_follow facts some k _ (merges.any_size a) = closure.any_size a
merges_follow facts some k _ (merges.met p l h m n r s) = closure.met p l h m n (merges_follow facts some k (Rng p l h) r) (merges_follow facts some k (Rng p m n) s)
merges_follow facts some k _ (merges.len_met a l h m n r s) = closure.len_met a l h m n (merges_follow facts some k (LenRng a l h) r) (merges_follow facts some k (LenRng a m n) s)
merges_follow facts some k _ (merges.turned a b r) = closure.turned a b (merges_follow facts some k (Same a b) r)
merges_follow facts some k _ (merges.sum_turned t y z r) = closure.sum_turned t y z (merges_follow facts some k (Sum t y z) r)
merges_follow facts some k _ (merges.upper_turned p a q c r) = closure.upper_turned p a q c (merges_follow facts some k (Upper p a (Plus q) c) r)

-- a range stands in one order alone
range_order : (p : Path) (m k : ℤ) (f : Fact) (ranges : List Fact) → IsIn f ranges → IsIn (Rng p m k) (orders f) → IsIn (Rng p m k) ranges
range_order p m k (Rng q n j) ranges i o = ⊎_elim (λ e. subst (λ g. IsIn g ranges) (sym e) i) (λ n. absurd n) o
range_order p m k (LenRng q n j) ranges i o = ⊎_elim (λ e. absurd cc) (λ n. absurd n) o
range_order p m k (Low q c) ranges i o = ⊎_elim (λ e. absurd cc) (λ n. absurd n) o
range_order p m k (IsLen q a) ranges i o = ⊎_elim (λ e. absurd cc) (λ n. absurd n) o
range_order p m k (Less q r c) ranges i o = ⊎_elim (λ e. absurd cc) (λ n. absurd n) o
range_order p m k (Search q a) ranges i o = ⊎_elim (λ e. absurd cc) (λ n. absurd n) o
range_order p m k (Neg q a) ranges i o = ⊎_elim (λ e. absurd cc) (λ n. absurd n) o
range_order p m k (Same a b) ranges i o = ⊎_elim (λ e. absurd cc) (λ n. ⊎_elim (λ e. absurd cc) (λ x. absurd x) n) o
range_order p m k (Sum t y z) ranges i o = ⊎_elim (λ e. absurd cc) (λ n. ⊎_elim (λ e. absurd cc) (λ x. absurd x) n) o
range_order p m k (Upper q a Nothing c) ranges i o = ⊎_elim (λ e. absurd cc) (λ n. absurd n) o
range_order p m k (Upper q a (Plus r) c) ranges i o = ⊎_elim (λ e. absurd cc) (λ n. ⊎_elim (λ e. absurd cc) (λ x. absurd x) n) o
range_order p m k (Upper q a (Minus r) c) ranges i o = ⊎_elim (λ e. absurd cc) (λ n. absurd n) o

-- a range that covers another has its ends within the other's
pub covers_ends : (g : Fact) (p : Path) (l h : ℤ) → Covers g (Rng p l h) → (m : ℤ) × (k : ℤ) × (g ≡ Rng p m k) × (l ≤ℤ m) × (k ≤ℤ h)
covers_ends _ p l h (rng _ m k _ _ a b) = (m, k, refl, a, b)

-- a range that ends below 0 is merged of the facts' ranges
abbrev pub IsBelowZero : List Fact → Path → Type 0
IsBelowZero facts p = (l : ℤ) × (h : ℤ) × Merges (of_kind kind.Range facts) (Rng p l h) × (h ≤ℤ negsuc 0)

module _ (facts : List Fact) (ranges : List Fact) (table : IsTable (of_kind kind.Range facts) ranges) where
  -- a range that is merged of the facts is covered by a stored one
  pub range_stored : (p : Path) (l h : ℤ) → Merges (of_kind kind.Range facts) (Rng p l h) → closure.Default (Rng p l h) ⊎ ((m : ℤ) × (k : ℤ) × IsIn (Rng p m k) ranges × (l ≤ℤ m) × (k ≤ℤ h))
  range_stored p l h merged =
      ⊎_elim
      (λ d. inl d)
      (λ y.
      let x = covers_ends y.0 p l h y.2 in
      let o = from_in_orders (Rng p x.0 x.1) ranges (subst (λ g. IsIn g (in_orders ranges)) x.2 y.1) in
      inr (x.0, x.1, range_order p x.0 x.1 o.0 ranges o.1 o.2, x.3, x.4))
      (table.says (Rng p l h) merged)

  pub low_stored : (p : Path) → IsBelowZero facts p → int_le (range_high ranges p) (negsuc 0) ≡ true
  low_stored p x =
      ⊎_elim
      (λ d. absurd (omega (arith, ints, d.1, x.3)))
      (λ y. let b = high_below ranges p y.0 y.1 (negsuc 0) y.2 (omega (arith, ints, y.4, x.3)) in grind (arith, ints, b))
      (range_stored p x.0 x.1 x.2)

  pub follows_range : (f : Fact) → IsIn f ranges → Follows facts f
  follows_range f i = merges_follow facts (of_kind kind.Range facts) (λ g j. closure.given g (from_kind kind.Range g facts j)) f (table.only f i)

  pub follows_negative : (g f : Fact) → Follows facts g → IsIn f (negative_of ranges g) → Follows facts f
  follows_negative (Search p a) f r j =
      let x = if_true (int_le (range_high ranges p) (negsuc 0)) f (Neg p a) j in
      let small : range_high ranges p ≤ℤ negsuc 0 = grind (arith, ints, x.0) in
      let y = stored_high ranges p (negsuc 0) small (omega (arith, ints)) in
      subst (Follows facts) (sym x.1) (closure.search_neg p a y.0 y.1 r (follows_range (Rng p y.0 y.1) y.2) y.3)
  follows_negative (Rng p l h) f r j = absurd j
  follows_negative (LenRng p l h) f r j = absurd j
  follows_negative (Low p c) f r j = absurd j
  follows_negative (Same a b) f r j = absurd j
  follows_negative (IsLen p a) f r j = absurd j
  follows_negative (Less p q c) f r j = absurd j
  follows_negative (Sum t y z) f r j = absurd j
  follows_negative (Neg p a) f r j = absurd j
  follows_negative (Upper p a o c) f r j = absurd j

  class_follows : (p : Path) (l h : ℤ) → Follows facts (Rng p l h) → negsuc 0 ≤ℤ l → Follows facts (Low p (int_min l (pos 1)))
  class_follows p l h r from =
      by_test (int_le l (pos 1))
      (λ t.
      let small : l ≤ℤ pos 1 = grind (arith, ints, t) in
      let e : l ≡ int_min l (pos 1) = omega (arith, ints, clamps, small) in
      subst (λ c. Follows facts (Low p c)) e (closure.class p l h r from small))
      (λ t.
      let great : pos 1 ≤ℤ l = grind (arith, ints, t) in
      let e : pos 1 ≡ int_min l (pos 1) = omega (arith, ints, clamps, great) in
      subst (λ c. Follows facts (Low p c)) e (closure.class_one p l h r great))

  pub follows_class : (g f : Fact) → Follows facts g → IsIn f (class_of g) → Follows facts f
  follows_class (Rng p l h) f r j =
      let x = if_true (int_le (negsuc 0) l) f (Low p (int_min l (pos 1))) j in
      let from : negsuc 0 ≤ℤ l = grind (arith, ints, x.0) in
      subst (Follows facts) (sym x.1) (class_follows p l h r from)
  follows_class (Search p a) f r j = absurd j
  follows_class (LenRng p l h) f r j = absurd j
  follows_class (Low p c) f r j = absurd j
  follows_class (Same a b) f r j = absurd j
  follows_class (IsLen p a) f r j = absurd j
  follows_class (Less p q c) f r j = absurd j
  follows_class (Sum t y z) f r j = absurd j
  follows_class (Neg p a) f r j = absurd j
  follows_class (Upper p a o c) f r j = absurd j
