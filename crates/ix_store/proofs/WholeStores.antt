-- Proper facts of which no two are at one key say what they say together, so they are all facts of a store exactly where their tables say all that
-- the closed list of them says.
use Rattle.std.specs.Prelude.{◌≡◌, ◌⊎◌, true, false, ℤ, pos, List, [], ◌∷◌, map, refl}
use Rattle.std.specs.Int.{int_min, int_max}
use Rattle.std.specs.List.{IsDistinct, AllByRecursion, list_all}
use Rattle.std.specs.Ordering.{is_eq, eq_by_cmp}
use Rattle.std.proofs.Common.{arith, inl, inr, ap, sym, ◌∙◌, subst, ⊎_elim}
use Rattle.std.proofs.lemmas.Bool.{and_parts, false≢true}
use Rattle.std.proofs.lemmas.Int.{ints, clamps}
use Rattle.ix_num.specs.Ints.{least_int, greatest_int}
use Rattle.ix_core.specs.declared.fact.Path.{Path}
use Rattle.ix_core.specs.declared.fact.PathOff.TheVariants.{Plus}
use Rattle.ix_core.specs.declared.fact.Fact.{Fact}
use Rattle.ix_core.specs.declared.fact.Fact.TheVariants.{Rng, LenRng, Low, Same, IsLen, Less, Sum, Search, Neg, Upper}
use Rattle.ix_facts.specs.Facts.{IsIn, Covers, rng, len_rng}
use Rattle.ix_facts.specs.Closure.{Follows, Default, Said, SaysAll, Closed, Contradicts, IsClosedOf}
use Rattle.ix_facts.specs.Stores.{Stored, Unreachable, Reached, IsStoreOf, unreachable, reached, SayTheSame}
use Rattle.ix_facts.specs.Systems.{Merges, given, weaker, any_int, any_size, met, len_met, turned, sum_turned, upper_turned, IsTable, HasClass, HaveClasses}
use Rattle.ix_facts.proofs.ClosureLaws.{follows_from, said_follows}
use Rattle.ix_facts.proofs.FactLists.{from_in_orders}
use Rattle.ix_facts.proofs.SaidLaws.{said_itself, said_weaker, said_turned}
use Rattle.ix_facts.proofs.SystemLaws.{default_merges, in_orders_merges}
use Rattle.ix_facts.proofs.Tests.{at_most_true}
use Rattle.ix_fact_table.specs.Apart.{AreApart, is_proper}
use Rattle.ix_fact_table.specs.Entries.{in_first_order, has_ends}
use Rattle.ix_fact_table.specs.EntryLaws.{may_stand}
use Rattle.ix_fact_table.specs.FactOrder as keys
use Rattle.ix_fact_table.specs.FactOrder.{fact_cmp, key_equal}
use Rattle.ix_fact_table.specs.MeetLaws.{met_covered}
use Rattle.ix_fact_table.proofs.KeysApart.{key_flips}
use Rattle.ix_store.specs.WholeStores.{AreAStore}
use Rattle.ix_store.proofs.StoresOf.{range_order, covers_rng, covers_len}

-- ---- proper facts

each_proper : (facts : List Fact) → list_all is_proper facts ≡ true → (f : Fact) → IsIn f facts → is_proper f ≡ true
each_proper [] all f i = absurd i
each_proper (g ∷ facts) all f i =
    let parts = and_parts (is_proper g) (list_all is_proper facts) all in
    ⊎_elim (λ e. subst (λ x. is_proper x ≡ true) (sym e) parts.0) (λ j. each_proper facts parts.1 f j) i

proper_class : (f : Fact) → is_proper f ≡ true → HasClass f
proper_class (Low p c) t = (may_stand (Low p c) t).class
proper_class (Rng p l h) t = tt
proper_class (LenRng a l h) t = tt
proper_class (Same a b) t = tt
proper_class (IsLen p a) t = tt
proper_class (Less p q c) t = tt
proper_class (Sum u y z) t = tt
proper_class (Search p a) t = tt
proper_class (Neg p a) t = tt
proper_class (Upper p a o c) t = tt

pub proper_classes : (facts : List Fact) → list_all is_proper facts ≡ true → HaveClasses facts
proper_classes facts all f i = proper_class f (each_proper facts all f i)

ends_parts : (f : Fact) → is_proper f ≡ true → has_ends f ≡ true
ends_parts f t = (and_parts (has_ends f) _ t).0

-- ---- facts at one key are one

other_key : (f g : Fact) (facts : List Fact) → AllByRecursion (λ y. eq_by_cmp fact_cmp (in_first_order f) y ≡ false) (map in_first_order facts) → IsIn g facts
    → eq_by_cmp fact_cmp (in_first_order f) (in_first_order g) ≡ false
other_key f g [] all i = absurd i
other_key f g (x ∷ facts) all i =
    ⊎_elim (λ e. subst (λ y. eq_by_cmp fact_cmp (in_first_order f) (in_first_order y) ≡ false) (sym e) all.0) (λ j. other_key f g facts all.1 j) i

one_at_key : (facts : List Fact) → AreApart facts → (f g : Fact) → IsIn f facts → IsIn g facts → eq_by_cmp fact_cmp (in_first_order f) (in_first_order g) ≡ true → f ≡ g
unfolding IsDistinct
one_at_key [] apart f g i j key = absurd i
one_at_key (x ∷ facts) apart f g i j key =
    ⊎_elim
    (λ d.
    ⊎_elim
    (λ e. d ∙ sym e)
    (λ k. absurd (false≢true (sym (other_key x g facts apart.0 k) ∙ subst (λ y. eq_by_cmp fact_cmp (in_first_order y) (in_first_order g) ≡ true) d key)))
    j)
    (λ m.
    ⊎_elim
    (λ e.
    let turned : eq_by_cmp fact_cmp (in_first_order g) (in_first_order f) ≡ true = key_flips (in_first_order g) (in_first_order f) ∙ key in
    absurd (false≢true (sym (other_key x f facts apart.0 m) ∙ subst (λ y. eq_by_cmp fact_cmp (in_first_order y) (in_first_order f) ≡ true) e turned)))
    (λ k. one_at_key facts apart.1 f g m k key)
    j)
    i

-- ---- what the facts say together

-- what is covered by a range within what is said of every path
rng_default : (g : Fact) (p : Path) (l h m k : ℤ) → has_ends g ≡ true → Covers g (Rng p m k) → Default (Rng p l h) → Covers g (Rng p l h)
rng_default _ p l h m k ends (rng _ x y _ _ a b) d =
    let parts = and_parts _ _ ends in
    let low = at_most_true least_int x parts.0 in
    let high = at_most_true y greatest_int parts.1 in
    rng p x y l h (omega (arith, ints, low, d.0)) (omega (arith, ints, high, d.1))

len_default : (g : Fact) (a : Path) (l h m k : ℤ) → has_ends g ≡ true → Covers g (LenRng a m k) → Default (LenRng a l h) → Covers g (LenRng a l h)
len_default _ a l h m k ends (len_rng _ x y _ _ b c) d =
    let parts = and_parts _ _ ends in
    let low = at_most_true (pos 0) x parts.0 in
    let high = at_most_true y greatest_int parts.1 in
    len_rng a x y l h (omega (arith, ints, low, d.0)) (omega (arith, ints, high, d.1))

-- ranges stand in one order
rng_key : (f g : Fact) (p : Path) (l h m k : ℤ) → Covers f (Rng p l h) → Covers g (Rng p m k) → eq_by_cmp fact_cmp (in_first_order f) (in_first_order g) ≡ true
rng_key _ _ p l h m k (rng _ x y _ _ a b) (rng _ z u _ _ c d) = ap is_eq (key_equal (Rng p x y) (Rng p z u) (keys.rng p x y z u))

len_key : (f g : Fact) (p : Path) (l h m k : ℤ) → Covers f (LenRng p l h) → Covers g (LenRng p m k) → eq_by_cmp fact_cmp (in_first_order f) (in_first_order g) ≡ true
len_key _ _ p l h m k (len_rng _ x y _ _ a b) (len_rng _ z u _ _ c d) = ap is_eq (key_equal (LenRng p x y) (LenRng p z u) (keys.len_rng p x y z u))

module _ (facts : List Fact) (proper : list_all is_proper facts ≡ true) (apart : AreApart facts) where
  ends : (f : Fact) → IsIn f facts → has_ends f ≡ true
  ends f i = ends_parts f (each_proper facts proper f i)

  rng_in : (p : Path) (l h : ℤ) → Said facts (Rng p l h) → Default (Rng p l h) ⊎ ((g : Fact) × IsIn g facts × Covers g (Rng p l h))
  rng_in p l h said =
      ⊎_elim
      (λ d. inl d)
      (λ x.
      let y = covers_rng x.0 p l h x.2 in
      let o = from_in_orders x.0 facts x.1 in
      let one : o.0 ≡ x.0 = range_order x.0 o.0 p y.0 y.1 (inl y.2) o.2 in
      inr (x.0, subst (λ g. IsIn g facts) one o.1, x.2))
      said

  len_in : (a : Path) (l h : ℤ) → Said facts (LenRng a l h) → Default (LenRng a l h) ⊎ ((g : Fact) × IsIn g facts × Covers g (LenRng a l h))
  len_in a l h said =
      ⊎_elim
      (λ d. inl d)
      (λ x.
      let y = covers_len x.0 a l h x.2 in
      let o = from_in_orders x.0 facts x.1 in
      let one : o.0 ≡ x.0 = range_order x.0 o.0 a y.0 y.1 (inr y.2) o.2 in
      inr (x.0, subst (λ g. IsIn g facts) one o.1, x.2))
      said

  rng_both : (g : Fact) (p : Path) (l h m k : ℤ) → IsIn g facts → Covers g (Rng p l h) → Covers g (Rng p m k) → Said facts (Rng p (int_max l m) (int_min h k))
  rng_both g p l h m k i c d = said_weaker facts g (Rng p (int_max l m) (int_min h k)) (met_covered (Rng p l h) (Rng p m k) g (keys.rng p l h m k) c d) (said_itself facts g i)

  len_both : (g : Fact) (a : Path) (l h m k : ℤ) → IsIn g facts → Covers g (LenRng a l h) → Covers g (LenRng a m k) → Said facts (LenRng a (int_max l m) (int_min h k))
  len_both g a l h m k i c d = said_weaker facts g (LenRng a (int_max l m) (int_min h k)) (met_covered (LenRng a l h) (LenRng a m k) g (keys.len_rng a l h m k) c d) (said_itself facts g i)

  rng_met : (p : Path) (l h m k : ℤ) → Said facts (Rng p l h) → Said facts (Rng p m k) → Said facts (Rng p (int_max l m) (int_min h k))
  rng_met p l h m k r s =
      ⊎_elim
      (λ d.
      ⊎_elim
      (λ e. inl (omega (arith, ints, clamps, d.0, e.0), omega (arith, ints, clamps, d.1, e.1)))
      (λ y. rng_both y.0 p l h m k y.1 (rng_default y.0 p l h m k (ends y.0 y.1) y.2 d) y.2)
      (rng_in p m k s))
      (λ x.
      ⊎_elim
      (λ e. rng_both x.0 p l h m k x.1 x.2 (rng_default x.0 p m k l h (ends x.0 x.1) x.2 e))
      (λ y.
      let one : y.0 ≡ x.0 = sym (one_at_key facts apart x.0 y.0 x.1 y.1 (rng_key x.0 y.0 p l h m k x.2 y.2)) in
      rng_both x.0 p l h m k x.1 x.2 (subst (λ g. Covers g (Rng p m k)) one y.2))
      (rng_in p m k s))
      (rng_in p l h r)

  lengths_met : (a : Path) (l h m k : ℤ) → Said facts (LenRng a l h) → Said facts (LenRng a m k) → Said facts (LenRng a (int_max l m) (int_min h k))
  lengths_met a l h m k r s =
      ⊎_elim
      (λ d.
      ⊎_elim
      (λ e. inl (omega (arith, ints, clamps, d.0, e.0), omega (arith, ints, clamps, d.1, e.1)))
      (λ y. len_both y.0 a l h m k y.1 (len_default y.0 a l h m k (ends y.0 y.1) y.2 d) y.2)
      (len_in a m k s))
      (λ x.
      ⊎_elim
      (λ e. len_both x.0 a l h m k x.1 x.2 (len_default x.0 a m k l h (ends x.0 x.1) x.2 e))
      (λ y.
      let one : y.0 ≡ x.0 = sym (one_at_key facts apart x.0 y.0 x.1 y.1 (len_key x.0 y.0 a l h m k x.2 y.2)) in
      len_both x.0 a l h m k x.1 x.2 (subst (λ g. Covers g (LenRng a m k)) one y.2))
      (len_in a m k s))
      (len_in a l h r)

  -- what they say together is said
  merges_said : (f : Fact) → Merges facts f → Said facts f
  merges_said _ (given f i) = said_itself facts f i
  merges_said _ (weaker g f c r) = said_weaker facts g f c (merges_said g r)
  merges_said _ (any_int p) = inl (omega (arith, ints), omega (arith, ints))
  merges_said _ (any_size a) = inl (omega (arith, ints), omega (arith, ints))
  merges_said _ (met p l h m k r s) = rng_met p l h m k (merges_said (Rng p l h) r) (merges_said (Rng p m k) s)
  merges_said _ (len_met a l h m k r s) = lengths_met a l h m k (merges_said (LenRng a l h) r) (merges_said (LenRng a m k) s)
  merges_said _ (turned a b r) = said_turned facts (Same a b) (Same b a) (inr (inl refl)) (merges_said (Same a b) r)
  merges_said _ (sum_turned t y z r) = said_turned facts (Sum t y z) (Sum t z y) (inr (inl refl)) (merges_said (Sum t y z) r)
  merges_said _ (upper_turned p a q c r) = said_turned facts (Upper p a (Plus q) c) (Upper q a (Plus p) c) (inr (inl refl)) (merges_said (Upper p a (Plus q) c) r)

-- what is said of some facts is merged of them
said_merges : (facts table : List Fact) → ((f : Fact) → IsIn f table → Merges facts f) → (f : Fact) → Said table f → Merges facts f
said_merges facts table k f said = ⊎_elim (λ d. default_merges facts f d) (λ x. weaker x.0 f x.2 (in_orders_merges facts table k x.0 x.1)) said

-- ---- the store of the facts

closed_follows : (facts closed : List Fact) → IsClosedOf facts closed → (f : Fact) → Said closed f → Follows facts f
closed_follows facts closed is f said = follows_from facts closed is.only f (said_follows closed f said)

all_said : (facts closed table : List Fact) → list_all is_proper facts ≡ true → AreApart facts → IsClosedOf facts closed → IsTable facts table → SaysAll table closed → Closed facts
all_said facts closed table proper apart is made says f k = merges_said facts proper apart f (said_merges facts table made.only f (says f (is.says f k)))

says_closed : (facts closed table : List Fact) → IsClosedOf facts closed → IsTable facts table → Closed facts → SaysAll table closed
says_closed facts closed table is made whole f said =
    made.says f (said_merges facts facts (λ g i. given g i) f (whole f (closed_follows facts closed is f said)))

pub store_contradicts : (facts : List Fact) (s : Stored) → s ≡ Unreachable → IsStoreOf facts s → Contradicts facts
store_contradicts facts _ e (unreachable c) = c
store_contradicts facts _ e (reached closed n is) = absurd cc

pub no_store : (facts : List Fact) (s : Stored) → s ≡ Unreachable → IsStoreOf facts s → AreAStore facts → ⊥
no_store facts s e is store = store.closed.1 (store_contradicts facts s e is)

pub store_whole : (facts closed table : List Fact) → list_all is_proper facts ≡ true → AreApart facts → IsStoreOf facts (Reached closed) → IsTable facts table → SaysAll table closed → AreAStore facts
store_whole facts _ table proper apart (reached closed n is) made says =
    record { proper = proper; apart = apart; closed = (all_said facts closed table proper apart is made says, n) }

pub whole_says : (facts closed table : List Fact) → IsStoreOf facts (Reached closed) → IsTable facts table → AreAStore facts → SaysAll table closed
whole_says facts _ table (reached closed n is) made store = says_closed facts closed table is made store.closed.0

pub whole_same : (facts : List Fact) (s : Stored) → IsStoreOf facts s → AreAStore facts → SayTheSame s (Reached facts)
whole_same facts _ (unreachable c) store = absurd (store.closed.1 c)
whole_same facts _ (reached closed n is) store =
    (λ f said. is.says f (said_follows facts f said), λ f said. store.closed.0 f (closed_follows facts closed is f said))
