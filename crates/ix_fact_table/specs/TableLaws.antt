-- The laws of tables: what a table says, which list it is the table of, its order and its rank.
use Rattle.std.specs.Prelude.{◌≡◌, ◌⊎◌, ◌+◌, unsigned_abs, ◌-ℤ◌, int_le, ◌&&◌, true, ℤ, pos, negsuc, ◌≤ℤ◌, ◌≤◌, List, [], ◌∷◌, Some, refl}
use Rattle.std.specs.Int.{int_min, int_max}
use Rattle.std.specs.Ordering.{is_eq}
use Rattle.std.proofs.Common.{arith, inl, inr, ap, sym, ◌∙◌, subst, ⊎_elim}
use Rattle.std.proofs.lemmas.Bool.{false≢true}
use Rattle.std.proofs.lemmas.Cmp.{tied_itself}
use Rattle.std.proofs.lemmas.Int.{ints, clamps}
use Rattle.ix_num.specs.Ints.{least_int, greatest_int}
use Rattle.ix_lattice.specs.Lattice.{LatticeLaws}
use Rattle.ix_lattice.specs.FactMap.{fact_at, FactsBelow, facts_rank}
use Rattle.ix_lattice.specs.FactMapLaws.{facts_laws}
use Rattle.ix_core.specs.declared.fact.Path.{Path}
use Rattle.ix_core.specs.declared.fact.PathOff.TheVariants.{Plus}
use Rattle.ix_core.specs.declared.fact.Fact.{Fact}
use Rattle.ix_core.specs.declared.fact.Fact.TheVariants.{Rng, LenRng, Same, Sum, Upper}
use Rattle.ix_facts.specs.declared.kind.Kind.{Kind}
use Rattle.ix_facts.specs.Facts.{IsIn, Covers, orders, is_default, in_orders}
use Rattle.ix_facts.specs.Facts as covers
use Rattle.ix_facts.specs.Closure.{Default, Said, SaysAll, IsCommon}
use Rattle.ix_facts.specs.Kinds.{is_of}
use Rattle.ix_facts.specs.Systems.{Merges, given, weaker, any_int, any_size, met, len_met, turned, sum_turned, upper_turned, IsTable, MayStand}
use Rattle.ix_facts.proofs.FactLists.{covers_covers, from_in_orders}
use Rattle.ix_facts.proofs.SaidLaws.{default_is, is_a_default, default_weaker, said_itself, said_weaker, said_turned}
use Rattle.ix_core.proofs.Cases.{by_test}
use Rattle.ix_fact_table.specs.FactOrder as keys
use Rattle.ix_fact_table.specs.FactOrder.{AtKey, fact_cmp, fact_total, at_key, key_equal, key_back, key_on}
use Rattle.ix_fact_table.specs.Meets as meets
use Rattle.ix_fact_table.specs.Entries.{entry_of, within, has_ends, is_entry}
use Rattle.ix_fact_table.specs.Rising.{rises, is_table_of}
use Rattle.ix_fact_table.specs.MeetLaws.{covers_key, met_covered, common_left, common_right, common_covers, common_key, key_kind, common_entry, entry_parts, two_ends}
use Rattle.ix_fact_table.specs.EntryLaws.{order_first, entry_fixed, entry_default, entry_monotone, entry_said, may_stand}
use Rattle.ix_fact_table.specs.RisingLaws.{one_at_key, rises_parts, table_rises, table_each, table_from}
use Rattle.ix_fact_table.specs.declared.fact_table.FactTable.{FactTable}
use Rattle.ix_fact_table.specs.FactTables.{facts_of, TableBelow, table_rank, low_end, high_end, low_within, high_within, NumbersBelow, numbers_rank, keyed}

no_default : (f : Fact) → is_entry f ≡ true → Default f → ⊥
no_default f is d = false≢true (sym (entry_parts f is).tells ∙ default_is f d)

module _ (own : Kind) (table : List Fact) (form : is_table_of own table ≡ true) where
  -- what a table says: what is said of every path, and what one of its facts covers
  pub by_entry : (f : Fact) → Said table f → Default f ⊎ ((g : Fact) × IsIn g table × Covers g (entry_of f))
  by_entry f said =
      ⊎_elim
      (λ d. inl d)
      (λ x.
      let y = from_in_orders x.0 table x.1 in
      let fixed : entry_of x.0 ≡ y.0 = ap within (order_first y.0 x.0 y.2) ∙ entry_fixed y.0 (table_each own table form y.0 y.1).1 in
      inr (y.0, y.1, subst (λ z. Covers z (entry_of f)) fixed (entry_monotone x.0 f x.2)))
      said

  pub from_entry : (f g : Fact) → IsIn g table → Covers g (entry_of f) → Said table f
  from_entry f g i c = entry_said table f (said_weaker table g (entry_of f) c (said_itself table g i))

  -- a fact in the form of a table that the table says is covered by one of it
  pub entry_covered : (f : Fact) → is_entry f ≡ true → Said table f → (g : Fact) × IsIn g table × Covers g f
  entry_covered f is said =
      ⊎_elim
      (λ d. absurd (no_default f is d))
      (λ x. (x.0, x.1, subst (Covers x.0) (entry_fixed f is) x.2))
      (by_entry f said)

  -- two facts of it that cover two facts at one key are one
  one_of : (f g x y : Fact) → IsIn f table → IsIn g table → Covers f x → Covers g y → AtKey x y → f ≡ g
  one_of f g x y i j c d key = one_at_key table (table_rises own table form) f g i j (key_on f x g (covers_key f x c) (key_on x y g key (key_back g y (covers_key g y d))))

  ranges_met : (p : Path) (l h m k : ℤ) → Said table (Rng p l h) → Said table (Rng p m k) → Said table (Rng p (int_max l m) (int_min h k))
  ranges_met p l h m k r s =
      ⊎_elim
      (λ d. ⊎_elim
      (λ e. inl (omega (arith, ints, clamps, d.0, e.0), omega (arith, ints, clamps, d.1, e.1)))
      (λ y. from_entry (Rng p (int_max l m) (int_min h k)) y.0 y.1 (covers_covers y.0 _ _ y.2
      (covers.rng p (int_max m least_int) (int_min k greatest_int) (int_max (int_max l m) least_int) (int_min (int_min h k) greatest_int) (omega (arith, ints, clamps, d.0)) (omega (arith, ints, clamps, d.1)))))
      (by_entry (Rng p m k) s))
      (λ x. ⊎_elim
      (λ e. from_entry (Rng p (int_max l m) (int_min h k)) x.0 x.1 (covers_covers x.0 _ _ x.2
      (covers.rng p (int_max l least_int) (int_min h greatest_int) (int_max (int_max l m) least_int) (int_min (int_min h k) greatest_int) (omega (arith, ints, clamps, e.0)) (omega (arith, ints, clamps, e.1)))))
      (λ y.
      let first = Rng p (int_max l least_int) (int_min h greatest_int) in
      let second = Rng p (int_max m least_int) (int_min k greatest_int) in
      let key : AtKey first second = keys.rng p (int_max l least_int) (int_min h greatest_int) (int_max m least_int) (int_min k greatest_int) in
      let same : y.0 ≡ x.0 = sym (one_of x.0 y.0 first second x.1 y.1 x.2 y.2 key) in
      from_entry (Rng p (int_max l m) (int_min h k)) x.0 x.1 (covers_covers x.0 _ _ (met_covered first second x.0 key x.2 (subst (λ z. Covers z second) same y.2))
      (covers.rng p (int_max (int_max l least_int) (int_max m least_int)) (int_min (int_min h greatest_int) (int_min k greatest_int)) (int_max (int_max l m) least_int) (int_min (int_min h k) greatest_int) (omega (arith, ints, clamps)) (omega (arith, ints, clamps)))))
      (by_entry (Rng p m k) s))
      (by_entry (Rng p l h) r)

  lengths_met : (p : Path) (l h m k : ℤ) → Said table (LenRng p l h) → Said table (LenRng p m k) → Said table (LenRng p (int_max l m) (int_min h k))
  lengths_met p l h m k r s =
      ⊎_elim
      (λ d. ⊎_elim
      (λ e. inl (omega (arith, ints, clamps, d.0, e.0), omega (arith, ints, clamps, d.1, e.1)))
      (λ y. from_entry (LenRng p (int_max l m) (int_min h k)) y.0 y.1 (covers_covers y.0 _ _ y.2
      (covers.len_rng p (int_max m (pos 0)) (int_min k greatest_int) (int_max (int_max l m) (pos 0)) (int_min (int_min h k) greatest_int) (omega (arith, ints, clamps, d.0)) (omega (arith, ints, clamps, d.1)))))
      (by_entry (LenRng p m k) s))
      (λ x. ⊎_elim
      (λ e. from_entry (LenRng p (int_max l m) (int_min h k)) x.0 x.1 (covers_covers x.0 _ _ x.2
      (covers.len_rng p (int_max l (pos 0)) (int_min h greatest_int) (int_max (int_max l m) (pos 0)) (int_min (int_min h k) greatest_int) (omega (arith, ints, clamps, e.0)) (omega (arith, ints, clamps, e.1)))))
      (λ y.
      let first = LenRng p (int_max l (pos 0)) (int_min h greatest_int) in
      let second = LenRng p (int_max m (pos 0)) (int_min k greatest_int) in
      let key : AtKey first second = keys.len_rng p (int_max l (pos 0)) (int_min h greatest_int) (int_max m (pos 0)) (int_min k greatest_int) in
      let same : y.0 ≡ x.0 = sym (one_of x.0 y.0 first second x.1 y.1 x.2 y.2 key) in
      from_entry (LenRng p (int_max l m) (int_min h k)) x.0 x.1 (covers_covers x.0 _ _ (met_covered first second x.0 key x.2 (subst (λ z. Covers z second) same y.2))
      (covers.len_rng p (int_max (int_max l (pos 0)) (int_max m (pos 0))) (int_min (int_min h greatest_int) (int_min k greatest_int)) (int_max (int_max l m) (pos 0)) (int_min (int_min h k) greatest_int) (omega (arith, ints, clamps)) (omega (arith, ints, clamps)))))
      (by_entry (LenRng p m k) s))
      (by_entry (LenRng p l h) r)

  module _ (facts : List Fact) (all : (f : Fact) → IsIn f facts → Said table f) where
    -- a table that says the facts says all that they say together
    pub merges_said : (f : Fact) → Merges facts f → Said table f
    merges_said _ (given f i) = all f i
    merges_said _ (weaker g f c r) = said_weaker table g f c (merges_said g r)
    merges_said _ (any_int p) = inl (omega (arith, ints), omega (arith, ints))
    merges_said _ (any_size a) = inl (omega (arith, ints), omega (arith, ints))
    merges_said _ (met p l h m k r s) = ranges_met p l h m k (merges_said (Rng p l h) r) (merges_said (Rng p m k) s)
    merges_said _ (len_met a l h m k r s) = lengths_met a l h m k (merges_said (LenRng a l h) r) (merges_said (LenRng a m k) s)
    merges_said _ (turned a b r) = said_turned table (Same a b) (Same b a) (inr (inl refl)) (merges_said (Same a b) r)
    merges_said _ (sum_turned t y z r) = said_turned table (Sum t y z) (Sum t z y) (inr (inl refl)) (merges_said (Sum t y z) r)
    merges_said _ (upper_turned p a q c r) = said_turned table (Upper p a (Plus q) c) (Upper q a (Plus p) c) (inr (inl refl)) (merges_said (Upper p a (Plus q) c) r)

    pub table_is : ((f : Fact) → IsIn f table → Merges facts f) → IsTable facts table
    table_is only = record { says = merges_said; only = only; tells = λ f i. (may_stand f (table_each own table form f i).1).tells }

-- ---- facts that say the same

-- where each fact of the second list is said, all that it says is
pub all_said : (strong weak : List Fact) → ((f : Fact) → IsIn f weak → Said strong f) → SaysAll strong weak
all_said strong weak all f said =
    ⊎_elim
    (λ d. inl d)
    (λ x. let y = from_in_orders x.0 weak x.1 in said_weaker strong x.0 f x.2 (said_turned strong y.0 x.0 y.2 (all y.0 y.1)))
    said

-- what two lists say in common is above both, and below all that is above both
pub common_above : (first second common other : List Fact) → IsCommon first second common → SaysAll first other → SaysAll second other → SaysAll common other
common_above first second common other is up more f said = is.both f (up f said) (more f said)

pub above_left : (first second common : List Fact) → IsCommon first second common → SaysAll first common
above_left first second common is = all_said first common is.left

pub above_right : (first second common : List Fact) → IsCommon first second common → SaysAll second common
above_right first second common is = all_said second common is.right

-- ---- the rank

low_monotone : (m n : ℤ) → m ≤ℤ n → low_within m ≤ℤ low_within n
low_monotone m n h = omega (arith, ints, clamps, h)

high_monotone : (m n : ℤ) → m ≤ℤ n → high_within m ≤ℤ high_within n
high_monotone m n h = omega (arith, ints, clamps, h)

low_from : (n : ℤ) → least_int ≤ℤ low_within n
low_from n = omega (arith, ints, clamps)

high_to : (n : ℤ) → high_within n ≤ℤ greatest_int
high_to n = omega (arith, ints, clamps)

falls_by : (a b c d : ℤ) → least_int ≤ℤ c → d ≤ℤ greatest_int → c ≤ℤ a → b ≤ℤ d → unsigned_abs (c -ℤ least_int) + unsigned_abs (greatest_int -ℤ d) ≤ unsigned_abs (a -ℤ least_int) + unsigned_abs (greatest_int -ℤ b)
falls_by a b c d x y p q = omega (arith, ints, x, y, p, q)

level_by : (a b c d : ℤ) → least_int ≤ℤ c → d ≤ℤ greatest_int → c ≤ℤ a → b ≤ℤ d → unsigned_abs (a -ℤ least_int) + unsigned_abs (greatest_int -ℤ b) ≤ unsigned_abs (c -ℤ least_int) + unsigned_abs (greatest_int -ℤ d) → (a ≤ℤ c) × (d ≤ℤ b)
level_by a b c d x y p q h = (omega (arith, ints, x, y, p, q, h), omega (arith, ints, x, y, p, q, h))

pub numbers_laws : LatticeLaws NumbersBelow numbers_rank
numbers_laws = record {
  reflexive = λ a. (omega (arith, ints), omega (arith, ints));
  transitive = λ a b c p q. (omega (arith, ints, p.0, q.0), omega (arith, ints, p.1, q.1));
  falls = λ a b p. falls_by (low_within (low_end a)) (high_within (high_end a)) (low_within (low_end b)) (high_within (high_end b)) (low_from (low_end b)) (high_to (high_end b)) p.0 p.1;
  level = λ a b p h. level_by (low_within (low_end a)) (high_within (high_end a)) (low_within (low_end b)) (high_within (high_end b)) (low_from (low_end b)) (high_to (high_end b)) p.0 p.1 h;
}

-- what covers has numbers that say no less
no_low : low_within (pos 0) ≤ℤ low_within (pos 0)
no_low = low_monotone (pos 0) (pos 0) (omega (arith, ints))

no_end : high_within (pos 0) ≤ℤ high_within (pos 0)
no_end = high_monotone (pos 0) (pos 0) (omega (arith, ints))

covers_numbers : (g f : Fact) → Covers g f → NumbersBelow g f
covers_numbers _ _ (covers.rng p l h m k x y) = (low_monotone m l x, high_monotone h k y)
covers_numbers _ _ (covers.len_rng p l h m k x y) = (low_monotone m l x, high_monotone h k y)
covers_numbers _ _ (covers.low p c d x) = (low_monotone d c x, no_end)
covers_numbers _ _ (covers.same a b) = (no_low, no_end)
covers_numbers _ _ (covers.is_len p a) = (no_low, no_end)
covers_numbers _ _ (covers.less p q c d x) = (no_low, high_monotone c d x)
covers_numbers _ _ (covers.sum t y z) = (no_low, no_end)
covers_numbers _ _ (covers.search p a) = (no_low, no_end)
covers_numbers _ _ (covers.neg p a) = (no_low, no_end)
covers_numbers _ _ (covers.upper p a o c d x) = (low_monotone d c x, no_end)

-- the ends of an entry are within the ints as they are
low_order : (l m : ℤ) → least_int ≤ℤ l → least_int ≤ℤ m → low_within m ≤ℤ low_within l → m ≤ℤ l
low_order l m a b x = omega (arith, ints, clamps, a, b, x)

high_order : (h k : ℤ) → h ≤ℤ greatest_int → k ≤ℤ greatest_int → high_within h ≤ℤ high_within k → h ≤ℤ k
high_order h k a b x = omega (arith, ints, clamps, a, b, x)

ranges_order : (least l h m k : ℤ) → least_int ≤ℤ least → (int_le least l && int_le h greatest_int) ≡ true → (int_le least m && int_le k greatest_int) ≡ true
    → low_within m ≤ℤ low_within l → high_within h ≤ℤ high_within k → (m ≤ℤ l) × (h ≤ℤ k)
ranges_order least l h m k from s t x y =
    let a = two_ends least greatest_int l h s in
    let b = two_ends least greatest_int m k t in
    (low_order l m (omega (arith, ints, from, a.0)) (omega (arith, ints, from, b.0)) x, high_order h k a.1 b.1 y)

lows_order : (a b c d : ℤ) → least_int ≤ℤ a → (int_le a c && int_le c b) ≡ true → (int_le a d && int_le d b) ≡ true → low_within d ≤ℤ low_within c → d ≤ℤ c
lows_order a b c d from s t x = low_order c d (omega (arith, ints, from, (two_ends a b c c s).0)) (omega (arith, ints, from, (two_ends a b d d t).0)) x

highs_order : (c d : ℤ) → (int_le least_int c && int_le c greatest_int) ≡ true → (int_le least_int d && int_le d greatest_int) ≡ true → high_within c ≤ℤ high_within d → c ≤ℤ d
highs_order c d s t x = high_order c d (two_ends least_int greatest_int c c s).1 (two_ends least_int greatest_int d d t).1 x

numbers_cover : (g f : Fact) → AtKey g f → has_ends g ≡ true → has_ends f ≡ true → NumbersBelow g f → Covers g f
numbers_cover _ _ (keys.rng p l h m k) s t n = let x = ranges_order least_int l h m k (omega (arith, ints)) s t n.0 n.1 in covers.rng p l h m k x.0 x.1
numbers_cover _ _ (keys.len_rng p l h m k) s t n = let x = ranges_order (pos 0) l h m k (omega (arith, ints)) s t n.0 n.1 in covers.len_rng p l h m k x.0 x.1
numbers_cover _ _ (keys.low p c d) s t n = covers.low p c d (lows_order (negsuc 0) (pos 1) c d (omega (arith, ints)) s t n.0)
numbers_cover _ _ (keys.same a b) s t n = covers.same a b
numbers_cover _ _ (keys.is_len p a) s t n = covers.is_len p a
numbers_cover _ _ (keys.less p q c d) s t n = covers.less p q c d (highs_order c d s t n.1)
numbers_cover _ _ (keys.sum u y z) s t n = covers.sum u y z
numbers_cover _ _ (keys.search p a) s t n = covers.search p a
numbers_cover _ _ (keys.neg p a) s t n = covers.neg p a
numbers_cover _ _ (keys.upper p a o c d) s t n = covers.upper p a o c d (lows_order least_int greatest_int c d (omega (arith, ints)) s t n.0)

-- look-ups find the facts at a key
found_in : (facts : List Fact) (key f : Fact) → fact_at fact_cmp (keyed facts) key ≡ Some f → IsIn f facts × AtKey key f
found_in [] key f e = absurd cc
found_in (x ∷ facts) key f e =
    by_test (is_eq (fact_cmp key x))
    (λ t.
    let found : Some x ≡ Some f = rw t at e in
    let is : x ≡ f = cc in
    (inl (sym is), subst (AtKey key) is (at_key key x t)))
    (λ t. let y = found_in facts key f (rw t at e) in (inr y.0, y.1))

in_found : (facts : List Fact) → rises facts ≡ true → (key f : Fact) → IsIn f facts → AtKey key f → fact_at fact_cmp (keyed facts) key ≡ Some f
in_found [] r key f i k = absurd i
in_found (x ∷ facts) r key f i k =
    by_test (is_eq (fact_cmp key x))
    (λ t.
    let same : x ≡ f = one_at_key (x ∷ facts) r x f (inl refl) i (key_on x key f (key_back key x (at_key key x t)) k) in
    rw t (ap Some same))
    (λ t.
    let rest : IsIn f facts = ⊎_elim (λ e. absurd (false≢true (sym t ∙ ap is_eq (ap (fact_cmp key) (sym e) ∙ key_equal key f k)))) (λ j. j) i in
    rw t (in_found facts (rises_parts x facts r).1 key f rest k))

below_keyed : (low high : FactTable) → TableBelow low high → FactsBelow fact_cmp NumbersBelow (keyed (facts_of low)) (keyed (facts_of high))
below_keyed low high below key f found =
    let x = found_in (facts_of high) key f found in
    let y = entry_covered low.kind (facts_of low) low.form f (table_each high.kind (facts_of high) high.form f x.0).1 (below f (said_itself (facts_of high) f x.0)) in
    (y.0, in_found (facts_of low) (table_rises low.kind (facts_of low) low.form) key y.0 y.1 (key_on key f y.0 x.1 (key_back y.0 f (covers_key y.0 f y.2))), covers_numbers y.0 f y.2)

keyed_below : (low high : FactTable) → FactsBelow fact_cmp NumbersBelow (keyed (facts_of low)) (keyed (facts_of high)) → TableBelow low high
keyed_below low high below = all_said (facts_of low) (facts_of high) (λ f i.
    let x = below f f (in_found (facts_of high) (table_rises high.kind (facts_of high) high.form) f f i (at_key f f (ap is_eq (tied_itself fact_total f)))) in
    let y = found_in (facts_of low) f x.0 x.1 in
    let mine = entry_parts x.0 (table_each low.kind (facts_of low) low.form x.0 y.0).1 in
    let theirs = entry_parts f (table_each high.kind (facts_of high) high.form f i).1 in
    said_weaker (facts_of low) x.0 f (numbers_cover x.0 f (key_back f x.0 y.1) mine.ends theirs.ends x.2) (said_itself (facts_of low) x.0 y.0))

keyed_laws : LatticeLaws (FactsBelow fact_cmp NumbersBelow) (facts_rank {V = Fact} fact_cmp numbers_rank)
keyed_laws = facts_laws fact_total numbers_laws

pub table_laws : LatticeLaws TableBelow table_rank
table_laws = record {
  reflexive = λ a f said. said;
  transitive = λ a b c up more f said. up f (more f said);
  falls = λ a b up. keyed_laws.falls (keyed (facts_of a)) (keyed (facts_of b)) (below_keyed a b up);
  level = λ a b up back. keyed_below b a (keyed_laws.level (keyed (facts_of a)) (keyed (facts_of b)) (below_keyed a b up) back);
}

-- ---- what `System` asks of a table

pub all_own : (table : FactTable) (f : Fact) → IsIn f (facts_of table) → is_of table.kind f ≡ true
all_own table f i = (table_each table.kind (facts_of table) table.form f i).0

pub all_may : (table : FactTable) (f : Fact) → IsIn f (facts_of table) → MayStand f
all_may table f i = may_stand f (table_each table.kind (facts_of table) table.form f i).1

-- the table of one fact
pub one_entry : (own : Kind) (f : Fact) → is_of own f ≡ true → is_entry f ≡ true → is_table_of own (f ∷ []) ≡ true
one_entry own f kind is = table_from own (f ∷ []) refl (λ g i. ⊎_elim (λ e. subst (λ x. (is_of own x ≡ true) × (is_entry x ≡ true)) (sym e) (kind, is)) (λ x. absurd x) i)

abbrev only : (own : Kind) (f : Fact) → is_table_of own (f ∷ []) ≡ true → FactTable
only own f form = record { kind = own; facts = f ∷ []; form = form }

one_said : (facts : List Fact) (f : Fact) → Said facts f → SaysAll facts (f ∷ [])
one_said facts f said = all_said facts (f ∷ []) (λ x i. ⊎_elim (λ e. subst (Said facts) (sym e) said) (λ z. absurd z) i)

-- The table is below each table of the first's kind that is above both.
abbrev pub IsLeast : FactTable → FactTable → FactTable → Type 0
IsLeast first second join = (other : FactTable) → other.kind ≡ first.kind → TableBelow first other → TableBelow second other → TableBelow join other

module _ (first second join : FactTable) (least : IsLeast first second join) where
  -- what a fact of each covers, the join says
  common_said : (f g h : Fact) → IsIn g (facts_of first) → Covers g (entry_of f) → IsIn h (facts_of second) → Covers h (entry_of f) → Said (facts_of join) f
  common_said f g h i c j d =
      let key = key_on g (entry_of f) h (covers_key g (entry_of f) c) (key_back h (entry_of f) (covers_key h (entry_of f) d)) in
      let mine = table_each first.kind (facts_of first) first.form g i in
      let theirs = table_each second.kind (facts_of second) second.form h j in
      let covers_it = common_covers g h (entry_of f) key c d in
      by_test (is_default (meets.common g h))
      (λ t. inl (is_a_default f (sym (entry_default f) ∙ default_is (entry_of f) (default_weaker (meets.common g h) (entry_of f) covers_it (is_a_default (meets.common g h) t)))))
      (λ t.
      let own : is_of first.kind (meets.common g h) ≡ true = sym (key_kind first.kind g (meets.common g h) (common_key g h key)) ∙ mine.0 in
      let form = one_entry first.kind (meets.common g h) own (common_entry g h key mine.1 theirs.1 t) in
      let left = one_said (facts_of first) (meets.common g h) (said_weaker (facts_of first) g (meets.common g h) (common_left g h key) (said_itself (facts_of first) g i)) in
      let right = one_said (facts_of second) (meets.common g h) (said_weaker (facts_of second) h (meets.common g h) (common_right g h key) (said_itself (facts_of second) h j)) in
      let said = least (only first.kind (meets.common g h) form) refl left right (meets.common g h) (said_itself (meets.common g h ∷ []) (meets.common g h) (inl refl)) in
      entry_said (facts_of join) f (said_weaker (facts_of join) (meets.common g h) (entry_of f) covers_it said))

  -- A table that is above two, and below each table of their kind that is above both, says what both say.
  pub common_part : TableBelow first join → TableBelow second join → IsCommon (facts_of first) (facts_of second) (facts_of join)
  common_part up more = record {
    both = λ f x y.
        ⊎_elim
        (λ d. inl d)
        (λ g. ⊎_elim (λ d. inl d) (λ h. common_said f g.0 h.0 g.1 g.2 h.1 h.2) (by_entry second.kind (facts_of second) second.form f y))
        (by_entry first.kind (facts_of first) first.form f x);
    left = λ f i. up f (said_itself (facts_of join) f i);
    right = λ f i. more f (said_itself (facts_of join) f i);
    tells = λ f i. (all_may join f i).tells;
  }
