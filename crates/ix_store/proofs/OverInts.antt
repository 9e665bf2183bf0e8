-- The ints that a table's facts name are among those that it was made of, and what a step leaves names no changed path.
use Rattle.std.specs.Prelude.{◌≡◌, ◌⊎◌, ◌≤◌, ◌||◌, Bool, true, false, ℤ, List, [], ◌∷◌, ◌++◌, length, take, refl}
use Rattle.std.specs.Int.{int_min, int_max}
use Rattle.std.proofs.Common.{arith, inl, inr, ap, sym, ◌∙◌, subst, ⊎_elim, length-append}
use Rattle.std.proofs.lemmas.Bool.{false≢true}
use Rattle.std.proofs.lemmas.Int.{ints, clamps}
use Rattle.ix_num.specs.Ints.{least_int, greatest_int}
use Rattle.ix_core.specs.declared.fact.Path.{Path}
use Rattle.ix_core.specs.declared.fact.PathOff.{PathOff}
use Rattle.ix_core.specs.declared.fact.PathOff.TheVariants.{Nothing, Plus, Minus}
use Rattle.ix_core.specs.declared.fact.Fact.{Fact}
use Rattle.ix_core.specs.declared.fact.Fact.TheVariants.{Rng, LenRng, Low, Same, IsLen, Less, Sum, Search, Neg, Upper}
use Rattle.ix_core.proofs.Cases.{by_test}
use Rattle.ix_facts.specs.declared.kind.Kind.{Kind}
use Rattle.ix_facts.specs.declared.kind.Kind.TheVariants as kind
use Rattle.ix_facts.specs.Kinds.{is_of, of_kind}
use Rattle.ix_facts.specs.Closure.{IsCommon, AllTell}
use Rattle.ix_facts.specs.Exact.{ints_of, arrays_of, paths_of, offset_paths, named_ints, named_arrays}
use Rattle.ix_facts.specs.Facts.{IsIn, Covers, rng, len_rng, low, same, is_len, less, sum, search, neg, upper, is_default, orders, in_orders}
use Rattle.ix_facts.specs.Forget.{names, offset_names, without}
use Rattle.ix_facts.specs.Named.{IsAmongPaths}
use Rattle.ix_facts.specs.Systems.{Merges, given, weaker, any_int, any_size, met, len_met, turned, sum_turned, upper_turned, IsTable}
use Rattle.ix_facts.proofs.FactLists.{in_either, in_in_orders, covers_told}
use Rattle.ix_facts.proofs.FormLaws.{first_order}
use Rattle.ix_facts.proofs.Frame.{in_without}
use Rattle.ix_facts.proofs.SaidLaws.{default_is, is_a_default, told_in_orders}
use Rattle.ix_facts.proofs.SystemLaws.{of_any}
use Rattle.ix_facts.proofs.Tests.{neither}
use Rattle.ix_fact_paths.specs.ByPath.{put_all}
use Rattle.ix_bounds.specs.Ends.{is_end, ends_in}
use Rattle.ix_fact_paths.specs.NamedLaws.{AreAmong, named_by, names_it, named_either}
use Rattle.ix_fact_paths.specs.PutLaws.{IsRising, all_rise, all_stay, all_there}
use Rattle.ix_fact_paths.specs.ChangedPaths.{some_path, paths_beside}
use Rattle.ix_fact_paths.specs.Spared.{some_named, spared}
use Rattle.ix_fact_table.specs.FactOrder.{comes_before}
use Rattle.ix_fact_table.specs.TableLaws.{all_may}
use Rattle.ix_store.specs.declared.known.Known.{Known}
use Rattle.ix_store.specs.StoredFacts.{facts_in}

-- ---- a table of facts

covers_ints : (g f : Fact) → Covers g f → ints_of g ≡ ints_of f
covers_ints _ _ (rng p l h m k x y) = refl
covers_ints _ _ (len_rng p l h m k x y) = refl
covers_ints _ _ (low p c d x) = refl
covers_ints _ _ (same a b) = refl
covers_ints _ _ (is_len p a) = refl
covers_ints _ _ (less p q c d x) = refl
covers_ints _ _ (sum t y z) = refl
covers_ints _ _ (search p a) = refl
covers_ints _ _ (neg p a) = refl
covers_ints _ _ (upper p a o c d x) = refl

-- of two ranges met one tells something, where both together do
one_tells : (p : Path) (l h m k : ℤ) → is_default (Rng p (int_max l m) (int_min h k)) ≡ false → (is_default (Rng p l h) ≡ false) ⊎ (is_default (Rng p m k) ≡ false)
one_tells p l h m k n =
    by_test (is_default (Rng p l h))
    (λ t. by_test (is_default (Rng p m k))
    (λ u.
    let x = is_a_default (Rng p l h) t in
    let y = is_a_default (Rng p m k) u in
    absurd (false≢true (sym n ∙ default_is (Rng p (int_max l m) (int_min h k)) (omega (arith, ints, clamps, x.0, y.0), omega (arith, ints, clamps, x.1, y.1)))))
    (λ u. inr u))
    (λ t. inl t)

module _ (facts : List Fact) (p : Path) where
  merged_named : (f : Fact) → Merges facts f → is_default f ≡ false → IsAmongPaths p (ints_of f) → IsAmongPaths p (named_ints facts)
  merged_named f (given _ i) n j = names_it ints_of p facts f i j
  merged_named f (weaker g _ c m) n j = merged_named g m (covers_told g f c n) (subst (IsAmongPaths p) (sym (covers_ints g f c)) j)
  merged_named _ (any_int q) n j = absurd (false≢true (sym n ∙ default_is (Rng q least_int greatest_int) (omega (arith, ints), omega (arith, ints))))
  merged_named _ (any_size a) n j = absurd j
  merged_named _ (met q l h m k r s) n j = ⊎_elim (λ t. merged_named (Rng q l h) r t j) (λ t. merged_named (Rng q m k) s t j) (one_tells q l h m k n)
  merged_named _ (len_met a l h m k r s) n j = absurd j
  merged_named _ (turned a b m) n j = absurd j
  merged_named _ (sum_turned t y z m) n j =
      merged_named (Sum t y z) m refl (⊎_elim (λ e. inl e) (λ i. ⊎_elim (λ e. inr (inr (inl e))) (λ x. ⊎_elim (λ e. inr (inl e)) (λ none. absurd none) x) i) j)
  merged_named _ (upper_turned q a r c m) n j =
      merged_named (Upper q a (Plus r) c) m refl (⊎_elim (λ e. inr (inl e)) (λ i. ⊎_elim (λ e. inl e) (λ none. absurd none) i) j)

pub table_named : (facts table : List Fact) → IsTable facts table → (p : Path) → IsAmongPaths p (named_ints table) → IsAmongPaths p (named_ints facts)
table_named facts table is p i = let f = named_by ints_of p table i in merged_named facts p f.0 (is.only f.0 f.1) (is.tells f.0 f.1) f.2

-- ---- what is known

known_named : (of : Fact → List Path) (known : Known) (f : Fact) → IsIn f (facts_in known) → (p : Path) → IsAmongPaths p (of f) → IsAmongPaths p (paths_of of (in_orders (facts_in known)))
known_named of known f i p j = names_it of p (in_orders (facts_in known)) f (in_in_orders f f (facts_in known) i (first_order f) (all_may known.table f i).tells) j

pub fact_ints : (known : Known) (f : Fact) → IsIn f (facts_in known) → AreAmong (ints_of f) known.ints.items
fact_ints known f i p j = subst (IsAmongPaths p) (sym known.holds.each_int) (all_there (named_ints (in_orders (facts_in known))) [] p (known_named ints_of known f i p j))

pub fact_arrays : (known : Known) (f : Fact) → IsIn f (facts_in known) → AreAmong (arrays_of f) known.arrays.items
fact_arrays known f i p j = subst (IsAmongPaths p) (sym known.holds.each_array) (all_there (named_arrays (in_orders (facts_in known))) [] p (known_named arrays_of known f i p j))

pub known_ints : (known : Known) → AreAmong (named_ints (facts_in known)) known.ints.items
known_ints known p i = let f = named_by ints_of p (facts_in known) i in fact_ints known f.0 f.1 p f.2

pub known_rising : (known : Known) → IsRising known.ints.items
known_rising known = subst IsRising (sym known.holds.each_int) (all_rise (named_ints (in_orders (facts_in known))) [] tt)

-- the table with new facts
pub grown_among : (known : Known) (added table : List Fact) (own : Kind) → own ≡ kind.Any → IsTable (facts_in known ++ of_kind own added) table
    → AreAmong (named_ints table) (put_all known.ints.items (named_ints added))
grown_among known added table own any is p i =
    let all : IsTable (facts_in known ++ added) table = subst (λ l. IsTable (facts_in known ++ l) table) (ap (λ k. of_kind k added) any ∙ of_any added) is in
    ⊎_elim
    (λ j. all_stay (named_ints added) known.ints.items p (known_ints known p j))
    (λ j. all_there (named_ints added) known.ints.items p j)
    (named_either ints_of p (facts_in known) added (table_named (facts_in known ++ added) table all p i))

pub grown_rising : (known : Known) (added : List Fact) → IsRising (put_all known.ints.items (named_ints added))
grown_rising known added = all_rise (named_ints added) known.ints.items (known_rising known)

-- what both say
pub common_among : (known : Known) (second common : List Fact) → IsCommon (facts_in known) second common → AreAmong (named_ints common) known.ints.items
common_among known second common is p i =
    let f = named_by ints_of p common i in
    ⊎_elim
    (λ d. absurd (false≢true (sym (is.tells f.0 f.1) ∙ default_is f.0 d)))
    (λ g. subst (IsAmongPaths p) (sym known.holds.each_int) (all_there (named_ints (in_orders (facts_in known))) [] p (names_it ints_of p (in_orders (facts_in known)) g.0 g.1 (subst (IsAmongPaths p) (sym (covers_ints g.0 f.0 g.2)) f.2))))
    (is.left f.0 f.1)

-- ---- what a step leaves

module _ (is : Path → Bool) where
  -- a path that the fact names isn't changed, where no path is that it names
  no_offset : (o : PathOff) → offset_names is o ≡ false → (p : Path) → IsAmongPaths p (offset_paths o) → is p ≡ false
  no_offset Nothing n p i = absurd i
  no_offset (Plus q) n p i = ⊎_elim (λ e. ap is e ∙ n) (λ none. absurd none) i
  no_offset (Minus q) n p i = ⊎_elim (λ e. ap is e ∙ n) (λ none. absurd none) i

  one_of : (p q : Path) → is q ≡ false → (p ≡ q) ⊎ IsAmongPaths p [] → is p ≡ false
  one_of p q n i = ⊎_elim (λ e. ap is e ∙ n) (λ none. absurd none) i

  unchanged_int : (f : Fact) → names is f ≡ false → (p : Path) → IsAmongPaths p (ints_of f) → is p ≡ false
  unchanged_int (Rng q l h) n p i = one_of p q n i
  unchanged_int (LenRng a l h) n p i = absurd i
  unchanged_int (Low q c) n p i = one_of p q n i
  unchanged_int (Same a b) n p i = absurd i
  unchanged_int (IsLen q a) n p i = one_of p q (neither (is q) (is a) n).0 i
  unchanged_int (Less q r c) n p i = let x = neither (is q) (is r) n in ⊎_elim (λ e. ap is e ∙ x.0) (one_of p r x.1) i
  unchanged_int (Sum t y z) n p i =
      let x = neither (is t) (is y || is z) n in
      let u = neither (is y) (is z) x.1 in
      ⊎_elim (λ e. ap is e ∙ x.0) (λ j. ⊎_elim (λ e. ap is e ∙ u.0) (one_of p z u.1) j) i
  unchanged_int (Search q a) n p i = one_of p q (neither (is q) (is a) n).0 i
  unchanged_int (Neg q a) n p i = one_of p q (neither (is q) (is a) n).0 i
  unchanged_int (Upper q a o c) n p i =
      let x = neither (is q) (is a || offset_names is o) n in
      ⊎_elim (λ e. ap is e ∙ x.0) (no_offset o (neither (is a) (offset_names is o) x.1).1 p) i

  beside_there : (paths : List Path) (p : Path) → IsAmongPaths p paths → is p ≡ false → IsAmongPaths p (paths_beside is paths)
  beside_there [] p i n = absurd i
  beside_there (q ∷ paths) p i n =
      by_test (is q)
      (λ t. rw t (⊎_elim (λ e. absurd (false≢true (sym n ∙ (ap is e ∙ t)))) (λ j. beside_there paths p j n) i))
      (λ t. rw t (⊎_elim (λ e. inl e) (λ j. inr (beside_there paths p j n)) i))

  from_beside : (paths : List Path) → AreAmong (paths_beside is paths) paths
  from_beside [] p i = absurd i
  from_beside (q ∷ paths) p i =
      by_test (is q)
      (λ t. inr (from_beside paths p (rw t at i)))
      (λ t. ⊎_elim (λ e. inl e) (λ j. inr (from_beside paths p j)) (rw t at i))

  pub beside_rises : (paths : List Path) → IsRising paths → IsRising (paths_beside is paths)
  beside_rises [] r = tt
  beside_rises (q ∷ paths) r =
      by_test (is q) (λ t. rw t (beside_rises paths r.1)) (λ t. rw t ((λ p i. r.0 p (from_beside paths p i)), beside_rises paths r.1))

  pub left_among : (known : Known) → AreAmong (named_ints (without is (facts_in known))) (paths_beside is known.ints.items)
  left_among known p i =
      let f = named_by ints_of p (without is (facts_in known)) i in
      let kept = in_without is f.0 (facts_in known) f.1 in
      beside_there known.ints.items p (fact_ints known f.0 kept.0 p f.2) (unchanged_int f.0 kept.1 p f.2)

  -- where none of the paths is changed that the facts name
  none_of : (paths : List Path) → some_path is paths ≡ false → (p : Path) → IsAmongPaths p paths → is p ≡ false
  none_of [] n p i = absurd i
  none_of (q ∷ paths) n p i = let x = neither (is q) (some_path is paths) n in ⊎_elim (λ e. ap is e ∙ x.0) (none_of paths x.1 p) i

  no_offset_named : (o : PathOff) → ((p : Path) → IsAmongPaths p (offset_paths o) → is p ≡ false) → offset_names is o ≡ false
  no_offset_named Nothing n = refl
  no_offset_named (Plus q) n = n q (inl refl)
  no_offset_named (Minus q) n = n q (inl refl)

  names_none : (f : Fact) → ((p : Path) → IsAmongPaths p (ints_of f) → is p ≡ false) → ((p : Path) → IsAmongPaths p (arrays_of f) → is p ≡ false) → names is f ≡ false
  names_none (Rng q l h) n m = n q (inl refl)
  names_none (LenRng a l h) n m = m a (inl refl)
  names_none (Low q c) n m = n q (inl refl)
  names_none (Same a b) n m = rw (m a (inl refl)) (m b (inr (inl refl)))
  names_none (IsLen q a) n m = rw (n q (inl refl)) (m a (inl refl))
  names_none (Less q r c) n m = rw (n q (inl refl)) (n r (inr (inl refl)))
  names_none (Sum t y z) n m = rw (n t (inl refl)) (rw (n y (inr (inl refl))) (n z (inr (inr (inl refl)))))
  names_none (Search q a) n m = rw (n q (inl refl)) (m a (inl refl))
  names_none (Neg q a) n m = rw (n q (inl refl)) (m a (inl refl))
  names_none (Upper q a o c) n m = rw (n q (inl refl)) (rw (m a (inl refl)) (no_offset_named o (λ p i. n p (inr i))))

  none_named : (facts : List Fact) → ((f : Fact) → IsIn f facts → names is f ≡ false) → some_named is facts ≡ false
  none_named [] n = refl
  none_named (f ∷ facts) n = rw (n f (inl refl)) (none_named facts (λ g i. n g (inr i)))

  pub untouched : (known : Known) → some_path is known.ints.items ≡ false → some_path is known.arrays.items ≡ false → without is (facts_in known) ≡ facts_in known
  untouched known n m =
      spared is (facts_in known)
      (none_named (facts_in known) (λ f i. names_none f (λ p j. none_of known.ints.items n p (fact_ints known f i p j)) (λ p j. none_of known.arrays.items m p (fact_arrays known f i p j))))

-- ---- facts of one order

-- the fact has no other order
abbrev is_plain : Fact → Bool
is_plain (Same a b) = false
is_plain (Sum t y z) = false
is_plain (Upper p a (Plus q) c) = false
is_plain f = true

plain_is : (f : Fact) → is_plain f ≡ true → orders f ≡ f ∷ []
plain_is (Rng p l h) k = refl
plain_is (LenRng a l h) k = refl
plain_is (Low p c) k = refl
plain_is (Same a b) k = absurd (false≢true k)
plain_is (IsLen p a) k = refl
plain_is (Less p q c) k = refl
plain_is (Sum t y z) k = absurd (false≢true k)
plain_is (Search p a) k = refl
plain_is (Neg p a) k = refl
plain_is (Upper p a Nothing c) k = refl
plain_is (Upper p a (Plus q) c) k = absurd (false≢true k)
plain_is (Upper p a (Minus q) c) k = refl

-- what other orders it has
abbrev turned_of : Fact → List Fact
turned_of (Same a b) = Same b a ∷ []
turned_of (Sum t y z) = Sum t z y ∷ []
turned_of (Upper p a (Plus q) c) = Upper q a (Plus p) c ∷ []
turned_of f = []

orders_are : (f : Fact) → orders f ≡ f ∷ turned_of f
orders_are (Rng p l h) = refl
orders_are (LenRng a l h) = refl
orders_are (Low p c) = refl
orders_are (Same a b) = refl
orders_are (IsLen p a) = refl
orders_are (Less p q c) = refl
orders_are (Sum t y z) = refl
orders_are (Search p a) = refl
orders_are (Neg p a) = refl
orders_are (Upper p a Nothing c) = refl
orders_are (Upper p a (Plus q) c) = refl
orders_are (Upper p a (Minus q) c) = refl

none_turned : (f : Fact) → length (turned_of f) ≡ 0 → is_plain f ≡ true
none_turned (Rng p l h) k = refl
none_turned (LenRng a l h) k = refl
none_turned (Low p c) k = refl
none_turned (Same a b) k = absurd (omega (arith, k))
none_turned (IsLen p a) k = refl
none_turned (Less p q c) k = refl
none_turned (Sum t y z) k = absurd (omega (arith, k))
none_turned (Search p a) k = refl
none_turned (Neg p a) k = refl
none_turned (Upper p a Nothing c) k = refl
none_turned (Upper p a (Plus q) c) k = absurd (omega (arith, k))
none_turned (Upper p a (Minus q) c) k = refl

all_orders : (f : Fact) (facts : List Fact) → is_default f ≡ false → in_orders (f ∷ facts) ≡ f ∷ (turned_of f ++ in_orders facts)
all_orders f facts n = rw n (ap (λ l. l ++ in_orders facts) (orders_are f))

no_shorter : (facts : List Fact) → AllTell facts → length facts ≤ length (in_orders facts)
no_shorter [] tells = omega arith
no_shorter (f ∷ facts) tells =
    let rest = no_shorter facts (λ g i. tells g (inr i)) in
    let all = ap length (all_orders f facts (tells f (inl refl))) in
    let both = length-append (turned_of f) (in_orders facts) in
    omega (arith, rest, all, both)

same_tail : (f : Fact) (a b : List Fact) → f ∷ a ≡ f ∷ b → a ≡ b
same_tail f a b e = cc

each_plain : (facts : List Fact) → AllTell facts → in_orders facts ≡ facts → (f : Fact) → IsIn f facts → is_plain f ≡ true
each_plain [] tells whole f i = absurd i
each_plain (g ∷ facts) tells whole f i =
    let left = λ (x : Fact) (j : IsIn x facts). tells x (inr j) in
    let rest : turned_of g ++ in_orders facts ≡ facts = same_tail g _ _ (sym (all_orders g facts (tells g (inl refl))) ∙ whole) in
    let longer = no_shorter facts left in
    let both = length-append (turned_of g) (in_orders facts) in
    let sizes = ap length rest in
    let none : length (turned_of g) ≡ 0 = omega (arith, longer, both, sizes) in
    let plain = none_turned g none in
    ⊎_elim
    (λ e. ap is_plain e ∙ plain)
    (λ j. each_plain facts left (ap (λ l. l ++ in_orders facts) (sym (same_tail g _ _ (sym (orders_are g) ∙ plain_is g plain))) ∙ rest) f j)
    i

plain_orders : (facts : List Fact) → AllTell facts → ((f : Fact) → IsIn f facts → is_plain f ≡ true) → in_orders facts ≡ facts
plain_orders [] tells all = refl
plain_orders (f ∷ facts) tells all =
    rw (tells f (inl refl)) (ap (λ l. l ++ in_orders facts) (plain_is f (all f (inl refl))) ∙ ap (λ l. f ∷ l) (plain_orders facts (λ g i. tells g (inr i)) (λ g i. all g (inr i))))

known_tells : (known : Known) → AllTell (facts_in known)
known_tells known f i = (all_may known.table f i).tells

pub without_plain : (is : Path → Bool) (known : Known) → in_orders (facts_in known) ≡ facts_in known → in_orders (without is (facts_in known)) ≡ without is (facts_in known)
without_plain is known one =
    plain_orders (without is (facts_in known))
    (λ f i. known_tells known f (in_without is f (facts_in known) i).0)
    (λ f i. each_plain (facts_in known) (known_tells known) one f (in_without is f (facts_in known) i).0)

covers_plain : (g f : Fact) → Covers g f → is_plain g ≡ true → is_plain f ≡ true
covers_plain _ _ (rng p l h m k x y) n = refl
covers_plain _ _ (len_rng p l h m k x y) n = refl
covers_plain _ _ (low p c d x) n = refl
covers_plain _ _ (same a b) n = n
covers_plain _ _ (is_len p a) n = refl
covers_plain _ _ (less p q c d x) n = refl
covers_plain _ _ (sum t y z) n = n
covers_plain _ _ (search p a) n = refl
covers_plain _ _ (neg p a) n = refl
covers_plain _ _ (upper p a Nothing c d x) n = refl
covers_plain _ _ (upper p a (Plus q) c d x) n = n
covers_plain _ _ (upper p a (Minus q) c d x) n = refl

pub common_plain : (known : Known) (second common : List Fact) → IsCommon (facts_in known) second common → in_orders (facts_in known) ≡ facts_in known → in_orders common ≡ common
common_plain known second common is one =
    plain_orders common is.tells
    (λ f i.
    ⊎_elim
    (λ d. absurd (false≢true (sym (is.tells f i) ∙ default_is f d)))
    (λ g. covers_plain g.0 f g.2 (each_plain (facts_in known) (known_tells known) one g.0 (subst (IsIn g.0) one g.1)))
    (is.left f i))

module _ (facts : List Fact) (all : (g : Fact) → IsIn g facts → is_plain g ≡ true) where
  merged_plain : (f : Fact) → Merges facts f → is_plain f ≡ true
  merged_plain f (given _ i) = all f i
  merged_plain f (weaker g _ c m) = covers_plain g f c (merged_plain g m)
  merged_plain _ (any_int q) = refl
  merged_plain _ (any_size a) = refl
  merged_plain _ (met q l h m k r s) = refl
  merged_plain _ (len_met a l h m k r s) = refl
  merged_plain _ (turned a b m) = merged_plain (Same a b) m
  merged_plain _ (sum_turned t y z m) = merged_plain (Sum t y z) m
  merged_plain _ (upper_turned q a r c m) = merged_plain (Upper q a (Plus r) c) m

pub grown_plain : (known : Known) (added table : List Fact) (own : Kind) → own ≡ kind.Any → IsTable (facts_in known ++ of_kind own added) table
    → in_orders (facts_in known) ≡ facts_in known → in_orders added ≡ added → in_orders table ≡ table
grown_plain known added table own any is one more =
    let all : IsTable (facts_in known ++ added) table = subst (λ l. IsTable (facts_in known ++ l) table) (ap (λ k. of_kind k added) any ∙ of_any added) is in
    let tells : AllTell added = λ f i. told_in_orders added f (subst (IsIn f) (sym more) i) in
    let plain : (g : Fact) → IsIn g (facts_in known ++ added) → is_plain g ≡ true =
    λ g i. ⊎_elim (λ j. each_plain (facts_in known) (known_tells known) one g j) (λ j. each_plain added tells more g j) (in_either g (facts_in known) added i) in
    plain_orders table all.tells (λ f i. merged_plain (facts_in known ++ added) plain f (all.only f i))

-- ---- the parts of a table

no_arrays : (f : Fact) → is_of kind.Difference f ≡ true → arrays_of f ≡ []
no_arrays (Rng p l h) k = refl
no_arrays (LenRng a l h) k = absurd (false≢true k)
no_arrays (Low p c) k = refl
no_arrays (Same a b) k = absurd (false≢true k)
no_arrays (IsLen p a) k = absurd (false≢true k)
no_arrays (Less p q c) k = refl
no_arrays (Sum t y z) k = refl
no_arrays (Search p a) k = absurd (false≢true k)
no_arrays (Neg p a) k = absurd (false≢true k)
no_arrays (Upper p a o c) k = absurd (false≢true k)

pub differences_name_none : (facts : List Fact) → ((f : Fact) → IsIn f facts → is_of kind.Difference f ≡ true) → named_arrays facts ≡ []
differences_name_none [] all = refl
differences_name_none (f ∷ facts) all = ap (λ l. l ++ named_arrays facts) (no_arrays f (all f (inl refl))) ∙ differences_name_none facts (λ g i. all g (inr i))

no_ends : (facts : List Fact) → ((f : Fact) → IsIn f facts → comes_before 3 f ≡ false) → ends_in facts ≡ []
no_ends [] all = refl
no_ends (Rng p l h ∷ facts) all = absurd (false≢true (sym (all (Rng p l h) (inl refl))))
no_ends (LenRng a l h ∷ facts) all = absurd (false≢true (sym (all (LenRng a l h) (inl refl))))
no_ends (Low p c ∷ facts) all = absurd (false≢true (sym (all (Low p c) (inl refl))))
no_ends (Same a b ∷ facts) all = no_ends facts (λ g i. all g (inr i))
no_ends (IsLen p a ∷ facts) all = absurd (false≢true (sym (all (IsLen p a) (inl refl))))
no_ends (Less p q c ∷ facts) all = no_ends facts (λ g i. all g (inr i))
no_ends (Sum t y z ∷ facts) all = no_ends facts (λ g i. all g (inr i))
no_ends (Search p a ∷ facts) all = no_ends facts (λ g i. all g (inr i))
no_ends (Neg p a ∷ facts) all = no_ends facts (λ g i. all g (inr i))
no_ends (Upper p a o c ∷ facts) all = no_ends facts (λ g i. all g (inr i))

-- all ends stand at the front
pub front_ends : (first rest : List Fact) → ((f : Fact) → IsIn f rest → comes_before 3 f ≡ false) → ends_in (take (length first) (first ++ rest)) ≡ ends_in (first ++ rest)
front_ends [] rest all = sym (no_ends rest all)
front_ends (f ∷ first) rest all = by_test (is_end f) (λ t. rw t (ap (λ l. f ∷ l) (front_ends first rest all))) (λ t. rw t (front_ends first rest all))

pub front_within : (first rest : List Fact) → length first ≤ length (first ++ rest)
front_within [] rest = omega arith
front_within (f ∷ first) rest = let n = front_within first rest in omega (arith, n)
