-- Beside closed facts and new plain ones, the classes of new ranges and negative answers are all that follows.
use Rattle.std.specs.Prelude.{◌≡◌, ◌⊎◌, Bool, true, false, ◌||◌, ℤ, pos, negsuc, ◌≤ℤ◌, int_le, List, [], ◌∷◌, ◌++◌, refl}
use Rattle.std.specs.Int.{int_min}
use Rattle.std.proofs.Common.{arith, inl, inr, ap, sym, ◌∙◌, subst, ⊎_elim}
use Rattle.std.proofs.lemmas.Bool.{false≢true, and_parts}
use Rattle.std.proofs.lemmas.Int.{ints, clamps}
use Rattle.ix_core.specs.declared.fact.Path.{Path}
use Rattle.ix_core.specs.declared.fact.PathOff.TheVariants.{Nothing, Plus, Minus}
use Rattle.ix_core.specs.declared.fact.Fact.{Fact}
use Rattle.ix_core.specs.declared.fact.Fact.TheVariants.{Rng, LenRng, Low, Same, IsLen, Less, Sum, Search, Neg, Upper}
use Rattle.ix_facts.specs.declared.kind.Kind.TheVariants as kind
use Rattle.ix_facts.specs.Bounds.{range_high}
use Rattle.ix_facts.specs.Facts.{IsIn, Covers, rng, len_rng, low, same, is_len, less, sum, search, neg, upper, orders, in_orders}
use Rattle.ix_facts.specs.Closure.{Follows, Said}
use Rattle.ix_facts.specs.Closure as closure
use Rattle.ix_facts.specs.Exact.{each}
use Rattle.ix_facts.specs.Kinds.{is_of, of_kind}
use Rattle.ix_facts.specs.PathOrder.{path_itself}
use Rattle.ix_facts.specs.Systems.{HaveClasses, Merges}
use Rattle.ix_facts.specs.Systems as merges
use Rattle.ix_facts.proofs.ClosureLaws.{said_follows}
use Rattle.ix_facts.proofs.FactLists.{in_left, in_right, in_either, from_in_orders}
use Rattle.ix_facts.proofs.SaidLaws.{said_itself, said_weaker, in_each, from_each}
use Rattle.ix_facts.proofs.SystemLaws.{default_merges, in_orders_merges}
use Rattle.ix_core.proofs.Cases.{by_test}
use Rattle.ix_fact_table.proofs.OneKind.{from_kind}
use Rattle.ix_fact_table.specs.Saturated.{IsSaturated, negative_of, class_of}
use Rattle.ix_fact_table.specs.Beside.{is_plain, are_plain, is_range_of, has_range, new_class_of, beside, AreBeside}
use Rattle.ix_fact_table.proofs.ClassesOfInts.{negative_class, class_class}
use Rattle.ix_fact_table.proofs.OverLabels.{three}
use Rattle.ix_fact_table.proofs.Members.{in_kind, if_true, so_in, merges_more}
use Rattle.ix_fact_table.proofs.RangesMet.{IsBelowZero, range_stored, low_stored, follows_range, follows_negative, follows_class}

-- ---- new facts

plain_in : (new : List Fact) (f : Fact) → are_plain new ≡ true → IsIn f new → is_plain f ≡ true
plain_in [] f t i = absurd i
plain_in (g ∷ new) f t i = let x = and_parts (is_plain g) (are_plain new) t in ⊎_elim (λ e. ap is_plain e ∙ x.0) (λ j. plain_in new f x.1 j) i

right_false : (a b : Bool) → (a || b) ≡ false → b ≡ false
right_false true b e = absurd (false≢true (sym e))
right_false false b e = e

left_false : (a b : Bool) → (a || b) ≡ false → a ≡ false
left_false true b e = e
left_false false b e = refl

-- where no new fact is a range of the int, none is
no_range_in : (new : List Fact) (p : Path) (l h : ℤ) → has_range new p ≡ false → IsIn (Rng p l h) new → ⊥
no_range_in [] p l h n i = absurd i
no_range_in (g ∷ new) p l h n i =
    ⊎_elim
    (λ e. false≢true (sym (left_false (is_range_of p g) (has_range new p) n) ∙ (ap (is_range_of p) (sym e) ∙ path_itself p)))
    (λ j. no_range_in new p l h (right_false (is_range_of p g) (has_range new p) n) j)
    i

class_from_range : (new : List Fact) (g f : Fact) → IsIn f (new_class_of new g) → IsIn f (class_of g)
class_from_range new (Rng p l h) f i = by_test (has_range new p) (λ t. rw t at i) (λ t. absurd (rw t at i))
class_from_range new (LenRng a l h) f i = absurd i
class_from_range new (Low p c) f i = absurd i
class_from_range new (Same a b) f i = absurd i
class_from_range new (IsLen p a) f i = absurd i
class_from_range new (Less p q c) f i = absurd i
class_from_range new (Sum t y z) f i = absurd i
class_from_range new (Search p a) f i = absurd i
class_from_range new (Neg p a) f i = absurd i
class_from_range new (Upper p a o c) f i = absurd i

-- an answer of a search stands in one order alone
search_order : (p a : Path) (f : Fact) (facts : List Fact) → IsIn f facts → IsIn (Search p a) (orders f) → IsIn (Search p a) facts
search_order p a (Search q b) facts i o = ⊎_elim (λ e. subst (λ g. IsIn g facts) (sym e) i) (λ n. absurd n) o
search_order p a (Rng q n j) facts i o = ⊎_elim (λ e. absurd cc) (λ n. absurd n) o
search_order p a (LenRng q n j) facts i o = ⊎_elim (λ e. absurd cc) (λ n. absurd n) o
search_order p a (Low q c) facts i o = ⊎_elim (λ e. absurd cc) (λ n. absurd n) o
search_order p a (IsLen q b) facts i o = ⊎_elim (λ e. absurd cc) (λ n. absurd n) o
search_order p a (Less q r c) facts i o = ⊎_elim (λ e. absurd cc) (λ n. absurd n) o
search_order p a (Neg q b) facts i o = ⊎_elim (λ e. absurd cc) (λ n. absurd n) o
search_order p a (Same b c) facts i o = ⊎_elim (λ e. absurd cc) (λ n. ⊎_elim (λ e. absurd cc) (λ x. absurd x) n) o
search_order p a (Sum t y z) facts i o = ⊎_elim (λ e. absurd cc) (λ n. ⊎_elim (λ e. absurd cc) (λ x. absurd x) n) o
search_order p a (Upper q b Nothing c) facts i o = ⊎_elim (λ e. absurd cc) (λ n. absurd n) o
search_order p a (Upper q b (Plus r) c) facts i o = ⊎_elim (λ e. absurd cc) (λ n. ⊎_elim (λ e. absurd cc) (λ x. absurd x) n) o
search_order p a (Upper q b (Minus r) c) facts i o = ⊎_elim (λ e. absurd cc) (λ n. absurd n) o

covers_search : (g : Fact) (p a : Path) → Covers g (Search p a) → g ≡ Search p a
covers_search _ p a (search _ _) = refl

search_in : (facts : List Fact) (p a : Path) → Said facts (Search p a) → IsIn (Search p a) facts
search_in facts p a said =
    ⊎_elim
    (λ d. absurd d)
    (λ x.
    let o = from_in_orders (Search p a) facts (subst (λ g. IsIn g (in_orders facts)) (covers_search x.0 p a x.2) x.1) in
    search_order p a o.0 facts o.1 o.2)
    said

-- ---- classes of ints

pub beside_classes : (new ranges searches : List Fact) → HaveClasses (beside new ranges searches)
beside_classes new ranges searches f i =
    ⊎_elim
    (λ j. let x = from_each (negative_of ranges) f searches j in negative_class ranges x.0 f x.2)
    (λ j. let x = from_each (new_class_of new) f ranges j in class_class x.0 f (class_from_range new x.0 f x.2))
    (in_either f (each (negative_of ranges) searches) (each (new_class_of new) ranges) i)

-- ---- the list as it is made

pub beside_made : (new ranges searches none negatives all : List Fact) → none ≡ [] → negatives ≡ none ++ each (negative_of ranges) searches → all ≡ negatives ++ each (new_class_of new) ranges → all ≡ beside new ranges searches
beside_made new ranges searches none negatives all a b c = three none negatives all [] (each (negative_of ranges) searches) (each (new_class_of new) ranges) a b c

-- ---- none of them is a range

negative_kind : (ranges : List Fact) (g f : Fact) → IsIn f (negative_of ranges g) → is_of kind.Range f ≡ false
negative_kind ranges (Search p a) f j = ap (is_of kind.Range) (if_true (int_le (range_high ranges p) (negsuc 0)) f (Neg p a) j).1
negative_kind ranges (Rng p l h) f j = absurd j
negative_kind ranges (LenRng p l h) f j = absurd j
negative_kind ranges (Low p c) f j = absurd j
negative_kind ranges (Same a b) f j = absurd j
negative_kind ranges (IsLen p a) f j = absurd j
negative_kind ranges (Less p q c) f j = absurd j
negative_kind ranges (Sum t y z) f j = absurd j
negative_kind ranges (Neg p a) f j = absurd j
negative_kind ranges (Upper p a o c) f j = absurd j

class_kind : (g f : Fact) → IsIn f (class_of g) → is_of kind.Range f ≡ false
class_kind (Rng p l h) f j = ap (is_of kind.Range) (if_true (int_le (negsuc 0) l) f (Low p (int_min l (pos 1))) j).1
class_kind (LenRng p l h) f j = absurd j
class_kind (Low p c) f j = absurd j
class_kind (Same a b) f j = absurd j
class_kind (IsLen p a) f j = absurd j
class_kind (Less p q c) f j = absurd j
class_kind (Sum t y z) f j = absurd j
class_kind (Search p a) f j = absurd j
class_kind (Neg p a) f j = absurd j
class_kind (Upper p a o c) f j = absurd j

none_of : (facts : List Fact) → ((f : Fact) → IsIn f facts → is_of kind.Range f ≡ false) → of_kind kind.Range facts ≡ []
none_of [] none = refl
none_of (f ∷ facts) none = rw (none f (inl refl)) (none_of facts (λ g i. none g (inr i)))

pub beside_no_range : (new ranges searches : List Fact) → of_kind kind.Range (beside new ranges searches) ≡ []
beside_no_range new ranges searches =
    none_of (beside new ranges searches)
    (λ f i.
    ⊎_elim
    (λ j. let x = from_each (negative_of ranges) f searches j in negative_kind ranges x.0 f x.2)
    (λ j. let x = from_each (new_class_of new) f ranges j in class_kind x.0 f (class_from_range new x.0 f x.2))
    (in_either f (each (negative_of ranges) searches) (each (new_class_of new) ranges) i))

module _ (known new ranges searches : List Fact) (are : AreBeside known new ranges searches) where
  abbrev all : List Fact
  all = known ++ new

  abbrev more : List Fact
  more = known ++ (new ++ beside new ranges searches)

  -- ---- members

  known_more : (f : Fact) → IsIn f known → IsIn f more
  known_more f i = in_left f known _ i

  new_more : (f : Fact) → IsIn f new → IsIn f more
  new_more f i = in_right f known _ (in_left f new _ i)

  beside_more : (f : Fact) → IsIn f (beside new ranges searches) → IsIn f more
  beside_more f i = in_right f known _ (in_right f new _ i)

  all_more : (f : Fact) → IsIn f all → IsIn f more
  all_more f i = ⊎_elim (λ j. known_more f j) (λ j. new_more f j) (in_either f known new i)

  -- what is no plain fact is a known one
  told_known : (f : Fact) → is_plain f ≡ false → IsIn f all → Said known f
  told_known f n i = ⊎_elim (λ j. said_itself known f j) (λ j. absurd (false≢true (sym n ∙ plain_in new f are.plain j))) (in_either f known new i)

  -- what follows from known facts by a rule
  by_rule : (f : Fact) → Follows known f → Said known f
  by_rule f r = are.closed f r

  whole : (f : Fact) → Said known f → Follows known f
  whole f said = said_follows known f said

  said_more : (f : Fact) → Said known f → Merges more f
  said_more f said =
      ⊎_elim (λ d. default_merges more f d) (λ x. merges.weaker x.0 f x.2 (in_orders_merges more known (λ g i. merges.given g (known_more g i)) x.0 x.1)) said

  -- ---- ranges of an int of which no new fact is one

  abbrev OfKnown : Path → Fact → Type 0
  OfKnown p (Rng q l h) = q ≡ p → Follows known (Rng q l h)
  OfKnown p _ = Unit {0}

  given_of_known : (p : Path) → has_range new p ≡ false → (f : Fact) → IsIn f (of_kind kind.Range all) → OfKnown p f
  given_of_known p n (Rng q l h) i = λ e.
      ⊎_elim
      (λ j. closure.given (Rng q l h) j)
      (λ j. absurd (no_range_in new p l h n (subst (λ r. IsIn (Rng r l h) new) e j)))
      (in_either (Rng q l h) known new (from_kind kind.Range (Rng q l h) all i))
  given_of_known p n (LenRng a l h) i = tt
  given_of_known p n (Low q c) i = tt
  given_of_known p n (Same a b) i = tt
  given_of_known p n (IsLen q a) i = tt
  given_of_known p n (Less q r c) i = tt
  given_of_known p n (Sum t y z) i = tt
  given_of_known p n (Search q a) i = tt
  given_of_known p n (Neg q a) i = tt
  given_of_known p n (Upper q a o c) i = tt

  weaker_of_known : (p : Path) (g f : Fact) → Covers g f → OfKnown p g → OfKnown p f
  weaker_of_known p _ _ (rng q l h m k x y) s = λ e. closure.weaker (Rng q l h) (Rng q m k) (rng q l h m k x y) (s e)
  weaker_of_known p _ _ (len_rng a l h m k x y) s = tt
  weaker_of_known p _ _ (low q c d x) s = tt
  weaker_of_known p _ _ (same a b) s = tt
  weaker_of_known p _ _ (is_len q a) s = tt
  weaker_of_known p _ _ (less q r c d x) s = tt
  weaker_of_known p _ _ (sum t y z) s = tt
  weaker_of_known p _ _ (search q a) s = tt
  weaker_of_known p _ _ (neg q a) s = tt
  weaker_of_known p _ _ (upper q a o c d x) s = tt

  of_known : (p : Path) → has_range new p ≡ false → (f : Fact) → Merges (of_kind kind.Range all) f → OfKnown p f
  of_known p n f (merges.given _ i) = given_of_known p n f i
  of_known p n f (merges.weaker g _ c r) = weaker_of_known p g f c (of_known p n g r)
  of_known p n _ (merges.any_int q) = λ e. closure.any_int q
  of_known p n _ (merges.any_size a) = tt
  of_known p n _ (merges.met q l h m k r s) = λ e. closure.met q l h m k (of_known p n (Rng q l h) r e) (of_known p n (Rng q m k) s e)
  of_known p n _ (merges.len_met a l h m k r s) = tt
  of_known p n _ (merges.turned a b r) = tt
  of_known p n _ (merges.sum_turned t y z r) = tt
  of_known p n _ (merges.upper_turned q a r c m) = tt

  -- ---- what each form of fact that follows shows

  abbrev Shown : Fact → Type 0
  Shown (Rng p l h) = Merges (of_kind kind.Range all) (Rng p l h)
  Shown (LenRng a l h) = Said known (LenRng a l h)
  Shown (Low p c) = Merges more (Low p c)
  Shown (Same a b) = Said known (Same a b)
  Shown (IsLen p a) = Said known (IsLen p a)
  Shown (Less p q c) = Merges more (Less p q c)
  Shown (Sum t y z) = Merges more (Sum t y z)
  Shown (Search p a) = Said known (Search p a)
  Shown (Neg p a) = Said known (Neg p a) ⊎ (Said known (Search p a) × IsBelowZero all p)
  Shown (Upper p a o c) = Merges more (Upper p a o c)

  given_shown : (f : Fact) → IsIn f all → Shown f
  given_shown (Rng p l h) i = merges.given (Rng p l h) (in_kind kind.Range (Rng p l h) all i refl)
  given_shown (LenRng a l h) i = told_known (LenRng a l h) refl i
  given_shown (Low p c) i = merges.given (Low p c) (all_more (Low p c) i)
  given_shown (Same a b) i = told_known (Same a b) refl i
  given_shown (IsLen p a) i = told_known (IsLen p a) refl i
  given_shown (Less p q c) i = merges.given (Less p q c) (all_more (Less p q c) i)
  given_shown (Sum t y z) i = merges.given (Sum t y z) (all_more (Sum t y z) i)
  given_shown (Search p a) i = told_known (Search p a) refl i
  given_shown (Neg p a) i = inl (told_known (Neg p a) refl i)
  given_shown (Upper p a o c) i = merges.given (Upper p a o c) (all_more (Upper p a o c) i)

  weaker_shown : (g f : Fact) → Covers g f → Shown g → Shown f
  weaker_shown _ _ (rng p l h m k x y) s = merges.weaker (Rng p l h) (Rng p m k) (rng p l h m k x y) s
  weaker_shown _ _ (len_rng a l h m k x y) s = said_weaker known (LenRng a l h) (LenRng a m k) (len_rng a l h m k x y) s
  weaker_shown _ _ (low p c d x) s = merges.weaker (Low p c) (Low p d) (low p c d x) s
  weaker_shown _ _ (same a b) s = s
  weaker_shown _ _ (is_len p a) s = s
  weaker_shown _ _ (less p q c d x) s = merges.weaker (Less p q c) (Less p q d) (less p q c d x) s
  weaker_shown _ _ (sum t y z) s = s
  weaker_shown _ _ (search p a) s = s
  weaker_shown _ _ (neg p a) s = s
  weaker_shown _ _ (upper p a o c d x) s = merges.weaker (Upper p a o c) (Upper p a o d) (upper p a o c d x) s

  -- the class of an int: by a range of which a part is new, or by known ones alone
  class_shown : (p : Path) (l h c : ℤ) → Merges (of_kind kind.Range all) (Rng p l h) → negsuc 0 ≤ℤ l → c ≤ℤ l → c ≤ℤ pos 1 → (Follows known (Rng p l h) → Follows known (Low p c)) → Merges more (Low p c)
  class_shown p l h c m from at one known_class =
      by_test (has_range new p)
      (λ t.
      ⊎_elim
      (λ d. absurd (omega (arith, ints, d.0, from)))
      (λ y.
      let above : negsuc 0 ≤ℤ y.0 = omega (arith, ints, y.3, from) in
      let own : IsIn (Low p (int_min y.0 (pos 1))) (new_class_of new (Rng p y.0 y.1)) = rw t (so_in (int_le (negsuc 0) y.0) (Low p (int_min y.0 (pos 1))) (grind (arith, ints, above))) in
      merges.weaker (Low p (int_min y.0 (pos 1))) (Low p c) (low p (int_min y.0 (pos 1)) c (omega (arith, ints, clamps, y.3, at, one)))
      (merges.given (Low p (int_min y.0 (pos 1)))
      (beside_more (Low p (int_min y.0 (pos 1))) (in_right (Low p (int_min y.0 (pos 1))) (each (negative_of ranges) searches) _ (in_each (new_class_of new) (Low p (int_min y.0 (pos 1))) (Rng p y.0 y.1) ranges y.2 own)))))
      (range_stored all ranges are.met p l h m))
      (λ t. said_more (Low p c) (by_rule (Low p c) (known_class (of_known p t (Rng p l h) m refl))))

  shows : (f : Fact) → Follows all f → Shown f
  shows f (closure.given _ i) = given_shown f i
  shows f (closure.weaker g _ c r) = weaker_shown g f c (shows g r)
  shows _ (closure.any_int p) = merges.any_int p
  shows _ (closure.any_size a) = by_rule _ (closure.any_size a)
  shows _ (closure.met p l h m k r s) = merges.met p l h m k (shows (Rng p l h) r) (shows (Rng p m k) s)
  shows _ (closure.len_met a l h m k r s) = by_rule _ (closure.len_met a l h m k (whole (LenRng a l h) (shows (LenRng a l h) r)) (whole (LenRng a m k) (shows (LenRng a m k) s)))
  shows _ (closure.class p l h r from one) = class_shown p l h l (shows (Rng p l h) r) from (omega (arith, ints)) one (λ k. closure.class p l h k from one)
  shows _ (closure.class_one p l h r from) = class_shown p l h (pos 1) (shows (Rng p l h) r) (omega (arith, ints, from)) from (omega (arith, ints)) (λ k. closure.class_one p l h k from)
  shows _ (closure.turned a b r) = by_rule _ (closure.turned a b (whole (Same a b) (shows (Same a b) r)))
  shows _ (closure.joined a b c r s) = by_rule _ (closure.joined a b c (whole (Same a b) (shows (Same a b) r)) (whole (Same b c) (shows (Same b c) s)))
  shows _ (closure.both_len p a b r s) = by_rule _ (closure.both_len p a b (whole (IsLen p a) (shows (IsLen p a) r)) (whole (IsLen p b) (shows (IsLen p b) s)))
  shows _ (closure.len_along a b l h r s) = by_rule _ (closure.len_along a b l h (whole (Same a b) (shows (Same a b) r)) (whole (LenRng a l h) (shows (LenRng a l h) s)))
  shows _ (closure.is_len_along p a b r s) = by_rule _ (closure.is_len_along p a b (whole (Same a b) (shows (Same a b) r)) (whole (IsLen p a) (shows (IsLen p a) s)))
  shows _ (closure.search_along p a b r s) = by_rule _ (closure.search_along p a b (whole (Same a b) (shows (Same a b) r)) (whole (Search p a) (shows (Search p a) s)))
  shows _ (closure.neg_along p a b r s) =
      let same = whole (Same a b) (shows (Same a b) r) in
      ⊎_elim
      (λ x. inl (by_rule _ (closure.neg_along p a b same (whole (Neg p a) x))))
      (λ x. inr (by_rule _ (closure.search_along p a b same (whole (Search p a) x.0)), x.1))
      (shows (Neg p a) s)
  shows _ (closure.neg_search p a r) = ⊎_elim (λ x. by_rule _ (closure.neg_search p a (whole (Neg p a) x))) (λ x. x.0) (shows (Neg p a) r)
  shows _ (closure.search_neg p a l h r s below) = inr (shows (Search p a) r, (l, h, shows (Rng p l h) s, below))
  shows _ (closure.sum_turned t y z r) = merges.sum_turned t y z (shows (Sum t y z) r)
  shows _ (closure.upper_turned p a q c r) = merges.upper_turned p a q c (shows (Upper p a (Plus q) c) r)

  -- ---- what is shown is merged

  negative_more : (p a : Path) → Said known (Search p a) → IsBelowZero all p → IsIn (Neg p a) more
  negative_more p a said below =
      beside_more (Neg p a)
      (in_left (Neg p a) (each (negative_of ranges) searches) _
      (in_each (negative_of ranges) (Neg p a) (Search p a) searches (are.answers p a (search_in known p a said)) (so_in (int_le (range_high ranges p) (negsuc 0)) (Neg p a) (low_stored all ranges are.met p below))))

  merged : (f : Fact) → Shown f → Merges more f
  merged (Rng p l h) s = merges_more (of_kind kind.Range all) more (λ g i. all_more g (from_kind kind.Range g all i)) (Rng p l h) s
  merged (LenRng a l h) s = said_more (LenRng a l h) s
  merged (Low p c) s = s
  merged (Same a b) s = said_more (Same a b) s
  merged (IsLen p a) s = said_more (IsLen p a) s
  merged (Less p q c) s = s
  merged (Sum t y z) s = s
  merged (Search p a) s = said_more (Search p a) s
  merged (Neg p a) s = ⊎_elim (λ x. said_more (Neg p a) x) (λ x. merges.given (Neg p a) (negative_more p a x.0 x.1)) s
  merged (Upper p a o c) s = s

  -- ---- each fact of the list follows

  follows_beside : (f : Fact) → IsIn f (beside new ranges searches) → Follows all f
  follows_beside f i =
      ⊎_elim
      (λ j.
      let x = from_each (negative_of ranges) f searches j in
      follows_negative all ranges are.met x.0 f (closure.given x.0 (in_left x.0 known new (are.only x.0 x.1))) x.2)
      (λ j.
      let x = from_each (new_class_of new) f ranges j in
      follows_class all ranges are.met x.0 f (follows_range all ranges are.met x.0 x.1) (class_from_range new x.0 f x.2))
      (in_either f (each (negative_of ranges) searches) (each (new_class_of new) ranges) i)

  follows_more : (f : Fact) → IsIn f more → Follows all f
  follows_more f i =
      ⊎_elim
      (λ j. closure.given f (in_left f known new j))
      (λ j. ⊎_elim (λ k. closure.given f (in_right f known new k)) (λ k. follows_beside f k) (in_either f new (beside new ranges searches) j))
      (in_either f known (new ++ beside new ranges searches) i)

  pub beside_saturated : IsSaturated all more
  beside_saturated = record {
    says = λ f r. merged f (shows f r);
    only = follows_more;
  }
