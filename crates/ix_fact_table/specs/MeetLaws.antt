-- What two facts at one key say together is at least as strong as each, and follows from both; what both say is the strongest that each covers.
use Rattle.std.specs.Prelude.{◌≡◌, Bool, true, false, ◌&&◌, not, ℤ, pos, negsuc, ◌≤ℤ◌, int_le, List, refl}
use Rattle.std.specs.Int.{int_min, int_max}
use Rattle.std.proofs.Common.{arith, ap, sym, ◌∙◌}
use Rattle.std.proofs.lemmas.Bool.{and_parts, and_from}
use Rattle.std.proofs.lemmas.Int.{ints, clamps}
use Rattle.ix_num.specs.Ints.{least_int, greatest_int}
use Rattle.ix_core.specs.declared.fact.Path.{Path}
use Rattle.ix_core.specs.declared.fact.PathOff.{PathOff}
use Rattle.ix_core.specs.declared.fact.PathOff.TheVariants.{Nothing, Plus, Minus}
use Rattle.ix_core.specs.declared.fact.Fact.{Fact}
use Rattle.ix_core.specs.declared.fact.Fact.TheVariants.{Rng, LenRng, Low, Less, Upper}
use Rattle.ix_facts.specs.declared.kind.Kind.{Kind}
use Rattle.ix_facts.specs.Facts.{Covers, is_default}
use Rattle.ix_facts.specs.Facts as covers
use Rattle.ix_facts.specs.Kinds.{is_of}
use Rattle.ix_facts.specs.Systems.{Merges}
use Rattle.ix_facts.specs.Systems as merges
use Rattle.ix_facts.proofs.FactLists.{covers_told}
use Rattle.ix_facts.proofs.Gives.{max_chooses, min_chooses}
use Rattle.ix_facts.proofs.Tests.{at_most_true, at_most_is}
use Rattle.ix_fact_table.specs.FactOrder.{AtKey, rng, len_rng, low, same, is_len, less, sum, search, neg, upper}
use Rattle.ix_fact_table.specs.Meets.{met, common}
use Rattle.ix_fact_table.specs.Entries.{is_first, has_ends, is_entry}
use Rattle.ix_fact_table.specs.Walks.{is_as_strong}

pub covers_key : (f g : Fact) → Covers f g → AtKey f g
covers_key _ _ (covers.rng p l h m k x y) = rng p l h m k
covers_key _ _ (covers.len_rng p l h m k x y) = len_rng p l h m k
covers_key _ _ (covers.low p c d x) = low p c d
covers_key _ _ (covers.same a b) = same a b
covers_key _ _ (covers.is_len p a) = is_len p a
covers_key _ _ (covers.less p q c d x) = less p q c d
covers_key _ _ (covers.sum t y z) = sum t y z
covers_key _ _ (covers.search p a) = search p a
covers_key _ _ (covers.neg p a) = neg p a
covers_key _ _ (covers.upper p a o c d x) = upper p a o c d

-- ---- both together

pub met_left : (f g : Fact) → AtKey f g → Covers (met f g) f
met_left _ _ (rng p l h m k) = covers.rng p (int_max l m) (int_min h k) l h (omega (arith, ints, clamps)) (omega (arith, ints, clamps))
met_left _ _ (len_rng a l h m k) = covers.len_rng a (int_max l m) (int_min h k) l h (omega (arith, ints, clamps)) (omega (arith, ints, clamps))
met_left _ _ (low p c d) = covers.low p (int_max c d) c (omega (arith, ints, clamps))
met_left _ _ (same a b) = covers.same a b
met_left _ _ (is_len p a) = covers.is_len p a
met_left _ _ (less p q c d) = covers.less p q (int_min c d) c (omega (arith, ints, clamps))
met_left _ _ (sum t y z) = covers.sum t y z
met_left _ _ (search p a) = covers.search p a
met_left _ _ (neg p a) = covers.neg p a
met_left _ _ (upper p a o c d) = covers.upper p a o (int_max c d) c (omega (arith, ints, clamps))

pub met_right : (f g : Fact) → AtKey f g → Covers (met f g) g
met_right _ _ (rng p l h m k) = covers.rng p (int_max l m) (int_min h k) m k (omega (arith, ints, clamps)) (omega (arith, ints, clamps))
met_right _ _ (len_rng a l h m k) = covers.len_rng a (int_max l m) (int_min h k) m k (omega (arith, ints, clamps)) (omega (arith, ints, clamps))
met_right _ _ (low p c d) = covers.low p (int_max c d) d (omega (arith, ints, clamps))
met_right _ _ (same a b) = covers.same a b
met_right _ _ (is_len p a) = covers.is_len p a
met_right _ _ (less p q c d) = covers.less p q (int_min c d) d (omega (arith, ints, clamps))
met_right _ _ (sum t y z) = covers.sum t y z
met_right _ _ (search p a) = covers.search p a
met_right _ _ (neg p a) = covers.neg p a
met_right _ _ (upper p a o c d) = covers.upper p a o (int_max c d) d (omega (arith, ints, clamps))

pub met_merges : (facts : List Fact) (f g : Fact) → AtKey f g → Merges facts f → Merges facts g → Merges facts (met f g)
met_merges facts _ _ (rng p l h m k) r s = merges.met p l h m k r s
met_merges facts _ _ (len_rng a l h m k) r s = merges.len_met a l h m k r s
met_merges facts _ _ (low p c d) r s = max_chooses (λ n. Merges facts (Low p n)) c d r s
met_merges facts _ _ (same a b) r s = r
met_merges facts _ _ (is_len p a) r s = r
met_merges facts _ _ (less p q c d) r s = min_chooses (λ n. Merges facts (Less p q n)) c d r s
met_merges facts _ _ (sum t y z) r s = r
met_merges facts _ _ (search p a) r s = r
met_merges facts _ _ (neg p a) r s = r
met_merges facts _ _ (upper p a o c d) r s = max_chooses (λ n. Merges facts (Upper p a o n)) c d r s

-- what covers both covers what they say together
range_numbers : (p q : Path) (l h m k : ℤ) → Covers (Rng p l h) (Rng q m k) → (m ≤ℤ l) × (h ≤ℤ k)
range_numbers _ _ _ _ _ _ (covers.rng p l h m k x y) = (x, y)

length_numbers : (p q : Path) (l h m k : ℤ) → Covers (LenRng p l h) (LenRng q m k) → (m ≤ℤ l) × (h ≤ℤ k)
length_numbers _ _ _ _ _ _ (covers.len_rng p l h m k x y) = (x, y)

low_numbers : (p q : Path) (c d : ℤ) → Covers (Low p c) (Low q d) → d ≤ℤ c
low_numbers _ _ _ _ (covers.low p c d x) = x

less_numbers : (p q r s : Path) (c d : ℤ) → Covers (Less p q c) (Less r s d) → c ≤ℤ d
less_numbers _ _ _ _ _ _ (covers.less p q c d x) = x

upper_numbers : (p a q b : Path) (o x : PathOff) (c d : ℤ) → Covers (Upper p a o c) (Upper q b x d) → d ≤ℤ c
upper_numbers _ _ _ _ _ _ _ _ (covers.upper p a o c d x) = x

met_covered_by : (f g x : Fact) → AtKey f g → AtKey x f → Covers x f → Covers x g → Covers x (met f g)
met_covered_by _ _ _ (rng p l h m k) (rng q n o _ _) c d =
    let e = range_numbers p p n o l h c in
    let i = range_numbers p p n o m k d in
    covers.rng p n o (int_max l m) (int_min h k) (omega (arith, ints, clamps, e.0, i.0)) (omega (arith, ints, clamps, e.1, i.1))
met_covered_by _ _ _ (len_rng p l h m k) (len_rng q n o _ _) c d =
    let e = length_numbers p p n o l h c in
    let i = length_numbers p p n o m k d in
    covers.len_rng p n o (int_max l m) (int_min h k) (omega (arith, ints, clamps, e.0, i.0)) (omega (arith, ints, clamps, e.1, i.1))
met_covered_by _ _ _ (low p m k) (low q n _) c d = covers.low p n (int_max m k) (omega (arith, ints, clamps, low_numbers p p n m c, low_numbers p p n k d))
met_covered_by _ _ _ (same a b) k c d = c
met_covered_by _ _ _ (is_len p a) k c d = c
met_covered_by _ _ _ (less p q m k) (less r s n _) c d = covers.less p q n (int_min m k) (omega (arith, ints, clamps, less_numbers p q p q n m c, less_numbers p q p q n k d))
met_covered_by _ _ _ (sum t y z) k c d = c
met_covered_by _ _ _ (search p a) k c d = c
met_covered_by _ _ _ (neg p a) k c d = c
met_covered_by _ _ _ (upper p a o m k) (upper q b x n _) c d = covers.upper p a o n (int_max m k) (omega (arith, ints, clamps, upper_numbers p a p a o o n m c, upper_numbers p a p a o o n k d))

pub met_covered : (f g x : Fact) → AtKey f g → Covers x f → Covers x g → Covers x (met f g)
met_covered f g x k c d = met_covered_by f g x k (covers_key x f c) c d

-- ---- what both say

pub common_left : (f g : Fact) → AtKey f g → Covers f (common f g)
common_left _ _ (rng p l h m k) = covers.rng p l h (int_min l m) (int_max h k) (omega (arith, ints, clamps)) (omega (arith, ints, clamps))
common_left _ _ (len_rng a l h m k) = covers.len_rng a l h (int_min l m) (int_max h k) (omega (arith, ints, clamps)) (omega (arith, ints, clamps))
common_left _ _ (low p c d) = covers.low p c (int_min c d) (omega (arith, ints, clamps))
common_left _ _ (same a b) = covers.same a b
common_left _ _ (is_len p a) = covers.is_len p a
common_left _ _ (less p q c d) = covers.less p q c (int_max c d) (omega (arith, ints, clamps))
common_left _ _ (sum t y z) = covers.sum t y z
common_left _ _ (search p a) = covers.search p a
common_left _ _ (neg p a) = covers.neg p a
common_left _ _ (upper p a o c d) = covers.upper p a o c (int_min c d) (omega (arith, ints, clamps))

pub common_right : (f g : Fact) → AtKey f g → Covers g (common f g)
common_right _ _ (rng p l h m k) = covers.rng p m k (int_min l m) (int_max h k) (omega (arith, ints, clamps)) (omega (arith, ints, clamps))
common_right _ _ (len_rng a l h m k) = covers.len_rng a m k (int_min l m) (int_max h k) (omega (arith, ints, clamps)) (omega (arith, ints, clamps))
common_right _ _ (low p c d) = covers.low p d (int_min c d) (omega (arith, ints, clamps))
common_right _ _ (same a b) = covers.same a b
common_right _ _ (is_len p a) = covers.is_len p a
common_right _ _ (less p q c d) = covers.less p q d (int_max c d) (omega (arith, ints, clamps))
common_right _ _ (sum t y z) = covers.sum t y z
common_right _ _ (search p a) = covers.search p a
common_right _ _ (neg p a) = covers.neg p a
common_right _ _ (upper p a o c d) = covers.upper p a o d (int_min c d) (omega (arith, ints, clamps))

common_covers_by : (f g x : Fact) → AtKey f g → AtKey f x → Covers f x → Covers g x → Covers (common f g) x
common_covers_by _ _ _ (rng p l h m k) (rng q _ _ n o) c d =
    let e = range_numbers p p l h n o c in
    let i = range_numbers p p m k n o d in
    covers.rng p (int_min l m) (int_max h k) n o (omega (arith, ints, clamps, e.0, i.0)) (omega (arith, ints, clamps, e.1, i.1))
common_covers_by _ _ _ (len_rng p l h m k) (len_rng q _ _ n o) c d =
    let e = length_numbers p p l h n o c in
    let i = length_numbers p p m k n o d in
    covers.len_rng p (int_min l m) (int_max h k) n o (omega (arith, ints, clamps, e.0, i.0)) (omega (arith, ints, clamps, e.1, i.1))
common_covers_by _ _ _ (low p m k) (low q _ n) c d = covers.low p (int_min m k) n (omega (arith, ints, clamps, low_numbers p p m n c, low_numbers p p k n d))
common_covers_by _ _ _ (same a b) k c d = c
common_covers_by _ _ _ (is_len p a) k c d = c
common_covers_by _ _ _ (less p q m k) (less r s _ n) c d = covers.less p q (int_max m k) n (omega (arith, ints, clamps, less_numbers p q p q m n c, less_numbers p q p q k n d))
common_covers_by _ _ _ (sum t y z) k c d = c
common_covers_by _ _ _ (search p a) k c d = c
common_covers_by _ _ _ (neg p a) k c d = c
common_covers_by _ _ _ (upper p a o m k) (upper q b x _ n) c d = covers.upper p a o (int_min m k) n (omega (arith, ints, clamps, upper_numbers p a p a o o m n c, upper_numbers p a p a o o k n d))

pub common_covers : (f g x : Fact) → AtKey f g → Covers f x → Covers g x → Covers (common f g) x
common_covers f g x k c d = common_covers_by f g x k (covers_key f x c) c d

-- ---- which of two facts at one key covers the other

pub strong_covers : (f g : Fact) → AtKey f g → is_as_strong f g ≡ true → Covers f g
strong_covers _ _ (rng p l h m k) t = let x = and_parts (int_le m l) (int_le h k) t in covers.rng p l h m k (at_most_true m l x.0) (at_most_true h k x.1)
strong_covers _ _ (len_rng p l h m k) t = let x = and_parts (int_le m l) (int_le h k) t in covers.len_rng p l h m k (at_most_true m l x.0) (at_most_true h k x.1)
strong_covers _ _ (low p c d) t = covers.low p c d (at_most_true d c t)
strong_covers _ _ (same a b) t = covers.same a b
strong_covers _ _ (is_len p a) t = covers.is_len p a
strong_covers _ _ (less p q c d) t = covers.less p q c d (at_most_true c d t)
strong_covers _ _ (sum u y z) t = covers.sum u y z
strong_covers _ _ (search p a) t = covers.search p a
strong_covers _ _ (neg p a) t = covers.neg p a
strong_covers _ _ (upper p a o c d) t = covers.upper p a o c d (at_most_true d c t)

pub covers_strong : (f g : Fact) → Covers f g → is_as_strong f g ≡ true
covers_strong _ _ (covers.rng p l h m k x y) = and_from (int_le m l) (int_le h k) (at_most_is m l x) (at_most_is h k y)
covers_strong _ _ (covers.len_rng p l h m k x y) = and_from (int_le m l) (int_le h k) (at_most_is m l x) (at_most_is h k y)
covers_strong _ _ (covers.low p c d x) = at_most_is d c x
covers_strong _ _ (covers.same a b) = refl
covers_strong _ _ (covers.is_len p a) = refl
covers_strong _ _ (covers.less p q c d x) = at_most_is c d x
covers_strong _ _ (covers.sum u y z) = refl
covers_strong _ _ (covers.search p a) = refl
covers_strong _ _ (covers.neg p a) = refl
covers_strong _ _ (covers.upper p a o c d x) = at_most_is d c x

-- ---- both stand at the key, and are of the kind

pub met_key : (f g : Fact) → AtKey f g → AtKey (met f g) f
met_key f g k = covers_key (met f g) f (met_left f g k)

pub common_key : (f g : Fact) → AtKey f g → AtKey f (common f g)
common_key f g k = covers_key f (common f g) (common_left f g k)

pub key_kind : (own : Kind) (f g : Fact) → AtKey f g → is_of own f ≡ is_of own g
key_kind own _ _ (rng p l h m k) = refl
key_kind own _ _ (len_rng p l h m k) = refl
key_kind own _ _ (low p c d) = refl
key_kind own _ _ (same a b) = refl
key_kind own _ _ (is_len p a) = refl
key_kind own _ _ (less p q c d) = refl
key_kind own _ _ (sum t y z) = refl
key_kind own _ _ (search p a) = refl
key_kind own _ _ (neg p a) = refl
key_kind own _ _ (upper p a o c d) = refl

pub key_first : (f g : Fact) → AtKey f g → is_first f ≡ is_first g
key_first _ _ (rng p l h m k) = refl
key_first _ _ (len_rng p l h m k) = refl
key_first _ _ (low p c d) = refl
key_first _ _ (same a b) = refl
key_first _ _ (is_len p a) = refl
key_first _ _ (less p q c d) = refl
key_first _ _ (sum t y z) = refl
key_first _ _ (search p a) = refl
key_first _ _ (neg p a) = refl
key_first _ _ (upper p a Nothing c d) = refl
key_first _ _ (upper p a (Plus q) c d) = refl
key_first _ _ (upper p a (Minus q) c d) = refl

-- ---- both keep the form of entries

pub two_ends : (a b l h : ℤ) → (int_le a l && int_le h b) ≡ true → (a ≤ℤ l) × (h ≤ℤ b)
two_ends a b l h t = let x = and_parts _ _ t in (at_most_true a l x.0, at_most_true h b x.1)

ends_two : (a b l h : ℤ) → a ≤ℤ l → h ≤ℤ b → (int_le a l && int_le h b) ≡ true
ends_two a b l h x y = and_from _ _ (at_most_is a l x) (at_most_is h b y)

met_ends : (f g : Fact) → AtKey f g → has_ends f ≡ true → has_ends g ≡ true → has_ends (met f g) ≡ true
met_ends _ _ (rng p l h m k) s t =
    let x = two_ends least_int greatest_int l h s in
    let y = two_ends least_int greatest_int m k t in
    ends_two least_int greatest_int (int_max l m) (int_min h k) (omega (arith, ints, clamps, x.0, y.0)) (omega (arith, ints, clamps, x.1, y.1))
met_ends _ _ (len_rng p l h m k) s t =
    let x = two_ends (pos 0) greatest_int l h s in
    let y = two_ends (pos 0) greatest_int m k t in
    ends_two (pos 0) greatest_int (int_max l m) (int_min h k) (omega (arith, ints, clamps, x.0, y.0)) (omega (arith, ints, clamps, x.1, y.1))
met_ends _ _ (low p c d) s t =
    let x = two_ends (negsuc 0) (pos 1) c c s in
    let y = two_ends (negsuc 0) (pos 1) d d t in
    ends_two (negsuc 0) (pos 1) (int_max c d) (int_max c d) (omega (arith, ints, clamps, x.0, y.0)) (omega (arith, ints, clamps, x.1, y.1))
met_ends _ _ (same a b) s t = refl
met_ends _ _ (is_len p a) s t = refl
met_ends _ _ (less p q c d) s t =
    let x = two_ends least_int greatest_int c c s in
    let y = two_ends least_int greatest_int d d t in
    ends_two least_int greatest_int (int_min c d) (int_min c d) (omega (arith, ints, clamps, x.0, y.0)) (omega (arith, ints, clamps, x.1, y.1))
met_ends _ _ (sum u y z) s t = refl
met_ends _ _ (search p a) s t = refl
met_ends _ _ (neg p a) s t = refl
met_ends _ _ (upper p a o c d) s t =
    let x = two_ends least_int greatest_int c c s in
    let y = two_ends least_int greatest_int d d t in
    ends_two least_int greatest_int (int_max c d) (int_max c d) (omega (arith, ints, clamps, x.0, y.0)) (omega (arith, ints, clamps, x.1, y.1))

common_ends : (f g : Fact) → AtKey f g → has_ends f ≡ true → has_ends g ≡ true → has_ends (common f g) ≡ true
common_ends _ _ (rng p l h m k) s t =
    let x = two_ends least_int greatest_int l h s in
    let y = two_ends least_int greatest_int m k t in
    ends_two least_int greatest_int (int_min l m) (int_max h k) (omega (arith, ints, clamps, x.0, y.0)) (omega (arith, ints, clamps, x.1, y.1))
common_ends _ _ (len_rng p l h m k) s t =
    let x = two_ends (pos 0) greatest_int l h s in
    let y = two_ends (pos 0) greatest_int m k t in
    ends_two (pos 0) greatest_int (int_min l m) (int_max h k) (omega (arith, ints, clamps, x.0, y.0)) (omega (arith, ints, clamps, x.1, y.1))
common_ends _ _ (low p c d) s t =
    let x = two_ends (negsuc 0) (pos 1) c c s in
    let y = two_ends (negsuc 0) (pos 1) d d t in
    ends_two (negsuc 0) (pos 1) (int_min c d) (int_min c d) (omega (arith, ints, clamps, x.0, y.0)) (omega (arith, ints, clamps, x.1, y.1))
common_ends _ _ (same a b) s t = refl
common_ends _ _ (is_len p a) s t = refl
common_ends _ _ (less p q c d) s t =
    let x = two_ends least_int greatest_int c c s in
    let y = two_ends least_int greatest_int d d t in
    ends_two least_int greatest_int (int_max c d) (int_max c d) (omega (arith, ints, clamps, x.0, y.0)) (omega (arith, ints, clamps, x.1, y.1))
common_ends _ _ (sum u y z) s t = refl
common_ends _ _ (search p a) s t = refl
common_ends _ _ (neg p a) s t = refl
common_ends _ _ (upper p a o c d) s t =
    let x = two_ends least_int greatest_int c c s in
    let y = two_ends least_int greatest_int d d t in
    ends_two least_int greatest_int (int_min c d) (int_min c d) (omega (arith, ints, clamps, x.0, y.0)) (omega (arith, ints, clamps, x.1, y.1))

-- the three parts of the form of an entry
pub record IsEntry (f : Fact) : Type 0 where
  pub first : is_first f ≡ true
  pub ends : has_ends f ≡ true
  pub tells : is_default f ≡ false

not_true : (t : Bool) → not t ≡ true → t ≡ false
not_true true h = sym h
not_true false h = refl

pub entry_parts : (f : Fact) → is_entry f ≡ true → IsEntry f
entry_parts f t =
    let x = and_parts (is_first f) (has_ends f && not (is_default f)) t in
    let y = and_parts (has_ends f) (not (is_default f)) x.1 in
    record { first = x.0; ends = y.0; tells = not_true (is_default f) y.1 }

pub entry_from : (f : Fact) → IsEntry f → is_entry f ≡ true
entry_from f is = and_from (is_first f) (has_ends f && not (is_default f)) is.first (and_from (has_ends f) (not (is_default f)) is.ends (ap not is.tells))

pub met_entry : (f g : Fact) → AtKey f g → is_entry f ≡ true → is_entry g ≡ true → is_entry (met f g) ≡ true
met_entry f g k s t =
    let x = entry_parts f s in
    let y = entry_parts g t in
    entry_from (met f g) (record {
      first = key_first (met f g) f (met_key f g k) ∙ x.first;
      ends = met_ends f g k x.ends y.ends;
      tells = covers_told (met f g) f (met_left f g k) x.tells;
    })

pub common_entry : (f g : Fact) → AtKey f g → is_entry f ≡ true → is_entry g ≡ true → is_default (common f g) ≡ false → is_entry (common f g) ≡ true
common_entry f g k s t tells =
    let x = entry_parts f s in
    let y = entry_parts g t in
    entry_from (common f g) (record {
      first = sym (key_first f (common f g) (common_key f g k)) ∙ x.first;
      ends = common_ends f g k x.ends y.ends;
      tells = tells;
    })
