-- A table's form of a fact says what the fact says.
use Rattle.std.specs.Prelude.{◌≡◌, true, false, cond, not, ℤ, pos, negsuc, ◌≤ℤ◌, int_le, List, [], ◌∷◌, refl}
use Rattle.std.specs.declared.cmp.Ordering.{Ordering}
use Rattle.std.specs.declared.cmp.Ordering.TheVariants.{Less as Before, Equal, Greater}
use Rattle.std.specs.Ordering.{is_eq, is_gt, ordering_reverse}
use Rattle.std.specs.Int.{int_min, int_max}
use Rattle.std.proofs.Common.{arith, inl, inr, ap, sym, ◌∙◌, subst, ⊎_elim}
use Rattle.std.proofs.lemmas.Bool.{false≢true, and_parts, and_from}
use Rattle.std.proofs.lemmas.Int.{ints, clamps}
use Rattle.ix_num.specs.Ints.{least_int, greatest_int}
use Rattle.ix_core.specs.declared.fact.Path.{Path}
use Rattle.ix_core.specs.declared.fact.PathOff.TheVariants.{Nothing, Plus, Minus}
use Rattle.ix_core.specs.declared.fact.Fact.{Fact}
use Rattle.ix_core.specs.declared.fact.Fact.TheVariants.{Rng, LenRng, Low, Same, IsLen, Less, Sum, Search, Neg, Upper}
use Rattle.ix_facts.specs.declared.kind.Kind.{Kind}
use Rattle.ix_facts.specs.PathOrder.{path_cmp, path_total}
use Rattle.ix_facts.specs.Facts.{IsIn, Covers, orders, is_default}
use Rattle.ix_facts.specs.Facts as covers
use Rattle.ix_facts.specs.Closure.{Said}
use Rattle.ix_facts.specs.Kinds.{is_of}
use Rattle.ix_facts.specs.Systems.{Merges, weaker, any_int, any_size, turned, sum_turned, upper_turned, HasClass, HasIntEnds, MayStand}
use Rattle.ix_facts.specs.Systems as merges
use Rattle.ix_facts.proofs.FactLists.{covers_itself}
use Rattle.ix_facts.proofs.SaidLaws.{said_weaker, said_turned}
use Rattle.ix_facts.proofs.Tests.{at_most_true, at_most_is}
use Rattle.ix_core.proofs.Cases.{by_test}
use Rattle.ix_fact_table.specs.FactOrder.{path_same}
use Rattle.ix_fact_table.specs.Entries.{in_first_order, within, entry_of, is_first, has_ends, is_entry, HasInt}
use Rattle.ix_fact_table.specs.MeetLaws.{entry_parts, entry_from}

-- ---- the first order

-- of two paths one comes after the other, or they are the same
not_both : (o : Ordering) → is_gt o ≡ true → is_gt (ordering_reverse o) ≡ false
not_both Before h = absurd (false≢true h)
not_both Equal h = absurd (false≢true h)
not_both Greater h = refl

turned_after : (p q : Path) → is_gt (path_cmp p q) ≡ true → is_gt (path_cmp q p) ≡ false
turned_after p q h = ap is_gt (path_total.antisymm q p) ∙ not_both (path_cmp p q) h

neither_after_by : (o : Ordering) → is_gt o ≡ false → is_gt (ordering_reverse o) ≡ false → is_eq o ≡ true
neither_after_by Before h k = absurd (false≢true (sym k))
neither_after_by Equal h k = refl
neither_after_by Greater h k = absurd (false≢true (sym h))

neither_after : (p q : Path) → is_gt (path_cmp p q) ≡ false → is_gt (path_cmp q p) ≡ false → p ≡ q
neither_after p q h k = path_same p q (neither_after_by (path_cmp p q) h (sym (ap is_gt (path_total.antisymm q p)) ∙ k))

-- of a pair that may be turned the first order is one of the two, whichever is asked
one_of_two : (make : Path → Path → Fact) (p q : Path) → cond (is_gt (path_cmp p q)) (make q p) (make p q) ≡ cond (is_gt (path_cmp q p)) (make p q) (make q p)
one_of_two make p q =
    by_test (is_gt (path_cmp p q))
    (λ t. rw (t, turned_after p q t) refl)
    (λ t. by_test (is_gt (path_cmp q p)) (λ u. rw (t, u) refl) (λ u. let e = neither_after p q t u in rw (t, u) (subst (λ x. make p x ≡ make x p) e refl)))

one_alone : (f g : Fact) → IsIn g (f ∷ []) → in_first_order g ≡ in_first_order f
one_alone f g i = ⊎_elim (λ e. ap in_first_order e) (λ x. absurd x) i

pub order_first : (f g : Fact) → IsIn g (orders f) → in_first_order g ≡ in_first_order f
order_first (Same a b) g i = ⊎_elim (λ e. ap in_first_order e) (λ j. ⊎_elim (λ e. ap in_first_order e ∙ one_of_two Same b a) (λ x. absurd x) j) i
order_first (Sum t y z) g i = ⊎_elim (λ e. ap in_first_order e) (λ j. ⊎_elim (λ e. ap in_first_order e ∙ one_of_two (Sum t) z y) (λ x. absurd x) j) i
order_first (Upper p a (Plus q) c) g i = ⊎_elim (λ e. ap in_first_order e) (λ j. ⊎_elim (λ e. ap in_first_order e ∙ one_of_two (λ x y. Upper x a (Plus y) c) q p) (λ x. absurd x) j) i
order_first (Upper p a Nothing c) g i = one_alone (Upper p a Nothing c) g i
order_first (Upper p a (Minus q) c) g i = one_alone (Upper p a (Minus q) c) g i
order_first (Rng p l h) g i = one_alone (Rng p l h) g i
order_first (LenRng p l h) g i = one_alone (LenRng p l h) g i
order_first (Low p c) g i = one_alone (Low p c) g i
order_first (IsLen p a) g i = one_alone (IsLen p a) g i
order_first (Less p q c) g i = one_alone (Less p q c) g i
order_first (Search p a) g i = one_alone (Search p a) g i
order_first (Neg p a) g i = one_alone (Neg p a) g i

-- the fact is one of the orders of its first order
pub from_first : (f : Fact) → IsIn f (orders (in_first_order f))
from_first (Same a b) = by_test (is_gt (path_cmp a b)) (λ t. rw t (inr (inl refl))) (λ t. rw t (inl refl))
from_first (Sum t y z) = by_test (is_gt (path_cmp y z)) (λ u. rw u (inr (inl refl))) (λ u. rw u (inl refl))
from_first (Upper p a (Plus q) c) = by_test (is_gt (path_cmp p q)) (λ t. rw t (inr (inl refl))) (λ t. rw t (inl refl))
from_first (Upper p a Nothing c) = inl refl
from_first (Upper p a (Minus q) c) = inl refl
from_first (Rng p l h) = inl refl
from_first (LenRng p l h) = inl refl
from_first (Low p c) = inl refl
from_first (IsLen p a) = inl refl
from_first (Less p q c) = inl refl
from_first (Search p a) = inl refl
from_first (Neg p a) = inl refl

-- a fact whose paths are in order is its first order
first_fixed : (f : Fact) → is_first f ≡ true → in_first_order f ≡ f
first_fixed (Same a b) h = by_test (is_gt (path_cmp a b)) (λ t. absurd (false≢true (sym (ap not t) ∙ h))) (λ t. rw t refl)
first_fixed (Sum t y z) h = by_test (is_gt (path_cmp y z)) (λ u. absurd (false≢true (sym (ap not u) ∙ h))) (λ u. rw u refl)
first_fixed (Upper p a (Plus q) c) h = by_test (is_gt (path_cmp p q)) (λ t. absurd (false≢true (sym (ap not t) ∙ h))) (λ t. rw t refl)
first_fixed (Upper p a Nothing c) h = refl
first_fixed (Upper p a (Minus q) c) h = refl
first_fixed (Rng p l k) h = refl
first_fixed (LenRng p l k) h = refl
first_fixed (Low p c) h = refl
first_fixed (IsLen p a) h = refl
first_fixed (Less p q c) h = refl
first_fixed (Search p a) h = refl
first_fixed (Neg p a) h = refl

first_is : (f : Fact) → is_first (in_first_order f) ≡ true
first_is (Same a b) = by_test (is_gt (path_cmp a b)) (λ t. rw (t, turned_after a b t) refl) (λ t. rw (t, t) refl)
first_is (Sum t y z) = by_test (is_gt (path_cmp y z)) (λ u. rw (u, turned_after y z u) refl) (λ u. rw (u, u) refl)
first_is (Upper p a (Plus q) c) = by_test (is_gt (path_cmp p q)) (λ t. rw (t, turned_after p q t) refl) (λ t. rw (t, t) refl)
first_is (Upper p a Nothing c) = refl
first_is (Upper p a (Minus q) c) = refl
first_is (Rng p l k) = refl
first_is (LenRng p l k) = refl
first_is (Low p c) = refl
first_is (IsLen p a) = refl
first_is (Less p q c) = refl
first_is (Search p a) = refl
first_is (Neg p a) = refl

-- the first orders are as strong as the facts
first_covers : (g f : Fact) → Covers g f → Covers (in_first_order g) (in_first_order f)
first_covers _ _ (covers.rng p l h m k x y) = covers.rng p l h m k x y
first_covers _ _ (covers.len_rng p l h m k x y) = covers.len_rng p l h m k x y
first_covers _ _ (covers.low p c d x) = covers.low p c d x
first_covers _ _ (covers.same a b) = covers_itself (in_first_order (Same a b))
first_covers _ _ (covers.is_len p a) = covers.is_len p a
first_covers _ _ (covers.less p q c d x) = covers.less p q c d x
first_covers _ _ (covers.sum t y z) = covers_itself (in_first_order (Sum t y z))
first_covers _ _ (covers.search p a) = covers.search p a
first_covers _ _ (covers.neg p a) = covers.neg p a
first_covers _ _ (covers.upper p a Nothing c d x) = covers.upper p a Nothing c d x
first_covers _ _ (covers.upper p a (Minus q) c d x) = covers.upper p a (Minus q) c d x
first_covers _ _ (covers.upper p a (Plus q) c d x) = by_test (is_gt (path_cmp p q)) (λ t. rw t (covers.upper q a (Plus p) c d x)) (λ t. rw t (covers.upper p a (Plus q) c d x))

first_default : (f : Fact) → is_default (in_first_order f) ≡ is_default f
first_default (Same a b) = by_test (is_gt (path_cmp a b)) (λ t. rw t refl) (λ t. rw t refl)
first_default (Sum t y z) = by_test (is_gt (path_cmp y z)) (λ u. rw u refl) (λ u. rw u refl)
first_default (Upper p a (Plus q) c) = by_test (is_gt (path_cmp p q)) (λ t. rw t refl) (λ t. rw t refl)
first_default (Upper p a Nothing c) = refl
first_default (Upper p a (Minus q) c) = refl
first_default (Rng p l k) = refl
first_default (LenRng p l k) = refl
first_default (Low p c) = refl
first_default (IsLen p a) = refl
first_default (Less p q c) = refl
first_default (Search p a) = refl
first_default (Neg p a) = refl

first_merges : (facts : List Fact) (f : Fact) → Merges facts f → Merges facts (in_first_order f)
first_merges facts (Same a b) r = by_test (is_gt (path_cmp a b)) (λ t. rw t (turned a b r)) (λ t. rw t r)
first_merges facts (Sum t y z) r = by_test (is_gt (path_cmp y z)) (λ u. rw u (sum_turned t y z r)) (λ u. rw u r)
first_merges facts (Upper p a (Plus q) c) r = by_test (is_gt (path_cmp p q)) (λ t. rw t (upper_turned p a q c r)) (λ t. rw t r)
first_merges facts (Upper p a Nothing c) r = r
first_merges facts (Upper p a (Minus q) c) r = r
first_merges facts (Rng p l k) r = r
first_merges facts (LenRng p l k) r = r
first_merges facts (Low p c) r = r
first_merges facts (IsLen p a) r = r
first_merges facts (Less p q c) r = r
first_merges facts (Search p a) r = r
first_merges facts (Neg p a) r = r

first_kind : (own : Kind) (f : Fact) → is_of own (in_first_order f) ≡ is_of own f
first_kind own (Same a b) = by_test (is_gt (path_cmp a b)) (λ t. rw t refl) (λ t. rw t refl)
first_kind own (Sum t y z) = by_test (is_gt (path_cmp y z)) (λ u. rw u refl) (λ u. rw u refl)
first_kind own (Upper p a (Plus q) c) = by_test (is_gt (path_cmp p q)) (λ t. rw t refl) (λ t. rw t refl)
first_kind own (Upper p a Nothing c) = refl
first_kind own (Upper p a (Minus q) c) = refl
first_kind own (Rng p l k) = refl
first_kind own (LenRng p l k) = refl
first_kind own (Low p c) = refl
first_kind own (IsLen p a) = refl
first_kind own (Less p q c) = refl
first_kind own (Search p a) = refl
first_kind own (Neg p a) = refl

first_class : (f : Fact) → HasClass f → HasClass (in_first_order f)
first_class (Same a b) h = by_test (is_gt (path_cmp a b)) (λ t. rw t tt) (λ t. rw t tt)
first_class (Sum t y z) h = by_test (is_gt (path_cmp y z)) (λ u. rw u tt) (λ u. rw u tt)
first_class (Upper p a (Plus q) c) h = by_test (is_gt (path_cmp p q)) (λ t. rw t tt) (λ t. rw t tt)
first_class (Upper p a Nothing c) h = tt
first_class (Upper p a (Minus q) c) h = tt
first_class (Rng p l k) h = tt
first_class (LenRng p l k) h = tt
first_class (Low p c) h = h
first_class (IsLen p a) h = tt
first_class (Less p q c) h = tt
first_class (Search p a) h = tt
first_class (Neg p a) h = tt

first_int : (f : Fact) → HasInt f → HasInt (in_first_order f)
first_int (Same a b) h = by_test (is_gt (path_cmp a b)) (λ t. rw t tt) (λ t. rw t tt)
first_int (Sum t y z) h = by_test (is_gt (path_cmp y z)) (λ u. rw u tt) (λ u. rw u tt)
first_int (Upper p a (Plus q) c) h = by_test (is_gt (path_cmp p q)) (λ t. rw t h) (λ t. rw t h)
first_int (Upper p a Nothing c) h = h
first_int (Upper p a (Minus q) c) h = h
first_int (Rng p l k) h = tt
first_int (LenRng p l k) h = tt
first_int (Low p c) h = tt
first_int (IsLen p a) h = tt
first_int (Less p q c) h = h
first_int (Search p a) h = tt
first_int (Neg p a) h = tt

-- ---- within what is said of every path

within_covers : (f : Fact) → Covers (within f) f
within_covers (Rng p l h) = covers.rng p (int_max l least_int) (int_min h greatest_int) l h (omega (arith, ints, clamps)) (omega (arith, ints, clamps))
within_covers (LenRng p l h) = covers.len_rng p (int_max l (pos 0)) (int_min h greatest_int) l h (omega (arith, ints, clamps)) (omega (arith, ints, clamps))
within_covers (Low p c) = covers_itself (Low p c)
within_covers (Same a b) = covers_itself (Same a b)
within_covers (IsLen p a) = covers_itself (IsLen p a)
within_covers (Less p q c) = covers_itself (Less p q c)
within_covers (Sum t y z) = covers_itself (Sum t y z)
within_covers (Search p a) = covers_itself (Search p a)
within_covers (Neg p a) = covers_itself (Neg p a)
within_covers (Upper p a o c) = covers_itself (Upper p a o c)

within_monotone : (g f : Fact) → Covers g f → Covers (within g) (within f)
within_monotone _ _ (covers.rng p l h m k x y) = covers.rng p (int_max l least_int) (int_min h greatest_int) (int_max m least_int) (int_min k greatest_int) (omega (arith, ints, clamps, x)) (omega (arith, ints, clamps, y))
within_monotone _ _ (covers.len_rng p l h m k x y) = covers.len_rng p (int_max l (pos 0)) (int_min h greatest_int) (int_max m (pos 0)) (int_min k greatest_int) (omega (arith, ints, clamps, x)) (omega (arith, ints, clamps, y))
within_monotone _ _ (covers.low p c d x) = covers.low p c d x
within_monotone _ _ (covers.same a b) = covers.same a b
within_monotone _ _ (covers.is_len p a) = covers.is_len p a
within_monotone _ _ (covers.less p q c d x) = covers.less p q c d x
within_monotone _ _ (covers.sum t y z) = covers.sum t y z
within_monotone _ _ (covers.search p a) = covers.search p a
within_monotone _ _ (covers.neg p a) = covers.neg p a
within_monotone _ _ (covers.upper p a o c d x) = covers.upper p a o c d x

max_fixed : (l d : ℤ) → d ≤ℤ l → int_max l d ≡ l
max_fixed l d h = omega (arith, ints, clamps)

min_fixed : (h d : ℤ) → h ≤ℤ d → int_min h d ≡ h
min_fixed h d k = omega (arith, ints, clamps)

within_fixed : (f : Fact) → has_ends f ≡ true → within f ≡ f
within_fixed (Rng p l h) t =
    let x = and_parts _ _ t in
    let e = max_fixed l least_int (at_most_true least_int l x.0) in
    let d = min_fixed h greatest_int (at_most_true h greatest_int x.1) in
    cc
within_fixed (LenRng p l h) t =
    let x = and_parts _ _ t in
    let e = max_fixed l (pos 0) (at_most_true (pos 0) l x.0) in
    let d = min_fixed h greatest_int (at_most_true h greatest_int x.1) in
    cc
within_fixed (Low p c) t = refl
within_fixed (Same a b) t = refl
within_fixed (IsLen p a) t = refl
within_fixed (Less p q c) t = refl
within_fixed (Sum u y z) t = refl
within_fixed (Search p a) t = refl
within_fixed (Neg p a) t = refl
within_fixed (Upper p a o c) t = refl

within_ends : (f : Fact) → HasClass f → HasInt f → has_ends (within f) ≡ true
within_ends (Rng p l h) c i = and_from _ _ (at_most_is least_int (int_max l least_int) (omega (arith, ints, clamps))) (at_most_is (int_min h greatest_int) greatest_int (omega (arith, ints, clamps)))
within_ends (LenRng p l h) c i = and_from _ _ (at_most_is (pos 0) (int_max l (pos 0)) (omega (arith, ints, clamps))) (at_most_is (int_min h greatest_int) greatest_int (omega (arith, ints, clamps)))
within_ends (Low p n) c i = and_from _ _ (at_most_is (negsuc 0) n c.above) (at_most_is n (pos 1) c.below)
within_ends (Same a b) c i = refl
within_ends (IsLen p a) c i = refl
within_ends (Less p q n) c i = and_from _ _ (at_most_is least_int n i.from) (at_most_is n greatest_int i.to)
within_ends (Sum u y z) c i = refl
within_ends (Search p a) c i = refl
within_ends (Neg p a) c i = refl
within_ends (Upper p a o n) c i = and_from _ _ (at_most_is least_int n i.from) (at_most_is n greatest_int i.to)

low_default : (l d : ℤ) → int_le (int_max l d) d ≡ int_le l d
low_default l d = grind (arith, ints, clamps)

high_default : (h d : ℤ) → int_le d (int_min h d) ≡ int_le d h
high_default h d = grind (arith, ints, clamps)

within_default : (f : Fact) → is_default (within f) ≡ is_default f
within_default (Rng p l h) = let x = low_default l least_int in let y = high_default h greatest_int in cc
within_default (LenRng p l h) = let x = low_default l (pos 0) in let y = high_default h greatest_int in cc
within_default (Low p c) = refl
within_default (Same a b) = refl
within_default (IsLen p a) = refl
within_default (Less p q c) = refl
within_default (Sum u y z) = refl
within_default (Search p a) = refl
within_default (Neg p a) = refl
within_default (Upper p a o c) = refl

within_first : (f : Fact) → is_first (within f) ≡ is_first f
within_first (Rng p l h) = refl
within_first (LenRng p l h) = refl
within_first (Low p c) = refl
within_first (Same a b) = refl
within_first (IsLen p a) = refl
within_first (Less p q c) = refl
within_first (Sum u y z) = refl
within_first (Search p a) = refl
within_first (Neg p a) = refl
within_first (Upper p a Nothing c) = refl
within_first (Upper p a (Plus q) c) = refl
within_first (Upper p a (Minus q) c) = refl

within_merges : (facts : List Fact) (f : Fact) → Merges facts f → Merges facts (within f)
within_merges facts (Rng p l h) r = merges.met p l h least_int greatest_int r (any_int p)
within_merges facts (LenRng p l h) r = merges.len_met p l h (pos 0) greatest_int r (any_size p)
within_merges facts (Low p c) r = r
within_merges facts (Same a b) r = r
within_merges facts (IsLen p a) r = r
within_merges facts (Less p q c) r = r
within_merges facts (Sum u y z) r = r
within_merges facts (Search p a) r = r
within_merges facts (Neg p a) r = r
within_merges facts (Upper p a o c) r = r

within_kind : (own : Kind) (f : Fact) → is_of own (within f) ≡ is_of own f
within_kind own (Rng p l h) = refl
within_kind own (LenRng p l h) = refl
within_kind own (Low p c) = refl
within_kind own (Same a b) = refl
within_kind own (IsLen p a) = refl
within_kind own (Less p q c) = refl
within_kind own (Sum u y z) = refl
within_kind own (Search p a) = refl
within_kind own (Neg p a) = refl
within_kind own (Upper p a o c) = refl

-- ---- a table's form of a fact

pub entry_is : (f : Fact) → is_default f ≡ false → HasClass f → HasInt f → is_entry (entry_of f) ≡ true
entry_is f tells class int = entry_from (entry_of f) (record {
  first = within_first (in_first_order f) ∙ first_is f;
  ends = within_ends (in_first_order f) (first_class f class) (first_int f int);
  tells = within_default (in_first_order f) ∙ (first_default f ∙ tells);
})

pub entry_fixed : (f : Fact) → is_entry f ≡ true → entry_of f ≡ f
entry_fixed f t = let x = entry_parts f t in ap within (first_fixed f x.first) ∙ within_fixed f x.ends

pub entry_default : (f : Fact) → is_default (entry_of f) ≡ is_default f
entry_default f = within_default (in_first_order f) ∙ first_default f

pub entry_kind : (own : Kind) (f : Fact) → is_of own (entry_of f) ≡ is_of own f
entry_kind own f = within_kind own (in_first_order f) ∙ first_kind own f

pub entry_merges : (facts : List Fact) (f : Fact) → Merges facts f → Merges facts (entry_of f)
entry_merges facts f r = within_merges facts (in_first_order f) (first_merges facts f r)

pub entry_monotone : (g f : Fact) → Covers g f → Covers (entry_of g) (entry_of f)
entry_monotone g f c = within_monotone (in_first_order g) (in_first_order f) (first_covers g f c)

-- what says the entry says the fact
pub entry_said : (facts : List Fact) (f : Fact) → Said facts (entry_of f) → Said facts f
entry_said facts f said = said_turned facts (in_first_order f) f (from_first f) (said_weaker facts (entry_of f) (in_first_order f) (within_covers (in_first_order f)) said)

-- The parts that `System` asks of an entry
class_of : (f : Fact) → has_ends f ≡ true → HasClass f
class_of (Low p c) t = let x = and_parts _ _ t in record { above = at_most_true (negsuc 0) c x.0; below = at_most_true c (pos 1) x.1 }
class_of (Rng p l h) t = tt
class_of (LenRng p l h) t = tt
class_of (Same a b) t = tt
class_of (IsLen p a) t = tt
class_of (Less p q c) t = tt
class_of (Sum u y z) t = tt
class_of (Search p a) t = tt
class_of (Neg p a) t = tt
class_of (Upper p a o c) t = tt

ends_of : (f : Fact) → has_ends f ≡ true → HasIntEnds f
ends_of (Rng p l h) t = let x = and_parts _ _ t in λ some. (at_most_true least_int l x.0, at_most_true h greatest_int x.1)
ends_of (LenRng p l h) t = let x = and_parts _ _ t in λ some. (at_most_true (pos 0) l x.0, at_most_true h greatest_int x.1)
ends_of (Low p c) t = tt
ends_of (Same a b) t = tt
ends_of (IsLen p a) t = tt
ends_of (Less p q c) t = tt
ends_of (Sum u y z) t = tt
ends_of (Search p a) t = tt
ends_of (Neg p a) t = tt
ends_of (Upper p a o c) t = tt

pub may_stand : (f : Fact) → is_entry f ≡ true → MayStand f
may_stand f t = let x = entry_parts f t in record { tells = x.tells; class = class_of f x.ends; ends = ends_of f x.ends }
