-- What was read from the lines of a whole store is a whole store: the facts are the same, each in the order in which it is written.
use Rattle.std.specs.Prelude.{◌≡◌, ◌≢◌, ℕ, ◌<◌, ◌^◌, Bool, true, false, not, ◌&&◌, ◌||◌, if◌then◌else◌, cond, codes, ℤ, pos, negsuc, ◌≤ℤ◌, ◌<ℤ◌, int_le, int_lt, List, [], ◌∷◌, ◌++◌, nat_lt, map, refl}
use Rattle.std.specs.List.{IsDistinct, AllByRecursion, list_all}
use Rattle.std.specs.Ordering.{eq_by_cmp}
use Rattle.std.proofs.Common.{arith, inl, inr, ap, sym, ◌∙◌, subst, ⊎_elim, append_assoc}
use Rattle.std.proofs.lemmas.Bool.{and_parts, false≢true}
use Rattle.std.proofs.lemmas.Bool.Decides.{nat_tests}
use Rattle.std.proofs.lemmas.Int.{ints}
use Rattle.ix_num.specs.Ints.{least_int, greatest_int, IsInt}
use Rattle.ix_core.specs.declared.fact.Fact.{Fact}
use Rattle.ix_core.specs.declared.fact.Fact.TheVariants.{Rng, LenRng, Low, Same, IsLen, Less, Sum, Search, Neg, Upper}
use Rattle.ix_core.specs.declared.fact.Path.{Path}
use Rattle.ix_core.specs.declared.fact.Path.TheVariants.{Slot, FieldOf}
use Rattle.ix_core.specs.declared.fact.PathOff.{PathOff}
use Rattle.ix_core.specs.declared.fact.PathOff.TheVariants.{Nothing, Plus, Minus}
use Rattle.ix_core.proofs.Cases.{by_test}
use Rattle.ix_facts.specs.Facts.{IsIn, orders, in_orders, is_default}
use Rattle.ix_facts.specs.Forget.{names, offset_names}
use Rattle.ix_facts.specs.Closure.{SaysAll, Contradicts, given}
use Rattle.ix_facts.specs.Stores.{Stored, Unreachable, Reached, SayTheSame, IsClosedStore}
use Rattle.ix_facts.proofs.FactLists.{from_in_orders, in_in_orders}
use Rattle.ix_facts.proofs.SaidLaws.{order_default}
use Rattle.ix_facts.proofs.StoreLaws.{follows_says, contradicts_more}
use Rattle.ix_facts.proofs.Tests.{neither, at_most_true}
use Rattle.ix_fact_table.specs.Apart.{AreApart, is_proper}
use Rattle.ix_fact_table.specs.Entries.{in_first_order, has_ends}
use Rattle.ix_fact_table.specs.EntryLaws.{order_first}
use Rattle.ix_fact_table.specs.FactOrder.{fact_cmp}
use Rattle.ix_fact_table.proofs.KeysApart.{key_flips}
use Rattle.ix_store.specs.WholeStores.{AreAStore}
use Rattle.ix_cert.specs.Lines.{AreLinesOf, IsAmong, path_text, fact_text, is_before, ended, lines_text}
use Rattle.ix_cert.specs.Labellings.{MayBeWritten, is_outside}
use Rattle.ix_cert.specs.Reading.{IsSmall, IsSmallOffset, IsSmallFact, MayBeRead, IsReadAs, FactsText, EndsLabel, LabelText, in_text_order}
use Rattle.ix_cert.proofs.Bytes.{cancel}
use Rattle.ix_cert.proofs.Orders.{text_order_in, before_itself}
use Rattle.ix_cert.proofs.Ends.{fact_is_word}
use Rattle.ix_cert.proofs.ReadLines.{AscendFrom, AreReadAs, MayAllBeRead, ascend_first, ascend_lower, lines_of, match_lines, read_at, line_at, line_among, among_more, lines_read, each_inside}

-- ---- both orders of a fact

swapped : (g f h : Fact) → IsIn g (f ∷ h ∷ []) → IsIn g (h ∷ f ∷ [])
swapped g f h i = ⊎_elim (λ e. inr (inl e)) (λ j. ⊎_elim (λ e. inl e) (λ n. absurd n) j) i

pub turned_forth : (g f : Fact) → IsIn g (orders f) → IsIn g (orders (in_text_order f))
turned_forth g (Same a b) i = by_test (is_before (path_text b) (path_text a)) (λ t. rw t (swapped g (Same a b) (Same b a) i)) (λ t. rw t i)
turned_forth g (Sum t y z) i = by_test (is_before (path_text z) (path_text y)) (λ u. rw u (swapped g (Sum t y z) (Sum t z y) i)) (λ u. rw u i)
turned_forth g (Upper p a (Plus q) c) i = by_test (is_before (path_text q) (path_text p)) (λ t. rw t (swapped g (Upper p a (Plus q) c) (Upper q a (Plus p) c) i)) (λ t. rw t i)
turned_forth g (Upper p a Nothing c) i = i
turned_forth g (Upper p a (Minus q) c) i = i
turned_forth g (Rng p l h) i = i
turned_forth g (LenRng a l h) i = i
turned_forth g (Low p c) i = i
turned_forth g (IsLen p a) i = i
turned_forth g (Less p q c) i = i
turned_forth g (Search p a) i = i
turned_forth g (Neg p a) i = i

back_if : (t : Bool) (g f h : Fact) → IsIn g (cond t (h ∷ f ∷ []) (f ∷ h ∷ [])) → IsIn g (f ∷ h ∷ [])
back_if true g f h i = swapped g h f i
back_if false g f h i = i

orders_same : (t : Bool) (a b : Path) → orders (if t then Same b a else Same a b) ≡ cond t (Same b a ∷ Same a b ∷ []) (Same a b ∷ Same b a ∷ [])
orders_same true a b = refl
orders_same false a b = refl

orders_sum : (u : Bool) (t y z : Path) → orders (if u then Sum t z y else Sum t y z) ≡ cond u (Sum t z y ∷ Sum t y z ∷ []) (Sum t y z ∷ Sum t z y ∷ [])
orders_sum true t y z = refl
orders_sum false t y z = refl

orders_upper : (t : Bool) (p a q : Path) (c : ℤ) → orders (if t then Upper q a (Plus p) c else Upper p a (Plus q) c) ≡ cond t (Upper q a (Plus p) c ∷ Upper p a (Plus q) c ∷ []) (Upper p a (Plus q) c ∷ Upper q a (Plus p) c ∷ [])
orders_upper true p a q c = refl
orders_upper false p a q c = refl

pub turned_back : (g f : Fact) → IsIn g (orders (in_text_order f)) → IsIn g (orders f)
turned_back g (Same a b) i = let t = is_before (path_text b) (path_text a) in back_if t g (Same a b) (Same b a) (subst (IsIn g) (orders_same t a b) i)
turned_back g (Sum t y z) i = let u = is_before (path_text z) (path_text y) in back_if u g (Sum t y z) (Sum t z y) (subst (IsIn g) (orders_sum u t y z) i)
turned_back g (Upper p a (Plus q) c) i =
    let t = is_before (path_text q) (path_text p) in
    back_if t g (Upper p a (Plus q) c) (Upper q a (Plus p) c) (subst (IsIn g) (orders_upper t p a q c) i)
turned_back g (Upper p a Nothing c) i = i
turned_back g (Upper p a (Minus q) c) i = i
turned_back g (Rng p l h) i = i
turned_back g (LenRng a l h) i = i
turned_back g (Low p c) i = i
turned_back g (IsLen p a) i = i
turned_back g (Less p q c) i = i
turned_back g (Search p a) i = i
turned_back g (Neg p a) i = i

order_proper : (f : Fact) → is_proper (in_text_order f) ≡ is_proper f
order_proper (Same a b) = by_test (is_before (path_text b) (path_text a)) (λ t. rw t refl) (λ t. rw t refl)
order_proper (Sum t y z) = by_test (is_before (path_text z) (path_text y)) (λ u. rw u refl) (λ u. rw u refl)
order_proper (Upper p a (Plus q) c) = by_test (is_before (path_text q) (path_text p)) (λ t. rw t refl) (λ t. rw t refl)
order_proper (Upper p a Nothing c) = refl
order_proper (Upper p a (Minus q) c) = refl
order_proper (Rng p l h) = refl
order_proper (LenRng a l h) = refl
order_proper (Low p c) = refl
order_proper (IsLen p a) = refl
order_proper (Less p q c) = refl
order_proper (Search p a) = refl
order_proper (Neg p a) = refl

-- ---- facts of a whole store have small numbers

pub each_proper : (facts : List Fact) → list_all is_proper facts ≡ true → (f : Fact) → IsIn f facts → is_proper f ≡ true
each_proper [] all f i = absurd i
each_proper (g ∷ facts) all f i =
    let parts = and_parts (is_proper g) (list_all is_proper facts) all in
    ⊎_elim (λ e. subst (λ x. is_proper x ≡ true) (sym e) parts.0) (λ j. each_proper facts parts.1 f j) i

all_proper : (facts : List Fact) → ((f : Fact) → IsIn f facts → is_proper f ≡ true) → list_all is_proper facts ≡ true
all_proper [] each = refl
all_proper (g ∷ facts) each = rw (each g (inl refl)) (all_proper facts (λ f i. each f (inr i)))

not_not : (b : Bool) → not b ≡ false → b ≡ true
not_not true h = refl
not_not false h = absurd (false≢true (sym h))

below_by : (m n : ℕ) → nat_lt m n ≡ true → m < n
below_by m n h = grind (arith, nat_tests)

small_path : (slots fields : ℕ) (p : Path) → slots < 2 ^ 32 → fields < 2 ^ 32 → is_outside slots fields p ≡ false → IsSmall p
small_path slots fields (Slot s) x y h =
    let b = below_by s slots (not_not (nat_lt s slots) h) in
    omega (arith, b, x)
small_path slots fields (FieldOf s f) x y h =
    let parts = and_parts (nat_lt s slots) (nat_lt f fields) (not_not (nat_lt s slots && nat_lt f fields) h) in
    let b = below_by s slots parts.0 in
    let c = below_by f fields parts.1 in
    (omega (arith, b, x), omega (arith, c, y))

int_between : (low high c : ℤ) → least_int ≤ℤ low → high ≤ℤ greatest_int → (int_le low c && int_le c high) ≡ true → IsInt c
int_between low high c x y h =
    let parts = and_parts (int_le low c) (int_le c high) h in
    let a = at_most_true low c parts.0 in
    let b = at_most_true c high parts.1 in
    record { from = omega (arith, ints, x, a); to = omega (arith, ints, y, b) }

less_by : (h l : ℤ) → int_lt h l ≡ true → h <ℤ l
less_by h l t = grind (arith, ints, t)

most_by : (l h : ℤ) → int_lt h l ≡ false → l ≤ℤ h
most_by l h t = grind (arith, ints, t)

ordered : (l h : ℤ) → (h <ℤ l → ⊥) → l ≤ℤ h
ordered l h full = by_test (int_lt h l) (λ t. absurd (full (less_by h l t))) (λ t. most_by l h t)

-- both ends of a range, of which a state meets the facts
int_ends : (low l h : ℤ) → least_int ≤ℤ low → (int_le low l && int_le h greatest_int) ≡ true → (h <ℤ l → ⊥) → IsInt l × IsInt h
int_ends low l h x e full =
    let parts = and_parts (int_le low l) (int_le h greatest_int) e in
    let a = at_most_true low l parts.0 in
    let b = at_most_true h greatest_int parts.1 in
    let c : l ≤ℤ h = ordered l h full in
    (record { from = omega (arith, ints, x, a); to = omega (arith, ints, b, c) }, record { from = omega (arith, ints, x, a, c); to = b })

ends_of : (f : Fact) → is_proper f ≡ true → has_ends f ≡ true
ends_of f t = (and_parts (has_ends f) _ t).0

-- ---- facts at one key are one

other_key : (f g : Fact) (facts : List Fact) → AllByRecursion (λ k. eq_by_cmp fact_cmp (in_first_order f) k ≡ false) (map in_first_order facts) → IsIn g facts
    → eq_by_cmp fact_cmp (in_first_order f) (in_first_order g) ≡ false
other_key f g [] all i = absurd i
other_key f g (h ∷ facts) all i =
    ⊎_elim (λ e. subst (λ k. eq_by_cmp fact_cmp (in_first_order f) (in_first_order k) ≡ false) (sym e) all.0) (λ j. other_key f g facts all.1 j) i

pub one_at_key : (facts : List Fact) → AreApart facts → (f g : Fact) → IsIn f facts → IsIn g facts → eq_by_cmp fact_cmp (in_first_order f) (in_first_order g) ≡ true → f ≡ g
unfolding IsDistinct
one_at_key [] apart f g i j key = absurd i
one_at_key (h ∷ facts) apart f g i j key =
    ⊎_elim
    (λ d.
    ⊎_elim
    (λ e. d ∙ sym e)
    (λ k. absurd (false≢true (sym (other_key h g facts apart.0 k) ∙ subst (λ u. eq_by_cmp fact_cmp (in_first_order u) (in_first_order g) ≡ true) d key)))
    j)
    (λ m.
    ⊎_elim
    (λ e.
    let turned : eq_by_cmp fact_cmp (in_first_order g) (in_first_order f) ≡ true = key_flips (in_first_order g) (in_first_order f) ∙ key in
    absurd (false≢true (sym (other_key h f facts apart.0 m) ∙ subst (λ u. eq_by_cmp fact_cmp (in_first_order u) (in_first_order f) ≡ true) e turned)))
    (λ k. one_at_key facts apart.1 f g m k key)
    j)
    i

module _ (slots fields : ℕ) (x : slots < 2 ^ 32) (y : fields < 2 ^ 32) where
  small_offset : (o : PathOff) → offset_names (is_outside slots fields) o ≡ false → IsSmallOffset o
  small_offset Nothing h = tt
  small_offset (Plus q) h = small_path slots fields q x y h
  small_offset (Minus q) h = small_path slots fields q x y h

  small_two : (p q : Path) → (is_outside slots fields p || is_outside slots fields q) ≡ false → IsSmall p × IsSmall q
  small_two p q h =
      let parts = neither (is_outside slots fields p) (is_outside slots fields q) h in
      (small_path slots fields p x y parts.0, small_path slots fields q x y parts.1)

  small_fact : (facts : List Fact) (f : Fact) → ¬ Contradicts facts → IsIn f facts → has_ends f ≡ true → names (is_outside slots fields) f ≡ false → IsSmallFact f
  small_fact facts (Rng p l h) full i ends inside =
      let both = int_ends least_int l h (omega (arith, ints)) ends (λ less. full (p, l, h, inl (given (Rng p l h) i), less)) in
      (small_path slots fields p x y inside, both.0, both.1)
  small_fact facts (LenRng a l h) full i ends inside =
      let both = int_ends (pos 0) l h (omega (arith, ints)) ends (λ less. full (a, l, h, inr (given (LenRng a l h) i), less)) in
      (small_path slots fields a x y inside, both.0, both.1)
  small_fact facts (Low p c) full i ends inside = (small_path slots fields p x y inside, int_between (negsuc 0) (pos 1) c (omega (arith, ints)) (omega (arith, ints)) ends)
  small_fact facts (Same a b) full i ends inside = small_two a b inside
  small_fact facts (IsLen p a) full i ends inside = small_two p a inside
  small_fact facts (Less p q c) full i ends inside =
      let both = small_two p q inside in
      (both.0, both.1, int_between least_int greatest_int c (omega (arith, ints)) (omega (arith, ints)) ends)
  small_fact facts (Sum t u z) full i ends inside =
      let parts = neither (is_outside slots fields t) (is_outside slots fields u || is_outside slots fields z) inside in
      let both = small_two u z parts.1 in
      (small_path slots fields t x y parts.0, both.0, both.1)
  small_fact facts (Search p a) full i ends inside = small_two p a inside
  small_fact facts (Neg p a) full i ends inside = small_two p a inside
  small_fact facts (Upper p a o c) full i ends inside =
      let parts = neither (is_outside slots fields p) (is_outside slots fields a || offset_names (is_outside slots fields) o) inside in
      let more = neither (is_outside slots fields a) (offset_names (is_outside slots fields) o) parts.1 in
      (small_path slots fields p x y parts.0, small_path slots fields a x y more.0, small_offset o more.1, int_between least_int greatest_int c (omega (arith, ints)) (omega (arith, ints)) ends)

  pub may_be_read : (facts : List Fact) → MayBeWritten slots fields facts → (f : Fact) → IsIn f facts → MayBeRead slots fields f
  may_be_read facts may f i = record {
    small = small_fact facts f may.whole.closed.1 i (ends_of f (each_proper facts may.whole.proper f i)) (may.inside f i);
    inside = may.inside f i;
  }

  -- ---- the lines of a whole store, each that of one of its facts

  abbrev pub FromFacts : List Fact → List (List ℕ) → Type 0
  FromFacts written [] = Unit {0}
  FromFacts written (line ∷ lines) = ((f : Fact) × IsIn f written × (line ≡ fact_text f)) × FromFacts written lines

  pub from_facts : (written : List Fact) (lines : List (List ℕ)) → ((line : List ℕ) → IsAmong line lines → (f : Fact) × IsIn f written × (line ≡ fact_text f)) → FromFacts written lines
  from_facts written [] each = tt
  from_facts written (line ∷ lines) each = (each line (line_among line lines), from_facts written lines (λ other among. each other (among_more line other lines among)))

  pub all_may : (written : List Fact) → MayBeWritten slots fields written → (lines : List (List ℕ)) → FromFacts written lines → MayAllBeRead slots fields lines
  all_may written may [] from = tt
  all_may written may (line ∷ lines) from = ((from.0.0, may_be_read written may from.0.0 from.0.1, from.0.2), all_may written may lines from.1)

  -- ---- what was read, fact by fact

  module _ (written : List Fact) (may : MayBeWritten slots fields written) where
    read_is : (line : List ℕ) (g f : Fact) → IsReadAs slots fields line g → IsIn f written → line ≡ fact_text f → g ≡ in_text_order f
    read_is line g f read i e = read.only f (may_be_read written may f i).small (sym e)

    first_is : (g f : Fact) → g ≡ in_text_order f → in_first_order g ≡ in_first_order f
    first_is g f e = ap in_first_order e ∙ order_first f (in_text_order f) (text_order_in f)

    one_apart : (line other : List ℕ) (g h : Fact) → IsReadAs slots fields line g → IsReadAs slots fields other h → is_before line other ≡ true
        → ((f : Fact) × IsIn f written × (line ≡ fact_text f)) → ((f : Fact) × IsIn f written × (other ≡ fact_text f)) → eq_by_cmp fact_cmp (in_first_order g) (in_first_order h) ≡ false
    one_apart line other g h a b before v w =
        by_test (eq_by_cmp fact_cmp (in_first_order g) (in_first_order h))
        (λ t.
        let first = first_is g v.0 (read_is line g v.0 a v.1 v.2) in
        let second = first_is h w.0 (read_is other h w.0 b w.1 w.2) in
        let key : eq_by_cmp fact_cmp (in_first_order v.0) (in_first_order w.0) ≡ true = subst (λ k. eq_by_cmp fact_cmp k (in_first_order w.0) ≡ true) first (subst (λ k. eq_by_cmp fact_cmp (in_first_order g) k ≡ true) second t) in
        let same : v.0 ≡ w.0 = one_at_key written may.whole.apart v.0 w.0 v.1 w.1 key in
        let line_same : other ≡ line = w.2 ∙ (sym (ap fact_text same) ∙ sym v.2) in
        absurd (false≢true (sym (before_itself line) ∙ subst (λ k. is_before line k ≡ true) line_same before)))
        (λ t. t)

    others_apart : (line : List ℕ) (g : Fact) (facts : List Fact) (lines : List (List ℕ)) → IsReadAs slots fields line g → AreReadAs slots fields facts lines → AscendFrom line lines
        → ((f : Fact) × IsIn f written × (line ≡ fact_text f)) → FromFacts written lines → AllByRecursion (λ k. eq_by_cmp fact_cmp (in_first_order g) k ≡ false) (map in_first_order facts)
    others_apart line g [] lines a all rises v from = tt
    others_apart line g (h ∷ facts) [] a all rises v from = absurd all
    others_apart line g (h ∷ facts) (other ∷ lines) a all rises v from = (one_apart line other g h a all.0 rises.0 v from.0, others_apart line g facts lines a all.1 (ascend_lower line other lines rises.0 rises.1) v from.1)

    all_apart : (last : List ℕ) (facts : List Fact) (lines : List (List ℕ)) → AreReadAs slots fields facts lines → AscendFrom last lines → FromFacts written lines → AreApart facts
    unfolding IsDistinct
    all_apart last [] lines all rises from = tt
    all_apart last (g ∷ facts) [] all rises from = absurd all
    all_apart last (g ∷ facts) (line ∷ lines) all rises from = (others_apart line g facts lines all.0 all.1 rises.1 from.0 from.1, all_apart line facts lines all.1 rises.1 from.1)

    -- ---- the same facts, each in the order in which it is written

    module _ (facts : List Fact) (lines : List (List ℕ)) (all : AreReadAs slots fields facts lines) (own : AreLinesOf written lines) where
      back : (g : Fact) → IsIn g facts → (f : Fact) × IsIn f written × (g ≡ in_text_order f)
      back g i =
          let r = line_at slots fields facts lines g all i in
          let w = (own.1 r.0).0 r.1 in
          (w.0, w.1, read_is r.0 g w.0 r.2 w.1 w.2)

      forth : (f : Fact) → IsIn f written → IsIn (in_text_order f) facts
      forth f i =
          let among = (own.1 (fact_text f)).1 (f, i, refl) in
          let r = read_at slots fields facts lines (fact_text f) all among.0 among.1 among.2 in
          subst (λ k. IsIn k facts) (read_is (fact_text f) r.0 f r.2 i refl) r.1

      own_proper : list_all is_proper facts ≡ true
      own_proper = all_proper facts (λ g i. let b = back g i in ap is_proper b.2 ∙ (order_proper b.0 ∙ each_proper written may.whole.proper b.0 b.1))

      -- the orders of both are the same
      orders_back : (g : Fact) → IsIn g (in_orders facts) → IsIn g (in_orders written)
      orders_back g i =
          let r = from_in_orders g facts i in
          let b = back r.0 r.1 in
          let told : is_default b.0 ≡ false = sym (order_default b.0 (in_text_order b.0) (text_order_in b.0)) ∙ (sym (ap is_default b.2) ∙ r.3) in
          in_in_orders g b.0 written b.1 (turned_back g b.0 (subst (λ k. IsIn g (orders k)) b.2 r.2)) told

      orders_forth : (g : Fact) → IsIn g (in_orders written) → IsIn g (in_orders facts)
      orders_forth g i =
          let r = from_in_orders g written i in
          in_in_orders g (in_text_order r.0) facts (forth r.0 r.1) (turned_forth g r.0 r.2) (order_default r.0 (in_text_order r.0) (text_order_in r.0) ∙ r.3)

      says_back : SaysAll written facts
      says_back = λ f said. ⊎_elim (λ d. inl d) (λ w. inr (w.0, orders_back w.0 w.1, w.2)) said

      says_forth : SaysAll facts written
      says_forth = λ f said. ⊎_elim (λ d. inl d) (λ w. inr (w.0, orders_forth w.0 w.1, w.2)) said

      own_closed : IsClosedStore (Reached facts)
      own_closed = (
        λ f follows. says_forth f (may.whole.closed.0 f (follows_says written facts says_back f follows)),
        λ against. may.whole.closed.1 (contradicts_more written facts (follows_says written facts says_back) against),
      )

      own_from : FromFacts written lines
      own_from = from_facts written lines (λ line among. (own.1 line).0 among)

      pub whole : AscendFrom [] lines → AreAStore facts
      whole rises = record { proper = own_proper; apart = all_apart [] facts lines all rises own_from; closed = own_closed }

-- ---- the label

pub label_read : (slots fields : ℕ) (text : List ℕ) (facts : List Fact) (rest : List ℕ) (store : Stored)
    → FactsText slots fields [] text facts rest → AreAStore facts → SayTheSame store (Reached facts) → LabelText slots fields store text rest
label_read slots fields text facts rest Unreachable t whole same = absurd same.1
label_read slots fields text facts rest (Reached own) t whole same =
    let r = lines_of slots fields [] text facts rest t in (
      r.0,
      (facts, record { whole = whole; inside = λ f i. each_inside slots fields facts r.0 f r.2 i }, (same.1, same.0), lines_read slots fields facts r.0 r.1 r.2),
      r.3,
    )

-- the label that stands there is read
pub label_each : (slots fields : ℕ) (x : slots < 2 ^ 32) (y : fields < 2 ^ 32) (text : List ℕ) (facts : List Fact) (rest : List ℕ) (store : Stored) (after : List ℕ)
    → FactsText slots fields [] text facts rest → ((other : List ℕ) → text ≢ codes "unreachable\n" ++ other) → LabelText slots fields store text after → EndsLabel after
    → (rest ≡ after) × AreAStore facts
label_each slots fields x y text facts rest Unreachable after t none label ends =
    absurd (none after (label.2 ∙ ap (λ ls. lines_text ls ++ after) label.1))
label_each slots fields x y text facts rest (Reached own) after t none label ends =
    let written = label.1.0 in
    let may = label.1.1 in
    let from = from_facts slots fields x y written label.0 (λ line among. (label.1.3.1 line).0 among) in
    let all = all_may slots fields x y written may label.0 from in
    let rises = ascend_first slots fields label.0 label.1.3.0 all in
    let r = match_lines slots fields [] text facts rest label.0 after t rises all label.2 ends in
    (r.0, whole slots fields x y written may facts label.0 r.1 label.1.3 rises)

pub no_lines : (text rest after : List ℕ) (lines : List (List ℕ)) → ((line : List ℕ) → IsAmong line lines → (f : Fact) × (line ≡ fact_text f)) → text ≡ codes "unreachable\n" ++ rest
    → text ≡ lines_text lines ++ after → EndsLabel after → ⊥
no_lines text rest after [] each e is ends = ends.unreachable rest (sym is ∙ e)
no_lines text rest after (line ∷ lines) each e is ends =
    let w = each line (line_among line lines) in
    fact_is_word w.0 (lines_text lines ++ after) rest (sym e ∙ (is ∙ (append_assoc (ended line) (lines_text lines) after ∙ ap (λ x. ended x ++ (lines_text lines ++ after)) w.1)))

-- where the text begins with `unreachable`, that is the label
pub unreachable_each : (slots fields : ℕ) (text rest : List ℕ) (store : Stored) (after : List ℕ) → text ≡ codes "unreachable\n" ++ rest → LabelText slots fields store text after → EndsLabel after → rest ≡ after
unreachable_each slots fields text rest Unreachable after e label ends =
    cancel (codes "unreachable\n") rest after (sym e ∙ (label.2 ∙ ap (λ ls. lines_text ls ++ after) label.1))
unreachable_each slots fields text rest (Reached own) after e label ends =
    absurd (no_lines text rest after label.0 (λ line among. let w = (label.1.3.1 line).0 among in (w.0, w.2)) e label.2 ends)

pub unreachable_read : (slots fields : ℕ) (text rest : List ℕ) → text ≡ codes "unreachable\n" ++ rest → LabelText slots fields Unreachable text rest
unreachable_read slots fields text rest e = (codes "unreachable" ∷ [], refl, e)
