-- The order of facts by their keys: the kind, the first path, the form and the other paths. So the facts of one kind stand together, ranges first. Numbers don't
-- count: two facts are equal in this order exactly where they say something of the same, perhaps with other numbers.
use Rattle.std.specs.Prelude.{◌≡◌, ℕ, ℤ, Bool, true, refl}
use Rattle.std.specs.declared.cmp.Ordering.{Ordering}
use Rattle.std.specs.declared.cmp.Ordering.TheVariants.{Less as Before, Equal, Greater}
use Rattle.std.specs.Ordering.{is_lt, is_eq, nat_cmp, ordering_then, then_cmp, on}
use Rattle.std.specs.Cmp.{IsTotalOrder}
use Rattle.std.proofs.Common.{arith, ap, sym, ◌∙◌, subst}
use Rattle.std.proofs.lemmas.Bool.{false≢true}
use Rattle.std.proofs.lemmas.Bool.Decides.{nat_tests}
use Rattle.std.proofs.lemmas.Cmp.{then_total, on_total, nat_cmp_total, tied_itself}
use Rattle.ix_core.specs.declared.fact.Path.{Path}
use Rattle.ix_core.specs.declared.fact.Path.TheVariants.{Slot, FieldOf}
use Rattle.ix_core.specs.declared.fact.PathOff.{PathOff}
use Rattle.ix_core.specs.declared.fact.PathOff.TheVariants.{Nothing, Plus, Minus}
use Rattle.ix_core.specs.declared.fact.Fact.{Fact}
use Rattle.ix_core.specs.declared.fact.Fact.TheVariants.{Rng, LenRng, Low, Same, IsLen, Less, Sum, Search, Neg, Upper}
use Rattle.ix_facts.specs.PathOrder.{path_cmp, path_total, offset_cmp, offset_total}

abbrev pub first_path : Fact → Path
first_path (Rng p l h) = p
first_path (LenRng a l h) = a
first_path (Low p c) = p
first_path (Same a b) = a
first_path (IsLen p a) = p
first_path (Less p q c) = p
first_path (Sum t y z) = t
first_path (Search p a) = p
first_path (Neg p a) = p
first_path (Upper p a o c) = p

-- the place of its kind among the kinds
abbrev pub kind_place : Fact → ℕ
kind_place (Rng p l h) = 0
kind_place (LenRng a l h) = 0
kind_place (Low p c) = 1
kind_place (Same a b) = 2
kind_place (IsLen p a) = 2
kind_place (Less p q c) = 3
kind_place (Sum t y z) = 3
kind_place (Search p a) = 4
kind_place (Neg p a) = 4
kind_place (Upper p a o c) = 5

abbrev pub form : Fact → ℕ
form (Rng p l h) = 0
form (LenRng a l h) = 1
form (Low p c) = 2
form (Same a b) = 3
form (IsLen p a) = 4
form (Less p q c) = 5
form (Sum t y z) = 6
form (Search p a) = 7
form (Neg p a) = 8
form (Upper p a o c) = 9

abbrev pub second_path : Fact → Path
second_path (Same a b) = b
second_path (IsLen p a) = a
second_path (Less p q c) = q
second_path (Sum t y z) = y
second_path (Search p a) = a
second_path (Neg p a) = a
second_path (Upper p a o c) = a
second_path _ = Slot 0

abbrev pub third : Fact → PathOff
third (Sum t y z) = Plus z
third (Upper p a o c) = o
third _ = Nothing

abbrev pub rest_cmp : Fact → Fact → Ordering
rest_cmp f g = ordering_then (nat_cmp (form f) (form g)) (ordering_then (path_cmp (second_path f) (second_path g)) (offset_cmp (third f) (third g)))

-- of facts of one kind
abbrev pub kind_cmp : Fact → Fact → Ordering
kind_cmp f g = ordering_then (path_cmp (first_path f) (first_path g)) (rest_cmp f g)

abbrev pub fact_cmp : Fact → Fact → Ordering
fact_cmp f g = ordering_then (nat_cmp (kind_place f) (kind_place g)) (kind_cmp f g)

-- its kind stands before the kind of this place
abbrev pub comes_before : ℕ → Fact → Bool
comes_before n f = is_lt (nat_cmp (kind_place f) n)

-- ---- the order is total

abbrev by_parts : Fact → Fact → Ordering
by_parts = then_cmp (on kind_place nat_cmp) (then_cmp (on first_path path_cmp) (then_cmp (on form nat_cmp) (then_cmp (on second_path path_cmp) (on third offset_cmp))))

pub fact_total : IsTotalOrder fact_cmp
fact_total =
    let same : by_parts ≡ fact_cmp = refl in
    subst (λ (cmp : Fact → Fact → Ordering). IsTotalOrder cmp) same
    (then_total (on_total kind_place nat_cmp_total) (then_total (on_total first_path path_total) (then_total (on_total form nat_cmp_total) (then_total (on_total second_path path_total) (on_total third offset_total)))))

-- ---- facts at one key

-- The two facts have one form and the same paths.
pub data AtKey : Fact → Fact → Type 0 where
  rng : (p : Path) (l h m k : ℤ) → AtKey (Rng p l h) (Rng p m k)
  len_rng : (a : Path) (l h m k : ℤ) → AtKey (LenRng a l h) (LenRng a m k)
  low : (p : Path) (c d : ℤ) → AtKey (Low p c) (Low p d)
  same : (a b : Path) → AtKey (Same a b) (Same a b)
  is_len : (p a : Path) → AtKey (IsLen p a) (IsLen p a)
  less : (p q : Path) (c d : ℤ) → AtKey (Less p q c) (Less p q d)
  sum : (t y z : Path) → AtKey (Sum t y z) (Sum t y z)
  search : (p a : Path) → AtKey (Search p a) (Search p a)
  neg : (p a : Path) → AtKey (Neg p a) (Neg p a)
  upper : (p a : Path) (o : PathOff) (c d : ℤ) → AtKey (Upper p a o c) (Upper p a o d)

both_equal : (first second : Ordering) → is_eq (ordering_then first second) ≡ true → (is_eq first ≡ true) × (is_eq second ≡ true)
both_equal Before second h = absurd (false≢true h)
both_equal Equal second h = (refl, h)
both_equal Greater second h = absurd (false≢true h)

number_same : (s t : ℕ) → is_eq (nat_cmp s t) ≡ true → s ≡ t
number_same s t h = grind (arith, nat_tests)

pub path_same : (p q : Path) → is_eq (path_cmp p q) ≡ true → p ≡ q
path_same (Slot s) (Slot t) h = ap Slot (number_same s t h)
path_same (Slot s) (FieldOf t g) h = absurd (false≢true h)
path_same (FieldOf s f) (Slot t) h = absurd (false≢true h)
path_same (FieldOf s f) (FieldOf t g) h =
    let both = both_equal (nat_cmp s t) (nat_cmp f g) h in
    let a = number_same s t both.0 in
    let b = number_same f g both.1 in
    cc

offset_same : (x y : PathOff) → is_eq (offset_cmp x y) ≡ true → x ≡ y
offset_same Nothing Nothing h = refl
offset_same Nothing (Plus q) h = absurd (false≢true h)
offset_same Nothing (Minus q) h = absurd (false≢true h)
offset_same (Plus p) Nothing h = absurd (false≢true h)
offset_same (Plus p) (Plus q) h = ap Plus (path_same p q h)
offset_same (Plus p) (Minus q) h = absurd (false≢true h)
offset_same (Minus p) Nothing h = absurd (false≢true h)
offset_same (Minus p) (Plus q) h = absurd (false≢true h)
offset_same (Minus p) (Minus q) h = ap Minus (path_same p q h)

pub record SameParts (f g : Fact) : Type 0 where
  pub first : first_path f ≡ first_path g
  pub forms : is_eq (nat_cmp (form f) (form g)) ≡ true
  pub second : second_path f ≡ second_path g
  pub last : third f ≡ third g

same_parts : (f g : Fact) → is_eq (fact_cmp f g) ≡ true → SameParts f g
same_parts f g h =
    let whole = both_equal (nat_cmp (kind_place f) (kind_place g)) (kind_cmp f g) h in
    let a = both_equal (path_cmp (first_path f) (first_path g)) (rest_cmp f g) whole.1 in
    let b = both_equal (nat_cmp (form f) (form g)) (ordering_then (path_cmp (second_path f) (second_path g)) (offset_cmp (third f) (third g))) a.1 in
    let c = both_equal (path_cmp (second_path f) (second_path g)) (offset_cmp (third f) (third g)) b.1 in
    record {
      first = path_same (first_path f) (first_path g) a.0;
      forms = b.0;
      second = path_same (second_path f) (second_path g) c.0;
      last = offset_same (third f) (third g) c.1;
    }

at_key_by : (f g : Fact) → SameParts f g → AtKey f g
at_key_by (Rng p l h) (Rng q m k) s = subst (λ x. AtKey (Rng p l h) (Rng x m k)) s.first (rng p l h m k)
at_key_by (LenRng p l h) (LenRng q m k) s = subst (λ x. AtKey (LenRng p l h) (LenRng x m k)) s.first (len_rng p l h m k)
at_key_by (Low p c) (Low q d) s = subst (λ x. AtKey (Low p c) (Low x d)) s.first (low p c d)
at_key_by (Same a b) (Same c d) s = subst (λ x. AtKey (Same a b) (Same x d)) s.first (subst (λ y. AtKey (Same a b) (Same a y)) s.second (same a b))
at_key_by (IsLen a b) (IsLen c d) s = subst (λ x. AtKey (IsLen a b) (IsLen x d)) s.first (subst (λ y. AtKey (IsLen a b) (IsLen a y)) s.second (is_len a b))
at_key_by (Less a b m) (Less c d n) s = subst (λ x. AtKey (Less a b m) (Less x d n)) s.first (subst (λ y. AtKey (Less a b m) (Less a y n)) s.second (less a b m n))
at_key_by (Search a b) (Search c d) s = subst (λ x. AtKey (Search a b) (Search x d)) s.first (subst (λ y. AtKey (Search a b) (Search a y)) s.second (search a b))
at_key_by (Neg a b) (Neg c d) s = subst (λ x. AtKey (Neg a b) (Neg x d)) s.first (subst (λ y. AtKey (Neg a b) (Neg a y)) s.second (neg a b))
at_key_by (Sum t y z) (Sum u v w) s =
    let e : z ≡ w = cc in
    subst (λ x. AtKey (Sum t y z) (Sum x v w)) s.first (subst (λ x. AtKey (Sum t y z) (Sum t x w)) s.second (subst (λ x. AtKey (Sum t y z) (Sum t y x)) e (sum t y z)))
at_key_by (Upper p a o c) (Upper q b x d) s =
    subst (λ r. AtKey (Upper p a o c) (Upper r b x d)) s.first (subst (λ r. AtKey (Upper p a o c) (Upper p r x d)) s.second (subst (λ r. AtKey (Upper p a o c) (Upper p a r d)) s.last (upper p a o c d)))
at_key_by f g s = absurd (false≢true s.forms)

pub at_key : (f g : Fact) → is_eq (fact_cmp f g) ≡ true → AtKey f g
at_key f g h = at_key_by f g (same_parts f g h)

-- facts at one key compare alike with every fact
pub alike : (f g x : Fact) → AtKey f g → fact_cmp f x ≡ fact_cmp g x
alike _ _ x (rng p l h m k) = refl
alike _ _ x (len_rng p l h m k) = refl
alike _ _ x (low p c d) = refl
alike _ _ x (same a b) = refl
alike _ _ x (is_len p a) = refl
alike _ _ x (less p q c d) = refl
alike _ _ x (sum t y z) = refl
alike _ _ x (search p a) = refl
alike _ _ x (neg p a) = refl
alike _ _ x (upper p a o c d) = refl

pub alike_back : (f g x : Fact) → AtKey f g → fact_cmp x f ≡ fact_cmp x g
alike_back _ _ x (rng p l h m k) = refl
alike_back _ _ x (len_rng p l h m k) = refl
alike_back _ _ x (low p c d) = refl
alike_back _ _ x (same a b) = refl
alike_back _ _ x (is_len p a) = refl
alike_back _ _ x (less p q c d) = refl
alike_back _ _ x (sum t y z) = refl
alike_back _ _ x (search p a) = refl
alike_back _ _ x (neg p a) = refl
alike_back _ _ x (upper p a o c d) = refl

pub key_equal : (f g : Fact) → AtKey f g → fact_cmp f g ≡ Equal
key_equal f g k = sym (alike_back f g f k) ∙ tied_itself fact_total f

pub key_back : (f g : Fact) → AtKey f g → AtKey g f
key_back _ _ (rng p l h m k) = rng p m k l h
key_back _ _ (len_rng p l h m k) = len_rng p m k l h
key_back _ _ (low p c d) = low p d c
key_back _ _ (same a b) = same a b
key_back _ _ (is_len p a) = is_len p a
key_back _ _ (less p q c d) = less p q d c
key_back _ _ (sum t y z) = sum t y z
key_back _ _ (search p a) = search p a
key_back _ _ (neg p a) = neg p a
key_back _ _ (upper p a o c d) = upper p a o d c

pub key_on : (f g x : Fact) → AtKey f g → AtKey g x → AtKey f x
key_on f g x k m = at_key f x (ap is_eq (alike f g x k ∙ key_equal g x m))
