-- What facts say, as the order of facts: the first say all that the second say exactly where they are stronger in all their orders, so the rules,
-- which read facts in all their orders, depend on what is said alone.
use Rattle.std.specs.Prelude.{◌≡◌, ◌⊎◌, Bool, true, false, ◌||◌, List, [], ◌∷◌, ◌++◌, refl}
use Rattle.std.proofs.Common.{arith, inl, inr, ap, sym, ◌∙◌, subst, ⊎_elim}
use Rattle.std.proofs.lemmas.Bool.{false≢true, and_parts, and_from}
use Rattle.std.proofs.lemmas.Int.{ints}
use Rattle.ix_core.specs.declared.fact.Path.{Path}
use Rattle.ix_core.specs.declared.fact.PathOff.TheVariants.{Nothing, Plus, Minus}
use Rattle.ix_core.specs.declared.fact.Fact.{Fact}
use Rattle.ix_core.specs.declared.fact.Fact.TheVariants.{Rng, LenRng, Low, Same, IsLen, Less, Sum, Search, Neg, Upper}
use Rattle.ix_core.proofs.Cases.{by_test}
use Rattle.ix_facts.specs.Facts.{IsIn, Covers, Stronger, orders, is_default, in_orders, rng, len_rng, low, same, is_len, less, sum, search, neg, upper}
use Rattle.ix_facts.specs.Closure.{Default, Said, SaysAll}
use Rattle.ix_facts.specs.Exact.{each}
use Rattle.ix_facts.specs.Forget.{names, without}
use Rattle.ix_facts.proofs.FactLists.{covers_itself, covers_covers, in_left, in_right, in_either, in_in_orders, from_in_orders, covers_told, orders_stronger, in_orders_stronger}
use Rattle.ix_facts.proofs.FormLaws.{first_order}
use Rattle.ix_facts.proofs.Frame.{in_without, without_in, covers_names}
use Rattle.ix_facts.proofs.Tests.{at_most_true, at_most_is}

-- ---- ranges that are said of every path

pub default_is : (f : Fact) → Default f → is_default f ≡ true
default_is (Rng p l h) d = and_from _ _ (at_most_is _ _ d.0) (at_most_is _ _ d.1)
default_is (LenRng p l h) d = and_from _ _ (at_most_is _ _ d.0) (at_most_is _ _ d.1)
default_is (Low p c) d = absurd d
default_is (Same a b) d = absurd d
default_is (IsLen p a) d = absurd d
default_is (Less p q c) d = absurd d
default_is (Sum t y z) d = absurd d
default_is (Search p a) d = absurd d
default_is (Neg p a) d = absurd d
default_is (Upper p a o c) d = absurd d

pub is_a_default : (f : Fact) → is_default f ≡ true → Default f
is_a_default (Rng p l h) t = let x = and_parts _ _ t in (at_most_true _ _ x.0, at_most_true _ _ x.1)
is_a_default (LenRng p l h) t = let x = and_parts _ _ t in (at_most_true _ _ x.0, at_most_true _ _ x.1)
is_a_default (Low p c) t = absurd (false≢true t)
is_a_default (Same a b) t = absurd (false≢true t)
is_a_default (IsLen p a) t = absurd (false≢true t)
is_a_default (Less p q c) t = absurd (false≢true t)
is_a_default (Sum u y z) t = absurd (false≢true t)
is_a_default (Search p a) t = absurd (false≢true t)
is_a_default (Neg p a) t = absurd (false≢true t)
is_a_default (Upper p a o c) t = absurd (false≢true t)

pub order_default : (f x : Fact) → IsIn x (orders f) → is_default x ≡ is_default f
order_default (Same a b) x i = ⊎_elim (λ e. ap is_default e) (λ j. ⊎_elim (λ e. ap is_default e) (λ y. absurd y) j) i
order_default (Sum t y z) x i = ⊎_elim (λ e. ap is_default e) (λ j. ⊎_elim (λ e. ap is_default e) (λ y. absurd y) j) i
order_default (Upper p a (Plus q) c) x i = ⊎_elim (λ e. ap is_default e) (λ j. ⊎_elim (λ e. ap is_default e) (λ y. absurd y) j) i
order_default (Upper p a Nothing c) x i = ⊎_elim (λ e. ap is_default e) (λ y. absurd y) i
order_default (Upper p a (Minus q) c) x i = ⊎_elim (λ e. ap is_default e) (λ y. absurd y) i
order_default (Rng p l h) x i = ⊎_elim (λ e. ap is_default e) (λ y. absurd y) i
order_default (LenRng p l h) x i = ⊎_elim (λ e. ap is_default e) (λ y. absurd y) i
order_default (Low p c) x i = ⊎_elim (λ e. ap is_default e) (λ y. absurd y) i
order_default (IsLen p a) x i = ⊎_elim (λ e. ap is_default e) (λ y. absurd y) i
order_default (Less p q c) x i = ⊎_elim (λ e. ap is_default e) (λ y. absurd y) i
order_default (Search p a) x i = ⊎_elim (λ e. ap is_default e) (λ y. absurd y) i
order_default (Neg p a) x i = ⊎_elim (λ e. ap is_default e) (λ y. absurd y) i

-- what facts tell in all their orders is no range of every path
pub told_in_orders : (facts : List Fact) (x : Fact) → IsIn x (in_orders facts) → is_default x ≡ false
told_in_orders facts x i = let f = from_in_orders x facts i in order_default f.0 x f.2 ∙ f.3

pub default_weaker : (g f : Fact) → Covers g f → Default g → Default f
default_weaker _ _ (rng p l h m k x y) d = (omega (arith, ints, x, d.0), omega (arith, ints, y, d.1))
default_weaker _ _ (len_rng p l h m k x y) d = (omega (arith, ints, x, d.0), omega (arith, ints, y, d.1))
default_weaker _ _ (low p c e x) d = absurd d
default_weaker _ _ (same a b) d = absurd d
default_weaker _ _ (is_len p a) d = absurd d
default_weaker _ _ (less p q c e x) d = absurd d
default_weaker _ _ (sum t y z) d = absurd d
default_weaker _ _ (search p a) d = absurd d
default_weaker _ _ (neg p a) d = absurd d
default_weaker _ _ (upper p a o c e x) d = absurd d

-- ---- the two orders of facts

pub said_itself : (facts : List Fact) (f : Fact) → IsIn f facts → Said facts f
said_itself facts f i = by_test (is_default f) (λ t. inl (is_a_default f t)) (λ t. inr (f, in_in_orders f f facts i (first_order f) t, covers_itself f))

-- what is weaker than what is said is said
pub said_weaker : (facts : List Fact) (g f : Fact) → Covers g f → Said facts g → Said facts f
said_weaker facts g f c said = ⊎_elim (λ d. inl (default_weaker g f c d)) (λ x. inr (x.0, x.1, covers_covers x.0 g f x.2 c)) said

-- what is said is said in each of its orders
turned_in : (f g y : Fact) → IsIn y (f ∷ g ∷ []) → IsIn y (g ∷ f ∷ [])
turned_in f g y i = ⊎_elim (λ e. inr (inl e)) (λ j. ⊎_elim (λ e. inl e) (λ z. absurd z) j) i

one_order : (f x y : Fact) → orders f ≡ f ∷ [] → IsIn x (orders f) → IsIn y (orders x) → IsIn y (orders f)
one_order f x y one i j = let e : x ≡ f = ⊎_elim (λ e. e) (λ z. absurd z) (subst (IsIn x) one i) in subst (λ z. IsIn y (orders z)) e j

two_orders : (f g x y : Fact) → orders f ≡ f ∷ g ∷ [] → orders g ≡ g ∷ f ∷ [] → IsIn x (orders f) → IsIn y (orders x) → IsIn y (orders f)
two_orders f g x y one other i j =
    ⊎_elim
    (λ e. subst (λ z. IsIn y (orders z)) e j)
    (λ k. ⊎_elim (λ e. subst (IsIn y) (sym one) (turned_in g f y (subst (IsIn y) other (subst (λ z. IsIn y (orders z)) e j)))) (λ z. absurd z) k)
    (subst (IsIn x) one i)

orders_orders : (f x y : Fact) → IsIn x (orders f) → IsIn y (orders x) → IsIn y (orders f)
orders_orders (Same a b) x y i j = two_orders (Same a b) (Same b a) x y refl refl i j
orders_orders (Sum t p q) x y i j = two_orders (Sum t p q) (Sum t q p) x y refl refl i j
orders_orders (Upper p a (Plus q) c) x y i j = two_orders (Upper p a (Plus q) c) (Upper q a (Plus p) c) x y refl refl i j
orders_orders (Upper p a Nothing c) x y i j = one_order (Upper p a Nothing c) x y refl i j
orders_orders (Upper p a (Minus q) c) x y i j = one_order (Upper p a (Minus q) c) x y refl i j
orders_orders (Rng p l h) x y i j = one_order (Rng p l h) x y refl i j
orders_orders (LenRng p l h) x y i j = one_order (LenRng p l h) x y refl i j
orders_orders (Low p c) x y i j = one_order (Low p c) x y refl i j
orders_orders (IsLen p a) x y i j = one_order (IsLen p a) x y refl i j
orders_orders (Less p q c) x y i j = one_order (Less p q c) x y refl i j
orders_orders (Search p a) x y i j = one_order (Search p a) x y refl i j
orders_orders (Neg p a) x y i j = one_order (Neg p a) x y refl i j

pub said_turned : (facts : List Fact) (f g : Fact) → IsIn g (orders f) → Said facts f → Said facts g
said_turned facts f g i said =
    ⊎_elim
    (λ d. inl (is_a_default g (order_default f g i ∙ default_is f d)))
    (λ x.
    let y = (orders_stronger x.0 f x.2).met g i in
    let h = from_in_orders x.0 facts x.1 in
    inr (y.0, in_in_orders y.0 h.0 facts h.1 (orders_orders h.0 x.0 y.0 h.2 y.1) h.3, y.2))
    said

pub says_stronger : (strong weak : List Fact) → SaysAll strong weak → Stronger (in_orders strong) (in_orders weak)
says_stronger strong weak s = record {
  met = λ x i.
      ⊎_elim
      (λ d. absurd (false≢true (sym (told_in_orders weak x i) ∙ default_is x d)))
      (λ y. y)
      (s x (inr (x, i, covers_itself x)));
}

pub stronger_says : (strong weak : List Fact) → Stronger (in_orders strong) (in_orders weak) → SaysAll strong weak
stronger_says strong weak s f said = ⊎_elim (λ d. inl d) (λ x. let y = s.met x.0 x.1 in inr (y.0, y.1, covers_covers y.0 x.0 f y.2 x.2)) said

pub listed_says : (strong weak : List Fact) → Stronger strong weak → SaysAll strong weak
listed_says strong weak s = stronger_says strong weak (in_orders_stronger strong weak s)

-- each fact of the second is said
pub each_said : (strong weak : List Fact) → ((f : Fact) → IsIn f (in_orders weak) → Said strong f) → SaysAll strong weak
each_said strong weak k = stronger_says strong weak (record {
  met = λ x i. ⊎_elim (λ d. absurd (false≢true (sym (told_in_orders weak x i) ∙ default_is x d))) (λ y. y) (k x i);
})

pub in_orders_left : (g : Fact) (a b : List Fact) → IsIn g (in_orders a) → IsIn g (in_orders (a ++ b))
in_orders_left g [] b i = absurd i
in_orders_left g (f ∷ a) b i =
    by_test (is_default f)
    (λ t. rw t (in_orders_left g a b (rw t at i)))
    (λ t. rw t (⊎_elim (λ j. in_left g (orders f) (in_orders (a ++ b)) j) (λ j. in_right g (orders f) (in_orders (a ++ b)) (in_orders_left g a b j)) (in_either g (orders f) (in_orders a) (rw t at i))))

pub in_orders_right : (g : Fact) (a b : List Fact) → IsIn g (in_orders b) → IsIn g (in_orders (a ++ b))
in_orders_right g [] b i = i
in_orders_right g (f ∷ a) b i =
    by_test (is_default f) (λ t. rw t (in_orders_right g a b i)) (λ t. rw t (in_right g (orders f) (in_orders (a ++ b)) (in_orders_right g a b i)))

pub in_orders_either : (g : Fact) (a b : List Fact) → IsIn g (in_orders (a ++ b)) → IsIn g (in_orders a) ⊎ IsIn g (in_orders b)
in_orders_either g [] b i = inr i
in_orders_either g (f ∷ a) b i =
    by_test (is_default f)
    (λ t. rw t (in_orders_either g a b (rw t at i)))
    (λ t. rw t (⊎_elim (λ j. inl (in_left g (orders f) (in_orders a) j)) (λ j. ⊎_elim (λ x. inl (in_right g (orders f) (in_orders a) x)) (λ y. inr y) (in_orders_either g a b j)) (in_either g (orders f) (in_orders (a ++ b)) (rw t at i))))

pub says_app : (a b c d : List Fact) → SaysAll a c → SaysAll b d → SaysAll (a ++ b) (c ++ d)
says_app a b c d s t = each_said (a ++ b) (c ++ d) (λ x i.
    ⊎_elim
    (λ j. ⊎_elim (λ e. inl e) (λ y. inr (y.0, in_orders_left y.0 a b y.1, y.2)) (s x (inr (x, j, covers_itself x))))
    (λ j. ⊎_elim (λ e. inl e) (λ y. inr (y.0, in_orders_right y.0 a b y.1, y.2)) (t x (inr (x, j, covers_itself x))))
    (in_orders_either x c d i))

-- more facts say more
pub says_more : (a b c : List Fact) → SaysAll a c → SaysAll (a ++ b) c
says_more a b c s f said = ⊎_elim (λ e. inl e) (λ y. inr (y.0, in_orders_left y.0 a b y.1, y.2)) (s f said)

-- ---- forgets

offset_or : (is : Path → Bool) (x y z : Bool) → (x || (y || z)) ≡ (z || (y || x))
offset_or is true true true = refl
offset_or is true true false = refl
offset_or is true false true = refl
offset_or is true false false = refl
offset_or is false true true = refl
offset_or is false true false = refl
offset_or is false false true = refl
offset_or is false false false = refl

or_turned : (x y : Bool) → (x || y) ≡ (y || x)
or_turned true true = refl
or_turned true false = refl
or_turned false true = refl
or_turned false false = refl

pub order_names : (is : Path → Bool) (f x : Fact) → IsIn x (orders f) → names is x ≡ names is f
order_names is (Same a b) x i = ⊎_elim (λ e. ap (names is) e) (λ j. ⊎_elim (λ e. ap (names is) e ∙ or_turned (is b) (is a)) (λ y. absurd y) j) i
order_names is (Sum t y z) x i = ⊎_elim (λ e. ap (names is) e) (λ j. ⊎_elim (λ e. ap (names is) e ∙ ap (λ n. is t || n) (or_turned (is z) (is y))) (λ u. absurd u) j) i
order_names is (Upper p a (Plus q) c) x i = ⊎_elim (λ e. ap (names is) e) (λ j. ⊎_elim (λ e. ap (names is) e ∙ offset_or is (is q) (is a) (is p)) (λ y. absurd y) j) i
order_names is (Upper p a Nothing c) x i = ⊎_elim (λ e. ap (names is) e) (λ y. absurd y) i
order_names is (Upper p a (Minus q) c) x i = ⊎_elim (λ e. ap (names is) e) (λ y. absurd y) i
order_names is (Rng p l h) x i = ⊎_elim (λ e. ap (names is) e) (λ y. absurd y) i
order_names is (LenRng p l h) x i = ⊎_elim (λ e. ap (names is) e) (λ y. absurd y) i
order_names is (Low p c) x i = ⊎_elim (λ e. ap (names is) e) (λ y. absurd y) i
order_names is (IsLen p a) x i = ⊎_elim (λ e. ap (names is) e) (λ y. absurd y) i
order_names is (Less p q c) x i = ⊎_elim (λ e. ap (names is) e) (λ y. absurd y) i
order_names is (Search p a) x i = ⊎_elim (λ e. ap (names is) e) (λ y. absurd y) i
order_names is (Neg p a) x i = ⊎_elim (λ e. ap (names is) e) (λ y. absurd y) i

pub without_says : (is : Path → Bool) (strong weak : List Fact) → SaysAll strong weak → SaysAll (without is strong) (without is weak)
without_says is strong weak s = stronger_says (without is strong) (without is weak) (record {
  met = λ x i.
      let f = from_in_orders x (without is weak) i in
      let g = in_without is f.0 weak f.1 in
      let y = (says_stronger strong weak s).met x (in_in_orders x f.0 weak g.0 f.2 f.3) in
      let h = from_in_orders y.0 strong y.1 in
      let n : names is h.0 ≡ false = sym (order_names is h.0 y.0 h.2) ∙ (covers_names is y.0 x y.2 ∙ (order_names is f.0 x f.2 ∙ g.1)) in
      (y.0, in_in_orders y.0 h.0 (without is strong) (without_in is h.0 strong h.1 n) h.2 h.3, y.2);
})

-- ---- a rule by facts, each of which gives the same in each of its orders

pub in_each : (rule : Fact → List Fact) (x f : Fact) (facts : List Fact) → IsIn f facts → IsIn x (rule f) → IsIn x (each rule facts)
in_each rule x f [] i j = absurd i
in_each rule x f (g ∷ facts) i j = ⊎_elim (λ e. in_left x (rule g) (each rule facts) (subst (λ y. IsIn x (rule y)) e j)) (λ k. in_right x (rule g) (each rule facts) (in_each rule x f facts k j)) i

pub from_each : (rule : Fact → List Fact) (x : Fact) (facts : List Fact) → IsIn x (each rule facts) → (f : Fact) × IsIn f facts × IsIn x (rule f)
from_each rule x [] i = absurd i
from_each rule x (g ∷ facts) i = ⊎_elim (λ j. (g, inl refl, j)) (λ j. let y = from_each rule x facts j in (y.0, inr y.1, y.2)) (in_either x (rule g) (each rule facts) i)

pub record ByFact (rule : Fact → List Fact) : Type 0 where
  pub from : (f g x : Fact) → IsIn g (rule f) → IsIn x (orders g) → (y : Fact) × IsIn y (orders f) × IsIn x (rule y)
  pub back : (f y x : Fact) → IsIn y (orders f) → IsIn x (rule y) → (g : Fact) × IsIn g (rule f) × IsIn x (orders g)
  pub default : (f x : Fact) → IsIn x (rule f) → is_default x ≡ false → is_default f ≡ false
  pub mono : (g f : Fact) → Covers g f → Stronger (rule g) (rule f)

pub each_says : (rule : Fact → List Fact) → ByFact rule → (strong weak : List Fact) → SaysAll strong weak → SaysAll (each rule strong) (each rule weak)
each_says rule by strong weak s = stronger_says (each rule strong) (each rule weak) (record {
  met = λ x i.
      let g = from_in_orders x (each rule weak) i in
      let f = from_each rule g.0 weak g.1 in
      let y = by.from f.0 g.0 x f.2 g.2 in
      let z = (says_stronger strong weak s).met y.0 (in_in_orders y.0 f.0 weak f.1 y.1 (by.default f.0 g.0 f.2 g.3)) in
      let u = (by.mono z.0 y.0 z.2).met x y.2 in
      let h = from_in_orders z.0 strong z.1 in
      let w = by.back h.0 z.0 u.0 h.2 u.1 in
      let told = covers_told u.0 x u.2 (told_in_orders (each rule weak) x i) in
      (u.0, in_in_orders u.0 w.0 (each rule strong) (in_each rule w.0 h.0 strong h.1 w.1) w.2 (sym (order_default w.0 u.0 w.2) ∙ told), u.2);
})
