-- Lists of facts: their members, what holds of all, and which lists are stronger.
use Rattle.std.specs.Prelude.{◌≡◌, false, List, [], ◌∷◌, ◌++◌, ◌⊎◌, refl}
use Rattle.std.proofs.Common.{arith, inl, inr, ap, sym, ◌∙◌, subst, ⊎_elim}
use Rattle.std.proofs.lemmas.Bool.{false≢true}
use Rattle.std.proofs.lemmas.Int.{ints}
use Rattle.ix_core.specs.declared.fact.PathOff.TheVariants.{Nothing, Plus, Minus}
use Rattle.ix_core.specs.declared.fact.Fact.{Fact}
use Rattle.ix_core.specs.declared.fact.Fact.TheVariants.{Rng, LenRng, Low, Same, IsLen, Less, Sum, Search, Neg, Upper}
use Rattle.ix_core.specs.Numbers.{Numbers}
use Rattle.ix_core.proofs.Cases.{by_test}
use Rattle.ix_facts.specs.Facts.{Holds, AllHold, IsIn, Covers, Stronger, orders, is_default, in_orders, rng, len_rng, low, same, is_len, less, sum, search, neg, upper}

-- ---- what covers

pub covers_itself : (f : Fact) → Covers f f
covers_itself (Rng p l h) = rng p l h l h (omega (arith, ints)) (omega (arith, ints))
covers_itself (LenRng p l h) = len_rng p l h l h (omega (arith, ints)) (omega (arith, ints))
covers_itself (Low p k) = low p k k (omega (arith, ints))
covers_itself (Same a b) = same a b
covers_itself (IsLen p a) = is_len p a
covers_itself (Less p q c) = less p q c c (omega (arith, ints))
covers_itself (Sum t y z) = sum t y z
covers_itself (Search p a) = search p a
covers_itself (Neg p a) = neg p a
covers_itself (Upper p a o c) = upper p a o c c (omega (arith, ints))

-- what covers a fact that holds
pub covers_holds : (v : Numbers) (g f : Fact) → Covers g f → Holds g v → Holds f v
covers_holds v _ _ (rng p l h m k x y) a = (omega (arith, ints), omega (arith, ints))
covers_holds v _ _ (len_rng p l h m k x y) a = (omega (arith, ints), omega (arith, ints))
covers_holds v _ _ (low p k m x) a = omega (arith, ints)
covers_holds v _ _ (less p q c d x) a = omega (arith, ints)
covers_holds v _ _ (upper p b o c d x) a = omega (arith, ints)
covers_holds v _ _ (same c b) a = a
covers_holds v _ _ (is_len c b) a = a
covers_holds v _ _ (sum t y z) a = a
covers_holds v _ _ (search c b) a = a
covers_holds v _ _ (neg c b) a = a

pub covers_covers : (f g h : Fact) → Covers f g → Covers g h → Covers f h
covers_covers _ _ _ (rng p l h m k x y) (rng _ _ _ n o z w) = rng p l h n o (omega (arith, ints)) (omega (arith, ints))
covers_covers _ _ _ (len_rng p l h m k x y) (len_rng _ _ _ n o z w) = len_rng p l h n o (omega (arith, ints)) (omega (arith, ints))
covers_covers _ _ _ (low p k m x) (low _ _ n y) = low p k n (omega (arith, ints))
covers_covers _ _ _ (less p q c d x) (less _ _ _ e y) = less p q c e (omega (arith, ints))
covers_covers _ _ _ (upper p a o c d x) (upper _ _ _ _ e y) = upper p a o c e (omega (arith, ints))
covers_covers _ _ _ (same a b) h = h
covers_covers _ _ _ (is_len p a) h = h
covers_covers _ _ _ (sum t y z) h = h
covers_covers _ _ _ (search p a) h = h
covers_covers _ _ _ (neg p a) h = h

-- ---- members

pub in_left : (f : Fact) (a b : List Fact) → IsIn f a → IsIn f (a ++ b)
in_left f [] b i = absurd i
in_left f (g ∷ a) b i = ⊎_elim (λ e. inl e) (λ j. inr (in_left f a b j)) i

pub in_right : (f : Fact) (a b : List Fact) → IsIn f b → IsIn f (a ++ b)
in_right f [] b i = i
in_right f (g ∷ a) b i = inr (in_right f a b i)

pub in_either : (f : Fact) (a b : List Fact) → IsIn f (a ++ b) → IsIn f a ⊎ IsIn f b
in_either f [] b i = inr i
in_either f (g ∷ a) b i = ⊎_elim (λ e. inl (inl e)) (λ j. ⊎_elim (λ x. inl (inr x)) (λ y. inr y) (in_either f a b j)) i

pub in_holds : (v : Numbers) (f : Fact) (facts : List Fact) → AllHold facts v → IsIn f facts → Holds f v
in_holds v f [] h i = absurd i
in_holds v f (g ∷ facts) h i = ⊎_elim (λ e. subst (λ x. Holds x v) (sym e) h.0) (λ j. in_holds v f facts h.1 j) i

pub all_hold_each : (v : Numbers) (facts : List Fact) → ((f : Fact) → IsIn f facts → Holds f v) → AllHold facts v
all_hold_each v [] h = tt
all_hold_each v (f ∷ facts) h = (h f (inl refl), all_hold_each v facts (λ g i. h g (inr i)))

pub all_hold_app : (v : Numbers) (a b : List Fact) → AllHold a v → AllHold b v → AllHold (a ++ b) v
all_hold_app v [] b h k = k
all_hold_app v (f ∷ a) b h k = (h.0, all_hold_app v a b h.1 k)

-- ---- stronger lists

pub stronger_itself : (a : List Fact) → Stronger a a
stronger_itself a = record { met = λ f i. (f, i, covers_itself f) }

pub stronger_stronger : (a b c : List Fact) → Stronger a b → Stronger b c → Stronger a c
stronger_stronger a b c s t = record { met = λ f i. let x = t.met f i in let y = s.met x.0 x.1 in (y.0, y.1, covers_covers y.0 x.0 f y.2 x.2) }

pub stronger_app : (a b c d : List Fact) → Stronger a c → Stronger b d → Stronger (a ++ b) (c ++ d)
stronger_app a b c d s t = record {
  met = λ f i.
      ⊎_elim
      (λ j. let x = s.met f j in (x.0, in_left x.0 a b x.1, x.2))
      (λ j. let x = t.met f j in (x.0, in_right x.0 a b x.1, x.2))
      (in_either f c d i);
}

pub stronger_cons : (g f : Fact) (a c : List Fact) → Covers g f → Stronger a c → Stronger (g ∷ a) (f ∷ c)
stronger_cons g f a c k s = record { met = λ x i. ⊎_elim (λ e. (g, inl refl, subst (Covers g) (sym e) k)) (λ j. let y = s.met x j in (y.0, inr y.1, y.2)) i }

pub stronger_none : (a : List Fact) → Stronger a []
stronger_none a = record { met = λ f i. absurd i }

pub stronger_one : (g f : Fact) → Covers g f → Stronger (g ∷ []) (f ∷ [])
stronger_one g f k = stronger_cons g f [] [] k (stronger_none [])

pub stronger_hold : (v : Numbers) (a b : List Fact) → Stronger a b → AllHold a v → AllHold b v
stronger_hold v a b s h = all_hold_each v b (λ f i. let x = s.met f i in covers_holds v x.0 f x.2 (in_holds v x.0 a h x.1))

-- stronger facts are stronger in all orders
pub orders_stronger : (g f : Fact) → Covers g f → Stronger (orders g) (orders f)
orders_stronger _ _ (rng p l h m k x y) = stronger_one _ _ (rng p l h m k x y)
orders_stronger _ _ (len_rng p l h m k x y) = stronger_one _ _ (len_rng p l h m k x y)
orders_stronger _ _ (low p k m x) = stronger_one _ _ (low p k m x)
orders_stronger _ _ (less p q c d x) = stronger_one _ _ (less p q c d x)
orders_stronger _ _ (same a b) = stronger_itself (orders (Same a b))
orders_stronger _ _ (is_len p a) = stronger_itself (orders (IsLen p a))
orders_stronger _ _ (sum t y z) = stronger_itself (orders (Sum t y z))
orders_stronger _ _ (search p a) = stronger_itself (orders (Search p a))
orders_stronger _ _ (neg p a) = stronger_itself (orders (Neg p a))
orders_stronger _ _ (upper p a Nothing c d x) = stronger_one _ _ (upper p a Nothing c d x)
orders_stronger _ _ (upper p a (Minus q) c d x) = stronger_one _ _ (upper p a (Minus q) c d x)
orders_stronger _ _ (upper p a (Plus q) c d x) = stronger_cons _ _ _ _ (upper p a (Plus q) c d x) (stronger_one _ _ (upper q a (Plus p) c d x))

-- ---- facts in all orders

pub told_either : (f : Fact) (facts : List Fact) (g : Fact) → IsIn g (in_orders (f ∷ facts)) → IsIn g (orders f) ⊎ IsIn g (in_orders facts)
told_either f facts g i = by_test (is_default f) (λ t. inr (rw t at i)) (λ t. in_either g (orders f) (in_orders facts) (rw t at i))

pub in_in_orders : (x f : Fact) (facts : List Fact) → IsIn f facts → IsIn x (orders f) → is_default f ≡ false → IsIn x (in_orders facts)
in_in_orders x f [] i j n = absurd i
in_in_orders x f (g ∷ facts) i j n =
    by_test (is_default g)
    (λ t. rw t (⊎_elim (λ e. absurd (false≢true (sym n ∙ (ap is_default e ∙ t)))) (λ k. in_in_orders x f facts k j n) i))
    (λ t. rw t (⊎_elim (λ e. in_left x (orders g) (in_orders facts) (subst (λ y. IsIn x (orders y)) e j)) (λ k. in_right x (orders g) (in_orders facts) (in_in_orders x f facts k j n)) i))

pub from_in_orders : (x : Fact) (facts : List Fact) → IsIn x (in_orders facts) → (f : Fact) × IsIn f facts × IsIn x (orders f) × (is_default f ≡ false)
from_in_orders x [] i = absurd i
from_in_orders x (g ∷ facts) i =
    by_test (is_default g)
    (λ t. let y = from_in_orders x facts (rw t at i) in (y.0, inr y.1, y.2, y.3))
    (λ t. ⊎_elim (λ j. (g, inl refl, j, t)) (λ j. let y = from_in_orders x facts j in (y.0, inr y.1, y.2, y.3)) (in_either x (orders g) (in_orders facts) (rw t at i)))

-- what covers a range that tells something tells something
pub covers_told : (g f : Fact) → Covers g f → is_default f ≡ false → is_default g ≡ false
covers_told _ _ (rng p l h m k x y) n = grind (arith, ints, n, x, y)
covers_told _ _ (len_rng p l h m k x y) n = grind (arith, ints, n, x, y)
covers_told _ _ (low p k m x) n = refl
covers_told _ _ (same a b) n = refl
covers_told _ _ (is_len p a) n = refl
covers_told _ _ (less p q c d x) n = refl
covers_told _ _ (sum t y z) n = refl
covers_told _ _ (search p a) n = refl
covers_told _ _ (neg p a) n = refl
covers_told _ _ (upper p a o c d x) n = refl

pub in_orders_stronger : (strong weak : List Fact) → Stronger strong weak → Stronger (in_orders strong) (in_orders weak)
in_orders_stronger strong weak s = record {
  met = λ x i.
      let f = from_in_orders x weak i in
      let g = s.met f.0 f.1 in
      let y = (orders_stronger g.0 f.0 g.2).met x f.2 in
      (y.0, in_in_orders y.0 g.0 strong g.1 y.1 (covers_told g.0 f.0 g.2 f.3), y.2);
}
