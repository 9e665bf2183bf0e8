-- What follows from facts holds where they do; the closed list of facts is the greatest; joins of closed lists are closed.
use Rattle.std.specs.Prelude.{◌≡◌, false, pos, int_lt, List, [], ◌∷◌, refl}
use Rattle.std.specs.Int.{int_min, int_max}
use Rattle.std.proofs.Common.{arith, inl, inr, sym, ◌∙◌, subst, ⊎_elim}
use Rattle.std.proofs.lemmas.Int.{ints, clamps}
use Rattle.ix_num.specs.Ints.{least_int, greatest_int}
use Rattle.ix_core.specs.declared.fact.PathOff.TheVariants.{Nothing, Plus, Minus}
use Rattle.ix_core.specs.declared.fact.Fact.{Fact}
use Rattle.ix_core.specs.declared.fact.Fact.TheVariants.{Rng, LenRng, Low, Same, IsLen, Less, Sum, Search, Neg, Upper}
use Rattle.ix_core.specs.Numbers.{Numbers}
use Rattle.ix_core.proofs.Cases.{by_test}
use Rattle.ix_facts.specs.Facts.{Holds, AllHold, IsIn, Covers, Stronger, orders, in_orders, rng, len_rng, low, same, is_len, less, sum, search, neg, upper}
use Rattle.ix_facts.specs.Closure.{Follows, given, weaker, any_int, any_size, met, len_met, class, class_one, turned, joined, both_len, len_along, is_len_along, search_along, neg_along, neg_search, search_neg, sum_turned, upper_turned, Default, Said, Closed, Contradicts, IsClosedOf, IsCommon, kept_fact, kept}
use Rattle.ix_facts.proofs.FactLists.{covers_holds, in_holds, in_either, in_left, in_right, told_either, all_hold_app, stronger_one, stronger_none, stronger_itself}

module _ (facts : List Fact) (v : Numbers) (k : AllHold facts v) where
  pub follows_hold : (f : Fact) → Follows facts f → Holds f v
  follows_hold _ (given f i) = in_holds v f facts k i
  follows_hold _ (weaker g f c r) = covers_holds v g f c (follows_hold g r)
  follows_hold _ (any_int p) = (v.int_from p, v.int_to p)
  follows_hold _ (any_size a) = (v.size_from a, v.size_to a)
  follows_hold _ (met p l h m n r s) = let x = follows_hold (Rng p l h) r in let y = follows_hold (Rng p m n) s in (omega (arith, ints, clamps), omega (arith, ints, clamps))
  follows_hold _ (len_met a l h m n r s) = let x = follows_hold (LenRng a l h) r in let y = follows_hold (LenRng a m n) s in (omega (arith, ints, clamps), omega (arith, ints, clamps))
  follows_hold _ (class p l h r x y) = (follows_hold (Rng p l h) r).0
  follows_hold _ (class_one p l h r x) = let y = follows_hold (Rng p l h) r in omega (arith, ints)
  follows_hold _ (turned a b r) = sym (follows_hold (Same a b) r)
  follows_hold _ (joined a b c r s) = follows_hold (Same a b) r ∙ follows_hold (Same b c) s
  follows_hold _ (both_len p a b r s) = sym (follows_hold (IsLen p a) r) ∙ follows_hold (IsLen p b) s
  follows_hold _ (len_along a b l h r s) = let e = follows_hold (Same a b) r in let x = follows_hold (LenRng a l h) s in (omega (arith, ints), omega (arith, ints))
  follows_hold _ (is_len_along p a b r s) = follows_hold (IsLen p a) s ∙ follows_hold (Same a b) r
  follows_hold _ (search_along p a b r s) = let e = follows_hold (Same a b) r in let x = follows_hold (Search p a) s in (omega (arith, ints), omega (arith, ints))
  follows_hold _ (neg_along p a b r s) = let e = follows_hold (Same a b) r in let x = follows_hold (Neg p a) s in (omega (arith, ints), omega (arith, ints))
  follows_hold _ (neg_search p a r) = let x = follows_hold (Neg p a) r in let l = v.size_from a in (omega (arith, ints), omega (arith, ints))
  follows_hold _ (search_neg p a l h r s x) = let y = follows_hold (Search p a) r in let z = follows_hold (Rng p l h) s in (omega (arith, ints), omega (arith, ints))
  follows_hold _ (sum_turned t y z r) = let e = follows_hold (Sum t y z) r in omega (arith, ints)
  follows_hold _ (upper_turned p a q c r) = let e = follows_hold (Upper p a (Plus q) c) r in omega (arith, ints)

-- what follows from facts that all follow from others follows from these
module _ (facts others : List Fact) (k : (f : Fact) → IsIn f others → Follows facts f) where
  pub follows_from : (f : Fact) → Follows others f → Follows facts f
  follows_from _ (given f i) = k f i
  follows_from _ (weaker g f c r) = weaker g f c (follows_from g r)
  follows_from _ (any_int p) = any_int p
  follows_from _ (any_size a) = any_size a
  follows_from _ (met p l h m n r s) = met p l h m n (follows_from (Rng p l h) r) (follows_from (Rng p m n) s)
  follows_from _ (len_met a l h m n r s) = len_met a l h m n (follows_from (LenRng a l h) r) (follows_from (LenRng a m n) s)
  follows_from _ (class p l h r x y) = class p l h (follows_from (Rng p l h) r) x y
  follows_from _ (class_one p l h r x) = class_one p l h (follows_from (Rng p l h) r) x
  follows_from _ (turned a b r) = turned a b (follows_from (Same a b) r)
  follows_from _ (joined a b c r s) = joined a b c (follows_from (Same a b) r) (follows_from (Same b c) s)
  follows_from _ (both_len p a b r s) = both_len p a b (follows_from (IsLen p a) r) (follows_from (IsLen p b) s)
  follows_from _ (len_along a b l h r s) = len_along a b l h (follows_from (Same a b) r) (follows_from (LenRng a l h) s)
  follows_from _ (is_len_along p a b r s) = is_len_along p a b (follows_from (Same a b) r) (follows_from (IsLen p a) s)
  follows_from _ (search_along p a b r s) = search_along p a b (follows_from (Same a b) r) (follows_from (Search p a) s)
  follows_from _ (neg_along p a b r s) = neg_along p a b (follows_from (Same a b) r) (follows_from (Neg p a) s)
  follows_from _ (neg_search p a r) = neg_search p a (follows_from (Neg p a) r)
  follows_from _ (search_neg p a l h r s x) = search_neg p a l h (follows_from (Search p a) r) (follows_from (Rng p l h) s) x
  follows_from _ (sum_turned t y z r) = sum_turned t y z (follows_from (Sum t y z) r)
  follows_from _ (upper_turned p a q c r) = upper_turned p a q c (follows_from (Upper p a (Plus q) c) r)

default_follows : (facts : List Fact) (f : Fact) → Default f → Follows facts f
default_follows facts (Rng p l h) d = weaker (Rng p least_int greatest_int) (Rng p l h) (rng p least_int greatest_int l h d.0 d.1) (any_int p)
default_follows facts (LenRng a l h) d = weaker (LenRng a (pos 0) greatest_int) (LenRng a l h) (len_rng a (pos 0) greatest_int l h d.0 d.1) (any_size a)
default_follows facts (Low _ _) d = absurd d
default_follows facts (Same _ _) d = absurd d
default_follows facts (IsLen _ _) d = absurd d
default_follows facts (Less _ _ _) d = absurd d
default_follows facts (Sum _ _ _) d = absurd d
default_follows facts (Search _ _) d = absurd d
default_follows facts (Neg _ _) d = absurd d
default_follows facts (Upper _ _ _ _) d = absurd d

-- a fact follows from itself in each of its orders
order_follows : (facts : List Fact) (f g : Fact) → Follows facts f → IsIn g (orders f) → Follows facts g
order_follows facts (Same a b) g r i = ⊎_elim (λ e. subst (Follows facts) (sym e) r) (λ j. ⊎_elim (λ e. subst (Follows facts) (sym e) (turned a b r)) (λ x. absurd x) j) i
order_follows facts (Sum t y z) g r i = ⊎_elim (λ e. subst (Follows facts) (sym e) r) (λ j. ⊎_elim (λ e. subst (Follows facts) (sym e) (sum_turned t y z r)) (λ x. absurd x) j) i
order_follows facts (Upper p a (Plus q) c) g r i = ⊎_elim (λ e. subst (Follows facts) (sym e) r) (λ j. ⊎_elim (λ e. subst (Follows facts) (sym e) (upper_turned p a q c r)) (λ x. absurd x) j) i
order_follows facts (Upper p a Nothing c) g r i = ⊎_elim (λ e. subst (Follows facts) (sym e) r) (λ x. absurd x) i
order_follows facts (Upper p a (Minus q) c) g r i = ⊎_elim (λ e. subst (Follows facts) (sym e) r) (λ x. absurd x) i
order_follows facts (Rng p l h) g r i = ⊎_elim (λ e. subst (Follows facts) (sym e) r) (λ x. absurd x) i
order_follows facts (LenRng p l h) g r i = ⊎_elim (λ e. subst (Follows facts) (sym e) r) (λ x. absurd x) i
order_follows facts (Low p c) g r i = ⊎_elim (λ e. subst (Follows facts) (sym e) r) (λ x. absurd x) i
order_follows facts (IsLen p a) g r i = ⊎_elim (λ e. subst (Follows facts) (sym e) r) (λ x. absurd x) i
order_follows facts (Less p q c) g r i = ⊎_elim (λ e. subst (Follows facts) (sym e) r) (λ x. absurd x) i
order_follows facts (Search p a) g r i = ⊎_elim (λ e. subst (Follows facts) (sym e) r) (λ x. absurd x) i
order_follows facts (Neg p a) g r i = ⊎_elim (λ e. subst (Follows facts) (sym e) r) (λ x. absurd x) i

in_orders_follows : (facts rest : List Fact) → ((f : Fact) → IsIn f rest → Follows facts f) → (g : Fact) → IsIn g (in_orders rest) → Follows facts g
in_orders_follows facts [] k g i = absurd i
in_orders_follows facts (f ∷ rest) k g i =
    let x = told_either f rest g i in
    ⊎_elim (λ j. order_follows facts f g (k f (inl refl)) j) (λ j. in_orders_follows facts rest (λ h m. k h (inr m)) g j) x

pub said_follows : (facts : List Fact) (f : Fact) → Said facts f → Follows facts f
said_follows facts f s = ⊎_elim (λ d. default_follows facts f d) (λ x. weaker x.0 f x.2 (in_orders_follows facts facts (λ g i. given g i) x.0 x.1)) s

pub is_closed : (facts closed : List Fact) → IsClosedOf facts closed → Closed closed
is_closed facts closed c f k = c.says f (follows_from facts closed c.only f k)

-- the closed list holds where the facts do
pub closed_holds : (facts closed : List Fact) (v : Numbers) → IsClosedOf facts closed → AllHold facts v → (f : Fact) → IsIn f closed → Holds f v
closed_holds facts closed v c h f i = follows_hold facts v h f (c.only f i)

-- the closed list is above each closed one that says the facts
pub greatest_closed : (facts closed other : List Fact) → IsClosedOf facts closed → Closed other → ((f : Fact) → IsIn f facts → Said other f) → (f : Fact) → Said closed f → Said other f
greatest_closed facts closed other c k h f s = k f (follows_from other closed (λ g i. follows_from other facts (λ x j. said_follows other x (h x j)) g (c.only g i)) f (said_follows closed f s))

-- the common part of two closed lists is closed
pub common_closed : (first second common : List Fact) → Closed first → Closed second → IsCommon first second common → Closed common
common_closed first second common x y c f k =
    c.both f (x f (follows_from first common (λ g i. said_follows first g (c.left g i)) f k)) (y f (follows_from second common (λ g i. said_follows second g (c.right g i)) f k))

-- facts that hold do not contradict each other
pub hold_apart : (facts : List Fact) (v : Numbers) → AllHold facts v → ¬ Contradicts facts
hold_apart facts v h c =
    ⊎_elim
    (λ r. let x = follows_hold facts v h (Rng c.0 c.1 c.2) r in let l = c.4 in omega (arith, ints))
    (λ r. let x = follows_hold facts v h (LenRng c.0 c.1 c.2) r in let l = c.4 in omega (arith, ints))
    c.3

-- ---- constants that are kept

kept_fact_holds : (w : Numbers) (f : Fact) → Holds f w → AllHold (kept_fact f) w
kept_fact_holds w (Less p q c) h = let x = w.int_from p in let y = w.int_to p in let z = w.int_from q in let u = w.int_to q in by_test (int_lt greatest_int c) (λ t. rw t tt) (λ t. rw t (omega (arith, ints, clamps), tt))
kept_fact_holds w (Upper p a o c) h = by_test (int_lt c least_int) (λ t. rw t tt) (λ t. rw t (omega (arith, ints, clamps), tt))
kept_fact_holds w (Rng p l u) h = (h, tt)
kept_fact_holds w (LenRng p l u) h = (h, tt)
kept_fact_holds w (Low p c) h = (h, tt)
kept_fact_holds w (Same a b) h = (h, tt)
kept_fact_holds w (IsLen p a) h = (h, tt)
kept_fact_holds w (Sum t y z) h = (h, tt)
kept_fact_holds w (Search p a) h = (h, tt)
kept_fact_holds w (Neg p a) h = (h, tt)

pub kept_hold : (w : Numbers) (facts : List Fact) → AllHold facts w → AllHold (kept facts) w
kept_hold w [] h = tt
kept_hold w (f ∷ facts) h = all_hold_app w (kept_fact f) (kept facts) (kept_fact_holds w f h.0) (kept_hold w facts h.1)

pub kept_fact_stronger : (g f : Fact) → Covers g f → Stronger (kept_fact g) (kept_fact f)
kept_fact_stronger _ _ (less p q c d x) =
    by_test (int_lt greatest_int d)
    (λ t. rw t (stronger_none (kept_fact (Less p q c))))
    (λ t.
    let low : false ≡ int_lt greatest_int c = omega (arith, ints) in
    rw (t, sym low) (stronger_one (Less p q (int_max c least_int)) (Less p q (int_max d least_int)) (less p q (int_max c least_int) (int_max d least_int) (omega (arith, ints, clamps)))))
kept_fact_stronger _ _ (upper p a o c d x) =
    by_test (int_lt d least_int)
    (λ t. rw t (stronger_none (kept_fact (Upper p a o c))))
    (λ t.
    let high : false ≡ int_lt c least_int = omega (arith, ints) in
    rw (t, sym high) (stronger_one (Upper p a o (int_min c greatest_int)) (Upper p a o (int_min d greatest_int)) (upper p a o (int_min c greatest_int) (int_min d greatest_int) (omega (arith, ints, clamps)))))
kept_fact_stronger _ _ (rng p l h m k x y) = stronger_one _ _ (rng p l h m k x y)
kept_fact_stronger _ _ (len_rng p l h m k x y) = stronger_one _ _ (len_rng p l h m k x y)
kept_fact_stronger _ _ (low p k m x) = stronger_one _ _ (low p k m x)
kept_fact_stronger _ _ (same a b) = stronger_itself (Same a b ∷ [])
kept_fact_stronger _ _ (is_len p a) = stronger_itself (IsLen p a ∷ [])
kept_fact_stronger _ _ (sum t y z) = stronger_itself (Sum t y z ∷ [])
kept_fact_stronger _ _ (search p a) = stronger_itself (Search p a ∷ [])
kept_fact_stronger _ _ (neg p a) = stronger_itself (Neg p a ∷ [])

pub in_kept : (x g : Fact) (facts : List Fact) → IsIn g facts → IsIn x (kept_fact g) → IsIn x (kept facts)
in_kept x g [] i j = absurd i
in_kept x g (f ∷ facts) i j =
    ⊎_elim (λ e. in_left x (kept_fact f) (kept facts) (subst (λ y. IsIn x (kept_fact y)) e j)) (λ k. in_right x (kept_fact f) (kept facts) (in_kept x g facts k j)) i

pub from_kept : (x : Fact) (facts : List Fact) → IsIn x (kept facts) → (f : Fact) × IsIn f facts × IsIn x (kept_fact f)
from_kept x [] i = absurd i
from_kept x (f ∷ facts) i = ⊎_elim (λ j. (f, inl refl, j)) (λ j. let y = from_kept x facts j in (y.0, inr y.1, y.2)) (in_either x (kept_fact f) (kept facts) i)

pub kept_stronger : (strong weak : List Fact) → Stronger strong weak → Stronger (kept strong) (kept weak)
kept_stronger strong weak s = record {
  met = λ x i.
      let f = from_kept x weak i in
      let g = s.met f.0 f.1 in
      let y = (kept_fact_stronger g.0 f.0 g.2).met x f.2 in
      (y.0, in_kept y.0 g.0 strong g.1 y.1, y.2);
}
