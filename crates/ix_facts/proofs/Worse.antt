-- Optional bounds of which the second says at least as much as the first.
use Rattle.std.specs.Prelude.{◌≡◌, Bool, true, false, ℤ, ◌≤ℤ◌, List, [], ◌∷◌, Option, Some, None, refl}
use Rattle.std.specs.Option.{option_map}
use Rattle.std.specs.Int.{int_min, int_max}
use Rattle.std.proofs.Common.{arith, inl, inr, subst, ⊎_elim}
use Rattle.std.proofs.lemmas.Bool.{false≢true}
use Rattle.std.proofs.lemmas.Int.{ints, clamps}
use Rattle.ix_core.specs.declared.fact.Fact.{Fact}
use Rattle.ix_facts.specs.Facts.{IsIn, Covers, Stronger}
use Rattle.ix_facts.specs.Bounds.{when, best, best_of, at_least, at_most}

-- `R x y`: y says at least as much as x; the better of two is their least upper bound for R
pub record BestLaws (R : ℤ → ℤ → Type 0) (better : ℤ → ℤ → ℤ) : Type 0 where
  pub left : (x y z : ℤ) → R z x → R z (better x y)
  pub right : (x y z : ℤ) → R z y → R z (better x y)
  pub both : (x y z : ℤ) → R x z → R y z → R (better x y) z

abbrev pub Up : ℤ → ℤ → Type 0
Up x y = x ≤ℤ y

abbrev pub Down : ℤ → ℤ → Type 0
Down x y = y ≤ℤ x

pub up_laws : BestLaws Up int_max
up_laws = record { left = λ x y z h. omega (arith, ints, clamps); right = λ x y z h. omega (arith, ints, clamps); both = λ x y z h k. omega (arith, ints, clamps) }

pub down_laws : BestLaws Down int_min
down_laws = record { left = λ x y z h. omega (arith, ints, clamps); right = λ x y z h. omega (arith, ints, clamps); both = λ x y z h k. omega (arith, ints, clamps) }

abbrev pub Worse : (ℤ → ℤ → Type 0) → Option ℤ → Option ℤ → Type 0
Worse R None b = Unit {0}
Worse R (Some x) None = ⊥
Worse R (Some x) (Some y) = R x y

pub worse_when : (R : ℤ → ℤ → Type 0) (a b : Option ℤ) (t u : Bool) → (t ≡ true → u ≡ true) → (t ≡ true → Worse R a b) → Worse R (when t a) (when u b)
worse_when R a b false u k h = tt
worse_when R a b true true k h = h refl
worse_when R a b true false k h = absurd (false≢true (k refl))

pub worse_map : (R S : ℤ → ℤ → Type 0) (f g : ℤ → ℤ) (a b : Option ℤ) → ((x y : ℤ) → R x y → S (f x) (g y)) → Worse R a b → Worse S (option_map f a) (option_map g b)
worse_map R S f g None b k h = tt
worse_map R S f g (Some x) None k h = absurd h
worse_map R S f g (Some x) (Some y) k h = k x y h

module _ (R : ℤ → ℤ → Type 0) (better : ℤ → ℤ → ℤ) (l : BestLaws R better) where
  pub worse_left : (a b c : Option ℤ) → Worse R a b → Worse R a (best better b c)
  worse_left None b c h = tt
  worse_left (Some x) None c h = absurd h
  worse_left (Some x) (Some y) None h = h
  worse_left (Some x) (Some y) (Some z) h = l.left y z x h

  pub worse_right : (a b c : Option ℤ) → Worse R a c → Worse R a (best better b c)
  worse_right None b c h = tt
  worse_right (Some x) None c h = h
  worse_right (Some x) (Some y) None h = absurd h
  worse_right (Some x) (Some y) (Some z) h = l.right y z x h

  pub worse_both : (a b c : Option ℤ) → Worse R a c → Worse R b c → Worse R (best better a b) c
  worse_both None b c h k = k
  worse_both (Some x) None c h k = h
  worse_both (Some x) (Some y) None h k = absurd h
  worse_both (Some x) (Some y) (Some z) h k = l.both x y z h k

  pub worse_best : (a b c d : Option ℤ) → Worse R a c → Worse R b d → Worse R (best better a b) (best better c d)
  worse_best a b c d h k = worse_both a b (best better c d) (worse_left a c d h) (worse_right b c d k)

  pub worse_in : (by : Fact → Option ℤ) (a : Option ℤ) (g : Fact) (gs : List Fact) → IsIn g gs → Worse R a (by g) → Worse R a (best_of better by gs)
  worse_in by a g [] i h = absurd i
  worse_in by a g (k ∷ gs) i h =
      ⊎_elim
      (λ e. worse_left a (by k) (best_of better by gs) (subst (λ x. Worse R a (by x)) e h))
      (λ j. worse_right a (by k) (best_of better by gs) (worse_in by a g gs j h))
      i

  -- what no fact gives better than the one that covers it, the list does not give better than the stronger list
  pub worse_best_of : (by weak_by : Fact → Option ℤ) → ((g f : Fact) → Covers g f → Worse R (weak_by f) (by g)) → (strong weak : List Fact) → Stronger strong weak → Worse R (best_of better weak_by weak) (best_of better by strong)
  worse_best_of by weak_by each strong [] s = tt
  worse_best_of by weak_by each strong (f ∷ weak) s =
      let here = s.met f (inl refl) in
      worse_both (weak_by f) (best_of better weak_by weak) (best_of better by strong)
      (worse_in by (weak_by f) here.0 strong here.1 (each here.0 f here.2))
      (worse_best_of by weak_by each strong weak (record { met = λ x i. s.met x (inr i) }))

pub at_least_up : (c d : ℤ) (a b : Option ℤ) → c ≤ℤ d → Worse Up a b → at_least c a ≤ℤ at_least d b
at_least_up c d None None h k = h
at_least_up c d None (Some y) h k = omega (arith, ints, clamps)
at_least_up c d (Some x) None h k = absurd k
at_least_up c d (Some x) (Some y) h k = omega (arith, ints, clamps)

pub at_most_down : (c d : ℤ) (a b : Option ℤ) → d ≤ℤ c → Worse Down a b → at_most d b ≤ℤ at_most c a
at_most_down c d None None h k = h
at_most_down c d None (Some y) h k = omega (arith, ints, clamps)
at_most_down c d (Some x) None h k = absurd k
at_most_down c d (Some x) (Some y) h k = omega (arith, ints, clamps)
