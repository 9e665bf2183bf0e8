-- Facts that do not name what changes go on holding, and a forget keeps the order of strength.
use Rattle.std.specs.Prelude.{◌≡◌, Bool, false, ◌||◌, List, [], ◌∷◌, refl}
use Rattle.std.proofs.Common.{arith, sym, inl, inr, ap, ◌∙◌, ⊎_elim}
use Rattle.std.proofs.lemmas.Bool.{false≢true}
use Rattle.std.proofs.lemmas.Int.{ints}
use Rattle.ix_core.specs.declared.fact.Path.{Path}
use Rattle.ix_core.specs.declared.fact.PathOff.{PathOff}
use Rattle.ix_core.specs.declared.fact.PathOff.TheVariants.{Nothing, Plus, Minus}
use Rattle.ix_core.specs.declared.fact.Fact.{Fact}
use Rattle.ix_core.specs.declared.fact.Fact.TheVariants.{Rng, LenRng, Low, Same, IsLen, Less, Sum, Search, Neg, Upper}
use Rattle.ix_core.specs.Numbers.{Numbers}
use Rattle.ix_core.proofs.Cases.{by_test}
use Rattle.ix_facts.specs.Facts.{Holds, AllHold, IsIn, Covers, Stronger, offset_number, rng, len_rng, low, same, is_len, less, sum, search, neg, upper}
use Rattle.ix_facts.specs.Forget.{offset_names, names, without, SameBut}
use Rattle.ix_facts.proofs.Tests.{neither}

module _ (is : Path → Bool) (v w : Numbers) (s : SameBut is v w) where
  offset_same : (o : PathOff) → offset_names is o ≡ false → offset_number w o ≡ offset_number v o
  offset_same Nothing n = refl
  offset_same (Plus q) n = (s q n).0
  offset_same (Minus q) n = let e = (s q n).0 in omega (arith, ints)

  pub fact_stays : (f : Fact) → names is f ≡ false → Holds f v → Holds f w
  fact_stays (Rng p l h) n k = let e = (s p n).0 in (omega (arith, ints), omega (arith, ints))
  fact_stays (LenRng a l h) n k = let e = (s a n).1 in (omega (arith, ints), omega (arith, ints))
  fact_stays (Low p c) n k = let e = (s p n).0 in omega (arith, ints)
  fact_stays (Same a b) n k = let x = neither (is a) (is b) n in let e = (s a x.0).1 in let m = (s b x.1).1 in cc
  fact_stays (IsLen p a) n k = let x = neither (is p) (is a) n in let e = (s p x.0).0 in let m = (s a x.1).1 in cc
  fact_stays (Less p q c) n k = let x = neither (is p) (is q) n in let e = (s p x.0).0 in let m = (s q x.1).0 in omega (arith, ints)
  fact_stays (Sum t y z) n k = let x = neither (is t) (is y || is z) n in let u = neither (is y) (is z) x.1 in let e = (s t x.0).0 in let m = (s y u.0).0 in let o = (s z u.1).0 in omega (arith, ints)
  fact_stays (Search p a) n k = let x = neither (is p) (is a) n in let e = (s p x.0).0 in let m = (s a x.1).1 in (omega (arith, ints), omega (arith, ints))
  fact_stays (Neg p a) n k = let x = neither (is p) (is a) n in let e = (s p x.0).0 in let m = (s a x.1).1 in (omega (arith, ints), omega (arith, ints))
  fact_stays (Upper p a o c) n k = let x = neither (is p) (is a || offset_names is o) n in let u = neither (is a) (offset_names is o) x.1 in let e = (s p x.0).0 in let m = (s a u.0).1 in let j = offset_same o u.1 in omega (arith, ints)

  pub without_stays : (facts : List Fact) → AllHold (without is facts) v → AllHold (without is facts) w
  without_stays [] h = tt
  without_stays (f ∷ facts) h = by_test (names is f) (λ t. rw t (without_stays facts (rw t at h))) (λ t. let k = rw t at h in rw t (fact_stays f t k.0, without_stays facts k.1))

module _ (is : Path → Bool) where
  pub in_without : (f : Fact) (facts : List Fact) → IsIn f (without is facts) → IsIn f facts × (names is f ≡ false)
  in_without f [] i = absurd i
  in_without f (g ∷ facts) i =
      by_test (names is g)
      (λ t. let x = in_without f facts (rw t at i) in (inr x.0, x.1))
      (λ t. ⊎_elim (λ e. (inl e, ap (names is) e ∙ t)) (λ j. let x = in_without f facts j in (inr x.0, x.1)) (rw t at i))

  pub without_in : (f : Fact) (facts : List Fact) → IsIn f facts → names is f ≡ false → IsIn f (without is facts)
  without_in f [] i n = absurd i
  without_in f (g ∷ facts) i n =
      by_test (names is g)
      (λ t. ⊎_elim (λ e. absurd (false≢true (sym n ∙ ap (names is) e ∙ t))) (λ j. rw t (without_in f facts j n)) i)
      (λ t. rw t (⊎_elim (λ e. inl e) (λ j. inr (without_in f facts j n)) i))

  pub covers_names : (g f : Fact) → Covers g f → names is g ≡ names is f
  covers_names _ _ (rng p l h m k x y) = refl
  covers_names _ _ (len_rng p l h m k x y) = refl
  covers_names _ _ (low p k m x) = refl
  covers_names _ _ (same a b) = refl
  covers_names _ _ (is_len p a) = refl
  covers_names _ _ (less p q c d x) = refl
  covers_names _ _ (sum t y z) = refl
  covers_names _ _ (search p a) = refl
  covers_names _ _ (neg p a) = refl
  covers_names _ _ (upper p a o c d x) = refl

  pub without_holds : (v : Numbers) (facts : List Fact) → AllHold facts v → AllHold (without is facts) v
  without_holds v [] h = tt
  without_holds v (f ∷ facts) h = by_test (names is f) (λ t. rw t (without_holds v facts h.1)) (λ t. rw t (h.0, without_holds v facts h.1))

  pub without_stronger : (a b : List Fact) → Stronger a b → Stronger (without is a) (without is b)
  without_stronger a b s = record {
    met = λ f i.
        let x = in_without f b i in
        let y = s.met f x.0 in
        (y.0, without_in y.0 a y.1 (covers_names y.0 f y.2 ∙ x.1), y.2);
  }
