-- What follows from facts that are within is within, but for the ranges that are said of every path.
use Rattle.std.specs.Prelude.{◌⊎◌, List}
use Rattle.std.proofs.Common.{arith, inl, inr, ⊎_elim}
use Rattle.std.proofs.lemmas.Int.{ints, clamps}
use Rattle.ix_core.specs.declared.fact.Path.{Path}
use Rattle.ix_core.specs.declared.fact.PathOff.TheVariants.{Plus}
use Rattle.ix_core.specs.declared.fact.Fact.{Fact}
use Rattle.ix_core.specs.declared.fact.Fact.TheVariants.{Rng, LenRng, Same, IsLen, Sum, Search, Neg, Upper}
use Rattle.ix_facts.specs.Facts.{Covers, rng, len_rng, low, same, is_len, less, sum, search, neg, upper}
use Rattle.ix_facts.specs.Closure.{Follows, given, weaker, any_int, any_size, met, len_met, class, class_one, turned, joined, both_len, len_along, is_len_along, search_along, neg_along, neg_search, search_neg, sum_turned, upper_turned, Default}
use Rattle.ix_facts.proofs.SaidLaws.{default_weaker}
use Rattle.ix_certify.proofs.Paths.{Within, AreWithin}

module _ (In : Path → Type 0) where
  pub covered_within : (g f : Fact) → Covers g f → Within In g → Within In f
  covered_within _ _ (rng p l h m k x y) i = i
  covered_within _ _ (len_rng p l h m k x y) i = i
  covered_within _ _ (low p c d x) i = i
  covered_within _ _ (same a b) i = i
  covered_within _ _ (is_len p a) i = i
  covered_within _ _ (less p q c d x) i = i
  covered_within _ _ (sum t y z) i = i
  covered_within _ _ (search p a) i = i
  covered_within _ _ (neg p a) i = i
  covered_within _ _ (upper p a o c d x) i = i

  -- of a fact that isn't a range
  sure : (f : Fact) → (Default f → ⊥) → Default f ⊎ Within In f → Within In f
  sure f never w = ⊎_elim (λ d. absurd (never d)) (λ i. i) w

  module _ (facts : List Fact) (within : AreWithin In facts) where
    same_sides : (a b : Path) → Default (Same a b) ⊎ Within In (Same a b) → In a × In b
    same_sides a b w = sure (Same a b) (λ d. d) w

    pub follows_within : (f : Fact) → Follows facts f → Default f ⊎ Within In f
    follows_within _ (given f i) = within f i
    follows_within _ (weaker g f c r) = ⊎_elim (λ d. inl (default_weaker g f c d)) (λ i. inr (covered_within g f c i)) (follows_within g r)
    follows_within _ (any_int p) = inl (omega (arith, ints), omega (arith, ints))
    follows_within _ (any_size a) = inl (omega (arith, ints), omega (arith, ints))
    follows_within _ (met p l h m n r s) =
        ⊎_elim (λ d. ⊎_elim (λ e. let x = d.0 in let y = d.1 in let z = e.0 in let w = e.1 in inl (omega (arith, ints, clamps), omega (arith, ints, clamps))) (λ i. inr i) (follows_within (Rng p m n) s)) (λ i. inr i) (follows_within (Rng p l h) r)
    follows_within _ (len_met a l h m n r s) =
        ⊎_elim (λ d. ⊎_elim (λ e. let x = d.0 in let y = d.1 in let z = e.0 in let w = e.1 in inl (omega (arith, ints, clamps), omega (arith, ints, clamps))) (λ i. inr i) (follows_within (LenRng a m n) s)) (λ i. inr i) (follows_within (LenRng a l h) r)
    follows_within _ (class p l h r x y) = ⊎_elim (λ d. let z = d.0 in absurd (omega (arith, ints))) (λ i. inr i) (follows_within (Rng p l h) r)
    follows_within _ (class_one p l h r x) = ⊎_elim (λ d. let z = d.0 in absurd (omega (arith, ints))) (λ i. inr i) (follows_within (Rng p l h) r)
    follows_within _ (turned a b r) = let i = same_sides a b (follows_within (Same a b) r) in inr (i.1, i.0)
    follows_within _ (joined a b c r s) = let i = same_sides a b (follows_within (Same a b) r) in let j = same_sides b c (follows_within (Same b c) s) in inr (i.0, j.1)
    follows_within _ (both_len p a b r s) = let i = sure (IsLen p a) (λ d. d) (follows_within (IsLen p a) r) in let j = sure (IsLen p b) (λ d. d) (follows_within (IsLen p b) s) in inr (i.1, j.1)
    follows_within _ (len_along a b l h r s) = inr (same_sides a b (follows_within (Same a b) r)).1
    follows_within _ (is_len_along p a b r s) = let i = same_sides a b (follows_within (Same a b) r) in let j = sure (IsLen p a) (λ d. d) (follows_within (IsLen p a) s) in inr (j.0, i.1)
    follows_within _ (search_along p a b r s) = let i = same_sides a b (follows_within (Same a b) r) in let j = sure (Search p a) (λ d. d) (follows_within (Search p a) s) in inr (j.0, i.1)
    follows_within _ (neg_along p a b r s) = let i = same_sides a b (follows_within (Same a b) r) in let j = sure (Neg p a) (λ d. d) (follows_within (Neg p a) s) in inr (j.0, i.1)
    follows_within _ (neg_search p a r) = inr (sure (Neg p a) (λ d. d) (follows_within (Neg p a) r))
    follows_within _ (search_neg p a l h r s x) = inr (sure (Search p a) (λ d. d) (follows_within (Search p a) r))
    follows_within _ (sum_turned t y z r) = let i = sure (Sum t y z) (λ d. d) (follows_within (Sum t y z) r) in inr (i.0, i.2, i.1)
    follows_within _ (upper_turned p a q c r) = let i = sure (Upper p a (Plus q) c) (λ d. d) (follows_within (Upper p a (Plus q) c) r) in inr (i.2, i.1, i.0)
