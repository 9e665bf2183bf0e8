-- Numbers of near paths that are copied: those that stand ready, and those at the places of near paths.
use Rattle.std.specs.Prelude.{◌≡◌, ◌⊎◌, ◌<◌, ◌≤◌, ℕ, zero, suc, ◌+◌, ◌*◌, ℤ, true, nat_eq, nat_lt, get_or, length, take, replicate, List, [], ◌∷◌, ◌++◌, refl}
use Rattle.std.proofs.Common.{arith, inl, inr, ap, ap₂, sym, subst, ◌∙◌, ⊎_elim}
use Rattle.std.proofs.lemmas.Bool.{cases_lt, and_parts}
use Rattle.std.proofs.lemmas.Bool.Decides.{nat_tests}
use Rattle.std.proofs.lemmas.List.{get_or-take, get_or_past, length-take, take_all}
use Rattle.ix_num.specs.Ints.{least_int, greatest_int}
use Rattle.ix_core.specs.declared.fact.Path.{Path}
use Rattle.ix_core.specs.declared.fact.Path.TheVariants.{Slot, FieldOf}
use Rattle.ix_core.specs.declared.fact.Fact.{Fact}
use Rattle.ix_facts.specs.Bounds.{greatest, least, at_least, at_most, range_low, range_high, lower_by, lower_bound, limit_by, upper_limit}
use Rattle.ix_facts.specs.Small.{IsLimit}
use Rattle.ix_fact_paths.specs.ByPath.{is_near, near_place}
use Rattle.ix_fact_list.specs.NearNumbers.{number_at, AreNumbers, AreLimits}
use Rattle.ix_fact_list.proofs.NearRaised.{Rising, Falling}

-- ---- numbers that stand ready

pub ready_none : (n : ℕ) (d : ℤ) (at : ℕ) → get_or (replicate n d) at d ≡ d
ready_none zero d at = refl
ready_none (suc n) d zero = refl
ready_none (suc n) d (suc at) = ready_none n d at

pub front_none : (n : ℕ) (numbers : List ℤ) (d : ℤ) → ((at : ℕ) → get_or numbers at d ≡ d) → (at : ℕ) → get_or (take n numbers) at d ≡ d
front_none zero numbers d none at = refl
front_none (suc n) [] d none at = refl
front_none (suc n) (x ∷ numbers) d none zero = none 0
front_none (suc n) (x ∷ numbers) d none (suc at) = front_none n numbers d (λ k. none (suc k)) at

-- ---- numbers behind the others, each the one that stands for those that are missing

none_more : (numbers : List ℤ) (count : ℕ) (d : ℤ) (at : ℕ) → get_or (numbers ++ replicate count d) at d ≡ get_or numbers at d
none_more [] count d at = ready_none count d at
none_more (x ∷ numbers) count d zero = refl
none_more (x ∷ numbers) count d (suc at) = none_more numbers count d at

pub longer : (old new : List ℤ) (n count : ℕ) (given d : ℤ) → length old ≤ n → given ≡ d → new ≡ take n old ++ replicate count given → (at : ℕ) → get_or new at d ≡ get_or old at d
longer old new n count given d short is made at = ap (λ l. get_or l at d) (made ∙ ap₂ (λ l x. l ++ replicate count x) (take_all n old short) is) ∙ none_more old count d at

-- ---- each place is that of a near path

near_less : (p : Path) → is_near p ≡ true → near_place p < 2048
near_less (Slot s) near = let less : s < 1024 = grind (arith, nat_tests, near) in omega (arith, less)
near_less (FieldOf s f) near = let less : f < 1024 = grind (arith, nat_tests, (and_parts (nat_eq s 0) (nat_lt f 1024) near).1) in omega (arith, less)

halves : (n : ℕ) → (k : ℕ) × ((n ≡ 2 * k) ⊎ (n ≡ 2 * k + 1))
halves zero = (0, inl refl)
halves (suc n) = let h = halves n in ⊎_elim (λ e. (h.0, inr (omega (arith, e)))) (λ o. (suc h.0, inl (omega (arith, o)))) h.1

path_at : (at : ℕ) → at < 2048 → (p : Path) × (is_near p ≡ true) × (near_place p ≡ at)
path_at at less =
    let h = halves at in
    ⊎_elim
    (λ e. let near : h.0 < 1024 = omega (arith, e, less) in (Slot h.0, grind (arith, nat_tests, near), sym e))
    (λ o. let near : h.0 < 1024 = omega (arith, o, less) in (FieldOf 0 h.0, grind (arith, nat_tests, near), sym o))
    h.1

-- ---- the numbers at these places

kept : (numbers : List ℤ) (d : ℤ) (p : Path) → is_near p ≡ true → number_at (take 2048 numbers) d p ≡ number_at numbers d p
kept numbers d p near = get_or-take 2048 numbers (near_place p) d (near_less p near)

module _ (numbers : List ℤ) (d : ℤ) (of : Path → ℤ) (are : AreNumbers numbers d of) where
  near_is : (p : Path) → is_near p ≡ true → number_at (take 2048 numbers) d p ≡ of p
  near_is p near = kept numbers d p near ∙ are p near

  pub near_small : ((p : Path) → IsLimit (of p)) → IsLimit d → AreLimits (take 2048 numbers) d
  near_small small none at =
      ⊎_elim
      (λ less.
      let x = path_at at less in
      let is : get_or (take 2048 numbers) at d ≡ of x.0 = ap (λ k. get_or (take 2048 numbers) k d) (sym x.2) ∙ near_is x.0 x.1 in
      subst IsLimit (sym is) (small x.0))
      (λ past. subst IsLimit (sym (get_or_past (take 2048 numbers) at d (omega (arith, past, length-take 2048 numbers)))) none)
      (cases_lt at 2048)

module _ (facts : List Fact) (numbers : List ℤ) where
  pub rising_at_ends : AreNumbers numbers least_int (range_low facts) → Rising (lower_by facts) (lower_bound facts) (take 2048 numbers) least_int facts
  rising_at_ends are p near = ap (λ x. at_least x (greatest (lower_by facts p) facts)) (near_is numbers least_int (range_low facts) are p near)

  pub falling_at_ends : AreNumbers numbers greatest_int (range_high facts) → Falling (limit_by facts) (upper_limit facts) (take 2048 numbers) greatest_int facts
  falling_at_ends are p near = ap (λ x. at_most x (least (limit_by facts p) facts)) (near_is numbers greatest_int (range_high facts) are p near)
