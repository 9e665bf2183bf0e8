-- A store that is cut: where a rule gives of facts that are within such facts, it gives of the cut store the cut one.
use Rattle.std.specs.Prelude.{◌≡◌, ◌⊎◌, Bool, true, false, not, cond, ◌&&◌, ◌||◌, List, [], ◌∷◌, refl}
use Rattle.std.proofs.Common.{inl, inr, sym, subst, ◌∙◌, ⊎_elim}
use Rattle.std.proofs.lemmas.Bool.{and_parts, not-true, not_from_false, false≢true}
use Rattle.ix_core.specs.declared.fact.Path.{Path}
use Rattle.ix_core.specs.declared.fact.PathOff.{PathOff}
use Rattle.ix_core.specs.declared.fact.PathOff.TheVariants.{Nothing, Plus, Minus}
use Rattle.ix_core.specs.declared.fact.Fact.{Fact}
use Rattle.ix_core.specs.declared.fact.Fact.TheVariants.{Rng, LenRng, Low, Same, IsLen, Less, Sum, Search, Neg, Upper}
use Rattle.ix_core.proofs.Cases.{by_test}
use Rattle.ix_facts.specs.Bounds.{is_path}
use Rattle.ix_facts.specs.AfterTest.{Outcome}
use Rattle.ix_facts.specs.Facts.{is_default}
use Rattle.ix_facts.specs.Closure.{Default, Said}
use Rattle.ix_facts.specs.Forget.{names, offset_names}
use Rattle.ix_facts.specs.Stores.{Stored, Unreachable, Reached, IsBelow, IsAbove, Gives, Then, OutcomesGive, with_outcome}
use Rattle.ix_facts.proofs.SaidLaws.{default_is, is_a_default, said_itself}
use Rattle.ix_facts.proofs.Tests.{neither, or_first, or_second}
use Rattle.ix_fact_table.specs.Apart.{compares_two}
use Rattle.ix_certify.specs.Within.{is_out, is_within, are_within, StoreWithin}
use Rattle.ix_certify.proofs.Paths.{OffsetWithin, Within, AreWithin, OutcomeWithin}
use Rattle.ix_certify.proofs.Closing.{covered_within, follows_within}
use Rattle.ix_certify.proofs.ListsWithin.{each_in, kept_within}
use Rattle.ix_certify.proofs.Stored.{in_orders_within, app_within, each_are}
use Rattle.ix_certify.proofs.Tests.{outcome_within}

-- all of these say so
abbrev pub AllOutcomesWithin : (Path → Type 0) → List Outcome → Type 0
AllOutcomesWithin In [] = Unit {0}
AllOutcomesWithin In (outcome ∷ outcomes) = OutcomeWithin In outcome × AllOutcomesWithin In outcomes

-- the store where it is within, and else the one that says everything
abbrev pub cut : (Path → Bool) → Stored → Stored
cut is_in Unreachable = Unreachable
cut is_in (Reached facts) = cond (are_within is_in facts) (Reached facts) Unreachable

module _ (is_in : Path → Bool) where
  abbrev pub In : Path → Type 0
  In p = is_in p ≡ true

  inside : (p : Path) → is_out is_in p ≡ false → In p
  inside p n = by_test (is_in p) (λ t. t) (λ t. absurd (false≢true (sym n ∙ not_from_false (is_in p) t)))

  outside : (p : Path) → In p → is_out is_in p ≡ false
  outside p i = rw i refl

  inside_offset : (o : PathOff) → offset_names (is_out is_in) o ≡ false → OffsetWithin In o
  inside_offset Nothing n = tt
  inside_offset (Plus q) n = inside q n
  inside_offset (Minus q) n = inside q n

  inside_fact : (f : Fact) → names (is_out is_in) f ≡ false → compares_two f ≡ true → Within In f
  inside_fact (Rng p l h) n a = inside p n
  inside_fact (LenRng p l h) n a = inside p n
  inside_fact (Low p c) n a = inside p n
  inside_fact (Same p q) n a = let u = neither (is_out is_in p) (is_out is_in q) n in (inside p u.0, inside q u.1)
  inside_fact (IsLen p q) n a = let u = neither (is_out is_in p) (is_out is_in q) n in (inside p u.0, inside q u.1)
  inside_fact (Less p q c) n a = let u = neither (is_out is_in p) (is_out is_in q) n in (inside p u.0, inside q u.1, not-true (is_path p q) a)
  inside_fact (Sum t y z) n a =
      let u = neither (is_out is_in t) (is_out is_in y || is_out is_in z) n in let w = neither (is_out is_in y) (is_out is_in z) u.1 in (inside t u.0, inside y w.0, inside z w.1)
  inside_fact (Search p q) n a = let u = neither (is_out is_in p) (is_out is_in q) n in (inside p u.0, inside q u.1)
  inside_fact (Neg p q) n a = let u = neither (is_out is_in p) (is_out is_in q) n in (inside p u.0, inside q u.1)
  inside_fact (Upper p q o c) n a =
      let u = neither (is_out is_in p) (is_out is_in q || offset_names (is_out is_in) o) n in let w = neither (is_out is_in q) (offset_names (is_out is_in) o) u.1 in (inside p u.0, inside q w.0, inside_offset o w.1)

  no_offset : (o : PathOff) → OffsetWithin In o → offset_names (is_out is_in) o ≡ false
  no_offset Nothing i = refl
  no_offset (Plus q) i = outside q i
  no_offset (Minus q) i = outside q i

  names_none : (f : Fact) → Within In f → names (is_out is_in) f ≡ false
  names_none (Rng p l h) i = outside p i
  names_none (LenRng p l h) i = outside p i
  names_none (Low p c) i = outside p i
  names_none (Same p q) i = let x = outside p i.0 in let y = outside q i.1 in rw x (rw y refl)
  names_none (IsLen p q) i = let x = outside p i.0 in let y = outside q i.1 in rw x (rw y refl)
  names_none (Less p q c) i = let x = outside p i.0 in let y = outside q i.1 in rw x (rw y refl)
  names_none (Sum t y z) i = let a = outside t i.0 in let b = outside y i.1 in let c = outside z i.2 in rw a (rw b (rw c refl))
  names_none (Search p q) i = let x = outside p i.0 in let y = outside q i.1 in rw x (rw y refl)
  names_none (Neg p q) i = let x = outside p i.0 in let y = outside q i.1 in rw x (rw y refl)
  names_none (Upper p q o c) i = let x = outside p i.0 in let y = outside q i.1 in let z = no_offset o i.2 in rw x (rw y (rw z refl))

  apart_none : (f : Fact) → Within In f → compares_two f ≡ true
  apart_none (Less p q c) i = not_from_false (is_path p q) i.2
  apart_none (Rng p l h) i = refl
  apart_none (LenRng p l h) i = refl
  apart_none (Low p c) i = refl
  apart_none (Same p q) i = refl
  apart_none (IsLen p q) i = refl
  apart_none (Sum t y z) i = refl
  apart_none (Search p q) i = refl
  apart_none (Neg p q) i = refl
  apart_none (Upper p q o c) i = refl

  within_of : (f : Fact) → is_within is_in f ≡ true → Default f ⊎ Within In f
  within_of f t =
      by_test (is_default f) (λ d. inl (is_a_default f d))
      (λ n. let both = and_parts (not (names (is_out is_in) f)) (compares_two f) (Rattle.ix_facts.proofs.Tests.or_else (is_default f) (not (names (is_out is_in) f) && compares_two f) t n) in
      inr (inside_fact f (not-true (names (is_out is_in) f) both.0) both.1))

  of_within : (f : Fact) → Default f ⊎ Within In f → is_within is_in f ≡ true
  of_within f w =
      ⊎_elim
      (λ d. or_first (is_default f) (not (names (is_out is_in) f) && compares_two f) (default_is f d))
      (λ i. or_second (is_default f) (not (names (is_out is_in) f) && compares_two f) (let x = names_none f i in let y = apart_none f i in rw x (rw y refl)))
      w

  pub are_of : (facts : List Fact) → are_within is_in facts ≡ true → AreWithin In facts
  are_of [] t f i = absurd i
  are_of (g ∷ facts) t f i =
      let both = and_parts (is_within is_in g) (are_within is_in facts) t in
      ⊎_elim (λ e. subst (λ x. Default x ⊎ Within In x) (sym e) (within_of g both.0)) (λ j. are_of facts both.1 f j) i

  pub of_are : (facts : List Fact) → AreWithin In facts → are_within is_in facts ≡ true
  of_are [] all = refl
  of_are (g ∷ facts) all = let x = of_within g (all g (inl refl)) in let y = of_are facts (λ f i. all f (inr i)) in rw x (rw y refl)

  -- what is said by facts that are within is within
  said_within : (facts : List Fact) → AreWithin In facts → (f : Fact) → Said facts f → Default f ⊎ Within In f
  said_within facts within f said =
      ⊎_elim (λ d. inl d) (λ x. inr (covered_within In x.0 f x.2 (each_in In _ (in_orders_within In facts within) x.0 x.1))) said

  -- ---- stores that are cut

  -- a store that is within is what is left of it
  pub cut_within : (s : Stored) → StoreWithin is_in s → cut is_in s ≡ s
  cut_within Unreachable i = refl
  cut_within (Reached facts) i = rw i refl

  -- where a store says all that is left of it, it is within
  pub within_cut : (s : Stored) → IsBelow s (cut is_in s) → StoreWithin is_in s
  within_cut Unreachable below = tt
  within_cut (Reached facts) below = by_test (are_within is_in facts) (λ t. t) (λ t. absurd (rw t at below))

  -- what is below a store is below what is left of it, if it is within
  says_cut : (facts : List Fact) → are_within is_in facts ≡ true → (t : Stored) → IsBelow (Reached facts) t → cut is_in t ≡ t
  says_cut facts within Unreachable below = refl
  says_cut facts within (Reached others) below =
      cut_within (Reached others) (of_are others (λ f i. said_within facts (are_of facts within) f (below f (said_itself others f i))))

  pub cut_below : (s t : Stored) → IsBelow s t → IsBelow (cut is_in s) (cut is_in t)
  cut_below Unreachable t below = tt
  cut_below (Reached facts) t below =
      by_test (are_within is_in facts)
      (λ w. let e = says_cut facts w t below in rw w (rw e below))
      (λ w. rw w tt)

  pub above_cut : (facts : List Fact) → AreWithin In facts → (t : Stored) → IsAbove facts t → IsAbove facts (cut is_in t)
  above_cut facts within Unreachable above = above
  above_cut facts within (Reached others) above =
      ⊎_elim
      (λ c. by_test (are_within is_in others) (λ w. rw w (inl c)) (λ w. rw w c))
      (λ says. let w = of_are others (λ f i. follows_within In facts within f (says f (said_itself others f i))) in rw w (inr says))
      above

  pub cut_gives : (rule : List Fact → List Fact) → ((facts : List Fact) → AreWithin In facts → AreWithin In (rule facts)) → (s t : Stored) → Gives rule s t → Gives rule (cut is_in s) (cut is_in t)
  cut_gives rule keeps Unreachable t gives = tt
  cut_gives rule keeps (Reached facts) t gives =
      by_test (are_within is_in facts)
      (λ w. rw w (above_cut (rule facts) (keeps facts (are_of facts w)) t gives))
      (λ w. rw w tt)

  pub cut_then : (First Second : Stored → Stored → Type 0) → ((s t : Stored) → First s t → First (cut is_in s) (cut is_in t)) → ((s t : Stored) → Second s t → Second (cut is_in s) (cut is_in t))
      → (s t : Stored) → Then First Second s t → Then First Second (cut is_in s) (cut is_in t)
  cut_then First Second first second s t (between, one, two) = (cut is_in between, first s between one, second between t two)

  told_within : (outcome : Outcome) → OutcomeWithin In outcome → (facts : List Fact) → AreWithin In facts → AreWithin In (with_outcome outcome facts)
  told_within outcome i facts within =
      app_within In facts _ within (each_are In _ (kept_within In _ (outcome_within In _ (in_orders_within In facts within) outcome i)))

  pub cut_outcomes : (outcomes : List Outcome) → AllOutcomesWithin In outcomes → (s t : Stored) → OutcomesGive outcomes s t → OutcomesGive outcomes (cut is_in s) (cut is_in t)
  cut_outcomes [] i s t below = cut_below s t below
  cut_outcomes (outcome ∷ outcomes) i s t gives =
      cut_then (Gives (with_outcome outcome)) (OutcomesGive outcomes) (cut_gives (with_outcome outcome) (told_within outcome i.0)) (cut_outcomes outcomes i.1) s t gives
