-- The ways from a class up: those of an ancestor are those of the class, where its way ends.
use Rattle.std.specs.Prelude.{◌≡◌, ℕ, zero, suc, ◌==◌, true, List, [], ◌∷◌, ◌++◌, flat_map, Option, None, Some, refl}
use Rattle.std.proofs.Common.{sym, subst, ◌∙◌, inl, inr, ⊎_elim}
use Rattle.std.specs.Prelude.{◌⊎◌}
use Rattle.std.proofs.lemmas.Bool.{false≢true}
use Rattle.ix_core.specs.declared.program.Program.{Program}
use Rattle.ix_core.specs.Formed.{ends_within}
use Rattle.ix_core.specs.Tables.{class_at, way_up, is_among}
use Rattle.ix_core.proofs.Cases.{by_test, equal}

-- ---- numbers of a list

pub first_among : (first number : ℕ) (rest : List ℕ) → (first == number) ≡ true → is_among (first ∷ rest) number ≡ true
first_among first number rest e = rw e refl

pub rest_among : (first number : ℕ) (rest : List ℕ) → is_among rest number ≡ true → is_among (first ∷ rest) number ≡ true
rest_among first number rest e = by_test (first == number) (λ t. rw t refl) (λ t. rw (t, e) refl)

pub among_parts : (first number : ℕ) (rest : List ℕ) → is_among (first ∷ rest) number ≡ true → ((first == number) ≡ true) ⊎ (is_among rest number ≡ true)
among_parts first number rest e = by_test (first == number) (λ t. inl t) (λ t. inr (let f : is_among (first ∷ rest) number ≡ is_among rest number = rw t refl in sym f ∙ e))

-- ---- ways

module _ (program : Program) where
  abbrev parent_of : ℕ → Option ℕ
  parent_of class = (class_at program class).parent

  none_up : (most : ℕ) (number : ℕ) {A : Type 0} → is_among (way_up parent_of most None) number ≡ true → A
  none_up zero number e = absurd (false≢true e)
  none_up (suc most) number e = absurd (false≢true e)

  -- a way that ends has all of its classes among its first
  pub enough : (most many : ℕ) (from : Option ℕ) (class : ℕ) → ends_within program most from ≡ true → is_among (way_up parent_of many from) class ≡ true → is_among (way_up parent_of most from) class ≡ true
  enough most many None class ends e = none_up many class e
  enough zero many (Some first) class ends e = absurd (false≢true ends)
  enough (suc most) zero (Some first) class ends e = absurd (false≢true e)
  enough (suc most) (suc many) (Some first) class ends e =
      ⊎_elim
      (λ here. first_among first class (way_up parent_of most (parent_of first)) here)
      (λ above. rest_among first class (way_up parent_of most (parent_of first)) (enough most many (parent_of first) class ends above))
      (among_parts first class (way_up parent_of many (parent_of first)) e)

  -- what is above a class above is above
  pub above : (most many : ℕ) (from : Option ℕ) (class other : ℕ) → ends_within program most from ≡ true → is_among (way_up parent_of most from) class ≡ true → is_among (way_up parent_of many (Some class)) other ≡ true
      → is_among (way_up parent_of most from) other ≡ true
  above most many None class other ends there e = none_up most class there
  above zero many (Some first) class other ends there e = absurd (false≢true ends)
  above (suc most) many (Some first) class other ends there e =
      ⊎_elim
      (λ here. let is = equal first class here in enough (suc most) many (Some first) other ends (subst (λ c. is_among (way_up parent_of many (Some c)) other ≡ true) (sym is) e))
      (λ up. rest_among first other (way_up parent_of most (parent_of first)) (above most many (parent_of first) class other ends up e))
      (among_parts first class (way_up parent_of most (parent_of first)) there)

-- ---- lists of lists

pub front_among : (numbers others : List ℕ) (number : ℕ) → is_among numbers number ≡ true → is_among (numbers ++ others) number ≡ true
front_among [] others number e = absurd (false≢true e)
front_among (first ∷ numbers) others number e =
    ⊎_elim (λ here. first_among first number (numbers ++ others) here) (λ rest. rest_among first number (numbers ++ others) (front_among numbers others number rest)) (among_parts first number numbers e)

pub back_among : (numbers others : List ℕ) (number : ℕ) → is_among others number ≡ true → is_among (numbers ++ others) number ≡ true
back_among [] others number e = e
back_among (first ∷ numbers) others number e = rest_among first number (numbers ++ others) (back_among numbers others number e)

pub flat_among : (of : ℕ → List ℕ) (numbers : List ℕ) (at number : ℕ) → is_among numbers at ≡ true → is_among (of at) number ≡ true → is_among (flat_map of numbers) number ≡ true
flat_among of [] at number there e = absurd (false≢true there)
flat_among of (first ∷ numbers) at number there e =
    ⊎_elim
    (λ here. let is = equal first at here in front_among (of first) (flat_map of numbers) number (subst (λ n. is_among (of n) number ≡ true) (sym is) e))
    (λ rest. back_among (of first) (flat_map of numbers) number (flat_among of numbers at number rest e))
    (among_parts first at numbers there)
