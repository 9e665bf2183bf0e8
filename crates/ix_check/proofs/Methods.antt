-- Errors that are added method by method.
use Rattle.std.proofs.Common.{◌≡◌, ◌⊎◌, inl, inr, ◌↔◌, ◌+◌, ◌≤◌, ℕ, suc, List, [], ◌∷◌, ◌++◌, arith, refl, sym, ap, subst, ◌∙◌}
use Rattle.std.proofs.lemmas.Bool.{cases_lt}
use Rattle.ix_core.specs.declared.error.Error.{Error}
use Rattle.ix_core.specs.declared.fact.Profile.{Profile}
use Rattle.ix_core.specs.declared.program.Program.{Program}
use Rattle.ix_core.specs.Code.{block_code}
use Rattle.ix_core.specs.Tables.{method_at}
use Rattle.ix_graph.specs.Graph.{behind_code}
use Rattle.ix_errors.specs.declared.ranked.Ranked.{Ranked}
use Rattle.ix_errors.specs.Exactly.{AreExactly, AddsExactly}
use Rattle.ix_errors.proofs.Refused.{exactly_none, exactly_same, adds_both}
use Rattle.ix_soundness.specs.Sound.{HasNoErrors}
use Rattle.ix_check.specs.MethodErrors.{IsErrorOf, IsErrorBelow, HaveNone, nodes_below}
use Rattle.ix_labels.specs.Visits.{VisitsWithin}
use Rattle.ix_check.specs.Visits.{VisitsOfFirst}

-- what was added to an empty list is all that is there
pub only_added : (Derived : Error → ℕ → Type 0) (old new : List Ranked) → old ≡ [] → AddsExactly Derived old new → AreExactly Derived new
only_added Derived old new none (more, is, exact) = subst (AreExactly Derived) (sym (is ∙ ap (λ before. before ++ more) none)) exact

module _ (program : Program) (profile : Profile) where
  pub no_methods : (errors : List Ranked) → errors ≡ [] → AreExactly (IsErrorBelow program profile 0) errors
  no_methods errors none = subst (AreExactly (IsErrorBelow program profile 0)) (sym none) (exactly_none (IsErrorBelow program profile 0) (λ error rank below. absurd (omega (arith, below.before))))

  one_more : (count : ℕ) (error : Error) (rank : ℕ) → (IsErrorBelow program profile count error rank ⊎ IsErrorOf program profile count error rank) ↔ IsErrorBelow program profile (count + 1) error rank
  one_more count error rank = (
    λ either. elim either [
      | inl below ↦ record { number = below.number; before = omega (arith, below.before); of = below.of }
      | inr here ↦ record { number = count; before = omega arith; of = here }
    ],
    λ below. elim (cases_lt below.number count) [
      | inl before ↦ inl (record { number = below.number; before = before; of = below.of })
      | inr past ↦ inr (let same : below.number ≡ count = omega (arith, past, below.before) in subst (λ n. IsErrorOf program profile n error rank) same below.of)
    ],
  )

  pub next_method : (count : ℕ) (middle new : List Ranked) → AreExactly (IsErrorBelow program profile count) middle → AddsExactly (IsErrorOf program profile count) middle new
      → AreExactly (IsErrorBelow program profile (count + 1)) new
  next_method count middle new before last =
      let both = adds_both (IsErrorBelow program profile count) (IsErrorOf program profile count) [] middle new (middle, refl, before) last in
      subst (AreExactly (IsErrorBelow program profile (count + 1))) (sym both.1) (exactly_same _ _ both.0 (one_more count) both.2)

  all_empty : (middle more : List Ranked) → middle ++ more ≡ [] → middle ≡ []
  all_empty [] more none = refl
  all_empty (first ∷ middle) more none = cc

  pub none_before : (count : ℕ) (middle new : List Ranked) → AddsExactly (IsErrorOf program profile count) middle new → new ≡ [] → middle ≡ []
  none_before count middle new last none = all_empty middle last.0 (sym last.1 ∙ none)

  pub next_none : (count : ℕ) (middle new : List Ranked) → (middle ≡ [] → HaveNone program profile count) → AddsExactly (IsErrorOf program profile count) middle new
      → (new ≡ middle → HasNoErrors program profile count) → new ≡ [] → HaveNone program profile (count + 1)
  next_none count middle new before last here none number within =
      let empty = none_before count middle new last none in
      elim (cases_lt number count) [
        | inl below ↦ before empty number below
        | inr past ↦ let same : count ≡ number = omega (arith, past, within) in subst (HasNoErrors program profile) same (here (none ∙ sym empty))
      ]

  nodes_next : (count : ℕ) → nodes_below program (count + 1) ≡ nodes_below program count + behind_code (block_code (method_at program count).body) 2
  nodes_next count = let e : count + 1 ≡ suc count = omega arith in ap (nodes_below program) e

  pub next_visits : (count start middle new : ℕ) → start + nodes_below program count ≤ middle → middle + behind_code (block_code (method_at program count).body) 2 ≤ new
      → start + nodes_below program (count + 1) ≤ new
  next_visits count start middle new before last = omega (arith, before, last, nodes_next count)

  pub no_most : (start : ℕ) → VisitsOfFirst program profile 0 start start
  no_most start = (0, refl, omega arith)

  pub next_most : (count start middle new : ℕ) → VisitsOfFirst program profile count start middle → VisitsWithin program (method_at program count) profile middle new
      → VisitsOfFirst program profile (count + 1) start new
  next_most count start middle new (before, before_is, first) (last, last_is, later) =
      let e : suc count ≡ count + 1 = omega arith in
      subst (λ n. VisitsOfFirst program profile n start new) e (before + last, (before, last, before_is, last_is, refl), omega (arith, first, later))
