-- Errors of a part of a program's methods, method by method; the two parts together.
use Rattle.std.proofs.Common.{◌≡◌, ◌⊎◌, inl, inr, ⊎_elim, ◌↔◌, ◌+◌, ℕ, Bool, true, false, List, [], ◌++◌, arith, refl, sym, ap, subst, ◌∙◌}
use Rattle.std.specs.Prelude.{nat_lt}
use Rattle.std.proofs.lemmas.Bool.{cases_lt, false≢true}
use Rattle.ix_core.specs.declared.error.Error.{Error}
use Rattle.ix_core.specs.declared.fact.Profile.{Profile}
use Rattle.ix_core.specs.declared.program.Program.{Program}
use Rattle.ix_core.specs.Tables.{method_at}
use Rattle.ix_core.proofs.Cases.{by_test}
use Rattle.ix_errors.specs.declared.ranked.Ranked.{Ranked}
use Rattle.ix_errors.specs.Exactly.{AreExactly}
use Rattle.ix_errors.proofs.Refused.{exactly_none, exactly_same, adds_both}
use Rattle.ix_check.specs.MethodErrors.{IsErrorOf, IsError}
use Rattle.ix_errors.specs.ErrorList.{IsErrorList, In}
use Rattle.ix_errors.proofs.Lists.{same_list}
use Rattle.ix_check.specs.Parts.{is_of_part, IsErrorOfPart, IsErrorBefore, IsErrorBehind}

module _ (before : Bool) (place : ℕ) (program : Program) (profile : Profile) where
  abbrev OfPart : ℕ → Error → ℕ → Type 0
  OfPart = IsErrorOfPart before place program profile

  pub no_errors : (errors : List Ranked) → errors ≡ [] → AreExactly (OfPart 0) errors
  no_errors errors none = subst (AreExactly (OfPart 0)) (sym none) (exactly_none (OfPart 0) (λ error rank below. absurd (omega (arith, below.within))))

  here_too : (count : ℕ) → is_of_part before place (method_at program count) ≡ true → (error : Error) (rank : ℕ)
      → (OfPart count error rank ⊎ IsErrorOf program profile count error rank) ↔ OfPart (count + 1) error rank
  here_too count so error rank = (
    λ either. elim either [
      | inl below ↦ record { number = below.number; within = omega (arith, below.within); part = below.part; of = below.of }
      | inr here ↦ record { number = count; within = omega arith; part = so; of = here }
    ],
    λ below. elim (cases_lt below.number count) [
      | inl less ↦ inl (record { number = below.number; within = less; part = below.part; of = below.of })
      | inr past ↦ inr (let same : below.number ≡ count = omega (arith, past, below.within) in subst (λ n. IsErrorOf program profile n error rank) same below.of)
    ],
  )

  -- behind a method of the part, whose errors were found
  pub with_method : (count : ℕ) (old found new : List Ranked) → is_of_part before place (method_at program count) ≡ true → AreExactly (OfPart count) old
      → AreExactly (IsErrorOf program profile count) found → new ≡ old ++ found → AreExactly (OfPart (count + 1)) new
  with_method count old found new so all last is =
      let both = adds_both (OfPart count) (IsErrorOf program profile count) [] old new (old, refl, all) (found, is, last) in
      subst (AreExactly (OfPart (count + 1))) (sym both.1) (exactly_same _ _ both.0 (here_too count so) both.2)

  not_here : (count : ℕ) → is_of_part before place (method_at program count) ≡ false → (error : Error) (rank : ℕ) → OfPart count error rank ↔ OfPart (count + 1) error rank
  not_here count so error rank = (
    λ below. record { number = below.number; within = omega (arith, below.within); part = below.part; of = below.of },
    λ below. elim (cases_lt below.number count) [
      | inl less ↦ record { number = below.number; within = less; part = below.part; of = below.of }
      | inr past ↦ let same : below.number ≡ count = omega (arith, past, below.within) in
          absurd (false≢true (sym so ∙ (ap (λ n. is_of_part before place (method_at program n)) (sym same) ∙ below.part)))
    ],
  )

  -- behind a method of the other part
  pub past_method : (count : ℕ) (errors : List Ranked) → is_of_part before place (method_at program count) ≡ false → AreExactly (OfPart count) errors → AreExactly (OfPart (count + 1)) errors
  past_method count errors so all = exactly_same _ _ errors (not_here count so) all

-- ---- both parts

pub all_parts : (place : ℕ) (program : Program) (profile : Profile) (error : Error) (rank : ℕ)
    → IsError program profile error rank ↔ (IsErrorBefore place program profile error rank ⊎ IsErrorBehind place program profile error rank)
all_parts place program profile error rank = (
  λ e. by_test (nat_lt (method_at program e.number).span.from place)
      (λ t. inl (record { number = e.number; within = e.before; part = t; of = e.of }))
      (λ t. inr (record { number = e.number; within = e.before; part = rw t refl; of = e.of })),
  λ parts. ⊎_elim (λ e. record { number = e.number; before = e.within; of = e.of }) (λ e. record { number = e.number; before = e.within; of = e.of }) parts,
)

-- the list of what was found is the list of what is derived
pub listed_part : (Derived : Error → ℕ → Type 0) (found : List Ranked) (errors : List Error) → AreExactly Derived found → IsErrorList (In found) errors → IsErrorList Derived errors
listed_part Derived found errors exact list = same_list (In found) Derived (λ error rank has. exact.only (record { error = error; rank = rank }) has) exact.all errors list
