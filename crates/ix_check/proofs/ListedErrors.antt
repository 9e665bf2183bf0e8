-- The errors of a program, as they are listed, start in a text where the places of the program do.
use Rattle.std.proofs.Common.{◌≡◌, inl, inr, ◌≤◌, ◌<◌, ℕ, zero, suc, max, List, [], ◌∷◌, length, Some, slice_get, get_or, subst, arith}
use Rattle.std.proofs.lemmas.Option.{slice_get-get_or}
use Rattle.std.specs.List.{All}
use Rattle.ix_core.specs.declared.error.Error.{Error}
use Rattle.ix_core.specs.declared.error.Detail.TheVariants.{Plain}
use Rattle.ix_core.specs.declared.fact.Profile.{Profile}
use Rattle.ix_core.specs.declared.program.Program.{Program}
use Rattle.ix_core.specs.CodePlaces.{PlacesWithin}
use Rattle.ix_check.specs.MethodErrors.{IsErrorOf, IsError}
use Rattle.ix_check.proofs.ErrorPlaces.{error_starts}
use Rattle.ix_errors.specs.ErrorList.{IsErrorList}

-- ---- an error that a list doesn't have: it starts behind all of them

behind : List Error → ℕ
behind [] = 0
behind (error ∷ errors) = suc (max error.span.from (behind errors))

fresh : List Error → Error
fresh errors = record { rule = 0; span = record { from = behind errors; to = 0 }; detail = Plain }

before_behind : (errors : List Error) (at : ℕ) (error : Error) → slice_get errors at ≡ Some error → error.span.from < behind errors
unfolding behind
before_behind [] at error got = cc
before_behind (first ∷ errors) zero error got = let e : first ≡ error = cc in subst (λ (x : Error). x.span.from < behind (first ∷ errors)) e (omega arith)
before_behind (first ∷ errors) (suc at) error got = let less = before_behind errors at error got in omega (arith, less)

not_listed : (errors : List Error) (at : ℕ) → slice_get errors at ≡ Some (fresh errors) → ⊥
unfolding fresh
not_listed errors at got = let less = before_behind errors at (fresh errors) got in omega (arith, less)

-- ---- a list has not all errors, so those that it has start in the text

module _ (end : ℕ) (program : Program) (profile : Profile) (errors : List Error) (places : PlacesWithin end program) (listed : IsErrorList (IsError program profile) errors) where
  not_all : (number rank : ℕ) → number < length program.methods → ((other : Error) → IsErrorOf program profile number other rank) → ⊥
  not_all number rank within all = let there = listed.all (fresh errors) rank (record { number = number; before = within; of = all (fresh errors) }) in not_listed errors there.0 there.1

  starts : (number : ℕ) (error : Error) (rank : ℕ) → number < length program.methods → IsErrorOf program profile number error rank → error.span.from ≤ end
  starts number error rank within of = elim (error_starts end program profile places number within rank error of) [ inl le ↦ le | inr all ↦ absurd (not_all number rank within all) ]

  pub listed_within : All (λ (error : Error). error.span.from ≤ end) errors
  listed_within = λ k d lt.
      let error = get_or errors k d in
      let only = listed.only k error (slice_get-get_or errors k d lt) in
      starts only.1.is.number error only.0 only.1.is.before only.1.is.of
