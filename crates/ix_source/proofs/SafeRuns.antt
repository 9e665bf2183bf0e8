-- What the source shows is good where the machine of its program is safe and shows the same.
use Rattle.std.proofs.Common.{◌≡◌, ◌<◌, ℕ, suc, ◌+◌, ◌-◌, List, sym, ap, subst, ◌∙◌, arith}
use Rattle.std.specs.List.{AllByRecursion}
use Rattle.ix_core.specs.declared.fact.Profile.{Profile}
use Rattle.ix_core.specs.declared.fact.Profile.TheVariants.{Ideal, Int32}
use Rattle.ix_core.specs.declared.program.Program.{Program}
use Rattle.ix_core.specs.Machine.{State, no_limits, run}
use Rattle.ix_core.specs.Safe.{Input, Begins, Safe, IsBad, Counts, start}
use Rattle.ix_core.specs.Tables.{tables_of}
use Rattle.ix_source.specs.Promise.{IsWithin, IsGood, Counts as SourceCounts}
use Rattle.ix_source.specs.Source.{Shown}
use Rattle.ix_source.specs.Whole.{Meets}
use Rattle.ix_source.proofs.SafeTraces.{traces_within}
use Rattle.ix_source.proofs.Wrapped.{unwrapped_before}

module _ (program : Program) (method : ℕ) (inputs : List Input) where
  abbrev began : State
  began = start program method inputs

  abbrev behind : ℕ → State
  behind steps = run no_limits (tables_of program) steps began

  counts_last : (profile : Profile) (shown : Shown) (state : State) → state.wrapped ≡ shown.wrapped → SourceCounts profile shown → Counts profile state
  counts_last Ideal shown state is counts = is ∙ counts
  counts_last Int32 shown state is counts = tt

  counts_before : (profile : Profile) (steps k : ℕ) → k < steps → Counts profile (behind steps) → Counts profile (behind (suc k))
  counts_before Ideal steps k less counts =
      let all : steps ≡ suc k + (steps - suc k) = omega (arith, less) in
      unwrapped_before (tables_of program) (suc k) (steps - suc k) began (ap (λ n. (behind n).wrapped) (sym all) ∙ counts)
  counts_before Int32 steps k less counts = tt

  pub good_run : (profile : Profile) → Safe program profile → Begins program method inputs → (source : ℕ → Shown) (n : ℕ) → Meets (tables_of program) began source n (source n).ending → SourceCounts profile (source n) → IsGood (source n)
  good_run profile safe begins source n meets counted =
      let counts : Counts profile (behind meets.steps) = counts_last profile (source n) (behind meets.steps) meets.wrapped counted in
      record {
        accesses = subst (AllByRecursion IsWithin) meets.shown
            (traces_within (tables_of program) meets.steps began (λ k less. safe method inputs begins no_limits (suc k) (counts_before profile meets.steps k less counts)));
        ending = λ bad. safe method inputs begins no_limits meets.steps counts (subst IsBad (sym meets.ended) bad);
      }
