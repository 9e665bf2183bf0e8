-- What is wrong with a method at given labels of its loops: loops whose labels fail, and errors.
use Rattle.std.specs.Prelude.{◌⊎◌, ℕ, ◌<◌, List, slice_get, unwrap_or, Option, None, Some}
use Rattle.ix_core.specs.declared.error.Error.{Error}
use Rattle.ix_core.specs.declared.fact.Profile.{Profile}
use Rattle.ix_core.specs.declared.program.Method.{Method}
use Rattle.ix_core.specs.declared.program.Program.{Program}
use Rattle.ix_core.specs.Tables.{method_at, body_of}
use Rattle.ix_facts.specs.Stores.{Stored, Unreachable}
use Rattle.ix_flow.specs.Flow.{Point}
use Rattle.ix_flow.specs.Given.{Fails, IsDerivedAt}
use Rattle.ix_sign.specs.MethodRules.{method_rules}
use Rattle.ix_sign.specs.RuleErrors.{PointErrors, TextErrors}
use Rattle.ix_errors.specs.declared.ranked.Ranked.{Ranked}

-- what a store gives at a point
abbrev pub Derives : Program → Method → ℕ → Point → Stored → Ranked → Type 0
Derives program method number point store found = PointErrors program method number point store found.error found.rank

-- The labels of a method's loops, by the loops' numbers. A loop for which none is given has the unreachable one.
abbrev pub label_of : List Stored → ℕ → Stored
label_of labels loop = unwrap_or (slice_get labels loop) Unreachable

module _ (program : Program) (profile : Profile) (number : ℕ) (labels : List Stored) where
  -- The label of this loop isn't above what comes to the loop's head.
  abbrev pub FailsAt : ℕ → Type 0
  FailsAt loop = Fails (method_rules program (method_at program number) profile) (label_of labels) (body_of (method_at program number)) loop

  -- An error of the method: the rules derive it at these labels, or the text alone gives it.
  abbrev pub IsErrorAt : Error → ℕ → Type 0
  IsErrorAt error rank =
      IsDerivedAt (method_rules program (method_at program number) profile) (Derives program (method_at program number) number) (label_of labels) (body_of (method_at program number)) (record { error = error; rank = rank })
      ⊎ TextErrors program (method_at program number) number error rank

  -- The first loop, by number, whose label fails, if any does.
  abbrev pub IsFirstFailing : Option ℕ → Type 0
  IsFirstFailing None = (loop : ℕ) → FailsAt loop → ⊥
  IsFirstFailing (Some loop) = FailsAt loop × ((before : ℕ) → before < loop → FailsAt before → ⊥)
