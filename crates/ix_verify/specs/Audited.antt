-- What is wrong with a program at given labels of its methods' loops.
use Rattle.std.specs.Prelude.{◌≡◌, ℕ, ◌<◌, ◌^◌, List, [], length, slice_get, unwrap_or}
use Rattle.std.specs.Option.{ForSome}
use Rattle.ix_core.specs.declared.error.Error.{Error}
use Rattle.ix_core.specs.declared.fact.Profile.{Profile}
use Rattle.ix_core.specs.declared.program.Program.{Program}
use Rattle.ix_core.specs.Tables.{method_at}
use Rattle.ix_facts.specs.Stores.{Stored}
use Rattle.ix_errors.specs.ErrorList.{In, IsErrorList}
use Rattle.ix_signatures.specs.Naming.{HaveSmallNames}
use Rattle.ix_errors.specs.declared.ranked.Ranked.{Ranked}
use Rattle.ix_soundness.specs.Sound.{HasNoErrors}
use Rattle.ix_verify.specs.declared.audit_answer.Audit.{Audit}
use Rattle.ix_verify.specs.declared.audit_answer.Audit.TheVariants as audit
use Rattle.ix_verify.specs.AtLabels.{FailsAt, IsErrorAt}

-- What is asked of a program so that it can be judged: its numbers have 32 bits, and each method overrides one that is there.
pub record CanAudit (program : Program) : Type 0 where
  pub few : length program.methods < 2 ^ 32
  pub small : HaveSmallNames program
  pub upper : (number : ℕ) → number < length program.methods → ForSome (method_at program number).overrides (λ over. over < length program.methods)

-- the labels of a method's loops; a method for which none are given has none
abbrev pub labels_of : List (List Stored) → ℕ → List Stored
labels_of labels number = unwrap_or (slice_get labels number) []

module _ (program : Program) (profile : Profile) (labels : List (List Stored)) where
  abbrev pub FailsIn : (method loop : ℕ) → Type 0
  FailsIn method loop = FailsAt program profile method (labels_of labels method) loop

  -- no loop of the first so many methods fails
  abbrev pub NoneFails : ℕ → Type 0
  NoneFails count = (method loop : ℕ) → method < count → FailsIn method loop → ⊥

  -- an error of one of the first so many methods
  pub record IsErrorBelow (count : ℕ) (error : Error) (rank : ℕ) : Type 0 where
    pub number : ℕ
    pub before : number < count
    pub of : IsErrorAt program profile number (labels_of labels number) error rank

  -- The answer of an audit. No two of these hold at once, so each is given exactly where it does.
  abbrev pub IsAudit : Audit → Type 0
  -- no loop fails, no error is derived at the labels, and so each method has a flow without errors
  IsAudit audit.Clean =
      NoneFails (length program.methods)
      × ((error : Error) (rank : ℕ) → IsErrorBelow (length program.methods) error rank → ⊥)
      × ((number : ℕ) → number < length program.methods → HasNoErrors program profile number)
  -- the first method of which a loop fails, and the first loop of it that does
  IsAudit (audit.Loop method loop) =
      (method < length program.methods) × FailsIn method loop × NoneFails method × ((before : ℕ) → before < loop → FailsIn method before → ⊥)
  -- no loop fails, and these are the errors, as they are listed
  IsAudit (audit.Errors errors) =
      NoneFails (length program.methods) × IsErrorList (IsErrorBelow (length program.methods)) errors.items × (errors.items ≡ [] → ⊥)

-- The answer where no loop fails and these errors were found.
abbrev pub IsAnswer : List Ranked → Audit → Type 0
IsAnswer found audit.Clean = found ≡ []
IsAnswer found (audit.Loop method loop) = ⊥
IsAnswer found (audit.Errors errors) = IsErrorList (In found) errors.items × (errors.items ≡ [] → ⊥)
