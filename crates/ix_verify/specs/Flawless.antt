-- Labels of a program's loops with which nothing is wrong, and what an audit of labels finds then.
use Rattle.std.specs.Prelude.{◌≡◌, ◌⊎◌, ℕ, ◌<◌, List, [], length, slice_get, unwrap_or, Some}
use Rattle.ix_core.specs.declared.error.Error.{Error}
use Rattle.ix_core.specs.declared.fact.Profile.{Profile}
use Rattle.ix_core.specs.declared.program.Program.{Program}
use Rattle.ix_core.specs.Tables.{method_at, body_of}
use Rattle.ix_facts.specs.Stores.{Stored}
use Rattle.ix_flow.specs.Flow.{IsFlow, IsLeastFlow, IsDerived}
use Rattle.ix_sign.specs.MethodRules.{method_rules}
use Rattle.ix_sign.specs.RuleErrors.{TextErrors}
use Rattle.ix_soundness.specs.Errors.{NoErrors}
use Rattle.ix_verify.specs.AtLabels.{Derives}
use Rattle.ix_verify.specs.Audited.{NoneFails, IsErrorBelow}

module _ (program : Program) (profile : Profile) where
  -- The stores are labels with which a flow of the method has no error at any point; and its text gives none.
  pub record IsFlawless (number : ℕ) (stores : List Stored) : Type 0 where
    pub labels : ℕ → Stored
    pub there : (loop : ℕ) → loop < length stores → slice_get stores loop ≡ Some (labels loop)
    pub flow : IsFlow (method_rules program (method_at program number) profile) (NoErrors program (method_at program number) number) labels (body_of (method_at program number))
    pub text : (error : Error) (rank : ℕ) → TextErrors program (method_at program number) number error rank → ⊥

  -- The stores are the least labels of the method, of which the rules derive no error; and its text gives none.
  pub record IsLeastFlawless (number : ℕ) (stores : List Stored) : Type 0 where
    pub labels : ℕ → Stored
    pub there : (loop : ℕ) → loop < length stores → slice_get stores loop ≡ Some (labels loop)
    pub least : IsLeastFlow (method_rules program (method_at program number) profile) (body_of (method_at program number)) (length stores) labels
    pub none : (error : Error) (rank : ℕ)
        → (IsDerived (method_rules program (method_at program number) profile) (Derives program (method_at program number) number) (body_of (method_at program number)) (record { error = error; rank = rank })
        ⊎ TextErrors program (method_at program number) number error rank)
        → ⊥

  -- of each method
  abbrev pub AreFlawless : List (List Stored) → Type 0
  AreFlawless labels = (number : ℕ) → number < length program.methods → IsFlawless number (unwrap_or (slice_get labels number) [])

  abbrev pub AreLeastFlawless : List (List Stored) → Type 0
  AreLeastFlawless labels = (number : ℕ) → number < length program.methods → IsLeastFlawless number (unwrap_or (slice_get labels number) [])

  -- An audit of the labels finds nothing: no loop fails, and the rules derive no error at them.
  abbrev pub AreAccepted : List (List Stored) → Type 0
  AreAccepted found = NoneFails program profile found (length program.methods) × ((error : Error) (rank : ℕ) → IsErrorBelow program profile found (length program.methods) error rank → ⊥)
