-- The promise: a formed program in which the rules derive no error is safe.
use Rattle.std.specs.Prelude.{ℕ}
use Rattle.ix_core.specs.declared.error.Error.{Error}
use Rattle.ix_core.specs.declared.fact.Profile.{Profile}
use Rattle.ix_core.specs.declared.program.Program.{Program}
use Rattle.ix_core.specs.Tables.{method_at, body_of}
use Rattle.ix_flow.specs.Flow.{IsFlow}
use Rattle.ix_facts.specs.Stores.{Stored}
use Rattle.ix_sign.specs.MethodRules.{method_rules}
use Rattle.ix_sign.specs.RuleErrors.{TextErrors}
use Rattle.ix_soundness.specs.Errors.{NoErrors}

-- The method has a flow with no error at any point, and none by its text.
pub record HasNoErrors (program : Program) (profile : Profile) (number : ℕ) : Type 0 where
  pub labels : ℕ → Stored
  pub flow : IsFlow (method_rules program (method_at program number) profile) (NoErrors program (method_at program number) number) labels (body_of (method_at program number))
  pub text : (error : Error) (rank : ℕ) → TextErrors program (method_at program number) number error rank → ⊥
