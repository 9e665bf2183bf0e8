-- No error is derived at a point from a store, or before an operation.
use Rattle.std.specs.Prelude.{ℕ}
use Rattle.ix_core.specs.declared.error.Error.{Error}
use Rattle.ix_core.specs.declared.op.Op.{Op}
use Rattle.ix_core.specs.declared.op.OpKind.{OpKind}
use Rattle.ix_core.specs.declared.program.Method.{Method}
use Rattle.ix_core.specs.declared.program.Program.{Program}
use Rattle.ix_facts.specs.Stores.{Stored}
use Rattle.ix_sign.specs.RuleErrors.{KindErrors}
pub use Rattle.ix_sign.specs.RuleErrors.{NoErrors}

abbrev pub NoKindErrors : Program → Method → ℕ → Op → OpKind → Stored → Type 0
NoKindErrors program method number done kind store = (error : Error) (rank : ℕ) → KindErrors program method number done kind store error rank → ⊥
