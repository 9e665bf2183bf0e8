-- At a place that is guarded in a body neither access.low nor access.high is an error.
use Rattle.std.proofs.Common.{ℕ, ◌<◌, length, ⊎_elim}
use Rattle.ix_core.specs.declared.error.Error.{Error}
use Rattle.ix_core.specs.declared.fact.Profile.{Profile}
use Rattle.ix_core.specs.declared.program.Program.{Program}
use Rattle.ix_core.specs.Tables.{method_at, body_of}
use Rattle.ix_check.specs.MethodErrors.{IsErrorOf, IsError}
use Rattle.ix_guard_promise.specs.Guards.{Guards}
use Rattle.ix_guard_promise.specs.Pieces.{EachOp, IsElsewhere}
use Rattle.ix_guard_promise.specs.BoundErrors.{IsOfBounds}
use Rattle.ix_guard_promise.proofs.GuardedPieces.{elsewhere}
use Rattle.ix_guard_promise.proofs.GuardsAvoid.{nothing_known, guards_flow}
use Rattle.ix_guard_promise.proofs.NoTextErrors.{no_text}

-- of one method
pub guards_avoid : (program : Program) (profile : Profile) (number : ℕ) (error : Error) (rank : ℕ) → IsOfBounds error → Guards error.span (body_of (method_at program number))
    → IsErrorOf program profile number error rank → ⊥
guards_avoid program profile number error rank bounds guards either = ⊎_elim
    (λ derived. derived nothing_known (guards_flow program (method_at program number) number profile error rank (body_of (method_at program number)) bounds guards))
    (no_text error rank bounds program (method_at program number) number)
    either

-- of a program in which every method guards the place: most have no access there
pub all_guards_avoid : (program : Program) (profile : Profile) (error : Error) (rank : ℕ) → IsOfBounds error
    → ((number : ℕ) → number < length program.methods → Guards error.span (body_of (method_at program number))) → IsError program profile error rank → ⊥
all_guards_avoid program profile error rank bounds guards is = guards_avoid program profile is.number error rank bounds (guards is.number is.before) is.of

-- of a method that makes no access at the place
pub none_there : (program : Program) (profile : Profile) (number : ℕ) (error : Error) (rank : ℕ) → IsOfBounds error → EachOp (IsElsewhere error.span) (body_of (method_at program number))
    → IsErrorOf program profile number error rank → ⊥
none_there program profile number error rank bounds each = guards_avoid program profile number error rank bounds (elsewhere error.span (body_of (method_at program number)) each)
