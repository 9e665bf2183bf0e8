-- A body with guards flows so that no store gives the error of bounds that the guards are for.
use Rattle.std.proofs.Common.{ℕ, []}
use Rattle.ix_core.specs.declared.error.Error.{Error}
use Rattle.ix_core.specs.declared.fact.Profile.{Profile}
use Rattle.ix_core.specs.declared.program.Method.{Method}
use Rattle.ix_core.specs.declared.program.Program.{Program}
use Rattle.ix_core.specs.Code.{Code}
use Rattle.ix_facts.specs.Stores.{Stored, Reached}
use Rattle.ix_flow.specs.Flow.{IsFlow}
use Rattle.ix_sign.specs.MethodRules.{method_rules}
use Rattle.ix_guard_promise.specs.KnownFacts.{store_of}
use Rattle.ix_guard_promise.specs.Guards.{Guards}
use Rattle.ix_guard_promise.specs.BoundErrors.{IsOfBounds, GivesNo}
use Rattle.ix_guard_promise.proofs.GuardedFlow.{body_flows}
use Rattle.ix_guard_promise.proofs.KeptByRules.{rules_kept}

-- nothing is known at the head of a loop
abbrev pub nothing_known : ℕ → Stored
nothing_known number = Reached []

pub guards_flow : (program : Program) (method : Method) (number : ℕ) (profile : Profile) (error : Error) (rank : ℕ) (body : Code) → IsOfBounds error → Guards error.span body
    → IsFlow (method_rules program method profile) (GivesNo program method number error rank) nothing_known body
guards_flow program method number profile error rank body bounds guards =
    body_flows (method_rules program method profile) (GivesNo program method number error rank) error.span store_of (rules_kept program method number profile error rank bounds) body guards
