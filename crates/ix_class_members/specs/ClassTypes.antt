-- The type that a class's name gives.
use Rattle.std.specs.Prelude.{ℕ, Option, Some, None, List}
use Rattle.ix_core.specs.declared.claim.Base.TheVariants.{Class}
use Rattle.ix_core.specs.declared.claim.Claim.{Claim}
use Rattle.ix_core.specs.declared.claim.Type_.{Type_ as Ty}
use Rattle.ix_meaning.specs.Types.{shaped}

abbrev pub class_type : Option ℕ → ℕ → List Claim → Option Ty
class_type None depth element = None
class_type (Some class) depth element = Some (shaped (Class class) depth element)
