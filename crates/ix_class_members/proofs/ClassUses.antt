-- The type of a class's name doesn't depend on its place.
use Rattle.std.proofs.Common.{◌≡◌, ℕ, Option, Some, None, List, refl}
use Rattle.ix_text.specs.declared.span.Span.{Span}
use Rattle.ix_core.specs.declared.claim.Claim.{Claim}
use Rattle.ix_meaning.specs.Annotated.{class_use}
use Rattle.ix_class_members.specs.ClassTypes.{class_type}

pub class_use_type : (class : Option ℕ) (depth : ℕ) (element : List Claim) (p : Span) → (class_use class depth element p).ty ≡ class_type class depth element
class_use_type None depth element p = refl
class_use_type (Some class) depth element p = refl
