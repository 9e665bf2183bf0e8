-- That names are small has one proof at most.
use Rattle.std.specs.Prelude.{List, [], ◌∷◌}
use Rattle.std.specs.Coded.{×_prop, le_prop}
use Rattle.ix_core.specs.declared.claim.Claim.{Claim}
use Rattle.ix_core.specs.declared.claim.Name.{Name}
use Rattle.ix_core.specs.declared.claim.Name.TheVariants.{Param, Local, FieldNamed}
use Rattle.ix_core.specs.declared.claim.Post.{Post}
use Rattle.ix_core.specs.declared.program.Method.{Method}
use Rattle.ix_core.specs.declared.program.Program.{Program}
use Rattle.ix_core.specs.Objects.{claim_names, post_names}
use Rattle.ix_signatures.specs.Naming.{IsSmallName, AreSmallNames, AreSmallClaims, AreSmallPosts, HasSmallNames, HaveSmallNames}

name_once : (name : Name) → IsProp (IsSmallName name)
name_once (Param number) = le_prop
name_once (Local number) = hlevel
name_once (FieldNamed field) = hlevel

names_once : (names : List Name) → IsProp (AreSmallNames names)
names_once [] = hlevel
names_once (name ∷ names) = ×_prop (name_once name) (names_once names)

claims_once : (claims : List Claim) → IsProp (AreSmallClaims claims)
claims_once [] = hlevel
claims_once (claim ∷ claims) = ×_prop (names_once (claim_names claim)) (claims_once claims)

posts_once : (posts : List Post) → IsProp (AreSmallPosts posts)
posts_once [] = hlevel
posts_once (post ∷ posts) = ×_prop (names_once (post_names post)) (posts_once posts)

pub method_once : (method : Method) → IsProp (HasSmallNames method)
method_once method = hlevel (le_prop, claims_once, posts_once)

pub program_once : (program : Program) → IsProp (HaveSmallNames program)
program_once program = hlevel (le_prop, claims_once, method_once)
