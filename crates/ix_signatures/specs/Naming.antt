-- What names stand for in a claim, and which names have a path that can be written down.
use Rattle.std.specs.Prelude.{◌≡◌, ℕ, ◌+◌, ◌<◌, ◌^◌, List, [], ◌∷◌, length, slice_get, Some}
use Rattle.ix_text.specs.declared.span.Span.{Span}
use Rattle.ix_core.specs.declared.claim.Claim.{Claim}
use Rattle.ix_core.specs.declared.claim.Name.{Name}
use Rattle.ix_core.specs.declared.claim.Name.TheVariants.{Param}
use Rattle.ix_core.specs.declared.claim.Post.{Post}
use Rattle.ix_core.specs.declared.fact.Path.{Path}
use Rattle.ix_core.specs.declared.program.Local.{Local as Variable}
use Rattle.ix_core.specs.declared.program.Method.{Method}
use Rattle.ix_core.specs.declared.program.Program.{Program}
use Rattle.ix_core.specs.Objects.{claim_names, post_names}
use Rattle.ix_core.specs.Tables.{method_at, field_at}
use Rattle.ix_rules_hold.specs.MachineSteps.{own_path}
use Rattle.ix_signatures.specs.declared.naming.Naming.{Naming}
use Rattle.ix_signatures.specs.declared.naming.Naming.TheVariants.{Inside, AtCall, OfObject, Writing}
use Rattle.ix_signatures.specs.Names.{call_path, object_path, written_path}

abbrev pub path_by : Naming → Name → Path
path_by (Inside method) = own_path method.now
path_by (AtCall call) = call_path call.now
path_by (OfObject object) = object_path object
path_by (Writing object field value) = written_path object field value

-- the slot of the parameter is a number of 32 bits, also behind `this`
abbrev pub IsSmallName : Name → Type 0
IsSmallName (Param number) = number + 1 < 2 ^ 32
IsSmallName _ = Unit {0}

abbrev pub AreSmallNames : List Name → Type 0
AreSmallNames [] = Unit {0}
AreSmallNames (name ∷ names) = IsSmallName name × AreSmallNames names

abbrev pub AreSmallClaims : List Claim → Type 0
AreSmallClaims [] = Unit {0}
AreSmallClaims (claim ∷ claims) = AreSmallNames (claim_names claim) × AreSmallClaims claims

abbrev pub AreSmallPosts : List Post → Type 0
AreSmallPosts [] = Unit {0}
AreSmallPosts (post ∷ posts) = AreSmallNames (post_names post) × AreSmallPosts posts

abbrev pub AreSmallParams : List Variable → Type 0
AreSmallParams params = (number : ℕ) (param : Variable) → slice_get params number ≡ Some param → AreSmallClaims param.claims

abbrev pub AreSmallLocals : List (Variable × Span) → Type 0
AreSmallLocals locals = (number : ℕ) (local : Variable × Span) → slice_get locals number ≡ Some local → AreSmallClaims local.0.claims

-- a method has fewer parameters and locals than that, and its claims and posts name no parameter beyond
pub record HasSmallNames (method : Method) : Type 0 where
  pub few : length method.params + 1 < 2 ^ 32
  pub types : length method.param_types + 1 < 2 ^ 32
  pub params : AreSmallParams method.params
  pub result : AreSmallClaims method.result_claims
  pub posts : AreSmallPosts method.posts
  pub few_locals : length method.locals < 2 ^ 32
  pub locals : AreSmallLocals method.locals

-- so of all methods; fields have numbers of 32 bits, and their claims name no parameter beyond
pub record HaveSmallNames (program : Program) : Type 0 where
  pub methods : (number : ℕ) → HasSmallNames (method_at program number)
  pub few_fields : length program.fields < 2 ^ 32
  pub fields : (number : ℕ) → AreSmallClaims (field_at program number).claims
