-- The certificate of a program's least labels.
use Rattle.std.specs.Prelude.{◌≡◌, ℕ, ◌<◌, List, length, slice_get, Some}
use Rattle.ix_core.specs.declared.fact.Profile.{Profile}
use Rattle.ix_core.specs.declared.program.Program.{Program}
use Rattle.ix_core.specs.Tables.{method_at, body_of}
use Rattle.ix_facts.specs.Stores.{Stored}
use Rattle.ix_flow.specs.Flow.{IsLeastFlow}
use Rattle.ix_sign.specs.MethodRules.{method_rules}
use Rattle.ix_cert.specs.Labellings.{IsLabelling, loops_of}

-- a store for each loop of the method of this number, which say what the least labels of a flow by the rules say
pub record AreLeastOf (program : Program) (profile : Profile) (number : ℕ) (stores : List Stored) : Type 0 where
  pub labels : ℕ → Stored
  pub least : IsLeastFlow (method_rules program (method_at program number) profile) (body_of (method_at program number)) (length stores) labels
  pub there : (loop : ℕ) → loop < length stores → slice_get stores loop ≡ Some (labels loop)
  pub each : length stores ≡ loops_of (method_at program number)

-- for each method a list
pub record AreLeast (program : Program) (profile : Profile) (labels : List (List Stored)) : Type 0 where
  pub of : (number : ℕ) (stores : List Stored) → slice_get labels number ≡ Some stores → AreLeastOf program profile number stores
  pub each : length labels ≡ length program.methods

-- The text is the certificate of the least labels of all methods.
abbrev pub IsLeastCertificate : Program → Profile → List ℕ → Type 0
IsLeastCertificate program profile text = (labels : List (List Stored)) × AreLeast program profile labels × IsLabelling program profile labels text
