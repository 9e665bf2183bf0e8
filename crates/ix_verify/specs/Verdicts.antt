-- What is said of a text as a certificate of a program: that the program may be accepted by it, or why not.
use Rattle.std.specs.Prelude.{◌≡◌, ℕ, ◌+◌, if◌then◌else◌, List, [], ◌∷◌, map, slice_get, Some}
use Rattle.std.specs.Global.{Vec}
use Rattle.ix_core.specs.declared.error.Error.{Error}
use Rattle.ix_core.specs.declared.fact.Profile.{Profile}
use Rattle.ix_core.specs.declared.program.Method.{Method}
use Rattle.ix_core.specs.declared.program.Program.{Program}
use Rattle.ix_facts.specs.Stores.{Stored}
use Rattle.ix_cert.specs.Labellings.{IsLabelling, loops_of}
use Rattle.ix_core.specs.Ready.{LocalsApart}
use Rattle.ix_verify.specs.declared.audit_answer.Audit.TheVariants as audit
use Rattle.ix_verify.specs.Audited.{CanAudit, IsAudit}
use Rattle.ix_verify.specs.declared.answer.CertError.{CertError}
use Rattle.ix_verify.specs.declared.answer.CertError.TheVariants.{Form, Loop, Rule, Memory}
use Rattle.ix_verify.specs.declared.answer.Verified.{Verified}

-- What is asked of a program, beside that it is formed. Every program that comes of a source has it.
pub record CanVerify (program : Program) : Type 0 where
  pub audit : CanAudit program
  pub apart : LocalsApart program

-- how many of a method's labels stand in a text: of a method that isn't written none
abbrev pub labels_of : Method → ℕ → ℕ
labels_of method loops = if method.written then loops else 0

abbrev pub labels_beside : List Method → List ℕ → ℕ
labels_beside [] loops = 0
labels_beside methods [] = 0
labels_beside (method ∷ methods) (count ∷ counts) = labels_of method count + labels_beside methods counts

-- how many labels stand in each certificate of the program
abbrev pub labels_in : Program → ℕ
labels_in program = labels_beside program.methods (map loops_of program.methods)

-- The program is accepted: the text is a certificate of it, none of its labels fails, and no error is derived at them.
pub record IsVerified (program : Program) (text : List ℕ) (verified : Verified) : Type 0 where
  pub labels : List (List Stored)
  pub gives : IsLabelling program verified.profile labels text
  pub clean : IsAudit program verified.profile labels audit.Clean
  pub count : verified.labels ≡ labels_in program

-- Why it isn't. No two of these hold at once, nor does one where the program is accepted.
abbrev pub IsRefused : Program → List ℕ → CertError → Type 0
-- the bytes are no certificate of the program
IsRefused program text Form = (profile : Profile) (labels : List (List Stored)) → IsLabelling program profile labels text → ⊥
-- this label, the first that does, fails
IsRefused program text (Loop method loop) = (profile : Profile) × (labels : List (List Stored)) × IsLabelling program profile labels text × IsAudit program profile labels (audit.Loop method loop)
-- no label fails, and this is the first error that is derived at them
IsRefused program text (Rule error) =
    (profile : Profile) × (labels : List (List Stored)) × (errors : Vec Error) × IsLabelling program profile labels text × IsAudit program profile labels (audit.Errors errors) × (slice_get errors.items 0 ≡ Some error)
-- memory is wanting: nothing is said
IsRefused program text Memory = Unit {0}
