-- Answers of audits that say the same.
use Rattle.std.specs.Prelude.{◌≡◌}
use Rattle.ix_verify.specs.declared.audit_answer.Audit.{Audit}
use Rattle.ix_verify.specs.declared.audit_answer.Audit.TheVariants.{Clean, Loop, Errors}

abbrev pub AreSame : Audit → Audit → Type 0
AreSame Clean Clean = Unit {0}
AreSame (Loop method loop) (Loop other number) = (method ≡ other) × (loop ≡ number)
AreSame (Errors errors) (Errors others) = errors.items ≡ others.items
AreSame _ _ = ⊥
