-- What the answer of an audit says of a certificate.
use Rattle.std.specs.Prelude.{◌≡◌, ℕ, ◌<◌, true, List, length, slice_get, Some, Result, Ok, Err, IfOk, IfErr, MatchResult}
use Rattle.std.specs.Global.{Vec}
use Rattle.std.proofs.Common.{sym, subst}
use Rattle.ix_core.specs.declared.claim.Type_.{Type_}
use Rattle.ix_core.specs.declared.error.Error.{Error}
use Rattle.ix_core.specs.declared.fact.Profile.{Profile}
use Rattle.ix_core.specs.declared.program.Program.{Program}
use Rattle.ix_core.specs.Formed.{Formed, is_formed}
use Rattle.ix_core.specs.Safe.{Safe}
use Rattle.ix_facts.specs.Stores.{Stored}
use Rattle.ix_cert.specs.Labellings.{IsLabelling}
use Rattle.ix_soundness.specs.Sound.{HasNoErrors}
use Rattle.ix_core.specs.Ready.{LocalsApart}
use Rattle.ix_verify.specs.declared.audit_answer.Audit.{Audit}
use Rattle.ix_verify.specs.declared.audit_answer.Audit.TheVariants as audit
use Rattle.ix_verify.specs.Audited.{IsAudit}
use Rattle.ix_verify.specs.Flawless.{AreFlawless}
use Rattle.ix_verify.proofs.Accepted.{flawless_accepted}
use Rattle.ix_verify.specs.declared.answer.CertError.{CertError}
use Rattle.ix_verify.specs.declared.answer.CertError.TheVariants.{Loop, Rule, Memory}
use Rattle.ix_verify.specs.declared.answer.Verified.{Verified}
use Rattle.ix_verify.specs.Verdicts.{CanVerify, IsVerified, IsRefused, labels_in}
use Rattle.ix_verify.proofs.OneVerdict.{none_refused, own_profile}

module _ (program : Program) (profile : Profile) (labels : List (List Stored)) (answer : Audit) (judged : IsAudit program profile labels answer) where
  pub clean : (verified : Verified) → answer ≡ audit.Clean → verified.profile ≡ profile → verified.labels ≡ labels_in program → (text : List ℕ) → IsLabelling program profile labels text → IsVerified program text verified
  clean verified is own count text gives = record {
    labels = labels;
    gives = subst (λ p. IsLabelling program p labels text) (sym own) gives;
    clean = subst (λ p. IsAudit program p labels audit.Clean) (sym own) (subst (IsAudit program profile labels) is judged);
    count = count;
  }

  pub loop : (method at : ℕ) → answer ≡ audit.Loop method at → (text : List ℕ) → IsLabelling program profile labels text → IsRefused program text (Loop method at)
  loop method at is text gives = (profile, labels, gives, subst (IsAudit program profile labels) is judged)

  pub rule : (errors : Vec Error) (first : Error) → answer ≡ audit.Errors errors → slice_get errors.items 0 ≡ Some first → (text : List ℕ) → IsLabelling program profile labels text → IsRefused program text (Rule first)
  rule errors first is there text gives = (profile, labels, errors, gives, subst (IsAudit program profile labels) is judged, there)

module _ (program : Program) (text : List ℕ) (formed : Formed program) (can : CanVerify program) where
  pub safe : ((program : Program) (locals : List (List Type_)) (profile : Profile) → is_formed program locals ≡ true → LocalsApart program → ((number : ℕ) → number < length program.methods → HasNoErrors program profile number) → Safe program profile)
      → (verified : Verified) → IsVerified program text verified → Safe program verified.profile
  safe sound verified one = sound program formed.0 verified.profile formed.1 can.apart one.clean.2

  -- labels of flows without errors are accepted
  pub refusal : (profile : Profile) (labels : List (List Stored)) → IsLabelling program profile labels text → AreFlawless program profile labels → (why : CertError) → IsRefused program text why → why ≡ Memory
  refusal profile labels is flawless = none_refused program text formed can profile labels is (λ found same. flawless_accepted program profile formed labels found same flawless)

  pub accepts : (result : Result Verified CertError) → IfOk result (IsVerified program text) → IfErr result (IsRefused program text)
      → (profile : Profile) (labels : List (List Stored)) → IsLabelling program profile labels text → AreFlawless program profile labels → MatchResult result (λ verified. verified.profile ≡ profile) (λ error. error ≡ Memory)
  accepts (Ok verified) one refused profile labels is flawless = own_profile program text formed can profile labels verified is one
  accepts (Err why) one refused profile labels is flawless = refusal profile labels is flawless why refused
