-- Of a text and a program one thing is said.
use Rattle.std.specs.Prelude.{◌≡◌, ◌≢◌, ℕ, List, slice_get, Some}
use Rattle.std.proofs.Common.{refl, sym, ap, subst, ◌∙◌}
use Rattle.ix_core.specs.declared.error.Error.{Error}
use Rattle.ix_core.specs.declared.fact.Profile.{Profile}
use Rattle.ix_core.specs.declared.program.Program.{Program}
use Rattle.ix_core.specs.Formed.{Formed}
use Rattle.ix_facts.specs.Stores.{Stored}
use Rattle.ix_cert.specs.Labellings.{IsLabelling}
use Rattle.ix_cert.specs.SameLabels.{HasSmallPaths, SameLabels}
use Rattle.ix_cert.proofs.OneMeaning.{one_meaning}
use Rattle.ix_cert.proofs.SmallPaths.{formed_small}
use Rattle.ix_verify.specs.declared.audit_answer.Audit.{Audit}
use Rattle.ix_verify.specs.declared.audit_answer.Audit.TheVariants as audit
use Rattle.ix_verify.specs.Audited.{IsAudit}
use Rattle.ix_verify.specs.Alike.{AreSame}
use Rattle.ix_verify.specs.Flawless.{AreAccepted}
use Rattle.ix_verify.proofs.Alike.{judged_alike}
use Rattle.ix_verify.specs.declared.answer.CertError.{CertError}
use Rattle.ix_verify.specs.declared.answer.CertError.TheVariants.{Form, Loop, Rule, Memory}
use Rattle.ix_verify.specs.declared.answer.Verified.{Verified}
use Rattle.ix_verify.specs.Verdicts.{CanVerify, IsVerified, IsRefused}

abbrev answer_of : Profile → ℕ → Verified
answer_of profile labels = record { profile = profile; labels = labels }

module _ (program : Program) (text : List ℕ) (formed : Formed program) (can : CanVerify program) where
  small : HasSmallPaths program
  small = formed_small program formed can.audit.small.few_fields

  alike : (profile other : Profile) (labels others : List (List Stored)) (answer second : Audit) → IsLabelling program profile labels text → IsLabelling program other others text
      → IsAudit program profile labels answer → IsAudit program other others second → (profile ≡ other) × AreSame answer second
  alike profile other labels others answer second gives more one two =
      let r = one_meaning program profile other labels others text small gives more in
      (r.0, judged_alike program profile formed labels others r.1 answer second one (subst (λ p. IsAudit program p others second) (sym r.0) two))

  pub one_verified : (verified other : Verified) → IsVerified program text verified → IsVerified program text other → verified ≡ other
  one_verified verified other one two =
      let r = alike verified.profile other.profile one.labels two.labels audit.Clean audit.Clean one.gives two.gives one.clean two.clean in
      let count : verified.labels ≡ other.labels = one.count ∙ sym two.count in
      ap (λ (p : Profile). answer_of p verified.labels) r.0 ∙ ap (λ (n : ℕ). answer_of other.profile n) count

  pub never_both : (verified : Verified) (why : CertError) → IsVerified program text verified → IsRefused program text why → why ≢ Memory → ⊥
  never_both verified Form one refused some = refused verified.profile one.labels one.gives
  never_both verified (Loop method loop) one (profile, labels, gives, found) some =
      let r = alike verified.profile profile one.labels labels audit.Clean (audit.Loop method loop) one.gives gives one.clean found in r.1
  never_both verified (Rule error) one (profile, labels, errors, gives, found, first) some =
      let r = alike verified.profile profile one.labels labels audit.Clean (audit.Errors errors) one.gives gives one.clean found in r.1
  never_both verified Memory one refused some = some refl

  pub one_refusal : (why other : CertError) → IsRefused program text why → IsRefused program text other → why ≢ Memory → other ≢ Memory → why ≡ other
  one_refusal Memory other one two some more = absurd (some refl)
  one_refusal Form Memory one two some more = absurd (more refl)
  one_refusal (Loop method loop) Memory one two some more = absurd (more refl)
  one_refusal (Rule error) Memory one two some more = absurd (more refl)
  one_refusal Form Form one two some more = refl
  one_refusal Form (Loop method loop) one (profile, labels, gives, found) some more = absurd (one profile labels gives)
  one_refusal Form (Rule error) one (profile, labels, errors, gives, found, first) some more = absurd (one profile labels gives)
  one_refusal (Loop method loop) Form (profile, labels, gives, found) two some more = absurd (two profile labels gives)
  one_refusal (Rule error) Form (profile, labels, errors, gives, found, first) two some more = absurd (two profile labels gives)
  one_refusal (Loop method loop) (Loop second number) (profile, labels, gives, found) (other, others, gives2, found2) some more =
      let r = alike profile other labels others (audit.Loop method loop) (audit.Loop second number) gives gives2 found found2 in
      ap (λ (n : ℕ). Loop n loop) r.1.0 ∙ ap (λ (n : ℕ). Loop second n) r.1.1
  one_refusal (Loop method loop) (Rule error) (profile, labels, gives, found) (other, others, errors, gives2, found2, first) some more =
      let r = alike profile other labels others (audit.Loop method loop) (audit.Errors errors) gives gives2 found found2 in absurd r.1
  one_refusal (Rule error) (Loop second number) (profile, labels, errors, gives, found, first) (other, others, gives2, found2) some more =
      let r = alike profile other labels others (audit.Errors errors) (audit.Loop second number) gives gives2 found found2 in absurd r.1
  one_refusal (Rule error) (Rule last) (profile, labels, errors, gives, found, first) (other, others, errors2, gives2, found2, first2) some more =
      let r = alike profile other labels others (audit.Errors errors) (audit.Errors errors2) gives gives2 found found2 in
      let both : Some error ≡ Some last = sym first ∙ ap (λ (es : List Error). slice_get es 0) r.1 ∙ first2 in
      let same : error ≡ last = cc in
      ap Rule same

  -- Where labels of which the text is a certificate are accepted, whatever says the same, the text isn't refused.
  pub none_refused : (profile : Profile) (labels : List (List Stored)) → IsLabelling program profile labels text
      → ((found : List (List Stored)) → SameLabels program.methods labels found → AreAccepted program profile found) → (why : CertError) → IsRefused program text why → why ≡ Memory
  none_refused profile labels is accepted Form refused = absurd (refused profile labels is)
  none_refused profile labels is accepted (Loop method loop) (other, others, gives, found) =
      let r = one_meaning program profile other labels others text small is gives in
      let fine = accepted others r.1 in
      let own = subst (λ p. IsAudit program p others (audit.Loop method loop)) (sym r.0) found in
      absurd (fine.0 method loop own.0 own.1)
  none_refused profile labels is accepted (Rule error) (other, others, errors, gives, found, first) =
      let r = one_meaning program profile other labels others text small is gives in
      let fine = accepted others r.1 in
      let own = subst (λ p. IsAudit program p others (audit.Errors errors)) (sym r.0) found in
      let c = own.1.only 0 error first in
      absurd (fine.1 error c.0 c.1.is)
  none_refused profile labels is accepted Memory refused = refl

  -- a certificate by which the program is accepted is one in no other profile
  pub own_profile : (profile : Profile) (labels : List (List Stored)) (verified : Verified) → IsLabelling program profile labels text → IsVerified program text verified → verified.profile ≡ profile
  own_profile profile labels verified is one =
      let r = one_meaning program profile verified.profile labels one.labels text small is one.gives in sym r.0
