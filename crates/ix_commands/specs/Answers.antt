-- What the tool is to answer, from the words and the bytes of the files that they name.
use Rattle.std.specs.Prelude.{◌≡◌, ◌≢◌, ◌<◌, ◌≤◌, ℕ, Bool, true, false, List, [], ◌∷◌, Option, Some, None, length}
use Rattle.ix_core.specs.declared.error.Error.{Error}
use Rattle.ix_core.specs.declared.program.Program.{Program}
use Rattle.ix_core.specs.declared.fact.Profile.{Profile}
use Rattle.ix_core.specs.declared.fact.Profile.TheVariants.{Int32}
use Rattle.ix_replies.specs.Counts.{counts_of}
use Rattle.ix_report.specs.Names.{misnamed}
use Rattle.ix_report.specs.Texts.{accepted, broken, past_limit, past_bytes}
use Rattle.ix_report.specs.Certificates as certificate_text
use Rattle.ix_words.specs.Commands.{Command, Check, Run, Bench, Verify, Guard}
use Rattle.ix_replies.specs.Answer.{Answer, out_answer, err_answer}
use Rattle.ix_front.specs.Found.{Finding, TooLong, Broken, Past, Misnamed, Whole, Found}
use Rattle.ix_certify.specs.MethodErrors.{IsError}
use Rattle.ix_certify.specs.ErrorList.{IsErrorList}
use Rattle.ix_guard_text.specs.Guarding.{IsGuarded}
use Rattle.ix_certify.specs.Certificates.{IsLeastCertificate}
use Rattle.ix_certify.specs.Verdicts.{IsVerified, IsRefused}
use Rattle.ix_certify.specs.CertError.{CertError}
use Rattle.ix_certify.specs.CertError.TheVariants as refusal
use Rattle.ix_certify.specs.Verified.{Verified}
use Rattle.ix_outside.specs.Reading.{most_certificate}
use Rattle.ix_replies.specs.Said.{usage, verdict, bench_verdict}
use Rattle.ix_front.specs.Sources.{source_name, source_bytes}
use Rattle.ix_commands.specs.Judgements.{profile_of}
use Rattle.ix_runs.specs.Runs.{RunAnswers}
use Rattle.ix_replies.specs.declared.status.Status.{Status}
use Rattle.ix_replies.specs.declared.status.Status.TheVariants.{Done, Rejected, Limit}

-- ---- answers

-- the same of `check --certificate`: an accepted program's certificate of the least labels stands in the place of the line of acceptance
abbrev pub Certifies : Profile → List ℕ → List ℕ → Program → List Error → Answer → Type 0
Certifies profile name bytes program [] answer = (text : List ℕ) × IsLeastCertificate program profile text × (answer ≡ out_answer Done text)
Certifies profile name bytes program (error ∷ errors) answer = answer ≡ verdict name bytes program (error ∷ errors)

-- the same, where the certificate may be asked for
abbrev pub Judges : Bool → Profile → List ℕ → List ℕ → Program → List Error → Answer → Type 0
Judges false profile name bytes program errors answer = answer ≡ verdict name bytes program errors
Judges true profile name bytes program errors answer = Certifies profile name bytes program errors answer

-- the line on a certificate that is refused, of a source with these bytes
abbrev pub refusal_line : List ℕ → List ℕ → CertError → List ℕ
refusal_line cert bytes refusal.Form = certificate_text.refused_form cert
refusal_line cert bytes (refusal.Loop method loop) = certificate_text.refused_loop cert method loop
refusal_line cert bytes (refusal.Rule error) = certificate_text.refused_rule cert bytes error
refusal_line cert bytes refusal.Memory = []

-- This is the answer of `verify` on a source with these bytes and this program, where the certificate of that name has this text.
pub data Verifies (cert bytes : List ℕ) (program : Program) (text : List ℕ) : Answer → Type 0 where
  too_long : most_certificate < length text → Verifies cert bytes program text (err_answer Limit (certificate_text.past_certificate cert))
  verified : (accepted : Verified) → length text ≤ most_certificate → IsVerified program text accepted
      → Verifies cert bytes program text (out_answer Done (certificate_text.verified (counts_of program).methods accepted.labels))
  refused : (why : CertError) → length text ≤ most_certificate → why ≢ refusal.Memory → IsRefused program text why
      → Verifies cert bytes program text (out_answer Rejected (refusal_line cert bytes why))

-- the same, where the certificate was opened
abbrev pub VerifiesGiven : List ℕ → List ℕ → Program → Option (List ℕ) → Answer → Type 0
VerifiesGiven cert bytes program None answer = ⊥
VerifiesGiven cert bytes program (Some text) answer = Verifies cert bytes program text answer

-- This is the answer on a source with that name and these bytes, of which this is found: the one that a source without program has, or what its program is answered.
abbrev pub AnswersFound : List ℕ → List ℕ → (Program → Answer → Type 0) → Finding → Answer → Type 0
AnswersFound name bytes whole TooLong answer = answer ≡ err_answer Limit (past_bytes name)
AnswersFound name bytes whole (Broken at key) answer = answer ≡ out_answer Rejected (broken name bytes at key)
AnswersFound name bytes whole (Past at limit) answer = answer ≡ err_answer Limit (past_limit name bytes at limit)
AnswersFound name bytes whole (Misnamed errors) answer = answer ≡ out_answer Rejected (misnamed name bytes errors)
AnswersFound name bytes whole (Whole program) answer = whole program answer

-- the status of `guard` where these are the errors of the program of the guarded text
abbrev pub guard_status : List Error → Status
guard_status [] = Done
guard_status (error ∷ errors) = Rejected

-- This is the answer of `guard` where the guarded text has this program.
abbrev pub AnswersGuarded : Profile → List ℕ → Program → Answer → Type 0
AnswersGuarded profile text program answer = (errors : List Error) × IsErrorList (IsError program profile) errors × (answer ≡ out_answer (guard_status errors) text)

-- This is the answer of `guard` on a source with these bytes and errors: its guarded text is judged anew, under the source's name and with places in that text. A text that
-- is a source without errors on names and within the limits is written, and nothing else.
abbrev pub Guards : Profile → List ℕ → List ℕ → List Error → Answer → Type 0
Guards profile name bytes errors answer =
    (text : List ℕ) × IsGuarded bytes errors text × (finding : Finding) × Found text finding × AnswersFound name text (AnswersGuarded profile text) finding answer

-- This is the answer to a command on a source without errors on names and within the limits, by its program: `check` and `bench` tell all errors that the rules derive
-- at the least labels, and those of the text, as they are listed. A run isn't judged. `verify` judges the program by the text of the certificate, where that was opened.
-- `guard` guards the accesses at which such errors are derived.
abbrev pub AnswersWhole : Command → List ℕ → Option (List ℕ) → Program → Answer → Type 0
AnswersWhole (Check sums certificate library file) bytes cert program answer =
    (errors : List Error) × IsErrorList (IsError program (profile_of sums)) errors × Judges certificate (profile_of sums) file bytes program errors answer
AnswersWhole (Run limits traced library file entry inputs) bytes cert program answer = RunAnswers traced program bytes limits entry inputs answer
AnswersWhole (Bench count) bytes cert program answer = (errors : List Error) × IsErrorList (IsError program Int32) errors × (answer ≡ bench_verdict count program errors)
AnswersWhole (Verify library file name) bytes cert program answer = VerifiesGiven name bytes program cert answer
AnswersWhole (Guard sums file) bytes cert program answer =
    (errors : List Error) × IsErrorList (IsError program (profile_of sums)) errors × Guards (profile_of sums) file bytes errors answer

-- This is the answer to a command on a source with these bytes, of which this is found, and on this certificate where one was opened.
abbrev pub AnswersOn : Command → List ℕ → Option (List ℕ) → Finding → Answer → Type 0
AnswersOn command bytes cert finding answer = AnswersFound (source_name command) bytes (AnswersWhole command bytes cert) finding answer

-- This is the answer to a command on a source with these bytes, and on this certificate where one was opened.
abbrev pub IsVerdict : Command → List ℕ → Option (List ℕ) → Answer → Type 0
IsVerdict command bytes cert answer = (finding : Finding) × Found bytes finding × AnswersOn command bytes cert finding answer

-- This is the answer to a command, or to words that are none, where the file that it names as its source has these bytes, and the one that it names as a certificate, if it
-- was opened, this text.
abbrev pub Answers : Option Command → List ℕ → Option (List ℕ) → Answer → Type 0
Answers None bytes cert answer = answer ≡ usage
Answers (Some command) bytes cert answer = IsVerdict command (source_bytes command bytes) cert answer
