-- What stands in the way of an answer: nothing, but that the errors of a program be listed, and those of its guarded text, its certificate written, and the one that is given judged.
use Rattle.std.specs.Prelude.{◌≢◌, ◌⊎◌, ℕ, Bool, true, false, List, Option, Some, None}
use Rattle.ix_core.specs.declared.error.Error.{Error}
use Rattle.ix_core.specs.declared.fact.Profile.{Profile}
use Rattle.ix_core.specs.declared.fact.Profile.TheVariants.{Int32}
use Rattle.ix_core.specs.declared.program.Program.{Program}
use Rattle.ix_words.specs.Commands.{Command, Check, Run, Bench, Verify, Guard}
use Rattle.ix_replies.specs.Answer.{Answer}
use Rattle.ix_front.specs.Found.{Whole, Found}
use Rattle.ix_certify.specs.MethodErrors.{IsError}
use Rattle.ix_certify.specs.ErrorList.{IsErrorList}
use Rattle.ix_guard_text.specs.Guarding.{IsGuarded}
use Rattle.ix_certify.specs.Certificates.{IsLeastCertificate}
use Rattle.ix_certify.specs.Verdicts.{IsVerified, IsRefused}
use Rattle.ix_certify.specs.CertError.{CertError}
use Rattle.ix_certify.specs.CertError.TheVariants as refusal
use Rattle.ix_certify.specs.Verified.{Verified}
use Rattle.ix_commands.specs.Answers.{Answers}
use Rattle.ix_front.specs.Sources.{source_bytes}
use Rattle.ix_commands.specs.Judgements.{profile_of}

-- The errors of a program can be listed, where the command asks for them. The check finds that list, with the least labels of all loops, wherever it ends; no
-- law on definitions alone says that there is one.
abbrev pub HasWritten : Bool → Profile → Program → Type 0
HasWritten false profile program = Unit {0}
HasWritten true profile program = (text : List ℕ) × IsLeastCertificate program profile text

-- The text is accepted, or there is a cause to refuse it.
abbrev pub HasVerdict : Program → Option (List ℕ) → Type 0
HasVerdict program None = ⊥
HasVerdict program (Some text) = ((verified : Verified) × IsVerified program text verified) ⊎ ((why : CertError) × (why ≢ refusal.Memory) × IsRefused program text why)

-- The errors of the program of a guarded text can be listed.
abbrev pub HasGuardedListed : Profile → List ℕ → List Error → Type 0
HasGuardedListed profile bytes errors =
    (text : List ℕ) (made : Program) → IsGuarded bytes errors text → Found text (Whole made) → (list : List Error) × IsErrorList (IsError made profile) list

-- so of the program of a source with these bytes
abbrev pub HasList : Command → List ℕ → Option (List ℕ) → Program → Type 0
HasList (Check sums certificate library file) bytes cert program =
    (errors : List Error) × IsErrorList (IsError program (profile_of sums)) errors × HasWritten certificate (profile_of sums) program
HasList (Run limits traced library file entry inputs) bytes cert program = Unit {0}
HasList (Bench count) bytes cert program = (errors : List Error) × IsErrorList (IsError program Int32) errors
HasList (Verify library file name) bytes cert program = HasVerdict program cert
HasList (Guard sums file) bytes cert program =
    (errors : List Error) × IsErrorList (IsError program (profile_of sums)) errors × HasGuardedListed (profile_of sums) bytes errors

-- so of the program of a command's source, where it has one
abbrev pub HasListed : Option Command → List ℕ → Option (List ℕ) → Type 0
HasListed None bytes cert = Unit {0}
HasListed (Some command) bytes cert = (program : Program) → Found (source_bytes command bytes) (Whole program) → HasList command (source_bytes command bytes) cert program

-- there is no answer to a command on these bytes, and on this certificate where one was opened
abbrev pub Unanswered : Option Command → List ℕ → Option (List ℕ) → Type 0
Unanswered command bytes cert = ((answer : Answer) × Answers command bytes cert answer) → ⊥
