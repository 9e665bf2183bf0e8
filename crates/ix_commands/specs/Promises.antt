-- What is promised of a source by an answer to it.
use Rattle.std.specs.Prelude.{◌≡◌, ◌++◌, ℕ, List, Option, Some, Ok}
use Rattle.ix_lexer.specs.declared.token.Token.{Token}
use Rattle.ix_lexer.specs.Tokens.{Tokens}
use Rattle.ix_tree.specs.declared.decl.Unit.{Unit as Source}
use Rattle.ix_grammar.specs.Refusals.{HasTree}
use Rattle.ix_core.specs.declared.fact.Profile.{Profile}
use Rattle.ix_core.specs.declared.program.Program.{Program}
use Rattle.ix_core.specs.FirstLine.{first_line}
use Rattle.ix_core.specs.Safe.{Safe}
use Rattle.ix_front.specs.Found.{Finding, Whole, Found}
use Rattle.ix_front.specs.Promise.{IsSafe}
use Rattle.ix_source.specs.Promise.{Enters, SafeSource}
use Rattle.ix_replies.specs.Answer.{Answer}
use Rattle.ix_replies.specs.declared.status.Status.TheVariants.{Done}
use Rattle.ix_words.specs.Commands.{Command, Check, Run, Verify, Guard}
use Rattle.ix_words.specs.Words.{Text}
use Rattle.ix_meaning.specs.Resolved.{names}
use Rattle.ix_plain.specs.Program.{program as program_of}
use Rattle.ix_runs.specs.declared.running.RunEnd.{RunEnd}
use Rattle.ix_runs.specs.Entering.{Entering}
use Rattle.ix_runs.specs.Runs.{status_of}
use Rattle.ix_commands.specs.Judgements.{profile_of}
use Rattle.ix_certify.specs.Verdicts.{IsVerified}
use Rattle.ix_certify.specs.Verified.{Verified}

-- The bytes are a source that is safe in its own words: no run of it has an access outside an array or makes an array of negative length.
pub record SafeBytes (profile : Profile) (bytes : List ℕ) : Type 0 where
  pub tokens : List Token
  pub lexed : Tokens bytes tokens
  pub source : Source
  pub parsed : HasTree tokens source
  pub safe : SafeSource profile source

-- The bytes are a source whose program is safe: no run of it on the machine indexes outside an array or makes one of negative length.
pub record SafeOnMachine (profile : Profile) (bytes : List ℕ) : Type 0 where
  pub tokens : List Token
  pub lexed : Tokens bytes tokens
  pub source : Source
  pub parsed : HasTree tokens source
  pub safe : IsSafe profile source

-- A certificate with this text was opened, by which the program is accepted, and which is safe in the certificate's profile.
pub record SafeProgram (program : Program) (cert : Option (List ℕ)) : Type 0 where
  pub text : List ℕ
  pub opened : cert ≡ Some text
  pub verified : Verified
  pub accepted : IsVerified program text verified
  pub safe : Safe program verified.profile

-- A certificate was opened, and the bytes are safe in the profile that its first line names, in the source's words and on the machine.
pub record SafeAsNamed (bytes : List ℕ) (cert : Option (List ℕ)) : Type 0 where
  pub text : List ℕ
  pub opened : cert ≡ Some text
  pub profile : Profile
  pub rest : List ℕ
  pub named : text ≡ first_line profile ++ rest
  pub safe : SafeBytes profile bytes
  pub on_machine : SafeOnMachine profile bytes

-- A certificate was opened, by which the program of the bytes is accepted.
pub record AcceptedBy (bytes : List ℕ) (cert : Option (List ℕ)) : Type 0 where
  pub text : List ℕ
  pub opened : cert ≡ Some text
  pub program : Program
  pub found : Found bytes (Whole program)
  pub verified : Verified
  pub accepted : IsVerified program text verified

-- The text is a source whose program is safe.
pub record SafeText (profile : Profile) (text : List ℕ) : Type 0 where
  pub program : Program
  pub found : Found text (Whole program)
  pub safe : Safe program profile

-- The bytes are a source, and a run that the promise of safety speaks of begins by this entry and these words: a static method of it, and inputs that meet the annotations of its
-- parameters.
pub record EntersBytes (bytes : List ℕ) (entry : Text) (words : List Text) : Type 0 where
  pub tokens : List Token
  pub lexed : Tokens bytes tokens
  pub source : Source
  pub parsed : HasTree tokens source
  pub program : Program
  pub plain : program_of (names source) source.classes ≡ Ok program
  pub by : Entering program entry words
  pub enters : Enters source by.method by.inputs

-- ---- what is promised of an answer: what `check` and `verify` accept is safe, and so is what `guard` writes without errors

abbrev pub PromisesWhole : Command → Option (List ℕ) → Program → Answer → Type 0
PromisesWhole (Check sums certificate library file) cert program answer = answer.status ≡ Done → Safe program (profile_of sums)
PromisesWhole (Verify library file name) cert program answer = answer.status ≡ Done → SafeProgram program cert
PromisesWhole (Guard sums file) cert program answer = answer.status ≡ Done → SafeText (profile_of sums) answer.out
PromisesWhole _ cert program answer = Unit {0}

abbrev pub PromisesOn : Command → Option (List ℕ) → Finding → Answer → Type 0
PromisesOn command cert (Whole program) answer = PromisesWhole command cert program answer
PromisesOn command cert _ answer = Unit {0}

abbrev pub Promises : Command → List ℕ → Option (List ℕ) → Answer → Type 0
Promises (Check sums certificate library file) bytes cert answer = answer.status ≡ Done → SafeBytes (profile_of sums) bytes × SafeOnMachine (profile_of sums) bytes
Promises (Run limits traced library file entry inputs) bytes cert answer = (end : RunEnd) → answer.status ≡ status_of end → EntersBytes bytes entry inputs
Promises (Verify library file name) bytes cert answer = answer.status ≡ Done → SafeAsNamed bytes cert × AcceptedBy bytes cert
Promises (Guard sums file) bytes cert answer = answer.status ≡ Done → SafeBytes (profile_of sums) answer.out × SafeOnMachine (profile_of sums) answer.out
Promises _ bytes cert answer = Unit {0}
