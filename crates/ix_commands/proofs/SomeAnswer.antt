-- To all words and bytes there is an answer.
use Rattle.std.proofs.Common.{◌≡◌, ℕ, inl, inr, Bool, true, false, List, [], ◌∷◌, Option, Some, None, length, refl, subst, arith}
use Rattle.std.proofs.lemmas.Bool.{cases_lt}
use Rattle.ix_core.specs.declared.error.Error.{Error}
use Rattle.ix_core.specs.declared.fact.Profile.{Profile}
use Rattle.ix_core.specs.declared.program.Program.{Program}
use Rattle.ix_machine.proofs.SomeStart.{Is, some_start}
use Rattle.ix_words.specs.Commands.{Command, Check, Run, Bench, Verify, Guard}
use Rattle.ix_replies.specs.Answer.{Answer}
use Rattle.ix_front.specs.Found.{Finding, TooLong, Broken, Past, Misnamed, Whole, Found}
use Rattle.ix_front.proofs.SomeFinding.{some_finding}
use Rattle.ix_outside.specs.Reading.{most_certificate}
use Rattle.ix_commands.specs.Judgements.{profile_of}
use Rattle.ix_commands.specs.Answers.{AnswersWhole, AnswersOn, Judges, Verifies, too_long as cert_too_long, verified, refused}
use Rattle.ix_front.specs.Sources.{source_bytes}
use Rattle.ix_replies.specs.Said.{usage, verdict, bench_verdict}
use Rattle.ix_commands.specs.Existence.{HasWritten, HasVerdict, HasList, HasListed, Unanswered}
use Rattle.ix_runs.specs.Runs.{start_answer}
use Rattle.ix_commands.proofs.SomeGuarded.{some_guarding}

judges : (certificate : Bool) (profile : Profile) (file bytes : List ℕ) (program : Program) (errors : List Error) → HasWritten certificate profile program
    → Is ((answer : Answer) × Judges certificate profile file bytes program errors answer)
judges false profile file bytes program errors w never = never (verdict file bytes program errors, refl)
judges true profile file bytes program [] w never = never (_, (w.0, w.1, refl))
judges true profile file bytes program (error ∷ errors) w never = never (_, refl)

verifies : (name bytes : List ℕ) (program : Program) (text : List ℕ) → HasVerdict program (Some text) → Is ((answer : Answer) × Verifies name bytes program text answer)
verifies name bytes program text v never =
    elim (cases_lt most_certificate (length text)) [
      | inl long ↦ never (_, cert_too_long long)
      | inr short ↦ elim v [ inl a ↦ never (_, verified a.0 (omega (arith, short)) a.1) | inr w ↦ never (_, refused w.0 (omega (arith, short)) w.1 w.2) ]
    ]

answers_whole : (command : Command) (bytes : List ℕ) (cert : Option (List ℕ)) (program : Program) → Found bytes (Whole program) → HasList command bytes cert program → Is ((answer : Answer) × AnswersWhole command bytes cert program answer)
answers_whole (Check sums certificate library file) bytes cert program found l never = judges certificate (profile_of sums) file bytes program l.0 l.2 (λ j. never (j.0, (l.0, l.1, j.1)))
answers_whole (Run limits traced library file entry inputs) bytes cert program found l never =
    some_start program entry inputs limits.cells (λ b. never (start_answer traced program bytes limits b.0, (b.0, b.1, refl)))
answers_whole (Bench count) bytes cert program found l never = never (bench_verdict count program l.0, (l.0, l.1, refl))
answers_whole (Guard sums file) bytes cert program found l never =
    let g = some_guarding (profile_of sums) file bytes program l.0 found l.2 in never (g.0, (l.0, l.1, g.1))
answers_whole (Verify library file name) bytes None program found l never = l
answers_whole (Verify library file name) bytes (Some text) program found l never = verifies name bytes program text l never

answers_on : (command : Command) (bytes : List ℕ) (cert : Option (List ℕ)) (finding : Finding) → Found bytes finding → ((program : Program) → finding ≡ Whole program → HasList command bytes cert program)
    → Is ((answer : Answer) × AnswersOn command bytes cert finding answer)
answers_on command bytes cert TooLong found l never = never (_, refl)
answers_on command bytes cert (Broken at key) found l never = never (_, refl)
answers_on command bytes cert (Past at name) found l never = never (_, refl)
answers_on command bytes cert (Misnamed errors) found l never = never (_, refl)
answers_on command bytes cert (Whole program) found l never = answers_whole command bytes cert program found (l program refl) never

pub some_answer : (command : Option Command) (bytes : List ℕ) (cert : Option (List ℕ)) → HasListed command bytes cert → Unanswered command bytes cert → ⊥
some_answer None bytes cert l never = never (usage, refl)
some_answer (Some command) bytes cert l never =
    let f = some_finding (source_bytes command bytes) in
    answers_on command (source_bytes command bytes) cert f.0 f.1 (λ program is. l program (subst (Found (source_bytes command bytes)) is f.1))
    (λ a. never (a.0, (f.0, f.1, a.1)))
