-- What is right of an answer, and that nothing else is.
use Rattle.std.proofs.Common.{◌≡◌, ◌≢◌, inl, inr, ℕ, ◌<◌, true, false, List, [], ◌∷◌, Option, Some, None, Bool, Result, Ok, Err, length, take, length-append, ap, sym, subst, ◌∙◌, refl, arith}
use Rattle.std.proofs.lemmas.List.{length-take}
use Rattle.ix_core.specs.declared.error.Error.{Error}
use Rattle.ix_core.specs.declared.program.Program.{Program}
use Rattle.ix_core.specs.Formed.{Formed}
use Rattle.ix_core.specs.Safe.{Safe}
use Rattle.ix_core.specs.declared.fact.Profile.{Profile}
use Rattle.ix_core.specs.declared.fact.Profile.TheVariants.{Int32}
use Rattle.ix_certify.specs.Certificates.{IsLeastCertificate}
use Rattle.ix_certify.proofs.OneCertificate.{one_certificate}
use Rattle.ix_certify.specs.Verified.{Verified}
use Rattle.ix_certify.specs.CertError.{CertError}
use Rattle.ix_certify.specs.Verdicts.{CanVerify}
use Rattle.ix_certify.proofs.OneVerdict.{one_verified, one_refusal, never_both}
use Rattle.ix_report.specs.Certificates as certificate_text
use Rattle.ix_replies.specs.Counts.{counts_of}
use Rattle.ix_formed.specs.Parsed.{IsParsed}
use Rattle.ix_meaning.specs.Resolved.{Accepts, names}
use Rattle.ix_plain.specs.Program.{program as program_of}
use Rattle.ix_tree.specs.declared.decl.Unit.{Unit as Source}
use Rattle.ix_grammar.specs.Refusals.{HasTree}
use Rattle.ix_lexer.specs.Tokens.{Tokens}
use Rattle.ix_lexer.specs.declared.token.LexError.{LexError}
use Rattle.ix_lexer.specs.declared.token.LexError.TheVariants as lexical
use Rattle.ix_lexer.specs.declared.token.Token.{Token}
use Rattle.ix_grammar.specs.declared.error.ParseError.{ParseError}
use Rattle.ix_grammar.specs.declared.error.ParseError.TheVariants as syntax
use Rattle.ix_outside.specs.Outside.{Files, bytes_under}
use Rattle.ix_outside.specs.Reading.{IsAllOrPast, most_bytes, most_certificate}
use Rattle.ix_words.specs.Commands.{Command, Check, Run, Bench, Verify, Guard}
use Rattle.ix_replies.specs.declared.status.Status.{Status}
use Rattle.ix_replies.specs.declared.status.Status.TheVariants.{Done, Rejected, Limit}
use Rattle.ix_replies.specs.Statuses.{is_answer}
use Rattle.ix_replies.specs.Answer.{Answer, out_answer}
use Rattle.ix_front.specs.Found.{Finding, TooLong, Broken, Past, Misnamed, Whole, Found, too_long, no_tokens, lexed, no_tree, tree, passes_limit, misnames, inherits, too_big, named, of_lex_error, of_parse_error}
use Rattle.ix_certify.specs.MethodErrors.{IsError}
use Rattle.ix_certify.proofs.Lists.{one_list}
use Rattle.ix_commands.specs.Judgements.{profile_of}
use Rattle.ix_library.specs.Library.{library as library_text}
use Rattle.ix_commands.specs.Answers.{Answers, IsVerdict, AnswersFound, AnswersOn, AnswersWhole, Judges, Guards, Verifies, too_long as cert_too_long, verified, refused, refusal_line}
use Rattle.ix_replies.specs.Said.{verdict, bench_verdict}
use Rattle.ix_front.specs.Sources.{source_bytes, source_name, judged_bytes, file_in, cert_in}
use Rattle.ix_front.specs.Opened.{bytes_of, cert_bytes_of}
use Rattle.ix_commands.specs.Promises.{SafeBytes, SafeOnMachine, SafeProgram, SafeAsNamed, AcceptedBy, SafeText, EntersBytes, PromisesWhole, PromisesOn, Promises}
use Rattle.ix_replies.specs.Delivery.{IsOnly}
use Rattle.ix_replies.specs.declared.written_reply.Reply.{Reply}
use Rattle.ix_replies.specs.Replies.{Says, shown}
use Rattle.std.specs.declared.alloc.AllocError.{AllocError}
use Rattle.std.specs.Prelude.{IfOk}
use Rattle.ix_front.proofs.BytesFound.{past-only, some_is}
use Rattle.ix_front.proofs.OneFinding.{one_finding}
use Rattle.ix_front.proofs.FoundPrograms.{found_formed, tree_parsed}
use Rattle.ix_source.proofs.SafeSources.{safe_source}
use Rattle.ix_front.specs.Findings.{HasFormed}
use Rattle.ix_core.specs.Ready.{CanCheck}
use Rattle.ix_runs.proofs.OneRun.{runs_one, start_answers}
use Rattle.ix_replies.proofs.Verdicts.{verdict_answers as verdict_said, bench_answers}
use Rattle.ix_runs.specs.declared.running.RunEnd.{RunEnd}
use Rattle.ix_runs.specs.Entering.{Entering}
use Rattle.ix_runs.specs.Runs.{RunAnswers, status_of}
use Rattle.ix_runs.proofs.RunsEnter.{run_enters, not_limit, not_rejected}
use Rattle.ix_source.proofs.Anchored.{entered}
use Rattle.ix_words.specs.Words.{Text}
use Rattle.ix_commands.proofs.WholeSources.{IsWhole, whole_source}
use Rattle.ix_commands.proofs.Verifiable.{can_verify}
use Rattle.ix_commands.proofs.GuardsAnswered.{one_guarding, guards_answers}

-- ---- one answer

judges_one : (certificate : Bool) (profile : Profile) (file bytes : List ℕ) (program : Program) (errors : List Error) (one other : Answer)
    → Judges certificate profile file bytes program errors one → Judges certificate profile file bytes program errors other → other ≡ one
judges_one false profile file bytes program errors one other a b = b ∙ sym a
judges_one true profile file bytes program [] one other a b = b.2 ∙ ap (out_answer Done) (one_certificate program profile b.0 a.0 b.1 a.1) ∙ sym a.2
judges_one true profile file bytes program (error ∷ errors) one other a b = b ∙ sym a

module _ (cert bytes : List ℕ) (program : Program) (text : List ℕ) (formed : Formed program) (can : CanVerify program) where
  verifies_one : (one other : Answer) → Verifies cert bytes program text one → Verifies cert bytes program text other → other ≡ one
  verifies_one _ _ (cert_too_long a) (cert_too_long b) = refl
  verifies_one _ _ (cert_too_long a) (verified accepted b is) = absurd (omega (arith, a, b))
  verifies_one _ _ (cert_too_long a) (refused why b said is) = absurd (omega (arith, a, b))
  verifies_one _ _ (verified accepted a is) (cert_too_long b) = absurd (omega (arith, a, b))
  verifies_one _ _ (verified accepted a is) (verified other b also) =
      ap (λ (v : Verified). out_answer Done (certificate_text.verified (counts_of program).methods v.labels)) (one_verified program text formed can other accepted also is)
  verifies_one _ _ (verified accepted a is) (refused why b said also) = absurd (never_both program text formed can accepted why is also said)
  verifies_one _ _ (refused why a said is) (cert_too_long b) = absurd (omega (arith, a, b))
  verifies_one _ _ (refused why a said is) (verified other b also) = absurd (never_both program text formed can other why also is said)
  verifies_one _ _ (refused why a said is) (refused other b also_said also) =
      ap (λ (w : CertError). out_answer Rejected (refusal_line cert bytes w)) (one_refusal program text formed can other why also is also_said said)

whole_one : (command : Command) (bytes : List ℕ) (cert : Option (List ℕ)) (program : Program) (one other : Answer) → Formed program → CanCheck program
    → AnswersWhole command bytes cert program one → AnswersWhole command bytes cert program other → other ≡ one
whole_one (Check sums certificate library file) bytes cert program one other formed can a b =
    judges_one certificate (profile_of sums) file bytes program a.0 one other a.2
    (subst (λ (es : List Error). Judges certificate (profile_of sums) file bytes program es other) (one_list (IsError program (profile_of sums)) b.0 a.0 b.1 a.1) b.2)
whole_one (Run limits traced library file entry inputs) bytes cert program one other formed can a b = runs_one traced program bytes limits entry inputs one other a b
whole_one (Bench count) bytes cert program one other formed can a b = b.2 ∙ ap (bench_verdict count program) (one_list (IsError program Int32) b.0 a.0 b.1 a.1) ∙ sym a.2
whole_one (Verify library file name) bytes None program one other formed can a b = absurd a
whole_one (Verify library file name) bytes (Some text) program one other formed can a b = verifies_one name bytes program text formed (can_verify program formed can) one other a b
whole_one (Guard sums file) bytes cert program one other formed can a b =
    one_guarding (profile_of sums) file bytes a.0 one other a.2
    (subst (λ (es : List Error). Guards (profile_of sums) file bytes es other) (one_list (IsError program (profile_of sums)) b.0 a.0 b.1 a.1) b.2)

answers_one : (command : Command) (bytes : List ℕ) (cert : Option (List ℕ)) (finding : Finding) (one other : Answer) → HasFormed finding
    → AnswersOn command bytes cert finding one → AnswersOn command bytes cert finding other → other ≡ one
answers_one command bytes cert TooLong one other formed a b = b ∙ sym a
answers_one command bytes cert (Broken at key) one other formed a b = b ∙ sym a
answers_one command bytes cert (Past at name) one other formed a b = b ∙ sym a
answers_one command bytes cert (Misnamed errors) one other formed a b = b ∙ sym a
answers_one command bytes cert (Whole program) one other formed a b = whole_one command bytes cert program one other formed.0 formed.1 a b

-- an answer on what is found is the only right one
pub only_verdict : (command : Command) (bytes : List ℕ) (cert : Option (List ℕ)) (finding : Finding) → Found bytes finding → ((other : Finding) → Found bytes other → finding ≡ other)
    → (answer : Answer) → AnswersOn command bytes cert finding answer → IsOnly (IsVerdict command bytes cert) answer
only_verdict command bytes cert finding found only answer on =
    ((finding, found, on), λ other right. answers_one command bytes cert finding answer other (found_formed bytes finding found) on (subst (λ (f : Finding). AnswersOn command bytes cert f other) (sym (only right.0 right.1)) right.2))

-- of one source one answer is right
pub one_verdict : (command : Command) (bytes : List ℕ) (cert : Option (List ℕ)) (one other : Answer) → IsVerdict command bytes cert one → IsVerdict command bytes cert other → one ≡ other
one_verdict command bytes cert one other a b =
    answers_one command bytes cert a.0 other one (found_formed bytes a.0 a.1) (subst (λ (f : Finding). AnswersOn command bytes cert f other) (one_finding bytes b.0 a.0 b.1 a.1) b.2) a.2

pub one_answer : (command : Option Command) (bytes : List ℕ) (cert : Option (List ℕ)) (one other : Answer) → Answers command bytes cert one → Answers command bytes cert other → one ≡ other
one_answer None bytes cert one other a b = a ∙ sym b
one_answer (Some command) bytes cert one other a b = one_verdict command (source_bytes command bytes) cert one other a b

-- ---- what was read and the whole file

long : (most : ℕ) (all read : List ℕ) → most < length read → take (length read) all ≡ read → most < length all
long most all read past first = omega (arith, past, length-take (length read) all, ap length first)

past_verdict : (command : Command) (cert : Option (List ℕ)) (one other : List ℕ) (answer : Answer) → most_bytes < length one → most_bytes < length other
    → IsVerdict command one cert answer → IsVerdict command other cert answer
past_verdict command cert one other answer a b right =
    let same = past-only one right.0 a right.1 in
    (TooLong, too_long b, subst (λ (f : Finding). AnswersOn command one cert f answer) (sym same) right.2)

judged_past : (library : Bool) (bytes : List ℕ) → most_bytes < length bytes → most_bytes < length (judged_bytes library bytes)
judged_past false bytes past = past
judged_past true bytes past = omega (arith, past, length-append bytes (10 ∷ library_text))

verdict_read : (command : Command) (cert : Option (List ℕ)) (library : Bool) (all read : List ℕ) (answer : Answer) → IsAllOrPast most_bytes all read
    → IsVerdict command (judged_bytes library all) cert answer → IsVerdict command (judged_bytes library read) cert answer
verdict_read command cert library all read answer (inl same) v = subst (λ (bytes : List ℕ). IsVerdict command (judged_bytes library bytes) cert answer) (sym same) v
verdict_read command cert library all read answer (inr past) v =
    past_verdict command cert (judged_bytes library all) (judged_bytes library read) answer (judged_past library all (long most_bytes all read past.0 past.1)) (judged_past library read past.0) v

-- an answer on the whole source is one on what was read of it
source_read : (command : Command) (cert : Option (List ℕ)) (held : Files) (given : List ℕ) (answer : Answer)
    → ((file : List ℕ) → file_in command ≡ Some file → IsAllOrPast most_bytes (bytes_under file held) given)
    → IsVerdict command (source_bytes command (bytes_of (file_in command) held)) cert answer → IsVerdict command (source_bytes command given) cert answer
source_read (Check sums certificate library file) cert held given answer known right =
    verdict_read (Check sums certificate library file) cert library (bytes_under file held) given answer (known file refl) right
source_read (Run limits traced library file entry inputs) cert held given answer known right = verdict_read (Run limits traced library file entry inputs) cert library (bytes_under file held) given answer (known file refl) right
source_read (Bench count) cert held given answer known right = right
source_read (Verify library file name) cert held given answer known right = verdict_read (Verify library file name) cert library (bytes_under file held) given answer (known file refl) right
source_read (Guard sums file) cert held given answer known right = verdict_read (Guard sums file) cert false (bytes_under file held) given answer (known file refl) right

cert_read : (name bytes : List ℕ) (program : Program) (all text : List ℕ) (answer : Answer) → IsAllOrPast most_certificate all text → Verifies name bytes program all answer
    → Verifies name bytes program text answer
cert_read name bytes program all text answer (inl same) v = subst (λ (t : List ℕ). Verifies name bytes program t answer) (sym same) v
cert_read name bytes program all text _ (inr past) (cert_too_long a) = cert_too_long past.0
cert_read name bytes program all text _ (inr past) (verified accepted fits is) = let more = long most_certificate all text past.0 past.1 in absurd (omega (arith, fits, more))
cert_read name bytes program all text _ (inr past) (refused why fits said is) = let more = long most_certificate all text past.0 past.1 in absurd (omega (arith, fits, more))

-- What was read of the certificate is all of it, or more than one may have.
abbrev pub IsCertRead : Command → Files → Option (List ℕ) → Type 0
IsCertRead command held cert = (name text : List ℕ) → cert_in command ≡ Some name → cert ≡ Some text → IsAllOrPast most_certificate (bytes_under name held) text

whole_read : (command : Command) (bytes : List ℕ) (held : Files) (cert : Option (List ℕ)) (program : Program) (one answer : Answer) → IsCertRead command held cert
    → AnswersWhole command bytes cert program one → AnswersWhole command bytes (cert_bytes_of (cert_in command) held) program answer → AnswersWhole command bytes cert program answer
whole_read (Check sums certificate library file) bytes held cert program one answer known a v = v
whole_read (Run limits traced library file entry inputs) bytes held cert program one answer known a v = v
whole_read (Bench count) bytes held cert program one answer known a v = v
whole_read (Guard sums file) bytes held cert program one answer known a v = v
whole_read (Verify library file name) bytes held None program one answer known a v = absurd a
whole_read (Verify library file name) bytes held (Some text) program one answer known a v = cert_read name bytes program (bytes_under name held) text answer (known name text refl refl) v

on_read : (command : Command) (bytes : List ℕ) (held : Files) (cert : Option (List ℕ)) (finding : Finding) (one answer : Answer) → IsCertRead command held cert
    → AnswersOn command bytes cert finding one → AnswersOn command bytes (cert_bytes_of (cert_in command) held) finding answer → AnswersOn command bytes cert finding answer
on_read command bytes held cert TooLong one answer known a v = v
on_read command bytes held cert (Broken at key) one answer known a v = v
on_read command bytes held cert (Past at name) one answer known a v = v
on_read command bytes held cert (Misnamed errors) one answer known a v = v
on_read command bytes held cert (Whole program) one answer known a v = whole_read command bytes held cert program one answer known a v

-- Where an answer on what was read is right, one to a command on its whole files is right of what was read too.
pub read_right : (command : Command) (held : Files) (given : List ℕ) (cert : Option (List ℕ)) (one answer : Answer)
    → ((file : List ℕ) → file_in command ≡ Some file → IsAllOrPast most_bytes (bytes_under file held) given) → IsCertRead command held cert
    → IsVerdict command (source_bytes command given) cert one
    → IsVerdict command (source_bytes command (bytes_of (file_in command) held)) (cert_bytes_of (cert_in command) held) answer → IsVerdict command (source_bytes command given) cert answer
read_right command held given cert one answer known known_cert at right =
    let bytes = source_bytes command given in
    let r = source_read command (cert_bytes_of (cert_in command) held) held given answer known right in
    (r.0, r.1, on_read command bytes held cert r.0 one answer known_cert (subst (λ (f : Finding). AnswersOn command bytes cert f one) (one_finding bytes at.0 r.0 at.1 r.1) at.2) r.2)

-- ---- answers speak of no fault

judges_answers : (certificate : Bool) (profile : Profile) (file bytes : List ℕ) (program : Program) (errors : List Error) (answer : Answer)
    → Judges certificate profile file bytes program errors answer → is_answer answer.status ≡ true
judges_answers false profile file bytes program errors answer right = rw right (verdict_said file bytes program errors)
judges_answers true profile file bytes program [] answer right = rw right.2 refl
judges_answers true profile file bytes program (error ∷ errors) answer right = rw right refl

verifies_answers : (cert bytes : List ℕ) (program : Program) (text : List ℕ) (answer : Answer) → Verifies cert bytes program text answer → is_answer answer.status ≡ true
verifies_answers cert bytes program text _ (cert_too_long a) = refl
verifies_answers cert bytes program text _ (verified accepted a is) = refl
verifies_answers cert bytes program text _ (refused why a said is) = refl

whole_answers : (command : Command) (bytes : List ℕ) (cert : Option (List ℕ)) (program : Program) (answer : Answer) → AnswersWhole command bytes cert program answer → is_answer answer.status ≡ true
whole_answers (Check sums certificate library file) bytes cert program answer right = judges_answers certificate (profile_of sums) file bytes program right.0 answer right.2
whole_answers (Run limits traced library file entry inputs) bytes cert program answer right = rw right.2 (start_answers traced program bytes limits right.0)
whole_answers (Bench count) bytes cert program answer right = rw right.2 (bench_answers count program right.0)
whole_answers (Guard sums file) bytes cert program answer right = guards_answers (profile_of sums) file bytes right.0 answer right.2
whole_answers (Verify library file name) bytes None program answer right = absurd right
whole_answers (Verify library file name) bytes (Some text) program answer right = verifies_answers name bytes program text answer right

on_answers : (command : Command) (bytes : List ℕ) (cert : Option (List ℕ)) (finding : Finding) (answer : Answer) → AnswersOn command bytes cert finding answer → is_answer answer.status ≡ true
on_answers command bytes cert TooLong answer right = rw right refl
on_answers command bytes cert (Broken at key) answer right = rw right refl
on_answers command bytes cert (Past at name) answer right = rw right refl
on_answers command bytes cert (Misnamed errors) answer right = rw right refl
on_answers command bytes cert (Whole program) answer right = whole_answers command bytes cert program answer right

pub verdict_answers : (command : Command) (bytes : List ℕ) (cert : Option (List ℕ)) (answer : Answer) → IsVerdict command bytes cert answer → is_answer answer.status ≡ true
verdict_answers command bytes cert answer right = on_answers command bytes cert right.0 answer right.2

-- a status of an answer is no fault and no want of memory
pub other_status : (result other : Status) → is_answer result ≡ true → is_answer other ≡ false → result ≢ other
other_status result other so not_so same = cc (ap is_answer same)

-- ---- what is accepted

pub status_is : (one other : Answer) → one ≡ other → one.status ≡ other.status
status_is one other is = ap (λ (a : Answer). a.status) is

pub at_limit : (answer : Answer) → answer.status ≡ Limit → answer.status ≡ Done → ⊥
at_limit answer status done = cc

pub rejected : (answer : Answer) → answer.status ≡ Rejected → answer.status ≡ Done → ⊥
rejected answer status done = cc

done_whole : (command : Command) (bytes : List ℕ) (cert : Option (List ℕ)) (finding : Finding) (answer : Answer) → AnswersOn command bytes cert finding answer → answer.status ≡ Done
    → (program : Program) × (finding ≡ Whole program)
done_whole command bytes cert TooLong answer on done = absurd (at_limit answer (status_is answer _ on) done)
done_whole command bytes cert (Broken at key) answer on done = absurd (rejected answer (status_is answer _ on) done)
done_whole command bytes cert (Past at name) answer on done = absurd (at_limit answer (status_is answer _ on) done)
done_whole command bytes cert (Misnamed errors) answer on done = absurd (rejected answer (status_is answer _ on) done)
done_whole command bytes cert (Whole program) answer on done = (program, refl)

run_whole : (command : Command) (bytes : List ℕ) (cert : Option (List ℕ)) (finding : Finding) (answer : Answer) → AnswersOn command bytes cert finding answer → (end : RunEnd) → answer.status ≡ status_of end
    → (program : Program) × (finding ≡ Whole program)
run_whole command bytes cert TooLong answer on end is = absurd (not_limit end (sym (status_is answer _ on) ∙ is))
run_whole command bytes cert (Broken at key) answer on end is = absurd (not_rejected end (sym (status_is answer _ on) ∙ is))
run_whole command bytes cert (Past at name) answer on end is = absurd (not_limit end (sym (status_is answer _ on) ∙ is))
run_whole command bytes cert (Misnamed errors) answer on end is = absurd (not_rejected end (sym (status_is answer _ on) ∙ is))
run_whole command bytes cert (Whole program) answer on end is = (program, refl)

safe_bytes : (bytes : List ℕ) (program : Program) (profile : Profile) → IsWhole bytes program → Safe program profile → SafeBytes profile bytes
safe_bytes bytes program profile whole safe = record {
  tokens = whole.tokens;
  lexed = whole.lexing;
  source = whole.source;
  parsed = whole.has;
  safe = safe_source whole.source program (tree_parsed bytes whole.tokens whole.source whole.lexing whole.few whole.has) whole.accepts whole.plain profile safe;
}

safe_on_machine : (bytes : List ℕ) (program : Program) (profile : Profile) → IsWhole bytes program → Safe program profile → SafeOnMachine profile bytes
safe_on_machine bytes program profile whole safe = record {
  tokens = whole.tokens;
  lexed = whole.lexing;
  source = whole.source;
  parsed = whole.has;
  safe = record { program = program; plain = whole.plain; safe = safe };
}

verified_safe : (bytes : List ℕ) (cert : Option (List ℕ)) (program : Program) (finding : Finding) → Found bytes finding → finding ≡ Whole program → SafeProgram program cert → SafeAsNamed bytes cert × AcceptedBy bytes cert
verified_safe bytes cert program finding found is by =
    let whole = whole_source bytes program finding found is in
    let profile = by.verified.profile in (
      record {
        text = by.text;
        opened = by.opened;
        profile = profile;
        rest = by.accepted.gives.0;
        named = by.accepted.gives.1;
        safe = safe_bytes bytes program profile whole by.safe;
        on_machine = safe_on_machine bytes program profile whole by.safe;
      },
      record { text = by.text; opened = by.opened; program = program; found = subst (Found bytes) is found; verified = by.verified; accepted = by.accepted },
    )

run_enters_bytes : (bytes : List ℕ) (program : Program) (entry : Text) (words : List Text) → IsWhole bytes program → Entering program entry words → EntersBytes bytes entry words
run_enters_bytes bytes program entry words whole by = record {
  tokens = whole.tokens;
  lexed = whole.lexing;
  source = whole.source;
  parsed = whole.has;
  program = program;
  plain = whole.plain;
  by = by;
  enters = entered whole.source program (tree_parsed bytes whole.tokens whole.source whole.lexing whole.few whole.has) whole.accepts whole.plain by.method by.inputs by.begins;
}

-- what is promised of an answer on what is found is promised of one on these bytes
pub promised : (command : Command) (bytes : List ℕ) (cert : Option (List ℕ)) (finding : Finding) (answer : Answer) → Found bytes finding → AnswersOn command bytes cert finding answer → PromisesOn command cert finding answer
    → Promises command bytes cert answer
promised (Check sums certificate library file) bytes cert finding answer found on safe = λ done.
    let command : Command = Check sums certificate library file in
    let is = done_whole command bytes cert finding answer on done in
    let whole = whole_source bytes is.0 finding found is.1 in
    let proved : Safe is.0 (profile_of sums) = subst (λ (f : Finding). PromisesOn command cert f answer) is.1 safe done in
    (safe_bytes bytes is.0 (profile_of sums) whole proved, safe_on_machine bytes is.0 (profile_of sums) whole proved)
promised (Verify library file name) bytes cert finding answer found on safe = λ done.
    let command : Command = Verify library file name in
    let is = done_whole command bytes cert finding answer on done in
    verified_safe bytes cert is.0 finding found is.1 (subst (λ (f : Finding). PromisesOn command cert f answer) is.1 safe done)
promised (Run limits traced library file entry inputs) bytes cert finding answer found on safe = λ end status.
    let command : Command = Run limits traced library file entry inputs in
    let is = run_whole command bytes cert finding answer on end status in
    let right : RunAnswers traced is.0 bytes limits entry inputs answer = subst (λ (f : Finding). AnswersOn command bytes cert f answer) is.1 on in
    run_enters_bytes bytes is.0 entry inputs (whole_source bytes is.0 finding found is.1) (run_enters traced is.0 bytes limits entry inputs answer right end status)
promised (Bench count) bytes cert finding answer found on safe = tt
promised (Guard sums file) bytes cert finding answer found on safe = λ done.
    let command : Command = Guard sums file in
    let is = done_whole command bytes cert finding answer on done in
    let text : SafeText (profile_of sums) answer.out = subst (λ (f : Finding). PromisesOn command cert f answer) is.1 safe done in
    let whole = whole_source answer.out text.program (Whole text.program) text.found refl in
    (safe_bytes answer.out text.program (profile_of sums) whole text.safe, safe_on_machine answer.out text.program (profile_of sums) whole text.safe)

-- what is right of a reply is right of the answer that it says
pub said_right : (IsRight : Answer → Type 0) (reply : Result Reply AllocError) (a : Answer) → IfOk reply (λ r. IsRight (shown r)) → Says reply a → IsRight a
said_right IsRight (Ok reply) a right says = subst IsRight (sym says) right
said_right IsRight (Err why) a right says = absurd says

-- what is right of the finding that was told apart is right of the finding
pub found_given : (command : Command) (name slice bytes : List ℕ) (cert : Option (List ℕ)) (finding made : Finding) (a : Answer) → finding ≡ made → name ≡ source_name command → slice ≡ bytes
    → AnswersFound name slice (AnswersWhole command bytes cert) made a → PromisesOn command cert made a → AnswersOn command bytes cert finding a × PromisesOn command cert finding a
found_given command name slice bytes cert finding made a is called read right promised =
    subst (λ (f : Finding). AnswersOn command bytes cert f a × PromisesOn command cert f a) (sym is) (
      subst (λ (n : List ℕ). AnswersFound n bytes (AnswersWhole command bytes cert) made a) called
          (subst (λ (s : List ℕ). AnswersFound name s (AnswersWhole command bytes cert) made a) read right),
      promised,
    )

-- ---- of a certificate that was asked for

pub certified : (profile : Profile) (name bytes : List ℕ) (program : Program) (errors : List Error) (text : List ℕ) (answer : Answer)
    → errors ≡ [] → IsLeastCertificate program profile text → answer ≡ out_answer Done text → Judges true profile name bytes program errors answer
certified profile name bytes program errors text answer none least is = subst (λ (es : List Error). Judges true profile name bytes program es answer) (sym none) (text, least, is)

pub certified_not : (profile : Profile) (name bytes : List ℕ) (program : Program) (errors : List Error) (answer : Answer)
    → errors ≢ [] → answer ≡ verdict name bytes program errors → Judges true profile name bytes program errors answer
certified_not profile name bytes program [] answer some is = absurd (some refl)
certified_not profile name bytes program (error ∷ errors) answer some is = is

-- ---- of a certificate that was opened

pub verify_given : (command : Command) (library : Bool) (file name bytes : List ℕ) (cert : Option (List ℕ)) (program : Program) (text : List ℕ) (a : Answer)
    → command ≡ Verify library file name → cert ≡ Some text → Verifies name bytes program text a → (a.status ≡ Done → SafeProgram program (Some text))
    → AnswersWhole command bytes cert program a × PromisesWhole command cert program a
verify_given command library file name bytes cert program text a is given right safe =
    let made : Command = Verify library file name in
    let both : AnswersWhole made bytes cert program a × PromisesWhole made cert program a =
    subst (λ (o : Option (List ℕ)). AnswersWhole made bytes o program a × PromisesWhole made o program a) (sym given) (right, safe) in
    subst (λ (c : Command). AnswersWhole c bytes cert program a × PromisesWhole c cert program a) (sym is) both

pub bench_given : (command : Command) (count : ℕ) (bytes : List ℕ) (cert : Option (List ℕ)) (program : Program) (a : Answer)
    → command ≡ Bench count → AnswersWhole (Bench count) bytes cert program a → AnswersWhole command bytes cert program a × PromisesWhole command cert program a
bench_given command count bytes cert program a is right = subst (λ (c : Command). AnswersWhole c bytes cert program a × PromisesWhole c cert program a) (sym is) (right, tt)

pub guard_given : (command : Command) (made : Command) (bytes : List ℕ) (cert : Option (List ℕ)) (program : Program) (a : Answer)
    → command ≡ made → PromisesWhole made cert program a → AnswersWhole made bytes cert program a → AnswersWhole command bytes cert program a × PromisesWhole command cert program a
guard_given command made bytes cert program a is safe right = subst (λ (c : Command). AnswersWhole c bytes cert program a × PromisesWhole c cert program a) (sym is) (right, safe)
