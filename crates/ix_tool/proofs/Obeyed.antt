-- What an obeyed command leaves is what a call of the tool promises.
use Rattle.std.proofs.Common.{◌≡◌, ◌≢◌, ◌⊎◌, inl, inr, ℕ, Bool, true, List, [], ◌++◌, append-nil, Option, Some, None, ap, sym, subst, ◌∙◌, refl}
use Rattle.ix_replies.specs.declared.status.Status.{Status}
use Rattle.ix_replies.specs.declared.status.Status.TheVariants.{Done, Rejected, Usage, ReadFault, WriteFault, Limit, Memory, Stopped, StepsSpent, InputsRefused}
use Rattle.std.specs.Prelude.{Result, Ok, Err, IfOk, unwrap_or}
use Rattle.std.specs.declared.alloc.AllocError.{AllocError}
use Rattle.ix_replies.specs.declared.written_reply.Reply.{Reply}
use Rattle.ix_replies.specs.Replies.{Says, shown as shown_reply}
use Rattle.ix_replies.specs.Statuses.{is_answer}
use Rattle.ix_replies.specs.Answer.{Answer, err_answer}
use Rattle.ix_replies.specs.Delivery.{Sinks, Delivers, RoseOne}
use Rattle.ix_replies.specs.Ends.{Texts, EndsWell, TookPart, TookWanted, TookNothing}
use Rattle.ix_outside.specs.Outside.{Files, bytes_under, Rose, Took, TookPrefix}
use Rattle.ix_outside.specs.Reading.{IsAllOrPast, most_bytes}
use Rattle.ix_outside.proofs.PrefixesTaken.{TookPrefix-none}
use Rattle.ix_words.specs.declared.values.Limits.{Limits}
use Rattle.ix_words.specs.declared.values.Sums.{Sums}
use Rattle.ix_words.specs.Commands.{Command, Check, Run, Bench, Verify, Guard}
use Rattle.ix_commands.specs.Answers.{Answers, IsVerdict}
use Rattle.ix_read_inputs.specs.Sources.{AsksCert, NeedsCert, file_in, cert_in, file_of, cert_of, source_name, source_bytes, judged_bytes}
use Rattle.ix_replies.specs.Said.{read_failed}
use Rattle.ix_read_inputs.specs.Opened.{WasUnread, bytes_of, cert_bytes_of, last_of}
use Rattle.ix_tool.specs.Ends.{EndsUnread, TookUnread}
use Rattle.ix_commands.specs.Promises.{SafeBytes, SafeOnMachine, SafeAsNamed, AcceptedBy, EntersBytes, Promises}
use Rattle.ix_tool.specs.Inputs.{Obeys}
use Rattle.ix_commands.specs.Judgements.{profile_of}
use Rattle.ix_runs.specs.declared.running.RunEnd.{RunEnd}
use Rattle.ix_runs.specs.Runs.{status_of}
use Rattle.ix_runs.proofs.RunsEnter.{made_answers}
use Rattle.ix_commands.proofs.Answered.{IsCertRead, read_right, verdict_answers, other_status}

abbrev unread_answer : List ℕ → Answer
unread_answer file = err_answer ReadFault (read_failed file)

answers_some : (asked : Option Command) (command : Command) (given : List ℕ) (cert : Option (List ℕ)) (a : Answer) → Some command ≡ asked → IsVerdict command (source_bytes command given) cert a → Answers asked given cert a
answers_some asked command given cert a is v = subst (λ (o : Option Command). Answers o given cert a) is v

pub named_file : (command : Command) (file : List ℕ) → file_in command ≡ Some file → source_name command ≡ file
named_file (Check sums certificate library f) file is = cc
named_file (Run limits traced library f entry inputs) file is = cc
named_file (Bench count) file is = absurd (cc)
named_file (Verify library f name) file is = cc
named_file (Guard sums f) file is = cc

abbrev unread_named : (IsSure : List ℕ → Type 0) (before after : ℕ) (asked : Option Command) (command : Command) (cert : Option (List ℕ)) → Some command ≡ asked
    → WasUnread IsSure before after (last_of (Some command) cert) → WasUnread IsSure before after (last_of asked cert)
unread_named IsSure before after asked command cert is u = record { file = u.file; file_is = ap (λ (o : Option Command). last_of o cert) (sym is) ∙ u.file_is; unsure = u.unsure; rose = u.rose }

unread_err : (file : List ℕ) (a : Answer) → a ≡ unread_answer file → a.err ≡ read_failed file
unread_err file a is = ap (λ (b : Answer). b.err) is

unread_out : (file : List ℕ) (a : Answer) → a ≡ unread_answer file → a.out ≡ []
unread_out file a is = ap (λ (b : Answer). b.out) is

took_none : (text before after : List ℕ) → text ≡ [] → Took text before after → after ≡ before
took_none text before after none took = took ∙ ap (λ t. before ++ t) none ∙ append-nil before

-- ---- a file that was not read

-- the source was not read, and no certificate was opened
pub file_unread : (IsSure : List ℕ → Type 0) (before after : ℕ) (command : Command) (given : List ℕ) (cert : Option (List ℕ)) (a : Answer)
    → WasUnread IsSure before after (file_in command) → cert ≡ None → a ≡ err_answer ReadFault (read_failed (source_name command)) → Obeys IsSure before after command given cert a
file_unread IsSure before after command given None a u none is = inr (u, is ∙ ap unread_answer (named_file command u.file u.file_is))
file_unread IsSure before after command given (Some text) a u none is = absurd (cc)

-- the certificate was opened and not read
pub cert_unread : (IsSure : List ℕ → Type 0) (before after : ℕ) (command : Command) (given : List ℕ) (cert : Option (List ℕ)) (a : Answer) (text : List ℕ)
    → WasUnread IsSure before after (cert_in command) → cert ≡ Some text → a ≡ err_answer ReadFault (read_failed (unwrap_or (cert_in command) [])) → Obeys IsSure before after command given cert a
cert_unread IsSure before after command given None a text u some is = absurd (cc)
cert_unread IsSure before after command given (Some other) a text u some is = inr (u, is ∙ ap (λ (o : Option (List ℕ)). unread_answer (unwrap_or o [])) u.file_is)

-- ---- a status that speaks of no fault

pub obeyed_answer : (IsSure : List ℕ → Type 0) (before after : ℕ) (asked : Option Command) (command : Command) (given : List ℕ) (cert : Option (List ℕ)) (result : Status) (old new : Sinks)
    → Some command ≡ asked → Delivers (Obeys IsSure before after command given cert) result old new → is_answer result ≡ true → EndsWell (Answers asked given cert) result old.taken new.taken
obeyed_answer IsSure before after asked command given cert result old new is d so =
    let w = d.whole (other_status result WriteFault so refl) (other_status result Memory so refl) in
    let e = w.0 in
    elim e.right [
      | inl only ↦ record { answer = e.answer; right = answers_some asked command given cert e.answer is only.0.0; status = e.status; out = e.out; err = e.err }
      | inr u ↦ absurd (other_status result ReadFault so refl (e.status ∙ ap (λ (b : Answer). b.status) u.1))
    ]

asked_is : (asked : Option Command) (command other : Command) → Some command ≡ asked → asked ≡ Some other → command ≡ other
asked_is asked command other is checks = let e : Some command ≡ Some other = is ∙ checks in cc

-- The answer that was given, with what is promised of it.
record Given (other : Command) (given : List ℕ) (cert : Option (List ℕ)) (result : Status) (old new : Sinks) : Type 0 where
  answer : Answer
  promises : Promises other (source_bytes other given) cert answer
  status : result ≡ answer.status
  out : Took answer.out old.taken.out new.taken.out

obeyed_promise : (IsSure : List ℕ → Type 0) (before after : ℕ) (asked : Option Command) (command other : Command) (given : List ℕ) (cert : Option (List ℕ)) (result : Status) (old new : Sinks)
    → Some command ≡ asked → Delivers (Obeys IsSure before after command given cert) result old new → asked ≡ Some other → is_answer result ≡ true → Given other given cert result old new
obeyed_promise IsSure before after asked command other given cert result old new is d asks so =
    let w = d.whole (other_status result WriteFault so refl) (other_status result Memory so refl) in
    let e = w.0 in
    elim e.right [
      | inl only ↦ record { answer = e.answer; promises = subst (λ (c : Command). Promises c (source_bytes c given) cert e.answer) (asked_is asked command other is asks) only.1; status = e.status; out = e.out }
      | inr u ↦ absurd (other_status result ReadFault so refl (e.status ∙ ap (λ (b : Answer). b.status) u.1))
    ]

pub obeyed_safe : (IsSure : List ℕ → Type 0) (before after : ℕ) (asked : Option Command) (command : Command) (given : List ℕ) (cert : Option (List ℕ)) (result : Status) (old new : Sinks)
    (sums : Sums) (certificate library : Bool) (file : List ℕ)
    → Some command ≡ asked → Delivers (Obeys IsSure before after command given cert) result old new → asked ≡ Some (Check sums certificate library file) → result ≡ Done
    → SafeBytes (profile_of sums) (judged_bytes library given) × SafeOnMachine (profile_of sums) (judged_bytes library given)
obeyed_safe IsSure before after asked command given cert result old new sums certificate library file is d checks done =
    let p = obeyed_promise IsSure before after asked command (Check sums certificate library file) given cert result old new is d checks (ap is_answer done) in p.promises (sym p.status ∙ done)

pub obeyed_verified : (IsSure : List ℕ → Type 0) (before after : ℕ) (asked : Option Command) (command : Command) (given : List ℕ) (cert : Option (List ℕ)) (result : Status) (old new : Sinks)
    (library : Bool) (file name : List ℕ)
    → Some command ≡ asked → Delivers (Obeys IsSure before after command given cert) result old new → asked ≡ Some (Verify library file name) → result ≡ Done
    → SafeAsNamed (judged_bytes library given) cert × AcceptedBy (judged_bytes library given) cert
obeyed_verified IsSure before after asked command given cert result old new library file name is d verifies done =
    let p = obeyed_promise IsSure before after asked command (Verify library file name) given cert result old new is d verifies (ap is_answer done) in p.promises (sym p.status ∙ done)

pub obeyed_entered : (IsSure : List ℕ → Type 0) (before after : ℕ) (asked : Option Command) (command : Command) (given : List ℕ) (cert : Option (List ℕ)) (result : Status) (old new : Sinks)
    (limits : Limits) (traced library : Bool) (file entry : List ℕ) (inputs : List (List ℕ)) (end : RunEnd)
    → Some command ≡ asked → Delivers (Obeys IsSure before after command given cert) result old new → asked ≡ Some (Run limits traced library file entry inputs) → result ≡ status_of end
    → EntersBytes (judged_bytes library given) entry inputs
obeyed_entered IsSure before after asked command given cert result old new limits traced library file entry inputs end is d runs ends =
    let p = obeyed_promise IsSure before after asked command (Run limits traced library file entry inputs) given cert result old new is d runs (ap is_answer ends ∙ made_answers end) in
    p.promises end (sym p.status ∙ ends)

pub obeyed_guarded : (IsSure : List ℕ → Type 0) (before after : ℕ) (asked : Option Command) (command : Command) (given : List ℕ) (cert : Option (List ℕ)) (result : Status) (old new : Sinks)
    (sums : Sums) (file : List ℕ)
    → Some command ≡ asked → Delivers (Obeys IsSure before after command given cert) result old new → asked ≡ Some (Guard sums file) → result ≡ Done
    → (text : List ℕ) × Took text old.taken.out new.taken.out × SafeBytes (profile_of sums) text × SafeOnMachine (profile_of sums) text
obeyed_guarded IsSure before after asked command given cert result old new sums file is d guards done =
    let p = obeyed_promise IsSure before after asked command (Guard sums file) given cert result old new is d guards (ap is_answer done) in
    let safe = p.promises (sym p.status ∙ done) in
    (p.answer.out, p.out, safe.0, safe.1)

-- ---- faults

pub obeyed_read_fault : (IsSure : List ℕ → Type 0) (before after : ℕ) (asked : Option Command) (command : Command) (given : List ℕ) (cert : Option (List ℕ)) (result : Status) (old new : Sinks)
    → Some command ≡ asked → Delivers (Obeys IsSure before after command given cert) result old new → result ≡ ReadFault → EndsUnread IsSure before after (last_of asked cert) old.taken new.taken
obeyed_read_fault IsSure before after asked command given cert result old new is d fault =
    let w = d.whole (λ other. cc (fault, other)) (λ other. cc (fault, other)) in
    let e = w.0 in
    elim e.right [
      | inl only ↦ absurd (cc (sym (ap is_answer (sym e.status ∙ fault)) ∙ verdict_answers command (source_bytes command given) cert e.answer only.0.0))
      | inr u ↦ record {
        unread = unread_named IsSure before after asked command cert is u.0;
        out = took_none e.answer.out old.taken.out new.taken.out (unread_out u.0.file e.answer u.1) e.out;
        err = subst (λ (t : List ℕ). Took t old.taken.err new.taken.err) (unread_err u.0.file e.answer u.1) e.err;
      }
    ]

took_unread : (IsSure : List ℕ → Type 0) (before after : ℕ) (asked : Option Command) (command : Command) (cert : Option (List ℕ)) (a : Answer) (old new : Texts) → Some command ≡ asked
    → (u : WasUnread IsSure before after (last_of (Some command) cert)) → a ≡ unread_answer u.file → TookPrefix a.out old.out new.out → TookPrefix a.err old.err new.err
    → TookUnread IsSure before after (last_of asked cert) old new
took_unread IsSure before after asked command cert a old new is u same out err = record {
  unread = unread_named IsSure before after asked command cert is u;
  out = TookPrefix-none a.out old.out new.out (unread_out u.file a same) out;
  err = subst (λ (t : List ℕ). TookPrefix t old.err new.err) (unread_err u.file a same) err;
}

took_part : (IsSure : List ℕ → Type 0) (before after : ℕ) (asked : Option Command) (command : Command) (given : List ℕ) (cert : Option (List ℕ)) (old new : Texts) → Some command ≡ asked
    → TookPart (Obeys IsSure before after command given cert) old new → TookPart (Answers asked given cert) old new ⊎ TookUnread IsSure before after (last_of asked cert) old new
took_part IsSure before after asked command given cert old new is part =
    elim part.right [
      | inl only ↦ inl record { answer = part.answer; right = answers_some asked command given cert part.answer is only.0.0; out = part.out; err = part.err }
      | inr u ↦ inr (took_unread IsSure before after asked command cert part.answer old new is u.0 u.1 part.out part.err)
    ]

pub obeyed_write_fault : (IsSure : List ℕ → Type 0) (before after : ℕ) (asked : Option Command) (command : Command) (given : List ℕ) (cert : Option (List ℕ)) (result : Status) (old new : Sinks)
    → Some command ≡ asked → Delivers (Obeys IsSure before after command given cert) result old new → result ≡ WriteFault
    → RoseOne old new × (TookPart (Answers asked given cert) old.taken new.taken ⊎ TookUnread IsSure before after (last_of asked cert) old.taken new.taken)
obeyed_write_fault IsSure before after asked command given cert result old new is d fault =
    let f = d.fault fault in (f.0, took_part IsSure before after asked command given cert old.taken new.taken is f.1)

-- ---- want of memory

pub obeyed_memory : (IsSure : List ℕ → Type 0) (before after : ℕ) (asked : Option Command) (command : Command) (given : List ℕ) (cert : Option (List ℕ)) (result : Status) (old new : Sinks)
    → Some command ≡ asked → Delivers (Obeys IsSure before after command given cert) result old new → result ≡ Memory
    → TookPart (Answers asked given cert) old.taken new.taken ⊎ (TookUnread IsSure before after (last_of asked cert) old.taken new.taken
    ⊎ (TookWanted (Answers asked given cert) old.taken new.taken ⊎ TookNothing old.taken new.taken))
obeyed_memory IsSure before after asked command given cert result old new is d wanted =
    elim (d.memory wanted) [
      | inl part ↦ elim (took_part IsSure before after asked command given cert old.taken new.taken is part) [ inl p ↦ inl p | inr u ↦ inr (inl u) ]
      | inr rest ↦ elim rest [
        | inl w ↦ elim w.right [
          | inl only ↦ inr (inr (inl record { answer = w.answer; right = answers_some asked command given cert w.answer is only.0.0; out = w.out; err = w.err }))
          | inr u ↦ inr (inr (inr record { out = TookPrefix-none w.answer.out old.taken.out new.taken.out (unread_out u.0.file w.answer u.1) w.out; err = w.err }))
        ]
        | inr none ↦ inr (inr (inr none))
      ]
    ]

-- ---- a reply with nothing for `out`

says_nothing : (reply : Result Reply AllocError) (text : Answer) → text.out ≡ [] → IfOk reply (λ r. shown_reply r ≡ text) → (a : Answer) → Says reply a → a.out ≡ []
says_nothing (Ok reply) text none is a says = ap (λ (b : Answer). b.out) (says ∙ is) ∙ none
says_nothing (Err why) text none is a says = absurd says

whole_untouched : (IsRight : Answer → Type 0) (result : Status) (old new : Sinks) → ((a : Answer) → IsRight a → a.out ≡ []) → result ≢ WriteFault → result ≢ Memory → Delivers IsRight result old new → new.taken.out ≡ old.taken.out
whole_untouched IsRight result old new none written enough d =
    let e = (d.whole written enough).0 in took_none e.answer.out old.taken.out new.taken.out (none e.answer e.right) e.out

part_untouched : (IsRight : Answer → Type 0) (old new : Texts) → ((a : Answer) → IsRight a → a.out ≡ []) → TookPart IsRight old new → new.out ≡ old.out
part_untouched IsRight old new none part = TookPrefix-none part.answer.out old.out new.out (none part.answer part.right) part.out

wanted_untouched : (IsRight : Answer → Type 0) (old new : Texts) → ((a : Answer) → IsRight a → a.out ≡ [])
    → TookPart IsRight old new ⊎ (TookWanted IsRight old new ⊎ TookNothing old new) → new.out ≡ old.out
wanted_untouched IsRight old new none (inl part) = part_untouched IsRight old new none part
wanted_untouched IsRight old new none (inr (inl w)) = TookPrefix-none w.answer.out old.out new.out (none w.answer w.right) w.out
wanted_untouched IsRight old new none (inr (inr nothing)) = nothing.out

out_untouched : (IsRight : Answer → Type 0) (result : Status) (old new : Sinks) → ((a : Answer) → IsRight a → a.out ≡ []) → Delivers IsRight result old new → new.taken.out ≡ old.taken.out
out_untouched IsRight WriteFault old new none d = part_untouched IsRight old.taken new.taken none (d.fault refl).1
out_untouched IsRight Memory old new none d = wanted_untouched IsRight old.taken new.taken none (d.memory refl)
out_untouched IsRight Done old new none d = whole_untouched IsRight Done old new none (λ e. cc e) (λ e. cc e) d
out_untouched IsRight Rejected old new none d = whole_untouched IsRight Rejected old new none (λ e. cc e) (λ e. cc e) d
out_untouched IsRight Usage old new none d = whole_untouched IsRight Usage old new none (λ e. cc e) (λ e. cc e) d
out_untouched IsRight ReadFault old new none d = whole_untouched IsRight ReadFault old new none (λ e. cc e) (λ e. cc e) d
out_untouched IsRight Limit old new none d = whole_untouched IsRight Limit old new none (λ e. cc e) (λ e. cc e) d
out_untouched IsRight Stopped old new none d = whole_untouched IsRight Stopped old new none (λ e. cc e) (λ e. cc e) d
out_untouched IsRight StepsSpent old new none d = whole_untouched IsRight StepsSpent old new none (λ e. cc e) (λ e. cc e) d
out_untouched IsRight InputsRefused old new none d = whole_untouched IsRight InputsRefused old new none (λ e. cc e) (λ e. cc e) d

pub said_on_err : (reply : Result Reply AllocError) (status : Status) (text : List ℕ) (result : Status) (old new : Sinks)
    → IfOk reply (λ r. shown_reply r ≡ err_answer status text) → Delivers (Says reply) result old new → new.taken.out ≡ old.taken.out
said_on_err reply status text result old new is d = out_untouched (Says reply) result old new (says_nothing reply (err_answer status text) refl is) d

-- ---- without faults, the answer

pub record Exactly (result : Status) (answer : Answer) (old new : Texts) : Type 0 where
  pub status : result ≡ answer.status
  pub out : Took answer.out old.out new.out
  pub err : Took answer.err old.err new.err

pub obeyed_exact : (IsSure : List ℕ → Type 0) (before after : ℕ) (asked : Option Command) (command : Command) (given : List ℕ) (cert : Option (List ℕ)) (result : Status) (old new : Sinks) (held : Files)
    → Some command ≡ asked → Delivers (Obeys IsSure before after command given cert) result old new
    → (is_answer result ≡ true → (file : List ℕ) → file_in command ≡ Some file → IsAllOrPast most_bytes (bytes_under file held) given)
    → (is_answer result ≡ true → IsCertRead command held cert)
    → (Rose before after → ⊥) → (Rose old.out_faults new.out_faults → ⊥) → (Rose old.err_faults new.err_faults → ⊥) → result ≢ Memory
    → (answer : Answer) → Answers asked (bytes_of (file_of asked) held) (cert_bytes_of (cert_of asked) held) answer → Exactly result answer old.taken new.taken
obeyed_exact IsSure before after asked command given cert result old new held is d whole whole_cert calm calm_out calm_err enough answer right =
    let w = d.whole (λ fault. elim (d.fault fault).0 [ inl rose ↦ calm_out rose | inr rose ↦ calm_err rose ]) enough in
    let e = w.0 in
    elim e.right [
      | inl only ↦
          let so : is_answer result ≡ true = ap is_answer e.status ∙ verdict_answers command (source_bytes command given) cert e.answer only.0.0 in
          let also : IsVerdict command (source_bytes command (bytes_of (file_in command) held)) (cert_bytes_of (cert_in command) held) answer =
          subst (λ (o : Option Command). Answers o (bytes_of (file_of o) held) (cert_bytes_of (cert_of o) held) answer) (sym is) right in
          let same = only.0.1 answer (read_right command held given cert e.answer answer (whole so) (whole_cert so) only.0.0 also) in
          record {
            status = e.status ∙ ap (λ (b : Answer). b.status) (sym same);
            out = subst (λ (b : Answer). Took b.out old.taken.out new.taken.out) (sym same) e.out;
            err = subst (λ (b : Answer). Took b.err old.taken.err new.taken.err) (sym same) e.err;
          }
      | inr u ↦ absurd (calm u.0.rose)
    ]

-- ---- the certificate

pub asks_cert : (asked : Option Command) (command : Command) (given : List ℕ) → Some command ≡ asked → NeedsCert command given → AsksCert asked given
asks_cert asked command given is needs = subst (λ (o : Option Command). AsksCert o given) is needs
