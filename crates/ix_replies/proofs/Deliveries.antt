-- What is delivered is right also in a weaker sense, and what want of memory leaves.
use Rattle.std.proofs.Common.{◌≡◌, ◌≤◌, inl, inr, Result, Ok, Err, sym, subst, ◌∙◌, IfOk}
use Rattle.std.specs.declared.alloc.AllocError.{AllocError}
use Rattle.ix_outside.specs.Outside.{Took, TookPrefix}
use Rattle.ix_replies.specs.declared.written_reply.Reply.{Reply}
use Rattle.ix_replies.specs.declared.status.Status.{Status}
use Rattle.ix_replies.specs.declared.status.Status.TheVariants.{Memory}
use Rattle.ix_replies.specs.Answer.{Answer, out_of_memory}
use Rattle.ix_replies.specs.Delivery.{Sinks, Delivers}
use Rattle.ix_replies.specs.Ends.{Texts, EndsWell, TookPart, TookWanted}
use Rattle.ix_replies.specs.Replies.{Says, shown}

ends_weaker : (P Q : Answer → Type 0) (result : Status) (old new : Texts) → ((a : Answer) → P a → Q a) → EndsWell P result old new → EndsWell Q result old new
ends_weaker P Q result old new f e = record { answer = e.answer; right = f e.answer e.right; status = e.status; out = e.out; err = e.err }

part_weaker : (P Q : Answer → Type 0) (old new : Texts) → ((a : Answer) → P a → Q a) → TookPart P old new → TookPart Q old new
part_weaker P Q old new f e = record { answer = e.answer; right = f e.answer e.right; out = e.out; err = e.err }

wanted_weaker : (P Q : Answer → Type 0) (old new : Texts) → ((a : Answer) → P a → Q a) → TookWanted P old new → TookWanted Q old new
wanted_weaker P Q old new f e = record { answer = e.answer; right = f e.answer e.right; out = e.out; err = e.err }

pub delivers_weaker : (P Q : Answer → Type 0) (result : Status) (old new : Sinks) → ((a : Answer) → P a → Q a) → Delivers P result old new → Delivers Q result old new
delivers_weaker P Q result old new f d = record {
  whole = λ not_fault not_memory. let w = d.whole not_fault not_memory in (ends_weaker P Q result old.taken new.taken f w.0, w.1);
  fault = λ is. let w = d.fault is in (w.0, part_weaker P Q old.taken new.taken f w.1);
  memory = λ is. elim (d.memory is) [
    | inl part ↦ inl (part_weaker P Q old.taken new.taken f part)
    | inr rest ↦ elim rest [ inl wanted ↦ inr (inl (wanted_weaker P Q old.taken new.taken f wanted)) | inr none ↦ inr (inr none) ]
  ];
  line = d.line;
  falls_out = d.falls_out;
  falls_err = d.falls_err;
}

-- Memory was wanting before `out` took anything.
pub delivers_nothing : (P : Answer → Type 0) (result : Status) (old new : Sinks) → result ≡ Memory → new.taken.out ≡ old.taken.out → TookPrefix out_of_memory old.taken.err new.taken.err
    → (new.err_refused ≡ old.err_refused → Took out_of_memory old.taken.err new.taken.err) → old.out_faults ≤ new.out_faults → old.err_faults ≤ new.err_faults
    → Delivers P result old new
delivers_nothing P result old new is out err line falls_out falls_err = record {
  whole = λ not_fault not_memory. absurd (not_memory is);
  fault = λ fault. cc (fault, is);
  memory = λ _. inr (inr (record { out = out; err = err }));
  line = λ _. line;
  falls_out = falls_out;
  falls_err = falls_err;
}

-- what a reply says is right where each reply that there is memory for is
pub says_right : (Right : Answer → Type 0) (reply : Result Reply AllocError) (right : Answer) → IfOk reply (λ said. shown said ≡ right) → Right right → (a : Answer) → Says reply a → Right a
says_right Right (Ok said) right is good a says = subst Right (sym (says ∙ is)) good
says_right Right (Err error) right is good a says = absurd says

pub says_is : (reply : Result Reply AllocError) (right : Answer) → IfOk reply (λ said. shown said ≡ right) → (a : Answer) → Says reply a → a ≡ right
says_is (Ok said) right is a says = says ∙ is
says_is (Err error) right is a says = absurd says
