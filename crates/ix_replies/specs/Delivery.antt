-- How an answer reaches the two sinks.
use Rattle.std.specs.Prelude.{◌≡◌, ◌≢◌, ◌≤◌, ◌⊎◌, ℕ, List}
use Rattle.ix_outside.specs.Outside.{Rose, Took}
use Rattle.ix_replies.specs.Answer.{Answer, out_of_memory}
use Rattle.ix_replies.specs.Ends.{Texts, texts, EndsWell, TookPart, TookWanted, TookNothing}
use Rattle.ix_replies.specs.declared.status.Status.{Status}
use Rattle.ix_replies.specs.declared.status.Status.TheVariants.{WriteFault, Memory}

-- what is told of the two sinks: the bytes taken, the counts of faults, and how many writes `err` refused
pub record Sinks : Type 0 where
  pub taken : Texts
  pub out_faults : ℕ
  pub err_faults : ℕ
  pub err_refused : ℕ

abbrev pub sinks : List ℕ → ℕ → List ℕ → ℕ → ℕ → Sinks
sinks out out_faults err err_faults err_refused = record { taken = texts out err; out_faults = out_faults; err_faults = err_faults; err_refused = err_refused }

-- no count of faults rose
pub record AreCalm (old new : Sinks) : Type 0 where
  pub out : new.out_faults ≡ old.out_faults
  pub err : new.err_faults ≡ old.err_faults

-- one of them rose
abbrev pub RoseOne : Sinks → Sinks → Type 0
RoseOne old new = Rose old.out_faults new.out_faults ⊎ Rose old.err_faults new.err_faults

-- A right answer was written, or as much of one as could be.
pub record Delivers (IsRight : Answer → Type 0) (result : Status) (old new : Sinks) : Type 0 where
  -- status and texts are a right answer
  pub whole : result ≢ WriteFault → result ≢ Memory → EndsWell IsRight result old.taken new.taken × AreCalm old new
  -- a write fault comes by its cause, and each sink took a prefix of its text
  pub fault : result ≡ WriteFault → RoseOne old new × TookPart IsRight old.taken new.taken
  -- memory was wanting, and each sink took a prefix of one of its texts
  pub memory : result ≡ Memory → TookPart IsRight old.taken new.taken ⊎ (TookWanted IsRight old.taken new.taken ⊎ TookNothing old.taken new.taken)
  -- the line that says so is whole where `err` refused no write
  pub line : result ≡ Memory → new.err_refused ≡ old.err_refused → Took out_of_memory old.taken.err new.taken.err
  pub falls_out : old.out_faults ≤ new.out_faults
  pub falls_err : old.err_faults ≤ new.err_faults

-- right, and nothing else is
abbrev pub IsOnly : (Answer → Type 0) → Answer → Type 0
IsOnly IsRight answer = IsRight answer × ((other : Answer) → IsRight other → other ≡ answer)
