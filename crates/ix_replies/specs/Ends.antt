-- What the sinks took of an answer.
use Rattle.std.specs.Prelude.{◌≡◌, ℕ, List}
use Rattle.ix_outside.specs.Outside.{Took, TookPrefix}
use Rattle.ix_replies.specs.Answer.{Answer, out_of_memory}
use Rattle.ix_replies.specs.declared.status.Status.{Status}

-- what the two sinks took
pub record Texts : Type 0 where
  pub out : List ℕ
  pub err : List ℕ

abbrev pub texts : List ℕ → List ℕ → Texts
texts out err = record { out = out; err = err }

-- Status and texts are a right answer.
pub record EndsWell (IsRight : Answer → Type 0) (result : Status) (old new : Texts) : Type 0 where
  pub answer : Answer
  pub right : IsRight answer
  pub status : result ≡ answer.status
  pub out : Took answer.out old.out new.out
  pub err : Took answer.err old.err new.err

-- Each sink took a prefix of its text of a right answer.
pub record TookPart (IsRight : Answer → Type 0) (old new : Texts) : Type 0 where
  pub answer : Answer
  pub right : IsRight answer
  pub out : TookPrefix answer.out old.out new.out
  pub err : TookPrefix answer.err old.err new.err

-- Memory was wanting: `out` took a prefix of its text of a right answer, and `err` one of the line that says so.
pub record TookWanted (IsRight : Answer → Type 0) (old new : Texts) : Type 0 where
  pub answer : Answer
  pub right : IsRight answer
  pub out : TookPrefix answer.out old.out new.out
  pub err : TookPrefix out_of_memory old.err new.err

-- Memory was wanting before an answer was found: `out` took nothing, which is a prefix of any text, and `err` a prefix of the line that says so.
pub record TookNothing (old new : Texts) : Type 0 where
  pub out : new.out ≡ old.out
  pub err : TookPrefix out_of_memory old.err new.err
