-- An answer: a status, and the texts on both sinks.
use Rattle.std.specs.Prelude.{ℕ, List, [], codes}
use Rattle.ix_replies.specs.declared.status.Status.{Status}

pub record Answer : Type 0 where
  pub status : Status
  pub out : List ℕ
  pub err : List ℕ

-- an answer that writes to one sink alone
abbrev pub out_answer : Status → List ℕ → Answer
out_answer status text = record { status = status; out = text; err = [] }

abbrev pub err_answer : Status → List ℕ → Answer
err_answer status text = record { status = status; out = []; err = text }

-- what is said where memory was wanting
abbrev pub out_of_memory : List ℕ
out_of_memory = codes "out of memory\n"
