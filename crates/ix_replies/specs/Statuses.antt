-- The statuses and their numbers.
use Rattle.std.specs.Prelude.{ℕ, Bool, true, false}
use Rattle.ix_replies.specs.declared.status.Status.{Status}
use Rattle.ix_replies.specs.declared.status.Status.TheVariants.{Done, Rejected, Usage, ReadFault, WriteFault, Limit, Memory, Stopped, StepsSpent, InputsRefused}

-- the number that the program ends with
abbrev pub number_of : Status → ℕ
number_of Done = 0
number_of Rejected = 1
number_of Usage = 2
number_of ReadFault = 3
number_of WriteFault = 4
number_of Limit = 5
number_of Memory = 6
number_of Stopped = 7
number_of StepsSpent = 8
number_of InputsRefused = 9

-- a status that neither a fault nor want of memory gives
abbrev pub is_answer : Status → Bool
is_answer ReadFault = false
is_answer WriteFault = false
is_answer Memory = false
is_answer _ = true

-- a status that doesn't speak of the writing of its own answer
abbrev pub is_reply : Status → Bool
is_reply WriteFault = false
is_reply Memory = false
is_reply _ = true
