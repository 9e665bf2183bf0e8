use Rattle.std.proofs.Common.{take}
use Rattle.ix_landmarks.proofs.Ascending.{IsOnce}
use Rattle.ix_landmarks.proofs.marks.each_once.Given as goal

abbrev pub invariant-loop-number : goal.invariant-loop-number
invariant-loop-number l = IsOnce l.ints l.last (take l.number-index l.sorted)
