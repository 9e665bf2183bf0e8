use Rattle.std.proofs.Common.{take}
use Rattle.ix_verify.specs.Walking.{IsLeastIn}
use Rattle.ix_verify.proofs.method.least_of.Given as goal

abbrev pub invariant-loop-number : goal.invariant-loop-number
invariant-loop-number l = IsLeastIn (take l.number-index l.numbers) l.least
