use Rattle.std.proofs.Common.{◌↔◌, ℤ, take}
use Rattle.ix_facts.specs.Round.{IsAmong, IsLandmark}
use Rattle.ix_landmarks.proofs.marks.marks_of.Given as goal

abbrev pub invariant-loop-number : goal.invariant-loop-number
invariant-loop-number l = (n : ℤ) → IsAmong n l.marks.items ↔ IsLandmark (take l.number-index l.numbers) n
