use Rattle.std.proofs.Common.{◌≡◌, ◌≤◌, drop}
use Rattle.ix_words.specs.Values.{digits_from}
use Rattle.ix_words.proofs.values.digits.Given as goal

abbrev pub invariant-loop-byte : goal.invariant-loop-byte
invariant-loop-byte l = (l.value ≤ l.most) × (digits_from l.most l.value (drop l.byte-index l.bytes) ≡ digits_from l.most 0 l.bytes)
