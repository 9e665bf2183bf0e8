use Rattle.std.proofs.Common.{◌≡◌, drop, ◌++◌}
use Rattle.ix_meaning.specs.Listed as spec
use Rattle.ix_symbols.proofs.errors.wrongs.Given as goal

abbrev pub invariant-loop-note : goal.invariant-loop-note
invariant-loop-note l = l.errors.items ++ spec.wrongs (drop l.note-index l.notes) ≡ spec.wrongs l.notes
