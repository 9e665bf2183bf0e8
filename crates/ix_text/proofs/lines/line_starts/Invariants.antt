use Rattle.std.proofs.Common.{◌≡◌, filter}
use Rattle.std.specs.List.{range_with_len}
use Rattle.ix_text.specs.Lines as spec
use Rattle.ix_text.proofs.lines.line_starts.Given as goal

abbrev pub invariant-loop-at : goal.invariant-loop-at
invariant-loop-at l = l.starts.items ≡ filter (spec.starts_line l.text) (range_with_len 0 l.at)
