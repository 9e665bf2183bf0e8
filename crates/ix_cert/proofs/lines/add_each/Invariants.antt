use Rattle.std.proofs.Common.{◌≡◌, ◌++◌, drop, map}
use Rattle.std.specs.Prelude.{string_bytes}
use Rattle.ix_cert.specs.Lines.{lines_text}
use Rattle.ix_cert.proofs.lines.add_each.Given as goal

abbrev pub invariant-loop-line : goal.invariant-loop-line
invariant-loop-line l = string_bytes l.text ++ lines_text (map string_bytes (drop l.line-index l.lines)) ≡ string_bytes l.fn.text ++ lines_text (map string_bytes l.lines)
