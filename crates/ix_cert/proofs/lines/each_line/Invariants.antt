use Rattle.std.proofs.Common.{◌≡◌, ◌++◌, drop, map}
use Rattle.std.specs.Prelude.{string_bytes}
use Rattle.ix_cert.specs.Lines.{fact_text}
use Rattle.ix_cert.proofs.lines.each_line.Given as goal

abbrev pub invariant-loop-fact : goal.invariant-loop-fact
invariant-loop-fact l = map string_bytes l.lines.items ++ map fact_text (drop l.fact-index l.facts) ≡ map fact_text l.facts
