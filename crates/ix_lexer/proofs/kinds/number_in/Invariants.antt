use Rattle.std.proofs.Common.{◌≡◌, length, map}
use Rattle.ix_lexer.specs.Scan as scan
use Rattle.ix_lexer.proofs.kinds.number_in.Given as goal

abbrev pub invariant-loop-table : goal.invariant-loop-table
invariant-loop-table l = scan.entry_number (map (λ entry. (entry.0, entry.1.now)) l.table) l.text ≡ scan.entry_number (map (λ entry. (entry.0, entry.1.now)) l.initial.table) l.text

abbrev pub decreases-loop-table : goal.decreases-loop-table
decreases-loop-table l = length l.table
