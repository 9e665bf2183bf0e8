use Rattle.std.proofs.Common.{◌≡◌, length, map}
use Rattle.ix_annot.specs.Table as spec
use Rattle.ix_annot.proofs.table.row_in.Given as goal

abbrev pub invariant-loop-rows : goal.invariant-loop-rows
invariant-loop-rows l = spec.row_in (map (λ row. (row.0.now, row.1, row.2)) l.rows) l.name ≡ spec.row_in (map (λ row. (row.0.now, row.1, row.2)) l.initial.rows) l.name

abbrev pub decreases-loop-rows : goal.decreases-loop-rows
decreases-loop-rows l = length l.rows
