use Rattle.std.proofs.Common.{◌≡◌, drop}
use Rattle.ix_tables.specs.Rows.{answer_in}
use Rattle.ix_tables.proofs.cases.answer_in.Given as goal

abbrev pub invariant-loop-row : goal.invariant-loop-row
invariant-loop-row l = answer_in (drop l.row-index l.rows) l.op l.x l.y ≡ answer_in l.rows l.op l.x l.y
