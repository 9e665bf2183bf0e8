use Rattle.std.proofs.Common.{◌≡◌, drop}
use Rattle.ix_tables.specs.Rows.{flag_in}
use Rattle.ix_tables.proofs.cases.flag_in.Given as goal

abbrev pub invariant-loop-row : goal.invariant-loop-row
invariant-loop-row l = flag_in (drop l.row-index l.rows) l.op l.x l.y ≡ flag_in l.rows l.op l.x l.y
