use Rattle.std.proofs.Common.{◌≡◌, map, Vec, ℕ}
use Rattle.std.specs.declared.alloc.Global.{Global}
use Rattle.ix_core.specs.Formed.{numbers_from}
use Rattle.ix_core.specs.Tables.{all_fields}
use Rattle.ix_machine.proofs.rows.Rows.new.Given as goal

abbrev pub invariant-loop-class : goal.invariant-loop-class
invariant-loop-class l = map (λ (row : Vec ℕ Global). row.items) l.fields.items ≡ map (all_fields l.program) (numbers_from 0 l.class)
