use Rattle.std.proofs.Common.{◌≡◌, ◌≤◌, ◌⊎◌, ℕ, List, [], Vec, Some, length, map, subst, arith}
use Rattle.std.specs.Prelude.{slice_get}
use Rattle.std.specs.declared.alloc.Global.{Global}
use Rattle.ix_machine.proofs.FieldRows.{row_is}
use Rattle.ix_machine.proofs.rows.Rows.fields.Goals as goal

pub returns : goal.returns
returns c = row_is c.args.self.now.program.now c.args.self.now.fields.items c.args.class c.row_at.result.now (omega arith) c.args.self.now.right (subst (λ (rows : List (Vec ℕ Global)). (Some c.row_at.result.now ≡ slice_get (map (λ (row : Vec ℕ Global). row.items) rows) c.args.class) ⊎ ((length rows ≤ c.args.class) × (c.row_at.result.now ≡ []))) c.as_slice.ensures.value c.row_at.ensures)
