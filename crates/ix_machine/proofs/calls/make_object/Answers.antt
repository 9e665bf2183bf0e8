use Rattle.std.proofs.Common.{◌≡◌, ◌+◌, ap, length, map}
use Rattle.std.specs.Prelude.{nat_lt, false}
use Rattle.std.proofs.lemmas.List.{length-map}
use Rattle.ix_core.specs.Heap.{cells_used, default_of}
use Rattle.ix_core.specs.Tables.{all_fields, field_at}
use Rattle.ix_machine_state.specs.View.{heap_of}
use Rattle.ix_machine.proofs.FieldRows.{room_left}
use Rattle.ix_machine.proofs.calls.make_object.Goals as goal

pub make_object-requires : goal.make_object-requires
make_object-requires c =
    let free : nat_lt c.args.heap.now.most (cells_used (heap_of c.args.heap.now) + (length (map (λ field. default_of (field_at c.args.rows.now.program.now field).ty) (all_fields c.args.rows.now.program.now c.in-New.class)) + 1)) ≡ false =
    rw c.in-New.is at c.requires 0 in
    room_left c.args.heap.now.most (cells_used (heap_of c.args.heap.now)) (length c.fields.result.now) _ (ap length c.fields.ensures) (length-map (all_fields c.args.rows.now.program.now c.in-New.class) (λ field. default_of (field_at c.args.rows.now.program.now field).ty)) free
