use Rattle.std.proofs.Common.{◌≡◌, sym, ◌∙◌, ap, Some, None, slice_get}
use Rattle.ix_machine_state.proofs.Objects.{laid, row_inside, row_kind, cells_length, cell_value, cell_written, none_is}
use Rattle.ix_machine_state.proofs.heap.Heap.row.Goals as goal

pub returns-in-Some-clause-kind : goal.returns-in-Some-clause-kind
returns-in-Some-clause-kind c =
    let found : slice_get c.args.self.now.rows.items c.args.number ≡ Some c.in-Some.row = ap (λ rows. slice_get rows c.args.number) (sym c.as_slice.ensures.value) ∙ sym c.in-Some.ensures in
    row_kind c.args.self.now c.args.number c.in-Some.row found

pub returns-in-Some-clause-size : goal.returns-in-Some-clause-size
returns-in-Some-clause-size c =
    let found : slice_get c.args.self.now.rows.items c.args.number ≡ Some c.in-Some.row = ap (λ rows. slice_get rows c.args.number) (sym c.as_slice.ensures.value) ∙ sym c.in-Some.ensures in
    cells_length c.args.self.now.rows.items c.args.self.now.cells.items c.args.number c.in-Some.row (laid c.args.self.now) found

pub returns-in-Some-clause-within : goal.returns-in-Some-clause-within
returns-in-Some-clause-within c =
    let found : slice_get c.args.self.now.rows.items c.args.number ≡ Some c.in-Some.row = ap (λ rows. slice_get rows c.args.number) (sym c.as_slice.ensures.value) ∙ sym c.in-Some.ensures in
    row_inside c.args.self.now c.args.number c.in-Some.row found

pub returns-in-Some-clause-value : goal.returns-in-Some-clause-value
returns-in-Some-clause-value c =
    let found : slice_get c.args.self.now.rows.items c.args.number ≡ Some c.in-Some.row = ap (λ rows. slice_get rows c.args.number) (sym c.as_slice.ensures.value) ∙ sym c.in-Some.ensures in
    λ index default lt. cell_value c.args.self.now.rows.items c.args.self.now.cells.items c.args.number c.in-Some.row index default (laid c.args.self.now) found lt

pub returns-in-Some-clause-written : goal.returns-in-Some-clause-written
returns-in-Some-clause-written c =
    let found : slice_get c.args.self.now.rows.items c.args.number ≡ Some c.in-Some.row = ap (λ rows. slice_get rows c.args.number) (sym c.as_slice.ensures.value) ∙ sym c.in-Some.ensures in
    λ index value lt. cell_written c.args.self.now.rows.items c.args.self.now.cells.items c.args.number c.in-Some.row index value (laid c.args.self.now) found lt

pub returns-in-None-clause-none : goal.returns-in-None-clause-none
returns-in-None-clause-none c =
    let missing : slice_get c.args.self.now.rows.items c.args.number ≡ None = ap (λ rows. slice_get rows c.args.number) (sym c.as_slice.ensures.value) ∙ sym c.in-None.ensures in
    none_is c.args.self.now.rows.items c.args.self.now.cells.items c.args.number missing
