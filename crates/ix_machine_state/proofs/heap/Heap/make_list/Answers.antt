use Rattle.std.proofs.Common.{◌≡◌, ◌∙◌, sym, arith, length}
use Rattle.std.proofs.lemmas.List.{length-map}
use Rattle.ix_machine_state.proofs.Objects.{used_is, laid_after, cells_more, rows_more, row_length, count_objects, made_of, added_length}
use Rattle.ix_machine_state.proofs.heap.Heap.make_list.Goals as goal

pub push_picked-requires : goal.push_picked-requires
push_picked-requires c = omega (arith, used_is c.args.self.now, c.args.self.now.cell_room)

pub push_reserved-requires : goal.push_reserved-requires
push_reserved-requires c = omega (arith, used_is c.args.self.now, c.args.self.now.row_room)

pub invariant_of-self : goal.invariant_of-self
invariant_of-self c =
    let added = c.push_picked.ensures.items in
    let size : length added.more ≡ length c.args.entries.now = added_length added ∙ length-map c.args.entries.now _ in
    record {
      apart = laid_after c.args.self.now c.push_reserved.new.self c.push_picked.new.cells _ _ c.push_reserved.ensures.items added.items c.len.ensures (sym size);
      within = omega (arith, used_is c.args.self.now, size, cells_more c.args.self.now c.push_picked.new.cells _ added.items, rows_more c.args.self.now c.push_reserved.new.self _ c.push_reserved.ensures.items);
      row_room = omega (arith, c.args.self.now.row_room, c.push_reserved.ensures.capacity);
      cell_room = omega (arith, c.args.self.now.cell_room, c.push_picked.ensures.room);
      small = c.args.self.now.small;
    }

pub returns-clause-number : goal.returns-clause-number
returns-clause-number c = omega (arith, c.len-number.ensures, row_length c.args.self.now.rows, count_objects c.args.self.now.rows.items c.args.self.now.cells.items)

pub returns-clause-made : goal.returns-clause-made
returns-clause-made c =
    let added = c.push_picked.ensures.items in
    let size : length added.more ≡ length c.args.entries.now = added_length added ∙ length-map c.args.entries.now _ in
    made_of c.args.self.now c.push_reserved.new.self c.push_picked.new.cells _ _ c.push_reserved.ensures.items added (sym size)
