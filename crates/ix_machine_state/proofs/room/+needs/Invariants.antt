use Rattle.std.proofs.Common.{◌≡◌, max, drop}
use Rattle.ix_core.specs.Code.{items_code}
use Rattle.ix_machine_state.specs.Room.{counted, code_above, code_values}
use Rattle.ix_machine_state.proofs.room.+needs.Given as goal

abbrev pub invariant-block_needs-loop-item : goal.invariant-block_needs-loop-item
invariant-block_needs-loop-item l = record {
  above : max l.needs.above (counted (code_above (items_code (drop l.item-index l.items)))) ≡ counted (code_above (items_code l.items));
  values : max l.needs.values (counted (code_values (items_code (drop l.item-index l.items)))) ≡ counted (code_values (items_code l.items));
}
