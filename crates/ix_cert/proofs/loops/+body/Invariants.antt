use Rattle.std.proofs.Common.{◌≡◌, ◌+◌, drop, length}
use Rattle.ix_core.specs.Code.{items_code}
use Rattle.ix_core.specs.Formed.{loop_numbers}
use Rattle.ix_cert.proofs.loops.+body.Given as goal

abbrev pub invariant-add_block-loop-item : goal.invariant-add_block-loop-item
invariant-add_block-loop-item l = l.count + length (loop_numbers (items_code (drop l.item-index l.item-items))) ≡ l.fn.count + length (loop_numbers (items_code l.block.items))
