use Rattle.std.proofs.Common.{drop}
use Rattle.ix_core.specs.Code.{items_code}
use Rattle.ix_verify.proofs.TextItems.{AddsSome}
use Rattle.ix_verify.proofs.texts.+text.Given as goal

abbrev pub invariant-push_of_block-loop-item : goal.invariant-push_of_block-loop-item
invariant-push_of_block-loop-item l = AddsSome l.program l.within (items_code l.block.items) l.fn.out.items (items_code (drop l.item-index l.block.items)) l.out.items
