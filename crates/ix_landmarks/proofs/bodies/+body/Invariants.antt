use Rattle.std.proofs.Common.{◌≡◌, ◌++◌, drop}
use Rattle.ix_core.specs.Code.{items_code}
use Rattle.ix_facts.specs.MethodLandmarks.{code_numbers}
use Rattle.ix_landmarks.proofs.bodies.+body.Given as goal

abbrev pub invariant-push_block-loop-item : goal.invariant-push_block-loop-item
invariant-push_block-loop-item l =
    l.out.items ++ code_numbers l.program (items_code (drop l.item-index l.item-items)) ≡ l.fn.out.items ++ code_numbers l.program (items_code l.block.items)
