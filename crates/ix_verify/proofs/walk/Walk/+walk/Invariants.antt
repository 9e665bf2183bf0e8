use Rattle.std.specs.Prelude.{option_map}
use Rattle.std.proofs.Common.{drop}
use Rattle.ix_core.specs.Code.{items_code}
use Rattle.ix_store.specs.StoredFacts.{stored}
use Rattle.ix_verify.specs.Walking.{notes}
use Rattle.ix_verify.proofs.Items.{WalksSome}
use Rattle.ix_verify.proofs.walk.Walk.+walk.Given as goal

abbrev pub invariant-block-loop-item : goal.invariant-block-loop-item
invariant-block-loop-item l =
    WalksSome l.self (option_map (λ op. op.now) l.fn.last) (items_code l.block.items) (stored l.before) (notes l.fn.found) (option_map (λ op. op.now) l.done) (items_code (drop l.item-index l.block.items)) (stored l.at) (notes l.found)
