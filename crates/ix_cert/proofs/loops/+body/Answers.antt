use Rattle.std.proofs.Common.{◌≡◌, suc, ◌+◌, ◌∷◌, length, drop, arith, sym, ap, ◌∙◌}
use Rattle.std.proofs.Math.Seq.{drop-cons}
use Rattle.std.proofs.lemmas.Result.{on_ok_weaker}
use Rattle.ix_core.specs.Code.{items_code, block_code, item_code}
use Rattle.ix_core.specs.Formed.{loop_numbers}
use Rattle.ix_core.proofs.Translated.{item_code-If, item_code-Loop}
use Rattle.ix_cert.proofs.Counted.{two_blocks, one_loop}
use Rattle.ix_cert.proofs.loops.+body.Goals as goal

pub add_item-returns-in_ok-add_block-in-If : goal.add_item-returns-in_ok-add_block-in-If
add_item-returns-in_ok-add_block-in-If t c =
    on_ok_weaker c.add_block-in-If.result
    (λ added. two_blocks (item_code c.args.item.now) (block_code c.in-If.first) (block_code c.in-If.second) _ _ _
    (λ rest. ap loop_numbers (ap (λ i. item_code i rest) c.in-If.is ∙ item_code-If c.in-If.field-0 c.in-If.first c.in-If.second rest))
    c.in_ok-add_block-in-If.ensures added)
    c.add_block-in-If.ensures

pub add_item-returns-in_ok-add_one-in-Loop : goal.add_item-returns-in_ok-add_one-in-Loop
add_item-returns-in_ok-add_one-in-Loop t c =
    on_ok_weaker c.add_block-in-Loop.result
    (λ added. one_loop (item_code c.args.item.now) (block_code c.in-Loop.body) _ _ _ _
    (λ rest. ap loop_numbers (ap (λ i. item_code i rest) c.in-Loop.is ∙ item_code-Loop _ _ _ _ _ _ rest))
    c.in_ok-add_one-in-Loop.ensures added)
    c.add_block-in-Loop.ensures

pub add_block-loop-item-preserved : goal.add_block-loop-item-preserved
add_block-loop-item-preserved t c =
    let items = c.as_slice-item-items.result.now in
    let index = c.loop-item.item-index in
    let item = c.item-item.result in
    let cut : drop index items ≡ item ∷ drop (suc index) items = drop-cons items index item c.loop-item-test.true ∙ ap (λ first. first ∷ drop (suc index) items) (sym c.item-item.is) in
    let one_on : suc index ≡ index + 1 = omega arith in
    c.in_ok-add_item.ensures (items_code (drop (index + 1) items))
    ∙ (ap (λ left. c.loop-item.count + length (loop_numbers (items_code left))) (sym (cut ∙ ap (λ n. item ∷ drop n items) one_on)) ∙ c.loop-item.invariant)
