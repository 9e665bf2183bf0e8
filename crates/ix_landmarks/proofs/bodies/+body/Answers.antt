use Rattle.std.proofs.Common.{ap, sym, ◌∙◌, inl, inr}
use Rattle.std.proofs.lemmas.Result.{on_ok_weaker}
use Rattle.ix_core.specs.Code.{items_code, block_code, cond_code, item_code}
use Rattle.ix_core.proofs.Translated.{cond_code-Compare, cond_code-Truth, cond_code-Both, cond_code-Either, cond_code-Opposite, item_code-If, item_code-Loop}
use Rattle.ix_facts.specs.MethodLandmarks.{code_numbers, condition_numbers}
use Rattle.ix_text.proofs.Walked.{next}
use Rattle.ix_landmarks.proofs.Added.{asks_as, two_parts, three_parts}
use Rattle.ix_landmarks.proofs.bodies.+body.Goals as goal

pub push_condition-returns-in-Opposite : goal.push_condition-returns-in-Opposite
push_condition-returns-in-Opposite t c =
    on_ok_weaker c.push_condition.result
    (λ added. asks_as c.args.program.now _ _ _ _ (ap cond_code c.in-Opposite.is ∙ cond_code-Opposite c.in-Opposite.asked)
    (asks_as c.args.program.now _ _ _ _ (sym (ap cond_code c.get.ensures)) added))
    c.push_condition.ensures

pub push_item-returns-in_ok-push_block-in-If : goal.push_item-returns-in_ok-push_block-in-If
push_item-returns-in_ok-push_block-in-If t c = elim c.in-If.is [
  | inl is ↦
      on_ok_weaker c.push_block-in-If.result
      (three_parts c.args.program.now (cond_code c.in-If.cond) (block_code c.in-If.first) (block_code c.in-If.second) (item_code c.args.item.now) _ _ _ _
      (λ rest. ap (code_numbers c.args.program.now) (ap (λ i. item_code i rest) is ∙ item_code-If c.in-If.cond c.in-If.first c.in-If.second rest))
      c.in_ok-push_condition-in-If.ensures c.in_ok-push_block-in-If.ensures)
      c.push_block-in-If.ensures
  | inr (test_first, number, scope, is) ↦
      on_ok_weaker c.push_block-in-If.result
      (three_parts c.args.program.now (cond_code c.in-If.cond) (block_code c.in-If.first) (block_code c.in-If.second) (item_code c.args.item.now) _ _ _ _
      (λ rest. ap (code_numbers c.args.program.now) (ap (λ i. item_code i rest) is ∙ item_code-Loop test_first c.in-If.cond c.in-If.first c.in-If.second number scope rest))
      c.in_ok-push_condition-in-If.ensures c.in_ok-push_block-in-If.ensures)
      c.push_block-in-If.ensures
]

pub push_condition-returns-in-Compare : goal.push_condition-returns-in-Compare
push_condition-returns-in-Compare t c = elim c.in-Compare.is [
  | inl is ↦ on_ok_weaker c.push_block.result (asks_as c.args.program.now _ _ _ _ (ap cond_code is.1 ∙ cond_code-Compare c.in-Compare.block is.0)) c.push_block.ensures
  | inr is ↦ on_ok_weaker c.push_block.result (asks_as c.args.program.now _ _ _ _ (ap cond_code is.1 ∙ cond_code-Truth c.in-Compare.block is.0)) c.push_block.ensures
]

pub push_condition-returns-in_ok-push_condition-in-Both : goal.push_condition-returns-in_ok-push_condition-in-Both
push_condition-returns-in_ok-push_condition-in-Both t c = elim c.in-Both.is [
  | inl is ↦
      on_ok_weaker c.push_condition-in-Both-2.result
      (λ added. asks_as c.args.program.now _ _ _ _ (ap cond_code is ∙ cond_code-Both c.in-Both.first c.in-Both.second)
      (two_parts _ _ _ (condition_numbers c.args.program.now (cond_code c.in-Both.first)) (condition_numbers c.args.program.now (cond_code c.in-Both.second))
      (asks_as c.args.program.now _ _ _ _ (sym (ap cond_code c.get-in-Both.ensures)) c.in_ok-push_condition-in-Both.ensures)
      (asks_as c.args.program.now _ _ _ _ (sym (ap cond_code c.get-in-Both-2.ensures)) added)))
      c.push_condition-in-Both-2.ensures
  | inr is ↦
      on_ok_weaker c.push_condition-in-Both-2.result
      (λ added. asks_as c.args.program.now _ _ _ _ (ap cond_code is ∙ cond_code-Either c.in-Both.first c.in-Both.second)
      (two_parts _ _ _ (condition_numbers c.args.program.now (cond_code c.in-Both.first)) (condition_numbers c.args.program.now (cond_code c.in-Both.second))
      (asks_as c.args.program.now _ _ _ _ (sym (ap cond_code c.get-in-Both.ensures)) c.in_ok-push_condition-in-Both.ensures)
      (asks_as c.args.program.now _ _ _ _ (sym (ap cond_code c.get-in-Both-2.ensures)) added)))
      c.push_condition-in-Both-2.ensures
]

pub push_block-loop-item-preserved : goal.push_block-loop-item-preserved
push_block-loop-item-preserved t c =
    let program = c.args.program.now in
    let added = c.in_ok-push_item.ensures in
    next (λ _ items. code_numbers program (items_code items)) _ c.loop-item.item-index c.item-item.result added.more _ _ _ c.loop-item-test.true c.item-item.is (λ rest. added.of (items_code rest)) added.added c.loop-item.invariant
