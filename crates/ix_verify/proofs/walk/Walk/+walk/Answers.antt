use Rattle.std.specs.Prelude.{option_map}
use Rattle.std.proofs.Common.{◌≡◌, true, false, None, length, drop, get_or, arith, refl, ap, sym, subst, ◌∙◌}
use Rattle.std.proofs.lemmas.List.{drop_all}
use Rattle.std.proofs.lemmas.Result.{IfOk-weaker}
use Rattle.ix_core.specs.declared.op.Op.{Op}
use Rattle.ix_core.specs.Code.{Do, If, Break, Continue, Return, Throw, Loop, Known, Compare, Truth, Both, Either, Opposite, block_code, cond_code, item_code, items_code}
use Rattle.ix_core.proofs.Translated.{cond_code-Compare, cond_code-Truth, cond_code-Both, cond_code-Either, cond_code-Opposite, item_code-If, item_code-Loop}
use Rattle.ix_facts.specs.Stores.{Unreachable}
use Rattle.ix_flow.specs.Flow.{Returning}
use Rattle.ix_flow.specs.Walk.{IsLeast}
use Rattle.ix_store.specs.StoredFacts.{stored}
use Rattle.ix_verify.specs.Walking.{notes, rules, AddsAt}
use Rattle.ix_verify.proofs.Items.{item_as, do_walks, if_walks, break_walks, continue_walks, return_walks, throw_walks, while_walks, do_while_walks, behind_as, asks_on, some_begins, some_goes, some_ends, ask_as, compare_splits, truth_splits, both_split, either_splits, opposite_splits}
use Rattle.ix_verify.proofs.Results.{if_ok_both, if_ok_three}
use Rattle.ix_verify.proofs.Stores.{tested_least}
use Rattle.ix_verify.proofs.walk.Walk.+walk.Goals as goal

-- ---- blocks

pub block-loop-item-init : goal.block-loop-item-init
block-loop-item-init t c =
    some_begins c.args.self.now (option_map (λ op. op.now) c.args.last) (items_code c.args.block.now.items) (stored c.args.before.now) (stored c.in_ok-at.at) (notes c.args.found.now) (ap stored c.in_ok-at.ensures.shared)

pub block-loop-item-preserved : goal.block-loop-item-preserved
block-loop-item-preserved t c =
    let items = c.args.block.now.items in
    let same : c.as_slice-item-items.result.now ≡ items = c.as_slice-item-items.ensures in
    some_goes c.args.self.now (option_map (λ op. op.now) c.args.last) items c.loop-item.item-index c.item-item.result (stored c.args.before.now) (notes c.args.found.now) _ _ _ _ _ _
    (omega (arith, c.loop-item-test.true, ap length same)) (subst (λ xs. c.item-item.result ≡ get_or xs c.loop-item.item-index c.item-item.result) same c.item-item.is) c.op_of-done.ensures c.loop-item.invariant c.in_ok-at-2.ensures

pub block-returns : goal.block-returns
block-returns t c =
    let items = c.args.block.now.items in
    let same : c.as_slice-item-items.result.now ≡ items = c.as_slice-item-items.ensures in
    some_ends c.args.self.now (option_map (λ op. op.now) c.args.last) (items_code items) (items_code (drop c.loop-item.item-index items)) (stored c.args.before.now) (notes c.args.found.now) _ _ _
    (ap items_code (drop_all c.loop-item.item-index items (omega (arith, c.loop-item-test.false, ap length same)))) c.loop-item.invariant

-- ---- items

pub item-returns-in-Do : goal.item-returns-in-Do
item-returns-in-Do t c =
    let walk = c.args.self.now in
    let last = option_map (λ op. op.now) c.args.last in
    if_ok_both c.done.result _ _ _
    (λ behind adds least. item_as walk last (item_code c.args.item.now) (Do c.in-Do.op) (stored c.args.before.now) (notes c.args.found.now) (stored behind) _ (λ rest. ap (λ i. item_code i rest) c.in-Do.is)
    (do_walks walk last c.in-Do.op (stored c.args.before.now) (notes c.args.found.now) (stored behind) _ adds least))
    c.done.ensures.errors c.done.ensures.least

pub item-returns-in_ok-two-in-If : goal.item-returns-in_ok-two-in-If
item-returns-in_ok-two-in-If t c =
    let walk = c.args.self.now in
    let last = option_map (λ op. op.now) c.args.last in
    IfOk-weaker c.join.result _ _
    (λ joined joins. item_as walk last (item_code c.args.item.now) (If (cond_code c.in-If.cond) (block_code c.in-If.first) (block_code c.in-If.second)) (stored c.args.before.now) (notes c.args.found.now) (stored joined) _
    (λ rest. ap (λ i. item_code i rest) c.in-If.is ∙ item_code-If c.in-If.cond c.in-If.first c.in-If.second rest)
    (if_walks walk last (cond_code c.in-If.cond) (block_code c.in-If.first) (block_code c.in-If.second) (stored c.args.before.now) (notes c.args.found.now) _ _ _ _ _ _ _ (stored joined)
    c.in_ok-ways-in-If.ensures c.in_ok-one-in-If.ensures c.in_ok-two-in-If.ensures joins))
    c.join.ensures

pub item-returns-in_ok-breaks-in-Break : goal.item-returns-in_ok-breaks-in-Break
item-returns-in_ok-breaks-in-Break t c =
    let walk = c.args.self.now in
    let last = option_map (λ op. op.now) c.args.last in
    behind_as walk last (item_code c.args.item.now) (stored c.args.before.now) (notes c.args.found.now) (stored c.unreachable.result) Unreachable _ (ap stored c.unreachable.ensures.store)
    (item_as walk last (item_code c.args.item.now) Break (stored c.args.before.now) (notes c.args.found.now) Unreachable _ (λ rest. ap (λ i. item_code i rest) c.in-Break.is)
    (break_walks walk last (stored c.args.before.now) (notes c.args.found.now) (stored c.in_ok-breaks-in-Break.breaks) c.in_ok-breaks-in-Break.ensures))

pub item-returns-in_ok-continues-in-Continue : goal.item-returns-in_ok-continues-in-Continue
item-returns-in_ok-continues-in-Continue t c =
    let walk = c.args.self.now in
    let last = option_map (λ op. op.now) c.args.last in
    behind_as walk last (item_code c.args.item.now) (stored c.args.before.now) (notes c.args.found.now) (stored c.unreachable-in-Continue.result) Unreachable _ (ap stored c.unreachable-in-Continue.ensures.store)
    (item_as walk last (item_code c.args.item.now) Continue (stored c.args.before.now) (notes c.args.found.now) Unreachable _ (λ rest. ap (λ i. item_code i rest) c.in-Continue.is)
    (continue_walks walk last (stored c.args.before.now) (notes c.args.found.now) (stored c.in_ok-continues-in-Continue.continues) c.in_ok-continues-in-Continue.ensures))

pub item-returns-in_ok-returned-in-Return : goal.item-returns-in_ok-returned-in-Return
item-returns-in_ok-returned-in-Return t c =
    let walk = c.args.self.now in
    let last = option_map (λ op. op.now) c.args.last in
    let value = c.in-Return.value in
    let span = c.in-Return.span in
    behind_as walk last (item_code c.args.item.now) (stored c.args.before.now) (notes c.args.found.now) (stored c.unreachable-in-Return.result) Unreachable _ (ap stored c.unreachable-in-Return.ensures.store)
    (item_as walk last (item_code c.args.item.now) (Return value span) (stored c.args.before.now) (notes c.args.found.now) Unreachable _ (λ rest. ap (λ i. item_code i rest) c.in-Return.is)
    (return_walks walk last value span (stored c.args.before.now) (notes c.args.found.now) _
    (subst (λ known. AddsAt walk (Returning value known span) (stored c.args.before.now) c.args.found.now.errors.items c.returned.new.errors.items) c.written_answer-known.ensures c.in_ok-returned-in-Return.ensures)))

pub item-returns-in-Throw : goal.item-returns-in-Throw
item-returns-in-Throw t c =
    let walk = c.args.self.now in
    let last = option_map (λ op. op.now) c.args.last in
    behind_as walk last (item_code c.args.item.now) (stored c.args.before.now) (notes c.args.found.now) (stored c.unreachable-in-Throw.result) Unreachable _ (ap stored c.unreachable-in-Throw.ensures.store)
    (item_as walk last (item_code c.args.item.now) (Throw c.in-Throw.field-0 c.in-Throw.field-1) (stored c.args.before.now) (notes c.args.found.now) Unreachable _ (λ rest. ap (λ i. item_code i rest) c.in-Throw.is)
    (throw_walks walk last c.in-Throw.field-0 c.in-Throw.field-1 (stored c.args.before.now) (notes c.args.found.now)))

pub item-returns-in_ok-back-in-Loop : goal.item-returns-in_ok-back-in-Loop
item-returns-in_ok-back-in-Loop t c =
    let walk = c.args.self.now in
    let last = option_map (λ op. op.now) c.args.last in
    let asked = cond_code c.in-Loop.cond in
    let body = block_code c.in-Loop.body in
    let next = block_code c.in-Loop.next in
    let number = c.in-Loop.number in
    let scope = c.in-Loop.scope in
    let before = stored c.args.before.now in
    let old = notes c.args.found.now in
    if_ok_three c.behind.result _ _ _ _
    (λ out judged is_out is_new. item_as walk last (item_code c.args.item.now) (Loop true asked body next number scope) before old (stored out) (notes c.behind.new.found)
    (λ rest. ap (λ i. item_code i rest) c.in-Loop.is ∙ (item_code-Loop c.in-Loop.test_first c.in-Loop.cond c.in-Loop.body c.in-Loop.next number scope rest ∙ ap (λ first. Loop first asked body next number scope rest) c.if-test_first.true))
    (while_walks walk last asked body next number scope before old (stored c.replace-around.new.dest) (stored c.label-label.result.now) (stored c.in_ok-turn-in-Loop.turn) (notes c.ask.new.found)
    (stored c.replace-outer.new.dest) (stored c.in_ok-done-in-Loop.done) (notes c.block-then-test_first.new.found) (stored c.in_ok-again-in-Loop.again) (stored c.replace-outer.result) (notes c.again.new.found)
    (stored c.in_ok-back-in-Loop.back) (notes c.block-then-test_first-2.new.found) (stored out) (stored c.replace-around.result) (notes c.behind.new.found)
    (ap stored (c.replace-around.ensures.after ∙ c.unreachable-in-Loop.ensures.store)) c.label-label.ensures c.in_ok-turn-in-Loop.ensures (ap stored (c.replace-outer.ensures.after ∙ c.unreachable-then-test_first.ensures.store)) c.in_ok-done-in-Loop.ensures
    c.in_ok-again-in-Loop.ensures.joins (ap stored c.replace-outer.ensures.value) (ap notes c.in_ok-again-in-Loop.ensures.found) c.in_ok-back-in-Loop.ensures
    judged (ap stored is_out) (ap stored c.replace-around.ensures.value) (ap notes is_new)))
    c.behind.ensures.judged c.behind.ensures.out c.behind.ensures.found

pub item-returns-in_ok-back-in-Loop-2 : goal.item-returns-in_ok-back-in-Loop-2
item-returns-in_ok-back-in-Loop-2 t c =
    let walk = c.args.self.now in
    let last = option_map (λ op. op.now) c.args.last in
    let asked = cond_code c.in-Loop.cond in
    let body = block_code c.in-Loop.body in
    let next = block_code c.in-Loop.next in
    let number = c.in-Loop.number in
    let scope = c.in-Loop.scope in
    let before = stored c.args.before.now in
    let old = notes c.args.found.now in
    if_ok_three c.behind-else-test_first.result _ _ _ _
    (λ out judged is_out is_new. item_as walk last (item_code c.args.item.now) (Loop false asked body next number scope) before old (stored out) (notes c.behind-else-test_first.new.found)
    (λ rest. ap (λ i. item_code i rest) c.in-Loop.is ∙ (item_code-Loop c.in-Loop.test_first c.in-Loop.cond c.in-Loop.body c.in-Loop.next number scope rest ∙ ap (λ first. Loop first asked body next number scope rest) c.if-test_first.false))
    (do_while_walks walk last asked body next number scope before old (stored c.replace-around.new.dest) (stored c.label-label.result.now)
    (stored c.replace-outer-else-test_first.new.dest) (stored c.in_ok-done-in-Loop-2.done) (notes c.block-else-test_first.new.found) (stored c.in_ok-again-in-Loop-2.again) (stored c.replace-outer-else-test_first.result) (notes c.again-else-test_first.new.found)
    (stored c.in_ok-tested-in-Loop.tested) (notes c.block-else-test_first-2.new.found) (stored c.in_ok-back-in-Loop-2.back) (notes c.ask-else-test_first.new.found) (stored out) (stored c.replace-around.result) (notes c.behind-else-test_first.new.found)
    (ap stored (c.replace-around.ensures.after ∙ c.unreachable-in-Loop.ensures.store)) c.label-label.ensures (ap stored (c.replace-outer-else-test_first.ensures.after ∙ c.unreachable-else-test_first.ensures.store)) c.in_ok-done-in-Loop-2.ensures
    c.in_ok-again-in-Loop-2.ensures.joins (ap stored c.replace-outer-else-test_first.ensures.value) (ap notes c.in_ok-again-in-Loop-2.ensures.found) c.in_ok-tested-in-Loop.ensures c.in_ok-back-in-Loop-2.ensures
    judged (ap stored is_out) (ap stored c.replace-around.ensures.value) (ap notes is_new)))
    c.behind-else-test_first.ensures.judged c.behind-else-test_first.ensures.out c.behind-else-test_first.ensures.found

-- ---- loops

pub ask-returns : goal.ask-returns
ask-returns t c =
    asks_on c.args.self.now (cond_code c.args.cond.now) (stored c.args.before.now) (notes c.args.found.now) _ _ (notes c.cond.new.found) (stored c.in_ok-breaks.breaks) c.in_ok-ways.ensures c.in_ok-breaks.ensures

-- ---- conditions

pub cond-returns-in_ok-share-in-Known-true : goal.cond-returns-in_ok-share-in-Known-true
cond-returns-in_ok-share-in-Known-true t c =
    let walk = c.args.self.now in
    let answer : c.in-Known-true.field-0 ≡ true = cc (c.in-Known-true.field-0-is, c.in-Known-true.field-0-test) in
    let last = option_map (λ op. op.now) c.args.last in
    ask_as walk last (cond_code c.args.cond.now) (Known true) (stored c.args.before.now) (notes c.args.found.now) _ _ _ (ap cond_code c.in-Known-true.is ∙ ap Known answer)
    (ap stored c.in_ok-share-in-Known-true.ensures.shared, ap stored c.unreachable.ensures.store, refl)

pub cond-returns-in_ok-share-in-Known-false : goal.cond-returns-in_ok-share-in-Known-false
cond-returns-in_ok-share-in-Known-false t c =
    let walk = c.args.self.now in
    let answer : c.in-Known-false.field-0 ≡ false = cc (c.in-Known-false.field-0-is, c.in-Known-false.field-0-test) in
    let last = option_map (λ op. op.now) c.args.last in
    ask_as walk last (cond_code c.args.cond.now) (Known false) (stored c.args.before.now) (notes c.args.found.now) _ _ _ (ap cond_code c.in-Known-false.is ∙ ap Known answer)
    (ap stored c.unreachable-in-Known-false.ensures.store, ap stored c.in_ok-share-in-Known-false.ensures.shared, refl)

pub cond-returns-in_ok-behind-in-Compare : goal.cond-returns-in_ok-behind-in-Compare
cond-returns-in_ok-behind-in-Compare t c =
    let walk = c.args.self.now in
    let last = option_map (λ op. op.now) c.args.last in
    if_ok_both c.branch_test.result _ _ _
    (λ ways so fail. ask_as walk last (cond_code c.args.cond.now) (Compare (block_code c.in-Compare.block) c.in-Compare.test) (stored c.args.before.now) (notes c.args.found.now) _ _ _ (ap cond_code c.in-Compare.is ∙ cond_code-Compare c.in-Compare.block c.in-Compare.test)
    (compare_splits walk last (block_code c.in-Compare.block) c.in-Compare.test (stored c.args.before.now) (notes c.args.found.now) (stored c.in_ok-behind-in-Compare.behind) _ _ _ c.in_ok-behind-in-Compare.ensures
    (tested_least walk.program.now walk.within.now walk.profile true c.in-Compare.test _ _ so) (tested_least walk.program.now walk.within.now walk.profile false c.in-Compare.test _ _ fail)))
    c.branch_test.ensures.holds c.branch_test.ensures.fails

pub cond-returns-in_ok-behind-in-Truth : goal.cond-returns-in_ok-behind-in-Truth
cond-returns-in_ok-behind-in-Truth t c =
    let walk = c.args.self.now in
    let last = option_map (λ op. op.now) c.args.last in
    let behind = stored c.in_ok-behind-in-Truth.behind in
    if_ok_both c.told.result _ _ _
    (λ ways so fail. ask_as walk last (cond_code c.args.cond.now) (Truth (block_code c.in-Truth.block) c.in-Truth.slot) (stored c.args.before.now) (notes c.args.found.now) _ _ _ (ap cond_code c.in-Truth.is ∙ cond_code-Truth c.in-Truth.block c.in-Truth.slot)
    (truth_splits walk last (block_code c.in-Truth.block) c.in-Truth.slot (stored c.args.before.now) (notes c.args.found.now) behind _ _ _ c.in_ok-behind-in-Truth.ensures
    (subst (λ o. IsLeast (rules walk) ((rules walk).Told true o c.in-Truth.slot behind) (stored ways.0)) c.last_op.ensures so) (subst (λ o. IsLeast (rules walk) ((rules walk).Told false o c.in-Truth.slot behind) (stored ways.1)) c.last_op.ensures fail)))
    c.told.ensures.holds c.told.ensures.fails

pub cond-returns-in_ok-fails-in-Both : goal.cond-returns-in_ok-fails-in-Both
cond-returns-in_ok-fails-in-Both t c =
    let walk = c.args.self.now in
    let last = option_map (λ op. op.now) c.args.last in
    ask_as walk last (cond_code c.args.cond.now) (Both (cond_code c.in-Both.first) (cond_code c.in-Both.second)) (stored c.args.before.now) (notes c.args.found.now) _ _ _ (ap cond_code c.in-Both.is ∙ cond_code-Both c.in-Both.first c.in-Both.second)
    (both_split walk last (cond_code c.in-Both.first) (cond_code c.in-Both.second) (stored c.args.before.now) (notes c.args.found.now) _ _ _ _ _ _ (stored c.in_ok-fails-in-Both.fails)
    (ask_as walk last _ _ _ _ _ _ _ (sym (ap cond_code c.get.ensures)) c.in_ok-one-in-Both.ensures) (ask_as walk None _ _ _ _ _ _ _ (sym (ap cond_code c.get-in-Both.ensures)) c.in_ok-two-in-Both.ensures) c.in_ok-fails-in-Both.ensures)

pub cond-returns-in_ok-holds-in-Either : goal.cond-returns-in_ok-holds-in-Either
cond-returns-in_ok-holds-in-Either t c =
    let walk = c.args.self.now in
    let last = option_map (λ op. op.now) c.args.last in
    ask_as walk last (cond_code c.args.cond.now) (Either (cond_code c.in-Either.first) (cond_code c.in-Either.second)) (stored c.args.before.now) (notes c.args.found.now) _ _ _ (ap cond_code c.in-Either.is ∙ cond_code-Either c.in-Either.first c.in-Either.second)
    (either_splits walk last (cond_code c.in-Either.first) (cond_code c.in-Either.second) (stored c.args.before.now) (notes c.args.found.now) _ _ _ _ _ _ (stored c.in_ok-holds-in-Either.holds)
    (ask_as walk last _ _ _ _ _ _ _ (sym (ap cond_code c.get-in-Either.ensures)) c.in_ok-one-in-Either.ensures) (ask_as walk None _ _ _ _ _ _ _ (sym (ap cond_code c.get-in-Either-2.ensures)) c.in_ok-two-in-Either.ensures) c.in_ok-holds-in-Either.ensures)

pub cond-returns-in_ok-ways-in-Opposite : goal.cond-returns-in_ok-ways-in-Opposite
cond-returns-in_ok-ways-in-Opposite t c =
    let walk = c.args.self.now in
    let last = option_map (λ op. op.now) c.args.last in
    ask_as walk last (cond_code c.args.cond.now) (Opposite (cond_code c.in-Opposite.asked)) (stored c.args.before.now) (notes c.args.found.now) _ _ _ (ap cond_code c.in-Opposite.is ∙ cond_code-Opposite c.in-Opposite.asked)
    (opposite_splits walk last (cond_code c.in-Opposite.asked) (stored c.args.before.now) (notes c.args.found.now) _ _ _ (ask_as walk last _ _ _ _ _ _ _ (sym (ap cond_code c.get-in-Opposite.ensures)) c.in_ok-ways-in-Opposite.ensures))
