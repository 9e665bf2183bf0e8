use Rattle.std.proofs.Common.{◌≡◌, length, drop, get_or, arith, ap, sym, subst, ◌∙◌}
use Rattle.std.proofs.lemmas.List.{drop_all}
use Rattle.std.proofs.lemmas.Result.{on_ok_weaker}
use Rattle.ix_core.specs.Code.{Do, Break, Continue, Return, Throw, If, Loop, block_code, cond_code, item_code, items_code}
use Rattle.ix_core.proofs.Translated.{cond_code-Compare, cond_code-Truth, cond_code-Both, cond_code-Either, cond_code-Opposite, item_code-If, item_code-Loop}
use Rattle.ix_sign.specs.RuleErrors.{TestEscapes}
use Rattle.ix_verify.specs.Walking.{SomewhereIn, SomewhereOf}
use Rattle.ix_verify.proofs.Lists.{exactly_to, to_both, to_none}
use Rattle.ix_verify.proofs.TextItems.{item_as, ask_as, do_adds, break_adds, continue_adds, return_adds, throw_adds, if_adds, loop_adds, some_goes, some_ends}
use Rattle.ix_verify.proofs.texts.+text.Goals as goal

pub push_of_cond-returns-in-Known : goal.push_of_cond-returns-in-Known
push_of_cond-returns-in-Known t c = ask_as c.args.program.now c.args.within.now _ _ _ _ (ap cond_code c.in-Known.is) (to_none _ _ (λ error rank none. none))

pub push_of_cond-returns-in_ok-push_of_block-in-Compare : goal.push_of_cond-returns-in_ok-push_of_block-in-Compare
push_of_cond-returns-in_ok-push_of_block-in-Compare t c =
    let program = c.args.program.now in
    let method = c.args.within.now in
    on_ok_weaker c.push_escapes_in.result
    (λ last. ask_as program method _ _ _ _ (ap cond_code c.in-Compare.is ∙ cond_code-Compare c.in-Compare.block c.in-Compare.test)
    (to_both (SomewhereIn program method (block_code c.in-Compare.block)) (TestEscapes method c.in-Compare.test) _ _ _ c.in_ok-push_of_block-in-Compare.ensures (exactly_to _ _ _ last)))
    c.push_escapes_in.ensures.errors

pub push_of_cond-returns-in-Truth : goal.push_of_cond-returns-in-Truth
push_of_cond-returns-in-Truth t c =
    on_ok_weaker c.push_of_block-in-Truth.result (λ adds. ask_as c.args.program.now c.args.within.now _ _ _ _ (ap cond_code c.in-Truth.is ∙ cond_code-Truth c.in-Truth.block c.in-Truth.field-1) adds) c.push_of_block-in-Truth.ensures

pub push_of_cond-returns-in_ok-push_of_cond-in-Both : goal.push_of_cond-returns-in_ok-push_of_cond-in-Both
push_of_cond-returns-in_ok-push_of_cond-in-Both t c =
    let program = c.args.program.now in
    let method = c.args.within.now in
    on_ok_weaker c.push_of_cond-in-Both.result
    (λ last. ask_as program method _ _ _ _ (ap cond_code c.in-Both.is ∙ cond_code-Both c.in-Both.first c.in-Both.second)
    (to_both (SomewhereOf program method (cond_code c.in-Both.first)) (SomewhereOf program method (cond_code c.in-Both.second)) _ _ _
    (ask_as program method _ _ _ _ (sym (ap cond_code c.get.ensures)) c.in_ok-push_of_cond-in-Both.ensures)
    (ask_as program method _ _ _ _ (sym (ap cond_code c.get-in-Both.ensures)) last)))
    c.push_of_cond-in-Both.ensures

pub push_of_cond-returns-in_ok-push_of_cond-in-Either : goal.push_of_cond-returns-in_ok-push_of_cond-in-Either
push_of_cond-returns-in_ok-push_of_cond-in-Either t c =
    let program = c.args.program.now in
    let method = c.args.within.now in
    on_ok_weaker c.push_of_cond-in-Either-2.result
    (λ last. ask_as program method _ _ _ _ (ap cond_code c.in-Either.is ∙ cond_code-Either c.in-Either.first c.in-Either.second)
    (to_both (SomewhereOf program method (cond_code c.in-Either.first)) (SomewhereOf program method (cond_code c.in-Either.second)) _ _ _
    (ask_as program method _ _ _ _ (sym (ap cond_code c.get-in-Either.ensures)) c.in_ok-push_of_cond-in-Either.ensures)
    (ask_as program method _ _ _ _ (sym (ap cond_code c.get-in-Either-2.ensures)) last)))
    c.push_of_cond-in-Either-2.ensures

pub push_of_cond-returns-in-Opposite : goal.push_of_cond-returns-in-Opposite
push_of_cond-returns-in-Opposite t c =
    on_ok_weaker c.push_of_cond-in-Opposite.result
    (λ adds. ask_as c.args.program.now c.args.within.now _ _ _ _ (ap cond_code c.in-Opposite.is ∙ cond_code-Opposite c.in-Opposite.asked)
    (ask_as c.args.program.now c.args.within.now _ _ _ _ (sym (ap cond_code c.get-in-Opposite.ensures)) adds))
    c.push_of_cond-in-Opposite.ensures

pub push_of_item-returns-in-Do : goal.push_of_item-returns-in-Do
push_of_item-returns-in-Do t c =
    on_ok_weaker c.push_of_op.result
    (λ adds. item_as c.args.program.now c.args.within.now (item_code c.args.item.now) (Do c.in-Do.op) _ _ (λ rest. ap (λ i. item_code i rest) c.in-Do.is) (do_adds c.args.program.now c.args.within.now c.in-Do.op _ _ adds))
    c.push_of_op.ensures

pub push_of_item-returns-in_ok-push_of_block-in-If : goal.push_of_item-returns-in_ok-push_of_block-in-If
push_of_item-returns-in_ok-push_of_block-in-If t c =
    let program = c.args.program.now in
    let method = c.args.within.now in
    on_ok_weaker c.push_of_block-in-If.result
    (λ last. item_as program method (item_code c.args.item.now) (If (cond_code c.in-If.cond) (block_code c.in-If.first) (block_code c.in-If.second)) _ _
    (λ rest. ap (λ i. item_code i rest) c.in-If.is ∙ item_code-If c.in-If.cond c.in-If.first c.in-If.second rest)
    (if_adds program method (cond_code c.in-If.cond) (block_code c.in-If.first) (block_code c.in-If.second) _ _ _ _ c.in_ok-push_of_cond-in-If.ensures c.in_ok-push_of_block-in-If.ensures last))
    c.push_of_block-in-If.ensures

pub push_of_item-returns-in_ok-push_of_block-in-Loop : goal.push_of_item-returns-in_ok-push_of_block-in-Loop
push_of_item-returns-in_ok-push_of_block-in-Loop t c =
    let program = c.args.program.now in
    let method = c.args.within.now in
    on_ok_weaker c.push_of_block-in-Loop-2.result
    (λ last. item_as program method (item_code c.args.item.now) (Loop c.in-Loop.test_first (cond_code c.in-Loop.cond) (block_code c.in-Loop.body) (block_code c.in-Loop.next) c.in-Loop.number c.in-Loop.scope) _ _
    (λ rest. ap (λ i. item_code i rest) c.in-Loop.is ∙ item_code-Loop c.in-Loop.test_first c.in-Loop.cond c.in-Loop.body c.in-Loop.next c.in-Loop.number c.in-Loop.scope rest)
    (loop_adds program method (cond_code c.in-Loop.cond) (block_code c.in-Loop.body) (block_code c.in-Loop.next) _ _ _ _ c.in_ok-push_of_cond-in-Loop.ensures c.in_ok-push_of_block-in-Loop.ensures last c.in-Loop.test_first c.in-Loop.number c.in-Loop.scope))
    c.push_of_block-in-Loop-2.ensures

pub push_of_item-returns-in-Break : goal.push_of_item-returns-in-Break
push_of_item-returns-in-Break t c = item_as c.args.program.now c.args.within.now (item_code c.args.item.now) Break _ _ (λ rest. ap (λ i. item_code i rest) c.in-Break.is) (break_adds c.args.program.now c.args.within.now _)

pub push_of_item-returns-in-Continue : goal.push_of_item-returns-in-Continue
push_of_item-returns-in-Continue t c = item_as c.args.program.now c.args.within.now (item_code c.args.item.now) Continue _ _ (λ rest. ap (λ i. item_code i rest) c.in-Continue.is) (continue_adds c.args.program.now c.args.within.now _)

pub push_of_item-returns-in-Return : goal.push_of_item-returns-in-Return
push_of_item-returns-in-Return t c =
    item_as c.args.program.now c.args.within.now (item_code c.args.item.now) (Return c.in-Return.field-0 c.in-Return.field-1) _ _ (λ rest. ap (λ i. item_code i rest) c.in-Return.is) (return_adds c.args.program.now c.args.within.now c.in-Return.field-0 c.in-Return.field-1 _)

pub push_of_item-returns-in-Throw : goal.push_of_item-returns-in-Throw
push_of_item-returns-in-Throw t c =
    item_as c.args.program.now c.args.within.now (item_code c.args.item.now) (Throw c.in-Throw.field-0 c.in-Throw.field-1) _ _ (λ rest. ap (λ i. item_code i rest) c.in-Throw.is) (throw_adds c.args.program.now c.args.within.now c.in-Throw.field-0 c.in-Throw.field-1 _)

pub push_of_block-loop-item-init : goal.push_of_block-loop-item-init
push_of_block-loop-item-init t c = λ found. (λ has. has, λ has. has)

pub push_of_block-loop-item-preserved : goal.push_of_block-loop-item-preserved
push_of_block-loop-item-preserved t c =
    let items = c.args.block.now.items in
    let same : c.as_slice-item-items.result.now ≡ items = c.as_slice-item-items.ensures in
    some_goes c.args.program.now c.args.within.now items c.loop-item.item-index c.item-item.result _ _ _ (omega (arith, c.loop-item-test.true, ap length same))
    (subst (λ xs. c.item-item.result ≡ get_or xs c.loop-item.item-index c.item-item.result) same c.item-item.is) c.loop-item.invariant c.in_ok-push_of_item.ensures

pub push_of_block-returns : goal.push_of_block-returns
push_of_block-returns t c =
    let items = c.args.block.now.items in
    let same : c.as_slice-item-items.result.now ≡ items = c.as_slice-item-items.ensures in
    some_ends c.args.program.now c.args.within.now (items_code items) (items_code (drop c.loop-item.item-index items)) _ _
    (ap items_code (drop_all c.loop-item.item-index items (omega (arith, c.loop-item-test.false, ap length same)))) c.loop-item.invariant
