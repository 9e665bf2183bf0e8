use Rattle.std.proofs.Common.{ap, ◌∙◌, ◌≡◌, suc, sym, refl, subst, length, drop, get_or, arith, true, false}
use Rattle.std.proofs.lemmas.List.{drop_all}
use Rattle.std.proofs.lemmas.Result.{IfOk-weaker}
use Rattle.ix_core.specs.Code.{Do, Break, Continue, Return, Throw, block_code, cond_code, item_code, items_code}
use Rattle.ix_core.specs.Posts.{written_answer}
use Rattle.ix_core.proofs.Translated.{cond_code-Compare, cond_code-Truth, cond_code-Both, cond_code-Either, cond_code-Opposite, item_code-If, item_code-Loop}
use Rattle.ix_graph.specs.Built.{made_of, source_of, with_node, led, size}
use Rattle.ix_graph.specs.Graph.{Does, Compares, Tells, Joins, Returns, Through, From, Unreached, Testing, Telling, done_at}
use Rattle.ix_graph.proofs.Makes.{node_size, item_as, ask_as, done_then, node_makes, left_makes, if_makes, turns_makes, read_makes, both_makes, either_makes, opposite_makes, some_goes, some_ends}
use Rattle.ix_graph.proofs.builder.Builder.+build.Goals as goal

pub cond-returns-in_ok-at-in-Compare : goal.cond-returns-in_ok-at-in-Compare
cond-returns-in_ok-at-in-Compare t c = record {
  made = IfOk-weaker c.block.result _ _
      (λ x makes.
      let code = ap cond_code c.in-Compare.is ∙ cond_code-Compare c.in-Compare.block c.in-Compare.test in
      ask_as (sym code)
      (read_makes _ (Compares c.in-Compare.test) (Testing true c.in-Compare.test) (Testing false c.in-Compare.test) (block_code c.in-Compare.block) _ _ _ _ _ _ _ _ _ _
      (λ at. refl) (λ at more. refl) refl refl c.in_ok-at-in-Compare.ensures.number refl c.in_ok-at-in-Compare.ensures.led makes))
      c.block.ensures.made;
}

pub cond-returns-in_ok-at-in-Truth : goal.cond-returns-in_ok-at-in-Truth
cond-returns-in_ok-at-in-Truth t c = record {
  made = IfOk-weaker c.block-in-Truth.result _ _
      (λ x makes.
      let code = ap cond_code c.in-Truth.is ∙ cond_code-Truth c.in-Truth.block c.in-Truth.slot in
      ask_as (sym code)
      (read_makes _ (Tells (block_code c.in-Truth.block) c.in-Truth.slot) (Telling true (block_code c.in-Truth.block) c.in-Truth.slot) (Telling false (block_code c.in-Truth.block) c.in-Truth.slot)
      (block_code c.in-Truth.block) _ _ _ _ _ _ _ _ _ _
      (λ at. refl) (λ at more. refl) refl refl c.in_ok-at-in-Truth.ensures.number refl c.in_ok-at-in-Truth.ensures.led makes))
      c.block-in-Truth.ensures.made;
}

pub cond-returns-in_ok-cond-in-Both : goal.cond-returns-in_ok-cond-in-Both
cond-returns-in_ok-cond-in-Both t c = record {
  made = IfOk-weaker c.cond-in-Both.result _ _
      (λ x makes.
      let code = ap cond_code c.in-Both.is ∙ cond_code-Both c.in-Both.first c.in-Both.second in
      ask_as (sym code)
      (both_makes _ _ _ _ _ _ _ _ _ _ _ _ c.in_ok-holds-in-Both.ensures.number c.in_ok-holds-in-Both.ensures.added (ask_as (ap cond_code c.get.ensures) c.in_ok-cond-in-Both.ensures.made)
      (ask_as (ap cond_code c.get-in-Both.ensures) makes)))
      c.cond-in-Both.ensures.made;
}

pub cond-returns-in_ok-cond-in-Either : goal.cond-returns-in_ok-cond-in-Either
cond-returns-in_ok-cond-in-Either t c = record {
  made = IfOk-weaker c.cond-in-Either-2.result _ _
      (λ x makes.
      let code = ap cond_code c.in-Either.is ∙ cond_code-Either c.in-Either.first c.in-Either.second in
      ask_as (sym code)
      (either_makes _ _ _ _ _ _ _ _ _ _ _ _ c.in_ok-fails-in-Either.ensures.number c.in_ok-fails-in-Either.ensures.added (ask_as (ap cond_code c.get-in-Either.ensures) c.in_ok-cond-in-Either.ensures.made)
      (ask_as (ap cond_code c.get-in-Either-2.ensures) makes)))
      c.cond-in-Either-2.ensures.made;
}

pub cond-returns-in-Opposite : goal.cond-returns-in-Opposite
cond-returns-in-Opposite t c = record {
  made = IfOk-weaker c.cond-in-Opposite.result _ _
      (λ x makes.
      let code = ap cond_code c.in-Opposite.is ∙ cond_code-Opposite c.in-Opposite.asked in
      ask_as (sym code) (opposite_makes _ _ _ _ _ _ _ _ (ask_as (ap cond_code c.get-in-Opposite.ensures) makes)))
      c.cond-in-Opposite.ensures.made;
}

pub item-returns-in_ok-at-in-Do : goal.item-returns-in_ok-at-in-Do
item-returns-in_ok-at-in-Do t c =
    let op = c.in-Do.op in
    record {
      made = item_as (λ rest. ap (λ i. item_code i rest) c.in-Do.is)
          (node_makes (Do op) (Does op) (source_of c.args.source) (λ at. From at (Through op)) _ _ _ _ _ (λ at rest. refl) (λ at rest end more. refl) c.in_ok-at-in-Do.ensures.number c.in_ok-at-in-Do.ensures.led);
    }

pub item-returns-in-Break : goal.item-returns-in-Break
item-returns-in-Break t c = record {
  made = done_then c.lead.result _ c.and-in-Break.result _ _ c.and-in-Break.ensures c.lead.ensures.led
      (λ x led. item_as (λ rest. ap (λ i. item_code i rest) c.in-Break.is) (left_makes Break _ _ _ _ _ _ (λ at rest. refl) (λ at rest end more. refl) led));
}

pub item-returns-in-Continue : goal.item-returns-in-Continue
item-returns-in-Continue t c = record {
  made = done_then c.lead-in-Continue.result _ c.and-in-Continue.result _ _ c.and-in-Continue.ensures c.lead-in-Continue.ensures.led
      (λ x led. item_as (λ rest. ap (λ i. item_code i rest) c.in-Continue.is) (left_makes Continue _ _ _ _ _ _ (λ at rest. refl) (λ at rest end more. refl) led));
}

pub item-returns-in-Return : goal.item-returns-in-Return
item-returns-in-Return t c =
    let source = source_of c.args.source in
    let value = c.in-Return.value in
    let span = c.in-Return.span in
    let kind = Returns value (written_answer (done_at source) value) span in
    record {
      made = done_then c.add_behind-in-Return.result _ c.and-in-Return.result _ _ c.and-in-Return.ensures c.add_behind-in-Return.ensures.led
          (λ x made. item_as (λ rest. ap (λ i. item_code i rest) c.in-Return.is)
          (node_makes (Return value span) kind source (λ at. Unreached) _ _ _ _ _ (λ at rest. refl) (λ at rest end more. refl) refl
          (subst (λ known. made_of c.add_behind-in-Return.new.self ≡ led (with_node (made_of c.args.self.now) (Returns value known span)) source (size (made_of c.args.self.now))) c.written_answer-known.ensures made)));
    }

pub item-returns-in-Throw : goal.item-returns-in-Throw
item-returns-in-Throw t c = record {
  made = done_then c.add_behind-in-Throw.result _ c.and-in-Throw.result _ _ c.and-in-Throw.ensures c.add_behind-in-Throw.ensures.led
      (λ x led. item_as (λ rest. ap (λ i. item_code i rest) c.in-Throw.is)
      (node_makes (Throw _ _) Joins _ (λ at. Unreached) _ _ _ _ _ (λ at rest. refl) (λ at rest end more. refl) refl led));
}

pub item-returns-in_ok-block-in-If : goal.item-returns-in_ok-block-in-If
item-returns-in_ok-block-in-If t c =
    let joins = c.in_ok-holds-in-If in
    let m1 = with_node (made_of c.args.self.now) Joins in
    let m2 = with_node m1 Joins in
    let s1 = node_size (made_of c.args.self.now) m1 Joins refl in
    let s2 = node_size m1 m2 Joins refl in
    record {
      made = done_then c.block-in-If.result _ c.and.result _ _ c.and.ensures c.block-in-If.ensures.made
          (λ x makes. item_as (λ rest. ap (λ i. item_code i rest) c.in-If.is ∙ item_code-If c.in-If.cond c.in-If.first c.in-If.second rest)
          (if_makes (cond_code c.in-If.cond) (block_code c.in-If.first) (block_code c.in-If.second) _ _ _ _ _ _ _ m1 m2 _ _ _ _
          joins.ensures.first refl (joins.ensures.second ∙ sym s1) refl (joins.ensures.third ∙ sym (s2 ∙ ap suc s1)) joins.ensures.added
          c.in_ok-cond-in-If.ensures.made c.in_ok-block-in-If.ensures.made makes));
    }

pub item-returns-in_ok-block-in-Loop : goal.item-returns-in_ok-block-in-Loop
item-returns-in_ok-block-in-Loop t c = record {
  made = done_then c.block-in-Loop-2.result _ c.and-in-Loop.result _ _ c.and-in-Loop.ensures c.block-in-Loop-2.ensures.made
      (λ x makes. item_as (λ rest. ap (λ i. item_code i rest) c.in-Loop.is ∙ item_code-Loop c.in-Loop.test_first c.in-Loop.cond c.in-Loop.body c.in-Loop.next c.in-Loop.number c.in-Loop.scope rest)
      (turns_makes c.in-Loop.test_first (cond_code c.in-Loop.cond) (block_code c.in-Loop.body) (block_code c.in-Loop.next) _ _ _ c.in-Loop.number c.in-Loop.scope c.in_ok-turns-in-Loop.turns _ _ _ _ _ _ _ _
      c.in_ok-turns-in-Loop.ensures.made c.leaving-around.ensures c.going_on-within.ensures c.ways.ensures
      c.in_ok-cond-in-Loop.ensures.made c.in_ok-block-in-Loop.ensures.made makes));
}

pub block-loop-item-preserved : goal.block-loop-item-preserved
block-loop-item-preserved t c =
    let items = c.args.block.now.items in
    let same : c.as_slice-item-items.result.now ≡ items = c.as_slice-item-items.ensures in
    some_goes items c.loop-item.item-index c.item-item.result _ _ _ _ _ _ _ _ (omega (arith, c.loop-item-test.true, ap length same))
    (subst (λ xs. c.item-item.result ≡ get_or xs c.loop-item.item-index c.item-item.result) same c.item-item.is) c.loop-item.invariant c.in_ok-last.ensures.made

pub block-returns : goal.block-returns
block-returns t c =
    let items = c.args.block.now.items in
    let same : c.as_slice-item-items.result.now ≡ items = c.as_slice-item-items.ensures in
    record {
      made = IfOk-weaker c.lead.result _ _
          (λ x leads.
          some_ends (items_code items) (items_code (drop c.loop-item.item-index items)) _ _ _ _ _ _ _ _
          (ap items_code (drop_all c.loop-item.item-index items (omega (arith, c.loop-item-test.false, ap length same)))) c.loop-item.invariant leads)
          c.lead.ensures.led;
    }
