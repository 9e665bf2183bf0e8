use Rattle.std.proofs.Common.{Ok, Err, ap, map, refl, rules, true, false}
use Rattle.ix_core.specs.declared.code.Block.{Block}
use Rattle.ix_core.specs.declared.code.Item.{Loop}
use Rattle.ix_plain.specs.Statements.{each, statement, with_free}
use Rattle.ix_lower_expressions.specs.Shown.{shown_site}
use Rattle.ix_lower_expressions.proofs.HandedOn.{same_error, not_made, no_limit}
use Rattle.ix_lower_statements.proofs.LoopParts.{pushed, while_not_begun, while_not_tested, while_not_turned, while_made, do_not_begun, do_not_turned, do_not_tested, do_made, for_not_opened, for_not_begun, for_not_tested, for_not_turned, for_not_updated, for_made, choice_not_asked, choice_not_held, choice_not_failed, block_done}
use Rattle.ix_lower_statements.proofs.OneByOne.{refused}
use Rattle.ix_lower_statements.proofs.statement.+statements.Goals as goal

pub while_loop-returns-in_err-enter_loop-in-While : goal.while_loop-returns-in_err-enter_loop-in-While
while_loop-returns-in_err-enter_loop-in-While t c = record {
  limit = λ which is. while_not_begun c.args.stmt.now (shown_site c.args.site.now) c.args.end c.args.body.now c.in-While.condition c.in-While.turn c.enter_loop.new.body which c.in-While.is (c.in_err-enter_loop-in-While.ensures.limit which (same_error c.from_residual.result c.from_residual.ensures.1 is));
  body = not_made c.from_residual.result _ c.from_residual.ensures.0;
}

pub while_loop-returns-in_err-cond-in-While : goal.while_loop-returns-in_err-cond-in-While
while_loop-returns-in_err-cond-in-While t c = record {
  limit = λ which is. while_not_tested c.args.stmt.now (shown_site c.args.site.now) c.args.end c.args.body.now c.in-While.condition c.in-While.turn c.enter_loop.new.body which c.in-While.is c.in_ok-enter_loop-in-While.ensures.body (c.in_err-cond-in-While.ensures.limit which (same_error c.from_residual-in_err-cond-in-While.result c.from_residual-in_err-cond-in-While.ensures.1 is));
  body = not_made c.from_residual-in_err-cond-in-While.result _ c.from_residual-in_err-cond-in-While.ensures.0;
}

pub while_loop-returns-in_err-turn-in-While : goal.while_loop-returns-in_err-turn-in-While
while_loop-returns-in_err-turn-in-While t c = record {
  limit = λ which is. while_not_turned c.args.stmt.now (shown_site c.args.site.now) c.args.end c.args.body.now c.in-While.condition c.in-While.turn c.enter_loop.new.body which c.in_ok-cond-in-While.cond c.test.new.body c.get.result.now c.in-While.is c.in_ok-enter_loop-in-While.ensures.body c.in_ok-cond-in-While.ensures.body c.get.ensures (c.in_err-turn-in-While.ensures.limit which (same_error c.from_residual-in_err-turn-in-While.result c.from_residual-in_err-turn-in-While.ensures.1 is));
  body = not_made c.from_residual-in_err-turn-in-While.result _ c.from_residual-in_err-turn-in-While.ensures.0;
}

pub while_loop-returns : goal.while_loop-returns
while_loop-returns t c =
    let made = while_made c.args.stmt.now (shown_site c.args.site.now) c.args.end c.args.body.now c.in-While.condition c.in-While.turn c.enter_loop.new.body c.in_ok-cond-in-While.cond c.test.new.body c.branch-alloc.new.body c.in_ok-turn-in-While.turn c.no_block.result c.get.result.now c.in-While.is c.in_ok-enter_loop-in-While.ensures.body c.in_ok-cond-in-While.ensures.body c.get.ensures c.in_ok-turn-in-While.ensures.body c.no_block.ensures in
    record {
      limit = λ which is. no_limit _ c.push_last.result which _ _ c.push_last.ensures is;
      body = pushed c.push_last.result ((statement c.args.stmt.now).run (shown_site c.args.site.now) c.args.end c.args.body.now) (c.branch-alloc.new.body) c.push_last.new.body (Loop true c.in_ok-cond-in-While.cond c.in_ok-turn-in-While.turn c.no_block.result c.args.body.now.loops c.args.body.now.made.free) made c.push_last.ensures;
    }

pub do_loop-returns-in_err-enter_loop-in-Do : goal.do_loop-returns-in_err-enter_loop-in-Do
do_loop-returns-in_err-enter_loop-in-Do t c = record {
  limit = λ which is. do_not_begun c.args.stmt.now (shown_site c.args.site.now) c.args.end c.args.body.now c.in-Do.condition c.in-Do.turn c.enter_loop.new.body which c.in-Do.is (c.in_err-enter_loop-in-Do.ensures.limit which (same_error c.from_residual.result c.from_residual.ensures.1 is));
  body = not_made c.from_residual.result _ c.from_residual.ensures.0;
}

pub do_loop-returns-in_err-turn-in-Do : goal.do_loop-returns-in_err-turn-in-Do
do_loop-returns-in_err-turn-in-Do t c = record {
  limit = λ which is. do_not_turned c.args.stmt.now (shown_site c.args.site.now) c.args.end c.args.body.now c.in-Do.condition c.in-Do.turn c.enter_loop.new.body which c.get.result.now c.in-Do.is c.in_ok-enter_loop-in-Do.ensures.body c.get.ensures (c.in_err-turn-in-Do.ensures.limit which (same_error c.from_residual-in_err-turn-in-Do.result c.from_residual-in_err-turn-in-Do.ensures.1 is));
  body = not_made c.from_residual-in_err-turn-in-Do.result _ c.from_residual-in_err-turn-in-Do.ensures.0;
}

pub do_loop-returns-in_err-cond-in-Do : goal.do_loop-returns-in_err-cond-in-Do
do_loop-returns-in_err-cond-in-Do t c = record {
  limit = λ which is. do_not_tested c.args.stmt.now (shown_site c.args.site.now) c.args.end c.args.body.now c.in-Do.condition c.in-Do.turn c.enter_loop.new.body which c.in_ok-turn-in-Do.turn c.branch-alloc.new.body c.get.result.now c.in-Do.is c.in_ok-enter_loop-in-Do.ensures.body c.get.ensures c.in_ok-turn-in-Do.ensures.body (c.in_err-cond-in-Do.ensures.limit which (same_error c.from_residual-in_err-cond-in-Do.result c.from_residual-in_err-cond-in-Do.ensures.1 is));
  body = not_made c.from_residual-in_err-cond-in-Do.result _ c.from_residual-in_err-cond-in-Do.ensures.0;
}

pub do_loop-returns : goal.do_loop-returns
do_loop-returns t c =
    let made = do_made c.args.stmt.now (shown_site c.args.site.now) c.args.end c.args.body.now c.in-Do.condition c.in-Do.turn c.enter_loop.new.body c.in_ok-cond-in-Do.cond c.test.new.body c.branch-alloc.new.body c.in_ok-turn-in-Do.turn c.no_block.result c.get.result.now c.in-Do.is c.in_ok-enter_loop-in-Do.ensures.body c.get.ensures c.in_ok-turn-in-Do.ensures.body c.in_ok-cond-in-Do.ensures.body c.no_block.ensures in
    record {
      limit = λ which is. no_limit _ c.push_last.result which _ _ c.push_last.ensures is;
      body = pushed c.push_last.result ((statement c.args.stmt.now).run (shown_site c.args.site.now) c.args.end c.args.body.now) (c.test.new.body) c.push_last.new.body (Loop false c.in_ok-cond-in-Do.cond c.in_ok-turn-in-Do.turn c.no_block.result c.args.body.now.loops c.args.body.now.made.free) made c.push_last.ensures;
    }

pub for_loop-returns-in_err-each-in-For : goal.for_loop-returns-in_err-each-in-For
for_loop-returns-in_err-each-in-For t c = record {
  limit = λ which is. for_not_opened c.args.stmt.now (shown_site c.args.site.now) c.args.end c.args.body.now c.in-For.first c.in-For.condition c.in-For.update c.in-For.turn c.as_slice.result.now c.in-For.is c.as_slice.ensures which (c.in_err-each-in-For.ensures.limit which (same_error c.from_residual.result c.from_residual.ensures.1 is));
  body = not_made c.from_residual.result _ c.from_residual.ensures.0;
}

pub for_loop-returns-in_err-enter_loop-in-For : goal.for_loop-returns-in_err-enter_loop-in-For
for_loop-returns-in_err-enter_loop-in-For t c = record {
  limit = λ which is. for_not_begun c.args.stmt.now (shown_site c.args.site.now) c.args.end c.args.body.now c.in-For.first c.in-For.condition c.in-For.update c.in-For.turn c.as_slice.result.now c.in-For.is c.as_slice.ensures c.each.new.body c.in_ok-each-in-For.ensures.body which (c.in_err-enter_loop-in-For.ensures.limit which (same_error c.from_residual-in_err-enter_loop-in-For.result c.from_residual-in_err-enter_loop-in-For.ensures.1 is));
  body = not_made c.from_residual-in_err-enter_loop-in-For.result _ c.from_residual-in_err-enter_loop-in-For.ensures.0;
}

pub for_loop-returns-in_err-cond-in-For : goal.for_loop-returns-in_err-cond-in-For
for_loop-returns-in_err-cond-in-For t c = record {
  limit = λ which is. for_not_tested c.args.stmt.now (shown_site c.args.site.now) c.args.end c.args.body.now c.in-For.first c.in-For.condition c.in-For.update c.in-For.turn c.as_slice.result.now c.in-For.is c.as_slice.ensures c.each.new.body c.in_ok-each-in-For.ensures.body c.enter_loop.new.body c.in_ok-enter_loop-in-For.ensures.body which (c.in_err-cond-in-For.ensures.limit which (same_error c.from_residual-in_err-cond-in-For.result c.from_residual-in_err-cond-in-For.ensures.1 is));
  body = not_made c.from_residual-in_err-cond-in-For.result _ c.from_residual-in_err-cond-in-For.ensures.0;
}

pub for_loop-returns-in_err-turn-in-For : goal.for_loop-returns-in_err-turn-in-For
for_loop-returns-in_err-turn-in-For t c = record {
  limit = λ which is. for_not_turned c.args.stmt.now (shown_site c.args.site.now) c.args.end c.args.body.now c.in-For.first c.in-For.condition c.in-For.update c.in-For.turn c.as_slice.result.now c.in-For.is c.as_slice.ensures c.each.new.body c.in_ok-each-in-For.ensures.body c.enter_loop.new.body c.in_ok-enter_loop-in-For.ensures.body c.in_ok-cond-in-For.cond c.test_if.new.body c.get.result.now c.in_ok-cond-in-For.ensures.body c.get.ensures which (c.in_err-turn-in-For.ensures.limit which (same_error c.from_residual-in_err-turn-in-For.result c.from_residual-in_err-turn-in-For.ensures.1 is));
  body = not_made c.from_residual-in_err-turn-in-For.result _ c.from_residual-in_err-turn-in-For.ensures.0;
}

pub for_loop-returns-in_err-next-in-For : goal.for_loop-returns-in_err-next-in-For
for_loop-returns-in_err-next-in-For t c = record {
  limit = λ which is. for_not_updated c.args.stmt.now (shown_site c.args.site.now) c.args.end c.args.body.now c.in-For.first c.in-For.condition c.in-For.update c.in-For.turn c.as_slice.result.now c.in-For.is c.as_slice.ensures c.each.new.body c.in_ok-each-in-For.ensures.body c.enter_loop.new.body c.in_ok-enter_loop-in-For.ensures.body c.in_ok-cond-in-For.cond c.test_if.new.body c.get.result.now c.in_ok-cond-in-For.ensures.body c.get.ensures c.in_ok-turn-in-For.turn c.branch-alloc.new.body c.as_slice-in-For.result.now c.in_ok-turn-in-For.ensures.body c.as_slice-in-For.ensures which (c.in_err-next-in-For.ensures.limit which (same_error c.from_residual-in_err-next-in-For.result c.from_residual-in_err-next-in-For.ensures.1 is));
  body = not_made c.from_residual-in_err-next-in-For.result _ c.from_residual-in_err-next-in-For.ensures.0;
}

pub for_loop-returns : goal.for_loop-returns
for_loop-returns t c =
    let made = for_made c.args.stmt.now (shown_site c.args.site.now) c.args.end c.args.body.now c.in-For.first c.in-For.condition c.in-For.update c.in-For.turn c.as_slice.result.now c.in-For.is c.as_slice.ensures c.each.new.body c.in_ok-each-in-For.ensures.body c.enter_loop.new.body c.in_ok-enter_loop-in-For.ensures.body c.in_ok-cond-in-For.cond c.test_if.new.body c.get.result.now c.in_ok-cond-in-For.ensures.body c.get.ensures c.in_ok-turn-in-For.turn c.branch-alloc.new.body c.as_slice-in-For.result.now c.in_ok-turn-in-For.ensures.body c.as_slice-in-For.ensures c.in_ok-next-in-For.next c.update_block.new.body c.in_ok-next-in-For.ensures.body in
    record {
      limit = λ which is. no_limit _ c.push_last.result which _ _ c.push_last.ensures is;
      body = pushed c.push_last.result ((statement c.args.stmt.now).run (shown_site c.args.site.now) c.args.end c.args.body.now) ((with_free c.args.body.now.made.free c.update_block.new.body)) c.push_last.new.body (Loop true c.in_ok-cond-in-For.cond c.in_ok-turn-in-For.turn c.in_ok-next-in-For.next c.each.new.body.loops c.each.new.body.made.free) made c.push_last.ensures;
    }

pub each-returns-in_err-statement : goal.each-returns-in_err-statement
each-returns-in_err-statement t c = record {
  limit = λ which is.
      refused (λ stmt. (statement stmt).run (shown_site c.args.site.now) c.args.end) (λ stmts. each (map statement stmts) (shown_site c.args.site.now) c.args.end) (λ made. refl) (λ stmt rest made. refl) c.args.statements.now c.loop-stmt.stmt-index
      (each (map statement c.args.statements.now) (shown_site c.args.site.now) c.args.end c.args.body.now) c.stmt-item.result c.loop-stmt.body which c.loop-stmt-test.true c.stmt-item.is c.loop-stmt.invariant
      (c.in_err-statement.ensures.limit which (same_error c.from_residual.result c.from_residual.ensures.1 is));
  body = not_made c.from_residual.result _ c.from_residual.ensures.0;
}

pub plain-returns-in_err-asked-in-If : goal.plain-returns-in_err-asked-in-If
plain-returns-in_err-asked-in-If t c = record {
  limit = λ which is. choice_not_asked c.args.stmt.now (shown_site c.args.site.now) c.args.end c.args.body.now c.in-If.condition c.in-If.first c.in-If.second c.in-If.is which (c.in_err-asked-in-If.ensures.limit which (same_error c.from_residual-in_err-asked-in-If.result c.from_residual-in_err-asked-in-If.ensures.1 is));
  body = not_made c.from_residual-in_err-asked-in-If.result _ c.from_residual-in_err-asked-in-If.ensures.0;
}

pub plain-returns-in_err-holds-in-If : goal.plain-returns-in_err-holds-in-If
plain-returns-in_err-holds-in-If t c = record {
  limit = λ which is. choice_not_held c.args.stmt.now (shown_site c.args.site.now) c.args.end c.args.body.now c.in-If.condition c.in-If.first c.in-If.second c.in-If.is c.in_ok-asked-in-If.asked c.test.new.body c.get.result.now c.in_ok-asked-in-If.ensures.body c.get.ensures which (c.in_err-holds-in-If.ensures.limit which (same_error c.from_residual-in_err-holds-in-If.result c.from_residual-in_err-holds-in-If.ensures.1 is));
  body = not_made c.from_residual-in_err-holds-in-If.result _ c.from_residual-in_err-holds-in-If.ensures.0;
}

pub plain-returns-in_err-fails-in-Some : goal.plain-returns-in_err-fails-in-Some
plain-returns-in_err-fails-in-Some t c = record {
  limit = λ which is. choice_not_failed c.args.stmt.now (shown_site c.args.site.now) c.args.end c.args.body.now c.in-If.condition c.in-If.first c.in-If.second c.in-If.is c.in_ok-asked-in-If.asked c.test.new.body c.get.result.now c.in_ok-asked-in-If.ensures.body c.get.ensures which c.in_ok-holds-in-If.holds c.branch-alloc.new.body c.in-Some.second c.get-in-Some.result.now c.in_ok-holds-in-If.ensures.body c.in-Some.is c.get-in-Some.ensures (c.in_err-fails-in-Some.ensures.limit which (same_error c.from_residual-in_err-fails-in-Some.result c.from_residual-in_err-fails-in-Some.ensures.1 is));
  body = not_made c.from_residual-in_err-fails-in-Some.result _ c.from_residual-in_err-fails-in-Some.ensures.0;
}

pub plain-returns-in_err-each-in-Block : goal.plain-returns-in_err-each-in-Block
plain-returns-in_err-each-in-Block t c = record {
  limit = λ which is. block_done c.args.stmt.now (shown_site c.args.site.now) c.args.end c.args.body.now c.in-Block.statements c.as_slice.result.now c.in-Block.is c.as_slice.ensures (Err which) (c.in_err-each-in-Block.ensures.limit which (same_error c.from_residual.result c.from_residual.ensures.1 is));
  body = not_made c.from_residual.result _ c.from_residual.ensures.0;
}

pub plain-returns-in_ok-each-in-Block : goal.plain-returns-in_ok-each-in-Block
plain-returns-in_ok-each-in-Block t c = record {
  limit = search rules;
  body = block_done c.args.stmt.now (shown_site c.args.site.now) c.args.end c.args.body.now c.in-Block.statements c.as_slice.result.now c.in-Block.is c.as_slice.ensures (Ok c.each.new.body) c.in_ok-each-in-Block.ensures.body;
}
