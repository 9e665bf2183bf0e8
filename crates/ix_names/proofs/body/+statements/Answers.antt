use Rattle.std.proofs.Common.{◌≡◌, ◌++◌, map, refl, ap}
use Rattle.std.proofs.lemmas.Result.{on_ok_weaker}
use Rattle.ix_text.proofs.Chained.{both_ok}
use Rattle.ix_meaning.specs.Bodies as spec
use Rattle.ix_expression_types.specs.Here.{here, names}
use Rattle.ix_names.specs.Told.{Told}
use Rattle.ix_names.proofs.Told.{told_then, told_before, told_closed, same_names, told_if}
use Rattle.ix_names.proofs.StatementsTold.{block_told, if_told, if_else_told, while_told, do_told, for_told}
use Rattle.ix_names.proofs.body.+statements.Goals as goal

pub block-returns : goal.block-returns
block-returns t c =
    let w = c.args.world.now in
    let into = c.enter.ensures in
    let left = c.leave.ensures in
    let locals : c.enter.new.self.locals.entries ≡ c.args.scopes.now.locals.entries = ap (λ l. l.entries) into.locals in
    let entered : here w c.enter.new.self ≡ here w c.args.scopes.now =
    rw (into.class, into.has_object, into.in_constructor, into.in_loop, into.names_fields, into.result, into.pending, into.next, into.params, into.locals) refl in
    let rest : here w c.leave.new.self ≡ record (here w c.statements-told.new.scopes) { names = names c.leave.new.self } =
    rw (left.class, left.has_object, left.in_constructor, left.in_loop, left.names_fields, left.result, left.pending, left.next) refl in
    on_ok_weaker c.statements-told.result
    (λ (told : Told (here w) (spec.all_told (map spec.telling c.args.ss.now)) c.enter.new.self c.statements-told.new.scopes c.args.notes.now c.statements-told.new.notes).
    told_closed told entered into.params locals c.in_ok-enter.ensures.marks left.params left.locals left.marks (same_names c.args.scopes.now c.leave.new.self) rest)
    (told_if (here w) (spec.all_told (map spec.telling c.args.ss.now)) c.enter.new.self c.statements-told.new.scopes c.args.notes.now c.statements-told.new.notes c.statements-told.result c.statements-told.ensures.notes c.statements-told.ensures.scope c.statements-told.ensures.keeps)

pub statement_kind-returns-in-Block : goal.statement_kind-returns-in-Block
statement_kind-returns-in-Block t c =
    on_ok_weaker c.block.result (block_told c.args.k.now c.args.span c.in-Block.ss c.as_slice.result.now c.in-Block.is c.as_slice.ensures) c.block.ensures

pub statement_kind-returns-in-While : goal.statement_kind-returns-in-While
statement_kind-returns-in-While t c =
    both_ok c.condition-in-While.result c.looped.result c.and.result _ _ _ c.and.ensures c.condition-in-While.ensures c.looped.ensures
    (while_told c.args.k.now c.args.span c.in-While.e c.in-While.body c.get-in-While.result.now c.in-While.is c.get-in-While.ensures)

pub statement_kind-returns-in-Do : goal.statement_kind-returns-in-Do
statement_kind-returns-in-Do t c =
    both_ok c.looped-in-Do.result c.condition-in-Do.result c.and-in-Do.result _ _ _ c.and-in-Do.ensures c.looped-in-Do.ensures c.condition-in-Do.ensures
    (do_told c.args.k.now c.args.span c.in-Do.body c.get-in-Do.result.now c.in-Do.e c.in-Do.is c.get-in-Do.ensures)

pub statement_kind-returns-in-None : goal.statement_kind-returns-in-None
statement_kind-returns-in-None t c =
    let first : Told (here c.args.world.now) (spec.telling c.get.result.now) c.args.scopes.now c.statement.new.scopes c.condition.new.notes c.statement.new.notes =
    record { notes = c.in_ok-statement-in-If.ensures.notes; scope = c.in_ok-statement-in-If.ensures.scope; keeps = c.in_ok-statement-in-If.ensures.keeps } in
    if_told c.args.k.now c.args.span c.in-If.e c.in-If.then c.get.result.now c.in-If.other c.in-If.is c.in-None.is c.get.ensures c.in_ok-condition-in-If.ensures first

pub statement_kind-returns-in-Some : goal.statement_kind-returns-in-Some
statement_kind-returns-in-Some t c =
    let w = c.args.world.now in
    let first : Told (here w) (spec.telling c.get.result.now) c.args.scopes.now c.statement.new.scopes c.condition.new.notes c.statement.new.notes =
    record { notes = c.in_ok-statement-in-If.ensures.notes; scope = c.in_ok-statement-in-If.ensures.scope; keeps = c.in_ok-statement-in-If.ensures.keeps } in
    on_ok_weaker c.statement-in-Some.result
    (if_else_told c.args.k.now c.args.span c.in-If.e c.in-If.then c.get.result.now c.in-If.other c.in-Some.other c.get-in-Some.result.now c.in-If.is c.in-Some.is c.get.ensures c.get-in-Some.ensures
    c.in_ok-condition-in-If.ensures first)
    (told_if (here w) (spec.telling c.get-in-Some.result.now) c.statement.new.scopes c.statement-in-Some.new.scopes c.statement.new.notes c.statement-in-Some.new.notes
    c.statement-in-Some.result c.statement-in-Some.ensures.notes c.statement-in-Some.ensures.scope c.statement-in-Some.ensures.keeps)

pub statement_kind-returns-in_ok-statements-in-For : goal.statement_kind-returns-in_ok-statements-in-For
statement_kind-returns-in_ok-statements-in-For t c =
    let w = c.args.world.now in
    let first : Told (here w) (spec.all_told (map spec.telling c.as_slice-in-For.result.now)) c.enter.new.self c.statements.new.scopes c.args.notes.now c.statements.new.notes =
    record { notes = c.in_ok-statements-in-For.ensures.notes; scope = c.in_ok-statements-in-For.ensures.scope; keeps = c.in_ok-statements-in-For.ensures.keeps } in
    let into = c.enter.ensures in
    let left = c.leave.ensures in
    let locals : c.enter.new.self.locals.entries ≡ c.args.scopes.now.locals.entries = ap (λ l. l.entries) into.locals in
    let entered : here w c.enter.new.self ≡ here w c.args.scopes.now =
    rw (into.class, into.has_object, into.in_constructor, into.in_loop, into.names_fields, into.result, into.pending, into.next, into.params, into.locals) refl in
    let rest : here w c.leave.new.self ≡ record (here w c.looped-in-For.new.scopes) { names = names c.leave.new.self } =
    rw (left.class, left.has_object, left.in_constructor, left.in_loop, left.names_fields, left.result, left.pending, left.next) refl in
    both_ok c.condition_and_updates.result c.looped-in-For.result c.and-told.result _ _ _ c.and-told.ensures c.condition_and_updates.ensures c.looped-in-For.ensures
    (λ asked loop.
    for_told c.args.k.now c.args.span c.in-For.first c.as_slice-in-For.result.now c.in-For.e c.in-For.next c.as_slice-updates.result.now c.in-For.body c.get-in-For.result.now
    c.in-For.is c.as_slice-in-For.ensures c.as_slice-updates.ensures c.get-in-For.ensures
    (told_closed (told_then first (told_before (λ s. spec.condition_or_none c.in-For.e s ++ spec.all_run c.as_slice-updates.result.now s) asked loop))
    entered into.params locals c.in_ok-enter-in-For.ensures.marks left.params left.locals left.marks (same_names c.args.scopes.now c.leave.new.self) rest))
