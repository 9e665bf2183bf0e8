-- What a full expression in a body adds has the property, as each statement uses it.
use Rattle.std.proofs.Common.{◌≡◌, ℕ, Bool, true, false, [], Some, Ok, refl, sym, subst, arith}
use Rattle.std.specs.Prelude.{if◌then◌else◌}
use Rattle.ix_text.specs.declared.span.Span.{Span}
use Rattle.ix_core.specs.declared.claim.Type_.{Type_}
use Rattle.ix_core.specs.declared.code.Cond.{Cond}
use Rattle.ix_core.specs.declared.code.Item.{Item}
use Rattle.ix_core.specs.declared.code.Item.TheVariants as item
use Rattle.ix_core.specs.declared.op.Literal.TheVariants as literal
use Rattle.ix_core.specs.declared.op.Op.{Op}
use Rattle.ix_core.specs.declared.op.OpKind.TheVariants as op
use Rattle.ix_core.specs.Code.{End, item_code, cond_code}
use Rattle.ix_core.proofs.Translated.{item_code-If}
use Rattle.ix_tree.specs.declared.expr.Expr.{Expr}
use Rattle.ix_tree.specs.declared.expr.Init.{Init}
use Rattle.ix_plain.specs.declared.body.Body.{Body}
use Rattle.ix_plain.specs.declared.made.Made.{Made}
use Rattle.ix_plain.specs.declared.made.Spot.{Spot}
use Rattle.ix_plain.specs.Scope.{Site}
use Rattle.ix_plain.specs.Parts.{done, taking, with_item}
use Rattle.ix_plain.specs.Values.{lowering, filling}
use Rattle.ix_plain.specs.Assigned.{assigns, init_assigns}
use Rattle.ix_plain.specs.Statements.{Tested, scope_for, evaluated, behind_value, init_evaluated, with_last, used, ran, tested, answer, answer_item, answered, returned, printed}
use Rattle.ix_formed.specs.Additions.{Makes}
use Rattle.ix_formed.proofs.PlainItems.{makes_then}
use Rattle.ix_guard_promise.specs.Pieces.{EachOp, EachAsked, HasNoLoop, AsksNoLoop}
use Rattle.ix_guard_promise.specs.KeptSlots.{Leaves, LeavesAsked, Leaving, FillsLeaving}
use Rattle.ix_guard_promise.proofs.KeptItems.{Allows, leaves_both, item_leaves, taking_leaves}

-- A tested condition has the property, and nothing is added before it.
pub record TestLeaves (P : Op → Type 0) (body : Body) (t : Tested) : Type 0 where
  pub asked : LeavesAsked P body.made.free (record { cond = t.cond; free = body.made.free })
  pub made : t.body.made ≡ body.made
  pub locals : t.body.locals ≡ body.locals

module _ {P : Op → Type 0} {Low : ℕ → Type 0} {Aims : Spot → Type 0} (allows : Allows P Low Aims) (site : Site) (body : Body) (low : Low body.made.free) where
  -- what is free again behind it plays no part
  pub freed : (after : Made) → Leaves P body.made after → Leaves P body.made (record { items = after.items; free = body.made.free })
  freed after l = record { items = l.items; appended = l.appended; each = l.each; no_loop = l.no_loop; up = omega arith }

  pub evaluated_leaves : (e : Expr) → Leaving P Low (scope_for site body (assigns e).inside) (lowering e) → Makes (λ v. Leaves P body.made v.body.made) (evaluated site e body)
  evaluated_leaves e leaving =
      makes_then (λ v. Leaves P body.made v.made) (λ v. Leaves P body.made v.body.made) ((lowering e).value (scope_for site body (assigns e).inside) body.made) (behind_value body)
      (leaving.value body.made low) (λ v l. freed v.made l)

  pub init_evaluated_leaves : (i : Init) (ty : Type_) → FillsLeaving P Low (scope_for site body (init_assigns i)) (filling i) → Makes (λ v. Leaves P body.made v.body.made) (init_evaluated site i ty body)
  init_evaluated_leaves i ty leaving =
      makes_then (λ v. Leaves P body.made v.made) (λ v. Leaves P body.made v.body.made) ((filling i).value (scope_for site body (init_assigns i)) ty body.made) (behind_value body)
      (leaving ty body.made low) (λ v l. freed v.made l)

  -- an expression as a statement
  pub ran_leaves : (e : Expr) → Leaving P Low (scope_for site body (assigns e).inside) (lowering e) → Makes (λ after. Leaves P body.made after.made) (ran site e body)
  ran_leaves e leaving =
      makes_then (λ v. Leaves P body.made v.body.made) (λ after. Leaves P body.made after.made) (evaluated site e body) (λ v. Ok v.body) (evaluated_leaves e leaving) (λ v l. l)

  -- an expression whose value an item uses that has the property
  pub used_leaves : (e : Expr) (last : ℕ → Item) → ((slot : ℕ) → EachOp P (item_code (last slot) End)) → ((slot : ℕ) → HasNoLoop (item_code (last slot) End))
      → Leaving P Low (scope_for site body (assigns e).inside) (lowering e) → Makes (λ after. Leaves P body.made after.made) (used site e last body)
  used_leaves e last each no_loop leaving =
      makes_then (λ v. Leaves P body.made v.body.made) (λ after. Leaves P body.made after.made) (evaluated site e body) (λ v. Ok (with_last v.body (last v.slot)))
      (evaluated_leaves e leaving)
      (λ v l. leaves_both body.made v.body.made (with_item v.body.made (last v.slot)) l (item_leaves v.body.made (last v.slot) (each v.slot) (no_loop v.slot)))

  -- one that is printed
  pub printed_leaves : (e : Expr) → Leaving P Low (scope_for site body (assigns e).inside) (lowering e) → Makes (λ after. Leaves P body.made after.made) (printed e site body)
  printed_leaves e leaving = used_leaves e (λ slot. done (op.Print slot) e.span []) (λ slot. (allows.prints slot e.span [], tt)) (λ slot. tt) leaving

  -- an expression as a condition
  pub tested_leaves : (e : Expr) → Leaving P Low (scope_for site body (assigns e).inside) (lowering e) → Makes (TestLeaves P body) (tested site e body)
  tested_leaves e leaving =
      makes_then (LeavesAsked P body.made.free) (TestLeaves P body) ((lowering e).condition (scope_for site body (assigns e).inside) body.made.free) _
      (leaving.condition body.made.free low)
      (λ asked l. record { asked = record { each = l.each; no_loop = l.no_loop; up = omega arith }; made = refl; locals = refl })

  -- ---- what is returned

  -- a choice between two answers, each of which is returned
  answers_each : (asked : Cond) (slot : ℕ) (span : Span) → Low slot → EachAsked P (cond_code asked) → EachOp P (item_code (answer_item asked slot span) End)
  answers_each asked slot span here each =
      let op_one : Op = record { kind = op.Const slot (literal.Bool true); span = span; parts = [] } in
      let op_two : Op = record { kind = op.Const slot (literal.Bool false); span = span; parts = [] } in
      let each_one : P op_one = allows.fresh op_one slot here refl (λ s. refl) in
      let each_two : P op_two = allows.fresh op_two slot here refl (λ s. refl) in
      subst (EachOp P) (sym (item_code-If asked (answer true slot span) (answer false slot span) End)) (each, ((each_one, tt), ((each_two, tt), tt)))

  answers_plain : (asked : Cond) (slot : ℕ) (span : Span) → AsksNoLoop (cond_code asked) → HasNoLoop (item_code (answer_item asked slot span) End)
  answers_plain asked slot span plain = subst HasNoLoop (sym (item_code-If asked (answer true slot span) (answer false slot span) End)) (plain, (tt, (tt, tt)))

  answered_leaves : (e : Expr) → Leaving P Low (scope_for site body (assigns e).inside) (lowering e) → Makes (λ after. Leaves P body.made after.made) (answered site e body)
  answered_leaves e leaving =
      makes_then (LeavesAsked P body.made.free) (λ after. Leaves P body.made after.made) ((lowering e).condition (scope_for site body (assigns e).inside) body.made.free) _
      (leaving.condition body.made.free low)
      (λ asked l.
      let start : Made = record { items = body.made.items; free = asked.free } in
      makes_then (λ v. Leaves P start v.made) (λ after. Leaves P body.made after.made) (taking start (answer_item asked.cond asked.free e.span)) _
      (taking_leaves P start (answer_item asked.cond asked.free e.span) (answers_each asked.cond asked.free e.span (allows.on body.made.free asked.free low l.up) l.each)
      (answers_plain asked.cond asked.free e.span l.no_loop))
      (λ v m. record { items = m.items; appended = m.appended; each = m.each; no_loop = m.no_loop; up = omega arith }))

  pub returned_leaves : (e : Expr) (span : Span) → Leaving P Low (scope_for site body (assigns e).inside) (lowering e) → Makes (λ after. Leaves P body.made after.made) (returned (Some e) span site body)
  returned_leaves e span leaving = answers_or_not site.answers
    where
      answers_or_not : (answers : Bool) → Makes (λ after. Leaves P body.made after.made) (if answers then answered site e body else used site e (λ slot. item.Return (Some slot) e.span) body)
      answers_or_not true = answered_leaves e leaving
      answers_or_not false = used_leaves e (λ slot. item.Return (Some slot) e.span) (λ slot. tt) (λ slot. tt) leaving
