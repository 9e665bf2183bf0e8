-- What declarations of locals add, each of which takes a new slot, has the property.
use Rattle.std.proofs.Common.{◌≡◌, ℕ, ◌+◌, Bool, true, false, List, [], ◌∷◌, ◌++◌, Option, Some, None, Ok, Err, refl, ap, ◌∙◌, arith}
use Rattle.std.specs.Prelude.{if◌then◌else◌, nat_lt}
use Rattle.ix_text.specs.declared.span.Span.{Span}
use Rattle.ix_core.specs.declared.claim.Type_.{Type_}
use Rattle.ix_core.specs.declared.op.Op.{Op}
use Rattle.ix_core.specs.declared.op.OpKind.TheVariants as op
use Rattle.ix_tree.specs.declared.annot.Ident.{Ident}
use Rattle.ix_tree.specs.declared.decl.LocalDecl.{LocalDecl}
use Rattle.ix_tree.specs.declared.expr.Init.{Init}
use Rattle.ix_plain.specs.declared.body.Body.{Body}
use Rattle.ix_plain.specs.declared.made.Spot.{Spot}
use Rattle.ix_plain.specs.declared.made.Spot.TheVariants as spot
use Rattle.ix_plain.specs.Scope.{Site, declared_type}
use Rattle.ix_plain.specs.Parts.{◌>>=◌, computed, default, most_slots}
use Rattle.ix_plain.specs.Assigned.{init_assigns}
use Rattle.ix_plain.specs.Values.{filling}
use Rattle.ix_plain.specs.Statements.{scope_for, behind_value, init_evaluated, with_local, initialised, declaration, declarations}
use Rattle.ix_formed.specs.Additions.{Makes}
use Rattle.ix_formed.proofs.PlainItems.{makes_more, makes_then, makes_both}
use Rattle.ix_guard_promise.specs.KeptSlots.{Leaves, FillsLeaving}
use Rattle.ix_guard_promise.proofs.KeptItems.{Allows, leaves_none, leaves_both, computed_leaves, write_leaves}
use Rattle.ix_guard_promise.proofs.FullExpressions.{freed, init_evaluated_leaves}

-- made in one of two cases alone
made_if : {A E : Type 0} (P : A → Type 0) (b : Bool) (made : A) (limit : E) → P made → Makes P (if b then Ok made else Err limit)
made_if P true made limit holds = holds
made_if P false made limit holds = tt

-- the slot that a local takes
record TakesOne (body inner : Body) : Type 0 where
  items : inner.made.items ≡ body.made.items
  free : inner.made.free ≡ body.made.free + 1

module _ (P : Op → Type 0) (Low : ℕ → Type 0) (site : Site) (end : ℕ) where
  -- what an initialiser adds has the property in the body where its local is in scope,
  abbrev pub InitLeaving : Option Init → Body → Type 0
  InitLeaving None body = Unit {0}
  InitLeaving (Some init) body = FillsLeaving P Low (scope_for site body (init_assigns init)) (filling init)

  abbrev pub DeclLeaving : LocalDecl → Body → Type 0
  DeclLeaving decl body = Makes (InitLeaving decl.init) (with_local decl.name end site body)

-- and so of declarations one after the other
abbrev pub DeclsLeaving : (P : Op → Type 0) → (Low : ℕ → Type 0) → Site → ℕ → List LocalDecl → Body → Type 0
DeclsLeaving P Low site end [] body = Unit {0}
DeclsLeaving P Low site end (decl ∷ decls) body = DeclLeaving P Low site end decl body × Makes (DeclsLeaving P Low site end decls) (declaration decl site end body)

module _ {P : Op → Type 0} {Low : ℕ → Type 0} {Aims : Spot → Type 0} (allows : Allows P Low Aims) (site : Site) where
  local_takes : (name : Ident) (end : ℕ) (body : Body) → Makes (TakesOne body) (with_local name end site body)
  local_takes name end body = made_if (TakesOne body) (nat_lt body.made.free most_slots) _ _ (record { items = refl; free = refl })

  initialised_leaves : (slot : ℕ) (ty : Type_) (name : Span) (init : Option Init) (end : ℕ) (inner : Body) → Low inner.made.free → Low slot
      → InitLeaving P Low site end init inner → Makes (λ after. Leaves P inner.made after.made) (initialised slot ty name init site inner)
  initialised_leaves slot ty name None end inner below own leaving =
      makes_then (λ v. Leaves P inner.made v.body.made) (λ after. Leaves P inner.made after.made)
      (computed inner.made (op.Const inner.made.free (default ty)) name >>= behind_value inner) _
      (makes_then (λ v. Leaves P inner.made v.made) (λ v. Leaves P inner.made v.body.made) (computed inner.made (op.Const inner.made.free (default ty)) name) (behind_value inner)
      (computed_leaves allows inner.made (op.Const inner.made.free (default ty)) name below refl (λ s. refl)) (λ v l. freed allows site inner below v.made l))
      (λ v l. leaves_both inner.made v.body.made _ l (write_leaves allows v.body.made (spot.Variable slot) v.slot ty name name name (allows.own slot own)))
  initialised_leaves slot ty name (Some i) end inner below own leaving =
      makes_then (λ v. Leaves P inner.made v.body.made) (λ after. Leaves P inner.made after.made) (init_evaluated site i ty inner) _
      (init_evaluated_leaves allows site inner below i ty leaving)
      (λ v l. leaves_both inner.made v.body.made _ l
      (write_leaves allows v.body.made (spot.Variable slot) v.slot ((filling i).ty site ty) (filling i).span name (filling i).span (allows.own slot own)))

  behind_local : (body inner after : Body) → TakesOne body inner → Leaves P inner.made after.made → Leaves P body.made after.made
  behind_local body inner after takes l = record {
    items = l.items;
    appended = l.appended ∙ ap (λ items. items ++ l.items) takes.items;
    each = l.each;
    no_loop = l.no_loop;
    up = let x = l.up in let y = takes.free in omega (arith, x, y);
  }

  pub declaration_leaves : (end : ℕ) (decl : LocalDecl) (body : Body) → Low body.made.free → DeclLeaving P Low site end decl body
      → Makes (λ after. Leaves P body.made after.made) (declaration decl site end body)
  declaration_leaves end decl body below leaving =
      makes_then (λ inner. TakesOne body inner × InitLeaving P Low site end decl.init inner) (λ after. Leaves P body.made after.made) (with_local decl.name end site body) _
      (makes_both (TakesOne body) (InitLeaving P Low site end decl.init) (with_local decl.name end site body) (local_takes decl.name end body) leaving)
      (λ inner known.
      let ty = declared_type (site.names.declared decl.name.span) in
      let on = allows.on body.made.free inner.made.free below (let y = known.0.free in omega (arith, y)) in
      makes_more (λ after. Leaves P inner.made after.made) (λ after. Leaves P body.made after.made) (λ after l. behind_local body inner after known.0 l)
      (initialised body.made.free ty decl.name.span decl.init site inner)
      (initialised_leaves body.made.free ty decl.name.span decl.init end inner on below known.1))

  pub declarations_leave : (end : ℕ) (decls : List LocalDecl) (body : Body) → Low body.made.free → DeclsLeaving P Low site end decls body
      → Makes (λ after. Leaves P body.made after.made) (declarations decls site end body)
  declarations_leave end [] body below leaving = leaves_none body.made
  declarations_leave end (decl ∷ decls) body below leaving =
      makes_then (λ after. Leaves P body.made after.made × DeclsLeaving P Low site end decls after) (λ last. Leaves P body.made last.made) (declaration decl site end body) _
      (makes_both (λ after. Leaves P body.made after.made) (DeclsLeaving P Low site end decls) (declaration decl site end body) (declaration_leaves end decl body below leaving.0) leaving.1)
      (λ after known. makes_more (λ last. Leaves P after.made last.made) (λ last. Leaves P body.made last.made) (λ last l. leaves_both body.made after.made last.made known.0 l)
      (declarations decls site end after) (declarations_leave end decls after (allows.on body.made.free after.made.free below known.0.up) known.1))
