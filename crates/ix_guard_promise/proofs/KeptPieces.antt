-- Full expressions and declarations in a body that assign neither variable keep what a guard's test tells, where at the place only the access on these two variables is made.
use Rattle.std.proofs.Common.{◌≡◌, ℕ, true, List, [], ◌∷◌, Some, None, Option}
use Rattle.std.proofs.lemmas.Bool.{and_parts}
use Rattle.ix_text.specs.declared.span.Span.{Span}
use Rattle.ix_core.specs.declared.code.Item.{Item}
use Rattle.ix_core.specs.Code.{End, item_code, items_code, cond_code}
use Rattle.ix_tree.specs.declared.decl.LocalDecl.{LocalDecl}
use Rattle.ix_tree.specs.declared.expr.Expr.{Expr}
use Rattle.ix_tree.specs.declared.expr.Init.{Init}
use Rattle.ix_plain.specs.declared.body.Body.{Body}
use Rattle.ix_plain.specs.declared.made.Made.{Made}
use Rattle.ix_plain.specs.Scope.{Site}
use Rattle.ix_plain.specs.Parts.{Asked}
use Rattle.ix_plain.specs.Values.{lowering, filling}
use Rattle.ix_plain.specs.Assigned.{assigns, init_assigns}
use Rattle.ix_plain.specs.Statements.{scope_of, scope_for, assigned_by, evaluated, used, ran, tested, returned, printed, with_local, declaration, declarations}
use Rattle.ix_formed.specs.Additions.{Makes}
use Rattle.ix_formed.specs.Readable.{is_readable_expr, is_readable_init, is_readable_decl}
use Rattle.ix_formed.specs.Written.{maybe_true, each_true}
use Rattle.ix_formed.proofs.PlainItems.{makes_more}
use Rattle.ix_guard.specs.Accesses.{parts_of, init_parts}
use Rattle.ix_guard_promise.specs.Known.{Inside}
use Rattle.ix_guard_promise.specs.Guards.{Guarded, GuardedAsked}
use Rattle.ix_guard_promise.specs.Pieces.{EachOp, HasNoLoop, Keeps}
use Rattle.ix_guard_promise.proofs.GuardedPieces.{keeps, keeps_asked}
use Rattle.ix_guard_promise.specs.AllAccesses.{all_accesses, init_accesses}
use Rattle.ix_guard_promise.specs.OnlyThere.{IsOnThese}
use Rattle.ix_guard_promise.specs.KeptSlots.{AreBelow, Leaves, LeavesAsked, Leaving, FillsLeaving}
use Rattle.ix_guard_promise.specs.Targets.{IsKept, IsInitKept, MaybeKept, DeclsKept}
use Rattle.ix_guard_promise.proofs.KeptExpressions.{expression_leaves, initialiser_leaves}
use Rattle.ix_guard_promise.proofs.KeptFits.{kept_allows, kept_cells, only_same, all_beside}
use Rattle.ix_guard_promise.proofs.AssignedApart.{unassigned, init_unassigned}
use Rattle.ix_guard_promise.proofs.FullExpressions.{TestLeaves, evaluated_leaves, ran_leaves, used_leaves, printed_leaves, returned_leaves, tested_leaves}
use Rattle.ix_guard_promise.proofs.Declarations.{InitLeaving, DeclsLeaving, declarations_leave}

module _ (place : Span) (array index : ℕ) where
  -- Behind a guard's test what was added is guarded, and what the test tells is known at its end.
  pub leaves_guarded : (before after : Made) (l : Leaves (Keeps place array index) before after) → Guarded place (Inside array index) (items_code l.items) (Inside array index)
  leaves_guarded before after l = keeps place array index (items_code l.items) l.each l.no_loop

  pub asked_guarded : (before : ℕ) (asked : Asked) → LeavesAsked (Keeps place array index) before asked
      → GuardedAsked place (Inside array index) (cond_code asked.cond) (Inside array index) (Inside array index)
  asked_guarded before asked l = keeps_asked place array index (cond_code asked.cond) l.each l.no_loop

  module _ (site : Site) where
    -- ---- what the plain code of a kept expression is, as each place wants it

    pub kept_leaving : (e : Expr) (body : Body) → is_readable_expr e ≡ true → IsKept place array index site e body
        → Leaving (Keeps place array index) (AreBelow array index) (scope_for site body (assigns e).inside) (lowering e)
    kept_leaving e body fine kept =
        let assigned = assigned_by site body (assigns e).inside in
        expression_leaves (kept_allows place array index) (IsOnThese place array index (scope_for site body (assigns e).inside)) (scope_for site body (assigns e).inside)
        (kept_cells place array index (scope_for site body (assigns e).inside) (unassigned array index (scope_of site body []) e kept.apart)) e fine
        (all_beside site body [] assigned place array index (parts_of e).assigned kept.apart) (only_same site body [] assigned place array index (all_accesses e) kept.only)

    pub init_kept_leaving : (i : Init) (body : Body) → is_readable_init i ≡ true → IsInitKept place array index site i body
        → FillsLeaving (Keeps place array index) (AreBelow array index) (scope_for site body (init_assigns i)) (filling i)
    init_kept_leaving i body fine kept =
        let assigned = assigned_by site body (init_assigns i) in
        initialiser_leaves (kept_allows place array index) (IsOnThese place array index (scope_for site body (init_assigns i))) (scope_for site body (init_assigns i))
        (kept_cells place array index (scope_for site body (init_assigns i)) (init_unassigned array index (scope_of site body []) i kept.apart)) i fine
        (all_beside site body [] assigned place array index (init_parts i).assigned kept.apart) (only_same site body [] assigned place array index (init_accesses i) kept.only)

    module _ (body : Body) (below : AreBelow array index body.made.free) (e : Expr) (fine : is_readable_expr e ≡ true) (kept : IsKept place array index site e body) where
      pub kept_evaluated : Makes (λ v. Leaves (Keeps place array index) body.made v.body.made) (evaluated site e body)
      kept_evaluated = evaluated_leaves (kept_allows place array index) site body below e (kept_leaving e body fine kept)

      -- an expression as a statement
      pub kept_ran : Makes (λ after. Leaves (Keeps place array index) body.made after.made) (ran site e body)
      kept_ran = ran_leaves (kept_allows place array index) site body below e (kept_leaving e body fine kept)

      -- one whose value an item uses
      pub kept_used : (last : ℕ → Item) → ((slot : ℕ) → EachOp (Keeps place array index) (item_code (last slot) End)) → ((slot : ℕ) → HasNoLoop (item_code (last slot) End))
          → Makes (λ after. Leaves (Keeps place array index) body.made after.made) (used site e last body)
      kept_used last each no_loop = used_leaves (kept_allows place array index) site body below e last each no_loop (kept_leaving e body fine kept)

      -- one that is printed
      pub kept_printed : Makes (λ after. Leaves (Keeps place array index) body.made after.made) (printed e site body)
      kept_printed = printed_leaves (kept_allows place array index) site body below e (kept_leaving e body fine kept)

      -- one that is returned
      pub kept_returned : (span : Span) → Makes (λ after. Leaves (Keeps place array index) body.made after.made) (returned (Some e) span site body)
      kept_returned span = returned_leaves (kept_allows place array index) site body below e span (kept_leaving e body fine kept)

      -- an expression as a condition
      pub kept_tested : Makes (TestLeaves (Keeps place array index) body) (tested site e body)
      kept_tested = tested_leaves (kept_allows place array index) site body below e (kept_leaving e body fine kept)

    -- ---- declarations of locals

    maybe_leaving : (end : ℕ) (init : Option Init) (body : Body) → maybe_true is_readable_init init ≡ true → MaybeKept place array index site init body
        → InitLeaving (Keeps place array index) (AreBelow array index) site end init body
    maybe_leaving end None body fine kept = tt
    maybe_leaving end (Some init) body fine kept = init_kept_leaving init body fine kept

    decls_leaving : (end : ℕ) (decls : List LocalDecl) (body : Body) → each_true is_readable_decl decls ≡ true → DeclsKept place array index site end decls body
        → DeclsLeaving (Keeps place array index) (AreBelow array index) site end decls body
    decls_leaving end [] body fine kept = tt
    decls_leaving end (decl ∷ decls) body fine kept =
        let f = and_parts (is_readable_decl decl) (each_true is_readable_decl decls) fine in (
          makes_more (MaybeKept place array index site decl.init) (InitLeaving (Keeps place array index) (AreBelow array index) site end decl.init)
              (λ inner k. maybe_leaving end decl.init inner f.0 k) (with_local decl.name end site body) kept.0,
          makes_more (DeclsKept place array index site end decls) (DeclsLeaving (Keeps place array index) (AreBelow array index) site end decls)
              (λ after k. decls_leaving end decls after f.1 k) (declaration decl site end body) kept.1,
        )

    pub kept_declarations : (end : ℕ) (decls : List LocalDecl) (body : Body) → AreBelow array index body.made.free → each_true is_readable_decl decls ≡ true
        → DeclsKept place array index site end decls body → Makes (λ after. Leaves (Keeps place array index) body.made after.made) (declarations decls site end body)
    kept_declarations end decls body below fine kept =
        declarations_leave (kept_allows place array index) site end decls body below (decls_leaving end decls body fine kept)
