-- Code of a tree in which no access stands at a place has none at that place: expressions, initialisers and declarations.
use Rattle.std.proofs.Common.{◌≡◌, ℕ, true, List, [], ◌∷◌, Option, Some, None}
use Rattle.std.proofs.lemmas.Bool.{and_parts}
use Rattle.ix_text.specs.declared.span.Span.{Span}
use Rattle.ix_tree.specs.declared.decl.LocalDecl.{LocalDecl}
use Rattle.ix_tree.specs.declared.expr.Expr.{Expr}
use Rattle.ix_tree.specs.declared.expr.Init.{Init}
use Rattle.ix_plain.specs.declared.body.Body.{Body}
use Rattle.ix_plain.specs.Scope.{Site, Scope}
use Rattle.ix_plain.specs.Values.{lowering, filling}
use Rattle.ix_plain.specs.Assigned.{assigns, init_assigns}
use Rattle.ix_plain.specs.Statements.{scope_for, ran, tested, returned, printed, with_local, declaration, declarations}
use Rattle.ix_formed.specs.Additions.{Makes}
use Rattle.ix_formed.specs.Readable.{is_readable_expr, is_readable_init, is_readable_decl}
use Rattle.ix_formed.specs.Written.{maybe_true, each_true}
use Rattle.ix_formed.proofs.NumberLists.{all_split}
use Rattle.ix_guard.specs.Accesses.{parts_of, init_parts}
use Rattle.ix_guard_promise.specs.Pieces.{IsElsewhere}
use Rattle.ix_guard_promise.specs.AllAccesses.{all_accesses, init_accesses, decl_accesses, maybe, each_of}
use Rattle.ix_guard_promise.specs.AtPlace.{IsOff, HasNone}
use Rattle.ix_guard_promise.specs.KeptSlots.{Leaves, Leaving, FillsLeaving}
use Rattle.ix_guard_promise.proofs.KeptExpressions.{makes_all, expression_leaves, initialiser_leaves}
use Rattle.ix_guard_promise.proofs.KeptFits.{Anywhere, elsewhere_allows, elsewhere_cells, all_off}
use Rattle.ix_guard_promise.proofs.FullExpressions.{TestLeaves, ran_leaves, printed_leaves, returned_leaves, tested_leaves}
use Rattle.ix_guard_promise.proofs.Declarations.{InitLeaving, DeclsLeaving, declarations_leave}

module _ (place : Span) where
  -- An expression, as each place wants it,
  pub expression_elsewhere : (scope : Scope) (e : Expr) → is_readable_expr e ≡ true → HasNone place (all_accesses e) → Leaving (IsElsewhere place) Anywhere scope (lowering e)
  expression_elsewhere scope e fine none =
      expression_leaves (elsewhere_allows place) (IsOff place) scope (elsewhere_cells place scope) e fine (all_off place scope (parts_of e).assigned) none

  -- and an initialiser.
  pub initialiser_elsewhere : (scope : Scope) (i : Init) → is_readable_init i ≡ true → HasNone place (init_accesses i) → FillsLeaving (IsElsewhere place) Anywhere scope (filling i)
  initialiser_elsewhere scope i fine none =
      initialiser_leaves (elsewhere_allows place) (IsOff place) scope (elsewhere_cells place scope) i fine (all_off place scope (init_parts i).assigned) none

  module _ (site : Site) where
    module _ (body : Body) (e : Expr) (fine : is_readable_expr e ≡ true) (none : HasNone place (all_accesses e)) where
      -- an expression as a statement
      pub ran_elsewhere : Makes (λ after. Leaves (IsElsewhere place) body.made after.made) (ran site e body)
      ran_elsewhere = ran_leaves (elsewhere_allows place) site body tt e (expression_elsewhere (scope_for site body (assigns e).inside) e fine none)

      -- one that is printed
      pub printed_elsewhere : Makes (λ after. Leaves (IsElsewhere place) body.made after.made) (printed e site body)
      printed_elsewhere = printed_leaves (elsewhere_allows place) site body tt e (expression_elsewhere (scope_for site body (assigns e).inside) e fine none)

      -- one that is returned
      pub returned_elsewhere : (span : Span) → Makes (λ after. Leaves (IsElsewhere place) body.made after.made) (returned (Some e) span site body)
      returned_elsewhere span = returned_leaves (elsewhere_allows place) site body tt e span (expression_elsewhere (scope_for site body (assigns e).inside) e fine none)

      -- an expression as a condition
      pub tested_elsewhere : Makes (TestLeaves (IsElsewhere place) body) (tested site e body)
      tested_elsewhere = tested_leaves (elsewhere_allows place) site body tt e (expression_elsewhere (scope_for site body (assigns e).inside) e fine none)

    -- ---- declarations of locals

    maybe_leaving : (end : ℕ) (init : Option Init) (body : Body) → maybe_true is_readable_init init ≡ true → HasNone place (maybe init_accesses init)
        → InitLeaving (IsElsewhere place) Anywhere site end init body
    maybe_leaving end None body fine none = tt
    maybe_leaving end (Some init) body fine none = initialiser_elsewhere (scope_for site body (init_assigns init)) init fine none

    decls_leaving : (end : ℕ) (decls : List LocalDecl) (body : Body) → each_true is_readable_decl decls ≡ true → HasNone place (each_of decl_accesses decls)
        → DeclsLeaving (IsElsewhere place) Anywhere site end decls body
    decls_leaving end [] body fine none = tt
    decls_leaving end (decl ∷ decls) body fine none =
        let f = and_parts (is_readable_decl decl) (each_true is_readable_decl decls) fine in
        let n = all_split (IsOff place) (decl_accesses decl) (each_of decl_accesses decls) none in (
          makes_all (InitLeaving (IsElsewhere place) Anywhere site end decl.init) (with_local decl.name end site body) (λ inner. maybe_leaving end decl.init inner f.0 n.0),
          makes_all (DeclsLeaving (IsElsewhere place) Anywhere site end decls) (declaration decl site end body) (λ after. decls_leaving end decls after f.1 n.1),
        )

    pub declarations_elsewhere : (end : ℕ) (decls : List LocalDecl) (body : Body) → each_true is_readable_decl decls ≡ true → HasNone place (each_of decl_accesses decls)
        → Makes (λ after. Leaves (IsElsewhere place) body.made after.made) (declarations decls site end body)
    declarations_elsewhere end decls body fine none = declarations_leave (elsewhere_allows place) site end decls body tt (decls_leaving end decls body fine none)
