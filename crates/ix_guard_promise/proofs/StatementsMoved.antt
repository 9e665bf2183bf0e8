-- The accesses in a moved statement are those of the statement, each at its place moved.
use Rattle.std.proofs.Common.{◌≡◌, List, [], ◌∷◌, ◌++◌, map, Option, Some, None, refl, sym, ap, ap₂, subst, ◌∙◌}
use Rattle.ix_tree.specs.declared.expr.Expr.{Expr}
use Rattle.ix_tree.specs.declared.stmt.Stmt.{Stmt, Stmt-F, ind-Stmt, map-Stmt, roll-Stmt, fold-roll-Stmt}
use Rattle.ix_tree.specs.declared.stmt.StmtKind.{StmtKind, StmtKind-F, map-StmtKind, roll-StmtKind, fold-roll-StmtKind}
use Rattle.ix_tree.proofs.FoldsOfForms as fold
use Rattle.ix_guard_text.specs.Bare.{bare_maybe}
use Rattle.ix_guard_text.specs.Moved as moved
use Rattle.ix_guard_text.specs.Moved.{Move, moved_span, moved_name, moved_expr, moved_decl, moved_stmt}
use Rattle.ix_guard_promise.specs.AllAccesses.{AnyAccess, all, maybe, each_of, all_accesses}
use Rattle.ix_guard_promise.specs.AtPlace as at_place
use Rattle.ix_guard_promise.specs.AtPlace.{stmt_accesses}
use Rattle.ix_guard_promise.proofs.AccessesMoved.{moved_any, both_moved, all_moved, accesses_moved, decls_accesses_moved}

module _ (move : Move) where
  abbrev All : List AnyAccess → List AnyAccess
  All accesses = map (moved_any move) accesses

  -- one list behind the other
  join : (xs ys there others : List AnyAccess) → there ≡ All xs → others ≡ All ys → there ++ others ≡ All (xs ++ ys)
  join xs ys there others a b = ap₂ (λ (l : List AnyAccess) (m : List AnyAccess). l ++ m) a b ∙ both_moved move xs ys

  maybe_moved : (o : Option Expr) → maybe all_accesses (bare_maybe (moved_expr move) o) ≡ All (maybe all_accesses o)
  maybe_moved None = refl
  maybe_moved (Some x) = accesses_moved move x

  pub exprs_moved : (xs : List Expr) → each_of all_accesses (map (moved_expr move) xs) ≡ All (each_of all_accesses xs)
  exprs_moved [] = refl
  exprs_moved (x ∷ xs) = join (all_accesses x) (each_of all_accesses xs) (all_accesses (moved_expr move x)) (each_of all_accesses (map (moved_expr move) xs)) (accesses_moved move x) (exprs_moved xs)

  abbrev kind_accesses : StmtKind → List AnyAccess
  kind_accesses = fold.of_stmt_kind at_place.stmt_kind_step at_place.stmt_step

  abbrev moved_kind : StmtKind → StmtKind
  moved_kind = fold.of_stmt_kind (moved.stmt_kind_step move) (moved.stmt_step move)

  abbrev KindIs : StmtKind → Type 0
  KindIs k = kind_accesses (moved_kind k) ≡ All (kind_accesses k)

  abbrev StmtIs : Stmt → Type 0
  StmtIs x = stmt_accesses (moved_stmt move x) ≡ All (stmt_accesses x)

  module _ {K S : Type 0} (kind : K → StmtKind) (stmt : S → Stmt) (stmt_is : (x : S) → StmtIs (stmt x)) where
    abbrev there : S → Stmt
    there x = moved_stmt move (stmt x)

    list_is : (xs : List S) → map stmt_accesses (map (moved_stmt move) (map stmt xs)) ≡ map All (map stmt_accesses (map stmt xs))
    list_is [] = refl
    list_is (x ∷ xs) = ap₂ (λ (l : List AnyAccess) (ls : List (List AnyAccess)). l ∷ ls) (stmt_is x) (list_is xs)

    several_are : (xs : List S) → all (map stmt_accesses (map (moved_stmt move) (map stmt xs))) ≡ All (all (map stmt_accesses (map stmt xs)))
    several_are xs = ap all (list_is xs) ∙ all_moved move (map stmt_accesses (map stmt xs))

    kind_layer : (y : StmtKind-F K S)
        → kind_accesses (moved.stmt_kind_step move (map-StmtKind StmtKind Stmt StmtKind Stmt moved_kind (moved_stmt move) (map-StmtKind K S StmtKind Stmt kind stmt y)))
        ≡ All (at_place.stmt_kind_step (map-StmtKind StmtKind Stmt (List AnyAccess) (List AnyAccess) kind_accesses stmt_accesses (map-StmtKind K S StmtKind Stmt kind stmt y)))
    kind_layer (StmtKind-F.Block xs) = fold.block_kind at_place.stmt_kind_step at_place.stmt_step (map (moved_stmt move) (map stmt xs)) ∙ several_are xs
    kind_layer StmtKind-F.Empty = fold.empty_kind at_place.stmt_kind_step at_place.stmt_step
    kind_layer (StmtKind-F.Local decls) = fold.local_kind at_place.stmt_kind_step at_place.stmt_step (map (moved_decl move) decls) ∙ decls_accesses_moved move decls
    kind_layer (StmtKind-F.If condition first None) =
        fold.if_kind at_place.stmt_kind_step at_place.stmt_step (moved_expr move condition) (there first)
        ∙ join (all_accesses condition) (stmt_accesses (stmt first) ++ []) (all_accesses (moved_expr move condition)) (stmt_accesses (there first) ++ []) (accesses_moved move condition)
        (join (stmt_accesses (stmt first)) [] (stmt_accesses (there first)) [] (stmt_is first) refl)
    kind_layer (StmtKind-F.If condition first (Some second)) =
        fold.if_else_kind at_place.stmt_kind_step at_place.stmt_step (moved_expr move condition) (there first) (there second)
        ∙ join (all_accesses condition) (stmt_accesses (stmt first) ++ stmt_accesses (stmt second)) (all_accesses (moved_expr move condition)) (stmt_accesses (there first) ++ stmt_accesses (there second))
        (accesses_moved move condition) (join (stmt_accesses (stmt first)) (stmt_accesses (stmt second)) (stmt_accesses (there first)) (stmt_accesses (there second)) (stmt_is first) (stmt_is second))
    kind_layer (StmtKind-F.While condition turn) =
        fold.while_kind at_place.stmt_kind_step at_place.stmt_step (moved_expr move condition) (there turn)
        ∙ join (all_accesses condition) (stmt_accesses (stmt turn)) (all_accesses (moved_expr move condition)) (stmt_accesses (there turn)) (accesses_moved move condition) (stmt_is turn)
    kind_layer (StmtKind-F.Do turn condition) =
        fold.do_kind at_place.stmt_kind_step at_place.stmt_step (there turn) (moved_expr move condition)
        ∙ join (stmt_accesses (stmt turn)) (all_accesses condition) (stmt_accesses (there turn)) (all_accesses (moved_expr move condition)) (stmt_is turn) (accesses_moved move condition)
    kind_layer (StmtKind-F.For first condition update turn) =
        let behind = each_of all_accesses update ++ stmt_accesses (stmt turn) in
        let behind_there = each_of all_accesses (map (moved_expr move) update) ++ stmt_accesses (there turn) in
        fold.for_kind at_place.stmt_kind_step at_place.stmt_step (map (moved_stmt move) (map stmt first)) (bare_maybe (moved_expr move) condition) (map (moved_expr move) update) (there turn)
        ∙ join (all (map stmt_accesses (map stmt first))) (maybe all_accesses condition ++ behind) (all (map stmt_accesses (map (moved_stmt move) (map stmt first))))
        (maybe all_accesses (bare_maybe (moved_expr move) condition) ++ behind_there) (several_are first)
        (join (maybe all_accesses condition) behind (maybe all_accesses (bare_maybe (moved_expr move) condition)) behind_there (maybe_moved condition)
        (join (each_of all_accesses update) (stmt_accesses (stmt turn)) (each_of all_accesses (map (moved_expr move) update)) (stmt_accesses (there turn)) (exprs_moved update) (stmt_is turn)))
    kind_layer StmtKind-F.Break = fold.break_kind at_place.stmt_kind_step at_place.stmt_step
    kind_layer StmtKind-F.Continue = fold.continue_kind at_place.stmt_kind_step at_place.stmt_step
    kind_layer (StmtKind-F.Return value) = fold.return_kind at_place.stmt_kind_step at_place.stmt_step (bare_maybe (moved_expr move) value) ∙ maybe_moved value
    kind_layer (StmtKind-F.Throw name) = fold.throw_kind at_place.stmt_kind_step at_place.stmt_step (moved_name move name)
    kind_layer (StmtKind-F.Print value) = fold.print_kind at_place.stmt_kind_step at_place.stmt_step (moved_expr move value) ∙ accesses_moved move value
    kind_layer (StmtKind-F.Run x) = fold.run_kind at_place.stmt_kind_step at_place.stmt_step (moved_expr move x) ∙ accesses_moved move x

    kind_rolled : (y : StmtKind-F K S) → KindIs (roll-StmtKind (map-StmtKind K S StmtKind Stmt kind stmt y))
    kind_rolled y =
        let layer = map-StmtKind K S StmtKind Stmt kind stmt y in
        ap kind_accesses (fold-roll-StmtKind StmtKind Stmt (moved.stmt_kind_step move) (moved.stmt_step move) layer)
        ∙ kind_layer y ∙ ap (map (moved_any move)) (sym (fold-roll-StmtKind (List AnyAccess) (List AnyAccess) at_place.stmt_kind_step at_place.stmt_step layer))

    stmt_rolled : ((k : K) → KindIs (kind k)) → (y : Stmt-F K S) → StmtIs (roll-Stmt (map-Stmt K S StmtKind Stmt kind stmt y))
    stmt_rolled kind_is y =
        let layer = map-Stmt K S StmtKind Stmt kind stmt y in
        ap stmt_accesses (fold-roll-Stmt StmtKind Stmt (moved.stmt_kind_step move) (moved.stmt_step move) layer)
        ∙ fold.stmt_is at_place.stmt_kind_step at_place.stmt_step (moved_kind (kind y.kind)) (moved_span move y.span)
        ∙ kind_is y.kind ∙ ap (map (moved_any move)) (sym (fold-roll-Stmt (List AnyAccess) (List AnyAccess) at_place.stmt_kind_step at_place.stmt_step layer))

  pub stmt_accesses_moved : (x : Stmt) → stmt_accesses (moved_stmt move x) ≡ map (moved_any move) (stmt_accesses x)
  stmt_accesses_moved = ind-Stmt KindIs StmtIs
      (λ x y e. subst (λ layer. KindIs (roll-StmtKind layer)) e (kind_rolled (λ k. k.0) (λ s. s.0) (λ s. s.1) y))
      (λ x y e. subst (λ layer. StmtIs (roll-Stmt layer)) e (stmt_rolled (λ k. k.0) (λ s. s.0) (λ s. s.1) (λ k. k.1) y))
