-- Errors on declarations of variables and on statements stand where these are laid out.
use Rattle.std.proofs.Common.{ℕ, ◌+◌, Bool, true, false, List, [], ◌∷◌, ◌++◌, map, Option, Some, None, sym, subst, refl, ◌≡◌, ◌<◌, arith}
use Rattle.std.proofs.lemmas.Bool.{ltb-true}
use Rattle.std.specs.List.{AllByRecursion}
use Rattle.std.specs.Prelude.{if◌then◌else◌, nat_lt}
use Rattle.ix_text.specs.declared.span.Span.{Span}
use Rattle.ix_core.specs.declared.claim.Type_.{Type_}
use Rattle.ix_annot.specs.declared.scope.Claims.{Claims}
use Rattle.ix_annot.specs.declared.scope.Target.TheVariants as on
use Rattle.ix_tree.specs.declared.decl.LocalDecl.{LocalDecl}
use Rattle.ix_tree.specs.declared.expr.Expr.{Expr}
use Rattle.ix_tree.specs.declared.expr.Init.{Init}
use Rattle.ix_tree.specs.declared.stmt.Stmt.{Stmt, Stmt-F, ind-Stmt, map-Stmt, roll-Stmt, fold-roll-Stmt}
use Rattle.ix_tree.specs.declared.stmt.StmtKind.{StmtKind, StmtKind-F, map-StmtKind, roll-StmtKind, fold-StmtKind, fold-roll-StmtKind}
use Rattle.ix_tree.specs.Placed as placed
use Rattle.ix_tree.specs.Placed.{Layout, row, expr_piece, stmt_piece}
use Rattle.ix_meaning.specs.declared.note.Rule.TheVariants as rule
use Rattle.ix_meaning.specs.Annotated.{target_before, of_variable}
use Rattle.ix_meaning.specs.Bodies as bodies
use Rattle.ix_meaning.specs.Bodies.{Telling, telling, kind_telling, all_told, all_declared, declares_note, init_notes}
use Rattle.ix_meaning.specs.Declarators.{declarators}
use Rattle.ix_meaning.specs.Scope.{Scope}
use Rattle.ix_meaning.specs.Types.{Need, boolean, of, printed}
use Rattle.ix_meaning.specs.Values.{reading}
use Rattle.ix_formed.specs.EachNode.{InText, IfSome, InitNodes, StmtNodes, DeclNodes}
use Rattle.ix_formed.proofs.PlacedNodes.{locals_nodes}
use Rattle.ix_formed.proofs.PiecesLie.{Lies, AllLie, row_lies, pieces_parted}
use Rattle.ix_formed.proofs.ErrorsStand.{Stand, none, both, if_wrong, without_value}
use Rattle.ix_formed.proofs.TypesStand.{declaration_stands}
use Rattle.ix_formed.proofs.DeclaratorsStand.{declarators_nodes}
use Rattle.ix_formed.proofs.ExpressionsStand.{check_stands, expression_stands, initialiser_stands}

-- ---- declarations of variables

pub declares_noted : {end : ℕ} (span : Span) (ty : Option Type_) (claims : Claims) → Stand end (declares_note span ty claims)
declares_noted span None claims = none
declares_noted span (Some ty) claims = record { all = (tt, tt) }

module _ (end : ℕ) where
  pub init_stands : (init : Option Init) (s : Scope) (ty : Option Type_) → IfSome (InitNodes (InText end)) init → Stand end (init_notes init s ty)
  init_stands None s ty h = none
  init_stands (Some init) s ty h = initialiser_stands end init h s ty

  -- ---- locals

  abbrev TellsStand : Telling → Type 0
  TellsStand t = (s : Scope) → Stand end (t.notes s)

  declared_stands : (d : LocalDecl) → DeclNodes (InText end) d → TellsStand (bodies.declared d)
  declared_stands d h s =
      let l = bodies.local_declaration d s in
      both (declaration_stands s.world.class (bodies.own_names d s) (target_before d.ty) on.Array d.mods.annots d.ty h.annots h.ty)
      (both (if_wrong _ rule.DuplicateName d.name.span h.name) (both (declares_noted d.name.span l.ty (of_variable l.claims)) (init_stands d.init (bodies.pending d s) l.ty h.init)))

  then_stand : (t u : Telling) → TellsStand t → TellsStand u → TellsStand (bodies.then_told t u)
  then_stand t u a b s = both (a s) (b (bodies.after t s))

  locals_stand : (ds : List LocalDecl) → AllByRecursion (DeclNodes (InText end)) ds → TellsStand (all_declared ds)
  locals_stand [] h s = none
  locals_stand (d ∷ ds) h s = then_stand (bodies.declared d) (all_declared ds) (declared_stands d h.0) (locals_stand ds h.1) s

  -- ---- expressions in statements

  needed_stands : (e : Expr) (need : Need) (s : Scope) → Lies end (expr_piece e) → Stand end (bodies.needed e need s)
  needed_stands e need s h = check_stands end (reading e) (expression_stands end e h) s need

  condition_stands : (e : Option Expr) (s : Scope) → AllLie end (placed.maybe expr_piece e) → Stand end (bodies.condition_or_none e s)
  condition_stands None s h = none
  condition_stands (Some e) s h = needed_stands e (of boolean) s h.0

  run_stands : (e : Expr) (s : Scope) → Lies end (expr_piece e) → Stand end (bodies.run e s)
  run_stands e s h = (expression_stands end e h).judge s

  all_run_stand : (es : List Expr) (s : Scope) → AllLie end (map expr_piece es) → Stand end (bodies.all_run es s)
  all_run_stand [] s h = none
  all_run_stand (e ∷ es) s h = both (run_stands e s h.0) (all_run_stand es s h.1)

  keyword_stands : (span : Span) (n : ℕ) → 0 < n → InText end span → InText end (bodies.keyword span n)
  keyword_stands span n some at = long_or_not (nat_lt (span.from + n) span.to) refl
    where
      long_or_not : (b : Bool) → nat_lt (span.from + n) span.to ≡ b → InText end (if b then record { from = span.from; to = span.from + n } else span)
      long_or_not true long = let less = ltb-true (span.from + n) span.to long in (omega (arith, some), omega (arith, less, at.1))
      long_or_not false long = at

  returned_stands : (value : Option Expr) (span : Span) (s : Scope) → InText end span → AllLie end (placed.maybe expr_piece value) → Stand end (bodies.returned value span s)
  returned_stands None span s at h = without_value s.result (bodies.keyword span 6) (keyword_stands span 6 (omega arith) at)
  returned_stands (Some e) span s at h = needed_stands e (bodies.result_need s.result) s h.0

  -- ---- all forms

  abbrev kind_pieces : StmtKind → List Layout
  kind_pieces = fold-StmtKind (List Layout) Layout placed.stmt_kind_pieces placed.stmt_of

  abbrev KindIs : StmtKind → Type 0
  KindIs k = (span : Span) → InText end span → Lies end (row (kind_pieces k)) → TellsStand (kind_telling k span)

  abbrev StmtIs : Stmt → Type 0
  StmtIs x = Lies end (stmt_piece x) → TellsStand (telling x)

  module _ {K S : Type 0} (kind : K → StmtKind) (stmt : S → Stmt) (stmt_is : (x : S) → StmtIs (stmt x)) where
    all_stand : (xs : List S) → AllLie end (map stmt_piece (map stmt xs)) → TellsStand (all_told (map telling (map stmt xs)))
    all_stand [] h s = none
    all_stand (x ∷ xs) h s = then_stand (telling (stmt x)) (all_told (map telling (map stmt xs))) (stmt_is x h.0) (all_stand xs h.1) s

    for_stands : (first : List S) (c : Option Expr) (update : List Expr) (turn : S)
        → AllLie end (map stmt_piece (map stmt first) ++ (placed.maybe expr_piece c ++ (map expr_piece update ++ stmt_piece (stmt turn) ∷ []))) → (s : Scope)
        → Stand end ((bodies.closed (bodies.then_told (all_told (map telling (map stmt first))) (bodies.noted_then (λ s. bodies.condition_or_none c s ++ bodies.all_run update s) (bodies.looped (telling (stmt turn)))))).notes s)
    for_stands first c update turn h s =
        let q = pieces_parted end (map stmt_piece (map stmt first)) (placed.maybe expr_piece c ++ (map expr_piece update ++ stmt_piece (stmt turn) ∷ [])) h in
        let r = pieces_parted end (placed.maybe expr_piece c) (map expr_piece update ++ stmt_piece (stmt turn) ∷ []) q.1 in
        let u = pieces_parted end (map expr_piece update) (stmt_piece (stmt turn) ∷ []) r.1 in
        let behind = bodies.after (all_told (map telling (map stmt first))) s in
        both (all_stand first q.0 s) (both (both (condition_stands c behind r.0) (all_run_stand update behind u.0)) (stmt_is turn u.1.0 (bodies.inside behind)))

    kind_layer : (y : StmtKind-F K S) (span : Span) → let layer = map-StmtKind K S StmtKind Stmt kind stmt y in
        let pieces = placed.stmt_kind_pieces (map-StmtKind StmtKind Stmt (List Layout) Layout kind_pieces stmt_piece layer) in
        InText end span → Lies end (row pieces) → AllLie end pieces
        → TellsStand (bodies.stmt_kind_step (map-StmtKind StmtKind Stmt (Span → Telling) Telling kind_telling telling layer) span)
    kind_layer (StmtKind-F.Block ss) span at whole h s = all_stand ss h s
    kind_layer StmtKind-F.Empty span at whole h s = none
    kind_layer (StmtKind-F.Local ds) span at whole h s = locals_stand (declarators ds) (declarators_nodes end ds (locals_nodes (InText end) ds whole)) s
    kind_layer (StmtKind-F.If c t None) span at whole h s = both (needed_stands c (of boolean) s h.0) (stmt_is t h.1.0 s)
    kind_layer (StmtKind-F.If c t (Some u)) span at whole h s =
        both (needed_stands c (of boolean) s h.0) (both (stmt_is t h.1.0 s) (stmt_is u h.1.1.0 (bodies.after (telling (stmt t)) s)))
    kind_layer (StmtKind-F.While c t) span at whole h s = both (needed_stands c (of boolean) s h.0) (stmt_is t h.1.0 (bodies.inside s))
    kind_layer (StmtKind-F.Do t c) span at whole h s =
        both (stmt_is t h.0 (bodies.inside s)) (needed_stands c (of boolean) (bodies.after (bodies.looped (telling (stmt t))) s) h.1.0)
    kind_layer (StmtKind-F.For first c update t) span at whole h s = for_stands first c update t h s
    kind_layer StmtKind-F.Break span at whole h s = if_wrong _ rule.BreakOutside (bodies.keyword span 5) (keyword_stands span 5 (omega arith) at)
    kind_layer StmtKind-F.Continue span at whole h s = if_wrong _ rule.BreakOutside (bodies.keyword span 8) (keyword_stands span 8 (omega arith) at)
    kind_layer (StmtKind-F.Return value) span at whole h s = returned_stands value span s at h
    kind_layer (StmtKind-F.Throw thrown) span at whole h s = none
    kind_layer (StmtKind-F.Print value) span at whole h s = needed_stands value printed s h.0
    kind_layer (StmtKind-F.Run e) span at whole h s = run_stands e s h.0

    kind_rolled : (y : StmtKind-F K S) → KindIs (roll-StmtKind (map-StmtKind K S StmtKind Stmt kind stmt y))
    kind_rolled y span at h =
        let layer = map-StmtKind K S StmtKind Stmt kind stmt y in
        let a = fold-roll-StmtKind (Span → Telling) Telling bodies.stmt_kind_step bodies.stmt_step layer in
        let b = fold-roll-StmtKind (List Layout) Layout placed.stmt_kind_pieces placed.stmt_of layer in
        let whole = subst (λ (pieces : List Layout). Lies end (row pieces)) b h in
        subst (λ (f : Span → Telling). TellsStand (f span)) (sym a) (kind_layer y span at whole (row_lies end _ whole))

    stmt_rolled : ((k : K) → KindIs (kind k)) → (y : Stmt-F K S) → StmtIs (roll-Stmt (map-Stmt K S StmtKind Stmt kind stmt y))
    stmt_rolled kind_is y h =
        let layer = map-Stmt K S StmtKind Stmt kind stmt y in
        let a = fold-roll-Stmt (Span → Telling) Telling bodies.stmt_kind_step bodies.stmt_step layer in
        let b = fold-roll-Stmt (List Layout) Layout placed.stmt_kind_pieces placed.stmt_of layer in
        let q = subst (Lies end) b h in
        subst TellsStand (sym a) (kind_is y.kind y.span q.0 q.1)

  statement_stands : (x : Stmt) → StmtIs x
  statement_stands = ind-Stmt KindIs StmtIs
      (λ x y e. subst (λ layer. KindIs (roll-StmtKind layer)) e (kind_rolled (λ k. k.0) (λ s. s.0) (λ s. s.1) y))
      (λ x y e. subst (λ layer. StmtIs (roll-Stmt layer)) e (stmt_rolled (λ k. k.0) (λ s. s.0) (λ s. s.1) (λ k. k.1) y))

  pub body_stands : (ss : List Stmt) → AllByRecursion (StmtNodes (InText end)) ss → (s : Scope) → Stand end ((all_told (map telling ss)).notes s)
  body_stands [] h s = none
  body_stands (x ∷ ss) h s = then_stand (telling x) (all_told (map telling ss)) (statement_stands x h.0) (body_stands ss h.1) s
