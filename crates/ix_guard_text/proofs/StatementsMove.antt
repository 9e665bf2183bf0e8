-- Declarations of variables and statements say the same at their places moved.
use Rattle.std.proofs.Common.{◌≡◌, ℕ, ◌+◌, Bool, List, [], ◌∷◌, ◌++◌, map, Option, Some, None, refl, sym, ap, ap₂, ◌∙◌, subst}
use Rattle.std.specs.Prelude.{if◌then◌else◌, ◌&&◌, not}
use Rattle.ix_text.specs.declared.span.Span.{Span}
use Rattle.ix_core.specs.declared.claim.Name.TheVariants as name
use Rattle.ix_core.specs.declared.claim.Type_.{Type_}
use Rattle.ix_annot.specs.declared.scope.Claims.{Claims}
use Rattle.ix_tree.specs.declared.decl.LocalDecl.{LocalDecl}
use Rattle.ix_tree.specs.declared.expr.Expr.{Expr}
use Rattle.ix_tree.specs.declared.expr.Init.{Init}
use Rattle.ix_tree.specs.declared.stmt.Stmt.{Stmt, Stmt-F, ind-Stmt, map-Stmt, roll-Stmt, fold-roll-Stmt}
use Rattle.ix_tree.specs.declared.stmt.StmtKind.{StmtKind, StmtKind-F, map-StmtKind, roll-StmtKind, fold-StmtKind, fold-roll-StmtKind}
use Rattle.ix_meaning.specs.declared.note.Note.{Note}
use Rattle.ix_meaning.specs.declared.note.Rule.TheVariants as rule
use Rattle.ix_meaning.specs.Annotated.{of_variable}
use Rattle.ix_meaning.specs.Bodies as bodies
use Rattle.ix_meaning.specs.Bodies.{Telling, telling, kind_telling, all_told, all_declared, declares_note, init_notes, after, nothing, noting, then_told, closed, looped, noted_then, then_noted, local_declaration, local_known, is_taken, declared, own_names, pending}
use Rattle.ix_meaning.specs.Declarators.{declarators}
use Rattle.ix_meaning.specs.Rules as rules
use Rattle.ix_meaning.specs.Scope.{Scope, Known}
use Rattle.ix_meaning.specs.Types.{Need, boolean, of, printed}
use Rattle.ix_meaning.specs.Values.{reading}
use Rattle.ix_meaning.proofs.Equations as equations
use Rattle.ix_guard_text.specs.Moved as moved
use Rattle.ix_guard_text.specs.Bare.{bare_maybe as maybe}
use Rattle.ix_guard_text.specs.Moved.{Move, moved_span, moved_name, moved_decl, moved_init, moved_expr, moved_stmt}
use Rattle.ix_guard_text.specs.MovedNotes.{AreMoved}
use Rattle.ix_guard_text.proofs.NotesMove.{none, both, is_wrong_at, if_wrong, if_wrong_at}
use Rattle.ix_guard_text.proofs.TypesMove.{MovedDeclaration, variable_moves}
use Rattle.ix_guard_text.specs.MovedScopes.{moved_scope}
use Rattle.ix_guard_text.proofs.ScopesMove.{annot_names_moved}
use Rattle.ix_guard_text.proofs.DeclaratorsMove.{declarators_moved}
use Rattle.ix_guard_text.proofs.ExpressionsMove.{check_moves, expression_moves, initialiser_moves, some_moved}

module _ (move : Move) where
  -- ---- declarations of variables

  pub declares_moves : (ty other : Option Type_) (claims claimed : Claims) (p : Span) → ty ≡ other → claims ≡ claimed → AreMoved move (declares_note p ty claims) (declares_note (moved_span move p) other claimed)
  declares_moves ty other claims claimed p e f =
      subst (λ x. AreMoved move (declares_note p ty claims) (declares_note (moved_span move p) x claimed)) e (subst (λ x. AreMoved move (declares_note p ty claims) (declares_note (moved_span move p) ty x)) f (by ty))
    where
      by : (t : Option Type_) → AreMoved move (declares_note p t claims) (declares_note (moved_span move p) t claims)
      by None = none
      by (Some t) = record { same = refl }

  pub init_moves : (init : Option Init) (s : Scope) (ty other : Option Type_) → ty ≡ other → AreMoved move (init_notes init s ty) (init_notes (maybe (moved_init move) init) (moved_scope move s) other)
  init_moves None s ty other e = none
  init_moves (Some init) s ty other e = subst (λ x. AreMoved move (init_notes (Some init) s ty) (init_notes (Some (moved_init move init)) (moved_scope move s) x)) e ((initialiser_moves move init).at s ty)

  -- ---- what statements do with a scope

  -- A statement does the same, its notes at their places moved.
  pub record MovedTelling (t u : Telling) : Type 0 where
    pub declares : t.declares ≡ u.declares
    pub names : (s : Scope) → t.names s ≡ u.names (moved_scope move s)
    pub notes : (s : Scope) → AreMoved move (t.notes s) (u.notes (moved_scope move s))

  pub after_moved : (t u : Telling) → MovedTelling t u → (s : Scope) → moved_scope move (after t s) ≡ after u (moved_scope move s)
  after_moved t u h s = ap₂ (λ (names : List Known) (n : ℕ). record (moved_scope move s) { names = names; next = s.next + n }) (h.names s) h.declares

  nothing_moves : MovedTelling nothing nothing
  nothing_moves = record { declares = refl; names = λ s. refl; notes = λ s. none }

  noting_moves : (f g : Scope → List Note) → ((s : Scope) → AreMoved move (f s) (g (moved_scope move s))) → MovedTelling (noting f) (noting g)
  noting_moves f g h = record { declares = refl; names = λ s. refl; notes = h }

  behind_moves : (t u : Telling) → MovedTelling t u → (f g : Scope → List Note) → ((s : Scope) → AreMoved move (f s) (g (moved_scope move s))) → (s : Scope) → AreMoved move (f (after t s)) (g (after u (moved_scope move s)))
  behind_moves t u h f g x s = subst (λ z. AreMoved move (f (after t s)) (g z)) (after_moved t u h s) (x (after t s))

  pub then_moves : (t u v w : Telling) → MovedTelling t u → MovedTelling v w → MovedTelling (then_told t v) (then_told u w)
  then_moves t u v w x y = record {
    declares = ap₂ (λ (m : ℕ) (n : ℕ). m + n) x.declares y.declares;
    names = λ s. y.names (after t s) ∙ ap w.names (after_moved t u x s);
    notes = λ s. both (x.notes s) (behind_moves t u x v.notes w.notes y.notes s);
  }

  closed_moves : (t u : Telling) → MovedTelling t u → MovedTelling (closed t) (closed u)
  closed_moves t u h = record { declares = h.declares; names = λ s. refl; notes = h.notes }

  looped_moves : (t u : Telling) → MovedTelling t u → MovedTelling (looped t) (looped u)
  looped_moves t u h = record { declares = h.declares; names = λ s. h.names (bodies.inside s); notes = λ s. h.notes (bodies.inside s) }

  noted_then_moves : (f g : Scope → List Note) (t u : Telling) → ((s : Scope) → AreMoved move (f s) (g (moved_scope move s))) → MovedTelling t u → MovedTelling (noted_then f t) (noted_then g u)
  noted_then_moves f g t u x h = record { declares = h.declares; names = h.names; notes = λ s. both (x s) (h.notes s) }

  then_noted_moves : (t u : Telling) (f g : Scope → List Note) → MovedTelling t u → ((s : Scope) → AreMoved move (f s) (g (moved_scope move s))) → MovedTelling (then_noted t f) (then_noted u g)
  then_noted_moves t u f g h x = record { declares = h.declares; names = h.names; notes = λ s. both (h.notes s) (behind_moves t u h f g x s) }

  -- ---- locals

  local_moves : (d : LocalDecl) (s : Scope) → MovedDeclaration move (local_declaration d s) (local_declaration (moved_decl move d) (moved_scope move s))
  local_moves d s =
      variable_moves move s.world.class (own_names d s) (own_names (moved_decl move d) (moved_scope move s)) (annot_names_moved move s (Some (name.Local s.next)) (Some d.name.text)) d.mods.annots d.ty

  local_known_moved : (d : LocalDecl) (s : Scope) (ty other : Option Type_) → ty ≡ other → local_known d s ty ≡ local_known (moved_decl move d) (moved_scope move s) other
  local_known_moved d s ty other e =
      ap₂ (λ (t : Option Type_) (b : Bool). let known : Known = record { name = d.name.text; meaning = (local_known d s ty).meaning; ty = t; is_fixed = d.mods.is_final && b } in known) e (sym (some_moved (moved_init move) d.init))

  declared_moves : (d : LocalDecl) → MovedTelling (declared d) (declared (moved_decl move d))
  declared_moves d = record {
    declares = refl;
    names = λ s. ap (λ (k : Known). if is_taken s d.name then s.names else s.names ++ k ∷ []) (local_known_moved d s (local_declaration d s).ty (local_declaration (moved_decl move d) (moved_scope move s)).ty (local_moves d s).ty);
    notes = λ s.
        let l = local_moves d s in
        both l.notes (both (if_wrong (is_taken s d.name) rule.DuplicateName d.name.span)
        (both (declares_moves (local_declaration d s).ty (local_declaration (moved_decl move d) (moved_scope move s)).ty
        (of_variable (local_declaration d s).claims) (of_variable (local_declaration (moved_decl move d) (moved_scope move s)).claims) d.name.span
        l.ty (ap of_variable l.claims))
        (init_moves d.init (pending d s) (local_declaration d s).ty (local_declaration (moved_decl move d) (moved_scope move s)).ty l.ty)));
  }

  locals_moves : (ds : List LocalDecl) → MovedTelling (all_declared ds) (all_declared (map (moved_decl move) ds))
  locals_moves [] = nothing_moves
  locals_moves (d ∷ ds) = then_moves (declared d) (declared (moved_decl move d)) (all_declared ds) (all_declared (map (moved_decl move) ds)) (declared_moves d) (locals_moves ds)

  -- ---- expressions in statements

  needed_moves : (e : Expr) (need : Need) (s : Scope) → AreMoved move (bodies.needed e need s) (bodies.needed (moved_expr move e) need (moved_scope move s))
  needed_moves e need s = (check_moves move (reading e) (reading (moved_expr move e)) (expression_moves move e) s need).notes

  condition_moves : (e : Option Expr) (s : Scope) → AreMoved move (bodies.condition_or_none e s) (bodies.condition_or_none (maybe (moved_expr move) e) (moved_scope move s))
  condition_moves None s = none
  condition_moves (Some e) s = needed_moves e (of boolean) s

  run_moves : (e : Expr) (s : Scope) → AreMoved move (bodies.run e s) (bodies.run (moved_expr move e) (moved_scope move s))
  run_moves e s = ((expression_moves move e).judge s).notes

  all_run_moves : (es : List Expr) (s : Scope) → AreMoved move (bodies.all_run es s) (bodies.all_run (map (moved_expr move) es) (moved_scope move s))
  all_run_moves [] s = none
  all_run_moves (e ∷ es) s = both (run_moves e s) (all_run_moves es s)

  no_values : (need : Option Need) (p q : Span) → AreMoved move (rules.no_value need p) (rules.no_value need q)
  no_values None p q = none
  no_values (Some need) p q = is_wrong_at rule.TypeMismatch p q

  returned_moves : (value : Option Expr) (p : Span) (s : Scope) → AreMoved move (bodies.returned value p s) (bodies.returned (maybe (moved_expr move) value) (moved_span move p) (moved_scope move s))
  returned_moves None p s = no_values s.result (bodies.keyword p 6) (bodies.keyword (moved_span move p) 6)
  returned_moves (Some e) p s = needed_moves e (bodies.result_need s.result) s

  -- ---- all forms

  abbrev kind_moved : StmtKind → StmtKind
  kind_moved = fold-StmtKind StmtKind Stmt (moved.stmt_kind_step move) (moved.stmt_step move)

  abbrev KindIs : StmtKind → Type 0
  KindIs k = (p : Span) → MovedTelling (kind_telling k p) (kind_telling (kind_moved k) (moved_span move p))

  abbrev StmtIs : Stmt → Type 0
  StmtIs x = MovedTelling (telling x) (telling (moved_stmt move x))

  turned : (t u v : Telling) → u ≡ v → MovedTelling t v → MovedTelling t u
  turned t u v e h = subst (MovedTelling t) (sym e) h

  module _ {K S : Type 0} (kind : K → StmtKind) (stmt : S → Stmt) (stmt_is : (x : S) → StmtIs (stmt x)) where
    abbrev told : S → Telling
    told x = telling (stmt x)

    abbrev of_moved : S → Telling
    of_moved x = telling (moved_stmt move (stmt x))

    all_moves : (xs : List S) → MovedTelling (all_told (map telling (map stmt xs))) (all_told (map telling (map (moved_stmt move) (map stmt xs))))
    all_moves [] = nothing_moves
    all_moves (x ∷ xs) = then_moves (told x) (of_moved x) (all_told (map telling (map stmt xs))) (all_told (map telling (map (moved_stmt move) (map stmt xs)))) (stmt_is x) (all_moves xs)

    kind_layer : (y : StmtKind-F K S) (p : Span) → let layer = map-StmtKind K S StmtKind Stmt kind stmt y in
        MovedTelling (bodies.stmt_kind_step (map-StmtKind StmtKind Stmt (Span → Telling) Telling kind_telling telling layer) p)
        (kind_telling (moved.stmt_kind_step move (map-StmtKind StmtKind Stmt StmtKind Stmt kind_moved (moved_stmt move) layer)) (moved_span move p))
    kind_layer (StmtKind-F.Block ss) p = turned _ _ _ (equations.block_stmt (map (moved_stmt move) (map stmt ss)) (moved_span move p)) (closed_moves _ _ (all_moves ss))
    kind_layer StmtKind-F.Empty p = turned _ _ _ (equations.empty_stmt (moved_span move p)) nothing_moves
    kind_layer (StmtKind-F.Local ds) p = turned _ _ _ (equations.local_stmt (map (moved_decl move) ds) (moved_span move p))
        (turned _ _ _ (ap all_declared (declarators_moved move ds)) (locals_moves (declarators ds)))
    kind_layer (StmtKind-F.If c t None) p = turned _ _ _ (equations.if_stmt (moved_expr move c) (moved_stmt move (stmt t)) (moved_span move p))
        (noted_then_moves (bodies.condition c) (bodies.condition (moved_expr move c)) (told t) (of_moved t) (needed_moves c (of boolean)) (stmt_is t))
    kind_layer (StmtKind-F.If c t (Some u)) p = turned _ _ _ (equations.if_else_stmt (moved_expr move c) (moved_stmt move (stmt t)) (moved_stmt move (stmt u)) (moved_span move p))
        (noted_then_moves (bodies.condition c) (bodies.condition (moved_expr move c)) (then_told (told t) (told u)) (then_told (of_moved t) (of_moved u)) (needed_moves c (of boolean))
        (then_moves (told t) (of_moved t) (told u) (of_moved u) (stmt_is t) (stmt_is u)))
    kind_layer (StmtKind-F.While c t) p = turned _ _ _ (equations.while_stmt (moved_expr move c) (moved_stmt move (stmt t)) (moved_span move p))
        (noted_then_moves (bodies.condition c) (bodies.condition (moved_expr move c)) (looped (told t)) (looped (of_moved t)) (needed_moves c (of boolean)) (looped_moves (told t) (of_moved t) (stmt_is t)))
    kind_layer (StmtKind-F.Do t c) p = turned _ _ _ (equations.do_stmt (moved_stmt move (stmt t)) (moved_expr move c) (moved_span move p))
        (then_noted_moves (looped (told t)) (looped (of_moved t)) (bodies.condition c) (bodies.condition (moved_expr move c)) (looped_moves (told t) (of_moved t) (stmt_is t)) (needed_moves c (of boolean)))
    kind_layer (StmtKind-F.For first c update t) p = turned _ _ _ (equations.for_stmt (map (moved_stmt move) (map stmt first)) (maybe (moved_expr move) c) (map (moved_expr move) update) (moved_stmt move (stmt t)) (moved_span move p))
        (closed_moves _ _ (then_moves (all_told (map telling (map stmt first))) (all_told (map telling (map (moved_stmt move) (map stmt first)))) _ _ (all_moves first)
        (noted_then_moves (λ s. bodies.condition_or_none c s ++ bodies.all_run update s) (λ s. bodies.condition_or_none (maybe (moved_expr move) c) s ++ bodies.all_run (map (moved_expr move) update) s)
        (looped (told t)) (looped (of_moved t))
        (λ s. both (condition_moves c s) (all_run_moves update s)) (looped_moves (told t) (of_moved t) (stmt_is t)))))
    kind_layer StmtKind-F.Break p = turned _ _ _ (equations.break_stmt (moved_span move p)) (noting_moves _ _ (λ s. if_wrong_at (not s.in_loop) rule.BreakOutside (bodies.keyword p 5) (bodies.keyword (moved_span move p) 5)))
    kind_layer StmtKind-F.Continue p = turned _ _ _ (equations.continue_stmt (moved_span move p)) (noting_moves _ _ (λ s. if_wrong_at (not s.in_loop) rule.BreakOutside (bodies.keyword p 8) (bodies.keyword (moved_span move p) 8)))
    kind_layer (StmtKind-F.Return value) p = turned _ _ _ (equations.return_stmt (maybe (moved_expr move) value) (moved_span move p)) (noting_moves _ _ (λ s. returned_moves value p s))
    kind_layer (StmtKind-F.Throw thrown) p = turned _ _ _ (equations.throw_stmt (moved_name move thrown) (moved_span move p)) nothing_moves
    kind_layer (StmtKind-F.Print value) p = turned _ _ _ (equations.print_stmt (moved_expr move value) (moved_span move p)) (noting_moves _ _ (needed_moves value printed))
    kind_layer (StmtKind-F.Run e) p = turned _ _ _ (equations.run_stmt (moved_expr move e) (moved_span move p)) (noting_moves _ _ (run_moves e))

    kind_rolled : (y : StmtKind-F K S) → KindIs (roll-StmtKind (map-StmtKind K S StmtKind Stmt kind stmt y))
    kind_rolled y p =
        let layer = map-StmtKind K S StmtKind Stmt kind stmt y in
        let a = fold-roll-StmtKind (Span → Telling) Telling bodies.stmt_kind_step bodies.stmt_step layer in
        let b = fold-roll-StmtKind StmtKind Stmt (moved.stmt_kind_step move) (moved.stmt_step move) layer in
        subst (λ (f : Span → Telling). MovedTelling (f p) (kind_telling (kind_moved (roll-StmtKind layer)) (moved_span move p))) (sym a)
        (subst (λ (k : StmtKind). MovedTelling (bodies.stmt_kind_step (map-StmtKind StmtKind Stmt (Span → Telling) Telling kind_telling telling layer) p) (kind_telling k (moved_span move p))) (sym b) (kind_layer y p))

    stmt_rolled : ((k : K) → KindIs (kind k)) → (y : Stmt-F K S) → StmtIs (roll-Stmt (map-Stmt K S StmtKind Stmt kind stmt y))
    stmt_rolled kind_is y =
        let layer = map-Stmt K S StmtKind Stmt kind stmt y in
        let a = fold-roll-Stmt (Span → Telling) Telling bodies.stmt_kind_step bodies.stmt_step layer in
        let b = fold-roll-Stmt StmtKind Stmt (moved.stmt_kind_step move) (moved.stmt_step move) layer in
        let here = kind_telling (kind y.kind) y.span in
        subst (λ (t : Telling). MovedTelling t (telling (moved_stmt move (roll-Stmt layer)))) (sym a)
        (subst (λ (x : Stmt). MovedTelling here (telling x)) (sym b) (turned _ _ _ (equations.stmt_is (kind_moved (kind y.kind)) (moved_span move y.span)) (kind_is y.kind y.span)))

  pub statement_moves : (x : Stmt) → MovedTelling (telling x) (telling (moved_stmt move x))
  statement_moves = ind-Stmt KindIs StmtIs
      (λ x y e. subst (λ layer. KindIs (roll-StmtKind layer)) e (kind_rolled (λ k. k.0) (λ s. s.0) (λ s. s.1) y))
      (λ x y e. subst (λ layer. StmtIs (roll-Stmt layer)) e (stmt_rolled (λ k. k.0) (λ s. s.0) (λ s. s.1) (λ k. k.1) y))

  pub body_moves : (ss : List Stmt) → MovedTelling (all_told (map telling ss)) (all_told (map telling (map (moved_stmt move) ss)))
  body_moves [] = nothing_moves
  body_moves (x ∷ ss) = then_moves (telling x) (telling (moved_stmt move x)) (all_told (map telling ss)) (all_told (map telling (map (moved_stmt move) ss))) (statement_moves x) (body_moves ss)
