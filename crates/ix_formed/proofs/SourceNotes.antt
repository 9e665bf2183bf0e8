-- The notes of a whole source weigh no more than its parts.
use Rattle.std.proofs.Common.{◌≡◌, ◌≤◌, ℕ, ◌+◌, Bool, true, false, List, [], ◌∷◌, ◌++◌, map, Option, Some, None, refl, sym, subst, arith}
use Rattle.std.specs.Prelude.{if◌then◌else◌, not, bytes_eq}
use Rattle.ix_text.specs.declared.span.Span.{Span}
use Rattle.ix_annot.specs.declared.scope.Claims.{Claims}
use Rattle.ix_core.specs.declared.claim.Name.TheVariants as name
use Rattle.ix_core.specs.declared.claim.Type_.{Type_}
use Rattle.ix_annot.specs.Named.{Names}
use Rattle.ix_annot.specs.declared.scope.Target.{Target}
use Rattle.ix_annot.specs.declared.scope.Target.TheVariants as on
use Rattle.ix_tree.specs.declared.annot.Annot.{Annot}
use Rattle.ix_tree.specs.declared.annot.Ident.{Ident}
use Rattle.ix_tree.specs.declared.annot.TypeTree.{TypeTree}
use Rattle.ix_tree.specs.declared.decl.ClassDecl.{ClassDecl}
use Rattle.ix_tree.specs.declared.decl.LocalDecl.{LocalDecl}
use Rattle.ix_tree.specs.declared.decl.Member.{Member}
use Rattle.ix_tree.specs.declared.decl.Member.TheVariants as member
use Rattle.ix_tree.specs.declared.decl.MethodDecl.{MethodDecl}
use Rattle.ix_tree.specs.declared.decl.Unit.{Unit as Source}
use Rattle.ix_tree.specs.declared.expr.Expr.{Expr}
use Rattle.ix_tree.specs.declared.expr.Init.{Init}
use Rattle.ix_tree.specs.declared.stmt.Stmt.{Stmt, Stmt-F, ind-Stmt, map-Stmt, roll-Stmt, fold-roll-Stmt}
use Rattle.ix_tree.specs.declared.stmt.StmtKind.{StmtKind, StmtKind-F, map-StmtKind, roll-StmtKind, fold-StmtKind, fold-roll-StmtKind}
use Rattle.ix_tree.specs.Parts as parts
use Rattle.ix_tree.specs.Parts.{Part, declaration, elsewhere, together, listed, mods_parts, type_parts, expr_parts, init_parts, decl_parts, stmt_parts, args_parts, method_parts, member_parts, class_parts, unit_parts, other_name}
use Rattle.ix_meaning.specs.declared.members.Field.{Field}
use Rattle.ix_meaning.specs.declared.members.Signature.{Signature}
use Rattle.ix_meaning.specs.declared.note.Meaning.TheVariants.{ClassNamed}
use Rattle.ix_meaning.specs.declared.note.Note.{Note}
use Rattle.ix_meaning.specs.declared.note.Rule.TheVariants as rule
use Rattle.ix_meaning.specs.Annotated as annotated
use Rattle.ix_meaning.specs.Annotated.{given, aimed, written, variable, static_field, of_variable, marked, of_result}
use Rattle.ix_meaning.specs.Bodies as bodies
use Rattle.ix_meaning.specs.Declarators as joint
use Rattle.ix_meaning.specs.Declarators.{with_annots, counting, counting_behind, further, declarators, annots_before, annots_behind, field_in, first_of, members_behind}
use Rattle.ix_meaning.specs.Bodies.{Telling, telling, kind_telling, all_told, all_declared, declares_note, init_notes}
use Rattle.ix_meaning.specs.Classes.{parents, is_cyclic}
use Rattle.ix_meaning.specs.Inheritance.{hides, clashes, overridden, differs_from}
use Rattle.ix_meaning.specs.Members.{World, world, methods, field_of, signature, constructor_params}
use Rattle.ix_meaning.specs.Rules as rules
use Rattle.ix_meaning.specs.Scope.{Scope, annot_names}
use Rattle.ix_meaning.specs.Source as source
use Rattle.ix_meaning.specs.Source.{Place}
use Rattle.ix_meaning.specs.Types.{Need, boolean, of, printed, wrong_if}
use Rattle.ix_meaning.specs.Values.{reading, arguments, given_to}
use Rattle.ix_formed.specs.Weights.{total, IsWeighed}
use Rattle.ix_formed.proofs.ExpressionNotes.{total_append, both_notes, broken_weighs, wrong_weighs, given_weigh, written_weighs, check_weighs, AllWeigh, sum, arguments_weigh, given_to_weigh, expression_weighs, initialiser_weighs}

module _ (note : Note → ℕ) (part : Part → ℕ) (weighed : IsWeighed note part) where
  abbrev N : List Note → ℕ
  N ns = total note ns

  abbrev P : List Part → ℕ
  P ps = total part ps

  both : (xs ys : List Note) (n m : ℕ) → N xs ≤ n → N ys ≤ m → N (xs ++ ys) ≤ n + m
  both xs ys n m a b = both_notes note part weighed xs ys n m a b

  -- ---- declarations

  declares_weighs : (d : Ident) (ty : Option Type_) (claims : Claims) → N (declares_note d.span ty claims) ≤ part (elsewhere d)
  declares_weighs d None claims = omega arith
  declares_weighs d (Some ty) claims = let e = weighed.declared d (record { ty = ty; claims = claims }) in omega (arith, e)

  declaration_weighs : (class : List ℕ → Option ℕ) (names : Names) (first second : Target) (before behind : List Annot) (ty : TypeTree)
      → N (annotated.declaration class names first second before (record ty { annots = behind })).notes ≤ P (type_parts ty)
  declaration_weighs class names first second before behind ty =
      let a = both (given (aimed names first) before).notes (given (aimed names second) behind).notes 0 0 (given_weigh note part weighed (aimed names first) before) (given_weigh note part weighed (aimed names second) behind) in
      let b = both (written class ty []).notes ((given (aimed names first) before).notes ++ (given (aimed names second) behind).notes) (P (type_parts ty)) 0 (written_weighs note part weighed class ty []) (omega (arith, a)) in
      omega (arith, b)

  init_weighs : (init : Option Init) (s : Scope) (ty : Option Type_) → N (init_notes init s ty) ≤ P (parts.maybe init_parts init)
  init_weighs None s ty = omega arith
  init_weighs (Some init) s ty = initialiser_weighs note part weighed init s ty

  -- the parts of a declaration that its notes stand at
  decl_has : (d : LocalDecl) → P (type_parts d.ty) + (part (elsewhere d.name) + P (parts.maybe init_parts d.init)) ≤ P (decl_parts d)
  decl_has d =
      let a = total_append part (mods_parts d.mods) (type_parts d.ty ++ elsewhere d.name ∷ parts.maybe init_parts d.init) in
      let b = total_append part (type_parts d.ty) (elsewhere d.name ∷ parts.maybe init_parts d.init) in omega (arith, a, b)

  -- ---- statements

  abbrev Tells : Telling → ℕ → Type 0
  Tells t n = (s : Scope) → N (t.notes s) ≤ n

  declared_tells : (before behind : List Annot) (d : LocalDecl) → Tells (bodies.declared (with_annots before behind d)) (P (decl_parts d))
  declared_tells before behind d s =
      let l = bodies.local_declaration (with_annots before behind d) s in
      let a = declaration_weighs s.world.class (bodies.own_names d s) (annotated.target_before d.ty) on.Array before behind d.ty in
      let c = both (declares_note d.name.span l.ty (of_variable l.claims)) (init_notes d.init (bodies.pending d s) l.ty) (part (elsewhere d.name)) (P (parts.maybe init_parts d.init))
      (declares_weighs d.name l.ty (of_variable l.claims)) (init_weighs d.init (bodies.pending d s) l.ty) in
      let b = both (rules.duplicate_name (bodies.is_taken s d.name) d.name.span) (declares_note d.name.span l.ty (of_variable l.claims) ++ init_notes d.init (bodies.pending d s) l.ty) 0
      (part (elsewhere d.name) + P (parts.maybe init_parts d.init)) (broken_weighs note part weighed _ rule.DuplicateName d.name.span) c in
      let e = both l.notes (rules.duplicate_name (bodies.is_taken s d.name) d.name.span ++ (declares_note d.name.span l.ty (of_variable l.claims) ++ init_notes d.init (bodies.pending d s) l.ty)) (P (type_parts d.ty))
      (0 + (part (elsewhere d.name) + P (parts.maybe init_parts d.init))) a b in
      let h = decl_has d in omega (arith, e, h)

  then_tells : (t u : Telling) (n m : ℕ) → Tells t n → Tells u m → Tells (bodies.then_told t u) (n + m)
  then_tells t u n m a b s = both (t.notes s) (u.notes (bodies.after t s)) n m (a s) (b (bodies.after t s))

  all_further_tell : (first : LocalDecl) (ds : List LocalDecl) → Tells (all_declared (map (further first) ds)) (P (together (parts.each decl_parts ds)))
  all_further_tell first [] s = omega arith
  all_further_tell first (d ∷ ds) s =
      let a = then_tells (bodies.declared (further first d)) (all_declared (map (further first) ds)) (P (decl_parts d)) (P (together (parts.each decl_parts ds)))
      (declared_tells (counting first.mods.annots) (counting_behind first d) d) (all_further_tell first ds) s in
      let b = total_append part (decl_parts d) (together (parts.each decl_parts ds)) in omega (arith, a, b)

  all_declared_tell : (ds : List LocalDecl) → Tells (all_declared (declarators ds)) (P (listed (parts.each decl_parts ds)))
  all_declared_tell [] s = omega arith
  all_declared_tell (d ∷ ds) s =
      let a = then_tells (bodies.declared d) (all_declared (map (further d) ds)) (P (decl_parts d)) (P (together (parts.each decl_parts ds))) (declared_tells d.mods.annots d.ty.annots d) (all_further_tell d ds) s in
      let b = total_append part (decl_parts d) (together (parts.each decl_parts ds)) in omega (arith, a, b)

  needed_weighs : (e : Expr) (need : Need) (s : Scope) → N (bodies.needed e need s) ≤ P (expr_parts e)
  needed_weighs e need s = check_weighs note part weighed (reading e) (P (expr_parts e)) (expression_weighs note part weighed e) s need

  condition_weighs : (e : Option Expr) (s : Scope) → N (bodies.condition_or_none e s) ≤ P (parts.maybe expr_parts e)
  condition_weighs None s = omega arith
  condition_weighs (Some e) s = needed_weighs e (of boolean) s

  run_weighs : (e : Expr) (s : Scope) → N (bodies.run e s) ≤ P (expr_parts e)
  run_weighs e s = (expression_weighs note part weighed e).judge s

  all_run_weigh : (es : List Expr) (s : Scope) → N (bodies.all_run es s) ≤ P (listed (parts.each expr_parts es))
  all_run_weigh es s = let e = together_weigh es in omega (arith, e)
    where
      together_weigh : (es : List Expr) → N (bodies.all_run es s) ≤ P (together (parts.each expr_parts es))
      together_weigh [] = omega arith
      together_weigh (e ∷ es) =
          let a = both (bodies.run e s) (bodies.all_run es s) (P (expr_parts e)) (P (together (parts.each expr_parts es))) (run_weighs e s) (together_weigh es) in
          let b = total_append part (expr_parts e) (together (parts.each expr_parts es)) in omega (arith, a, b)

  no_value_weighs : (need : Option Need) (span : Span) → N (rules.no_value need span) ≤ 0
  no_value_weighs None span = omega arith
  no_value_weighs (Some need) span = wrong_weighs note part weighed rule.TypeMismatch span

  returned_weighs : (value : Option Expr) (span : Span) (s : Scope) → N (bodies.returned value span s) ≤ P (parts.maybe expr_parts value)
  returned_weighs None span s = no_value_weighs s.result (bodies.keyword span 6)
  returned_weighs (Some e) span s = needed_weighs e (bodies.result_need s.result) s

  abbrev kind_parts : StmtKind → List Part
  kind_parts = fold-StmtKind (List Part) (List Part) parts.stmt_kind_step parts.stmt_step

  abbrev KindTells : StmtKind → Type 0
  KindTells k = (span : Span) → Tells (kind_telling k span) (P (kind_parts k))

  abbrev StmtTells : Stmt → Type 0
  StmtTells s = Tells (telling s) (P (stmt_parts s))

  module _ {K S : Type 0} (kind : K → StmtKind) (stmt : S → Stmt) (stmt_tells : (s : S) → StmtTells (stmt s)) where
    all_tell : (ss : List S) → Tells (all_told (map telling (map stmt ss))) (P (listed (map stmt_parts (map stmt ss))))
    all_tell ss s = let e = together_tell ss s in omega (arith, e)
      where
        together_tell : (ss : List S) → Tells (all_told (map telling (map stmt ss))) (P (together (map stmt_parts (map stmt ss))))
        together_tell [] s = omega arith
        together_tell (x ∷ ss) s =
            let a = then_tells (telling (stmt x)) (all_told (map telling (map stmt ss))) (P (stmt_parts (stmt x))) (P (together (map stmt_parts (map stmt ss)))) (stmt_tells x) (together_tell ss) s in
            let b = total_append part (stmt_parts (stmt x)) (together (map stmt_parts (map stmt ss))) in omega (arith, a, b)

    tell_layer : (y : StmtKind-F K S) (span : Span)
        → Tells (bodies.stmt_kind_step (map-StmtKind StmtKind Stmt (Span → Telling) Telling kind_telling telling (map-StmtKind K S StmtKind Stmt kind stmt y)) span)
        (P (parts.stmt_kind_step (map-StmtKind StmtKind Stmt (List Part) (List Part) kind_parts stmt_parts (map-StmtKind K S StmtKind Stmt kind stmt y))))
    tell_layer (StmtKind-F.Block ss) span s = all_tell ss s
    tell_layer StmtKind-F.Empty span s = omega arith
    tell_layer (StmtKind-F.Local ds) span s = all_declared_tell ds s
    tell_layer (StmtKind-F.If c t None) span s =
        let a = both (bodies.condition c s) ((telling (stmt t)).notes s) (P (expr_parts c)) (P (stmt_parts (stmt t))) (needed_weighs c (of boolean) s) (stmt_tells t s) in
        let b = total_append part (expr_parts c) (stmt_parts (stmt t)) in omega (arith, a, b)
    tell_layer (StmtKind-F.If c t (Some u)) span s =
        let d = then_tells (telling (stmt t)) (telling (stmt u)) (P (stmt_parts (stmt t))) (P (stmt_parts (stmt u))) (stmt_tells t) (stmt_tells u) s in
        let a = both (bodies.condition c s) ((bodies.then_told (telling (stmt t)) (telling (stmt u))).notes s) (P (expr_parts c)) (P (stmt_parts (stmt t)) + P (stmt_parts (stmt u))) (needed_weighs c (of boolean) s) d in
        let b = total_append part (expr_parts c) (stmt_parts (stmt t) ++ stmt_parts (stmt u)) in
        let e = total_append part (stmt_parts (stmt t)) (stmt_parts (stmt u)) in omega (arith, a, b, e)
    tell_layer (StmtKind-F.While c t) span s =
        let a = both (bodies.condition c s) ((telling (stmt t)).notes (bodies.inside s)) (P (expr_parts c)) (P (stmt_parts (stmt t))) (needed_weighs c (of boolean) s) (stmt_tells t (bodies.inside s)) in
        let b = total_append part (expr_parts c) (stmt_parts (stmt t)) in omega (arith, a, b)
    tell_layer (StmtKind-F.Do t c) span s =
        let behind = bodies.after (bodies.looped (telling (stmt t))) s in
        let a = both ((telling (stmt t)).notes (bodies.inside s)) (bodies.condition c behind) (P (stmt_parts (stmt t))) (P (expr_parts c)) (stmt_tells t (bodies.inside s)) (needed_weighs c (of boolean) behind) in
        let b = total_append part (stmt_parts (stmt t)) (expr_parts c) in omega (arith, a, b)
    tell_layer (StmtKind-F.For ss c es t) span s =
        let first = all_told (map telling (map stmt ss)) in
        let behind = bodies.after first s in
        let updates = listed (parts.each expr_parts es) in
        let a = both (bodies.condition_or_none c behind) (bodies.all_run es behind) (P (parts.maybe expr_parts c)) (P updates) (condition_weighs c behind) (all_run_weigh es behind) in
        let b = both (bodies.condition_or_none c behind ++ bodies.all_run es behind) ((telling (stmt t)).notes (bodies.inside behind)) (P (parts.maybe expr_parts c) + P updates) (P (stmt_parts (stmt t))) a (stmt_tells t (bodies.inside behind)) in
        let d = both (first.notes s) ((bodies.condition_or_none c behind ++ bodies.all_run es behind) ++ (telling (stmt t)).notes (bodies.inside behind)) (P (listed (map stmt_parts (map stmt ss))))
        ((P (parts.maybe expr_parts c) + P updates) + P (stmt_parts (stmt t))) (all_tell ss s) b in
        let e = total_append part (listed (map stmt_parts (map stmt ss))) (parts.maybe expr_parts c ++ (updates ++ stmt_parts (stmt t))) in
        let f = total_append part (parts.maybe expr_parts c) (updates ++ stmt_parts (stmt t)) in
        let g = total_append part updates (stmt_parts (stmt t)) in omega (arith, d, e, f, g)
    tell_layer StmtKind-F.Break span s = broken_weighs note part weighed _ rule.BreakOutside (bodies.keyword span 5)
    tell_layer StmtKind-F.Continue span s = broken_weighs note part weighed _ rule.BreakOutside (bodies.keyword span 8)
    tell_layer (StmtKind-F.Return value) span s = returned_weighs value span s
    tell_layer (StmtKind-F.Throw thrown) span s = omega arith
    tell_layer (StmtKind-F.Print value) span s = needed_weighs value printed s
    tell_layer (StmtKind-F.Run e) span s = run_weighs e s

    tell_rolled : (y : StmtKind-F K S) → KindTells (roll-StmtKind (map-StmtKind K S StmtKind Stmt kind stmt y))
    tell_rolled y span =
        let layer = map-StmtKind K S StmtKind Stmt kind stmt y in
        let a = fold-roll-StmtKind (Span → Telling) Telling bodies.stmt_kind_step bodies.stmt_step layer in
        let b = fold-roll-StmtKind (List Part) (List Part) parts.stmt_kind_step parts.stmt_step layer in
        subst (λ (ps : List Part). Tells (kind_telling (roll-StmtKind layer) span) (P ps)) (sym b)
        (subst (λ (f : Span → Telling). Tells (f span) (P (parts.stmt_kind_step (map-StmtKind StmtKind Stmt (List Part) (List Part) kind_parts stmt_parts layer)))) (sym a) (tell_layer y span))

    stmt_rolled : ((k : K) → KindTells (kind k)) → (y : Stmt-F K S) → StmtTells (roll-Stmt (map-Stmt K S StmtKind Stmt kind stmt y))
    stmt_rolled kind_tells y =
        let layer = map-Stmt K S StmtKind Stmt kind stmt y in
        let a = fold-roll-Stmt (Span → Telling) Telling bodies.stmt_kind_step bodies.stmt_step layer in
        let b = fold-roll-Stmt (List Part) (List Part) parts.stmt_kind_step parts.stmt_step layer in
        subst (λ (ps : List Part). Tells (telling (roll-Stmt layer)) (P ps)) (sym b)
        (subst (λ (t : Telling). Tells t (part (parts.statement y.span) + P (kind_parts (kind y.kind)))) (sym a) (λ s. let e = kind_tells y.kind y.span s in omega (arith, e)))

  statement_tells : (s : Stmt) → Tells (telling s) (P (stmt_parts s))
  statement_tells = ind-Stmt KindTells StmtTells
      (λ x y e. subst (λ layer. KindTells (roll-StmtKind layer)) e (tell_rolled (λ k. k.0) (λ s. s.0) (λ s. s.1) y))
      (λ x y e. subst (λ layer. StmtTells (roll-Stmt layer)) e (stmt_rolled (λ k. k.0) (λ s. s.0) (λ s. s.1) (λ k. k.1) y))

  body_tells : (ss : List Stmt) → Tells (all_told (map telling ss)) (P (listed (parts.each stmt_parts ss)))
  body_tells ss s = let e = together_tell ss s in omega (arith, e)
    where
      together_tell : (ss : List Stmt) → Tells (all_told (map telling ss)) (P (together (parts.each stmt_parts ss)))
      together_tell [] s = omega arith
      together_tell (x ∷ ss) s =
          let a = then_tells (telling x) (all_told (map telling ss)) (P (stmt_parts x)) (P (together (parts.each stmt_parts ss))) (statement_tells x) (together_tell ss) s in
          let b = total_append part (stmt_parts x) (together (parts.each stmt_parts ss)) in omega (arith, a, b)

  -- ---- fields

  field_declaration_weighs : (l : Place) (f : Field) (before behind : List Annot) (d : LocalDecl) → N (source.field_declaration l f (with_annots before behind d)).notes ≤ P (type_parts d.ty)
  field_declaration_weighs l f before behind d = static_or_not f.is_static
    where
      static_or_not : (b : Bool) → N (if b then static_field l.world.class before (record d.ty { annots = behind })
          else variable l.world.class (annot_names (source.member_scope l true) (Some (name.FieldNamed (source.field_number f.meaning))) None) before (record d.ty { annots = behind })).notes ≤ P (type_parts d.ty)
      static_or_not true = declaration_weighs l.world.class (annotated.names_nothing on.Other) on.Other on.Other before behind d.ty
      static_or_not false =
          declaration_weighs l.world.class (annot_names (source.member_scope l true) (Some (name.FieldNamed (source.field_number f.meaning))) None) (annotated.target_before d.ty) on.Array before behind d.ty

  field_weighs : (l : Place) (f : Field) (before behind : List Annot) (d : LocalDecl) → N (source.field_notes l f (with_annots before behind d)) ≤ P (decl_parts d)
  field_weighs l f before behind d =
      let own = source.field_declaration l f (with_annots before behind d) in
      let init = init_notes d.init (source.member_scope l (not f.is_static)) f.ty in
      let declares = declares_note d.name.span f.ty (of_variable (if f.is_static then [] else own.claims)) in
      let a = both declares init (part (elsewhere d.name)) (P (parts.maybe init_parts d.init)) (declares_weighs d.name f.ty (of_variable (if f.is_static then [] else own.claims)))
      (init_weighs d.init (source.member_scope l (not f.is_static)) f.ty) in
      let b = both own.notes (declares ++ init) (P (type_parts d.ty)) (part (elsewhere d.name) + P (parts.maybe init_parts d.init)) (field_declaration_weighs l f before behind d) a in
      let c = both (rules.duplicate_name (hides l.world f) d.name.span) (own.notes ++ (declares ++ init)) 0
      (P (type_parts d.ty) + (part (elsewhere d.name) + P (parts.maybe init_parts d.init))) (broken_weighs note part weighed _ rule.DuplicateName d.name.span) b in
      let e = both (wrong_if (source.is_refused f) rule.NotStatic d.name.span) (rules.duplicate_name (hides l.world f) d.name.span ++ (own.notes ++ (declares ++ init))) 0
      (0 + (P (type_parts d.ty) + (part (elsewhere d.name) + P (parts.maybe init_parts d.init)))) (broken_weighs note part weighed _ rule.NotStatic d.name.span) c in
      let h = decl_has d in omega (arith, e, h)

  -- ---- methods

  params_weigh : (l : Place) (s : Scope) (before : List LocalDecl) (k : ℕ) (ds : List LocalDecl) → N (source.param_notes l s before k ds) ≤ P (together (parts.each decl_parts ds))
  params_weigh l s before k [] = omega arith
  params_weigh l s before k (d ∷ ds) =
      let own = source.param_declaration l s k d in
      let rest = source.param_notes l s (before ++ d ∷ []) (k + 1) ds in
      let a = both (declares_note d.name.span own.ty (of_variable own.claims)) rest (part (elsewhere d.name)) (P (together (parts.each decl_parts ds))) (declares_weighs d.name own.ty (of_variable own.claims))
      (params_weigh l s (before ++ d ∷ []) (k + 1) ds) in
      let b = both own.notes (declares_note d.name.span own.ty (of_variable own.claims) ++ rest) (P (type_parts d.ty)) (part (elsewhere d.name) + P (together (parts.each decl_parts ds)))
      (declaration_weighs l.world.class (annot_names s (Some (name.Param k)) None) (annotated.target_before d.ty) on.Array d.mods.annots d.ty.annots d.ty) a in
      let c = both (rules.duplicate_name (source.is_named_in before d.name.text) d.name.span) (own.notes ++ (declares_note d.name.span own.ty (of_variable own.claims) ++ rest)) 0
      (P (type_parts d.ty) + (part (elsewhere d.name) + P (together (parts.each decl_parts ds)))) (broken_weighs note part weighed _ rule.DuplicateName d.name.span) b in
      let h = decl_has d in
      let t = total_append part (decl_parts d) (together (parts.each decl_parts ds)) in omega (arith, c, h, t)

  result_weighs : (l : Place) (s : Scope) (annots : List Annot) (ty : Option TypeTree) → N (source.result_of l s annots ty).notes ≤ P (parts.maybe type_parts ty)
  result_weighs l s annots None = given_weigh note part weighed (aimed (annot_names s None None) on.Other) annots
  result_weighs l s annots (Some ty) = declaration_weighs l.world.class (annot_names s None None) (annotated.target_before ty) on.Array annots ty.annots ty

  result_given_weighs : (l : Place) (s : Scope) (m : Signature) (d : MethodDecl) → N (source.result_given l s m d).notes ≤ P (parts.maybe type_parts d.result)
  result_given_weighs l s m d = constructor_or_not m.constructor
    where
      constructor_or_not : (b : Bool) → N (if b then source.nothing_declared else source.result_of l s (of_result d.mods.annots) d.result).notes ≤ P (parts.maybe type_parts d.result)
      constructor_or_not true = omega arith
      constructor_or_not false = result_weighs l s (of_result d.mods.annots) d.result

  method_given_weighs : (l : Place) (s : Scope) (m : Signature) (annots : List Annot) → N (source.method_given l s m annots).notes ≤ 0
  method_given_weighs l s m annots = given_weigh note part weighed _ _

  args_all : (es : List Expr) → AllWeigh note part weighed (map reading es) (map (λ e. P (expr_parts e)) es)
  args_all [] = tt
  args_all (e ∷ es) = (expression_weighs note part weighed e, args_all es)

  args_sum : (es : List Expr) → sum note part weighed (map (λ e. P (expr_parts e)) es) ≤ P (args_parts es)
  args_sum es = let e = together_sum es in omega (arith, e)
    where
      together_sum : (es : List Expr) → sum note part weighed (map (λ e. P (expr_parts e)) es) ≡ P (together (parts.each expr_parts es))
      together_sum [] = refl
      together_sum (e ∷ es) = let a = together_sum es in let b = total_append part (expr_parts e) (together (parts.each expr_parts es)) in omega (arith, a, b)

  super_args_weigh : (l : Place) (s : Scope) (args : List Expr) (parent : Option ℕ) (at : Span) → N (source.super_args l s args parent at) ≤ P (args_parts args)
  super_args_weigh l s args (Some p) at =
      let a = given_to_weigh note part weighed s (map reading args) (map (λ e. P (expr_parts e)) args) (args_all args) (constructor_params l.world p) at in let b = args_sum args in omega (arith, a, b)
  super_args_weigh l s args None at = extends_or_not l.extends
    where
      extends_or_not : (b : Bool) → N (if b then arguments s (map reading args) [] else given_to s (map reading args) [] at) ≤ P (args_parts args)
      extends_or_not true = let a = arguments_weigh note part weighed s (map reading args) (map (λ e. P (expr_parts e)) args) (args_all args) [] in let b = args_sum args in omega (arith, a, b)
      extends_or_not false = let a = given_to_weigh note part weighed s (map reading args) (map (λ e. P (expr_parts e)) args) (args_all args) [] at in let b = args_sum args in omega (arith, a, b)

  implicit_weighs : (w : World) (parent : Option ℕ) (at : Span) → N (source.implicit_super_of w parent at) ≤ 0
  implicit_weighs w None at = omega arith
  implicit_weighs w (Some p) at = broken_weighs note part weighed _ rule.WrongArguments at

  super_given_weighs : (l : Place) (s : Scope) (args : Option (List Expr)) (at : Span) → N (source.super_given l s args at) ≤ P (parts.maybe args_parts args)
  super_given_weighs l s None at = implicit_weighs l.world (l.world.parent l.class) at
  super_given_weighs l s (Some args) at = super_args_weigh l (source.outside_object s) args (l.world.parent l.class) at

  super_weighs : (l : Place) (s : Scope) (d : MethodDecl) → N (source.super_notes l s d) ≤ P (parts.maybe args_parts d.parent_args)
  super_weighs l s d = constructor_or_not d.constructor
    where
      constructor_or_not : (b : Bool) → N (if b then source.super_given l s d.parent_args d.name.span else []) ≤ P (parts.maybe args_parts d.parent_args)
      constructor_or_not true = super_given_weighs l s d.parent_args d.name.span
      constructor_or_not false = omega arith

  constructor_weighs : (l : Place) (d : MethodDecl) → N (source.constructor_notes l d) ≤ 0
  constructor_weighs l d = constructor_or_not d.constructor
    where
      constructor_or_not : (b : Bool) → N (if b then wrong_if (not (bytes_eq d.name.text l.class_name)) rule.UnknownName d.name.span ++ wrong_if d.mods.is_static rule.NotStatic d.name.span else []) ≤ 0
      constructor_or_not true =
          let a = both (wrong_if (not (bytes_eq d.name.text l.class_name)) rule.UnknownName d.name.span) (wrong_if d.mods.is_static rule.NotStatic d.name.span) 0 0
          (broken_weighs note part weighed _ rule.UnknownName d.name.span) (broken_weighs note part weighed _ rule.NotStatic d.name.span) in omega (arith, a)
      constructor_or_not false = omega arith

  inherited_weighs : (l : Place) (m : Signature) → N (source.inherited_notes l m) ≤ 0
  inherited_weighs l m =
      let a = both (rules.duplicate_name (clashes l.world l.methods m) m.span) (wrong_if (differs_from m (overridden l.world m)) rule.TypeMismatch m.span) 0 0 (broken_weighs note part weighed _ rule.DuplicateName m.span) (broken_weighs note part weighed _ rule.TypeMismatch m.span) in
      omega (arith, a)

  method_weighs : (l : Place) (m : Signature) (d : MethodDecl) → N (source.method_notes l m d) ≤ P (method_parts d)
  method_weighs l m d =
      let head = source.head_scope l m d in
      let body = source.body_scope l m d in
      let result = source.result_given l head m d in
      let marks = source.method_given l head m d.mods.annots in
      let declares = declares_note d.name.span m.result (marked result.claims marks) in
      let params = source.param_notes l head [] 0 d.params in
      let supers = source.super_notes l body d in
      let told = (all_told (map telling d.body)).notes body in
      let types = P (parts.maybe type_parts d.result) in
      let heads = P (together (parts.each decl_parts d.params)) in
      let args = P (parts.maybe args_parts d.parent_args) in
      let statements = P (listed (parts.each stmt_parts d.body)) in
      let a = both supers told args statements (super_weighs l body d) (body_tells d.body body) in
      let b = both params (supers ++ told) heads (args + statements) (params_weigh l head [] 0 d.params) a in
      let c = both declares (params ++ (supers ++ told)) (part (elsewhere d.name)) (heads + (args + statements)) (declares_weighs d.name m.result (marked result.claims marks)) b in
      let e = both marks.notes (declares ++ (params ++ (supers ++ told))) 0 (part (elsewhere d.name) + (heads + (args + statements))) (method_given_weighs l head m d.mods.annots) c in
      let f = both result.notes (marks.notes ++ (declares ++ (params ++ (supers ++ told)))) types (0 + (part (elsewhere d.name) + (heads + (args + statements)))) (result_given_weighs l head m d) e in
      let g = both (source.inherited_notes l m) (result.notes ++ (marks.notes ++ (declares ++ (params ++ (supers ++ told))))) 0 (types + (0 + (part (elsewhere d.name) + (heads + (args + statements))))) (inherited_weighs l m) f in
      let h = both (source.constructor_notes l d) (source.inherited_notes l m ++ (result.notes ++ (marks.notes ++ (declares ++ (params ++ (supers ++ told)))))) 0
      (0 + (types + (0 + (part (elsewhere d.name) + (heads + (args + statements)))))) (constructor_weighs l d) g in
      let from_args = parts.maybe args_parts d.parent_args ++ listed (parts.each stmt_parts d.body) in
      let from_name = elsewhere d.name ∷ (listed (parts.each decl_parts d.params) ++ from_args) in
      let p = total_append part (mods_parts d.mods) (parts.maybe type_parts d.result ++ from_name) in
      let q = total_append part (parts.maybe type_parts d.result) from_name in
      let r = total_append part (listed (parts.each decl_parts d.params)) from_args in
      let t = total_append part (parts.maybe args_parts d.parent_args) (listed (parts.each stmt_parts d.body)) in
      omega (arith, h, p, q, r, t)

  -- ---- members and classes

  -- a member, which weighs no more than these parts, and those behind it
  one_more_weighs : (l : Place) (named : List ℕ → Option ℕ) (i next : ℕ) (m : Member) (ms : List Member) (first rest : ℕ) → N (source.one_member l next m) ≤ first
      → N (source.member_notes l named (i + 1) (source.next_member next m) ms) ≤ rest → N (source.member_notes l named i next (m ∷ ms)) ≤ first + rest
  one_more_weighs l named i next m ms first rest one others =
      let a = both (rules.duplicate_name (source.is_taken (named (source.member_name m).text) i) (source.member_name m).span) (source.one_member l next m) 0 first
      (broken_weighs note part weighed _ rule.DuplicateName (source.member_name m).span) one in
      let b = both (source.named_member l named i next m) (source.member_notes l named (i + 1) (source.next_member next m) ms) (0 + first) rest a others in omega (arith, b)

  members_weigh : (l : Place) (named : List ℕ → Option ℕ) (i next : ℕ) (first : Option LocalDecl) (ms : List Member) → N (source.member_notes l named i next (members_behind first ms)) ≤ P (together (parts.each member_parts ms))
  members_weigh l named i next first [] = omega arith
  members_weigh l named i next first (member.Field d ∷ ms) =
      let own = field_in first d in
      let b = one_more_weighs l named i next (member.Field own) (members_behind (Some (first_of first d)) ms) (P (decl_parts d)) (P (together (parts.each member_parts ms)))
      (field_weighs l (field_of l.world.class l.class next own) (annots_before first d) (annots_behind first d) d)
      (members_weigh l named (i + 1) (source.next_member next (member.Field d)) (Some (first_of first d)) ms) in
      let c = total_append part (decl_parts d) (together (parts.each member_parts ms)) in omega (arith, b, c)
  members_weigh l named i next first (member.Method m ∷ ms) =
      let b = one_more_weighs l named i next (member.Method m) (members_behind None ms) (P (parts.method_parts m)) (P (together (parts.each member_parts ms)))
      (method_weighs l (signature l.world.class l.class m) m) (members_weigh l named (i + 1) next None ms) in
      let c = total_append part (parts.method_parts m) (together (parts.each member_parts ms)) in omega (arith, b, c)

  default_weighs : (w : World) (c : ℕ) (k : ClassDecl) → N (source.default_notes_of w c k) ≤ 0
  default_weighs w c k = constructor_or_not (source.has_constructor k.members)
    where
      constructor_or_not : (b : Bool) → N (if b then [] else source.implicit_super_of w (w.parent c) k.name.span) ≤ 0
      constructor_or_not true = omega arith
      constructor_or_not false = implicit_weighs w (w.parent c) k.name.span

  class_use_weighs : (c : Option ℕ) (x : Ident) → N (source.class_use_notes c x.span) ≤ part (elsewhere x)
  class_use_weighs None x = let e = wrong_weighs note part weighed rule.UnknownName x.span in omega (arith, e)
  class_use_weighs (Some c) x = let e = weighed.used x (ClassNamed c) in omega (arith, e)

  parent_weighs : (w : World) (parent : Option Ident) → N (source.parent_use w parent) ≤ P (parts.maybe other_name parent)
  parent_weighs w None = omega arith
  parent_weighs w (Some x) = let e = class_use_weighs (w.class x.text) x in omega (arith, e)

  class_weighs : (w : World) (ps : List (Option ℕ)) (ms : List Signature) (c next : ℕ) (k : ClassDecl) → N (source.class_notes w ps ms c next k) ≤ P (class_parts k)
  class_weighs w ps ms c next k =
      let cyclic = is_cyclic ps c in
      let members = source.member_notes (source.place w ms c k) (source.member_named k.members) 0 next (joint.members k.members) in
      let a = both (source.parent_use w k.parent) (rules.cyclic_class cyclic k.name.span) (P (parts.maybe other_name k.parent)) 0 (parent_weighs w k.parent) (broken_weighs note part weighed _ rule.CyclicClass k.name.span) in
      let b = both (rules.duplicate_name (source.is_taken (w.class k.name.text) c) k.name.span) (source.parent_use w k.parent ++ rules.cyclic_class cyclic k.name.span) 0 (P (parts.maybe other_name k.parent) + 0)
      (broken_weighs note part weighed _ rule.DuplicateName k.name.span) a in
      let d = both members (source.default_notes_of w c k) (P (together (parts.each member_parts k.members))) 0 (members_weigh (source.place w ms c k) (source.member_named k.members) 0 next None k.members) (default_weighs w c k) in
      let e = both (source.head_notes w cyclic c k) (members ++ source.default_notes_of w c k) (0 + (P (parts.maybe other_name k.parent) + 0)) (P (together (parts.each member_parts k.members)) + 0) b d in
      let f = total_append part (parts.maybe other_name k.parent) (listed (parts.each member_parts k.members)) in omega (arith, e, f)

  classes_weigh : (w : World) (ps : List (Option ℕ)) (ms : List Signature) (c next : ℕ) (ks : List ClassDecl) → N (source.notes_from w ps ms c next ks) ≤ P (together (parts.each class_parts ks))
  classes_weigh w ps ms c next [] = omega arith
  classes_weigh w ps ms c next (k ∷ ks) =
      let a = both (source.class_notes w ps ms c next k) (source.notes_from w ps ms (c + 1) (source.next_fields next k.members) ks) (P (class_parts k)) (P (together (parts.each class_parts ks)))
      (class_weighs w ps ms c next k) (classes_weigh w ps ms (c + 1) (source.next_fields next k.members) ks) in
      let b = total_append part (class_parts k) (together (parts.each class_parts ks)) in omega (arith, a, b)

  pub notes_weigh_less : (unit : Source) → N (source.notes unit.classes) ≤ P (unit_parts unit)
  notes_weigh_less unit = let a = classes_weigh (world unit.classes) (parents unit.classes) (methods unit.classes) 0 0 unit.classes in omega (arith, a)
