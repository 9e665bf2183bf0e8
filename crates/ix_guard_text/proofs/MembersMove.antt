-- Members of a class say the same at their places moved.
use Rattle.std.proofs.Common.{◌≡◌, ℕ, ◌+◌, ℤ, Bool, true, false, List, [], ◌∷◌, ◌++◌, map, length, Option, Some, None, refl, sym, ap, ap₂, ◌∙◌, subst}
use Rattle.std.proofs.Math.Path.{fun_ext}
use Rattle.std.specs.List.{list_any}
use Rattle.std.specs.Option.{option_and_then}
use Rattle.std.specs.Prelude.{if◌then◌else◌, is_some, not, ◌&&◌, ◌||◌, bytes_eq, option_map}
use Rattle.std.proofs.lemmas.List.{map-append}
use Rattle.ix_text.specs.declared.span.Span.{Span}
use Rattle.ix_core.specs.declared.claim.Claim.{Claim}
use Rattle.ix_core.specs.declared.claim.Name.TheVariants as name
use Rattle.ix_core.specs.declared.claim.Post.{Post}
use Rattle.ix_core.specs.declared.claim.Type_.{Type_}
use Rattle.ix_annot.specs.declared.scope.Claims.{Claims}
use Rattle.ix_annot.specs.declared.scope.Target.TheVariants as on
use Rattle.ix_annot.specs.Named.{Names}
use Rattle.ix_tree.specs.declared.annot.Annot.{Annot}
use Rattle.ix_tree.specs.declared.annot.TypeTree.{TypeTree}
use Rattle.ix_tree.specs.declared.decl.LocalDecl.{LocalDecl}
use Rattle.ix_tree.specs.declared.decl.Member.{Member}
use Rattle.ix_tree.specs.declared.decl.Member.TheVariants as member
use Rattle.ix_tree.specs.declared.decl.MethodDecl.{MethodDecl}
use Rattle.ix_tree.specs.declared.expr.Expr.{Expr}
use Rattle.ix_tree.specs.declared.expr.Init.{Init}
use Rattle.ix_meaning.specs.declared.members.Field.{Field}
use Rattle.ix_meaning.specs.declared.members.Signature.{Signature}
use Rattle.ix_meaning.specs.declared.note.Meaning.{Meaning}
use Rattle.ix_meaning.specs.declared.note.Meaning.TheVariants.{Param, FieldNamed, Constant}
use Rattle.ix_meaning.specs.declared.note.Note.{Note}
use Rattle.ix_meaning.specs.declared.note.Rule.{Rule}
use Rattle.ix_meaning.specs.declared.note.Rule.TheVariants as rule
use Rattle.ix_meaning.specs.Annotated.{Given, given, aimed, names_nothing, written, element_claims, target_before, variable, static_field, of_variable, marked, distinct_posts, of_method, of_result}
use Rattle.ix_meaning.specs.Bodies.{all_told, telling, declares_note}
use Rattle.ix_meaning.specs.Classes.{first_or}
use Rattle.ix_meaning.specs.Inheritance.{hides, clashes_in, clashes, if_instance, overridden, differs_from}
use Rattle.ix_meaning.specs.Members.{ClassOf, World, Callee, literal, is_int_type, constant, field_type, field_meaning, field_of, next_member, next_fields, param_type, result_type, signature, nearest, constructor_params}
use Rattle.ix_meaning.specs.Rules as rules
use Rattle.ix_meaning.specs.Scope.{Scope, Known, annot_names}
use Rattle.ix_meaning.specs.Source as source
use Rattle.ix_meaning.specs.Source.{Place, member_scope, field_declaration, field_notes, params_from, param_declaration, is_named_in, param_notes, return_need, body_scope, head_scope, nothing_declared, result_of, method_given, result_given, constructor_notes, inherited_notes, super_args, outside_object, implicit_super_of, super_given, super_notes, method_notes, member_name, first_member, member_named, one_member, named_member, member_notes}
use Rattle.ix_meaning.specs.Types.{Need, wrong_if}
use Rattle.ix_meaning.specs.Values.{arguments, given_to, reading}
use Rattle.ix_guard_text.specs.Bare.{bare_maybe as maybe}
use Rattle.ix_guard_text.specs.Moved.{Move, moved_span, moved_name, moved_annot, moved_type, moved_init, moved_expr, moved_stmt, moved_decl, moved_method, moved_member}
use Rattle.ix_guard_text.specs.MovedNotes.{AreMoved}
use Rattle.ix_guard_text.proofs.NotesMove.{none, both, if_wrong}
use Rattle.ix_guard_text.proofs.AnnotsMove.{MovedGiven, given_moves, of_method_moved, of_result_moved}
use Rattle.ix_guard_text.proofs.TypesMove.{int_tree_moved, target_moved, written_moves, element_claims_moved, MovedDeclaration, declaration_moves, variable_moves}
use Rattle.ix_guard_text.specs.MovedScopes.{moved_field, moved_signature, moved_callee, moved_world, moved_scope, moved_place}
use Rattle.ix_guard_text.proofs.ScopesMove.{nearest_moved, constructor_moved, annot_names_moved}
use Rattle.ix_guard_text.proofs.LiteralsMove.{literal_moved}
use Rattle.ix_guard_text.proofs.ExpressionsMove.{AllMoved, arguments_moves, given_to_moves, expression_moves, some_moved}
use Rattle.ix_guard_text.proofs.StatementsMove.{declares_moves, init_moves, body_moves}

any_moved : {A B : Type 0} (f : A → B) (p : A → Bool) (q : B → Bool) → ((x : A) → q (f x) ≡ p x) → (xs : List A) → list_any q (map f xs) ≡ list_any p xs
any_moved f p q h [] = refl
any_moved f p q h (x ∷ xs) = ap₂ (λ (a : Bool) (b : Bool). a || b) (h x) (any_moved f p q h xs)

module _ (move : Move) where
  -- ---- fields

  constant_moved : (d : LocalDecl) → constant (moved_decl move d) ≡ constant d
  constant_moved d = rw (int_tree_moved move d.ty.base) (ap (λ (v : Option ℤ). if d.mods.is_final && is_int_type d.ty then v else None) (by d.init))
    where
      by : (init : Option Init) → option_and_then literal (maybe (moved_init move) init) ≡ option_and_then literal init
      by None = refl
      by (Some init) = literal_moved move init

  typed_moved : (class : ClassOf) (ty : TypeTree) (claims claimed : List Claim) → claims ≡ claimed → (written class (moved_type move ty) claims).ty ≡ (written class ty claimed).ty
  typed_moved class ty claims claimed e = ap (λ cs. (written class (moved_type move ty) cs).ty) e ∙ sym (written_moves move class ty claimed).ty

  pub param_type_moved : (class : ClassOf) (d : LocalDecl) → param_type class (moved_decl move d) ≡ param_type class d
  param_type_moved class d =
      typed_moved class d.ty _ _ (ap (λ t. element_claims t (map (moved_annot move) d.mods.annots)) (target_moved move d.ty) ∙ element_claims_moved move (target_before d.ty) d.mods.annots)

  field_type_moved : (class : ClassOf) (d : LocalDecl) → field_type class (moved_decl move d) ≡ field_type class d
  field_type_moved class d =
      typed_moved class d.ty _ _
      (ap (λ cs. if d.mods.is_static then [] else cs) (ap (λ t. element_claims t (map (moved_annot move) d.mods.annots)) (target_moved move d.ty) ∙ element_claims_moved move (target_before d.ty) d.mods.annots))

  field_meaning_moved : (next : ℕ) (d : LocalDecl) → field_meaning next (moved_decl move d) ≡ field_meaning next d
  field_meaning_moved next d = ap (λ c. if d.mods.is_static then option_map (λ n. Constant n) c else Some (FieldNamed next)) (constant_moved d)

  pub field_of_moved : (class : ClassOf) (c next : ℕ) (d : LocalDecl) → field_of class c next (moved_decl move d) ≡ moved_field move (field_of class c next d)
  field_of_moved class c next d =
      ap₂ (λ (ty : Option Type_) (meaning : Option Meaning).
      let f : Field = record { class = c; name = d.name.text; span = moved_span move d.name.span; ty = ty; is_static = d.mods.is_static; is_final = d.mods.is_final; meaning = meaning } in f)
      (field_type_moved class d) (field_meaning_moved next d)

  hides_moved : (w : World) (f : Field) → hides (moved_world move w) (moved_field move f) ≡ hides w f
  hides_moved w f = ap is_some (nearest_moved (moved_field move) (λ a. w.field a f.name) (w.supers f.class)) ∙ some_moved (moved_field move) (nearest (λ a. w.field a f.name) (w.supers f.class))

  field_declaration_moves : (l : Place) (f : Field) (d : LocalDecl) → MovedDeclaration move (field_declaration l f d) (field_declaration (moved_place move l) (moved_field move f) (moved_decl move d))
  field_declaration_moves l f d = by f.is_static
    where
      by : (b : Bool) → MovedDeclaration move
          (if b then static_field l.world.class d.mods.annots d.ty else variable l.world.class (annot_names (member_scope l true) (Some (name.FieldNamed (source.field_number f.meaning))) None) d.mods.annots d.ty)
          (if b then static_field l.world.class (map (moved_annot move) d.mods.annots) (moved_type move d.ty)
          else variable l.world.class (annot_names (moved_scope move (member_scope l true)) (Some (name.FieldNamed (source.field_number f.meaning))) None) (map (moved_annot move) d.mods.annots) (moved_type move d.ty))
      by true = declaration_moves move l.world.class (names_nothing on.Other) on.Other on.Other d.mods.annots d.ty
      by false = variable_moves move l.world.class _ _ (annot_names_moved move (member_scope l true) (Some (name.FieldNamed (source.field_number f.meaning))) None) d.mods.annots d.ty

  duplicate_moves : (taken other : Bool) (p : Span) → other ≡ taken → AreMoved move (rules.duplicate_name taken p) (rules.duplicate_name other (moved_span move p))
  duplicate_moves taken other p e = subst (λ b. AreMoved move (rules.duplicate_name taken p) (rules.duplicate_name b (moved_span move p))) (sym e) (if_wrong taken rule.DuplicateName p)

  field_notes_moves : (l : Place) (f : Field) (d : LocalDecl) → AreMoved move (field_notes l f d) (field_notes (moved_place move l) (moved_field move f) (moved_decl move d))
  field_notes_moves l f d =
      let said = field_declaration_moves l f d in
      both (if_wrong (source.is_refused f) rule.NotStatic d.name.span)
      (both (duplicate_moves (hides l.world f) (hides (moved_world move l.world) (moved_field move f)) d.name.span (hides_moved l.world f))
      (both said.notes
      (both (declares_moves move f.ty f.ty _ _ d.name.span refl (ap (λ (cs : List Claim). of_variable (if f.is_static then [] else cs)) said.claims))
      (init_moves move d.init (member_scope l (not f.is_static)) f.ty f.ty refl))))

  -- ---- parameters

  params_from_moved : (l : Place) (k : ℕ) (ds : List LocalDecl) → params_from (moved_place move l) k (map (moved_decl move) ds) ≡ params_from l k ds
  params_from_moved l k [] = refl
  params_from_moved l k (d ∷ ds) =
      ap₂ (λ (ty : Option Type_) (ks : List Known). let known : Known = record { name = d.name.text; meaning = Param k; ty = ty; is_fixed = d.mods.is_final } in known ∷ ks)
      (param_type_moved l.world.class d) (params_from_moved l (k + 1) ds)

  param_moves : (l : Place) (s : Scope) (k : ℕ) (d : LocalDecl) → MovedDeclaration move (param_declaration l s k d) (param_declaration (moved_place move l) (moved_scope move s) k (moved_decl move d))
  param_moves l s k d = variable_moves move l.world.class _ _ (annot_names_moved move s (Some (name.Param k)) None) d.mods.annots d.ty

  named_in_moved : (ds : List LocalDecl) (name : List ℕ) → is_named_in (map (moved_decl move) ds) name ≡ is_named_in ds name
  named_in_moved [] name = refl
  named_in_moved (d ∷ ds) name = ap (λ b. bytes_eq d.name.text name || b) (named_in_moved ds name)

  param_notes_moves : (l : Place) (s : Scope) (before others : List LocalDecl) → others ≡ map (moved_decl move) before → (k : ℕ) (ds : List LocalDecl)
      → AreMoved move (param_notes l s before k ds) (param_notes (moved_place move l) (moved_scope move s) others k (map (moved_decl move) ds))
  param_notes_moves l s before others e k [] = none
  param_notes_moves l s before others e k (d ∷ ds) =
      let said = param_moves l s k d in
      both (duplicate_moves (is_named_in before d.name.text) (is_named_in others d.name.text) d.name.span (ap (λ ds. is_named_in ds d.name.text) e ∙ named_in_moved before d.name.text))
      (both said.notes
      (both (declares_moves move _ _ _ _ d.name.span said.ty (ap of_variable said.claims))
      (param_notes_moves l s (before ++ d ∷ []) (others ++ moved_decl move d ∷ []) (ap (λ ds. ds ++ moved_decl move d ∷ []) e ∙ sym (map-append (moved_decl move) before (d ∷ []))) (k + 1) ds)))

  -- ---- methods and constructors

  types_moved : (class : ClassOf) (ds : List LocalDecl) → map (param_type class) (map (moved_decl move) ds) ≡ map (param_type class) ds
  types_moved class [] = refl
  types_moved class (d ∷ ds) = ap₂ (λ (t : Option Type_) (ts : List (Option Type_)). t ∷ ts) (param_type_moved class d) (types_moved class ds)

  result_type_moved : (class : ClassOf) (annots : List Annot) (result : Option TypeTree) → result_type class (map (moved_annot move) annots) (maybe (moved_type move) result) ≡ result_type class annots result
  result_type_moved class annots None = refl
  result_type_moved class annots (Some ty) =
      typed_moved class ty _ _
      (ap₂ (λ t (list : List Annot). element_claims t list) (target_moved move ty) (of_result_moved move annots) ∙ element_claims_moved move (target_before ty) (of_result annots))

  pub signature_moved : (class : ClassOf) (c : ℕ) (m : MethodDecl) → signature class c (moved_method move m) ≡ moved_signature move (signature class c m)
  signature_moved class c m =
      ap₂ (λ (params : List (Option Type_)) (result : Option Type_).
      let s : Signature = record {
        class = c;
        name = m.name.text;
        span = moved_span move m.name.span;
        constructor = m.constructor;
        is_static = m.mods.is_static && not m.constructor;
        is_private = m.mods.is_private;
        params = params;
        result = result;
      } in s) (types_moved class m.params) (result_type_moved class m.mods.annots m.result)

  return_need_moved : (m : Signature) (result : Option TypeTree) → return_need (moved_signature move m) (maybe (moved_type move) result) ≡ return_need m result
  return_need_moved m None = refl
  return_need_moved m (Some ty) = refl

  pub head_moved : (l : Place) (m : Signature) (d : MethodDecl) → head_scope (moved_place move l) (moved_signature move m) (moved_method move d) ≡ moved_scope move (head_scope l m d)
  head_moved l m d = ap (λ (names : List Known). record (moved_scope move (member_scope l (not (m.is_static || m.constructor)))) { names = names }) (params_from_moved l 0 d.params)

  pub body_moved : (l : Place) (m : Signature) (d : MethodDecl) → body_scope (moved_place move l) (moved_signature move m) (moved_method move d) ≡ moved_scope move (body_scope l m d)
  body_moved l m d =
      ap₂ (λ (names : List Known) (result : Option Need). record (moved_scope move (member_scope l (not m.is_static))) { in_constructor = m.constructor; result = result; names = names })
      (params_from_moved l 0 d.params) (return_need_moved m d.result)

  pub result_moves : (l : Place) (s : Scope) (annots : List Annot) (result : Option TypeTree)
      → MovedDeclaration move (result_of l s annots result) (result_of (moved_place move l) (moved_scope move s) (map (moved_annot move) annots) (maybe (moved_type move) result))
  result_moves l s annots None = record {
    ty = refl;
    claims = refl;
    notes = subst (λ (n : Names). AreMoved move (result_of l s annots None).notes (given (aimed n on.Other) (map (moved_annot move) annots)).notes) (sym (annot_names_moved move s None None))
        (given_moves move (aimed (annot_names s None None) on.Other) annots).notes;
  }
  result_moves l s annots (Some ty) = variable_moves move l.world.class _ _ (annot_names_moved move s None None) annots ty

  result_given_moves : (l : Place) (s : Scope) (m : Signature) (d : MethodDecl) → MovedDeclaration move (result_given l s m d) (result_given (moved_place move l) (moved_scope move s) (moved_signature move m) (moved_method move d))
  result_given_moves l s m d = by m.constructor
    where
      by : (b : Bool) → MovedDeclaration move (if b then nothing_declared else result_of l s (of_result d.mods.annots) d.result)
          (if b then nothing_declared else result_of (moved_place move l) (moved_scope move s) (of_result (map (moved_annot move) d.mods.annots)) (maybe (moved_type move) d.result))
      by true = record { ty = refl; claims = refl; notes = none }
      by false =
          subst (λ (list : List Annot). MovedDeclaration move (result_of l s (of_result d.mods.annots) d.result) (result_of (moved_place move l) (moved_scope move s) list (maybe (moved_type move) d.result)))
          (sym (of_result_moved move d.mods.annots))
          (result_moves l s (of_result d.mods.annots) d.result)

  of_methods_moved : (constructor : Bool) (annots : List Annot) → (if constructor then map (moved_annot move) annots else of_method (map (moved_annot move) annots))
      ≡ map (moved_annot move) (if constructor then annots else of_method annots)
  of_methods_moved true annots = refl
  of_methods_moved false annots = of_method_moved move annots

  method_given_moves : (l : Place) (s : Scope) (m : Signature) (annots : List Annot)
      → MovedGiven move (method_given l s m annots) (method_given (moved_place move l) (moved_scope move s) (moved_signature move m) (map (moved_annot move) annots))
  method_given_moves l s m annots =
      let was = method_given l s m annots in
      let target = source.method_target m in
      let kept = if m.constructor then annots else of_method annots in
      subst (λ (n : Names). MovedGiven move was (given (aimed n target) (if m.constructor then map (moved_annot move) annots else of_method (map (moved_annot move) annots)))) (sym (annot_names_moved move s None None))
      (subst (λ (list : List Annot). MovedGiven move was (given (aimed (annot_names s None None) target) list)) (sym (of_methods_moved m.constructor annots)) (given_moves move (aimed (annot_names s None None) target) kept))

  constructor_moves : (l : Place) (d : MethodDecl) → AreMoved move (constructor_notes l d) (constructor_notes (moved_place move l) (moved_method move d))
  constructor_moves l d = by d.constructor
    where
      by : (b : Bool) → AreMoved move
          (if b then wrong_if (not (bytes_eq d.name.text l.class_name)) rule.UnknownName d.name.span ++ wrong_if d.mods.is_static rule.NotStatic d.name.span else [])
          (if b then wrong_if (not (bytes_eq d.name.text l.class_name)) rule.UnknownName (moved_span move d.name.span) ++ wrong_if d.mods.is_static rule.NotStatic (moved_span move d.name.span) else [])
      by true = both (if_wrong (not (bytes_eq d.name.text l.class_name)) rule.UnknownName d.name.span) (if_wrong d.mods.is_static rule.NotStatic d.name.span)
      by false = none

  -- ---- inheritance

  clashes_in_moved : (all : List Signature) (m : Signature) (a : ℕ) → clashes_in (map (moved_signature move) all) (moved_signature move m) a ≡ clashes_in all m a
  clashes_in_moved all m a = any_moved (moved_signature move) _ _ (λ other. refl) all

  clashes_moved : (w : World) (all : List Signature) (m : Signature) → clashes (moved_world move w) (map (moved_signature move) all) (moved_signature move m) ≡ clashes w all m
  clashes_moved w all m = ap (λ (test : ℕ → Bool). not m.constructor && list_any test (w.supers m.class)) (fun_ext (clashes_in_moved all m))

  if_instance_moved : (m : Option Callee) → if_instance (maybe (moved_callee move) m) ≡ maybe (moved_callee move) (if_instance m)
  if_instance_moved None = refl
  if_instance_moved (Some m) = by m.signature.is_static
    where
      by : (b : Bool) → (if b then None else Some (moved_callee move m)) ≡ maybe (moved_callee move) (if b then None else Some m)
      by true = refl
      by false = refl

  overridden_moved : (w : World) (m : Signature) → overridden (moved_world move w) (moved_signature move m) ≡ maybe (moved_callee move) (overridden w m)
  overridden_moved w m = by (m.constructor || m.is_static)
    where
      by : (b : Bool) → (if b then None else nearest (λ a. if_instance (maybe (moved_callee move) (w.method a m.name))) (w.supers m.class))
          ≡ maybe (moved_callee move) (if b then None else nearest (λ a. if_instance (w.method a m.name)) (w.supers m.class))
      by true = refl
      by false =
          ap (λ (own : ℕ → Option Callee). nearest own (w.supers m.class)) (fun_ext (λ a. if_instance_moved (w.method a m.name)))
          ∙ nearest_moved (moved_callee move) (λ a. if_instance (w.method a m.name)) (w.supers m.class)

  differs_moved : (m : Signature) (other : Option Callee) → differs_from (moved_signature move m) (maybe (moved_callee move) other) ≡ differs_from m other
  differs_moved m None = refl
  differs_moved m (Some other) = refl

  wrong_moves : (is other : Bool) (r : Rule) (p : Span) → other ≡ is → AreMoved move (wrong_if is r p) (wrong_if other r (moved_span move p))
  wrong_moves is other r p e = subst (λ b. AreMoved move (wrong_if is r p) (wrong_if b r (moved_span move p))) (sym e) (if_wrong is r p)

  inherited_moves : (l : Place) (m : Signature) → AreMoved move (inherited_notes l m) (inherited_notes (moved_place move l) (moved_signature move m))
  inherited_moves l m =
      both (duplicate_moves _ _ m.span (clashes_moved l.world l.methods m))
      (wrong_moves _ _ rule.TypeMismatch m.span (ap (differs_from (moved_signature move m)) (overridden_moved l.world m) ∙ differs_moved m (overridden l.world m)))

  -- ---- the call of the parent's constructor

  readings_moves : (es : List Expr) → AllMoved move (map reading es) (map reading (map (moved_expr move) es))
  readings_moves [] = tt
  readings_moves (e ∷ es) = (expression_moves move e, readings_moves es)

  parent_moves : (s : Scope) (es : List Expr) (types others : List (Option Type_)) (p : Span) → others ≡ types
      → AreMoved move (given_to s (map reading es) types p) (given_to (moved_scope move s) (map reading (map (moved_expr move) es)) others (moved_span move p))
  parent_moves s es types others p e =
      subst (λ (ts : List (Option Type_)). AreMoved move (given_to s (map reading es) types p) (given_to (moved_scope move s) (map reading (map (moved_expr move) es)) ts (moved_span move p))) (sym e)
      (given_to_moves move s (map reading es) (map reading (map (moved_expr move) es)) (readings_moves es) types p)

  super_args_moves : (l : Place) (s : Scope) (es : List Expr) (parent : Option ℕ) (p : Span)
      → AreMoved move (super_args l s es parent p) (super_args (moved_place move l) (moved_scope move s) (map (moved_expr move) es) parent (moved_span move p))
  super_args_moves l s es (Some c) p = parent_moves s es (constructor_params l.world c) _ p (constructor_moved move l.world c)
  super_args_moves l s es None p = by l.extends
    where
      by : (b : Bool) → AreMoved move (if b then arguments s (map reading es) [] else given_to s (map reading es) [] p)
          (if b then arguments (moved_scope move s) (map reading (map (moved_expr move) es)) [] else given_to (moved_scope move s) (map reading (map (moved_expr move) es)) [] (moved_span move p))
      by true = arguments_moves move s (map reading es) (map reading (map (moved_expr move) es)) (readings_moves es) []
      by false = given_to_moves move s (map reading es) (map reading (map (moved_expr move) es)) (readings_moves es) [] p

  pub implicit_moves : (w : World) (parent : Option ℕ) (p : Span) → AreMoved move (implicit_super_of w parent p) (implicit_super_of (moved_world move w) parent (moved_span move p))
  implicit_moves w None p = none
  implicit_moves w (Some c) p =
      subst (λ (ts : List (Option Type_)). AreMoved move (implicit_super_of w (Some c) p) (rules.wrong_arguments 0 (length ts) (moved_span move p))) (sym (constructor_moved move w c)) (if_wrong _ rule.WrongArguments p)

  super_moves : (l : Place) (s : Scope) (args : Option (List Expr)) (p : Span)
      → AreMoved move (super_given l s args p) (super_given (moved_place move l) (moved_scope move s) (maybe (map (moved_expr move)) args) (moved_span move p))
  super_moves l s None p = implicit_moves l.world (l.world.parent l.class) p
  super_moves l s (Some es) p = super_args_moves l (outside_object s) es (l.world.parent l.class) p

  super_notes_moves : (l : Place) (s : Scope) (d : MethodDecl) → AreMoved move (super_notes l s d) (super_notes (moved_place move l) (moved_scope move s) (moved_method move d))
  super_notes_moves l s d = by d.constructor
    where
      by : (b : Bool) → AreMoved move (if b then super_given l s d.parent_args d.name.span else [])
          (if b then super_given (moved_place move l) (moved_scope move s) (maybe (map (moved_expr move)) d.parent_args) (moved_span move d.name.span) else [])
      by true = super_moves l s d.parent_args d.name.span
      by false = none

  -- ---- whole methods

  marks_same : (g h : Given) → MovedGiven move g h → marked [] g ≡ marked [] h
  marks_same g h e = ap₂ (λ (free : Bool) (posts : List Post). let claims : Claims = record { list = []; effect_free = free; posts = distinct_posts posts } in claims) e.effect_free e.posts

  pub method_moves : (l : Place) (m : Signature) (d : MethodDecl) → AreMoved move (method_notes l m d) (method_notes (moved_place move l) (moved_signature move m) (moved_method move d))
  method_moves l m d =
      let head = head_scope l m d in
      let body = body_scope l m d in
      let was = method_notes l m d in
      let with_scopes : Scope → Scope → List Note = λ h b.
      constructor_notes (moved_place move l) (moved_method move d)
      ++ (inherited_notes (moved_place move l) (moved_signature move m)
      ++ ((result_given (moved_place move l) h (moved_signature move m) (moved_method move d)).notes
      ++ ((method_given (moved_place move l) h (moved_signature move m) (map (moved_annot move) d.mods.annots)).notes
      ++ (declares_note (moved_span move d.name.span) m.result
      (marked (result_given (moved_place move l) h (moved_signature move m) (moved_method move d)).claims (method_given (moved_place move l) h (moved_signature move m) (map (moved_annot move) d.mods.annots)))
      ++ (param_notes (moved_place move l) h [] 0 (map (moved_decl move) d.params)
      ++ (super_notes (moved_place move l) b (moved_method move d)
      ++ (all_told (map telling (map (moved_stmt move) d.body))).notes b)))))) in
      let result = result_given_moves l head m d in
      let marks = method_given_moves l head m d.mods.annots in
      let claims_same : marked (result_given l head m d).claims (method_given l head m d.mods.annots)
      ≡ marked (result_given (moved_place move l) (moved_scope move head) (moved_signature move m) (moved_method move d)).claims
      (method_given (moved_place move l) (moved_scope move head) (moved_signature move m) (map (moved_annot move) d.mods.annots)) =
      ap₂ (λ (cs : List Claim) (f : Claims). record f { list = cs }) result.claims (marks_same _ _ marks) in
      let inner : AreMoved move was (with_scopes (moved_scope move head) (moved_scope move body)) =
      both (constructor_moves l d)
      (both (inherited_moves l m)
      (both result.notes
      (both marks.notes
      (both (declares_moves move m.result m.result _ _ d.name.span refl claims_same)
      (both (param_notes_moves l head [] [] refl 0 d.params)
      (both (super_notes_moves l body d)
      ((body_moves move d.body).notes body))))))) in
      subst (λ (h : Scope). AreMoved move was (with_scopes h (body_scope (moved_place move l) (moved_signature move m) (moved_method move d)))) (sym (head_moved l m d))
      (subst (λ (b : Scope). AreMoved move was (with_scopes (moved_scope move head) b)) (sym (body_moved l m d)) inner)

  -- ---- all members of a class

  pub named_moved : (m : Member) → member_name (moved_member move m) ≡ moved_name move (member_name m)
  named_moved (member.Field d) = refl
  named_moved (member.Method m) = refl

  first_moved : (name : List ℕ) (found : Option ℕ) (i : ℕ) (ms : List Member) → first_member name found i (map (moved_member move) ms) ≡ first_member name found i ms
  first_moved name found i [] = refl
  first_moved name found i (m ∷ ms) =
      ap (λ n. first_member name (first_or found name n.text i) (i + 1) (map (moved_member move) ms)) (named_moved m) ∙ first_moved name (first_or found name (member_name m).text i) (i + 1) ms

  pub member_named_moved : (ms : List Member) → member_named (map (moved_member move) ms) ≡ member_named ms
  member_named_moved ms = fun_ext (λ name. first_moved name None 0 ms)

  pub one_moves : (l : Place) (next : ℕ) (m : Member) → AreMoved move (one_member l next m) (one_member (moved_place move l) next (moved_member move m))
  one_moves l next (member.Field d) =
      subst (λ (f : Field). AreMoved move (one_member l next (member.Field d)) (field_notes (moved_place move l) f (moved_decl move d))) (sym (field_of_moved l.world.class l.class next d))
      (field_notes_moves l (field_of l.world.class l.class next d) d)
  one_moves l next (member.Method m) =
      subst (λ (s : Signature). AreMoved move (one_member l next (member.Method m)) (method_notes (moved_place move l) s (moved_method move m))) (sym (signature_moved l.world.class l.class m))
      (method_moves l (signature l.world.class l.class m) m)

  named_moves : (l : Place) (named : List ℕ → Option ℕ) (i next : ℕ) (m : Member) → AreMoved move (named_member l named i next m) (named_member (moved_place move l) named i next (moved_member move m))
  named_moves l named i next (member.Field d) = both (if_wrong (source.is_taken (named d.name.text) i) rule.DuplicateName d.name.span) (one_moves l next (member.Field d))
  named_moves l named i next (member.Method m) = both (if_wrong (source.is_taken (named m.name.text) i) rule.DuplicateName m.name.span) (one_moves l next (member.Method m))

  pub next_member_moved : (next : ℕ) (m : Member) → next_member next (moved_member move m) ≡ next_member next m
  next_member_moved next (member.Field d) = refl
  next_member_moved next (member.Method m) = refl

  pub next_fields_moved : (next : ℕ) (ms : List Member) → next_fields next (map (moved_member move) ms) ≡ next_fields next ms
  next_fields_moved next [] = refl
  next_fields_moved next (m ∷ ms) = ap (λ n. next_fields n (map (moved_member move) ms)) (next_member_moved next m) ∙ next_fields_moved (next_member next m) ms

  pub members_moves : (l : Place) (named : List ℕ → Option ℕ) (i next : ℕ) (ms : List Member) → AreMoved move (member_notes l named i next ms) (member_notes (moved_place move l) named i next (map (moved_member move) ms))
  members_moves l named i next [] = none
  members_moves l named i next (m ∷ ms) =
      both (named_moves l named i next m)
      (subst (λ n. AreMoved move (member_notes l named (i + 1) (next_member next m) ms) (member_notes (moved_place move l) named (i + 1) n (map (moved_member move) ms))) (sym (next_member_moved next m))
      (members_moves l named (i + 1) (next_member next m) ms))
