-- Errors on fields, methods and classes stand where these are laid out.
use Rattle.std.proofs.Common.{ℕ, ◌+◌, Bool, true, false, List, [], ◌∷◌, ◌++◌, map, Option, Some, None}
use Rattle.std.specs.List.{AllByRecursion}
use Rattle.std.specs.Prelude.{if◌then◌else◌, not, bytes_eq}
use Rattle.ix_text.specs.declared.span.Span.{Span}
use Rattle.ix_core.specs.declared.claim.Name.TheVariants as name
use Rattle.ix_annot.specs.declared.scope.Target.TheVariants as on
use Rattle.ix_tree.specs.declared.annot.Annot.{Annot}
use Rattle.ix_tree.specs.declared.annot.Ident.{Ident}
use Rattle.ix_tree.specs.declared.annot.TypeTree.{TypeTree}
use Rattle.ix_tree.specs.declared.decl.ClassDecl.{ClassDecl}
use Rattle.ix_tree.specs.declared.decl.LocalDecl.{LocalDecl}
use Rattle.ix_tree.specs.declared.decl.Member.{Member}
use Rattle.ix_tree.specs.declared.decl.Member.TheVariants as member
use Rattle.ix_tree.specs.declared.decl.MethodDecl.{MethodDecl}
use Rattle.ix_tree.specs.declared.decl.Unit.{Unit as Source}
use Rattle.ix_tree.specs.declared.expr.Expr.{Expr}
use Rattle.ix_meaning.specs.declared.members.Field.{Field}
use Rattle.ix_meaning.specs.declared.members.Signature.{Signature}
use Rattle.ix_meaning.specs.declared.note.Meaning.TheVariants.{ClassNamed}
use Rattle.ix_meaning.specs.declared.note.Rule.TheVariants as rule
use Rattle.ix_meaning.specs.Annotated.{aimed, variable, static_field, names_nothing, target_before, of_variable, of_method, of_result}
use Rattle.ix_meaning.specs.Classes.{parents}
use Rattle.ix_meaning.specs.Declarators as declared
use Rattle.ix_meaning.specs.Members.{World, world, methods, field_of, signature, constructor_params}
use Rattle.ix_meaning.specs.Scope.{Scope, annot_names}
use Rattle.ix_meaning.specs.Source as source
use Rattle.ix_meaning.specs.Source.{Place}
use Rattle.ix_meaning.specs.Types.{wrong_if}
use Rattle.ix_meaning.specs.Values.{reading, arguments, given_to}
use Rattle.ix_formed.specs.EachNode.{InText, IfSome, TypeNodes, DeclNodes, ArgsNodes, MethodNodes, MemberNodes, ClassNodes, SourceNodes}
use Rattle.ix_formed.proofs.ErrorsStand.{Stand, none, both, used, is_wrong, if_wrong}
use Rattle.ix_formed.proofs.TypesStand.{AnnotsStand, some_stand, given_stand, declaration_stands}
use Rattle.ix_formed.proofs.DeclaratorsStand.{members_nodes}
use Rattle.ix_formed.proofs.ExpressionsStand.{ReadingsStand, arguments_stand, given_to_stand, expression_stands}
use Rattle.ix_formed.proofs.StatementsStand.{declares_noted, init_stands, body_stands}

module _ (end : ℕ) where
  -- ---- fields

  field_declaration_stands : (l : Place) (f : Field) (d : LocalDecl) → DeclNodes (InText end) d → Stand end (source.field_declaration l f d).notes
  field_declaration_stands l f d h = static_or_not f.is_static
    where
      static_or_not : (b : Bool) → Stand end (if b then static_field l.world.class d.mods.annots d.ty
          else variable l.world.class (annot_names (source.member_scope l true) (Some (name.FieldNamed (source.field_number f.meaning))) None) d.mods.annots d.ty).notes
      static_or_not true = declaration_stands l.world.class (names_nothing on.Other) on.Other on.Other d.mods.annots d.ty h.annots h.ty
      static_or_not false =
          declaration_stands l.world.class (annot_names (source.member_scope l true) (Some (name.FieldNamed (source.field_number f.meaning))) None) (target_before d.ty) on.Array d.mods.annots d.ty h.annots h.ty

  field_stands : (l : Place) (f : Field) (d : LocalDecl) → DeclNodes (InText end) d → Stand end (source.field_notes l f d)
  field_stands l f d h =
      both (if_wrong _ rule.NotStatic d.name.span h.name)
      (both (if_wrong _ rule.DuplicateName d.name.span h.name)
      (both (field_declaration_stands l f d h)
      (both (declares_noted d.name.span f.ty _) (init_stands end d.init _ f.ty h.init))))

  -- ---- methods

  params_stand : (l : Place) (s : Scope) (before : List LocalDecl) (k : ℕ) (ds : List LocalDecl) → AllByRecursion (DeclNodes (InText end)) ds → Stand end (source.param_notes l s before k ds)
  params_stand l s before k [] h = none
  params_stand l s before k (d ∷ ds) h =
      let own = source.param_declaration l s k d in
      both (if_wrong _ rule.DuplicateName d.name.span h.0.name)
      (both (declaration_stands l.world.class (annot_names s (Some (name.Param k)) None) (target_before d.ty) on.Array d.mods.annots d.ty h.0.annots h.0.ty)
      (both (declares_noted d.name.span own.ty (of_variable own.claims)) (params_stand l s (before ++ d ∷ []) (k + 1) ds h.1)))

  result_stands : (l : Place) (s : Scope) (annots : List Annot) (ty : Option TypeTree) → AnnotsStand end annots → IfSome (TypeNodes (InText end)) ty → Stand end (source.result_of l s annots ty).notes
  result_stands l s annots None a h = given_stand (aimed (annot_names s None None) on.Other) annots a
  result_stands l s annots (Some ty) a h = declaration_stands l.world.class (annot_names s None None) (target_before ty) on.Array annots ty a h

  result_given_stands : (l : Place) (s : Scope) (m : Signature) (d : MethodDecl) → MethodNodes (InText end) d → Stand end (source.result_given l s m d).notes
  result_given_stands l s m d h = constructor_or_not m.constructor
    where
      constructor_or_not : (b : Bool) → Stand end (if b then source.nothing_declared else source.result_of l s (of_result d.mods.annots) d.result).notes
      constructor_or_not true = none
      constructor_or_not false = result_stands l s (of_result d.mods.annots) d.result (some_stand end _ d.mods.annots h.annots) h.result

  method_given_stands : (l : Place) (s : Scope) (m : Signature) (annots : List Annot) → AnnotsStand end annots → Stand end (source.method_given l s m annots).notes
  method_given_stands l s m annots h = given_stand _ _ (constructor_or_not m.constructor)
    where
      constructor_or_not : (b : Bool) → AnnotsStand end (if b then annots else of_method annots)
      constructor_or_not true = h
      constructor_or_not false = some_stand end _ annots h

  constructor_stands : (l : Place) (d : MethodDecl) → InText end d.name.span → Stand end (source.constructor_notes l d)
  constructor_stands l d at = constructor_or_not d.constructor
    where
      constructor_or_not : (b : Bool) → Stand end (if b then wrong_if (not (bytes_eq d.name.text l.class_name)) rule.UnknownName d.name.span ++ wrong_if d.mods.is_static rule.NotStatic d.name.span else [])
      constructor_or_not true = both (if_wrong _ rule.UnknownName d.name.span at) (if_wrong _ rule.NotStatic d.name.span at)
      constructor_or_not false = none

  -- ---- calls of the parent's constructor

  args_stand : (es : List Expr) → ArgsNodes (InText end) es → ReadingsStand end (map reading es)
  args_stand [] h = tt
  args_stand (e ∷ es) h = (expression_stands end e h.0, args_stand es h.1)

  super_args_stand : (l : Place) (s : Scope) (args : List Expr) (parent : Option ℕ) (span : Span) → ArgsNodes (InText end) args → InText end span → Stand end (source.super_args l s args parent span)
  super_args_stand l s args (Some p) span h at = given_to_stand end s (map reading args) (args_stand args h) (constructor_params l.world p) span at
  super_args_stand l s args None span h at = extends_or_not l.extends
    where
      extends_or_not : (b : Bool) → Stand end (if b then arguments s (map reading args) [] else given_to s (map reading args) [] span)
      extends_or_not true = arguments_stand end s (map reading args) (args_stand args h) []
      extends_or_not false = given_to_stand end s (map reading args) (args_stand args h) [] span at

  implicit_stands : (w : World) (parent : Option ℕ) (span : Span) → InText end span → Stand end (source.implicit_super_of w parent span)
  implicit_stands w None span at = none
  implicit_stands w (Some p) span at = if_wrong _ rule.WrongArguments span at

  super_given_stands : (l : Place) (s : Scope) (args : Option (List Expr)) (span : Span) → IfSome (ArgsNodes (InText end)) args → InText end span → Stand end (source.super_given l s args span)
  super_given_stands l s None span h at = implicit_stands l.world (l.world.parent l.class) span at
  super_given_stands l s (Some args) span h at = super_args_stand l (source.outside_object s) args (l.world.parent l.class) span h at

  super_stands : (l : Place) (s : Scope) (d : MethodDecl) → MethodNodes (InText end) d → Stand end (source.super_notes l s d)
  super_stands l s d h = constructor_or_not d.constructor
    where
      constructor_or_not : (b : Bool) → Stand end (if b then source.super_given l s d.parent_args d.name.span else [])
      constructor_or_not true = super_given_stands l s d.parent_args d.name.span h.parent_args h.name
      constructor_or_not false = none

  method_stands : (l : Place) (m : Signature) (d : MethodDecl) → InText end m.span → MethodNodes (InText end) d → Stand end (source.method_notes l m d)
  method_stands l m d at h =
      let head = source.head_scope l m d in
      let body = source.body_scope l m d in
      both (constructor_stands l d h.name)
      (both (both (if_wrong _ rule.DuplicateName m.span at) (if_wrong _ rule.TypeMismatch m.span at))
      (both (result_given_stands l head m d h)
      (both (method_given_stands l head m d.mods.annots h.annots)
      (both (declares_noted d.name.span m.result _)
      (both (params_stand l head [] 0 d.params h.params)
      (both (super_stands l body d h) (body_stands end d.body h.body body)))))))

  -- ---- members and classes

  member_stands : (l : Place) (next : ℕ) (m : Member) → MemberNodes (InText end) m → Stand end (source.one_member l next m)
  member_stands l next (member.Field d) h = field_stands l (field_of l.world.class l.class next d) d h
  member_stands l next (member.Method m) h = method_stands l (signature l.world.class l.class m) m h.name h

  name_stands : (m : Member) → MemberNodes (InText end) m → InText end (source.member_name m).span
  name_stands (member.Field d) h = h.name
  name_stands (member.Method m) h = h.name

  members_stand : (l : Place) (named : List ℕ → Option ℕ) (i next : ℕ) (ms : List Member) → AllByRecursion (MemberNodes (InText end)) ms → Stand end (source.member_notes l named i next ms)
  members_stand l named i next [] h = none
  members_stand l named i next (m ∷ ms) h =
      both (both (if_wrong _ rule.DuplicateName (source.member_name m).span (name_stands m h.0)) (member_stands l next m h.0))
      (members_stand l named (i + 1) (source.next_member next m) ms h.1)

  default_stands : (w : World) (c : ℕ) (k : ClassDecl) → InText end k.name.span → Stand end (source.default_notes_of w c k)
  default_stands w c k at = constructor_or_not (source.has_constructor k.members)
    where
      constructor_or_not : (b : Bool) → Stand end (if b then [] else source.implicit_super_of w (w.parent c) k.name.span)
      constructor_or_not true = none
      constructor_or_not false = implicit_stands w (w.parent c) k.name.span at

  class_use_stands : (c : Option ℕ) (span : Span) → InText end span → Stand end (source.class_use_notes c span)
  class_use_stands None span at = is_wrong rule.UnknownName span at
  class_use_stands (Some c) span at = used span (ClassNamed c) none

  parent_stands : (w : World) (parent : Option Ident) → IfSome (λ x. InText end x.span) parent → Stand end (source.parent_use w parent)
  parent_stands w None h = none
  parent_stands w (Some x) h = class_use_stands (w.class x.text) x.span h

  class_stands : (w : World) (ps : List (Option ℕ)) (ms : List Signature) (c next : ℕ) (k : ClassDecl) → ClassNodes (InText end) k → Stand end (source.class_notes w ps ms c next k)
  class_stands w ps ms c next k h =
      both (both (if_wrong _ rule.DuplicateName k.name.span h.name) (both (parent_stands w k.parent h.parent) (if_wrong _ rule.CyclicClass k.name.span h.name)))
      (both (members_stand (source.place w ms c k) (source.member_named k.members) 0 next (declared.members k.members) (members_nodes end None k.members tt h.members)) (default_stands w c k h.name))

  classes_stand : (w : World) (ps : List (Option ℕ)) (ms : List Signature) (c next : ℕ) (ks : List ClassDecl) → AllByRecursion (ClassNodes (InText end)) ks → Stand end (source.notes_from w ps ms c next ks)
  classes_stand w ps ms c next [] h = none
  classes_stand w ps ms c next (k ∷ ks) h = both (class_stands w ps ms c next k h.0) (classes_stand w ps ms (c + 1) (source.next_fields next k.members) ks h.1)

  pub notes_stand : (unit : Source) → SourceNodes (InText end) unit → Stand end (source.notes unit.classes)
  notes_stand unit h = classes_stand (world unit.classes) (parents unit.classes) (methods unit.classes) 0 0 unit.classes h
