-- What a whole source says (JLS 7.3, 8): of each class, and in it of each member, in the order of the text.
use Rattle.std.specs.Prelude.{ℕ, ◌+◌, nat_lt, Bool, true, false, not, ◌&&◌, ◌||◌, if◌then◌else◌, Option, Some, None, is_some, List, [], ◌∷◌, ◌++◌, map, length, bytes_eq}
use Rattle.std.specs.List.{list_any}
use Rattle.ix_text.specs.declared.span.Span.{Span}
use Rattle.ix_tree.specs.declared.annot.Annot.{Annot}
use Rattle.ix_tree.specs.declared.annot.Ident.{Ident}
use Rattle.ix_tree.specs.declared.annot.TypeTree.{TypeTree}
use Rattle.ix_tree.specs.declared.decl.ClassDecl.{ClassDecl}
use Rattle.ix_tree.specs.declared.decl.LocalDecl.{LocalDecl}
use Rattle.ix_tree.specs.declared.decl.MethodDecl.{MethodDecl}
use Rattle.ix_tree.specs.declared.decl.Member.{Member}
use Rattle.ix_tree.specs.declared.decl.Member.TheVariants as member
use Rattle.ix_tree.specs.declared.expr.Expr.{Expr}
use Rattle.ix_core.specs.declared.claim.Name.TheVariants as name
use Rattle.ix_core.specs.declared.claim.Type_.TheVariants.{Void}
use Rattle.ix_annot.specs.declared.scope.Target.{Target}
use Rattle.ix_annot.specs.declared.scope.Target.TheVariants as on
use Rattle.ix_meaning.specs.declared.note.Meaning.{Meaning}
use Rattle.ix_meaning.specs.declared.note.Meaning.TheVariants.{Param, FieldNamed, ClassNamed}
use Rattle.ix_meaning.specs.declared.note.Note.{Note}
use Rattle.ix_meaning.specs.declared.note.Rule.TheVariants as rule
use Rattle.ix_meaning.specs.declared.note.Note.TheVariants.{Use}
use Rattle.ix_meaning.specs.declared.members.Field.{Field}
use Rattle.ix_meaning.specs.declared.members.Signature.{Signature}
use Rattle.ix_meaning.specs.Types.{Need, is_boolean, need_like, wrong_if}
use Rattle.ix_meaning.specs.Classes.{first_or, is_cyclic, parents}
use Rattle.ix_meaning.specs.Declarators as declared
use Rattle.ix_meaning.specs.Annotated.{Given, given, aimed, Declaration, variable, static_field, of_variable, marked, of_method, of_result}
pub use Rattle.ix_meaning.specs.Members.{next_member, next_fields}
use Rattle.ix_meaning.specs.Members.{World, world, field_of, methods, signature, param_type, constructor_params}
use Rattle.ix_meaning.specs.Scope.{Scope, Known, annot_names}
use Rattle.ix_meaning.specs.Rules.{unknown_name, duplicate_name, cyclic_class, wrong_arguments}
use Rattle.ix_meaning.specs.Values.{arguments, given_to, reading}
use Rattle.ix_meaning.specs.Bodies.{all_told, telling, declares_note, init_notes}
use Rattle.ix_meaning.specs.Inheritance.{hides, clashes, overridden, differs_from}

-- ---- what a member stands in

pub record Place : Type 0 where
  pub world : World
  -- all methods of the source
  pub methods : List Signature
  -- the class and its name
  pub class : ℕ
  pub class_name : List ℕ
  -- whether it extends a class, and which
  pub extends : Bool

-- the scope of a member that declares no parameters
abbrev pub member_scope : Place → Bool → Scope
member_scope l has_object = record {
  world = l.world;
  class = l.class;
  has_object = has_object;
  in_constructor = false;
  in_loop = false;
  result = None;
  pending = None;
  names = [];
  next = 0;
  names_fields = has_object;
}

-- ---- fields (JLS 8.3)

-- not.static: a static field is no `static final int` with a literal.
abbrev pub is_refused : Field → Bool
is_refused f = f.is_static && not (is_some f.meaning)

abbrev pub field_number : Option Meaning → ℕ
field_number (Some (FieldNamed k)) = k
field_number _ = 0

abbrev pub field_declaration : Place → Field → LocalDecl → Declaration
field_declaration l f d =
    if f.is_static then static_field l.world.class d.mods.annots d.ty
    else variable l.world.class (annot_names (member_scope l true) (Some (name.FieldNamed (field_number f.meaning))) None) d.mods.annots d.ty

abbrev pub field_notes : Place → Field → LocalDecl → List Note
field_notes l f d =
    wrong_if (is_refused f) rule.NotStatic d.name.span
    ++ (duplicate_name (hides l.world f) d.name.span
    ++ ((field_declaration l f d).notes
    ++ (declares_note d.name.span f.ty (of_variable (if f.is_static then [] else (field_declaration l f d).claims))
    ++ init_notes d.init (member_scope l (not f.is_static)) f.ty)))

-- ---- parameters (JLS 8.4.1)

abbrev pub param_known : Place → ℕ → LocalDecl → Known
param_known l k d = record { name = d.name.text; meaning = Param k; ty = param_type l.world.class d; is_fixed = d.mods.is_final }

abbrev pub params_from : Place → ℕ → List LocalDecl → List Known
params_from l k [] = []
params_from l k (d ∷ ds) = param_known l k d ∷ params_from l (k + 1) ds

abbrev pub param_declaration : Place → Scope → ℕ → LocalDecl → Declaration
param_declaration l s k d = variable l.world.class (annot_names s (Some (name.Param k)) None) d.mods.annots d.ty

abbrev pub is_named_in : List LocalDecl → List ℕ → Bool
is_named_in ds name = list_any (λ d. bytes_eq d.name.text name) ds

abbrev pub param_notes : Place → Scope → List LocalDecl → ℕ → List LocalDecl → List Note
param_notes l s before k [] = []
param_notes l s before k (d ∷ ds) =
    duplicate_name (is_named_in before d.name.text) d.name.span
    ++ ((param_declaration l s k d).notes
    ++ (declares_note d.name.span (param_declaration l s k d).ty (of_variable (param_declaration l s k d).claims)
    ++ param_notes l s (before ++ d ∷ []) (k + 1) ds))

-- ---- methods and constructors (JLS 8.4, 8.8)

-- what a `return` needs
abbrev pub return_need : Signature → Option TypeTree → Option Need
return_need m None = None
return_need m (Some ty) = if m.constructor then None else Some (need_like m.result)

abbrev pub body_scope : Place → Signature → MethodDecl → Scope
body_scope l m d = record (member_scope l (not m.is_static)) {
  in_constructor = m.constructor;
  result = return_need m d.result;
  names = params_from l 0 d.params;
}

-- An annotation of a parameter or a result names parameters and, in an instance method, fields of `this`.
abbrev pub head_scope : Place → Signature → MethodDecl → Scope
head_scope l m d = record (member_scope l (not (m.is_static || m.constructor))) { names = params_from l 0 d.params }

abbrev pub nothing_declared : Declaration
nothing_declared = record { ty = Some Void; claims = []; notes = [] }

-- The result, with the annotations that speak of it. Without a type no annotation may speak of it.
abbrev pub result_of : Place → Scope → List Annot → Option TypeTree → Declaration
result_of l s annots None = record { ty = Some Void; claims = []; notes = (given (aimed (annot_names s None None) on.Other) annots).notes }
result_of l s annots (Some ty) = variable l.world.class (annot_names s None None) annots ty

-- what an annotation on a method or constructor stands on
abbrev pub method_target : Signature → Target
method_target m = if m.constructor then on.Constructor else if is_boolean m.result then on.BooleanMethod else on.Method

abbrev pub method_given : Place → Scope → Signature → List Annot → Given
method_given l s m annots = given (aimed (annot_names s None None) (method_target m)) (if m.constructor then annots else of_method annots)

abbrev pub result_given : Place → Scope → Signature → MethodDecl → Declaration
result_given l s m d = if m.constructor then nothing_declared else result_of l s (of_result d.mods.annots) d.result

-- unknown.name: the name of a constructor isn't that of its class. not.static: a constructor is static.
abbrev pub constructor_notes : Place → MethodDecl → List Note
constructor_notes l d =
    if d.constructor then wrong_if (not (bytes_eq d.name.text l.class_name)) rule.UnknownName d.name.span ++ wrong_if d.mods.is_static rule.NotStatic d.name.span else []

abbrev pub inherited_notes : Place → Signature → List Note
inherited_notes l m =
    duplicate_name (clashes l.world l.methods m) m.span ++ wrong_if (differs_from m (overridden l.world m)) rule.TypeMismatch m.span

-- A call of the parent's constructor, at that place; without a parent it has no parameters. An unknown parent's parameters are unknown.
abbrev pub super_args : Place → Scope → List Expr → Option ℕ → Span → List Note
super_args l s args (Some p) at = given_to s (map reading args) (constructor_params l.world p) at
super_args l s args None at = if l.extends then arguments s (map reading args) [] else given_to s (map reading args) [] at

abbrev pub outside_object : Scope → Scope
outside_object s = record s { has_object = false }

abbrev pub implicit_super_of : World → Option ℕ → Span → List Note
implicit_super_of w None at = []
implicit_super_of w (Some p) at = wrong_arguments 0 (length (constructor_params w p)) at

abbrev pub implicit_super : Place → Option ℕ → Span → List Note
implicit_super l parent at = implicit_super_of l.world parent at

abbrev pub super_given : Place → Scope → Option (List Expr) → Span → List Note
super_given l s None at = implicit_super l (l.world.parent l.class) at
super_given l s (Some args) at = super_args l (outside_object s) args (l.world.parent l.class) at

abbrev pub super_notes : Place → Scope → MethodDecl → List Note
super_notes l s d = if d.constructor then super_given l s d.parent_args d.name.span else []

abbrev pub method_notes : Place → Signature → MethodDecl → List Note
method_notes l m d =
    constructor_notes l d
    ++ (inherited_notes l m
    ++ ((result_given l (head_scope l m d) m d).notes
    ++ ((method_given l (head_scope l m d) m d.mods.annots).notes
    ++ (declares_note d.name.span m.result (marked (result_given l (head_scope l m d) m d).claims (method_given l (head_scope l m d) m d.mods.annots))
    ++ (param_notes l (head_scope l m d) [] 0 d.params
    ++ (super_notes l (body_scope l m d) d
    ++ (all_told (map telling d.body)).notes (body_scope l m d)))))))

-- ---- members: fields, methods and constructors of a class share one space of names

abbrev pub member_name : Member → Ident
member_name (member.Field d) = d.name
member_name (member.Method m) = m.name

abbrev pub first_member : List ℕ → Option ℕ → ℕ → List Member → Option ℕ
first_member name found i [] = found
first_member name found i (m ∷ ms) = first_member name (first_or found name (member_name m).text i) (i + 1) ms

-- the place in its class of the first member of that name
abbrev pub member_named : List Member → List ℕ → Option ℕ
member_named ms name = first_member name None 0 ms

-- the name means one that is declared before the one with this number
abbrev pub is_taken : Option ℕ → ℕ → Bool
is_taken None i = false
is_taken (Some k) i = nat_lt k i

abbrev pub one_member : Place → ℕ → Member → List Note
one_member l next (member.Field d) = field_notes l (field_of l.world.class l.class next d) d
one_member l next (member.Method m) = method_notes l (signature l.world.class l.class m) m

abbrev pub named_member : Place → (List ℕ → Option ℕ) → ℕ → ℕ → Member → List Note
named_member l named i next m = duplicate_name (is_taken (named (member_name m).text) i) (member_name m).span ++ one_member l next m

-- the members from that number on
abbrev pub member_notes : Place → (List ℕ → Option ℕ) → ℕ → ℕ → List Member → List Note
member_notes l named i next [] = []
member_notes l named i next (m ∷ ms) = named_member l named i next m ++ member_notes l named (i + 1) (next_member next m) ms

-- ---- classes (JLS 8.1)

abbrev pub is_constructor : Member → Bool
is_constructor (member.Field d) = false
is_constructor (member.Method m) = m.constructor

abbrev pub has_constructor : List Member → Bool
has_constructor [] = false
has_constructor (m ∷ ms) = is_constructor m || has_constructor ms

-- A class without a constructor has one that calls the parent's without arguments.
abbrev pub default_notes_of : World → ℕ → ClassDecl → List Note
default_notes_of w c k = if has_constructor k.members then [] else implicit_super_of w (w.parent c) k.name.span

abbrev pub members_in : List ClassDecl → ℕ
members_in [] = 0
members_in (k ∷ ks) = length k.members + members_in ks

abbrev pub class_use_notes : Option ℕ → Span → List Note
class_use_notes None p = unknown_name p
class_use_notes (Some c) p = Use p (ClassNamed c) ∷ []

abbrev pub parent_use : World → Option Ident → List Note
parent_use w None = []
parent_use w (Some name) = class_use_notes (w.class name.text) name.span

abbrev pub place : World → List Signature → ℕ → ClassDecl → Place
place w ms c k = record { world = w; methods = ms; class = c; class_name = k.name.text; extends = is_some k.parent }

abbrev pub head_notes : World → Bool → ℕ → ClassDecl → List Note
head_notes w cyclic c k =
    duplicate_name (is_taken (w.class k.name.text) c) k.name.span
    ++ (parent_use w k.parent
    ++ cyclic_class cyclic k.name.span)

abbrev pub class_notes : World → List (Option ℕ) → List Signature → ℕ → ℕ → ClassDecl → List Note
class_notes w ps ms c next k =
    head_notes w (is_cyclic ps c) c k
    ++ (member_notes (place w ms c k) (member_named k.members) 0 next (declared.members k.members) ++ default_notes_of w c k)

-- the classes from that number on
abbrev pub notes_from : World → List (Option ℕ) → List Signature → ℕ → ℕ → List ClassDecl → List Note
notes_from w ps ms c next [] = []
notes_from w ps ms c next (k ∷ ks) = class_notes w ps ms c next k ++ notes_from w ps ms (c + 1) (next_fields next k.members) ks

-- What a source says.
abbrev pub notes : List ClassDecl → List Note
notes all = notes_from (world all) (parents all) (methods all) 0 0 all
