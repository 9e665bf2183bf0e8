-- The fields, methods and constructors of a source (JLS 8.2), each list in the order of the text, and which of them a name means in a class.
use Rattle.std.specs.Prelude.{ℕ, ◌+◌, ◌==◌, ℤ, neg_ℤ, Bool, not, ◌&&◌, if◌then◌else◌, Option, Some, None, option_map, List, [], ◌∷◌, ◌++◌, map, slice_get, bytes_eq}
use Rattle.std.specs.Option.{option_and_then}
use Rattle.ix_tree.specs.declared.annot.Annot.{Annot}
use Rattle.ix_tree.specs.declared.annot.TypeTree.{TypeTree}
use Rattle.ix_tree.specs.declared.decl.ClassDecl.{ClassDecl}
use Rattle.ix_tree.specs.declared.decl.LocalDecl.{LocalDecl}
use Rattle.ix_tree.specs.declared.decl.MethodDecl.{MethodDecl}
use Rattle.ix_tree.specs.declared.decl.Member.{Member}
use Rattle.ix_tree.specs.declared.decl.Member.TheVariants as member
use Rattle.ix_tree.specs.declared.expr.ExprKind.{ExprKind-F}
use Rattle.ix_tree.specs.declared.expr.Init.{Init, Init-F, fold-Init}
use Rattle.ix_tree.specs.declared.expr.UnaryOp.TheVariants.{Minus}
use Rattle.ix_num.specs.Arithmetic.{wrap_of}
use Rattle.ix_core.specs.declared.claim.Type_.{Type_ as Ty}
use Rattle.ix_core.specs.declared.claim.Type_.TheVariants.{Void}
use Rattle.ix_meaning.specs.declared.note.Meaning.{Meaning}
use Rattle.ix_meaning.specs.declared.note.Meaning.TheVariants.{FieldNamed, Constant}
use Rattle.ix_meaning.specs.declared.members.Field.{Field}
use Rattle.ix_meaning.specs.declared.members.Signature.{Signature}
use Rattle.ix_meaning.specs.Classes.{class_named, parents, parent, supers}
use Rattle.ix_meaning.specs.Declarators as declared
use Rattle.ix_meaning.specs.Annotated.{written, element_claims, target_before, is_int_tree, of_result}

-- ---- constants: `static final int` with a literal, optionally behind a minus

pub record Literal : Type 0 where
  -- of an int literal
  pub int : Option ℤ
  -- of an int literal, optionally behind a minus
  pub value : Option ℤ

abbrev pub no_literal : Literal
no_literal = record { int = None; value = None }

abbrev pub literal_step : ExprKind-F Literal (Option ℤ) Literal → Literal
literal_step (ExprKind-F.Int n) = record { int = Some n; value = Some n }
literal_step (ExprKind-F.Unary Minus e) = record { int = None; value = option_map (λ n. wrap_of (neg_ℤ n)) e.int }
literal_step _ = no_literal

abbrev pub literal_init_step : Init-F Literal (Option ℤ) Literal → Option ℤ
literal_init_step (Init-F.Value e) = e.value
literal_init_step _ = None

abbrev pub literal : Init → Option ℤ
literal = fold-Init Literal (Option ℤ) Literal literal_step literal_init_step (λ e. e.kind)

abbrev pub is_int_type : TypeTree → Bool
is_int_type ty = is_int_tree ty.base && ty.depth == 0

abbrev pub constant : LocalDecl → Option ℤ
constant d = if d.mods.is_final && is_int_type d.ty then option_and_then literal d.init else None

-- ---- the lists

abbrev pub ClassOf : Type 0
ClassOf = List ℕ → Option ℕ

-- no element claims on a static field, on which no annotation may stand
abbrev pub field_type : ClassOf → LocalDecl → Option Ty
field_type class d = (written class d.ty (if d.mods.is_static then [] else element_claims (target_before d.ty) d.mods.annots)).ty

abbrev pub field_meaning : ℕ → LocalDecl → Option Meaning
field_meaning next d = if d.mods.is_static then option_map (λ n. Constant n) (constant d) else Some (FieldNamed next)

abbrev pub field_of : ClassOf → ℕ → ℕ → LocalDecl → Field
field_of class c next d = record {
  class = c;
  name = d.name.text;
  span = d.name.span;
  ty = field_type class d;
  is_static = d.mods.is_static;
  is_final = d.mods.is_final;
  meaning = field_meaning next d;
}

-- the number of the next instance field
abbrev pub next_field : ℕ → LocalDecl → ℕ
next_field next d = if d.mods.is_static then next else next + 1

abbrev pub fields_in : ClassOf → ℕ → ℕ → List Member → List Field
fields_in class c next [] = []
fields_in class c next (member.Field d ∷ ms) = field_of class c next d ∷ fields_in class c (next_field next d) ms
fields_in class c next (member.Method m ∷ ms) = fields_in class c next ms

abbrev pub next_member : ℕ → Member → ℕ
next_member next (member.Field d) = next_field next d
next_member next (member.Method m) = next

abbrev pub next_fields : ℕ → List Member → ℕ
next_fields next [] = next
next_fields next (m ∷ ms) = next_fields (next_member next m) ms

abbrev pub fields_from : ClassOf → ℕ → ℕ → List ClassDecl → List Field
fields_from class c next [] = []
fields_from class c next (k ∷ ks) = fields_in class c next (declared.members k.members) ++ fields_from class (c + 1) (next_fields next k.members) ks

abbrev pub fields : List ClassDecl → List Field
fields classes = fields_from (class_named classes) 0 0 classes

abbrev pub param_type : ClassOf → LocalDecl → Option Ty
param_type class d = (written class d.ty (element_claims (target_before d.ty) d.mods.annots)).ty

abbrev pub result_type : ClassOf → List Annot → Option TypeTree → Option Ty
result_type class annots None = Some Void
result_type class annots (Some ty) = (written class ty (element_claims (target_before ty) (of_result annots))).ty

abbrev pub signature : ClassOf → ℕ → MethodDecl → Signature
signature class c m = record {
  class = c;
  name = m.name.text;
  span = m.name.span;
  constructor = m.constructor;
  is_static = m.mods.is_static && not m.constructor;
  is_private = m.mods.is_private;
  params = map (param_type class) m.params;
  result = result_type class m.mods.annots m.result;
}

abbrev pub methods_in : ClassOf → ℕ → List Member → List Signature
methods_in class c [] = []
methods_in class c (member.Field d ∷ ms) = methods_in class c ms
methods_in class c (member.Method m ∷ ms) = signature class c m ∷ methods_in class c ms

abbrev pub methods_from : ClassOf → ℕ → List ClassDecl → List Signature
methods_from class c [] = []
methods_from class c (k ∷ ks) = methods_in class c k.members ++ methods_from class (c + 1) ks

-- A method's number is its place in this list.
abbrev pub methods : List ClassDecl → List Signature
methods classes = methods_from (class_named classes) 0 classes

-- ---- what a name means in one class: the first member that is declared with it

abbrev pub own_field : List Field → ℕ → List ℕ → Option Field
own_field [] c name = None
own_field (f ∷ fs) c name = if f.class == c && bytes_eq f.name name then Some f else own_field fs c name

pub record Callee : Type 0 where
  pub number : ℕ
  pub signature : Signature

abbrev pub callable_if : (Signature → Bool) → ℕ → List Signature → Option Callee
callable_if is k [] = None
callable_if is k (m ∷ ms) = if is m then Some (record { number = k; signature = m }) else callable_if is (k + 1) ms

abbrev pub is_method_named : ℕ → List ℕ → Signature → Bool
is_method_named c name m = m.class == c && (not m.constructor && bytes_eq m.name name)

abbrev pub own_method : List Signature → ℕ → List ℕ → Option Callee
own_method ms c name = callable_if (is_method_named c name) 0 ms

-- A constructor whose name isn't that of its class counts as not written.
abbrev pub is_constructor_named : ℕ → List ℕ → Signature → Bool
is_constructor_named c name m = m.class == c && (m.constructor && bytes_eq m.name name)

abbrev pub own_constructor : List Signature → ℕ → List ℕ → Option Callee
own_constructor ms c name = callable_if (is_constructor_named c name) 0 ms

-- ---- the whole: what all bodies stand in

pub record World : Type 0 where
  pub class : List ℕ → Option ℕ
  pub parent : ℕ → Option ℕ
  pub supers : ℕ → List ℕ
  pub field : ℕ → List ℕ → Option Field
  pub method : ℕ → List ℕ → Option Callee
  pub constructor : ℕ → Option Callee

abbrev pub class_name : Option ClassDecl → List ℕ
class_name None = []
class_name (Some c) = c.name.text

abbrev pub world : List ClassDecl → World
world classes = record {
  class = class_named classes;
  parent = λ c. parent (parents classes) c;
  supers = λ c. supers (parents classes) c;
  field = λ c name. own_field (fields classes) c name;
  method = λ c name. own_method (methods classes) c name;
  constructor = λ c. own_constructor (methods classes) c (class_name (slice_get classes c));
}

-- JLS 8.2: the member that a class declares, or else the one that it inherits from the nearest superclass that declares one.
abbrev pub or_nearest : {A : Type 0} → Option A → Option A → Option A
or_nearest None further = further
or_nearest (Some a) further = Some a

abbrev pub nearest : {A : Type 0} → (ℕ → Option A) → List ℕ → Option A
nearest own [] = None
nearest own (c ∷ cs) = or_nearest (own c) (nearest own cs)

abbrev pub field_named : World → ℕ → List ℕ → Option Field
field_named w c name = nearest (λ a. w.field a name) (c ∷ w.supers c)

abbrev pub method_named : World → ℕ → List ℕ → Option Callee
method_named w c name = nearest (λ a. w.method a name) (c ∷ w.supers c)

abbrev pub params_in : Option Callee → List (Option Ty)
params_in None = []
params_in (Some m) = m.signature.params

-- A class without a constructor has one without parameters.
abbrev pub constructor_params : World → ℕ → List (Option Ty)
constructor_params w c = params_in (w.constructor c)
