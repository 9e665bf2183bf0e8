-- The numbers of methods, constructors and fields, and the classes and fields of a program. Classes, written methods and instance fields are numbered from 0 in the
-- order of the text, and the constructors of classes without a written one behind the written methods, in the order of their classes.
use Rattle.std.specs.Prelude.{ℕ, Bool, not, ◌&&◌, if◌then◌else◌, List, [], ◌∷◌, ◌++◌, Option}
use Rattle.ix_core.specs.declared.claim.Type_.{Type_}
use Rattle.ix_core.specs.declared.program.Class.{Class}
use Rattle.ix_core.specs.declared.program.Field.{Field}
use Rattle.ix_core.specs.declared.program.Local.{Local}
use Rattle.ix_tree.specs.declared.decl.ClassDecl.{ClassDecl}
use Rattle.ix_tree.specs.declared.decl.LocalDecl.{LocalDecl}
use Rattle.ix_tree.specs.declared.decl.Member.{Member}
use Rattle.ix_tree.specs.declared.decl.Member.TheVariants as member
use Rattle.ix_tree.specs.declared.decl.MethodDecl.{MethodDecl}
use Rattle.ix_meaning.specs.Source.{is_constructor, has_constructor}
use Rattle.ix_meaning.specs.Resolved.{Names}
use Rattle.ix_plain.specs.declared.body.Head.{Head}
use Rattle.ix_plain.specs.declared.numbers.Next.{Next}
use Rattle.ix_plain.specs.Scope.{declared_type, declared_claims}
use Rattle.ix_plain.specs.Counts.{one}

-- ---- methods

abbrev pub is_static : MethodDecl → Bool
is_static decl = decl.mods.is_static && not decl.constructor

-- the methods of a class, behind these
abbrev pub heads_in : List Head → ℕ → List Member → List Head
heads_in heads class [] = heads
heads_in heads class (member.Field decl ∷ members) = heads_in heads class members
heads_in heads class (member.Method decl ∷ members) = heads_in (heads ++ record { class = class; is_static = is_static decl } ∷ []) class members

-- the methods from the class with that number on, behind these
abbrev pub heads_from : List Head → ℕ → List ClassDecl → List Head
heads_from heads class [] = heads
heads_from heads class (decl ∷ decls) = heads_from (heads_in heads class decl.members) (one class) decls

-- the written methods, by their numbers
abbrev pub heads : List ClassDecl → List Head
heads decls = heads_from [] 0 decls

-- ---- numbers of the members of a class, where the first has that number, and of the first behind them

abbrev pub next_method : ℕ → Member → ℕ
next_method next (member.Field decl) = next
next_method next (member.Method decl) = one next

abbrev pub next_methods : ℕ → List Member → ℕ
next_methods next [] = next
next_methods next (first ∷ rest) = next_methods (next_method next first) rest

-- A static field is a constant, and no field of an object.
abbrev pub next_field : ℕ → LocalDecl → ℕ
next_field next decl = if decl.mods.is_static then next else one next

abbrev pub next_fields : ℕ → List Member → ℕ
next_fields next [] = next
next_fields next (member.Field decl ∷ members) = next_fields (next_field next decl) members
next_fields next (member.Method decl ∷ members) = next_fields next members

-- the number of the next default constructor: a class without a constructor has one (JLS 8.8.9)
abbrev pub next_default : ℕ → List Member → ℕ
next_default default members = if has_constructor members then default else one default

abbrev pub next_behind : Next → ClassDecl → Next
next_behind next decl = record {
  class = one next.class;
  field = next_fields next.field decl.members;
  method = next_methods next.method decl.members;
  default = next_default next.default decl.members;
}

-- the number of written methods, where there are so many before
abbrev pub written_methods : ℕ → List ClassDecl → ℕ
written_methods before [] = before
written_methods before (decl ∷ decls) = written_methods (next_methods before decl.members) decls

-- the numbers of the first class
abbrev pub first_numbers : List ClassDecl → Next
first_numbers decls = record { class = 0; field = 0; method = 0; default = written_methods 0 decls }

-- ---- constructors

-- the first constructor, where the first method has that number; of a class that has none written the default one
abbrev pub constructor_in : ℕ → ℕ → List Member → ℕ
constructor_in default next [] = default
constructor_in default next (first ∷ rest) = if is_constructor first then next else constructor_in default (next_method next first) rest

abbrev pub constructors_from : List ℕ → Next → List ClassDecl → List ℕ
constructors_from constructors next [] = constructors
constructors_from constructors next (decl ∷ decls) =
    constructors_from (constructors ++ constructor_in next.default next.method decl.members ∷ []) (next_behind next decl) decls

-- of each class the number of its constructor
abbrev pub constructors : List ClassDecl → List ℕ
constructors decls = constructors_from [] (first_numbers decls) decls

-- ---- parameters: behind these, in the slots from that one on

abbrev pub params_from : Names → List Local → ℕ → List LocalDecl → List Local
params_from names params slot [] = params
params_from names params slot (decl ∷ decls) =
    params_from names (params ++ record { slot = slot; name = decl.name.text; claims = declared_claims (names.declared decl.name.span) } ∷ []) (one slot) decls

abbrev pub param_types_from : Names → List Type_ → List LocalDecl → List Type_
param_types_from names types [] = types
param_types_from names types (decl ∷ decls) = param_types_from names (types ++ declared_type (names.declared decl.name.span) ∷ []) decls

-- the first slot behind them
abbrev pub slot_behind : ℕ → List LocalDecl → ℕ
slot_behind slot [] = slot
slot_behind slot (decl ∷ decls) = slot_behind (one slot) decls

-- ---- fields

abbrev pub field_of : Names → ℕ → LocalDecl → Field
field_of names class decl = record {
  name = decl.name.text;
  class = class;
  ty = declared_type (names.declared decl.name.span);
  is_final = decl.mods.is_final;
  claims = declared_claims (names.declared decl.name.span);
}

abbrev pub with_field : Names → List Field → ℕ → LocalDecl → List Field
with_field names fields class decl = if decl.mods.is_static then fields else fields ++ field_of names class decl ∷ []

abbrev pub fields_in : Names → List Field → ℕ → List Member → List Field
fields_in names fields class [] = fields
fields_in names fields class (member.Field decl ∷ members) = fields_in names (with_field names fields class decl) class members
fields_in names fields class (member.Method decl ∷ members) = fields_in names fields class members

abbrev pub fields_from : Names → List Field → ℕ → List ClassDecl → List Field
fields_from names fields class [] = fields
fields_from names fields class (decl ∷ decls) = fields_from names (fields_in names fields class decl.members) (one class) decls

-- ---- classes

abbrev pub with_own_field : List ℕ → ℕ → LocalDecl → List ℕ
with_own_field fields next decl = if decl.mods.is_static then fields else fields ++ next ∷ []

abbrev pub own_fields : List ℕ → ℕ → List Member → List ℕ
own_fields fields next [] = fields
own_fields fields next (member.Field decl ∷ members) = own_fields (with_own_field fields next decl) (next_field next decl) members
own_fields fields next (member.Method decl ∷ members) = own_fields fields next members

abbrev pub own_methods : List ℕ → ℕ → List Member → List ℕ
own_methods methods next [] = methods
own_methods methods next (member.Field decl ∷ members) = own_methods methods next members
own_methods methods next (member.Method decl ∷ members) = own_methods (methods ++ next ∷ []) (one next) members

abbrev pub with_default : List ℕ → ℕ → List Member → List ℕ
with_default methods default members = if has_constructor members then methods else methods ++ default ∷ []

abbrev pub class_of : Next → Option ℕ → ClassDecl → Class
class_of next parent decl = record {
  name = decl.name.text;
  parent = parent;
  fields = own_fields [] next.field decl.members;
  methods = with_default (own_methods [] next.method decl.members) next.default decl.members;
}

abbrev pub classes_from : List Class → Next → (ℕ → Option ℕ) → List ClassDecl → List Class
classes_from classes next parent [] = classes
classes_from classes next parent (decl ∷ decls) = classes_from (classes ++ class_of next (parent next.class) decl ∷ []) (next_behind next decl) parent decls
