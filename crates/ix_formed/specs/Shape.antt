-- What a whole program has that its source says by itself, whatever its names mean.
use Rattle.std.specs.Prelude.{◌≡◌, ◌≤◌, ◌<◌, ℕ, ◌+◌, nat_lt, Bool, true, false, not, ◌||◌, if◌then◌else◌, ◌==◌, List, [], ◌∷◌, ◌++◌, length, count_by, Option, Ok}
use Rattle.ix_core.specs.declared.claim.Type_.{Type_}
use Rattle.ix_core.specs.declared.program.Class.{Class}
use Rattle.ix_core.specs.declared.program.Field.{Field}
use Rattle.ix_core.specs.declared.program.Local.{Local}
use Rattle.ix_core.specs.declared.program.Method.{Method}
use Rattle.ix_core.specs.declared.program.Program.{Program}
use Rattle.ix_core.specs.Tables.{param_slot, param_slots, body_of}
use Rattle.ix_core.specs.Types.{is_class}
use Rattle.ix_core.specs.Formed.{at_most, is_target, loop_numbers, numbers_from, same_numbers, are_same_numbers, numbers_where, super_calls_fit}
use Rattle.ix_tree.specs.declared.decl.ClassDecl.{ClassDecl}
use Rattle.ix_tree.specs.declared.decl.LocalDecl.{LocalDecl}
use Rattle.ix_tree.specs.declared.decl.Member.{Member}
use Rattle.ix_tree.specs.declared.decl.Member.TheVariants as member
use Rattle.ix_tree.specs.declared.decl.MethodDecl.{MethodDecl}
use Rattle.ix_text.specs.declared.span.Span.{Span}
use Rattle.ix_meaning.specs.Limits.{all_methods}
use Rattle.ix_meaning.specs.Resolved.{Names}
use Rattle.ix_meaning.specs.Source.{has_constructor, members_in}
use Rattle.ix_plain.specs.declared.body.Body.{Body}
use Rattle.ix_plain.specs.declared.numbers.Next.{Next}
use Rattle.ix_plain.specs.Scope.{declared_type, declared_claims}
use Rattle.ix_plain.specs.Counts.{operations}
use Rattle.ix_plain.specs.Parts.{block}
use Rattle.ix_plain.specs.Members.{next_behind, class_of, field_of, is_static, slot_behind}
use Rattle.ix_plain.specs.Program.{Tables, Home, site, home, start, written_head, default_head, first_param, written_body, constructor_start, most_operations}
use Rattle.ix_formed.specs.Additions.{AllOf}

-- A source with few declarations, as the limits on names have it.
pub record IsSmall (decls : List ClassDecl) : Type 0 where
  pub classes : length decls ≤ 256
  pub methods : length (all_methods decls) ≤ 4096
  pub params : AllOf (λ (m : MethodDecl). length m.params ≤ 32) (all_methods decls)
  pub members : members_in decls < 4294967295

-- The method is what this written one becomes.
pub record IsMethod (tables : Tables) (at : Home) (decl : MethodDecl) (method : Method) : Type 0 where
  pub body : Body
  pub same : method ≡ record (written_head tables at decl) { locals = body.locals; slots = body.most; body = block body.made }
  pub made : written_body (site tables at (written_head tables at decl)) at decl (slot_behind (first_param (is_static decl)) decl.params) ≡ Ok body
  pub few : nat_lt most_operations (operations (block body.made) 0) ≡ false

-- The method is the constructor of a class that has none written.
pub record IsDefault (tables : Tables) (at : Home) (span : Span) (method : Method) : Type 0 where
  pub body : Body
  pub same : method ≡ record (default_head at span) { locals = body.locals; slots = body.most; body = block body.made }
  pub made : constructor_start (site tables at (default_head at span)) at [] span (start 1) ≡ Ok body
  pub few : nat_lt most_operations (operations (block body.made) 0) ≡ false

-- The methods of a class's members, in their order.
abbrev pub AreMethods : Tables → Home → List Member → List Method → Type 0
AreMethods tables at [] methods = methods ≡ []
AreMethods tables at (member.Field decl ∷ members) methods = AreMethods tables at members methods
AreMethods tables at (member.Method decl ∷ members) methods =
    (method : Method) × (others : List Method) × (methods ≡ method ∷ others) × IsMethod tables at decl method × AreMethods tables at members others

abbrev pub AreAllMethods : Tables → Next → List ClassDecl → List Method → Type 0
AreAllMethods tables next [] methods = methods ≡ []
AreAllMethods tables next (decl ∷ decls) methods =
    (own : List Method) × (others : List Method) × (methods ≡ own ++ others) × AreMethods tables (home tables next decl) decl.members own × AreAllMethods tables (next_behind next decl) decls others

-- a default constructor, and such others behind it
abbrev pub IsOneDefault : (List Method → Type 0) → Tables → Home → Span → List Method → Type 0
IsOneDefault rest tables at span methods = (method : Method) × (others : List Method) × (methods ≡ method ∷ others) × IsDefault tables at span method × rest others

abbrev pub IfElse : Bool → Type 0 → Type 0 → Type 0
IfElse true First Second = First
IfElse false First Second = Second

abbrev pub AreDefaults : Tables → Next → List ClassDecl → List Method → Type 0
AreDefaults tables next [] methods = methods ≡ []
AreDefaults tables next (decl ∷ decls) methods =
    IfElse (has_constructor decl.members) (AreDefaults tables (next_behind next decl) decls methods)
    (IsOneDefault (AreDefaults tables (next_behind next decl) decls) tables (home tables next decl) decl.name.span methods)

-- All methods of a program.
pub record HasMethods (tables : Tables) (first : Next) (decls : List ClassDecl) (methods : List Method) : Type 0 where
  pub written : List Method
  pub default : List Method
  pub same : methods ≡ written ++ default
  pub are_written : AreAllMethods tables first decls written
  pub are_default : AreDefaults tables first decls default

-- ---- the classes and fields of a source, each with what is behind it

abbrev pub classes_of : Next → (ℕ → Option ℕ) → List ClassDecl → List Class
classes_of next parent [] = []
classes_of next parent (decl ∷ decls) = class_of next (parent next.class) decl ∷ classes_of (next_behind next decl) parent decls

abbrev pub own_field : Names → ℕ → LocalDecl → List Field
own_field names class decl = if decl.mods.is_static then [] else field_of names class decl ∷ []

abbrev pub fields_of_class : Names → ℕ → List Member → List Field
fields_of_class names class [] = []
fields_of_class names class (member.Field decl ∷ members) = own_field names class decl ++ fields_of_class names class members
fields_of_class names class (member.Method decl ∷ members) = fields_of_class names class members

abbrev pub fields_of : Names → ℕ → List ClassDecl → List Field
fields_of names class [] = []
fields_of names class (decl ∷ decls) = fields_of_class names class decl.members ++ fields_of names (class + 1) decls

-- how many instance fields
abbrev pub field_count : List Member → ℕ
field_count [] = 0
field_count (member.Field decl ∷ members) = (if decl.mods.is_static then 0 else 1) + field_count members
field_count (member.Method decl ∷ members) = field_count members

abbrev pub all_field_count : List ClassDecl → ℕ
all_field_count [] = 0
all_field_count (decl ∷ decls) = field_count decl.members + all_field_count decls

-- how many default constructors
abbrev pub default_count : List ClassDecl → ℕ
default_count [] = 0
default_count (decl ∷ decls) = (if has_constructor decl.members then 0 else 1) + default_count decls

-- The numbers go on from there, and none is past the greatest that is counted.
pub record IsNext (next : Next) (decls : List ClassDecl) : Type 0 where
  pub classes : next.class + length decls ≤ 4294967295
  pub fields : next.field + all_field_count decls ≤ 4294967295
  pub methods : next.method + length (all_methods decls) ≤ 4294967295
  pub defaults : next.default + default_count decls ≤ 4294967295

-- Each class of a list is so, with its number.
abbrev pub AllNumbered : (ℕ → Class → Type 0) → ℕ → List Class → Type 0
AllNumbered P number [] = Unit {0}
AllNumbered P number (class ∷ classes) = P number class × AllNumbered P (number + 1) classes

-- ---- the parameters of a method

abbrev pub params_of : Names → ℕ → List LocalDecl → List Local
params_of names slot [] = []
params_of names slot (decl ∷ decls) = record { slot = slot; name = decl.name.text; claims = declared_claims (names.declared decl.name.span) } ∷ params_of names (slot + 1) decls

abbrev pub types_of : Names → List LocalDecl → List Type_
types_of names [] = []
types_of names (decl ∷ decls) = declared_type (names.declared decl.name.span) ∷ types_of names decls

-- Each parameter has the slot of its number.
abbrev pub AreInSlots : Method → ℕ → List Local → Type 0
AreInSlots method number [] = Unit {0}
AreInSlots method number (param ∷ params) = (param.slot ≡ param_slot method number) × AreInSlots method (number + 1) params

-- ---- what each program has

abbrev pub ListsFields : List Field → ℕ → Class → Type 0
ListsFields fields number class = are_same_numbers class.fields (numbers_where (λ (field : Field). field.class == number) 0 fields) ≡ true

abbrev pub ListsMethods : List Method → ℕ → Class → Type 0
ListsMethods methods number class = are_same_numbers class.methods (numbers_where (λ (method : Method). method.class == number) 0 methods) ≡ true

-- What `Formed` asks of a method's class, slots, loops and calls of the parent's constructor.
pub record MethodHasShape (program : Program) (method : Method) : Type 0 where
  pub class : is_class program method.class ≡ true
  pub params : AreInSlots method 0 method.params
  pub types : length method.params ≡ length method.param_types
  pub first : at_most (param_slots method) method.slots ≡ true
  pub slots : at_most method.slots 512 ≡ true
  pub locals : AllOf (λ (local : Local × Span). is_target program method local.0.slot ≡ true) method.locals
  pub static : (not method.constructor || not method.is_static) ≡ true
  pub loops : same_numbers (loop_numbers (body_of method)) (numbers_from 0 (length (loop_numbers (body_of method)))) ≡ true
  pub few_loops : at_most (length (loop_numbers (body_of method))) 128 ≡ true
  pub supers : super_calls_fit program method ≡ true

-- and of the whole program: each class lists its own fields and methods, and not too many methods are written
pub record HasShape (program : Program) : Type 0 where
  pub fields : AllNumbered (ListsFields program.fields) 0 program.classes
  pub methods : AllNumbered (ListsMethods program.methods) 0 program.classes
  pub written : at_most (count_by (λ (method : Method). method.written) program.methods) 4096 ≡ true
  pub each : AllOf (MethodHasShape program) program.methods
