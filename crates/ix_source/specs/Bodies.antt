-- What methods and constructors mean (JLS 8.4, 8.8, 12.5), and their calls.
use Rattle.std.specs.Prelude.{ℕ, zero, suc, ◌+◌, ◌==◌, pos, Bool, true, false, not, ◌&&◌, if◌then◌else◌, List, [], ◌∷◌, ◌++◌, map, reverse, flat_map, slice_get, Option, Some, None, option_map, unwrap_or}
use Rattle.ix_text.specs.declared.span.Span.{Span}
use Rattle.ix_core.specs.Heap.{Held, Num, value_at, default_of}
use Rattle.ix_core.specs.Tables.{default_result, place_among, most_on_way}
use Rattle.ix_tree.specs.declared.decl.ClassDecl.{ClassDecl}
use Rattle.ix_tree.specs.declared.decl.LocalDecl.{LocalDecl}
use Rattle.ix_tree.specs.declared.decl.Member.{Member}
use Rattle.ix_tree.specs.declared.decl.Member.TheVariants as member
use Rattle.ix_tree.specs.declared.decl.MethodDecl.{MethodDecl}
use Rattle.ix_tree.specs.declared.expr.Expr.{Expr}
use Rattle.ix_meaning.specs.declared.members.Signature.{Signature}
use Rattle.ix_meaning.specs.Members.{World, Callee, world, methods, nearest, next_field, next_fields}
use Rattle.ix_meaning.specs.Inheritance.{overridden}
use Rattle.ix_meaning.specs.Resolved.{Names}
use Rattle.ix_source.specs.Runs.{Variables, Result, Gives, Stops, Cuts, Action, ◌>>=◌, gives, cuts, with_variables}
use Rattle.ix_source.specs.Context.{Context, Members, Calls, type_declared, declared_at}
use Rattle.ix_source.specs.Values.{Evaluation, Initial, evaluation, initial, arguments_from, of_this, put_field}
use Rattle.ix_source.specs.Statements.{Completion, Returns, Execution, each, execution}

-- ---- what a source declares, by numbers

-- a method or a constructor that is written: its class, its place, whether it has no `this`, its parameters' places, the arguments of `super(..)`, its body
pub record Written : Type 0 where
  pub class : ℕ
  pub name : Span
  pub is_static : Bool
  pub params : List Span
  pub parent_args : List Evaluation
  pub body : List Execution

abbrev pub or_none : Option (List Expr) → List Expr
or_none None = []
or_none (Some args) = args

abbrev pub name_of : LocalDecl → Span
name_of decl = decl.name.span

abbrev pub written_as : ℕ → MethodDecl → List Evaluation → List Execution → Written
written_as class decl parent_args body =
    record { class = class; name = decl.name.span; is_static = decl.mods.is_static && not decl.constructor; params = map name_of decl.params; parent_args = parent_args; body = body }

abbrev pub written : ℕ → MethodDecl → Written
written class decl = written_as class decl (map evaluation (or_none decl.parent_args)) (map execution decl.body)

abbrev pub written_in : ℕ → List Member → List Written
written_in class [] = []
written_in class (member.Field decl ∷ members) = written_in class members
written_in class (member.Method decl ∷ members) = written class decl ∷ written_in class members

abbrev pub written_from : ℕ → List ClassDecl → List Written
written_from class [] = []
written_from class (decl ∷ decls) = written_in class decl.members ++ written_from (class + 1) decls

-- a field of objects: its number, its place, and what its initialiser means
pub record Field : Type 0 where
  pub number : ℕ
  pub name : Span
  pub init : Option Initial

-- A static field is a constant, and no field of an object.
abbrev pub with_field : ℕ → LocalDecl → List Field → List Field
with_field number decl rest = if decl.mods.is_static then rest else record { number = number; name = decl.name.span; init = option_map initial decl.init } ∷ rest

-- the fields of a class, where the first one has that number
abbrev pub fields_in : ℕ → List Member → List Field
fields_in number [] = []
fields_in number (member.Field decl ∷ members) = with_field number decl (fields_in (next_field number decl) members)
fields_in number (member.Method decl ∷ members) = fields_in number members

abbrev pub constructor_if : ℕ → MethodDecl → Option Written → Option Written
constructor_if class decl later = if decl.constructor then Some (written class decl) else later

abbrev pub constructor_in : ℕ → List Member → Option Written
constructor_in class [] = None
constructor_in class (member.Field decl ∷ members) = constructor_in class members
constructor_in class (member.Method decl ∷ members) = constructor_if class decl (constructor_in class members)

pub record Class : Type 0 where
  pub fields : List Field
  -- none where none is written
  pub constructor : Option Written

abbrev pub classes_from : ℕ → ℕ → List ClassDecl → List Class
classes_from class field [] = []
classes_from class field (decl ∷ decls) = record { fields = fields_in field decl.members; constructor = constructor_in class decl.members } ∷ classes_from (class + 1) (next_fields field decl.members) decls

abbrev pub own_fields : Option Class → List Field
own_fields None = []
own_fields (Some class) = class.fields

-- What a source is, for its runs.
pub record Whole : Type 0 where
  pub names : Names
  pub world : World
  -- the written methods and constructors: what their declarations say, and what they mean
  pub signatures : List Signature
  pub methods : List Written
  pub classes : List Class

abbrev pub whole : Names → List ClassDecl → Whole
whole names decls = record { names = names; world = world decls; signatures = methods decls; methods = written_from 0 decls; classes = classes_from 0 0 decls }

-- the fields of an object of the class, inherited ones first (JLS 8.2)
abbrev pub all_fields : Whole → ℕ → List Field
all_fields w class = flat_map (λ above. own_fields (slice_get w.classes above)) (reverse (class ∷ w.world.supers class))

-- the default of a field's type
abbrev pub fresh_field : Names → Field → Held
fresh_field names field = default_of (type_declared (names.declared field.name))

abbrev pub static_of : Option Written → Bool
static_of None = false
static_of (Some method) = method.is_static

-- ---- overriding (JLS 8.4.8)

abbrev pub overridden_by : Whole → Option Signature → Option ℕ
overridden_by w None = None
overridden_by w (Some method) = option_map (λ (callee : Callee). callee.number) (overridden w.world method)

-- whether a method is the named one or overrides it, directly or through others, of which there are so many at most
abbrev pub stands_for : Whole → ℕ → ℕ → Option ℕ → Bool
stands_for w named most None = false
stands_for w named zero (Some method) = false
stands_for w named (suc most) (Some method) = if method == named then true else stands_for w named most (overridden_by w (slice_get w.signatures method))

-- of these methods the first one of the class that does
abbrev pub found_in : Whole → ℕ → ℕ → ℕ → List Signature → Option ℕ
found_in w named class number [] = None
found_in w named class number (method ∷ methods) =
    if (method.class == class) && stands_for w named most_on_way (Some number) then Some number else found_in w named class (number + 1) methods

abbrev pub found : Whole → ℕ → ℕ → ℕ
found w class named = unwrap_or (nearest (λ above. found_in w named above 0 w.signatures) (class ∷ w.world.supers class)) named

abbrev pub members : Whole → Members
members w = record {
  is_static = λ number. static_of (slice_get w.methods number);
  found = λ class named. found w class named;
  place = λ class field. place_among (map (λ (own : Field). own.number) (all_fields w class)) field;
  fresh = λ class. map (fresh_field w.names) (all_fields w class);
}

-- ---- variables of their own

abbrev pub variables : Held → List Held → Variables
variables this given = record { this = this; params = λ number. value_at given number; locals = λ number. Num (pos 0) }

abbrev pub back : {A : Type 0} → Variables → Result A → Result A
back variables (Gives value now) = Gives value (with_variables variables now)
back variables (Stops ending now) = Stops ending (with_variables variables now)
back variables (Cuts now) = Cuts (with_variables variables now)

-- What runs with variables of its own; behind it those of the caller are there again.
abbrev pub with_own : {A : Type 0} → Variables → Action A → Action A
with_own variables body now = back now.variables (body (with_variables variables now))

-- ---- methods

-- What a method gives back: the value of its `return`, or at the end of its body the default of its result's type; one without a result gives nothing.
abbrev pub given_back : Option Held → Completion → Option Held
given_back default (Returns (Some value)) = option_map (λ unused. value) default
given_back default completion = default

abbrev pub method_body : Context → Written → Action (Option Held)
method_body context method = each method.body context 0 >>= (λ end. gives (given_back (default_result (declared_at context method.name)) end))

abbrev pub method_run : Context → Option Written → Held → List Held → Action (Option Held)
method_run context None this given = gives None
method_run context (Some method) this given = with_own (variables this given) (method_body context method)

-- ---- constructors: the parent's constructor on the same object, the field initialisers in the order of the text, the written body (JLS 12.5)

abbrev pub parent_constructed : Context → Option ℕ → List Evaluation → Action Unit
parent_constructed context None args = gives tt
parent_constructed context (Some parent) args = do
  given ← arguments_from [] args context
  this ← of_this
  context.calls.construct parent this given

abbrev pub field_initialised : Context → Field → Option Initial → Action Unit
field_initialised context field None = gives tt
field_initialised context field (Some init) = do
  value ← init.value context (declared_at context field.name)
  this ← of_this
  put_field context init.span.from this field.number value

abbrev pub fields_initialised : Context → List Field → Action Unit
fields_initialised context [] = gives tt
fields_initialised context (field ∷ fields) = field_initialised context field field.init >>= (λ done. fields_initialised context fields)

-- A class without a constructor has one without parameters and with an empty body (JLS 8.8.9).
abbrev pub args_of : Option Written → List Evaluation
args_of None = []
args_of (Some constructor) = constructor.parent_args

abbrev pub body_of : Option Written → List Execution
body_of None = []
body_of (Some constructor) = constructor.body

abbrev pub constructed : Context → Option ℕ → Class → Action Unit
constructed context parent class = do
  parent_done ← parent_constructed context parent (args_of class.constructor)
  fields_done ← fields_initialised context class.fields
  end ← each (body_of class.constructor) context 0
  gives tt

abbrev pub construct_run : Context → Option ℕ → Option Class → Held → List Held → Action Unit
construct_run context parent None this given = gives tt
construct_run context parent (Some class) this given = with_own (variables this given) (constructed context parent class)

-- ---- calls, which nest so deep at most

abbrev pub context_of : Whole → ℕ → Calls → Context
context_of w turns calls = record { names = w.names; members = members w; calls = calls; turns = turns }

abbrev pub no_calls : Calls
no_calls = record { method = λ number this given. cuts; construct = λ class this given. cuts }

abbrev pub calls_within : Whole → ℕ → ℕ → Calls
calls_within w turns zero = no_calls
calls_within w turns (suc depth) = record {
  method = λ number this given. method_run (context_of w turns (calls_within w turns depth)) (slice_get w.methods number) this given;
  construct = λ class this given. construct_run (context_of w turns (calls_within w turns depth)) (w.world.parent class) (slice_get w.classes class) this given;
}
