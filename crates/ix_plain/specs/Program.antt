-- What a whole source becomes (JLS 8).
use Rattle.std.specs.Prelude.{ℕ, Bool, true, false, ◌||◌, if◌then◌else◌, List, [], ◌∷◌, ◌++◌, map, nat_lt, Option, Some, None, option_map, Result, Ok, Err}
use Rattle.ix_text.specs.declared.span.Span.{Span}
use Rattle.ix_core.specs.declared.claim.Post.{Post}
use Rattle.ix_core.specs.declared.claim.Type_.TheVariants.{Void}
use Rattle.ix_core.specs.declared.op.OpKind.TheVariants as op
use Rattle.ix_core.specs.declared.program.Method.{Method}
use Rattle.ix_core.specs.declared.program.Program.{Program}
use Rattle.ix_core.specs.Posts.{some_conditional}
use Rattle.ix_tree.specs.declared.decl.ClassDecl.{ClassDecl}
use Rattle.ix_tree.specs.declared.decl.LocalDecl.{LocalDecl}
use Rattle.ix_tree.specs.declared.decl.Member.{Member}
use Rattle.ix_tree.specs.declared.decl.Member.TheVariants as member
use Rattle.ix_tree.specs.declared.decl.MethodDecl.{MethodDecl}
use Rattle.ix_tree.specs.declared.expr.Expr.{Expr}
use Rattle.ix_tree.specs.declared.expr.Init.{Init}
use Rattle.ix_tree.specs.declared.stmt.Stmt.{Stmt}
use Rattle.ix_meaning.specs.declared.note.Which.TheVariants as which
use Rattle.ix_meaning.specs.Classes.{parent}
use Rattle.ix_meaning.specs.Inheritance.{if_instance, overridden}
use Rattle.ix_meaning.specs.Limits.{Passed}
use Rattle.ix_meaning.specs.Members.{World, Callee, world, signature}
use Rattle.ix_meaning.specs.Resolved.{Names}
use Rattle.ix_meaning.specs.Source.{has_constructor}
use Rattle.ix_plain.specs.declared.body.Body.{Body}
use Rattle.ix_plain.specs.declared.body.Head.{Head}
use Rattle.ix_plain.specs.Scope.{Site, constructor_at, declared_type, declared_claims, declared_posts, is_effect_free}
use Rattle.ix_plain.specs.Parts.{Within, ◌>>=◌, empty, block, done}
use Rattle.ix_plain.specs.Assigned.{all_assign}
use Rattle.ix_plain.specs.Values.{lowering, filling, arguments_from, calling}
use Rattle.ix_plain.specs.Statements.{scope_for, behind, with_last, init_evaluated, each, statement, most_loops}
use Rattle.ix_plain.specs.Counts.{loops, operations, accesses}
use Rattle.ix_plain.specs.Members.{next_behind, first_numbers, next_field, heads, constructors, is_static, params_from, param_types_from, slot_behind, fields_from, classes_from}
use Rattle.ix_plain.specs.declared.numbers.Next.{Next}

-- ---- what a method stands in

-- What all methods stand in.
pub record Tables : Type 0 where
  pub names : Names
  pub heads : List Head
  pub constructors : List ℕ
  pub world : World

-- The class that a method stands in.
pub record Home : Type 0 where
  pub class : ℕ
  -- its name
  pub name : List ℕ
  pub parent : Option ℕ
  pub members : List Member
  -- the number of its first field
  pub field : ℕ

-- what the body of a method with that head stands in
abbrev pub site : Tables → Home → Method → Site
site tables home head = record {
  names = tables.names;
  heads = tables.heads;
  constructors = tables.constructors;
  class = home.class;
  params = head.params;
  answers = some_conditional head.posts;
}

-- ---- what a constructor begins with (JLS 12.5)

-- the parent's constructor, on the same object; the arguments are one full expression
abbrev pub parent_call : Site → ℕ → List Expr → Span → Body → Within Body
parent_call site parent args span body = do
  given ← arguments_from [] (map lowering args) (scope_for site body (all_assign args)) body.made
  called ← calling op.SuperCall (constructor_at site parent) (Some 0) parent span given
  Ok (behind body called.made.items called.made.free)

abbrev pub super_call : Site → Option ℕ → List Expr → Span → Body → Within Body
super_call site None args span body = Ok body
super_call site (Some parent) args span body = parent_call site parent args span body

abbrev pub field_initialised : Site → ℕ → LocalDecl → Option Init → Body → Within Body
field_initialised site field decl None body = Ok body
field_initialised site field decl (Some init) body =
    init_evaluated site init (declared_type (site.names.declared decl.name.span)) body
    >>= (λ value. Ok (with_last value.body (done (op.WriteField 0 field value.slot) (filling init).span (decl.name.span ∷ (filling init).span ∷ []))))

abbrev pub member_initialised : Site → ℕ → LocalDecl → Body → Within Body
member_initialised site field decl body = if decl.mods.is_static then Ok body else field_initialised site field decl decl.init body

-- the initialisers of fields in the order of the text, where the first field has that number
abbrev pub fields_initialised : Site → ℕ → List Member → Body → Within Body
fields_initialised site field [] body = Ok body
fields_initialised site field (member.Field decl ∷ members) body = member_initialised site field decl body >>= fields_initialised site (next_field field decl) members
fields_initialised site field (member.Method decl ∷ members) body = fields_initialised site field members body

abbrev pub constructor_start : Site → Home → List Expr → Span → Body → Within Body
constructor_start site home args span body = super_call site home.parent args span body >>= fields_initialised site home.field home.members

-- ---- bodies

-- no item yet, where so many slots are those of parameters and `this`
abbrev pub start : ℕ → Body
start free = record { made = empty free; locals = []; most = free; loops = 0 }

abbrev pub args_or_none : Option (List Expr) → List Expr
args_or_none None = []
args_or_none (Some args) = args

abbrev pub written_start : Site → Home → MethodDecl → Body → Within Body
written_start site home decl body = if decl.constructor then constructor_start site home (args_or_none decl.parent_args) decl.name.span body else Ok body

abbrev pub written_body : Site → Home → MethodDecl → ℕ → Within Body
written_body site home decl free = written_start site home decl (start free) >>= each (map statement decl.body) site decl.span.to

-- ---- limits: first the loops of the body, then its slots, then its operations

abbrev pub most_operations : ℕ
most_operations = 8192

abbrev pub with_body : Method → Body → Within Method
with_body head body =
    if nat_lt most_operations (operations (block body.made) 0) then Err which.Ops
    else Ok (record head { locals = body.locals; slots = body.most; body = block body.made })

abbrev pub limited : List Stmt → Within Body → Method → Within Method
limited statements body head = if nat_lt most_loops (loops statements 0) then Err which.Loops else body >>= with_body head

-- ---- methods

-- The first slot of a parameter: slot 0 of an instance method and of a constructor is `this`.
abbrev pub first_param : Bool → ℕ
first_param is_static = if is_static then 0 else 1

abbrev pub number_of : Option Callee → Option ℕ
number_of callee = option_map (λ callee. callee.number) callee

abbrev pub overrides : World → ℕ → MethodDecl → Option ℕ
overrides world class decl = number_of (overridden world (signature world.class class decl))

-- what a method promises by itself
abbrev pub posts_of : Names → Option Callee → List Post
posts_of names None = []
posts_of names (Some callee) = declared_posts (names.declared callee.signature.span)

-- what the instance methods of that name in these classes promise
abbrev pub posts_in : Tables → List ℕ → List ℕ → List Post
posts_in tables name [] = []
posts_in tables name (class ∷ classes) = posts_of tables.names (if_instance (tables.world.method class name)) ++ posts_in tables name classes

-- what the methods promise that it overrides, the nearest first
abbrev pub upper_posts : Tables → ℕ → MethodDecl → List Post
upper_posts tables class decl = if decl.constructor || decl.mods.is_static then [] else posts_in tables decl.name.text (tables.world.supers class)

-- a written method, without its body
abbrev pub written_head : Tables → Home → MethodDecl → Method
written_head tables home decl = record {
  name = decl.name.text;
  class = home.class;
  is_static = is_static decl;
  constructor = decl.constructor;
  effect_free = is_effect_free (tables.names.declared decl.name.span);
  params = params_from tables.names [] (first_param (is_static decl)) decl.params;
  param_types = param_types_from tables.names [] decl.params;
  result = declared_type (tables.names.declared decl.name.span);
  result_claims = declared_claims (tables.names.declared decl.name.span);
  posts = declared_posts (tables.names.declared decl.name.span) ++ upper_posts tables home.class decl;
  locals = [];
  slots = 0;
  body = record { items = [] };
  overrides = overrides tables.world home.class decl;
  written = true;
  span = decl.name.span;
}

abbrev pub written : Tables → Home → MethodDecl → Method → Within Method
written tables home decl head =
    limited decl.body (written_body (site tables home head) home decl (slot_behind (first_param (is_static decl)) decl.params)) head

abbrev pub written_method : Tables → Home → MethodDecl → Within Method
written_method tables home decl = written tables home decl (written_head tables home decl)

-- the constructor of a class that has none written (JLS 8.8.9)
abbrev pub default_head : Home → Span → Method
default_head home span = record {
  name = home.name;
  class = home.class;
  is_static = false;
  constructor = true;
  effect_free = false;
  params = [];
  param_types = [];
  result = Void;
  result_claims = [];
  posts = [];
  locals = [];
  slots = 0;
  body = record { items = [] };
  overrides = None;
  written = false;
  span = span;
}

abbrev pub default : Tables → Home → Span → Within Method
default tables home span = limited [] (constructor_start (site tables home (default_head home span)) home [] span (start 1)) (default_head home span)

-- ---- all methods, each behind those before it; the first that passes a limit is refused at its place

abbrev pub placed : {A : Type 0} → Span → Within A → Result A Passed
placed span (Ok made) = Ok made
placed span (Err limit) = Err record { which = limit; place = span.from }

abbrev pub home : Tables → Next → ClassDecl → Home
home tables next decl = record { class = next.class; name = decl.name.text; parent = tables.world.parent next.class; members = decl.members; field = next.field }

abbrev pub methods_in : Tables → Home → List Member → List Method → Result (List Method) Passed
methods_in tables home [] methods = Ok methods
methods_in tables home (member.Field decl ∷ members) methods = methods_in tables home members methods
methods_in tables home (member.Method decl ∷ members) methods =
    placed decl.name.span (written_method tables home decl) >>= (λ method. methods_in tables home members (methods ++ method ∷ []))

abbrev pub methods_from : Tables → Next → List ClassDecl → List Method → Result (List Method) Passed
methods_from tables next [] methods = Ok methods
methods_from tables next (decl ∷ decls) methods = methods_in tables (home tables next decl) decl.members methods >>= methods_from tables (next_behind next decl) decls

abbrev pub default_of : Tables → Home → Span → List Method → Result (List Method) Passed
default_of tables home span methods =
    if has_constructor home.members then Ok methods else (placed span (default tables home span) >>= (λ method. Ok (methods ++ method ∷ [])))

abbrev pub defaults_from : Tables → Next → List ClassDecl → List Method → Result (List Method) Passed
defaults_from tables next [] methods = Ok methods
defaults_from tables next (decl ∷ decls) methods = default_of tables (home tables next decl) decl.name.span methods >>= defaults_from tables (next_behind next decl) decls

-- ---- the program

abbrev pub tables : Names → List ClassDecl → Tables
tables names decls = record { names = names; heads = heads decls; constructors = constructors decls; world = world decls }

abbrev pub all_methods : Tables → Next → List ClassDecl → Result (List Method) Passed
all_methods tables first decls = methods_from tables first decls [] >>= defaults_from tables first decls

-- The plain form of a source whose names mean this, or the limit that it passes and the place of the method.
abbrev pub program : Names → List ClassDecl → Result Program Passed
program names decls = all_methods (tables names decls) (first_numbers decls) decls >>= (λ methods. Ok record {
  classes = classes_from [] (first_numbers decls) (world decls).parent decls;
  methods = methods;
  fields = fields_from names [] 0 decls;
  accesses = accesses decls 0;
})
