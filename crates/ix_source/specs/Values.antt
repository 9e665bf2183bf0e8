-- What expressions mean (JLS 15): each operand is evaluated before the next, and all of them before the operation (JLS 15.7).
use Rattle.std.specs.Prelude.{ℕ, ℤ, pos, negsuc, Bool, true, false, not, if◌then◌else◌, List, [], ◌∷◌, ◌++◌, length, replicate, unsigned_abs, Option, Some, None, unwrap_or}
use Rattle.ix_text.specs.declared.span.Span.{Span}
use Rattle.ix_num.specs.declared.arith.Arith.{Arith}
use Rattle.ix_num.specs.declared.arith.Arith.TheVariants.{Add, Sub}
use Rattle.ix_num.specs.declared.rel.Rel.{Rel}
use Rattle.ix_num.specs.Arithmetic.{exact_of, wrap_of}
use Rattle.ix_core.specs.declared.claim.Type_.{Type_}
use Rattle.ix_core.specs.declared.op.UnaryNum.{UnaryNum}
use Rattle.ix_core.specs.declared.op.UnaryNum.TheVariants.{Neg, Flip}
use Rattle.ix_core.specs.Heap.{Held, Num, Boolean, Null, At, Kind, ObjectOf, ArrayOf, Object, value_at, object_at, array_at, place_in, int_of, size_of, cell_default, is_within, write_at}
use Rattle.ix_core.specs.Machine.{Outside, Negative, NullUsed, ZeroDivisor, is_int, unary_of, is_true, test_of}
use Rattle.ix_core.specs.Types.{cell_type}
use Rattle.ix_tree.specs.declared.annot.Ident.{Ident}
use Rattle.ix_tree.specs.declared.expr.BinaryOp.{BinaryOp}
use Rattle.ix_tree.specs.declared.expr.BinaryOp.TheVariants as binary
use Rattle.ix_tree.specs.declared.expr.UnaryOp.{UnaryOp}
use Rattle.ix_tree.specs.declared.expr.UnaryOp.TheVariants as operator
use Rattle.ix_tree.specs.declared.expr.Expr.{Expr, Expr-F, fold-Expr}
use Rattle.ix_tree.specs.declared.expr.ExprKind.{ExprKind-F}
use Rattle.ix_tree.specs.declared.expr.Init.{Init, Init-F, fold-Init}
use Rattle.ix_meaning.specs.declared.note.Meaning.{Meaning}
use Rattle.ix_meaning.specs.declared.note.Meaning.TheVariants as meaning
use Rattle.ix_source.specs.Runs.{access, Gives, Stops, Action, ◌>>=◌, gives, stops, held_by, assigns, sees, with_heap, wraps}
use Rattle.ix_source.specs.Context.{Context, meaning_at, type_at}

-- What an assignment writes, once its parts are evaluated: a local or a parameter; a field of an object; a cell of an array, with the place of its index.
pub data Target : Type 0 where
  Variable : Option Meaning → Target
  FieldOf : Held → ℕ → Target
  Cell : Held → Held → ℕ → Target

-- What an expression means, as each place wants it.
pub record Evaluation : Type 0 where
  pub span : Span
  pub value : Context → Action Held
  -- where it is a condition
  pub holds : Context → Action Bool
  -- where it is the target of an assignment: its parts are evaluated, once
  pub target : Context → Action Target
  -- where it stands before a dot and its value isn't used
  pub unused : Context → Action Unit

-- What the initialiser of a variable of that type means.
pub record Initial : Type 0 where
  pub span : Span
  pub value : Context → Type_ → Action Held

abbrev pub is_it_true : Held → Action Bool
is_it_true value = gives (is_true value)

abbrev pub as_value : Bool → Action Held
as_value answer = gives (Boolean answer)

abbrev pub without_value : Held → Action Unit
without_value value = gives tt

-- an expression that computes a value
abbrev pub computes : (Context → Action Held) → Span → Evaluation
computes value span = record {
  span = span;
  value = value;
  holds = λ context. value context >>= is_it_true;
  target = λ context. gives (Variable None);
  unused = λ context. value context >>= without_value;
}

-- an expression that asks: its value is true or false
abbrev pub asks : (Context → Action Bool) → Span → Evaluation
asks holds span = record (computes (λ context. holds context >>= as_value) span) { holds = holds }

-- ---- ints: the low 32 bits of the exact result (JLS 4.2.2, 15.18.2); `/` and `%` have none where the divisor is zero (JLS 15.17.2)

abbrev pub int_result : ℤ → Action Held
int_result exact now = if is_int exact then Gives (Num exact) now else Gives (Num (wrap_of exact)) (wraps now)

abbrev pub result_at : ℕ → Option ℤ → Action Held
result_at place None = stops (ZeroDivisor place)
result_at place (Some exact) = int_result exact

-- ---- arrays and objects

-- a reference that isn't null refers to something (JLS 15.6)
abbrev pub through : {A : Type 0} → ℕ → Held → (ℕ → Action A) → Action A
through place (At number) next = next number
through place _ next = stops (NullUsed place)

-- the index lies within the array, or the run stops (JLS 15.10.4); either way the access is seen
abbrev pub within : {A : Type 0} → ℕ → ℤ → ℕ → (ℕ → Action A) → Action A
within place index size next = if is_within index size then next (unsigned_abs index) else stops (Outside index (pos size) place)

abbrev pub at_cell : {A : Type 0} → ℕ → ℤ → ℕ → (ℕ → Action A) → Action A
at_cell place index number next now = within place index (length (array_at now.heap number)) next (sees (access index (length (array_at now.heap number)) place) now)

abbrev pub at_field : {A : Type 0} → ℕ → Option ℕ → (ℕ → Action A) → Action A
at_field place None next = stops (NullUsed place)
at_field place (Some cell) next = next cell

-- the field of an object
abbrev pub field_cell : {A : Type 0} → Context → ℕ → ℕ → ℕ → (ℕ → Action A) → Action A
field_cell context place field number next now = at_field place (place_in context.members.place (object_at now.heap number).kind field) next now

abbrev pub cell_read : ℕ → ℕ → Action Held
cell_read number cell now = Gives (value_at (array_at now.heap number) cell) now

abbrev pub field_read : ℕ → ℕ → Action Held
field_read number cell now = Gives (value_at (object_at now.heap number).cells cell) now

abbrev pub written : Held → ℕ → ℕ → Action Unit
written value number cell now = Gives tt (with_heap (write_at now.heap number cell value) now)

abbrev pub load : ℕ → Held → Held → Action Held
load place array index = through place array (λ number. at_cell place (int_of index) number (λ cell. cell_read number cell))

abbrev pub store : ℕ → Held → Held → Held → Action Unit
store place array index value = through place array (λ number. at_cell place (int_of index) number (λ cell. written value number cell))

abbrev pub get_field : Context → ℕ → Held → ℕ → Action Held
get_field context place object field = through place object (λ number. field_cell context place field number (λ cell. field_read number cell))

abbrev pub put_field : Context → ℕ → Held → ℕ → Held → Action Unit
put_field context place object field value = through place object (λ number. field_cell context place field number (λ cell. written value number cell))

-- the length of what isn't null (JLS 10.7, 15.11)
abbrev pub length_of : ℕ → Held → Action Held
length_of place Null now = Stops (NullUsed place) now
length_of place held now = Gives (Num (size_of now.heap held)) now

-- a new object, which gets the next number
abbrev pub made : Object → Action Held
made object now = Gives (At (length now.heap)) (with_heap (now.heap ++ object ∷ []) now)

-- a length isn't negative (JLS 15.10.2); new cells hold their default
abbrev pub array_of : ℕ → Type_ → ℤ → Action Held
array_of place ty (negsuc n) = stops (Negative (negsuc n) place)
array_of place ty (pos size) = made record { kind = ArrayOf ty; cells = replicate size (cell_default ty) }

-- ---- variables: reading them and writing them

abbrev pub of_variable : Option Meaning → Action Held
of_variable variable now = Gives (held_by now.variables variable) now

abbrev pub of_this : Action Held
of_this now = Gives now.variables.this now

abbrev pub assign : Option Meaning → Held → Action Unit
assign variable value now = Gives tt (assigns variable value now)

-- A target that is read, with its place.
abbrev pub read : Context → ℕ → Target → Action Held
read context place (Variable variable) = of_variable variable
read context place (FieldOf object field) = get_field context place object field
read context place (Cell array index at) = load at array index

-- A target that is written, with the place of the assignment.
abbrev pub write : Context → ℕ → Target → Held → Action Unit
write context place (Variable variable) value = assign variable value
write context place (FieldOf object field) value = put_field context place object field value
write context place (Cell array index at) value = store at array index value

-- ---- names (JLS 6.5)

abbrev pub named : Context → Span → Option Meaning → Action Held
named context span (Some (meaning.Constant n)) = gives (Num n)
named context span (Some (meaning.FieldNamed field)) = of_this >>= (λ this. get_field context span.from this field)
named context span variable = of_variable variable

abbrev pub named_target : Option Meaning → Action Target
named_target (Some (meaning.FieldNamed field)) = of_this >>= (λ this. gives (FieldOf this field))
named_target variable = gives (Variable variable)

-- A class name before a dot is no expression.
abbrev pub named_unused : Context → Span → Option Meaning → Action Unit
named_unused context span (Some (meaning.ClassNamed class)) = gives tt
named_unused context span variable = named context span variable >>= without_value

abbrev pub name : Ident → Span → Evaluation
name ident span = record (computes (λ context. named context span (meaning_at context ident.span)) span) {
  target = λ context. named_target (meaning_at context ident.span);
  unused = λ context. named_unused context span (meaning_at context ident.span);
}

-- ---- selections (JLS 15.11)

-- What stands before the dot of a constant is evaluated, and its value isn't used.
abbrev pub selected : Evaluation → Span → Context → Option Meaning → Action Held
selected object span context (Some (meaning.Constant n)) = object.unused context >>= (λ done. gives (Num n))
selected object span context (Some (meaning.FieldNamed field)) = object.value context >>= (λ o. get_field context span.from o field)
selected object span context other = object.value context >>= length_of span.from

abbrev pub field_number : Option Meaning → ℕ
field_number (Some (meaning.FieldNamed field)) = field
field_number _ = 0

abbrev pub selection : Evaluation → Ident → Span → Evaluation
selection object ident span = record (computes (λ context. selected object span context (meaning_at context ident.span)) span) {
  target = λ context. object.value context >>= (λ o. gives (FieldOf o (field_number (meaning_at context ident.span))));
}

-- ---- elements and new arrays (JLS 15.10)

-- the array, then the index; the place of an access is its index
abbrev pub element : Evaluation → Evaluation → Span → Evaluation
element array index span = record (computes (λ context. do
  a ← array.value context
  i ← index.value context
  load index.span.from a i) span) {
    target = λ context. do
      a ← array.value context
      i ← index.value context
      gives (Cell a i index.span.from);
  }

abbrev pub new_array : Evaluation → Span → Evaluation
new_array size span = computes (λ context. do
  n ← size.value context
  array_of size.span.from (type_at context span) (int_of n)) span

-- the entries from left to right, behind these
abbrev pub entries_from : List Held → List Initial → Context → Type_ → Action (List Held)
entries_from given [] context ty = gives given
entries_from given (entry ∷ entries) context ty = entry.value context ty >>= (λ value. entries_from (given ++ value ∷ []) entries context ty)

-- the entries, then an array of that type that holds them (JLS 10.6)
abbrev pub filled : List Initial → Context → Type_ → Action Held
filled entries context ty = do
  values ← entries_from [] entries context (cell_type ty)
  made record { kind = ArrayOf ty; cells = values }

-- ---- operators

abbrev pub with_one : UnaryNum → Evaluation → Span → Evaluation
with_one operator operand span = computes (λ context. do
  x ← operand.value context
  int_result (unary_of operator (int_of x))) span

-- the left operand, then the right one (JLS 15.7.1)
abbrev pub arithmetic : Arith → Evaluation → Evaluation → Span → Evaluation
arithmetic arith left right span = computes (λ context. do
  x ← left.value context
  y ← right.value context
  result_at span.from (exact_of arith (int_of x) (int_of y))) span

-- ints are compared as numbers, booleans and references by being the same (JLS 15.20, 15.21)
abbrev pub compared : Rel → Evaluation → Evaluation → Context → Action Bool
compared rel left right context = do
  x ← left.value context
  y ← right.value context
  gives (test_of (type_at context left.span) rel x y)

abbrev pub if_so : Bool → Action Bool → Action Bool
if_so answer later = if answer then later else gives false

abbrev pub if_not : Bool → Action Bool → Action Bool
if_not answer later = if answer then gives true else later

-- The right condition is asked only where the left one doesn't decide (JLS 15.23, 15.24).
abbrev pub both : Evaluation → Evaluation → Context → Action Bool
both left right context = left.holds context >>= (λ answer. if_so answer (right.holds context))

abbrev pub either : Evaluation → Evaluation → Context → Action Bool
either left right context = left.holds context >>= (λ answer. if_not answer (right.holds context))

abbrev pub opposite : Evaluation → Context → Action Bool
opposite operand context = operand.holds context >>= (λ answer. gives (not answer))

-- ---- assignments (JLS 15.26, 15.14.2, 15.15.1)

-- The parts of the target, the value, the write. The value of `=` is what is written.
abbrev pub assignment : Evaluation → Evaluation → Span → Evaluation
assignment target value span = computes (λ context. do
  to ← target.target context
  v ← value.value context
  done ← write context span.from to v
  gives v) span

-- The parts of the target, what it holds, the right side, the result, the write.
abbrev pub compound : Arith → Evaluation → Evaluation → Span → Evaluation
compound arith target value span = computes (λ context. do
  to ← target.target context
  x ← read context target.span.from to
  y ← value.value context
  v ← result_at span.from (exact_of arith (int_of x) (int_of y))
  done ← write context span.from to v
  gives v) span

-- The same with 1; before its target the value is what is written, and behind it what was read.
abbrev pub step : Bool → Bool → Evaluation → Span → Evaluation
step up after target span = computes (λ context. do
  to ← target.target context
  x ← read context target.span.from to
  v ← result_at span.from (exact_of (if up then Add else Sub) (int_of x) (pos 1))
  done ← write context span.from to v
  gives (if after then x else v)) span

-- ---- calls (JLS 15.12, 15.9)

-- the arguments from left to right, behind these
abbrev pub arguments_from : List Held → List Evaluation → Context → Action (List Held)
arguments_from given [] context = gives given
arguments_from given (first ∷ rest) context = first.value context >>= (λ value. arguments_from (given ++ value ∷ []) rest context)

-- A call of a method without a result has no value; 0 stands in its place.
abbrev pub value_of : Option Held → Action Held
value_of result = gives (unwrap_or result (Num (pos 0)))

abbrev pub unused_object : Option Evaluation → Context → Action Unit
unused_object None context = gives tt
unused_object (Some object) context = object.unused context

-- What stands before the dot of a static method is evaluated, and its value isn't used.
abbrev pub static_call : Option Evaluation → ℕ → List Evaluation → Context → Action Held
static_call object method args context = do
  before ← unused_object object context
  given ← arguments_from [] args context
  result ← context.calls.method method Null given
  value_of result

-- Without an object before a dot it is `this`.
abbrev pub object_value : Option Evaluation → Context → Action Held
object_value None context = of_this
object_value (Some object) context = object.value context

-- the method of the object's class that is the named one or overrides it, or else that of the nearest class above that has one (JLS 15.12.4.4)
abbrev pub called_on : Context → ℕ → ℕ → Held → List Held → Kind → Action (Option Held)
called_on context place named this given (ObjectOf class) = context.calls.method (context.members.found class named) this given
called_on context place named this given (ArrayOf ty) = stops (NullUsed place)

abbrev pub call_on : Context → ℕ → ℕ → Held → List Held → ℕ → Action (Option Held)
call_on context place named this given number now = called_on context place named this given (object_at now.heap number).kind now

abbrev pub instance_call : Option Evaluation → Span → ℕ → List Evaluation → Context → Action Held
instance_call object at named args context = do
  o ← object_value object context
  given ← arguments_from [] args context
  result ← through at.from o (call_on context at.from named o given)
  value_of result

abbrev pub method_number : Option Meaning → ℕ
method_number (Some (meaning.MethodNamed method)) = method
method_number _ = 0

abbrev pub called : Option Evaluation → Ident → ℕ → List Evaluation → Context → Action Held
called object ident method args context =
    if context.members.is_static method then static_call object method args context else instance_call object ident.span method args context

-- the place of a call is the method's name
abbrev pub call : Option Evaluation → Ident → List Evaluation → Span → Evaluation
call object ident args span = computes (λ context. called object ident (method_number (meaning_at context ident.span)) args context) span

abbrev pub class_number : Option Meaning → ℕ
class_number (Some (meaning.ClassNamed class)) = class
class_number _ = 0

-- the arguments, a new object with default fields, its constructor (JLS 15.9.4)
abbrev pub object_of : Context → ℕ → List Held → Action Held
object_of context class given = do
  o ← made record { kind = ObjectOf class; cells = context.members.fresh class }
  done ← context.calls.construct class o given
  gives o

abbrev pub new_object : Ident → List Evaluation → Span → Evaluation
new_object ident args span = computes (λ context. do
  given ← arguments_from [] args context
  object_of context (class_number (meaning_at context ident.span)) given) span

-- ---- all forms

abbrev pub unary_of_operand : UnaryOp → Evaluation → Span → Evaluation
unary_of_operand operator.Plus operand = computes (λ context. operand.value context)
unary_of_operand operator.Minus operand = with_one Neg operand
unary_of_operand operator.Flip operand = with_one Flip operand
unary_of_operand operator.Not operand = asks (opposite operand)

abbrev pub binary_of : BinaryOp → Evaluation → Evaluation → Span → Evaluation
binary_of (binary.Num arith) left right = arithmetic arith left right
binary_of (binary.Compare rel) left right = asks (compared rel left right)
binary_of binary.AndAlso left right = asks (both left right)
binary_of binary.OrElse left right = asks (either left right)

abbrev pub assign_of : Option Arith → Evaluation → Evaluation → Span → Evaluation
assign_of None target value = assignment target value
assign_of (Some arith) target value = compound arith target value

abbrev pub constant : Held → Span → Evaluation
constant value = computes (λ context. gives value)

abbrev pub kind_step : ExprKind-F (Span → Evaluation) Initial Evaluation → Span → Evaluation
kind_step (ExprKind-F.Int n) = constant (Num n)
kind_step (ExprKind-F.Bool answer) = constant (Boolean answer)
kind_step ExprKind-F.Null = constant Null
kind_step ExprKind-F.This = computes (λ context. of_this)
kind_step (ExprKind-F.Name ident) = name ident
kind_step (ExprKind-F.Select object ident) = selection object ident
kind_step (ExprKind-F.Index array index) = element array index
kind_step (ExprKind-F.Call object ident args) = call object ident args
kind_step (ExprKind-F.New ident args) = new_object ident args
kind_step (ExprKind-F.NewArray ty size) = new_array size
kind_step (ExprKind-F.NewItems ty items) = λ span. computes (λ context. filled items context (type_at context span)) span
kind_step (ExprKind-F.Unary operator operand) = unary_of_operand operator operand
kind_step (ExprKind-F.Binary operator left right) = binary_of operator left right
kind_step (ExprKind-F.Assign operator target value) = assign_of operator target value
kind_step (ExprKind-F.Step up after target) = step up after target

abbrev pub init_step : Init-F (Span → Evaluation) Initial Evaluation → Initial
init_step (Init-F.Value expr) = record { span = expr.span; value = λ context ty. expr.value context }
init_step (Init-F.Items items span) = record { span = span; value = filled items }

abbrev pub expr_step : Expr-F (Span → Evaluation) Initial Evaluation → Evaluation
expr_step expr = record (expr.kind expr.span) { span = expr.span }

-- what an expression means
abbrev pub evaluation : Expr → Evaluation
evaluation = fold-Expr (Span → Evaluation) Initial Evaluation kind_step init_step expr_step

-- what an initialiser means
abbrev pub initial : Init → Initial
initial = fold-Init (Span → Evaluation) Initial Evaluation kind_step init_step expr_step
