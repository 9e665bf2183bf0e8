-- What an expression becomes: operations in the order of evaluation (JLS 15.7), each with a new temporary as its target. The temporaries of a full expression are
-- numbered upwards from the first slot that is free, and none is used twice in it.
use Rattle.std.specs.Prelude.{ℕ, ℤ, pos, Bool, if◌then◌else◌, List, [], ◌∷◌, ◌++◌, map, Option, Some, None, Ok}
use Rattle.ix_text.specs.declared.span.Span.{Span}
use Rattle.ix_num.specs.declared.arith.Arith.{Arith}
use Rattle.ix_num.specs.declared.arith.Arith.TheVariants.{Add, Sub}
use Rattle.ix_num.specs.declared.rel.Rel.{Rel}
use Rattle.ix_core.specs.declared.claim.Type_.{Type_}
use Rattle.ix_core.specs.declared.code.Cond as cond
use Rattle.ix_core.specs.declared.op.Arg.{Arg}
use Rattle.ix_core.specs.declared.op.CallOp.{CallOp}
use Rattle.ix_core.specs.declared.op.Literal.TheVariants as literal
use Rattle.ix_core.specs.declared.op.OpKind.{OpKind}
use Rattle.ix_core.specs.declared.op.OpKind.TheVariants as op
use Rattle.ix_core.specs.declared.op.UnaryNum.{UnaryNum}
use Rattle.ix_core.specs.declared.op.UnaryNum.TheVariants as unary
use Rattle.ix_core.specs.Types.{int_type, cell_type}
use Rattle.ix_tree.specs.declared.annot.Ident.{Ident}
use Rattle.ix_tree.specs.declared.expr.BinaryOp.{BinaryOp}
use Rattle.ix_tree.specs.declared.expr.BinaryOp.TheVariants as binary
use Rattle.ix_tree.specs.declared.expr.UnaryOp.{UnaryOp}
use Rattle.ix_tree.specs.declared.expr.UnaryOp.TheVariants as operator
use Rattle.ix_tree.specs.declared.expr.Expr.{Expr, Expr-F, fold-Expr}
use Rattle.ix_tree.specs.declared.expr.ExprKind.{ExprKind-F}
use Rattle.ix_tree.specs.declared.expr.Init.{Init, Init-F, fold-Init}
use Rattle.ix_meaning.specs.declared.note.Meaning.{Meaning}
use Rattle.ix_meaning.specs.declared.note.Meaning.TheVariants as meaning
use Rattle.ix_plain.specs.declared.body.Head.{Head}
use Rattle.ix_plain.specs.declared.made.Made.{Made}
use Rattle.ix_plain.specs.declared.made.Spot.{Spot}
use Rattle.ix_plain.specs.declared.made.Spot.TheVariants as spot
use Rattle.ix_plain.specs.Scope.{Site, Scope, slot_of, meaning_at, type_in, type_at, class_of, head_at, constructor_at, is_among}
use Rattle.ix_plain.specs.Parts.{Within, ◌>>=◌, Value, Asked, Target, empty, block, with_item, in_place, done, taking, computed, truth_value, truth_of, read, write}

-- What an expression becomes, as each place wants it.
pub record Lowering : Type 0 where
  pub span : Span
  -- where its value is wanted
  pub value : Scope → Made → Within Value
  -- where it is a condition, whose temporaries begin with that slot
  pub condition : Scope → ℕ → Within Asked
  -- where it is the target of an assignment
  pub target : Scope → Made → Within Target
  -- where it stands before a dot and its value isn't used
  pub unused : Scope → Made → Within Made

-- What the initialiser of a variable of that type becomes.
pub record Filling : Type 0 where
  pub span : Span
  -- the type of its value
  pub ty : Site → Type_ → Type_
  pub value : Scope → Type_ → Made → Within Value

abbrev pub without_value : Value → Within Made
without_value value = Ok value.made

-- an expression that computes a value
abbrev pub computes : (Scope → Made → Within Value) → Span → Lowering
computes value span = record {
  span = span;
  value = value;
  condition = λ scope free. value scope (empty free) >>= truth_of;
  target = λ scope made. Ok record { made = made; spot = spot.Variable 0 };
  unused = λ scope made. value scope made >>= without_value;
}

abbrev pub asked_value : (Scope → ℕ → Within Asked) → Span → Scope → Made → Within Value
asked_value condition span scope made = condition scope made.free >>= truth_value made.items span

-- an expression that asks
abbrev pub asks : (Scope → ℕ → Within Asked) → Span → Lowering
asks condition span = record (computes (asked_value condition span) span) { condition = condition }

-- ---- literals

abbrev pub int_value : ℤ → Span → Made → Within Value
int_value n span made = computed made (op.Const made.free (literal.Int n)) span

-- as a condition it is known
abbrev pub bool : Bool → Span → Lowering
bool answer span = record (computes (λ scope made. computed made (op.Const made.free (literal.Bool answer)) span) span) {
  condition = λ scope free. Ok record { cond = cond.Known answer; free = free };
}

abbrev pub null : Span → Lowering
null span = computes (λ scope made. computed made (op.Const made.free (literal.NullOf (type_at scope span))) span) span

-- ---- names (JLS 6.5)

-- A local or a parameter is used in place where the full expression assigns it nowhere, and else copied.
abbrev pub variable : Scope → Span → ℕ → Made → Within Value
variable scope span slot made = if is_among slot scope.assigned then computed made (op.Copy made.free slot (type_at scope span)) span else in_place made slot

abbrev pub named : Scope → Span → Option Meaning → Made → Within Value
named scope span (Some (meaning.Constant n)) made = int_value n span made
named scope span (Some (meaning.FieldNamed field)) made = computed made (op.ReadField made.free 0 field) span
named scope span other made = variable scope span (slot_of scope other) made

abbrev pub named_spot : Scope → Option Meaning → Spot
named_spot scope (Some (meaning.FieldNamed field)) = spot.FieldOf 0 field
named_spot scope other = spot.Variable (slot_of scope other)

-- A class name before a dot is no expression.
abbrev pub named_unused : Scope → Span → Option Meaning → Made → Within Made
named_unused scope span (Some (meaning.ClassNamed class)) made = Ok made
named_unused scope span other made = named scope span other made >>= without_value

abbrev pub name : Ident → Span → Lowering
name ident span = record (computes (λ scope made. named scope span (meaning_at scope ident.span) made) span) {
  target = λ scope made. Ok record { made = made; spot = named_spot scope (meaning_at scope ident.span) };
  unused = λ scope made. named_unused scope span (meaning_at scope ident.span) made;
}

-- ---- selections (JLS 15.11)

-- What stands before the dot of a constant is evaluated, and its value isn't used.
abbrev pub selected : Lowering → Span → Scope → Option Meaning → Made → Within Value
selected object span scope (Some (meaning.Constant n)) made = do
  before ← object.unused scope made
  int_value n span before
selected object span scope (Some (meaning.FieldNamed field)) made = do
  o ← object.value scope made
  computed o.made (op.ReadField o.made.free o.slot field) span
selected object span scope other made = do
  o ← object.value scope made
  computed o.made (op.Length o.made.free o.slot) span

abbrev pub field_number : Option Meaning → ℕ
field_number (Some (meaning.FieldNamed field)) = field
field_number _ = 0

abbrev pub selection : Lowering → Ident → Span → Lowering
selection object ident span = record (computes (λ scope made. selected object span scope (meaning_at scope ident.span) made) span) {
  target = λ scope made. do
    o ← object.value scope made
    Ok record { made = o.made; spot = spot.FieldOf o.slot (field_number (meaning_at scope ident.span)) };
}

-- ---- arrays

-- the array, then the index (JLS 15.10.4); the place of an access is its index
abbrev pub element : Lowering → Lowering → Span → Lowering
element array index span = record (computes (λ scope made. do
  a ← array.value scope made
  i ← index.value scope a.made
  computed i.made (op.Load i.made.free a.slot i.slot (type_at scope array.span)) index.span) span) {
    target = λ scope made. do
      a ← array.value scope made
      i ← index.value scope a.made
      Ok record { made = i.made; spot = spot.Cell a.slot i.slot (type_at scope array.span) index.span };
  }

-- the length, at whose place the array is made (JLS 15.10.1)
abbrev pub new_array : Lowering → Span → Lowering
new_array size span = computes (λ scope made. do
  n ← size.value scope made
  computed n.made (op.NewArray n.made.free (type_at scope span) n.slot) size.span) span

pub record Entries : Type 0 where
  pub made : Made
  pub slots : List ℕ

-- the entries from left to right, behind those in these slots
abbrev pub entries_from : List ℕ → List Filling → Scope → Type_ → Made → Within Entries
entries_from slots [] scope ty made = Ok record { made = made; slots = slots }
entries_from slots (entry ∷ entries) scope ty made = entry.value scope ty made >>= (λ value. entries_from (slots ++ value.slot ∷ []) entries scope ty value.made)

abbrev pub spans : List Filling → List Span
spans entries = map (λ entry. entry.span) entries

-- the entries, then an array of that type that holds them (JLS 10.6)
abbrev pub filled : List Filling → Span → Scope → Type_ → Made → Within Value
filled entries span scope ty made = do
  given ← entries_from [] entries scope (cell_type ty) made
  taking given.made (done (op.Fill given.made.free ty given.slots) span (spans entries))

-- ---- operators

abbrev pub with_one : UnaryNum → Lowering → Span → Lowering
with_one operator operand span = computes (λ scope made. do
  y ← operand.value scope made
  computed y.made (op.Unary y.made.free operator y.slot) span) span

-- the left operand, then the right one (JLS 15.7.1)
abbrev pub arithmetic : Arith → Lowering → Lowering → Span → Lowering
arithmetic arith left right span = computes (λ scope made. do
  y ← left.value scope made
  z ← right.value scope y.made
  computed z.made (op.Num z.made.free arith y.slot z.slot) span) span

-- both sides, and then a test of their slots (JLS 15.20, 15.21)
abbrev pub compared : Rel → Lowering → Lowering → Scope → ℕ → Within Asked
compared rel left right scope free = do
  y ← left.value scope (empty free)
  z ← right.value scope y.made
  Ok record {
    cond = cond.Compare (block z.made) record { rel = rel; left = y.slot; right = z.slot; ty = type_at scope left.span; left_span = left.span; right_span = right.span };
    free = z.made.free;
  }

-- The right condition is asked only where the left one doesn't decide (JLS 15.23, 15.24).
abbrev pub both : Lowering → Lowering → Scope → ℕ → Within Asked
both left right scope free = do
  c ← left.condition scope free
  d ← right.condition scope c.free
  Ok record { cond = cond.Both c.cond d.cond; free = d.free }

abbrev pub either : Lowering → Lowering → Scope → ℕ → Within Asked
either left right scope free = do
  c ← left.condition scope free
  d ← right.condition scope c.free
  Ok record { cond = cond.Either c.cond d.cond; free = d.free }

abbrev pub opposite : Lowering → Scope → ℕ → Within Asked
opposite operand scope free = do
  c ← operand.condition scope free
  Ok record { cond = cond.Opposite c.cond; free = c.free }

-- ---- assignments (JLS 15.26, 15.14.2, 15.15.1)

-- The parts of the target, the value, the write. The value of `=` is what is written.
abbrev pub assignment : Lowering → Lowering → Span → Lowering
assignment target value span = computes (λ scope made. do
  place ← target.target scope made
  v ← value.value scope place.made
  in_place (with_item v.made (write place.spot v.slot (type_at scope value.span) span target.span value.span)) v.slot) span

-- The parts of the target, what it holds, the right side, the result, the write.
abbrev pub compound : Arith → Lowering → Lowering → Span → Lowering
compound arith target value span = computes (λ scope made. do
  place ← target.target scope made
  y ← read place.spot target.span place.made
  z ← value.value scope y.made
  t ← computed z.made (op.Num z.made.free arith y.slot z.slot) span
  in_place (with_item t.made (write place.spot t.slot int_type span target.span span)) t.slot) span

-- The same with 1; before its target the value is what is written, and behind it what was read.
abbrev pub step : Bool → Bool → Lowering → Span → Lowering
step up after target span = computes (λ scope made. do
  place ← target.target scope made
  y ← read place.spot target.span place.made
  one ← int_value (pos 1) span y.made
  t ← computed one.made (op.Num one.made.free (if up then Add else Sub) y.slot one.slot) span
  in_place (with_item t.made (write place.spot t.slot int_type span target.span span)) (if after then y.slot else t.slot)) span

-- ---- calls (JLS 15.12, 15.9)

pub record Arguments : Type 0 where
  pub made : Made
  pub args : List Arg

-- the arguments from left to right, behind these
abbrev pub arguments_from : List Arg → List Lowering → Scope → Made → Within Arguments
arguments_from args [] scope made = Ok record { made = made; args = args }
arguments_from args (first ∷ rest) scope made = first.value scope made >>= (λ value. arguments_from (args ++ record { slot = value.slot; span = first.span } ∷ []) rest scope value.made)

-- The call itself. Of a call without a result the target is a new temporary all the same.
abbrev pub calling : (CallOp → OpKind) → ℕ → Option ℕ → ℕ → Span → Arguments → Within Value
calling kind method receiver class span given =
    computed given.made (kind record { target = given.made.free; method = method; receiver = receiver; args = given.args; class = class; span = span }) span

abbrev pub unused_object : Option Lowering → Scope → Made → Within Made
unused_object None scope made = Ok made
unused_object (Some object) scope made = object.unused scope made

-- What stands before the dot of a static method is evaluated, and its value isn't used.
abbrev pub static_call : Option Lowering → ℕ → List Lowering → ℕ → Span → Scope → Made → Within Value
static_call object method args class span scope made = do
  before ← unused_object object scope made
  given ← arguments_from [] args scope before
  calling op.StaticCall method None class span given

-- Without an object before a dot it is `this`.
abbrev pub object_value : Option Lowering → Scope → Made → Within Value
object_value None scope made = in_place made 0
object_value (Some object) scope made = object.value scope made

abbrev pub object_class : Option Lowering → Scope → ℕ
object_class None scope = scope.site.class
object_class (Some object) scope = class_of (type_at scope object.span)

abbrev pub instance_call : Option Lowering → ℕ → List Lowering → Span → Scope → Made → Within Value
instance_call object method args span scope made = do
  o ← object_value object scope made
  given ← arguments_from [] args scope o.made
  calling op.InstanceCall method (Some o.slot) (object_class object scope) span given

abbrev pub method_number : Option Meaning → ℕ
method_number (Some (meaning.MethodNamed method)) = method
method_number _ = 0

abbrev pub called : Head → Option Lowering → ℕ → List Lowering → Span → Scope → Made → Within Value
called head object method args span scope made =
    if head.is_static then static_call object method args head.class span scope made else instance_call object method args span scope made

-- the place of a call is the method's name
abbrev pub call : Option Lowering → Ident → List Lowering → Span → Lowering
call object ident args span = computes (λ scope made.
    called (head_at scope.site (method_number (meaning_at scope ident.span))) object (method_number (meaning_at scope ident.span)) args ident.span scope made) span

abbrev pub class_number : Option Meaning → ℕ
class_number (Some (meaning.ClassNamed class)) = class
class_number _ = 0

abbrev pub new_object : Ident → List Lowering → Span → Lowering
new_object ident args span = computes (λ scope made. do
  given ← arguments_from [] args scope made
  calling op.NewObject (constructor_at scope.site (class_number (meaning_at scope ident.span))) None (class_number (meaning_at scope ident.span)) span given) span

-- ---- all forms

abbrev pub unary_of : UnaryOp → Lowering → Span → Lowering
unary_of operator.Plus operand = computes (λ scope made. operand.value scope made)
unary_of operator.Minus operand = with_one unary.Neg operand
unary_of operator.Flip operand = with_one unary.Flip operand
unary_of operator.Not operand = asks (opposite operand)

abbrev pub binary_of : BinaryOp → Lowering → Lowering → Span → Lowering
binary_of (binary.Num arith) left right = arithmetic arith left right
binary_of (binary.Compare rel) left right = asks (compared rel left right)
binary_of binary.AndAlso left right = asks (both left right)
binary_of binary.OrElse left right = asks (either left right)

abbrev pub assign_of : Option Arith → Lowering → Lowering → Span → Lowering
assign_of None target value = assignment target value
assign_of (Some arith) target value = compound arith target value

abbrev pub kind_step : ExprKind-F (Span → Lowering) Filling Lowering → Span → Lowering
kind_step (ExprKind-F.Int n) = λ span. computes (λ scope made. int_value n span made) span
kind_step (ExprKind-F.Bool answer) = bool answer
kind_step ExprKind-F.Null = null
kind_step ExprKind-F.This = computes (λ scope made. in_place made 0)
kind_step (ExprKind-F.Name ident) = name ident
kind_step (ExprKind-F.Select object ident) = selection object ident
kind_step (ExprKind-F.Index array index) = element array index
kind_step (ExprKind-F.Call object ident args) = call object ident args
kind_step (ExprKind-F.New ident args) = new_object ident args
kind_step (ExprKind-F.NewArray ty size) = new_array size
kind_step (ExprKind-F.NewItems ty items) = λ span. computes (λ scope made. filled items span scope (type_at scope span) made) span
kind_step (ExprKind-F.Unary operator operand) = unary_of operator operand
kind_step (ExprKind-F.Binary operator left right) = binary_of operator left right
kind_step (ExprKind-F.Assign operator target value) = assign_of operator target value
kind_step (ExprKind-F.Step up after target) = step up after target

abbrev pub init_step : Init-F (Span → Lowering) Filling Lowering → Filling
init_step (Init-F.Value expr) = record { span = expr.span; ty = λ site ty. type_in site expr.span; value = λ scope ty made. expr.value scope made }
init_step (Init-F.Items items span) = record { span = span; ty = λ site ty. ty; value = filled items span }

abbrev pub expr_step : Expr-F (Span → Lowering) Filling Lowering → Lowering
expr_step expr = record (expr.kind expr.span) { span = expr.span }

-- what an expression becomes
abbrev pub lowering : Expr → Lowering
lowering = fold-Expr (Span → Lowering) Filling Lowering kind_step init_step expr_step

-- what an initialiser becomes
abbrev pub filling : Init → Filling
filling = fold-Init (Span → Lowering) Filling Lowering kind_step init_step expr_step
