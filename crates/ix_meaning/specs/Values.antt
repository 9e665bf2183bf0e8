-- What expressions mean, and their types (JLS 15). An expression reads as what it says at each scope.
use Rattle.std.specs.Prelude.{ℕ, Bool, true, false, not, ◌||◌, if◌then◌else◌, Option, Some, None, is_some, List, [], ◌∷◌, ◌++◌, length, drop, codes, bytes_eq}
use Rattle.ix_text.specs.declared.span.Span.{Span}
use Rattle.ix_num.specs.declared.Rel.{Rel}
use Rattle.ix_num.specs.declared.Rel.TheVariants.{Eq, Ne}
use Rattle.ix_tree.specs.declared.annot.Ident.{Ident}
use Rattle.ix_tree.specs.declared.annot.TypeTree.{TypeTree}
use Rattle.ix_tree.specs.declared.expr.Expr.{Expr, Expr-F, fold-Expr}
use Rattle.ix_tree.specs.declared.expr.ExprKind.{ExprKind, ExprKind-F, fold-ExprKind}
use Rattle.ix_tree.specs.declared.expr.Init.{Init, Init-F, fold-Init}
use Rattle.ix_tree.specs.declared.expr.BinaryOp.{BinaryOp}
use Rattle.ix_tree.specs.declared.expr.BinaryOp.TheVariants.{Num, Compare, AndAlso, OrElse}
use Rattle.ix_tree.specs.declared.expr.UnaryOp.{UnaryOp}
use Rattle.ix_tree.specs.declared.expr.UnaryOp.TheVariants.{Not}
use Rattle.ix_core.specs.declared.claim.Base.TheVariants.{Class}
use Rattle.ix_core.specs.declared.claim.Type_.{Type_ as Ty}
use Rattle.ix_core.specs.declared.claim.Type_.TheVariants.{Plain}
use Rattle.ix_annot.specs.declared.scope.Target.{Target}
use Rattle.ix_annot.specs.declared.scope.Target.TheVariants as on
use Rattle.ix_core.specs.SameClaims.{distinct}
use Rattle.ix_meaning.specs.declared.note.Meaning.TheVariants.{MethodNamed, ClassNamed, LengthOf}
use Rattle.ix_meaning.specs.declared.note.Note.{Note}
use Rattle.ix_meaning.specs.declared.note.Rule.TheVariants as rule
use Rattle.ix_meaning.specs.declared.note.Note.TheVariants.{Use}
use Rattle.ix_meaning.specs.declared.members.Field.{Field}
use Rattle.ix_meaning.specs.Types.{int, boolean, Need, unknown, of, need_like, is_reference, element, element_in, Judged, judged, type_note, typed, wrong, wrong_if}
use Rattle.ix_meaning.specs.Annotated.{given, names_nothing, written, is_int_tree}
use Rattle.ix_meaning.specs.Members.{World, Callee, field_named, method_named, constructor_params}
use Rattle.ix_meaning.specs.Scope.{Scope, Known, meant, is_pending}
use Rattle.ix_meaning.specs.Rules.{unknown_name, type_mismatch, null_mismatch, list_mismatch, cannot_compare, wrong_arguments, not_static, not_static_in_class, fixed_assigned, final_assigned, not_assignable, use_of}

-- What stands before a dot.
pub data Object : Type 0 where
  -- nothing that has members
  no_object : Object
  of_class : ℕ → Object
  value : Ty → Object

pub record Received : Type 0 where
  pub object : Object
  pub notes : List Note

abbrev pub received : Object → List Note → Received
received object notes = record { object = object; notes = notes }

pub record Reading : Type 0 where
  pub span : Span
  pub is_null : Bool
  pub is_this : Bool
  -- as a value
  pub judge : Scope → Judged
  -- as the target of an assignment
  pub assigned : Scope → Judged
  -- before a dot
  pub receiver : Scope → Received

-- the same, of an expression whose place is told with the scope
pub record KindReading : Type 0 where
  pub is_null : Bool
  pub is_this : Bool
  pub judge : Scope → Span → Judged
  pub assigned : Scope → Span → Judged
  pub receiver : Scope → Span → Received

-- the notes stand in front
abbrev pub behind : List Note → Judged → Judged
behind notes j = judged j.ty (notes ++ j.notes)

abbrev pub object_for : Option Ty → Object
object_for None = no_object
object_for (Some t) = if is_reference t then value t else no_object

-- RULE type.mismatch: what stands before a dot is no reference.
abbrev pub no_reference : Option Ty → Span → List Note
no_reference None p = []
no_reference (Some t) p = wrong_if (not (is_reference t)) rule.TypeMismatch p

abbrev pub object_notes : Option Ty → Span → List Note
object_notes t p = type_note t p ++ no_reference t p

abbrev pub as_object : Judged → Span → Received
as_object j p = received (object_for j.ty) (j.notes ++ object_notes j.ty p)

-- an expression that is no `null` and no `this`
abbrev pub valued_and_assigned : (Scope → Span → Judged) → (Scope → Span → Judged) → KindReading
valued_and_assigned judge assigned = record { is_null = false; is_this = false; judge = judge; assigned = assigned; receiver = λ s p. as_object (judge s p) p }

abbrev pub valued : (Scope → Span → Judged) → KindReading
valued judge = valued_and_assigned judge judge

-- ---- an expression at a place that needs something

abbrev pub null_type : Need → Option Ty
null_type (of need) = if is_reference need then Some need else None
null_type _ = None

-- The type of `null` is the type that its place needs.
abbrev pub null_at : Need → Span → Judged
null_at need p = judged (null_type need) (null_mismatch need p ++ type_note (null_type need) p)

abbrev pub fitted : World → Need → Span → Judged → Judged
fitted w need p j = judged j.ty (j.notes ++ type_mismatch w need j.ty p)

abbrev pub check : Reading → Scope → Need → Judged
check r s need = if r.is_null then null_at need r.span else fitted s.world need r.span (r.judge s)

-- ---- names (JLS 6.5): the local or the parameter in scope, else the field

abbrev pub field_use_in : Bool → ℕ → Bool → Bool → Span → Field → List Note
field_use_in in_constructor class assigned through_this p f = use_of f.meaning p ++ final_assigned in_constructor class assigned through_this f p

abbrev pub field_use : Scope → Bool → Bool → Span → Field → List Note
field_use s assigned through_this p f = field_use_in s.in_constructor s.class assigned through_this p f

abbrev pub bare_field : Scope → Bool → Span → Option Field → Judged
bare_field s assigned p None = judged None (unknown_name p)
bare_field s assigned p (Some f) = judged f.ty (not_static s f.is_static p ++ field_use s assigned true p f)

abbrev pub known_notes : Bool → Known → Span → List Note
known_notes assigned k p = Use p k.meaning ∷ fixed_assigned assigned k.is_fixed p

abbrev pub known_or : Scope → Bool → Ident → Option Known → Judged
known_or s assigned name (Some k) = judged k.ty (known_notes assigned k name.span)
known_or s assigned name None = bare_field s assigned name.span (field_named s.world s.class name.text)

abbrev pub variable : Scope → Bool → Ident → Judged
variable s assigned name =
    if is_pending s.pending name.text then judged None (unknown_name name.span) else known_or s assigned name (meant name.text s.names)

abbrev pub is_variable : Scope → List ℕ → Bool
is_variable s name = is_some (meant name s.names) || is_some (field_named s.world s.class name)

-- before a dot, where no variable has the name, the class
abbrev pub class_or : Scope → Ident → Span → Option ℕ → Received
class_or s name p (Some c) = received (of_class c) (Use name.span (ClassNamed c) ∷ [])
class_or s name p None = as_object (variable s false name) p

abbrev pub name_before_dot : Scope → Ident → Span → Received
name_before_dot s name p = if is_variable s name.text then as_object (variable s false name) p else class_or s name p (s.world.class name.text)

-- ---- selections (JLS 15.11)

abbrev pub instance_field : Scope → Bool → Bool → Ident → Option Field → Judged
instance_field s assigned through_this name None = judged None (unknown_name name.span)
instance_field s assigned through_this name (Some f) = judged f.ty (field_use s assigned through_this name.span f)

abbrev pub class_field : Scope → Bool → Ident → Option Field → Judged
class_field s assigned name None = judged None (unknown_name name.span)
class_field s assigned name (Some f) = judged f.ty (not_static_in_class f.is_static name.span ++ field_use s assigned false name.span f)

abbrev pub array_length : Bool → Ident → Judged
array_length assigned name =
    if bytes_eq name.text (codes "length") then judged (Some int) (Use name.span LengthOf ∷ not_assignable assigned name.span)
    else judged None (unknown_name name.span)

abbrev pub selected : Scope → Bool → Bool → Ident → Object → Judged
selected s assigned through_this name no_object = judged None []
selected s assigned through_this name (of_class c) = class_field s assigned name (field_named s.world c name.text)
selected s assigned through_this name (value (Plain (Class c))) = instance_field s assigned through_this name (field_named s.world c name.text)
selected s assigned through_this name (value _) = array_length assigned name

abbrev pub selection : Reading → Ident → Bool → Scope → Judged
selection object name assigned s = behind (object.receiver s).notes (selected s assigned object.is_this name (object.receiver s).object)

-- ---- calls (JLS 15.12)

abbrev pub first_need : List (Option Ty) → Need
first_need [] = unknown
first_need (t ∷ ts) = need_like t

-- the arguments against the types of the parameters; an argument without a parameter has no need
abbrev pub arguments : Scope → List Reading → List (Option Ty) → List Note
arguments s [] ts = []
arguments s (r ∷ rs) ts = (check r s (first_need ts)).notes ++ arguments s rs (drop 1 ts)

abbrev pub given_to : Scope → List Reading → List (Option Ty) → Span → List Note
given_to s args params p = wrong_arguments (length args) (length params) p ++ arguments s args params

abbrev pub called : Scope → Span → List Reading → Callee → Judged
called s p args m = judged m.signature.result (Use p (MethodNamed m.number) ∷ given_to s args m.signature.params p)

abbrev pub unknown_call : Scope → Span → List Reading → Judged
unknown_call s p args = judged None (unknown_name p ++ arguments s args [])

abbrev pub bare_call : Scope → Ident → List Reading → Option Callee → Judged
bare_call s name args None = unknown_call s name.span args
bare_call s name args (Some m) = behind (not_static s m.signature.is_static name.span) (called s name.span args m)

abbrev pub instance_call : Scope → Ident → List Reading → Option Callee → Judged
instance_call s name args None = unknown_call s name.span args
instance_call s name args (Some m) = called s name.span args m

abbrev pub class_call : Scope → Ident → List Reading → Option Callee → Judged
class_call s name args None = unknown_call s name.span args
class_call s name args (Some m) = behind (not_static_in_class m.signature.is_static name.span) (called s name.span args m)

abbrev pub call_on : Scope → Ident → List Reading → Object → Judged
call_on s name args no_object = judged None (arguments s args [])
call_on s name args (of_class c) = class_call s name args (method_named s.world c name.text)
call_on s name args (value (Plain (Class c))) = instance_call s name args (method_named s.world c name.text)
call_on s name args (value _) = unknown_call s name.span args

-- ---- creations (JLS 15.9, 15.10)

abbrev pub creation : Scope → Ident → List Reading → Option ℕ → Judged
creation s name args None = judged None (unknown_name name.span ++ arguments s args [])
creation s name args (Some c) = judged (Some (Plain (Class c))) (Use name.span (ClassNamed c) ∷ given_to s args (constructor_params s.world c) name.span)

-- what the annotations of a creation stand on
abbrev pub created_target : TypeTree → Target
created_target ty = if is_int_tree ty.base then on.Element else on.Other

abbrev pub created_in : (List ℕ → Option ℕ) → TypeTree → Judged
created_in class ty = judged
    (written class ty (distinct (given (names_nothing (created_target ty)) ty.annots).claims)).ty
    ((written class ty []).notes ++ (given (names_nothing (created_target ty)) ty.annots).notes)

abbrev pub created : Scope → TypeTree → Judged
created s ty = created_in s.world.class ty

-- What fills a variable says, where the variable has that type.
abbrev pub Filling : Type 0
Filling = Scope → Option Ty → List Note

abbrev pub fillings : List Filling → Scope → Option Ty → List Note
fillings [] s ty = []
fillings (f ∷ fs) s ty = f s ty ++ fillings fs s ty

abbrev pub filled : List Filling → Scope → Judged → Judged
filled items s j = judged j.ty (j.notes ++ fillings items s (element_in j.ty))

abbrev pub sized : Reading → Scope → Judged → Judged
sized size s j = judged j.ty (j.notes ++ (check size s (of int)).notes)

-- ---- array access (JLS 15.13)

-- RULE type.mismatch: what stands before an index is no array.
abbrev pub no_array : Option Ty → Span → List Note
no_array None p = []
no_array (Some t) p = wrong_if (not (is_some (element t))) rule.TypeMismatch p

-- a `null` isn't an array
abbrev pub array_part : Reading → Scope → Judged
array_part array s =
    if array.is_null then judged None (wrong rule.TypeMismatch array.span)
    else judged (element_in (array.judge s).ty) ((array.judge s).notes ++ no_array (array.judge s).ty array.span)

abbrev pub access : Reading → Reading → Scope → Judged
access array index s = judged (array_part array s).ty ((array_part array s).notes ++ (check index s (of int)).notes)

-- ---- operators (JLS 15.15 to 15.24)

abbrev pub both : Reading → Reading → Scope → Need → Ty → Judged
both a b s need t = judged (Some t) ((check a s need).notes ++ (check b s need).notes)

-- an operand of `==` or `!=`; a `null` waits for the type of the other operand
abbrev pub operand : Reading → Scope → Judged
operand r s = if r.is_null then judged None [] else r.judge s

abbrev pub compared : World → Reading → Reading → Option Ty → Option Ty → Span → List Note
compared w a b t u p =
    if a.is_null then (if b.is_null then wrong rule.TypeMismatch a.span ++ wrong rule.TypeMismatch b.span else (null_at (need_like u) a.span).notes)
    else (if b.is_null then (null_at (need_like t) b.span).notes else cannot_compare w t u p)

abbrev pub equality : Reading → Reading → Scope → Span → Judged
equality a b s p = judged (Some boolean) ((operand a s).notes ++ ((operand b s).notes ++ compared s.world a b (operand a s).ty (operand b s).ty p))

abbrev pub is_equality : Rel → Bool
is_equality Eq = true
is_equality Ne = true
is_equality _ = false

abbrev pub binary : BinaryOp → Reading → Reading → Scope → Span → Judged
binary (Num op) a b s p = both a b s (of int) int
binary (Compare r) a b s p = if is_equality r then equality a b s p else both a b s (of int) boolean
binary AndAlso a b s p = both a b s (of boolean) boolean
binary OrElse a b s p = both a b s (of boolean) boolean

abbrev pub unary : UnaryOp → Reading → Scope → Judged
unary Not a s = judged (Some boolean) (check a s (of boolean)).notes
unary _ a s = judged (Some int) (check a s (of int)).notes

-- ---- assignments (JLS 15.26, 15.14, 15.15)

abbrev pub assignment : Reading → Reading → Scope → Judged
assignment target source s = judged (target.assigned s).ty ((target.assigned s).notes ++ (check source s (need_like (target.assigned s).ty)).notes)

abbrev pub counted_target : Reading → Scope → Judged
counted_target target s = fitted s.world (of int) target.span (target.assigned s)

abbrev pub computed : Reading → Reading → Scope → Judged
computed target source s = judged (target.assigned s).ty ((counted_target target s).notes ++ (check source s (of int)).notes)

-- ---- the folds

abbrev pub kind_step : ExprKind-F KindReading Filling Reading → KindReading
kind_step (ExprKind-F.Int n) = valued (λ s p. judged (Some int) [])
kind_step (ExprKind-F.Bool b) = valued (λ s p. judged (Some boolean) [])
kind_step ExprKind-F.Null = record {
  is_null = true;
  is_this = false;
  judge = λ s p. judged None (wrong rule.TypeMismatch p);
  assigned = λ s p. judged None (wrong rule.TypeMismatch p);
  receiver = λ s p. received no_object (wrong rule.TypeMismatch p);
}
kind_step ExprKind-F.This = record {
  is_null = false;
  is_this = true;
  judge = λ s p. judged (Some (Plain (Class s.class))) (not_static s false p);
  assigned = λ s p. judged (Some (Plain (Class s.class))) (not_static s false p);
  receiver = λ s p. as_object (judged (Some (Plain (Class s.class))) (not_static s false p)) p;
}
kind_step (ExprKind-F.Name name) = record {
  is_null = false;
  is_this = false;
  judge = λ s p. variable s false name;
  assigned = λ s p. variable s true name;
  receiver = λ s p. name_before_dot s name p;
}
kind_step (ExprKind-F.Select object name) = valued_and_assigned (λ s p. selection object name false s) (λ s p. selection object name true s)
kind_step (ExprKind-F.Index array index) = valued (λ s p. access array index s)
kind_step (ExprKind-F.Call None name args) = valued (λ s p. bare_call s name args (method_named s.world s.class name.text))
kind_step (ExprKind-F.Call (Some object) name args) = valued (λ s p. behind (object.receiver s).notes (call_on s name args (object.receiver s).object))
kind_step (ExprKind-F.New name args) = valued (λ s p. creation s name args (s.world.class name.text))
kind_step (ExprKind-F.NewArray ty size) = valued (λ s p. sized size s (created s ty))
kind_step (ExprKind-F.NewItems ty items) = valued (λ s p. filled items s (created s ty))
kind_step (ExprKind-F.Unary op a) = valued (λ s p. unary op a s)
kind_step (ExprKind-F.Binary op a b) = valued (λ s p. binary op a b s p)
kind_step (ExprKind-F.Assign None target source) = valued (λ s p. assignment target source s)
kind_step (ExprKind-F.Assign (Some op) target source) = valued (λ s p. computed target source s)
kind_step (ExprKind-F.Step up after target) = valued (λ s p. counted_target target s)

abbrev pub init_step : Init-F KindReading Filling Reading → Filling
init_step (Init-F.Value r) = λ s ty. (check r s (need_like ty)).notes
init_step (Init-F.Items items p) = λ s ty. list_mismatch (need_like ty) p ++ fillings items s (element_in ty)

abbrev pub expr_step : Expr-F KindReading Filling Reading → Reading
expr_step e = record {
  span = e.span;
  is_null = e.kind.is_null;
  is_this = e.kind.is_this;
  judge = λ s. typed e.span (e.kind.judge s e.span);
  assigned = λ s. typed e.span (e.kind.assigned s e.span);
  receiver = λ s. e.kind.receiver s e.span;
}

abbrev pub reading : Expr → Reading
reading = fold-Expr KindReading Filling Reading kind_step init_step expr_step

abbrev pub kind_reading : ExprKind → KindReading
kind_reading = fold-ExprKind KindReading Filling Reading kind_step init_step expr_step

abbrev pub filling : Init → Filling
filling = fold-Init KindReading Filling Reading kind_step init_step expr_step
