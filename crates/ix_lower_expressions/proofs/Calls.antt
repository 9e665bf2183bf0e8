-- A call is made in two parts: what stands before the dot with the arguments, and then the call itself.
use Rattle.std.proofs.Common.{◌≡◌, ℕ, Bool, true, false, if◌then◌else◌, List, [], Option, Some, None, Ok, Err, option_map, map, refl, sym, ap, ◌∙◌}
use Rattle.ix_core.specs.declared.op.OpKind.TheVariants as op
use Rattle.ix_meaning.specs.declared.note.Which.{Which}
use Rattle.ix_text.specs.declared.span.Span.{Span}
use Rattle.ix_tree.specs.declared.annot.Ident.{Ident}
use Rattle.ix_meaning.specs.declared.note.Meaning.{Meaning}
use Rattle.ix_tree.specs.declared.expr.Expr.{Expr, fold-roll-Expr}
use Rattle.ix_tree.specs.declared.expr.ExprKind.{ExprKind, ExprKind-F, fold-ExprKind, fold-roll-ExprKind}
use Rattle.ix_tree.specs.declared.expr.ExprKind.TheVariants as kind
use Rattle.ix_tree.specs.declared.expr.ExprKind.TheVariants.{rolls-Call}
use Rattle.ix_plain.specs.declared.body.Head.{Head}
use Rattle.ix_plain.specs.declared.made.Made.{Made}
use Rattle.ix_plain.specs.Parts.{Within, Value, in_place, ◌>>=◌}
use Rattle.ix_plain.specs.Scope.{Scope, class_of, type_at, meaning_at, head_at}
use Rattle.ix_plain.specs.Values.{Lowering, Filling, Arguments, kind_step, init_step, expr_step, method_number, lowering, arguments_from, unused_object, object_value, object_class, static_call, instance_call, called, calling}
use Rattle.ix_lower_expressions.specs.Shown.{received, class_of_object, call_on}
use Rattle.ix_lower_expressions.proofs.InTurn.{span_is}

one_by_one : (before : Within Made) (next : Made → Within Value) → before >>= next ≡ (before >>= (λ made. in_place made 0)) >>= (λ value. next value.made)
one_by_one (Ok made) next = refl
one_by_one (Err which) next = refl

alike : {A B : Type 0} (made : Within A) (next other : A → Within B) → ((one : A) → next one ≡ other one) → made >>= next ≡ made >>= other
alike (Ok one) next other same = same one
alike (Err which) next other same = refl

-- the class of an object, by its expression
pub class_is : (object : Option Expr) (scope : Scope) → class_of_object scope object ≡ object_class (option_map lowering object) scope
class_is None scope = refl
class_is (Some object) scope = ap (λ span. class_of (type_at scope span)) (sym (span_is object))

module _ (head : Head) (object : Option Lowering) (method class : ℕ) (args : List Lowering) (span : Span) (scope : Scope) (made : Made) (of : class ≡ object_class object scope) where
  abbrev call_behind : Bool → ℕ → Arguments → Within Value
  call_behind true object given = calling op.StaticCall method None head.class span given
  call_behind false object given = calling op.InstanceCall method (Some object) class span given

  abbrev next : Bool → Value → Within Value
  next static value = arguments_from [] args scope value.made >>= call_behind static value.slot

  behind_is : (static : Bool) (object : ℕ) (given : Arguments)
      → call_behind static object given ≡ (if static then calling op.StaticCall method None head.class span given else calling op.InstanceCall method (Some object) class span given)
  behind_is true object given = refl
  behind_is false object given = refl

  in_parts : (static : Bool) → (if static then static_call object method args head.class span scope made else instance_call object method args span scope made)
      ≡ received static object scope made >>= next static
  in_parts true = one_by_one (unused_object object scope made) (λ before. arguments_from [] args scope before >>= calling op.StaticCall method None head.class span)
  in_parts false =
      alike (object_value object scope made) (λ o. arguments_from [] args scope o.made >>= calling op.InstanceCall method (Some o.slot) (object_class object scope) span) (next false)
      (λ o. alike (arguments_from [] args scope o.made) (calling op.InstanceCall method (Some o.slot) (object_class object scope) span) (call_behind false o.slot)
      (λ given. ap (λ c. calling op.InstanceCall method (Some o.slot) c span given) (sym of)))

  pub before_refused : (which : Which) → received head.is_static object scope made ≡ Err which → called head object method args span scope made ≡ Err which
  before_refused which is = in_parts head.is_static ∙ ap (λ (r : Within Value). r >>= next head.is_static) is

  pub arguments_refused : (before : Made) (at : ℕ) (which : Which) → received head.is_static object scope made ≡ in_place before at → arguments_from [] args scope before ≡ Err which
      → called head object method args span scope made ≡ Err which
  arguments_refused before at which is refused =
      in_parts head.is_static ∙ (ap (λ (r : Within Value). r >>= next head.is_static) is ∙ ap (λ (r : Within Arguments). r >>= call_behind head.is_static at) refused)

  pub call_made : (before : Made) (at : ℕ) (given : Arguments) → received head.is_static object scope made ≡ in_place before at → arguments_from [] args scope before ≡ Ok given
      → called head object method args span scope made ≡ call_on head method at class span given
  call_made before at given is all =
      in_parts head.is_static ∙ (ap (λ (r : Within Value). r >>= next head.is_static) is ∙ (ap (λ (r : Within Arguments). r >>= call_behind head.is_static at) all ∙ behind_is head.is_static at given))

-- a call as an expression, by what its name means
abbrev kind_lowering : ExprKind → Span → Lowering
kind_lowering = fold-ExprKind (Span → Lowering) Filling Lowering kind_step init_step expr_step

of_layer : (expr : Expr) (object : Option Expr) (name : Ident) (args : List Expr) (scope : Scope) (made : Made) → expr.kind ≡ kind.Call object name args
    → (lowering expr).value scope made
    ≡ called (head_at scope.site (method_number (meaning_at scope name.span))) (option_map lowering object) (method_number (meaning_at scope name.span)) (map lowering args) name.span scope made
of_layer expr None name args scope made is =
    ap (λ (l : Lowering). l.value scope made) (fold-roll-Expr (Span → Lowering) Filling Lowering kind_step init_step expr_step (record { kind = expr.kind; span = expr.span }))
    ∙ (ap (λ (k : ExprKind). (kind_lowering k expr.span).value scope made) (is ∙ sym (rolls-Call None name args))
    ∙ ap (λ (l : Span → Lowering). (l expr.span).value scope made) (fold-roll-ExprKind (Span → Lowering) Filling Lowering kind_step init_step expr_step (ExprKind-F.Call None name args)))
of_layer expr (Some object) name args scope made is =
    ap (λ (l : Lowering). l.value scope made) (fold-roll-Expr (Span → Lowering) Filling Lowering kind_step init_step expr_step (record { kind = expr.kind; span = expr.span }))
    ∙ (ap (λ (k : ExprKind). (kind_lowering k expr.span).value scope made) (is ∙ sym (rolls-Call (Some object) name args))
    ∙ ap (λ (l : Span → Lowering). (l expr.span).value scope made) (fold-roll-ExprKind (Span → Lowering) Filling Lowering kind_step init_step expr_step (ExprKind-F.Call (Some object) name args)))

pub call_is : (expr : Expr) (object : Option Expr) (name : Ident) (args : List Expr) (scope : Scope) (made : Made) (meaning : Option Meaning) (method : ℕ) (head : Head)
    → expr.kind ≡ kind.Call object name args → meaning ≡ meaning_at scope name.span → method ≡ method_number meaning → head ≡ head_at scope.site method
    → (lowering expr).value scope made ≡ called head (option_map lowering object) method (map lowering args) name.span scope made
call_is expr object name args scope made meaning method head is meant numbered headed =
    of_layer expr object name args scope made is
    ∙ (ap (λ m. called (head_at scope.site (method_number m)) (option_map lowering object) (method_number m) (map lowering args) name.span scope made) (sym meant)
    ∙ (ap (λ number. called (head_at scope.site number) (option_map lowering object) number (map lowering args) name.span scope made) (sym numbered)
    ∙ ap (λ (h : Head). called h (option_map lowering object) method (map lowering args) name.span scope made) (sym headed)))
