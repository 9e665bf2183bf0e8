-- Expressions and initialisers say the same at their places moved.
use Rattle.std.proofs.Common.{◌≡◌, ℕ, suc, Bool, true, false, List, [], ◌∷◌, ◌++◌, map, length, drop, Option, Some, None, refl, sym, ap, ◌∙◌, subst}
use Rattle.std.specs.Prelude.{if◌then◌else◌, codes, bytes_eq, not, ◌&&◌, ◌||◌, is_some}
use Rattle.ix_text.specs.declared.span.Span.{Span}
use Rattle.ix_core.specs.declared.claim.Base.TheVariants as base
use Rattle.ix_core.specs.declared.claim.Type_.{Type_}
use Rattle.ix_core.specs.declared.claim.Type_.TheVariants as type
use Rattle.ix_tree.specs.declared.annot.Ident.{Ident}
use Rattle.ix_tree.specs.declared.annot.TypeTree.{TypeTree}
use Rattle.ix_tree.specs.declared.expr.BinaryOp.{BinaryOp}
use Rattle.ix_tree.specs.declared.expr.BinaryOp.TheVariants as binary
use Rattle.ix_tree.specs.declared.expr.UnaryOp.{UnaryOp}
use Rattle.ix_tree.specs.declared.expr.UnaryOp.TheVariants as operator
use Rattle.ix_tree.specs.declared.expr.Expr.{Expr, Expr-F, ind-Expr, map-Expr, roll-Expr, fold-roll-Expr}
use Rattle.ix_tree.specs.declared.expr.ExprKind.{ExprKind, ExprKind-F, map-ExprKind, roll-ExprKind, fold-ExprKind, fold-roll-ExprKind}
use Rattle.ix_tree.specs.declared.expr.Init.{Init, Init-F, ind-Init, map-Init, roll-Init, fold-roll-Init}
use Rattle.ix_meaning.specs.declared.members.Field.{Field}
use Rattle.ix_meaning.specs.declared.note.Meaning.{Meaning}
use Rattle.ix_meaning.specs.declared.note.Meaning.TheVariants.{MethodNamed, ClassNamed, LengthOf}
use Rattle.ix_meaning.specs.declared.note.Note.{Note}
use Rattle.ix_meaning.specs.declared.note.Rule.TheVariants as rule
use Rattle.ix_meaning.specs.Annotated.{names_nothing}
use Rattle.ix_meaning.specs.Members.{World, Callee, field_named, method_named, constructor_params}
use Rattle.ix_meaning.specs.Rules as rules
use Rattle.ix_meaning.specs.Scope.{Scope, Known, meant, is_pending}
use Rattle.ix_meaning.specs.Types.{int, boolean, Need, unknown, never, printed, of, need_like, is_reference, element, element_in, Judged, judged, type_note, typed, wrong}
use Rattle.ix_meaning.specs.Values as values
use Rattle.ix_meaning.specs.Values.{Reading, KindReading, Filling, Object, no_object, of_class, value, Received, reading, kind_reading, filling, check, null_at, fitted, as_object, valued, valued_and_assigned}
use Rattle.ix_meaning.proofs.Equations as equations
use Rattle.ix_guard_text.specs.Moved as moved
use Rattle.ix_guard_text.specs.Bare.{bare_maybe as maybe}
use Rattle.ix_guard_text.specs.Moved.{Move, moved_span, moved_name, moved_type, moved_expr, moved_init}
use Rattle.ix_guard_text.specs.MovedNotes.{AreMoved}
use Rattle.ix_guard_text.proofs.NotesMove.{none, both, used, is_wrong, if_wrong, type_noted, MovedJudged}
use Rattle.ix_guard_text.proofs.AnnotsMove.{given_moves}
use Rattle.ix_guard_text.proofs.TypesMove.{int_tree_moved, written_moves}
use Rattle.ix_guard_text.specs.MovedScopes.{moved_field, moved_callee, moved_world, moved_scope}
use Rattle.ix_guard_text.proofs.ScopesMove.{field_moved, method_moved, constructor_moved}

pub some_moved : {A B : Type 0} (f : A → B) (x : Option A) → is_some (maybe f x) ≡ is_some x
some_moved f None = refl
some_moved f (Some x) = refl

module _ (move : Move) where
  -- ---- what expressions say, at a scope and at the scope moved

  pub record MovedReceived (a b : Received) : Type 0 where
    pub object : a.object ≡ b.object
    pub notes : AreMoved move a.notes b.notes

  pub record MovedReading (r t : Reading) : Type 0 where
    pub span : moved_span move r.span ≡ t.span
    pub is_null : r.is_null ≡ t.is_null
    pub is_this : r.is_this ≡ t.is_this
    pub judge : (s : Scope) → MovedJudged move (r.judge s) (t.judge (moved_scope move s))
    pub assigned : (s : Scope) → MovedJudged move (r.assigned s) (t.assigned (moved_scope move s))
    pub receiver : (s : Scope) → MovedReceived (r.receiver s) (t.receiver (moved_scope move s))

  record MovedKind (k l : KindReading) : Type 0 where
    pub is_null : k.is_null ≡ l.is_null
    pub is_this : k.is_this ≡ l.is_this
    pub judge : (s : Scope) (p : Span) → MovedJudged move (k.judge s p) (l.judge (moved_scope move s) (moved_span move p))
    pub assigned : (s : Scope) (p : Span) → MovedJudged move (k.assigned s p) (l.assigned (moved_scope move s) (moved_span move p))
    pub receiver : (s : Scope) (p : Span) → MovedReceived (k.receiver s p) (l.receiver (moved_scope move s) (moved_span move p))

  pub record MovedFilling (f g : Filling) : Type 0 where
    pub at : (s : Scope) (ty : Option Type_) → AreMoved move (f s ty) (g (moved_scope move s) ty)

  -- ---- at a place that needs something

  null_mismatches : (need : Need) (p : Span) → AreMoved move (rules.null_mismatch need p) (rules.null_mismatch need (moved_span move p))
  null_mismatches unknown p = none
  null_mismatches never p = is_wrong rule.TypeMismatch p
  null_mismatches printed p = is_wrong rule.TypeMismatch p
  null_mismatches (of need) p = if_wrong (not (is_reference need)) rule.TypeMismatch p

  list_mismatches : (need : Need) (p : Span) → AreMoved move (rules.list_mismatch need p) (rules.list_mismatch need (moved_span move p))
  list_mismatches unknown p = none
  list_mismatches never p = none
  list_mismatches printed p = none
  list_mismatches (of need) p = if_wrong (not (is_some (element need))) rule.TypeMismatch p

  null_moves : (need : Need) (p : Span) → MovedJudged move (null_at need p) (null_at need (moved_span move p))
  null_moves need p = record { ty = refl; notes = both (null_mismatches need p) (type_noted (values.null_type need) p) }

  mismatches : (w : World) (need : Need) (ty : Option Type_) (p : Span) → AreMoved move (rules.type_mismatch w need ty p) (rules.type_mismatch (moved_world move w) need ty (moved_span move p))
  mismatches w need None p = none
  mismatches w need (Some ty) p = if_wrong (not (rules.has_fitting_type w need ty)) rule.TypeMismatch p

  pub fitted_moves : (w : World) (need : Need) (p : Span) (j k : Judged) → MovedJudged move j k → MovedJudged move (fitted w need p j) (fitted (moved_world move w) need (moved_span move p) k)
  fitted_moves w need p j k h = record {
    ty = h.ty;
    notes = both h.notes (subst (λ ty. AreMoved move (rules.type_mismatch w need j.ty p) (rules.type_mismatch (moved_world move w) need ty (moved_span move p))) h.ty (mismatches w need j.ty p));
  }

  pub check_moves : (r t : Reading) → MovedReading r t → (s : Scope) (need : Need) → MovedJudged move (check r s need) (check t (moved_scope move s) need)
  check_moves r t h s need =
      subst (λ (p : Span). MovedJudged move (check r s need) (if t.is_null then null_at need p else fitted (moved_world move s.world) need p (t.judge (moved_scope move s)))) h.span
      (subst (λ b. MovedJudged move (check r s need) (if b then null_at need (moved_span move r.span) else fitted (moved_world move s.world) need (moved_span move r.span) (t.judge (moved_scope move s)))) h.is_null
      (by r.is_null))
    where
      by : (b : Bool) → MovedJudged move (if b then null_at need r.span else fitted s.world need r.span (r.judge s))
          (if b then null_at need (moved_span move r.span) else fitted (moved_world move s.world) need (moved_span move r.span) (t.judge (moved_scope move s)))
      by true = null_moves need r.span
      by false = fitted_moves s.world need r.span (r.judge s) (t.judge (moved_scope move s)) (h.judge s)

  -- where the place needs the same
  need_moves : (r t : Reading) → MovedReading r t → (s : Scope) (need other : Need) → need ≡ other → MovedJudged move (check r s need) (check t (moved_scope move s) other)
  need_moves r t h s need other e = subst (λ n. MovedJudged move (check r s need) (check t (moved_scope move s) n)) e (check_moves r t h s need)

  -- ---- before a dot

  no_references : (ty : Option Type_) (p : Span) → AreMoved move (values.no_reference ty p) (values.no_reference ty (moved_span move p))
  no_references None p = none
  no_references (Some ty) p = if_wrong (not (is_reference ty)) rule.TypeMismatch p

  object_notes_moves : (ty : Option Type_) (p : Span) → AreMoved move (values.object_notes ty p) (values.object_notes ty (moved_span move p))
  object_notes_moves ty p = both (type_noted ty p) (no_references ty p)

  object_moves : (j k : Judged) (p : Span) → MovedJudged move j k → MovedReceived (as_object j p) (as_object k (moved_span move p))
  object_moves j k p h = record {
    object = ap values.object_for h.ty;
    notes = both h.notes (subst (λ ty. AreMoved move (values.object_notes j.ty p) (values.object_notes ty (moved_span move p))) h.ty (object_notes_moves j.ty p));
  }

  both_moves : (judge assigned judge_moved assigned_moved : Scope → Span → Judged) → ((s : Scope) (p : Span) → MovedJudged move (judge s p) (judge_moved (moved_scope move s) (moved_span move p)))
      → ((s : Scope) (p : Span) → MovedJudged move (assigned s p) (assigned_moved (moved_scope move s) (moved_span move p))) → MovedKind (valued_and_assigned judge assigned) (valued_and_assigned judge_moved assigned_moved)
  both_moves judge assigned judge_moved assigned_moved a b = record {
    is_null = refl;
    is_this = refl;
    judge = a;
    assigned = b;
    receiver = λ s p. object_moves (judge s p) (judge_moved (moved_scope move s) (moved_span move p)) p (a s p);
  }

  valued_moves : (judge judge_moved : Scope → Span → Judged) → ((s : Scope) (p : Span) → MovedJudged move (judge s p) (judge_moved (moved_scope move s) (moved_span move p))) → MovedKind (valued judge) (valued judge_moved)
  valued_moves judge judge_moved a = both_moves judge judge judge_moved judge_moved a a

  -- ---- names

  use_noted : (meaning : Option Meaning) (p : Span) → AreMoved move (rules.use_of meaning p) (rules.use_of meaning (moved_span move p))
  use_noted None p = none
  use_noted (Some meaning) p = used p meaning none

  field_use_moves : (s : Scope) (assigned through_this : Bool) (p : Span) (f : Field)
      → AreMoved move (values.field_use s assigned through_this p f) (values.field_use (moved_scope move s) assigned through_this (moved_span move p) (moved_field move f))
  field_use_moves s assigned through_this p f =
      both (use_noted f.meaning p) (if_wrong (assigned && not (rules.may_assign s.in_constructor s.class through_this f)) rule.FinalAssigned p)

  bare_field_moves : (s : Scope) (assigned : Bool) (p : Span) (f : Option Field) → MovedJudged move (values.bare_field s assigned p f) (values.bare_field (moved_scope move s) assigned (moved_span move p) (maybe (moved_field move) f))
  bare_field_moves s assigned p None = record { ty = refl; notes = is_wrong rule.UnknownName p }
  bare_field_moves s assigned p (Some f) = record { ty = refl; notes = both (if_wrong (not s.has_object && not f.is_static) rule.NotStatic p) (field_use_moves s assigned true p f) }

  known_moves : (s : Scope) (assigned : Bool) (name : Ident) (k : Option Known) → MovedJudged move (values.known_or s assigned name k) (values.known_or (moved_scope move s) assigned (moved_name move name) k)
  known_moves s assigned name None =
      subst (λ f. MovedJudged move (values.bare_field s assigned name.span (field_named s.world s.class name.text)) (values.bare_field (moved_scope move s) assigned (moved_span move name.span) f))
      (sym (field_moved move s.world s.class name.text)) (bare_field_moves s assigned name.span (field_named s.world s.class name.text))
  known_moves s assigned name (Some k) = record { ty = refl; notes = used name.span k.meaning (if_wrong (assigned && k.is_fixed) rule.FinalAssigned name.span) }

  variable_moves : (s : Scope) (assigned : Bool) (name : Ident) → MovedJudged move (values.variable s assigned name) (values.variable (moved_scope move s) assigned (moved_name move name))
  variable_moves s assigned name = by (is_pending s.pending name.text)
    where
      by : (b : Bool) → MovedJudged move (if b then judged None (rules.unknown_name name.span) else values.known_or s assigned name (meant name.text s.names))
          (if b then judged None (rules.unknown_name (moved_span move name.span)) else values.known_or (moved_scope move s) assigned (moved_name move name) (meant name.text s.names))
      by true = record { ty = refl; notes = is_wrong rule.UnknownName name.span }
      by false = known_moves s assigned name (meant name.text s.names)

  is_variable_moved : (s : Scope) (name : List ℕ) → values.is_variable (moved_scope move s) name ≡ values.is_variable s name
  is_variable_moved s name =
      ap (λ b. is_some (meant name s.names) || b) (ap is_some (field_moved move s.world s.class name) ∙ some_moved (moved_field move) (field_named s.world s.class name))

  before_dot_moves : (s : Scope) (name : Ident) (p : Span) → MovedReceived (values.name_before_dot s name p) (values.name_before_dot (moved_scope move s) (moved_name move name) (moved_span move p))
  before_dot_moves s name p =
      subst (λ b. MovedReceived (values.name_before_dot s name p)
      (if b then as_object (values.variable (moved_scope move s) false (moved_name move name)) (moved_span move p) else values.class_or (moved_scope move s) (moved_name move name) (moved_span move p) (s.world.class name.text)))
      (sym (is_variable_moved s name.text)) (by (values.is_variable s name.text))
    where
      as_variable : MovedReceived (as_object (values.variable s false name) p) (as_object (values.variable (moved_scope move s) false (moved_name move name)) (moved_span move p))
      as_variable = object_moves (values.variable s false name) (values.variable (moved_scope move s) false (moved_name move name)) p (variable_moves s false name)

      class_or : (c : Option ℕ) → MovedReceived (values.class_or s name p c) (values.class_or (moved_scope move s) (moved_name move name) (moved_span move p) c)
      class_or (Some c) = record { object = refl; notes = used name.span (ClassNamed c) none }
      class_or None = as_variable

      by : (b : Bool) → MovedReceived (if b then as_object (values.variable s false name) p else values.class_or s name p (s.world.class name.text))
          (if b then as_object (values.variable (moved_scope move s) false (moved_name move name)) (moved_span move p) else values.class_or (moved_scope move s) (moved_name move name) (moved_span move p) (s.world.class name.text))
      by true = as_variable
      by false = class_or (s.world.class name.text)

  -- ---- selections

  instance_moves : (s : Scope) (assigned through_this : Bool) (name : Ident) (f : Option Field)
      → MovedJudged move (values.instance_field s assigned through_this name f) (values.instance_field (moved_scope move s) assigned through_this (moved_name move name) (maybe (moved_field move) f))
  instance_moves s assigned through_this name None = record { ty = refl; notes = is_wrong rule.UnknownName name.span }
  instance_moves s assigned through_this name (Some f) = record { ty = refl; notes = field_use_moves s assigned through_this name.span f }

  class_field_moves : (s : Scope) (assigned : Bool) (name : Ident) (f : Option Field)
      → MovedJudged move (values.class_field s assigned name f) (values.class_field (moved_scope move s) assigned (moved_name move name) (maybe (moved_field move) f))
  class_field_moves s assigned name None = record { ty = refl; notes = is_wrong rule.UnknownName name.span }
  class_field_moves s assigned name (Some f) = record { ty = refl; notes = both (if_wrong (not f.is_static) rule.NotStatic name.span) (field_use_moves s assigned false name.span f) }

  length_moves : (assigned : Bool) (name : Ident) → MovedJudged move (values.array_length assigned name) (values.array_length assigned (moved_name move name))
  length_moves assigned name = by (bytes_eq name.text (codes "length"))
    where
      by : (b : Bool) → MovedJudged move (if b then judged (Some int) (rules.use_of (Some LengthOf) name.span ++ rules.not_assignable assigned name.span) else judged None (rules.unknown_name name.span))
          (if b then judged (Some int) (rules.use_of (Some LengthOf) (moved_span move name.span) ++ rules.not_assignable assigned (moved_span move name.span)) else judged None (rules.unknown_name (moved_span move name.span)))
      by true = record { ty = refl; notes = used name.span LengthOf (if_wrong assigned rule.NotAssignable name.span) }
      by false = record { ty = refl; notes = is_wrong rule.UnknownName name.span }

  selected_moves : (s : Scope) (assigned through_this : Bool) (name : Ident) (o : Object)
      → MovedJudged move (values.selected s assigned through_this name o) (values.selected (moved_scope move s) assigned through_this (moved_name move name) o)
  selected_moves s assigned through_this name no_object = record { ty = refl; notes = none }
  selected_moves s assigned through_this name (of_class c) =
      subst (λ f. MovedJudged move (values.class_field s assigned name (field_named s.world c name.text)) (values.class_field (moved_scope move s) assigned (moved_name move name) f))
      (sym (field_moved move s.world c name.text)) (class_field_moves s assigned name (field_named s.world c name.text))
  selected_moves s assigned through_this name (value (type.Plain (base.Class c))) =
      subst (λ f. MovedJudged move (values.instance_field s assigned through_this name (field_named s.world c name.text)) (values.instance_field (moved_scope move s) assigned through_this (moved_name move name) f))
      (sym (field_moved move s.world c name.text)) (instance_moves s assigned through_this name (field_named s.world c name.text))
  selected_moves s assigned through_this name (value other) = length_moves assigned name

  selection_moves : (r t : Reading) → MovedReading r t → (name : Ident) (assigned : Bool) (s : Scope)
      → MovedJudged move (values.selection r name assigned s) (values.selection t (moved_name move name) assigned (moved_scope move s))
  selection_moves r t h name assigned s =
      let o = h.receiver s in
      let inner : MovedJudged move (values.selected s assigned r.is_this name (r.receiver s).object) (values.selected (moved_scope move s) assigned t.is_this (moved_name move name) (t.receiver (moved_scope move s)).object) =
      subst (λ b. MovedJudged move (values.selected s assigned r.is_this name (r.receiver s).object) (values.selected (moved_scope move s) assigned b (moved_name move name) (t.receiver (moved_scope move s)).object)) h.is_this
      (subst (λ object. MovedJudged move (values.selected s assigned r.is_this name (r.receiver s).object) (values.selected (moved_scope move s) assigned r.is_this (moved_name move name) object)) o.object
      (selected_moves s assigned r.is_this name (r.receiver s).object)) in
      record { ty = inner.ty; notes = both o.notes inner.notes }

  -- ---- calls

  abbrev pub AllMoved : List Reading → List Reading → Type 0
  AllMoved [] [] = Unit {0}
  AllMoved (r ∷ rs) (t ∷ ts) = MovedReading r t × AllMoved rs ts
  AllMoved _ _ = ⊥

  as_many : (rs ts : List Reading) → AllMoved rs ts → length rs ≡ length ts
  as_many [] [] h = refl
  as_many [] (t ∷ ts) h = absurd h
  as_many (r ∷ rs) [] h = absurd h
  as_many (r ∷ rs) (t ∷ ts) h = ap suc (as_many rs ts h.1)

  pub arguments_moves : (s : Scope) (rs ts : List Reading) → AllMoved rs ts → (types : List (Option Type_)) → AreMoved move (values.arguments s rs types) (values.arguments (moved_scope move s) ts types)
  arguments_moves s [] [] h types = none
  arguments_moves s [] (t ∷ ts) h types = absurd h
  arguments_moves s (r ∷ rs) [] h types = absurd h
  arguments_moves s (r ∷ rs) (t ∷ ts) h types = both (check_moves r t h.0 s (values.first_need types)).notes (arguments_moves s rs ts h.1 (drop 1 types))

  pub given_to_moves : (s : Scope) (rs ts : List Reading) → AllMoved rs ts → (types : List (Option Type_)) (p : Span)
      → AreMoved move (values.given_to s rs types p) (values.given_to (moved_scope move s) ts types (moved_span move p))
  given_to_moves s rs ts h types p =
      both (subst (λ n. AreMoved move (rules.wrong_arguments (length rs) (length types) p) (rules.wrong_arguments n (length types) (moved_span move p))) (as_many rs ts h) (if_wrong _ rule.WrongArguments p))
      (arguments_moves s rs ts h types)

  called_moves : (s : Scope) (p : Span) (rs ts : List Reading) → AllMoved rs ts → (m : Callee) → MovedJudged move (values.called s p rs m) (values.called (moved_scope move s) (moved_span move p) ts (moved_callee move m))
  called_moves s p rs ts h m = record { ty = refl; notes = used p (MethodNamed m.number) (given_to_moves s rs ts h m.signature.params p) }

  unknown_call_moves : (s : Scope) (p : Span) (rs ts : List Reading) → AllMoved rs ts → MovedJudged move (values.unknown_call s p rs) (values.unknown_call (moved_scope move s) (moved_span move p) ts)
  unknown_call_moves s p rs ts h = record { ty = refl; notes = both (is_wrong rule.UnknownName p) (arguments_moves s rs ts h []) }

  bare_call_moves : (s : Scope) (name : Ident) (rs ts : List Reading) → AllMoved rs ts → (m : Option Callee)
      → MovedJudged move (values.bare_call s name rs m) (values.bare_call (moved_scope move s) (moved_name move name) ts (maybe (moved_callee move) m))
  bare_call_moves s name rs ts h None = unknown_call_moves s name.span rs ts h
  bare_call_moves s name rs ts h (Some m) = record {
    ty = refl;
    notes = both (if_wrong (not s.has_object && not m.signature.is_static) rule.NotStatic name.span) (called_moves s name.span rs ts h m).notes;
  }

  instance_call_moves : (s : Scope) (name : Ident) (rs ts : List Reading) → AllMoved rs ts → (m : Option Callee)
      → MovedJudged move (values.instance_call s name rs m) (values.instance_call (moved_scope move s) (moved_name move name) ts (maybe (moved_callee move) m))
  instance_call_moves s name rs ts h None = unknown_call_moves s name.span rs ts h
  instance_call_moves s name rs ts h (Some m) = called_moves s name.span rs ts h m

  class_call_moves : (s : Scope) (name : Ident) (rs ts : List Reading) → AllMoved rs ts → (m : Option Callee)
      → MovedJudged move (values.class_call s name rs m) (values.class_call (moved_scope move s) (moved_name move name) ts (maybe (moved_callee move) m))
  class_call_moves s name rs ts h None = unknown_call_moves s name.span rs ts h
  class_call_moves s name rs ts h (Some m) = record {
    ty = refl;
    notes = both (if_wrong (not m.signature.is_static) rule.NotStatic name.span) (called_moves s name.span rs ts h m).notes;
  }

  call_on_moves : (s : Scope) (name : Ident) (rs ts : List Reading) → AllMoved rs ts → (o : Object) → MovedJudged move (values.call_on s name rs o) (values.call_on (moved_scope move s) (moved_name move name) ts o)
  call_on_moves s name rs ts h no_object = record { ty = refl; notes = arguments_moves s rs ts h [] }
  call_on_moves s name rs ts h (of_class c) =
      subst (λ m. MovedJudged move (values.class_call s name rs (method_named s.world c name.text)) (values.class_call (moved_scope move s) (moved_name move name) ts m))
      (sym (method_moved move s.world c name.text)) (class_call_moves s name rs ts h (method_named s.world c name.text))
  call_on_moves s name rs ts h (value (type.Plain (base.Class c))) =
      subst (λ m. MovedJudged move (values.instance_call s name rs (method_named s.world c name.text)) (values.instance_call (moved_scope move s) (moved_name move name) ts m))
      (sym (method_moved move s.world c name.text)) (instance_call_moves s name rs ts h (method_named s.world c name.text))
  call_on_moves s name rs ts h (value other) = unknown_call_moves s name.span rs ts h

  creation_moves : (s : Scope) (name : Ident) (rs ts : List Reading) → AllMoved rs ts → (c : Option ℕ) → MovedJudged move (values.creation s name rs c) (values.creation (moved_scope move s) (moved_name move name) ts c)
  creation_moves s name rs ts h None = unknown_call_moves s name.span rs ts h
  creation_moves s name rs ts h (Some c) = record {
    ty = refl;
    notes = used name.span (ClassNamed c)
        (subst (λ types. AreMoved move (values.given_to s rs (constructor_params s.world c) name.span) (values.given_to (moved_scope move s) ts types (moved_span move name.span))) (sym (constructor_moved move s.world c))
        (given_to_moves s rs ts h (constructor_params s.world c) name.span));
  }

  -- ---- arrays

  created_moves : (s : Scope) (ty : TypeTree) → MovedJudged move (values.created s ty) (values.created (moved_scope move s) (moved_type move ty))
  created_moves s ty =
      let given_same = given_moves move (names_nothing (values.created_target ty)) ty.annots in
      record {
        ty = rw (int_tree_moved move ty.base, given_same.claims) (written_moves move s.world.class ty _).ty;
        notes = rw (int_tree_moved move ty.base) (both (written_moves move s.world.class ty []).notes given_same.notes);
      }

  abbrev pub AllFill : List Filling → List Filling → Type 0
  AllFill [] [] = Unit {0}
  AllFill (f ∷ fs) (g ∷ gs) = MovedFilling f g × AllFill fs gs
  AllFill _ _ = ⊥

  fillings_moves : (fs gs : List Filling) → AllFill fs gs → (s : Scope) (ty : Option Type_) → AreMoved move (values.fillings fs s ty) (values.fillings gs (moved_scope move s) ty)
  fillings_moves [] [] h s ty = none
  fillings_moves [] (g ∷ gs) h s ty = absurd h
  fillings_moves (f ∷ fs) [] h s ty = absurd h
  fillings_moves (f ∷ fs) (g ∷ gs) h s ty = both (h.0.at s ty) (fillings_moves fs gs h.1 s ty)

  filled_moves : (fs gs : List Filling) → AllFill fs gs → (s : Scope) (j k : Judged) → MovedJudged move j k → MovedJudged move (values.filled fs s j) (values.filled gs (moved_scope move s) k)
  filled_moves fs gs h s j k e = record {
    ty = e.ty;
    notes = both e.notes (subst (λ ty. AreMoved move (values.fillings fs s (element_in j.ty)) (values.fillings gs (moved_scope move s) (element_in ty))) e.ty (fillings_moves fs gs h s (element_in j.ty)));
  }

  sized_moves : (r t : Reading) → MovedReading r t → (s : Scope) (j k : Judged) → MovedJudged move j k → MovedJudged move (values.sized r s j) (values.sized t (moved_scope move s) k)
  sized_moves r t h s j k e = record { ty = e.ty; notes = both e.notes (check_moves r t h s (of int)).notes }

  no_arrays : (ty : Option Type_) (p : Span) → AreMoved move (values.no_array ty p) (values.no_array ty (moved_span move p))
  no_arrays None p = none
  no_arrays (Some ty) p = if_wrong (not (is_some (element ty))) rule.TypeMismatch p

  array_moves : (j k : Judged) (p : Span) → MovedJudged move j k → MovedJudged move (judged (element_in j.ty) (j.notes ++ values.no_array j.ty p)) (judged (element_in k.ty) (k.notes ++ values.no_array k.ty (moved_span move p)))
  array_moves j k p h = record {
    ty = ap element_in h.ty;
    notes = both h.notes (subst (λ ty. AreMoved move (values.no_array j.ty p) (values.no_array ty (moved_span move p))) h.ty (no_arrays j.ty p));
  }

  abbrev null_part : Span → Judged
  null_part p = judged None (wrong rule.TypeMismatch p)

  abbrev array_at : Judged → Span → Judged
  array_at j p = judged (element_in j.ty) (j.notes ++ values.no_array j.ty p)

  array_part_moves : (r t : Reading) → MovedReading r t → (s : Scope) → MovedJudged move (values.array_part r s) (values.array_part t (moved_scope move s))
  array_part_moves r t h s =
      subst (λ (p : Span). MovedJudged move (values.array_part r s) (if t.is_null then null_part p else array_at (t.judge (moved_scope move s)) p)) h.span
      (subst (λ b. MovedJudged move (values.array_part r s) (if b then null_part (moved_span move r.span) else array_at (t.judge (moved_scope move s)) (moved_span move r.span))) h.is_null (by r.is_null))
    where
      by : (b : Bool) → MovedJudged move (if b then null_part r.span else array_at (r.judge s) r.span) (if b then null_part (moved_span move r.span) else array_at (t.judge (moved_scope move s)) (moved_span move r.span))
      by true = record { ty = refl; notes = is_wrong rule.TypeMismatch r.span }
      by false = array_moves (r.judge s) (t.judge (moved_scope move s)) r.span (h.judge s)

  access_moves : (a b c d : Reading) → MovedReading a b → MovedReading c d → (s : Scope) → MovedJudged move (values.access a c s) (values.access b d (moved_scope move s))
  access_moves a b c d x y s = let array = array_part_moves a b x s in record { ty = array.ty; notes = both array.notes (check_moves c d y s (of int)).notes }

  -- ---- operators

  two_moves : (a b c d : Reading) → MovedReading a b → MovedReading c d → (s : Scope) (need : Need) (ty : Type_) → MovedJudged move (values.both a c s need ty) (values.both b d (moved_scope move s) need ty)
  two_moves a b c d x y s need ty = record { ty = refl; notes = both (check_moves a b x s need).notes (check_moves c d y s need).notes }

  -- the notes of `==`, where it is told which operands are `null`
  abbrev compared_at : World → Bool → Bool → Judged → Judged → Span → Span → Span → List Note
  compared_at w a_null c_null j k p u span =
      (if a_null then judged None [] else j).notes ++ ((if c_null then judged None [] else k).notes
      ++ (if a_null then (if c_null then wrong rule.TypeMismatch p ++ wrong rule.TypeMismatch u else (null_at (need_like (if c_null then judged None [] else k).ty) p).notes)
      else (if c_null then (null_at (need_like (if a_null then judged None [] else j).ty) u).notes
      else rules.cannot_compare w (if a_null then judged None [] else j).ty (if c_null then judged None [] else k).ty span)))

  not_compared : (w : World) (ty other : Option Type_) (p : Span) → AreMoved move (rules.cannot_compare w ty other p) (rules.cannot_compare (moved_world move w) ty other (moved_span move p))
  not_compared w None other p = none
  not_compared w (Some ty) None p = none
  not_compared w (Some ty) (Some other) p = if_wrong _ rule.TypeMismatch p

  null_like : (ty other : Option Type_) (p : Span) → ty ≡ other → AreMoved move (null_at (need_like ty) p).notes (null_at (need_like other) (moved_span move p)).notes
  null_like ty other p e = subst (λ o. AreMoved move (null_at (need_like ty) p).notes (null_at (need_like o) (moved_span move p)).notes) e (null_moves (need_like ty) p).notes

  not_compared_like : (w : World) (a b c d : Option Type_) (p : Span) → a ≡ b → c ≡ d → AreMoved move (rules.cannot_compare w a c p) (rules.cannot_compare (moved_world move w) b d (moved_span move p))
  not_compared_like w a b c d p e f =
      subst (λ x. AreMoved move (rules.cannot_compare w a c p) (rules.cannot_compare (moved_world move w) x d (moved_span move p))) e
      (subst (λ x. AreMoved move (rules.cannot_compare w a c p) (rules.cannot_compare (moved_world move w) a x (moved_span move p))) f (not_compared w a c p))

  compared_moves : (w : World) (a_null c_null : Bool) (j k l m : Judged) (p u span : Span) → MovedJudged move j k → MovedJudged move l m
      → AreMoved move (compared_at w a_null c_null j l p u span) (compared_at (moved_world move w) a_null c_null k m (moved_span move p) (moved_span move u) (moved_span move span))
  compared_moves w true true j k l m p u span x y = both (is_wrong rule.TypeMismatch p) (is_wrong rule.TypeMismatch u)
  compared_moves w true false j k l m p u span x y = both y.notes (null_like l.ty m.ty p y.ty)
  compared_moves w false true j k l m p u span x y = both x.notes (null_like j.ty k.ty u x.ty)
  compared_moves w false false j k l m p u span x y = both x.notes (both y.notes (not_compared_like w j.ty k.ty l.ty m.ty span x.ty y.ty))

  equality_moves : (a b c d : Reading) → MovedReading a b → MovedReading c d → (s : Scope) (p : Span) → MovedJudged move (values.equality a c s p) (values.equality b d (moved_scope move s) (moved_span move p))
  equality_moves a b c d x y s p =
      let t = moved_scope move s in
      let was = compared_at s.world a.is_null c.is_null (a.judge s) (c.judge s) a.span c.span p in
      let at : Bool → Bool → Span → Span → List Note = λ m n u v. compared_at (moved_world move s.world) m n (b.judge t) (d.judge t) u v (moved_span move p) in
      let inner : AreMoved move was (at b.is_null d.is_null b.span d.span) =
      subst (λ n. AreMoved move was (at n d.is_null b.span d.span)) x.is_null
      (subst (λ n. AreMoved move was (at a.is_null n b.span d.span)) y.is_null
      (subst (λ (u : Span). AreMoved move was (at a.is_null c.is_null u d.span)) x.span
      (subst (λ (v : Span). AreMoved move was (at a.is_null c.is_null (moved_span move a.span) v)) y.span
      (compared_moves s.world a.is_null c.is_null (a.judge s) (b.judge t) (c.judge s) (d.judge t) a.span c.span p (x.judge s) (y.judge s))))) in
      record { ty = refl; notes = inner }

  binary_moves : (op : BinaryOp) (a b c d : Reading) → MovedReading a b → MovedReading c d → (s : Scope) (p : Span) → MovedJudged move (values.binary op a c s p) (values.binary op b d (moved_scope move s) (moved_span move p))
  binary_moves (binary.Num op) a b c d x y s p = two_moves a b c d x y s (of int) int
  binary_moves (binary.Compare r) a b c d x y s p = by (values.is_equality r)
    where
      by : (e : Bool) → MovedJudged move (if e then values.equality a c s p else values.both a c s (of int) boolean)
          (if e then values.equality b d (moved_scope move s) (moved_span move p) else values.both b d (moved_scope move s) (of int) boolean)
      by true = equality_moves a b c d x y s p
      by false = two_moves a b c d x y s (of int) boolean
  binary_moves binary.AndAlso a b c d x y s p = two_moves a b c d x y s (of boolean) boolean
  binary_moves binary.OrElse a b c d x y s p = two_moves a b c d x y s (of boolean) boolean

  unary_moves : (op : UnaryOp) (a b : Reading) → MovedReading a b → (s : Scope) → MovedJudged move (values.unary op a s) (values.unary op b (moved_scope move s))
  unary_moves operator.Not a b x s = record { ty = refl; notes = (check_moves a b x s (of boolean)).notes }
  unary_moves other a b x s = record { ty = refl; notes = (check_moves a b x s (of int)).notes }

  -- ---- assignments

  assignment_moves : (a b c d : Reading) → MovedReading a b → MovedReading c d → (s : Scope) → MovedJudged move (values.assignment a c s) (values.assignment b d (moved_scope move s))
  assignment_moves a b c d x y s =
      let target = x.assigned s in
      record { ty = target.ty; notes = both target.notes (need_moves c d y s (need_like (a.assigned s).ty) (need_like (b.assigned (moved_scope move s)).ty) (ap need_like target.ty)).notes }

  counted_moves : (a b : Reading) → MovedReading a b → (s : Scope) → MovedJudged move (values.counted_target a s) (values.counted_target b (moved_scope move s))
  counted_moves a b x s =
      subst (λ (p : Span). MovedJudged move (values.counted_target a s) (fitted (moved_world move s.world) (of int) p (b.assigned (moved_scope move s)))) x.span
      (fitted_moves s.world (of int) a.span (a.assigned s) (b.assigned (moved_scope move s)) (x.assigned s))

  computed_moves : (a b c d : Reading) → MovedReading a b → MovedReading c d → (s : Scope) → MovedJudged move (values.computed a c s) (values.computed b d (moved_scope move s))
  computed_moves a b c d x y s = record { ty = (x.assigned s).ty; notes = both (counted_moves a b x s).notes (check_moves c d y s (of int)).notes }

  -- ---- all forms

  abbrev kind_moved : ExprKind → ExprKind
  kind_moved = fold-ExprKind ExprKind Init Expr (moved.kind_step move) (moved.init_step move) (moved.expr_step move)

  abbrev KindIs : ExprKind → Type 0
  KindIs k = MovedKind (kind_reading k) (kind_reading (kind_moved k))

  abbrev InitIs : Init → Type 0
  InitIs i = MovedFilling (filling i) (filling (moved_init move i))

  abbrev ExprIs : Expr → Type 0
  ExprIs e = MovedReading (reading e) (reading (moved_expr move e))

  turned : (k l m : KindReading) → l ≡ m → MovedKind k m → MovedKind k l
  turned k l m e h = subst (MovedKind k) (sym e) h

  typed_moves : (p : Span) (j k : Judged) → MovedJudged move j k → MovedJudged move (typed p j) (typed (moved_span move p) k)
  typed_moves p j k h = record { ty = h.ty; notes = both h.notes (subst (λ ty. AreMoved move (type_note j.ty p) (type_note ty (moved_span move p))) h.ty (type_noted j.ty p)) }

  behind_moves : (a b : Received) (j k : Judged) → MovedReceived a b → MovedJudged move j k → MovedJudged move (values.behind a.notes j) (values.behind b.notes k)
  behind_moves a b j k x y = record { ty = y.ty; notes = both x.notes y.notes }

  called_on_moves : (r t : Reading) → MovedReading r t → (name : Ident) (rs ts : List Reading) → AllMoved rs ts → (s : Scope)
      → MovedJudged move (values.behind (r.receiver s).notes (values.call_on s name rs (r.receiver s).object))
      (values.behind (t.receiver (moved_scope move s)).notes (values.call_on (moved_scope move s) (moved_name move name) ts (t.receiver (moved_scope move s)).object))
  called_on_moves r t x name rs ts h s =
      let o = x.receiver s in
      behind_moves (r.receiver s) (t.receiver (moved_scope move s)) _ _ o
      (subst (λ object. MovedJudged move (values.call_on s name rs (r.receiver s).object) (values.call_on (moved_scope move s) (moved_name move name) ts object)) o.object (call_on_moves s name rs ts h (r.receiver s).object))

  bare_called_moves : (name : Ident) (rs ts : List Reading) → AllMoved rs ts → (s : Scope)
      → MovedJudged move (values.bare_call s name rs (method_named s.world s.class name.text)) (values.bare_call (moved_scope move s) (moved_name move name) ts (method_named (moved_world move s.world) s.class name.text))
  bare_called_moves name rs ts h s =
      subst (λ m. MovedJudged move (values.bare_call s name rs (method_named s.world s.class name.text)) (values.bare_call (moved_scope move s) (moved_name move name) ts m))
      (sym (method_moved move s.world s.class name.text)) (bare_call_moves s name rs ts h (method_named s.world s.class name.text))

  module _ {K I E : Type 0} (kind : K → ExprKind) (init : I → Init) (expr : E → Expr) (init_is : (i : I) → InitIs (init i)) (expr_is : (e : E) → ExprIs (expr e)) where
    args_moves : (es : List E) → AllMoved (map reading (map expr es)) (map reading (map (moved_expr move) (map expr es)))
    args_moves [] = tt
    args_moves (e ∷ es) = (expr_is e, args_moves es)

    items_moves : (is : List I) → AllFill (map filling (map init is)) (map filling (map (moved_init move) (map init is)))
    items_moves [] = tt
    items_moves (i ∷ is) = (init_is i, items_moves is)

    abbrev of_expr : E → Reading
    of_expr e = reading (expr e)

    abbrev of_moved : E → Reading
    of_moved e = reading (moved_expr move (expr e))

    abbrev moved_of : E → Expr
    moved_of e = moved_expr move (expr e)

    kind_layer : (y : ExprKind-F K I E) → let layer = map-ExprKind K I E ExprKind Init Expr kind init expr y in
        MovedKind (values.kind_step (map-ExprKind ExprKind Init Expr KindReading Filling Reading kind_reading filling reading layer))
        (kind_reading (moved.kind_step move (map-ExprKind ExprKind Init Expr ExprKind Init Expr kind_moved (moved_init move) (moved_expr move) layer)))
    kind_layer (ExprKind-F.Int n) = turned _ _ _ (equations.int_kind n) (valued_moves _ _ (λ s p. record { ty = refl; notes = none }))
    kind_layer (ExprKind-F.Bool answer) = turned _ _ _ (equations.bool_kind answer) (valued_moves _ _ (λ s p. record { ty = refl; notes = none }))
    kind_layer ExprKind-F.Null = turned _ _ _ equations.null_kind (record {
      is_null = refl;
      is_this = refl;
      judge = λ s p. record { ty = refl; notes = is_wrong rule.TypeMismatch p };
      assigned = λ s p. record { ty = refl; notes = is_wrong rule.TypeMismatch p };
      receiver = λ s p. record { object = refl; notes = is_wrong rule.TypeMismatch p };
    })
    kind_layer ExprKind-F.This = turned _ _ _ equations.this_kind (record {
      is_null = refl;
      is_this = refl;
      judge = λ s p. record { ty = refl; notes = if_wrong _ rule.NotStatic p };
      assigned = λ s p. record { ty = refl; notes = if_wrong _ rule.NotStatic p };
      receiver = λ s p.
          object_moves (judged (Some (type.Plain (base.Class s.class))) (rules.not_static s false p)) (judged (Some (type.Plain (base.Class s.class))) (rules.not_static (moved_scope move s) false (moved_span move p))) p
          (record { ty = refl; notes = if_wrong _ rule.NotStatic p });
    })
    kind_layer (ExprKind-F.Name name) = turned _ _ _ (equations.name_kind (moved_name move name)) (record {
      is_null = refl;
      is_this = refl;
      judge = λ s p. variable_moves s false name;
      assigned = λ s p. variable_moves s true name;
      receiver = λ s p. before_dot_moves s name p;
    })
    kind_layer (ExprKind-F.Select object name) = turned _ _ _ (equations.select_kind (moved_of object) (moved_name move name))
        (both_moves _ _ _ _ (λ s p. selection_moves (of_expr object) (of_moved object) (expr_is object) name false s) (λ s p. selection_moves (of_expr object) (of_moved object) (expr_is object) name true s))
    kind_layer (ExprKind-F.Index array index) = turned _ _ _ (equations.index_kind (moved_of array) (moved_of index))
        (valued_moves _ _ (λ s p. access_moves (of_expr array) (of_moved array) (of_expr index) (of_moved index) (expr_is array) (expr_is index) s))
    kind_layer (ExprKind-F.Call None name args) = turned _ _ _ (equations.bare_call_kind (moved_name move name) (map (moved_expr move) (map expr args)))
        (valued_moves _ _ (λ s p. bare_called_moves name (map reading (map expr args)) (map reading (map (moved_expr move) (map expr args))) (args_moves args) s))
    kind_layer (ExprKind-F.Call (Some object) name args) = turned _ _ _ (equations.call_on_kind (moved_of object) (moved_name move name) (map (moved_expr move) (map expr args)))
        (valued_moves _ _ (λ s p. called_on_moves (of_expr object) (of_moved object) (expr_is object) name (map reading (map expr args)) (map reading (map (moved_expr move) (map expr args))) (args_moves args) s))
    kind_layer (ExprKind-F.New name args) = turned _ _ _ (equations.new_kind (moved_name move name) (map (moved_expr move) (map expr args)))
        (valued_moves _ _ (λ s p. creation_moves s name (map reading (map expr args)) (map reading (map (moved_expr move) (map expr args))) (args_moves args) (s.world.class name.text)))
    kind_layer (ExprKind-F.NewArray ty size) = turned _ _ _ (equations.new_array_kind (moved_type move ty) (moved_of size))
        (valued_moves _ _ (λ s p. sized_moves (of_expr size) (of_moved size) (expr_is size) s (values.created s ty) (values.created (moved_scope move s) (moved_type move ty)) (created_moves s ty)))
    kind_layer (ExprKind-F.NewItems ty items) = turned _ _ _ (equations.new_items_kind (moved_type move ty) (map (moved_init move) (map init items)))
        (valued_moves _ _ (λ s p. filled_moves (map filling (map init items)) (map filling (map (moved_init move) (map init items))) (items_moves items) s
        (values.created s ty) (values.created (moved_scope move s) (moved_type move ty)) (created_moves s ty)))
    kind_layer (ExprKind-F.Unary op operand) = turned _ _ _ (equations.unary_kind op (moved_of operand))
        (valued_moves _ _ (λ s p. unary_moves op (of_expr operand) (of_moved operand) (expr_is operand) s))
    kind_layer (ExprKind-F.Binary op left right) = turned _ _ _ (equations.binary_kind op (moved_of left) (moved_of right))
        (valued_moves _ _ (λ s p. binary_moves op (of_expr left) (of_moved left) (of_expr right) (of_moved right) (expr_is left) (expr_is right) s p))
    kind_layer (ExprKind-F.Assign None target source) = turned _ _ _ (equations.assign_kind None (moved_of target) (moved_of source))
        (valued_moves _ _ (λ s p. assignment_moves (of_expr target) (of_moved target) (of_expr source) (of_moved source) (expr_is target) (expr_is source) s))
    kind_layer (ExprKind-F.Assign (Some op) target source) = turned _ _ _ (equations.assign_kind (Some op) (moved_of target) (moved_of source))
        (valued_moves _ _ (λ s p. computed_moves (of_expr target) (of_moved target) (of_expr source) (of_moved source) (expr_is target) (expr_is source) s))
    kind_layer (ExprKind-F.Step up after target) = turned _ _ _ (equations.step_kind up after (moved_of target))
        (valued_moves _ _ (λ s p. counted_moves (of_expr target) (of_moved target) (expr_is target) s))

    kind_rolled : (y : ExprKind-F K I E) → KindIs (roll-ExprKind (map-ExprKind K I E ExprKind Init Expr kind init expr y))
    kind_rolled y =
        let layer = map-ExprKind K I E ExprKind Init Expr kind init expr y in
        let a = fold-roll-ExprKind KindReading Filling Reading values.kind_step values.init_step values.expr_step layer in
        let b = fold-roll-ExprKind ExprKind Init Expr (moved.kind_step move) (moved.init_step move) (moved.expr_step move) layer in
        subst (λ k. MovedKind k (kind_reading (kind_moved (roll-ExprKind layer)))) (sym a)
        (subst (λ k. MovedKind (values.kind_step (map-ExprKind ExprKind Init Expr KindReading Filling Reading kind_reading filling reading layer)) (kind_reading k)) (sym b) (kind_layer y))

    init_layer : (y : Init-F K I E) → let layer = map-Init K I E ExprKind Init Expr kind init expr y in
        MovedFilling (values.init_step (map-Init ExprKind Init Expr KindReading Filling Reading kind_reading filling reading layer))
        (filling (moved.init_step move (map-Init ExprKind Init Expr ExprKind Init Expr kind_moved (moved_init move) (moved_expr move) layer)))
    init_layer (Init-F.Value e) = record {
      at = λ s ty.
          subst (AreMoved move (check (of_expr e) s (need_like ty)).notes) (sym (equations.value_init (moved_of e) (moved_scope move s) ty)) (check_moves (of_expr e) (of_moved e) (expr_is e) s (need_like ty)).notes;
    }
    init_layer (Init-F.Items items span) = record {
      at = λ s ty.
          subst (AreMoved move (rules.list_mismatch (need_like ty) span ++ values.fillings (map filling (map init items)) s (element_in ty)))
          (sym (equations.items_init (map (moved_init move) (map init items)) (moved_span move span) (moved_scope move s) ty))
          (both (list_mismatches (need_like ty) span) (fillings_moves (map filling (map init items)) (map filling (map (moved_init move) (map init items))) (items_moves items) s (element_in ty)));
    }

    init_rolled : (y : Init-F K I E) → InitIs (roll-Init (map-Init K I E ExprKind Init Expr kind init expr y))
    init_rolled y =
        let layer = map-Init K I E ExprKind Init Expr kind init expr y in
        let a = fold-roll-Init KindReading Filling Reading values.kind_step values.init_step values.expr_step layer in
        let b = fold-roll-Init ExprKind Init Expr (moved.kind_step move) (moved.init_step move) (moved.expr_step move) layer in
        subst (λ (f : Filling). MovedFilling f (filling (moved_init move (roll-Init layer)))) (sym a)
        (subst (λ (i : Init). MovedFilling (values.init_step (map-Init ExprKind Init Expr KindReading Filling Reading kind_reading filling reading layer)) (filling i)) (sym b) (init_layer y))

    expr_rolled : ((k : K) → KindIs (kind k)) → (y : Expr-F K I E) → ExprIs (roll-Expr (map-Expr K I E ExprKind Init Expr kind init expr y))
    expr_rolled kind_is y =
        let layer = map-Expr K I E ExprKind Init Expr kind init expr y in
        let a = fold-roll-Expr KindReading Filling Reading values.kind_step values.init_step values.expr_step layer in
        let b = fold-roll-Expr ExprKind Init Expr (moved.kind_step move) (moved.init_step move) (moved.expr_step move) layer in
        let k = kind_is y.kind in
        let here : Reading = values.expr_step (record { kind = kind_reading (kind y.kind); span = y.span }) in
        let there : Reading = values.expr_step (record { kind = kind_reading (kind_moved (kind y.kind)); span = moved_span move y.span }) in
        let inner : MovedReading here there = record {
          span = refl;
          is_null = k.is_null;
          is_this = k.is_this;
          judge = λ s. typed_moves y.span _ _ (k.judge s y.span);
          assigned = λ s. typed_moves y.span _ _ (k.assigned s y.span);
          receiver = λ s. k.receiver s y.span;
        } in
        subst (λ (r : Reading). MovedReading r (reading (moved_expr move (roll-Expr layer)))) (sym a)
        (subst (λ (e : Expr). MovedReading here (reading e)) (sym b) (subst (MovedReading here) (sym (equations.expr_is (kind_moved (kind y.kind)) (moved_span move y.span))) inner))

  pub expression_moves : (e : Expr) → MovedReading (reading e) (reading (moved_expr move e))
  expression_moves = ind-Expr KindIs InitIs ExprIs
      (λ x y e. subst (λ layer. KindIs (roll-ExprKind layer)) e (kind_rolled (λ k. k.0) (λ i. i.0) (λ x. x.0) (λ i. i.1) (λ x. x.1) y))
      (λ x y e. subst (λ layer. InitIs (roll-Init layer)) e (init_rolled (λ k. k.0) (λ i. i.0) (λ x. x.0) (λ i. i.1) (λ x. x.1) y))
      (λ x y e. subst (λ layer. ExprIs (roll-Expr layer)) e (expr_rolled (λ k. k.0) (λ i. i.0) (λ x. x.0) (λ i. i.1) (λ x. x.1) (λ k. k.1) y))

  pub initialiser_moves : (i : Init) → MovedFilling (filling i) (filling (moved_init move i))
  initialiser_moves = ind-Init KindIs InitIs ExprIs
      (λ x y e. subst (λ layer. KindIs (roll-ExprKind layer)) e (kind_rolled (λ k. k.0) (λ i. i.0) (λ x. x.0) (λ i. i.1) (λ x. x.1) y))
      (λ x y e. subst (λ layer. InitIs (roll-Init layer)) e (init_rolled (λ k. k.0) (λ i. i.0) (λ x. x.0) (λ i. i.1) (λ x. x.1) y))
      (λ x y e. subst (λ layer. ExprIs (roll-Expr layer)) e (expr_rolled (λ k. k.0) (λ i. i.0) (λ x. x.0) (λ i. i.1) (λ x. x.1) (λ k. k.1) y))
