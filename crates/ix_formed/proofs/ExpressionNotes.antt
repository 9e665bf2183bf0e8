-- The notes of an expression weigh no more than its parts.
use Rattle.std.proofs.Common.{◌≡◌, ◌≤◌, ℕ, ◌+◌, Bool, true, false, List, [], ◌∷◌, ◌++◌, map, length, drop, Option, Some, None, refl, sym, subst, arith}
use Rattle.std.specs.Prelude.{if◌then◌else◌, codes, bytes_eq, not, ◌&&◌, is_some}
use Rattle.ix_text.specs.declared.span.Span.{Span}
use Rattle.ix_core.specs.declared.claim.Base.TheVariants as base
use Rattle.ix_core.specs.declared.claim.Claim.{Claim}
use Rattle.ix_core.specs.declared.claim.Type_.{Type_}
use Rattle.ix_core.specs.declared.claim.Type_.TheVariants as type
use Rattle.ix_tree.specs.declared.annot.Annot.{Annot}
use Rattle.ix_tree.specs.declared.annot.BaseTree.{BaseTree}
use Rattle.ix_tree.specs.declared.annot.BaseTree.TheVariants as tree
use Rattle.ix_tree.specs.declared.annot.Ident.{Ident}
use Rattle.ix_tree.specs.declared.annot.TypeTree.{TypeTree}
use Rattle.ix_tree.specs.declared.expr.BinaryOp.{BinaryOp}
use Rattle.ix_tree.specs.declared.expr.BinaryOp.TheVariants as binary
use Rattle.ix_tree.specs.declared.expr.UnaryOp.{UnaryOp}
use Rattle.ix_tree.specs.declared.expr.UnaryOp.TheVariants as operator
use Rattle.ix_tree.specs.declared.expr.Expr.{Expr, Expr-F, ind-Expr, map-Expr, roll-Expr, fold-roll-Expr}
use Rattle.ix_tree.specs.declared.expr.ExprKind.{ExprKind, ExprKind-F, map-ExprKind, roll-ExprKind, fold-ExprKind, fold-roll-ExprKind}
use Rattle.ix_tree.specs.declared.expr.Init.{Init, Init-F, ind-Init, map-Init, roll-Init, fold-roll-Init}
use Rattle.ix_tree.specs.Parts as parts
use Rattle.ix_tree.specs.Parts.{Part, expression, elsewhere, in_type, together, listed, type_parts, base_parts, expr_parts, init_parts}
use Rattle.ix_annot.specs.Named.{Names}
use Rattle.ix_annot.specs.declared.scope.Claims.{Claims}
use Rattle.ix_annot.specs.declared.scope.AnnotError.{AnnotError}
use Rattle.ix_annot.specs.Expansion.{expanded}
use Rattle.std.specs.Prelude.{Result, Ok, Err}
use Rattle.ix_meaning.specs.declared.members.Field.{Field}
use Rattle.ix_meaning.specs.declared.note.Meaning.{Meaning}
use Rattle.ix_meaning.specs.declared.note.Meaning.TheVariants.{MethodNamed, ClassNamed, LengthOf}
use Rattle.ix_meaning.specs.declared.note.Note.{Note}
use Rattle.ix_meaning.specs.declared.note.Note.TheVariants.{Use}
use Rattle.ix_meaning.specs.declared.note.Rule.{Rule}
use Rattle.ix_meaning.specs.declared.note.Rule.TheVariants as rule
use Rattle.ix_meaning.specs.Annotated.{rule_of, given, errors_from, names_nothing, written, based, class_use}
use Rattle.ix_meaning.specs.Members.{World, Callee, field_named, method_named, constructor_params}
use Rattle.ix_meaning.specs.Rules as rules
use Rattle.ix_meaning.specs.Scope.{Scope, Known, meant, is_pending}
use Rattle.ix_meaning.specs.Types.{int, boolean, Need, unknown, never, printed, of, need_like, is_reference, element, element_in, Judged, judged, type_note, typed, wrong, wrong_if}
use Rattle.ix_meaning.specs.Values as values
use Rattle.ix_meaning.specs.Values.{Reading, KindReading, Filling, Object, no_object, of_class, value, reading, kind_reading, filling, check, null_at, fitted, as_object, valued, valued_and_assigned}
use Rattle.ix_formed.specs.Weights.{total, IsWeighed}

pub total_append : {A : Type 0} (weight : A → ℕ) (xs ys : List A) → total weight (xs ++ ys) ≡ total weight xs + total weight ys
total_append weight [] ys = omega arith
total_append weight (x ∷ xs) ys = let e = total_append weight xs ys in omega (arith, e)

module _ (note : Note → ℕ) (part : Part → ℕ) (weighed : IsWeighed note part) where
  abbrev pub notes_weigh : List Note → ℕ
  notes_weigh ns = total note ns

  abbrev pub parts_weigh : List Part → ℕ
  parts_weigh ps = total part ps

  pub both_notes : (xs ys : List Note) (n m : ℕ) → notes_weigh xs ≤ n → notes_weigh ys ≤ m → notes_weigh (xs ++ ys) ≤ n + m
  both_notes xs ys n m a b = let e = total_append note xs ys in omega (arith, a, b, e)

  pub broken_weighs : (b : Bool) (r : Rule) (span : Span) → notes_weigh (wrong_if b r span) ≤ 0
  broken_weighs true r span = let e = weighed.wrong (record { rule = r; span = span }) in omega (arith, e)
  broken_weighs false r span = omega arith

  pub wrong_weighs : (r : Rule) (span : Span) → notes_weigh (wrong r span) ≤ 0
  wrong_weighs r span = let e = weighed.wrong (record { rule = r; span = span }) in omega (arith, e)

  pub type_weighs : (ty : Option Type_) (span : Span) → notes_weigh (type_note ty span) ≤ part (expression span)
  type_weighs None span = omega arith
  type_weighs (Some ty) span = let e = weighed.typed span ty in omega (arith, e)

  -- ---- rules

  mismatch_weighs : (w : World) (need : Need) (ty : Option Type_) (span : Span) → notes_weigh (rules.type_mismatch w need ty span) ≤ 0
  mismatch_weighs w need None span = omega arith
  mismatch_weighs w need (Some ty) span = broken_weighs (not (rules.has_fitting_type w need ty)) rule.TypeMismatch span

  null_mismatch_weighs : (need : Need) (span : Span) → notes_weigh (rules.null_mismatch need span) ≤ 0
  null_mismatch_weighs unknown span = omega arith
  null_mismatch_weighs (of need) span = broken_weighs (not (is_reference need)) rule.TypeMismatch span
  null_mismatch_weighs never span = wrong_weighs rule.TypeMismatch span
  null_mismatch_weighs printed span = wrong_weighs rule.TypeMismatch span

  list_mismatch_weighs : (need : Need) (span : Span) → notes_weigh (rules.list_mismatch need span) ≤ 0
  list_mismatch_weighs unknown span = omega arith
  list_mismatch_weighs (of need) span = broken_weighs (not (is_some (element need))) rule.TypeMismatch span
  list_mismatch_weighs never span = omega arith
  list_mismatch_weighs printed span = omega arith

  compare_weighs : (w : World) (ty other : Option Type_) (span : Span) → notes_weigh (rules.cannot_compare w ty other span) ≤ 0
  compare_weighs w None other span = omega arith
  compare_weighs w (Some ty) None span = omega arith
  compare_weighs w (Some ty) (Some other) span = broken_weighs _ rule.TypeMismatch span

  use_weighs : (m : Option Meaning) (name : Ident) → notes_weigh (rules.use_of m name.span) ≤ part (elsewhere name)
  use_weighs None name = omega arith
  use_weighs (Some m) name = let e = weighed.used name m in omega (arith, e)

  -- ---- types

  errors_weigh : (r : Result Claims AnnotError) (span : Span) → notes_weigh (errors_from r span) ≤ 0
  errors_weigh (Ok claims) span = omega arith
  errors_weigh (Err error) span = let e = weighed.wrong_annot (record { rule = rule_of error; span = span }) in omega (arith, e)

  pub given_weigh : (names : Names) (annots : List Annot) → notes_weigh (given names annots).notes ≤ 0
  given_weigh names [] = omega arith
  given_weigh names (annot ∷ annots) =
      both_notes (errors_from (expanded annot names) annot.span) (given names annots).notes 0 0 (errors_weigh (expanded annot names) annot.span) (given_weigh names annots)

  class_weighs : (class : Option ℕ) (depth : ℕ) (claims : List Claim) (name : Ident) → notes_weigh (class_use class depth claims name.span).notes ≤ part (in_type name)
  class_weighs None depth claims name = let e = wrong_weighs rule.UnknownName name.span in omega (arith, e)
  class_weighs (Some class) depth claims name = let e = weighed.used_in_type name (ClassNamed class) in omega (arith, e)

  base_weighs : (class : List ℕ → Option ℕ) (of : BaseTree) (depth : ℕ) (claims : List Claim) → notes_weigh (based class of depth claims).notes ≤ parts_weigh (base_parts of)
  base_weighs class tree.Int depth claims = omega arith
  base_weighs class tree.Boolean depth claims = omega arith
  base_weighs class (tree.Named name) depth claims = let e = class_weighs (class name.text) depth claims name in omega (arith, e)

  pub written_weighs : (class : List ℕ → Option ℕ) (ty : TypeTree) (claims : List Claim) → notes_weigh (written class ty claims).notes ≤ parts_weigh (type_parts ty)
  written_weighs class ty claims =
      let e = base_weighs class ty.base ty.depth claims in let a = total_append part (base_parts ty.base) (listed (parts.each parts.annot_parts ty.annots)) in omega (arith, e, a)

  created_weighs : (s : Scope) (ty : TypeTree) → notes_weigh (values.created s ty).notes ≤ parts_weigh (type_parts ty)
  created_weighs s ty =
      let a = both_notes (written s.world.class ty []).notes (given (names_nothing (values.created_target ty)) ty.annots).notes (parts_weigh (type_parts ty)) 0
      (written_weighs s.world.class ty []) (given_weigh (names_nothing (values.created_target ty)) ty.annots) in omega (arith, a)

  -- ---- expressions

  -- An expression's notes weigh so much at most, at each place.
  pub record Weighs (r : Reading) (n : ℕ) : Type 0 where
    pub here : part (expression r.span) ≤ n
    pub judge : (s : Scope) → notes_weigh (r.judge s).notes ≤ n
    pub assigned : (s : Scope) → notes_weigh (r.assigned s).notes ≤ n
    pub receiver : (s : Scope) → notes_weigh (r.receiver s).notes ≤ n

  pub record KindWeighs (k : KindReading) (n : ℕ) : Type 0 where
    pub judge : (s : Scope) (span : Span) → notes_weigh (k.judge s span).notes ≤ n
    pub assigned : (s : Scope) (span : Span) → notes_weigh (k.assigned s span).notes ≤ n
    pub receiver : (s : Scope) (span : Span) → notes_weigh (k.receiver s span).notes ≤ part (expression span) + n

  pub check_weighs : (r : Reading) (n : ℕ) → Weighs r n → (s : Scope) (need : Need) → notes_weigh (check r s need).notes ≤ n
  check_weighs r n w s need = null_or_not r.is_null
    where
      null_or_not : (b : Bool) → notes_weigh (if b then null_at need r.span else fitted s.world need r.span (r.judge s)).notes ≤ n
      null_or_not true =
          let a = both_notes (rules.null_mismatch need r.span) (type_note (values.null_type need) r.span) 0 (part (expression r.span)) (null_mismatch_weighs need r.span) (type_weighs (values.null_type need) r.span) in
          let h = w.here in omega (arith, a, h)
      null_or_not false =
          let a = both_notes (r.judge s).notes (rules.type_mismatch s.world need (r.judge s).ty r.span) n 0 (w.judge s) (mismatch_weighs s.world need (r.judge s).ty r.span) in omega (arith, a)

  object_weighs : (ty : Option Type_) (span : Span) → notes_weigh (values.object_notes ty span) ≤ part (expression span)
  object_weighs ty span =
      let a = both_notes (type_note ty span) (values.no_reference ty span) (part (expression span)) 0 (type_weighs ty span) (no_reference_weighs ty) in omega (arith, a)
    where
      no_reference_weighs : (ty : Option Type_) → notes_weigh (values.no_reference ty span) ≤ 0
      no_reference_weighs None = omega arith
      no_reference_weighs (Some ty) = broken_weighs (not (is_reference ty)) rule.TypeMismatch span

  as_object_weighs : (j : Judged) (span : Span) (n : ℕ) → notes_weigh j.notes ≤ n → notes_weigh (as_object j span).notes ≤ part (expression span) + n
  as_object_weighs j span n le = let a = both_notes j.notes (values.object_notes j.ty span) n (part (expression span)) le (object_weighs j.ty span) in omega (arith, a)

  both_weigh : (judge assigned : Scope → Span → Judged) (n : ℕ) → ((s : Scope) (span : Span) → notes_weigh (judge s span).notes ≤ n) → ((s : Scope) (span : Span) → notes_weigh (assigned s span).notes ≤ n)
      → KindWeighs (valued_and_assigned judge assigned) n
  both_weigh judge assigned n a b = record { judge = a; assigned = b; receiver = λ s span. as_object_weighs (judge s span) span n (a s span) }

  valued_weighs : (judge : Scope → Span → Judged) (n : ℕ) → ((s : Scope) (span : Span) → notes_weigh (judge s span).notes ≤ n) → KindWeighs (valued judge) n
  valued_weighs judge n a = both_weigh judge judge n a a

  -- ---- names

  field_use_weighs : (s : Scope) (assigned through_this : Bool) (name : Ident) (f : Field) → notes_weigh (values.field_use s assigned through_this name.span f) ≤ part (elsewhere name)
  field_use_weighs s assigned through_this name f =
      let a = both_notes (rules.use_of f.meaning name.span) (rules.final_assigned s.in_constructor s.class assigned through_this f name.span) (part (elsewhere name)) 0
      (use_weighs f.meaning name) (broken_weighs _ rule.FinalAssigned name.span) in omega (arith, a)

  bare_weighs : (s : Scope) (assigned : Bool) (name : Ident) (f : Option Field) → notes_weigh (values.bare_field s assigned name.span f).notes ≤ part (elsewhere name)
  bare_weighs s assigned name None = let e = wrong_weighs rule.UnknownName name.span in omega (arith, e)
  bare_weighs s assigned name (Some f) =
      let a = both_notes (rules.not_static s f.is_static name.span) (values.field_use s assigned true name.span f) 0 (part (elsewhere name)) (broken_weighs _ rule.NotStatic name.span) (field_use_weighs s assigned true name f) in omega (arith, a)

  known_weighs : (s : Scope) (assigned : Bool) (name : Ident) (k : Option Known) → notes_weigh (values.known_or s assigned name k).notes ≤ part (elsewhere name)
  known_weighs s assigned name None = bare_weighs s assigned name (field_named s.world s.class name.text)
  known_weighs s assigned name (Some k) = let a = weighed.used name k.meaning in let b = broken_weighs (assigned && k.is_fixed) rule.FinalAssigned name.span in omega (arith, a, b)

  variable_weighs : (s : Scope) (assigned : Bool) (name : Ident) → notes_weigh (values.variable s assigned name).notes ≤ part (elsewhere name)
  variable_weighs s assigned name = pending_or_not (is_pending s.pending name.text)
    where
      pending_or_not : (b : Bool) → notes_weigh (if b then judged None (rules.unknown_name name.span) else values.known_or s assigned name (meant name.text s.names)).notes ≤ part (elsewhere name)
      pending_or_not true = let e = wrong_weighs rule.UnknownName name.span in omega (arith, e)
      pending_or_not false = known_weighs s assigned name (meant name.text s.names)

  before_dot_weighs : (s : Scope) (name : Ident) (span : Span) → notes_weigh (values.name_before_dot s name span).notes ≤ part (expression span) + part (elsewhere name)
  before_dot_weighs s name span = variable_or_not (values.is_variable s name.text)
    where
      class_or_weighs : (c : Option ℕ) → notes_weigh (values.class_or s name span c).notes ≤ part (expression span) + part (elsewhere name)
      class_or_weighs (Some c) = let e = weighed.used name (ClassNamed c) in omega (arith, e)
      class_or_weighs None = as_object_weighs (values.variable s false name) span (part (elsewhere name)) (variable_weighs s false name)

      variable_or_not : (b : Bool) → notes_weigh (if b then as_object (values.variable s false name) span else values.class_or s name span (s.world.class name.text)).notes ≤ part (expression span) + part (elsewhere name)
      variable_or_not true = as_object_weighs (values.variable s false name) span (part (elsewhere name)) (variable_weighs s false name)
      variable_or_not false = class_or_weighs (s.world.class name.text)

  -- ---- selections

  instance_weighs : (s : Scope) (assigned through_this : Bool) (name : Ident) (f : Option Field) → notes_weigh (values.instance_field s assigned through_this name f).notes ≤ part (elsewhere name)
  instance_weighs s assigned through_this name None = let e = wrong_weighs rule.UnknownName name.span in omega (arith, e)
  instance_weighs s assigned through_this name (Some f) = field_use_weighs s assigned through_this name f

  class_field_weighs : (s : Scope) (assigned : Bool) (name : Ident) (f : Option Field) → notes_weigh (values.class_field s assigned name f).notes ≤ part (elsewhere name)
  class_field_weighs s assigned name None = let e = wrong_weighs rule.UnknownName name.span in omega (arith, e)
  class_field_weighs s assigned name (Some f) =
      let a = both_notes (rules.not_static_in_class f.is_static name.span) (values.field_use s assigned false name.span f) 0 (part (elsewhere name)) (broken_weighs _ rule.NotStatic name.span) (field_use_weighs s assigned false name f) in omega (arith, a)

  length_weighs : (assigned : Bool) (name : Ident) → notes_weigh (values.array_length assigned name).notes ≤ part (elsewhere name)
  length_weighs assigned name = named_or_not (bytes_eq name.text (codes "length"))
    where
      named_or_not : (b : Bool) → notes_weigh (if b then judged (Some int) (Use name.span LengthOf ∷ rules.not_assignable assigned name.span) else judged None (rules.unknown_name name.span)).notes ≤ part (elsewhere name)
      named_or_not true = let a = weighed.used name LengthOf in let b = broken_weighs assigned rule.NotAssignable name.span in omega (arith, a, b)
      named_or_not false = let e = wrong_weighs rule.UnknownName name.span in omega (arith, e)

  selected_weighs : (s : Scope) (assigned through_this : Bool) (name : Ident) (o : Object) → notes_weigh (values.selected s assigned through_this name o).notes ≤ part (elsewhere name)
  selected_weighs s assigned through_this name no_object = omega arith
  selected_weighs s assigned through_this name (of_class c) = class_field_weighs s assigned name (field_named s.world c name.text)
  selected_weighs s assigned through_this name (value (type.Plain (base.Class c))) = instance_weighs s assigned through_this name (field_named s.world c name.text)
  selected_weighs s assigned through_this name (value other) = length_weighs assigned name

  selection_weighs : (object : Reading) (n : ℕ) → Weighs object n → (name : Ident) (assigned : Bool) (s : Scope) → notes_weigh (values.selection object name assigned s).notes ≤ n + part (elsewhere name)
  selection_weighs object n w name assigned s =
      both_notes (object.receiver s).notes (values.selected s assigned object.is_this name (object.receiver s).object).notes n (part (elsewhere name)) (w.receiver s)
      (selected_weighs s assigned object.is_this name (object.receiver s).object)

  -- ---- calls

  -- each of these weighs its number
  abbrev pub AllWeigh : List Reading → List ℕ → Type 0
  AllWeigh [] [] = Unit {0}
  AllWeigh (r ∷ rs) (n ∷ ns) = Weighs r n × AllWeigh rs ns
  AllWeigh _ _ = ⊥

  abbrev pub sum : List ℕ → ℕ
  sum [] = 0
  sum (n ∷ ns) = n + sum ns

  pub arguments_weigh : (s : Scope) (rs : List Reading) (ns : List ℕ) → AllWeigh rs ns → (ts : List (Option Type_)) → notes_weigh (values.arguments s rs ts) ≤ sum ns
  arguments_weigh s [] [] all ts = omega arith
  arguments_weigh s [] (n ∷ ns) all ts = absurd all
  arguments_weigh s (r ∷ rs) [] all ts = absurd all
  arguments_weigh s (r ∷ rs) (n ∷ ns) all ts =
      both_notes (check r s (values.first_need ts)).notes (values.arguments s rs (drop 1 ts)) n (sum ns) (check_weighs r n all.0 s (values.first_need ts)) (arguments_weigh s rs ns all.1 (drop 1 ts))

  pub given_to_weigh : (s : Scope) (rs : List Reading) (ns : List ℕ) → AllWeigh rs ns → (ts : List (Option Type_)) (span : Span) → notes_weigh (values.given_to s rs ts span) ≤ sum ns
  given_to_weigh s rs ns all ts span =
      let a = both_notes (rules.wrong_arguments (length rs) (length ts) span) (values.arguments s rs ts) 0 (sum ns) (broken_weighs _ rule.WrongArguments span) (arguments_weigh s rs ns all ts) in omega (arith, a)

  called_weighs : (s : Scope) (name : Ident) (rs : List Reading) (ns : List ℕ) → AllWeigh rs ns → (m : Callee) → notes_weigh (values.called s name.span rs m).notes ≤ part (elsewhere name) + sum ns
  called_weighs s name rs ns all m = let a = weighed.used name (MethodNamed m.number) in let b = given_to_weigh s rs ns all m.signature.params name.span in omega (arith, a, b)

  unknown_call_weighs : (s : Scope) (name : Ident) (rs : List Reading) (ns : List ℕ) → AllWeigh rs ns → notes_weigh (values.unknown_call s name.span rs).notes ≤ part (elsewhere name) + sum ns
  unknown_call_weighs s name rs ns all =
      let a = both_notes (rules.unknown_name name.span) (values.arguments s rs []) 0 (sum ns) (wrong_weighs rule.UnknownName name.span) (arguments_weigh s rs ns all []) in omega (arith, a)

  bare_call_weighs : (s : Scope) (name : Ident) (rs : List Reading) (ns : List ℕ) → AllWeigh rs ns → (m : Option Callee) → notes_weigh (values.bare_call s name rs m).notes ≤ part (elsewhere name) + sum ns
  bare_call_weighs s name rs ns all None = unknown_call_weighs s name rs ns all
  bare_call_weighs s name rs ns all (Some m) =
      let a = both_notes (rules.not_static s m.signature.is_static name.span) (values.called s name.span rs m).notes 0 (part (elsewhere name) + sum ns) (broken_weighs _ rule.NotStatic name.span) (called_weighs s name rs ns all m) in omega (arith, a)

  instance_call_weighs : (s : Scope) (name : Ident) (rs : List Reading) (ns : List ℕ) → AllWeigh rs ns → (m : Option Callee) → notes_weigh (values.instance_call s name rs m).notes ≤ part (elsewhere name) + sum ns
  instance_call_weighs s name rs ns all None = unknown_call_weighs s name rs ns all
  instance_call_weighs s name rs ns all (Some m) = called_weighs s name rs ns all m

  class_call_weighs : (s : Scope) (name : Ident) (rs : List Reading) (ns : List ℕ) → AllWeigh rs ns → (m : Option Callee) → notes_weigh (values.class_call s name rs m).notes ≤ part (elsewhere name) + sum ns
  class_call_weighs s name rs ns all None = unknown_call_weighs s name rs ns all
  class_call_weighs s name rs ns all (Some m) =
      let a = both_notes (rules.not_static_in_class m.signature.is_static name.span) (values.called s name.span rs m).notes 0 (part (elsewhere name) + sum ns) (broken_weighs _ rule.NotStatic name.span) (called_weighs s name rs ns all m) in omega (arith, a)

  call_on_weighs : (s : Scope) (name : Ident) (rs : List Reading) (ns : List ℕ) → AllWeigh rs ns → (o : Object) → notes_weigh (values.call_on s name rs o).notes ≤ part (elsewhere name) + sum ns
  call_on_weighs s name rs ns all no_object = let a = arguments_weigh s rs ns all [] in omega (arith, a)
  call_on_weighs s name rs ns all (of_class c) = class_call_weighs s name rs ns all (method_named s.world c name.text)
  call_on_weighs s name rs ns all (value (type.Plain (base.Class c))) = instance_call_weighs s name rs ns all (method_named s.world c name.text)
  call_on_weighs s name rs ns all (value other) = unknown_call_weighs s name rs ns all

  creation_weighs : (s : Scope) (name : Ident) (rs : List Reading) (ns : List ℕ) → AllWeigh rs ns → (c : Option ℕ) → notes_weigh (values.creation s name rs c).notes ≤ part (elsewhere name) + sum ns
  creation_weighs s name rs ns all None = unknown_call_weighs s name rs ns all
  creation_weighs s name rs ns all (Some c) = let a = weighed.used name (ClassNamed c) in let b = given_to_weigh s rs ns all (constructor_params s.world c) name.span in omega (arith, a, b)

  -- ---- arrays

  abbrev pub FillingWeighs : Filling → ℕ → Type 0
  FillingWeighs f n = (s : Scope) (ty : Option Type_) → notes_weigh (f s ty) ≤ n

  abbrev pub AllFill : List Filling → List ℕ → Type 0
  AllFill [] [] = Unit {0}
  AllFill (f ∷ fs) (n ∷ ns) = FillingWeighs f n × AllFill fs ns
  AllFill _ _ = ⊥

  fillings_weigh : (fs : List Filling) (ns : List ℕ) → AllFill fs ns → (s : Scope) (ty : Option Type_) → notes_weigh (values.fillings fs s ty) ≤ sum ns
  fillings_weigh [] [] all s ty = omega arith
  fillings_weigh [] (n ∷ ns) all s ty = absurd all
  fillings_weigh (f ∷ fs) [] all s ty = absurd all
  fillings_weigh (f ∷ fs) (n ∷ ns) all s ty = both_notes (f s ty) (values.fillings fs s ty) n (sum ns) (all.0 s ty) (fillings_weigh fs ns all.1 s ty)

  access_weighs : (array index : Reading) (n m : ℕ) → Weighs array n → Weighs index m → (s : Scope) → notes_weigh (values.access array index s).notes ≤ n + m
  access_weighs array index n m a b s =
      both_notes (values.array_part array s).notes (check index s (of int)).notes n m (null_or_not array.is_null) (check_weighs index m b s (of int))
    where
      no_array_weighs : (ty : Option Type_) → notes_weigh (values.no_array ty array.span) ≤ 0
      no_array_weighs None = omega arith
      no_array_weighs (Some ty) = broken_weighs (not (is_some (element ty))) rule.TypeMismatch array.span

      null_or_not : (b : Bool) → notes_weigh (if b then judged None (wrong rule.TypeMismatch array.span) else judged (element_in (array.judge s).ty) ((array.judge s).notes ++ values.no_array (array.judge s).ty array.span)).notes ≤ n
      null_or_not true = let e = wrong_weighs rule.TypeMismatch array.span in omega (arith, e)
      null_or_not false = let e = both_notes (array.judge s).notes (values.no_array (array.judge s).ty array.span) n 0 (a.judge s) (no_array_weighs (array.judge s).ty) in omega (arith, e)

  -- ---- operators

  two_weigh : (a b : Reading) (n m : ℕ) → Weighs a n → Weighs b m → (s : Scope) (need : Need) (ty : Type_) → notes_weigh (values.both a b s need ty).notes ≤ n + m
  two_weigh a b n m x y s need ty = both_notes (check a s need).notes (check b s need).notes n m (check_weighs a n x s need) (check_weighs b m y s need)

  equality_weighs : (a b : Reading) (n m : ℕ) → Weighs a n → Weighs b m → (s : Scope) (span : Span) → notes_weigh (values.equality a b s span).notes ≤ n + m
  equality_weighs a b n m x y s span = by_nulls a.is_null b.is_null
    where
      null_weighs : (r : Reading) (k : ℕ) → Weighs r k → (need : Need) → notes_weigh (null_at need r.span).notes ≤ k
      null_weighs r k w need =
          let a = both_notes (rules.null_mismatch need r.span) (type_note (values.null_type need) r.span) 0 (part (expression r.span)) (null_mismatch_weighs need r.span) (type_weighs (values.null_type need) r.span) in
          let h = w.here in omega (arith, a, h)

      by_nulls : (p q : Bool) → notes_weigh
          ((if p then judged None [] else a.judge s).notes ++ ((if q then judged None [] else b.judge s).notes
          ++ (if p then (if q then wrong rule.TypeMismatch a.span ++ wrong rule.TypeMismatch b.span else (null_at (need_like (if q then judged None [] else b.judge s).ty) a.span).notes)
          else (if q then (null_at (need_like (if p then judged None [] else a.judge s).ty) b.span).notes
          else rules.cannot_compare s.world (if p then judged None [] else a.judge s).ty (if q then judged None [] else b.judge s).ty span)))) ≤ n + m
      by_nulls true true = let u = both_notes (wrong rule.TypeMismatch a.span) (wrong rule.TypeMismatch b.span) 0 0 (wrong_weighs rule.TypeMismatch a.span) (wrong_weighs rule.TypeMismatch b.span) in omega (arith, u)
      by_nulls true false = let u = both_notes (b.judge s).notes (null_at (need_like (b.judge s).ty) a.span).notes m n (y.judge s) (null_weighs a n x (need_like (b.judge s).ty)) in omega (arith, u)
      by_nulls false true = both_notes (a.judge s).notes (null_at (need_like (a.judge s).ty) b.span).notes n m (x.judge s) (null_weighs b m y (need_like (a.judge s).ty))
      by_nulls false false =
          let u = both_notes (b.judge s).notes (rules.cannot_compare s.world (a.judge s).ty (b.judge s).ty span) m 0 (y.judge s) (compare_weighs s.world (a.judge s).ty (b.judge s).ty span) in
          let v = both_notes (a.judge s).notes ((b.judge s).notes ++ rules.cannot_compare s.world (a.judge s).ty (b.judge s).ty span) n (m + 0) (x.judge s) u in omega (arith, v)

  binary_weighs : (op : BinaryOp) (a b : Reading) (n m : ℕ) → Weighs a n → Weighs b m → (s : Scope) (span : Span) → notes_weigh (values.binary op a b s span).notes ≤ n + m
  binary_weighs (binary.Num op) a b n m x y s span = two_weigh a b n m x y s (of int) int
  binary_weighs (binary.Compare r) a b n m x y s span = equal_or_not (values.is_equality r)
    where
      equal_or_not : (c : Bool) → notes_weigh (if c then values.equality a b s span else values.both a b s (of int) boolean).notes ≤ n + m
      equal_or_not true = equality_weighs a b n m x y s span
      equal_or_not false = two_weigh a b n m x y s (of int) boolean
  binary_weighs binary.AndAlso a b n m x y s span = two_weigh a b n m x y s (of boolean) boolean
  binary_weighs binary.OrElse a b n m x y s span = two_weigh a b n m x y s (of boolean) boolean

  unary_weighs : (op : UnaryOp) (a : Reading) (n : ℕ) → Weighs a n → (s : Scope) → notes_weigh (values.unary op a s).notes ≤ n
  unary_weighs operator.Not a n x s = check_weighs a n x s (of boolean)
  unary_weighs other a n x s = check_weighs a n x s (of int)

  -- ---- assignments

  assignment_weighs : (target source : Reading) (n m : ℕ) → Weighs target n → Weighs source m → (s : Scope) → notes_weigh (values.assignment target source s).notes ≤ n + m
  assignment_weighs target source n m a b s =
      both_notes (target.assigned s).notes (check source s (need_like (target.assigned s).ty)).notes n m (a.assigned s) (check_weighs source m b s (need_like (target.assigned s).ty))

  counted_weighs : (target : Reading) (n : ℕ) → Weighs target n → (s : Scope) → notes_weigh (values.counted_target target s).notes ≤ n
  counted_weighs target n a s =
      let e = both_notes (target.assigned s).notes (rules.type_mismatch s.world (of int) (target.assigned s).ty target.span) n 0 (a.assigned s)
      (mismatch_weighs s.world (of int) (target.assigned s).ty target.span) in omega (arith, e)

  computed_weighs : (target source : Reading) (n m : ℕ) → Weighs target n → Weighs source m → (s : Scope) → notes_weigh (values.computed target source s).notes ≤ n + m
  computed_weighs target source n m a b s =
      both_notes (values.counted_target target s).notes (check source s (of int)).notes n m (counted_weighs target n a s) (check_weighs source m b s (of int))

  -- ---- all forms

  abbrev kind_parts : ExprKind → List Part
  kind_parts = fold-ExprKind (List Part) (List Part) (List Part) parts.kind_step parts.init_step parts.expr_step

  abbrev KindIs : ExprKind → Type 0
  KindIs k = KindWeighs (kind_reading k) (parts_weigh (kind_parts k))

  abbrev InitIs : Init → Type 0
  InitIs i = FillingWeighs (filling i) (parts_weigh (init_parts i))

  abbrev ExprIs : Expr → Type 0
  ExprIs e = Weighs (reading e) (parts_weigh (expr_parts e))

  kind_as : (k : KindReading) (n m : ℕ) → n ≤ m → KindWeighs k n → KindWeighs k m
  kind_as k n m le w = record {
    judge = λ s span. let a = w.judge s span in omega (arith, a, le);
    assigned = λ s span. let a = w.assigned s span in omega (arith, a, le);
    receiver = λ s span. let a = w.receiver s span in omega (arith, a, le);
  }

  module _ {K I E : Type 0} (kind : K → ExprKind) (init : I → Init) (expr : E → Expr) (init_is : (i : I) → InitIs (init i)) (expr_is : (e : E) → ExprIs (expr e)) where
    all_weigh : (es : List E) → AllWeigh (map reading (map expr es)) (map (λ e. parts_weigh (expr_parts (expr e))) es)
    all_weigh [] = tt
    all_weigh (e ∷ es) = (expr_is e, all_weigh es)

    all_fill : (is : List I) → AllFill (map filling (map init is)) (map (λ i. parts_weigh (init_parts (init i))) is)
    all_fill [] = tt
    all_fill (i ∷ is) = (init_is i, all_fill is)

    args_sum : (es : List E) → sum (map (λ e. parts_weigh (expr_parts (expr e))) es) ≤ parts_weigh (listed (map expr_parts (map expr es)))
    args_sum es = let e = together_sum es in omega (arith, e)
      where
        together_sum : (es : List E) → sum (map (λ e. parts_weigh (expr_parts (expr e))) es) ≡ parts_weigh (together (map expr_parts (map expr es)))
        together_sum [] = refl
        together_sum (e ∷ es) = let a = together_sum es in let b = total_append part (expr_parts (expr e)) (together (map expr_parts (map expr es))) in omega (arith, a, b)

    items_sum : (is : List I) → sum (map (λ i. parts_weigh (init_parts (init i))) is) ≤ parts_weigh (listed (map init_parts (map init is)))
    items_sum is = let e = together_sum is in omega (arith, e)
      where
        together_sum : (is : List I) → sum (map (λ i. parts_weigh (init_parts (init i))) is) ≡ parts_weigh (together (map init_parts (map init is)))
        together_sum [] = refl
        together_sum (i ∷ is) = let a = together_sum is in let b = total_append part (init_parts (init i)) (together (map init_parts (map init is))) in omega (arith, a, b)

    kind_layer : (y : ExprKind-F K I E)
        → KindWeighs (values.kind_step (map-ExprKind ExprKind Init Expr KindReading Filling Reading kind_reading filling reading (map-ExprKind K I E ExprKind Init Expr kind init expr y)))
        (parts_weigh (parts.kind_step (map-ExprKind ExprKind Init Expr (List Part) (List Part) (List Part) kind_parts init_parts expr_parts (map-ExprKind K I E ExprKind Init Expr kind init expr y))))
    kind_layer (ExprKind-F.Int n) = valued_weighs _ 0 (λ s span. omega arith)
    kind_layer (ExprKind-F.Bool answer) = valued_weighs _ 0 (λ s span. omega arith)
    kind_layer ExprKind-F.Null = record {
      judge = λ s span. wrong_weighs rule.TypeMismatch span;
      assigned = λ s span. wrong_weighs rule.TypeMismatch span;
      receiver = λ s span. let e = wrong_weighs rule.TypeMismatch span in omega (arith, e);
    }
    kind_layer ExprKind-F.This = record {
      judge = λ s span. broken_weighs _ rule.NotStatic span;
      assigned = λ s span. broken_weighs _ rule.NotStatic span;
      receiver = λ s span. as_object_weighs (judged (Some (type.Plain (base.Class s.class))) (rules.not_static s false span)) span 0 (broken_weighs _ rule.NotStatic span);
    }
    kind_layer (ExprKind-F.Name name) = kind_as _ (part (elsewhere name)) _ (omega arith) (record {
      judge = λ s span. variable_weighs s false name;
      assigned = λ s span. variable_weighs s true name;
      receiver = λ s span. before_dot_weighs s name span;
    })
    kind_layer (ExprKind-F.Select object name) =
        let n = parts_weigh (expr_parts (expr object)) in
        let a = total_append part (expr_parts (expr object)) (elsewhere name ∷ []) in
        kind_as _ (n + part (elsewhere name)) _ (omega (arith, a))
        (both_weigh _ _ (n + part (elsewhere name)) (λ s span. selection_weighs (reading (expr object)) n (expr_is object) name false s) (λ s span. selection_weighs (reading (expr object)) n (expr_is object) name true s))
    kind_layer (ExprKind-F.Index array index) =
        let n = parts_weigh (expr_parts (expr array)) in let m = parts_weigh (expr_parts (expr index)) in
        let a = total_append part (expr_parts (expr array)) (expr_parts (expr index)) in
        kind_as _ (n + m) _ (omega (arith, a)) (valued_weighs _ (n + m) (λ s span. access_weighs (reading (expr array)) (reading (expr index)) n m (expr_is array) (expr_is index) s))
    kind_layer (ExprKind-F.Call None name args) =
        let ns = map (λ (e : E). parts_weigh (expr_parts (expr e))) args in
        let le = args_sum args in
        kind_as _ (part (elsewhere name) + sum ns) _ (omega (arith, le))
        (valued_weighs _ (part (elsewhere name) + sum ns) (λ s span. bare_call_weighs s name (map reading (map expr args)) ns (all_weigh args) (method_named s.world s.class name.text)))
    kind_layer (ExprKind-F.Call (Some object) name args) =
        let ns = map (λ (e : E). parts_weigh (expr_parts (expr e))) args in
        let le = args_sum args in
        let n = parts_weigh (expr_parts (expr object)) in
        let a = total_append part (expr_parts (expr object)) (elsewhere name ∷ listed (map expr_parts (map expr args))) in
        kind_as _ (n + (part (elsewhere name) + sum ns)) _ (omega (arith, le, a))
        (valued_weighs _ (n + (part (elsewhere name) + sum ns)) (λ s span.
        both_notes ((reading (expr object)).receiver s).notes (values.call_on s name (map reading (map expr args)) ((reading (expr object)).receiver s).object).notes n (part (elsewhere name) + sum ns)
        ((expr_is object).receiver s) (call_on_weighs s name (map reading (map expr args)) ns (all_weigh args) ((reading (expr object)).receiver s).object)))
    kind_layer (ExprKind-F.New name args) =
        let ns = map (λ (e : E). parts_weigh (expr_parts (expr e))) args in
        let le = args_sum args in
        kind_as _ (part (elsewhere name) + sum ns) _ (omega (arith, le))
        (valued_weighs _ (part (elsewhere name) + sum ns) (λ s span. creation_weighs s name (map reading (map expr args)) ns (all_weigh args) (s.world.class name.text)))
    kind_layer (ExprKind-F.NewArray ty size) =
        let n = parts_weigh (type_parts ty) in let m = parts_weigh (expr_parts (expr size)) in
        let a = total_append part (type_parts ty) (expr_parts (expr size)) in
        kind_as _ (n + m) _ (omega (arith, a)) (valued_weighs _ (n + m) (λ s span.
        both_notes (values.created s ty).notes (check (reading (expr size)) s (of int)).notes n m (created_weighs s ty) (check_weighs (reading (expr size)) m (expr_is size) s (of int))))
    kind_layer (ExprKind-F.NewItems ty items) =
        let n = parts_weigh (type_parts ty) in
        let ns = map (λ (i : I). parts_weigh (init_parts (init i))) items in
        let le = items_sum items in
        let a = total_append part (type_parts ty) (listed (map init_parts (map init items))) in
        kind_as _ (n + sum ns) _ (omega (arith, a, le)) (valued_weighs _ (n + sum ns) (λ s span.
        both_notes (values.created s ty).notes (values.fillings (map filling (map init items)) s (element_in (values.created s ty).ty)) n (sum ns) (created_weighs s ty)
        (fillings_weigh (map filling (map init items)) ns (all_fill items) s (element_in (values.created s ty).ty))))
    kind_layer (ExprKind-F.Unary op operand) = valued_weighs _ _ (λ s span. unary_weighs op (reading (expr operand)) _ (expr_is operand) s)
    kind_layer (ExprKind-F.Binary op left right) =
        let n = parts_weigh (expr_parts (expr left)) in let m = parts_weigh (expr_parts (expr right)) in
        let a = total_append part (expr_parts (expr left)) (expr_parts (expr right)) in
        kind_as _ (n + m) _ (omega (arith, a)) (valued_weighs _ (n + m) (λ s span. binary_weighs op (reading (expr left)) (reading (expr right)) n m (expr_is left) (expr_is right) s span))
    kind_layer (ExprKind-F.Assign None target source) =
        let n = parts_weigh (expr_parts (expr target)) in let m = parts_weigh (expr_parts (expr source)) in
        let a = total_append part (expr_parts (expr target)) (expr_parts (expr source)) in
        kind_as _ (n + m) _ (omega (arith, a)) (valued_weighs _ (n + m) (λ s span. assignment_weighs (reading (expr target)) (reading (expr source)) n m (expr_is target) (expr_is source) s))
    kind_layer (ExprKind-F.Assign (Some op) target source) =
        let n = parts_weigh (expr_parts (expr target)) in let m = parts_weigh (expr_parts (expr source)) in
        let a = total_append part (expr_parts (expr target)) (expr_parts (expr source)) in
        kind_as _ (n + m) _ (omega (arith, a)) (valued_weighs _ (n + m) (λ s span. computed_weighs (reading (expr target)) (reading (expr source)) n m (expr_is target) (expr_is source) s))
    kind_layer (ExprKind-F.Step up after target) = valued_weighs _ _ (λ s span. counted_weighs (reading (expr target)) _ (expr_is target) s)

    kind_rolled : (y : ExprKind-F K I E) → KindIs (roll-ExprKind (map-ExprKind K I E ExprKind Init Expr kind init expr y))
    kind_rolled y =
        let layer = map-ExprKind K I E ExprKind Init Expr kind init expr y in
        let a = fold-roll-ExprKind KindReading Filling Reading values.kind_step values.init_step values.expr_step layer in
        let b = fold-roll-ExprKind (List Part) (List Part) (List Part) parts.kind_step parts.init_step parts.expr_step layer in
        subst (λ (ps : List Part). KindWeighs (kind_reading (roll-ExprKind layer)) (parts_weigh ps)) (sym b)
        (subst (λ (k : KindReading). KindWeighs k (parts_weigh (parts.kind_step (map-ExprKind ExprKind Init Expr (List Part) (List Part) (List Part) kind_parts init_parts expr_parts layer)))) (sym a) (kind_layer y))

    init_layer : (y : Init-F K I E) → FillingWeighs (values.init_step (map-Init ExprKind Init Expr KindReading Filling Reading kind_reading filling reading (map-Init K I E ExprKind Init Expr kind init expr y)))
        (parts_weigh (parts.init_step (map-Init ExprKind Init Expr (List Part) (List Part) (List Part) kind_parts init_parts expr_parts (map-Init K I E ExprKind Init Expr kind init expr y))))
    init_layer (Init-F.Value e) s ty = check_weighs (reading (expr e)) _ (expr_is e) s (need_like ty)
    init_layer (Init-F.Items items span) s ty =
        let ns = map (λ (i : I). parts_weigh (init_parts (init i))) items in
        let a = both_notes (rules.list_mismatch (need_like ty) span) (values.fillings (map filling (map init items)) s (element_in ty)) 0 (sum ns) (list_mismatch_weighs (need_like ty) span)
        (fillings_weigh (map filling (map init items)) ns (all_fill items) s (element_in ty)) in
        let le = items_sum items in omega (arith, a, le)

    init_rolled : (y : Init-F K I E) → InitIs (roll-Init (map-Init K I E ExprKind Init Expr kind init expr y))
    init_rolled y =
        let layer = map-Init K I E ExprKind Init Expr kind init expr y in
        let a = fold-roll-Init KindReading Filling Reading values.kind_step values.init_step values.expr_step layer in
        let b = fold-roll-Init (List Part) (List Part) (List Part) parts.kind_step parts.init_step parts.expr_step layer in
        subst (λ (ps : List Part). FillingWeighs (filling (roll-Init layer)) (parts_weigh ps)) (sym b)
        (subst (λ (f : Filling). FillingWeighs f (parts_weigh (parts.init_step (map-Init ExprKind Init Expr (List Part) (List Part) (List Part) kind_parts init_parts expr_parts layer)))) (sym a) (init_layer y))

    expr_layer : (k : KindReading) (n : ℕ) (span : Span) → KindWeighs k n
        → Weighs (record { span = span; is_null = k.is_null; is_this = k.is_this; judge = λ s. typed span (k.judge s span); assigned = λ s. typed span (k.assigned s span); receiver = λ s. k.receiver s span }) (part (expression span) + n)
    expr_layer k n span w = record {
      here = omega arith;
      judge = λ s. let a = both_notes (k.judge s span).notes (type_note (k.judge s span).ty span) n (part (expression span)) (w.judge s span) (type_weighs (k.judge s span).ty span) in omega (arith, a);
      assigned = λ s. let a = both_notes (k.assigned s span).notes (type_note (k.assigned s span).ty span) n (part (expression span)) (w.assigned s span) (type_weighs (k.assigned s span).ty span) in omega (arith, a);
      receiver = λ s. w.receiver s span;
    }

    expr_rolled : ((k : K) → KindIs (kind k)) → (y : Expr-F K I E) → ExprIs (roll-Expr (map-Expr K I E ExprKind Init Expr kind init expr y))
    expr_rolled kind_is y =
        let layer = map-Expr K I E ExprKind Init Expr kind init expr y in
        let a = fold-roll-Expr KindReading Filling Reading values.kind_step values.init_step values.expr_step layer in
        let b = fold-roll-Expr (List Part) (List Part) (List Part) parts.kind_step parts.init_step parts.expr_step layer in
        subst (λ (ps : List Part). Weighs (reading (roll-Expr layer)) (parts_weigh ps)) (sym b)
        (subst (λ (r : Reading). Weighs r (part (expression y.span) + parts_weigh (kind_parts (kind y.kind)))) (sym a) (expr_layer (kind_reading (kind y.kind)) (parts_weigh (kind_parts (kind y.kind))) y.span (kind_is y.kind)))

  pub expression_weighs : (e : Expr) → Weighs (reading e) (parts_weigh (expr_parts e))
  expression_weighs = ind-Expr KindIs InitIs ExprIs
      (λ x y e. subst (λ layer. KindIs (roll-ExprKind layer)) e (kind_rolled (λ k. k.0) (λ i. i.0) (λ x. x.0) (λ i. i.1) (λ x. x.1) y))
      (λ x y e. subst (λ layer. InitIs (roll-Init layer)) e (init_rolled (λ k. k.0) (λ i. i.0) (λ x. x.0) (λ i. i.1) (λ x. x.1) y))
      (λ x y e. subst (λ layer. ExprIs (roll-Expr layer)) e (expr_rolled (λ k. k.0) (λ i. i.0) (λ x. x.0) (λ i. i.1) (λ x. x.1) (λ k. k.1) y))

  pub initialiser_weighs : (i : Init) → FillingWeighs (filling i) (parts_weigh (init_parts i))
  initialiser_weighs = ind-Init KindIs InitIs ExprIs
      (λ x y e. subst (λ layer. KindIs (roll-ExprKind layer)) e (kind_rolled (λ k. k.0) (λ i. i.0) (λ x. x.0) (λ i. i.1) (λ x. x.1) y))
      (λ x y e. subst (λ layer. InitIs (roll-Init layer)) e (init_rolled (λ k. k.0) (λ i. i.0) (λ x. x.0) (λ i. i.1) (λ x. x.1) y))
      (λ x y e. subst (λ layer. ExprIs (roll-Expr layer)) e (expr_rolled (λ k. k.0) (λ i. i.0) (λ x. x.0) (λ i. i.1) (λ x. x.1) (λ k. k.1) y))
