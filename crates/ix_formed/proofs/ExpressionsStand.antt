-- Errors on expressions stand where these are laid out.
use Rattle.std.proofs.Common.{ℕ, Bool, true, false, List, [], ◌∷◌, ◌++◌, map, drop, Option, Some, None, sym, subst}
use Rattle.std.specs.Prelude.{if◌then◌else◌, codes, bytes_eq, not, ◌&&◌, is_some}
use Rattle.ix_text.specs.declared.span.Span.{Span}
use Rattle.ix_core.specs.declared.claim.Base.TheVariants as base
use Rattle.ix_core.specs.declared.claim.Type_.{Type_}
use Rattle.ix_core.specs.declared.claim.Type_.TheVariants as type
use Rattle.ix_tree.specs.declared.annot.Ident.{Ident}
use Rattle.ix_tree.specs.declared.annot.TypeTree.{TypeTree}
use Rattle.ix_tree.specs.declared.expr.BinaryOp.{BinaryOp}
use Rattle.ix_tree.specs.declared.expr.BinaryOp.TheVariants as binary
use Rattle.ix_tree.specs.declared.expr.UnaryOp.{UnaryOp}
use Rattle.ix_tree.specs.declared.expr.UnaryOp.TheVariants as operator
use Rattle.ix_tree.specs.declared.expr.Expr.{Expr, Expr-F, ind-Expr, map-Expr, roll-Expr, fold-roll-Expr}
use Rattle.ix_tree.specs.declared.expr.ExprKind.{ExprKind, ExprKind-F, map-ExprKind, roll-ExprKind, fold-ExprKind, fold-roll-ExprKind}
use Rattle.ix_tree.specs.declared.expr.Init.{Init, Init-F, ind-Init, map-Init, roll-Init, fold-roll-Init}
use Rattle.ix_tree.specs.Placed as placed
use Rattle.ix_tree.specs.Placed.{Layout, annot_piece, base_pieces, expr_piece, init_piece}
use Rattle.ix_meaning.specs.declared.members.Field.{Field}
use Rattle.ix_meaning.specs.declared.note.Meaning.TheVariants.{MethodNamed, ClassNamed, LengthOf}
use Rattle.ix_meaning.specs.declared.note.Note.TheVariants.{Use}
use Rattle.ix_meaning.specs.declared.note.Rule.TheVariants as rule
use Rattle.ix_meaning.specs.Annotated.{names_nothing}
use Rattle.ix_meaning.specs.Members.{Callee, field_named, method_named, constructor_params}
use Rattle.ix_meaning.specs.Rules as rules
use Rattle.ix_meaning.specs.Scope.{Scope, Known, meant, is_pending}
use Rattle.ix_meaning.specs.Types.{int, boolean, Need, of, need_like, is_reference, element, element_in, Judged, judged, wrong}
use Rattle.ix_meaning.specs.Values as values
use Rattle.ix_meaning.specs.Values.{Reading, KindReading, Filling, Object, no_object, of_class, value, reading, kind_reading, filling, check, null_at, fitted, as_object, valued, valued_and_assigned}
use Rattle.ix_formed.specs.EachNode.{InText}
use Rattle.ix_formed.proofs.PiecesLie.{Lies, AllLie, row_lies, pieces_parted}
use Rattle.ix_formed.proofs.ErrorsStand.{Stand, none, both, used, is_wrong, if_wrong, type_noted, mismatches, null_mismatches, list_mismatches, not_compared, use_noted}
use Rattle.ix_formed.proofs.TypesStand.{TypeStands, annots_stand, given_stand, written_stands}

module _ (end : ℕ) where
  -- An expression and its errors stand within the text.
  pub record ReadingStands (r : Reading) : Type 0 where
    pub here : InText end r.span
    pub judge : (s : Scope) → Stand end (r.judge s).notes
    pub assigned : (s : Scope) → Stand end (r.assigned s).notes
    pub receiver : (s : Scope) → Stand end (r.receiver s).notes

  record KindStands (k : KindReading) : Type 0 where
    pub judge : (s : Scope) (span : Span) → InText end span → Stand end (k.judge s span).notes
    pub assigned : (s : Scope) (span : Span) → InText end span → Stand end (k.assigned s span).notes
    pub receiver : (s : Scope) (span : Span) → InText end span → Stand end (k.receiver s span).notes

  null_stands : (need : Need) (span : Span) → InText end span → Stand end (null_at need span).notes
  null_stands need span at = both (null_mismatches need span at) (type_noted (values.null_type need) span)

  pub check_stands : (r : Reading) → ReadingStands r → (s : Scope) (need : Need) → Stand end (check r s need).notes
  check_stands r h s need = null_or_not r.is_null
    where
      null_or_not : (b : Bool) → Stand end (if b then null_at need r.span else fitted s.world need r.span (r.judge s)).notes
      null_or_not true = null_stands need r.span h.here
      null_or_not false = both (h.judge s) (mismatches s.world need (r.judge s).ty r.span h.here)

  object_stands : (j : Judged) (span : Span) → InText end span → Stand end j.notes → Stand end (as_object j span).notes
  object_stands j span at h = both h (both (type_noted j.ty span) (no_reference j.ty))
    where
      no_reference : (ty : Option Type_) → Stand end (values.no_reference ty span)
      no_reference None = none
      no_reference (Some ty) = if_wrong (not (is_reference ty)) rule.TypeMismatch span at

  both_stand : (judge assigned : Scope → Span → Judged) → ((s : Scope) (span : Span) → InText end span → Stand end (judge s span).notes) → ((s : Scope) (span : Span) → InText end span → Stand end (assigned s span).notes)
      → KindStands (valued_and_assigned judge assigned)
  both_stand judge assigned a b = record { judge = a; assigned = b; receiver = λ s span at. object_stands (judge s span) span at (a s span at) }

  valued_stands : (judge : Scope → Span → Judged) → ((s : Scope) (span : Span) → InText end span → Stand end (judge s span).notes) → KindStands (valued judge)
  valued_stands judge a = both_stand judge judge a a

  -- ---- names

  field_use_stands : (s : Scope) (assigned through_this : Bool) (span : Span) (f : Field) → InText end span → Stand end (values.field_use s assigned through_this span f)
  field_use_stands s assigned through_this span f at = both (use_noted f.meaning span) (if_wrong _ rule.FinalAssigned span at)

  bare_stands : (s : Scope) (assigned : Bool) (span : Span) (f : Option Field) → InText end span → Stand end (values.bare_field s assigned span f).notes
  bare_stands s assigned span None at = is_wrong rule.UnknownName span at
  bare_stands s assigned span (Some f) at = both (if_wrong _ rule.NotStatic span at) (field_use_stands s assigned true span f at)

  known_stands : (s : Scope) (assigned : Bool) (name : Ident) (k : Option Known) → InText end name.span → Stand end (values.known_or s assigned name k).notes
  known_stands s assigned name None at = bare_stands s assigned name.span (field_named s.world s.class name.text) at
  known_stands s assigned name (Some k) at = used name.span k.meaning (if_wrong (assigned && k.is_fixed) rule.FinalAssigned name.span at)

  variable_stands : (s : Scope) (assigned : Bool) (name : Ident) → InText end name.span → Stand end (values.variable s assigned name).notes
  variable_stands s assigned name at = pending_or_not (is_pending s.pending name.text)
    where
      pending_or_not : (b : Bool) → Stand end (if b then judged None (rules.unknown_name name.span) else values.known_or s assigned name (meant name.text s.names)).notes
      pending_or_not true = is_wrong rule.UnknownName name.span at
      pending_or_not false = known_stands s assigned name (meant name.text s.names) at

  before_dot_stands : (s : Scope) (name : Ident) (span : Span) → InText end name.span → InText end span → Stand end (values.name_before_dot s name span).notes
  before_dot_stands s name span at here = variable_or_not (values.is_variable s name.text)
    where
      as_variable : Stand end (as_object (values.variable s false name) span).notes
      as_variable = object_stands (values.variable s false name) span here (variable_stands s false name at)

      class_or : (c : Option ℕ) → Stand end (values.class_or s name span c).notes
      class_or (Some c) = used name.span (ClassNamed c) none
      class_or None = as_variable

      variable_or_not : (b : Bool) → Stand end (if b then as_object (values.variable s false name) span else values.class_or s name span (s.world.class name.text)).notes
      variable_or_not true = as_variable
      variable_or_not false = class_or (s.world.class name.text)

  -- ---- selections

  instance_stands : (s : Scope) (assigned through_this : Bool) (name : Ident) (f : Option Field) → InText end name.span → Stand end (values.instance_field s assigned through_this name f).notes
  instance_stands s assigned through_this name None at = is_wrong rule.UnknownName name.span at
  instance_stands s assigned through_this name (Some f) at = field_use_stands s assigned through_this name.span f at

  class_field_stands : (s : Scope) (assigned : Bool) (name : Ident) (f : Option Field) → InText end name.span → Stand end (values.class_field s assigned name f).notes
  class_field_stands s assigned name None at = is_wrong rule.UnknownName name.span at
  class_field_stands s assigned name (Some f) at = both (if_wrong _ rule.NotStatic name.span at) (field_use_stands s assigned false name.span f at)

  length_stands : (assigned : Bool) (name : Ident) → InText end name.span → Stand end (values.array_length assigned name).notes
  length_stands assigned name at = named_or_not (bytes_eq name.text (codes "length"))
    where
      named_or_not : (b : Bool) → Stand end (if b then judged (Some int) (Use name.span LengthOf ∷ rules.not_assignable assigned name.span) else judged None (rules.unknown_name name.span)).notes
      named_or_not true = used name.span LengthOf (if_wrong assigned rule.NotAssignable name.span at)
      named_or_not false = is_wrong rule.UnknownName name.span at

  selected_stands : (s : Scope) (assigned through_this : Bool) (name : Ident) (o : Object) → InText end name.span → Stand end (values.selected s assigned through_this name o).notes
  selected_stands s assigned through_this name no_object at = none
  selected_stands s assigned through_this name (of_class c) at = class_field_stands s assigned name (field_named s.world c name.text) at
  selected_stands s assigned through_this name (value (type.Plain (base.Class c))) at = instance_stands s assigned through_this name (field_named s.world c name.text) at
  selected_stands s assigned through_this name (value other) at = length_stands assigned name at

  selection_stands : (object : Reading) → ReadingStands object → (name : Ident) (assigned : Bool) (s : Scope) → InText end name.span → Stand end (values.selection object name assigned s).notes
  selection_stands object h name assigned s at = both (h.receiver s) (selected_stands s assigned object.is_this name (object.receiver s).object at)

  -- ---- calls

  abbrev pub ReadingsStand : List Reading → Type 0
  ReadingsStand [] = Unit {0}
  ReadingsStand (r ∷ rs) = ReadingStands r × ReadingsStand rs

  pub arguments_stand : (s : Scope) (rs : List Reading) → ReadingsStand rs → (ts : List (Option Type_)) → Stand end (values.arguments s rs ts)
  arguments_stand s [] h ts = none
  arguments_stand s (r ∷ rs) h ts = both (check_stands r h.0 s (values.first_need ts)) (arguments_stand s rs h.1 (drop 1 ts))

  pub given_to_stand : (s : Scope) (rs : List Reading) → ReadingsStand rs → (ts : List (Option Type_)) (span : Span) → InText end span → Stand end (values.given_to s rs ts span)
  given_to_stand s rs h ts span at = both (if_wrong _ rule.WrongArguments span at) (arguments_stand s rs h ts)

  called_stands : (s : Scope) (span : Span) (rs : List Reading) → ReadingsStand rs → (m : Callee) → InText end span → Stand end (values.called s span rs m).notes
  called_stands s span rs h m at = used span (MethodNamed m.number) (given_to_stand s rs h m.signature.params span at)

  unknown_call_stands : (s : Scope) (span : Span) (rs : List Reading) → ReadingsStand rs → InText end span → Stand end (values.unknown_call s span rs).notes
  unknown_call_stands s span rs h at = both (is_wrong rule.UnknownName span at) (arguments_stand s rs h [])

  bare_call_stands : (s : Scope) (name : Ident) (rs : List Reading) → ReadingsStand rs → (m : Option Callee) → InText end name.span → Stand end (values.bare_call s name rs m).notes
  bare_call_stands s name rs h None at = unknown_call_stands s name.span rs h at
  bare_call_stands s name rs h (Some m) at = both (if_wrong _ rule.NotStatic name.span at) (called_stands s name.span rs h m at)

  instance_call_stands : (s : Scope) (name : Ident) (rs : List Reading) → ReadingsStand rs → (m : Option Callee) → InText end name.span → Stand end (values.instance_call s name rs m).notes
  instance_call_stands s name rs h None at = unknown_call_stands s name.span rs h at
  instance_call_stands s name rs h (Some m) at = called_stands s name.span rs h m at

  class_call_stands : (s : Scope) (name : Ident) (rs : List Reading) → ReadingsStand rs → (m : Option Callee) → InText end name.span → Stand end (values.class_call s name rs m).notes
  class_call_stands s name rs h None at = unknown_call_stands s name.span rs h at
  class_call_stands s name rs h (Some m) at = both (if_wrong _ rule.NotStatic name.span at) (called_stands s name.span rs h m at)

  call_on_stands : (s : Scope) (name : Ident) (rs : List Reading) → ReadingsStand rs → (o : Object) → InText end name.span → Stand end (values.call_on s name rs o).notes
  call_on_stands s name rs h no_object at = arguments_stand s rs h []
  call_on_stands s name rs h (of_class c) at = class_call_stands s name rs h (method_named s.world c name.text) at
  call_on_stands s name rs h (value (type.Plain (base.Class c))) at = instance_call_stands s name rs h (method_named s.world c name.text) at
  call_on_stands s name rs h (value other) at = unknown_call_stands s name.span rs h at

  creation_stands : (s : Scope) (name : Ident) (rs : List Reading) → ReadingsStand rs → (c : Option ℕ) → InText end name.span → Stand end (values.creation s name rs c).notes
  creation_stands s name rs h None at = unknown_call_stands s name.span rs h at
  creation_stands s name rs h (Some c) at = used name.span (ClassNamed c) (given_to_stand s rs h (constructor_params s.world c) name.span at)

  -- ---- arrays

  created_stands : (s : Scope) (ty : TypeTree) → TypeStands end ty → Stand end (values.created s ty).notes
  created_stands s ty h = both (written_stands s.world.class ty [] h) (given_stand (names_nothing (values.created_target ty)) ty.annots h.annots)

  abbrev pub FillingStands : Filling → Type 0
  FillingStands f = (s : Scope) (ty : Option Type_) → Stand end (f s ty)

  abbrev FillingsStand : List Filling → Type 0
  FillingsStand [] = Unit {0}
  FillingsStand (f ∷ fs) = FillingStands f × FillingsStand fs

  fillings_stand : (fs : List Filling) → FillingsStand fs → (s : Scope) (ty : Option Type_) → Stand end (values.fillings fs s ty)
  fillings_stand [] h s ty = none
  fillings_stand (f ∷ fs) h s ty = both (h.0 s ty) (fillings_stand fs h.1 s ty)

  access_stands : (array index : Reading) → ReadingStands array → ReadingStands index → (s : Scope) → Stand end (values.access array index s).notes
  access_stands array index a b s = both (null_or_not array.is_null) (check_stands index b s (of int))
    where
      no_array : (ty : Option Type_) → Stand end (values.no_array ty array.span)
      no_array None = none
      no_array (Some ty) = if_wrong (not (is_some (element ty))) rule.TypeMismatch array.span a.here

      null_or_not : (b : Bool) → Stand end (if b then judged None (wrong rule.TypeMismatch array.span) else judged (element_in (array.judge s).ty) ((array.judge s).notes ++ values.no_array (array.judge s).ty array.span)).notes
      null_or_not true = is_wrong rule.TypeMismatch array.span a.here
      null_or_not false = both (a.judge s) (no_array (array.judge s).ty)

  -- ---- operators

  two_stand : (a b : Reading) → ReadingStands a → ReadingStands b → (s : Scope) (need : Need) (ty : Type_) → Stand end (values.both a b s need ty).notes
  two_stand a b x y s need ty = both (check_stands a x s need) (check_stands b y s need)

  equality_stands : (a b : Reading) → ReadingStands a → ReadingStands b → (s : Scope) (span : Span) → InText end span → Stand end (values.equality a b s span).notes
  equality_stands a b x y s span at = by_nulls a.is_null b.is_null
    where
      by_nulls : (p q : Bool) → Stand end
          ((if p then judged None [] else a.judge s).notes ++ ((if q then judged None [] else b.judge s).notes
          ++ (if p then (if q then wrong rule.TypeMismatch a.span ++ wrong rule.TypeMismatch b.span else (null_at (need_like (if q then judged None [] else b.judge s).ty) a.span).notes)
          else (if q then (null_at (need_like (if p then judged None [] else a.judge s).ty) b.span).notes
          else rules.cannot_compare s.world (if p then judged None [] else a.judge s).ty (if q then judged None [] else b.judge s).ty span))))
      by_nulls true true = both (is_wrong rule.TypeMismatch a.span x.here) (is_wrong rule.TypeMismatch b.span y.here)
      by_nulls true false = both (y.judge s) (null_stands (need_like (b.judge s).ty) a.span x.here)
      by_nulls false true = both (x.judge s) (null_stands (need_like (a.judge s).ty) b.span y.here)
      by_nulls false false = both (x.judge s) (both (y.judge s) (not_compared s.world (a.judge s).ty (b.judge s).ty span at))

  binary_stands : (op : BinaryOp) (a b : Reading) → ReadingStands a → ReadingStands b → (s : Scope) (span : Span) → InText end span → Stand end (values.binary op a b s span).notes
  binary_stands (binary.Num op) a b x y s span at = two_stand a b x y s (of int) int
  binary_stands (binary.Compare r) a b x y s span at = equal_or_not (values.is_equality r)
    where
      equal_or_not : (c : Bool) → Stand end (if c then values.equality a b s span else values.both a b s (of int) boolean).notes
      equal_or_not true = equality_stands a b x y s span at
      equal_or_not false = two_stand a b x y s (of int) boolean
  binary_stands binary.AndAlso a b x y s span at = two_stand a b x y s (of boolean) boolean
  binary_stands binary.OrElse a b x y s span at = two_stand a b x y s (of boolean) boolean

  unary_stands : (op : UnaryOp) (a : Reading) → ReadingStands a → (s : Scope) → Stand end (values.unary op a s).notes
  unary_stands operator.Not a x s = check_stands a x s (of boolean)
  unary_stands other a x s = check_stands a x s (of int)

  -- ---- assignments

  assignment_stands : (target source : Reading) → ReadingStands target → ReadingStands source → (s : Scope) → Stand end (values.assignment target source s).notes
  assignment_stands target source a b s = both (a.assigned s) (check_stands source b s (need_like (target.assigned s).ty))

  counted_stands : (target : Reading) → ReadingStands target → (s : Scope) → Stand end (values.counted_target target s).notes
  counted_stands target a s = both (a.assigned s) (mismatches s.world (of int) (target.assigned s).ty target.span a.here)

  computed_stands : (target source : Reading) → ReadingStands target → ReadingStands source → (s : Scope) → Stand end (values.computed target source s).notes
  computed_stands target source a b s = both (counted_stands target a s) (check_stands source b s (of int))

  -- ---- all forms

  abbrev kind_pieces : ExprKind → List Layout
  kind_pieces = fold-ExprKind (List Layout) Layout Layout placed.kind_pieces placed.init_of placed.expr_of

  abbrev KindIs : ExprKind → Type 0
  KindIs k = AllLie end (kind_pieces k) → KindStands (kind_reading k)

  abbrev InitIs : Init → Type 0
  InitIs i = Lies end (init_piece i) → FillingStands (filling i)

  abbrev ExprIs : Expr → Type 0
  ExprIs e = Lies end (expr_piece e) → ReadingStands (reading e)

  -- the type of a new array
  new_type_stands : (ty : TypeTree) (size : List Layout) → Lies end (placed.new_type_piece ty size) → TypeStands end ty × AllLie end size
  new_type_stands ty size h =
      let q = pieces_parted end (map annot_piece ty.annots) (base_pieces ty.base ++ size) (row_lies end (map annot_piece ty.annots ++ (base_pieces ty.base ++ size)) h.1) in
      let r = pieces_parted end (base_pieces ty.base) size q.1 in
      (record { base = r.0; annots = annots_stand end ty.annots q.0 }, r.1)

  module _ {K I E : Type 0} (kind : K → ExprKind) (init : I → Init) (expr : E → Expr) (init_is : (i : I) → InitIs (init i)) (expr_is : (e : E) → ExprIs (expr e)) where
    args_stand : (es : List E) → AllLie end (map expr_piece (map expr es)) → ReadingsStand (map reading (map expr es))
    args_stand [] h = tt
    args_stand (e ∷ es) h = (expr_is e h.0, args_stand es h.1)

    items_stand : (is : List I) → AllLie end (map init_piece (map init is)) → FillingsStand (map filling (map init is))
    items_stand [] h = tt
    items_stand (i ∷ is) h = (init_is i h.0, items_stand is h.1)

    kind_layer : (y : ExprKind-F K I E) → let layer = map-ExprKind K I E ExprKind Init Expr kind init expr y in
        AllLie end (placed.kind_pieces (map-ExprKind ExprKind Init Expr (List Layout) Layout Layout kind_pieces init_piece expr_piece layer))
        → KindStands (values.kind_step (map-ExprKind ExprKind Init Expr KindReading Filling Reading kind_reading filling reading layer))
    kind_layer (ExprKind-F.Int n) h = valued_stands _ (λ s span at. none)
    kind_layer (ExprKind-F.Bool answer) h = valued_stands _ (λ s span at. none)
    kind_layer ExprKind-F.Null h = record {
      judge = λ s span at. is_wrong rule.TypeMismatch span at;
      assigned = λ s span at. is_wrong rule.TypeMismatch span at;
      receiver = λ s span at. is_wrong rule.TypeMismatch span at;
    }
    kind_layer ExprKind-F.This h = record {
      judge = λ s span at. if_wrong _ rule.NotStatic span at;
      assigned = λ s span at. if_wrong _ rule.NotStatic span at;
      receiver = λ s span at. object_stands (judged (Some (type.Plain (base.Class s.class))) (rules.not_static s false span)) span at (if_wrong _ rule.NotStatic span at);
    }
    kind_layer (ExprKind-F.Name name) h = record {
      judge = λ s span at. variable_stands s false name h.0.0;
      assigned = λ s span at. variable_stands s true name h.0.0;
      receiver = λ s span at. before_dot_stands s name span h.0.0 at;
    }
    kind_layer (ExprKind-F.Select object name) h =
        both_stand _ _ (λ s span at. selection_stands (reading (expr object)) (expr_is object h.0) name false s h.1.0.0) (λ s span at. selection_stands (reading (expr object)) (expr_is object h.0) name true s h.1.0.0)
    kind_layer (ExprKind-F.Index array index) h = valued_stands _ (λ s span at. access_stands (reading (expr array)) (reading (expr index)) (expr_is array h.0) (expr_is index h.1.0) s)
    kind_layer (ExprKind-F.Call None name args) h =
        valued_stands _ (λ s span at. bare_call_stands s name (map reading (map expr args)) (args_stand args h.1) (method_named s.world s.class name.text) h.0.0)
    kind_layer (ExprKind-F.Call (Some object) name args) h = valued_stands _ (λ s span at.
        both ((expr_is object h.0).receiver s) (call_on_stands s name (map reading (map expr args)) (args_stand args h.1.1) ((reading (expr object)).receiver s).object h.1.0.0))
    kind_layer (ExprKind-F.New name args) h = valued_stands _ (λ s span at. creation_stands s name (map reading (map expr args)) (args_stand args h.1) (s.world.class name.text) h.0.0)
    kind_layer (ExprKind-F.NewArray ty size) h =
        let q = new_type_stands ty (expr_piece (expr size) ∷ []) h.0 in
        valued_stands _ (λ s span at. both (created_stands s ty q.0) (check_stands (reading (expr size)) (expr_is size q.1.0) s (of int)))
    kind_layer (ExprKind-F.NewItems ty items) h =
        let q = new_type_stands ty [] h.0 in
        valued_stands _ (λ s span at. both (created_stands s ty q.0) (fillings_stand (map filling (map init items)) (items_stand items h.1) s (element_in (values.created s ty).ty)))
    kind_layer (ExprKind-F.Unary op operand) h = valued_stands _ (λ s span at. unary_stands op (reading (expr operand)) (expr_is operand h.0) s)
    kind_layer (ExprKind-F.Binary op left right) h =
        valued_stands _ (λ s span at. binary_stands op (reading (expr left)) (reading (expr right)) (expr_is left h.0) (expr_is right h.1.0) s span at)
    kind_layer (ExprKind-F.Assign None target source) h =
        valued_stands _ (λ s span at. assignment_stands (reading (expr target)) (reading (expr source)) (expr_is target h.0) (expr_is source h.1.0) s)
    kind_layer (ExprKind-F.Assign (Some op) target source) h =
        valued_stands _ (λ s span at. computed_stands (reading (expr target)) (reading (expr source)) (expr_is target h.0) (expr_is source h.1.0) s)
    kind_layer (ExprKind-F.Step up after target) h = valued_stands _ (λ s span at. counted_stands (reading (expr target)) (expr_is target h.0) s)

    kind_rolled : (y : ExprKind-F K I E) → KindIs (roll-ExprKind (map-ExprKind K I E ExprKind Init Expr kind init expr y))
    kind_rolled y h =
        let layer = map-ExprKind K I E ExprKind Init Expr kind init expr y in
        let a = fold-roll-ExprKind KindReading Filling Reading values.kind_step values.init_step values.expr_step layer in
        let b = fold-roll-ExprKind (List Layout) Layout Layout placed.kind_pieces placed.init_of placed.expr_of layer in
        subst KindStands (sym a) (kind_layer y (subst (AllLie end) b h))

    init_layer : (y : Init-F K I E) → let layer = map-Init K I E ExprKind Init Expr kind init expr y in
        Lies end (placed.init_of (map-Init ExprKind Init Expr (List Layout) Layout Layout kind_pieces init_piece expr_piece layer))
        → FillingStands (values.init_step (map-Init ExprKind Init Expr KindReading Filling Reading kind_reading filling reading layer))
    init_layer (Init-F.Value e) h s ty = check_stands (reading (expr e)) (expr_is e h) s (need_like ty)
    init_layer (Init-F.Items items span) h s ty =
        both (list_mismatches (need_like ty) span h.0)
        (fillings_stand (map filling (map init items)) (items_stand items (row_lies end (map init_piece (map init items)) h.1)) s (element_in ty))

    init_rolled : (y : Init-F K I E) → InitIs (roll-Init (map-Init K I E ExprKind Init Expr kind init expr y))
    init_rolled y h =
        let layer = map-Init K I E ExprKind Init Expr kind init expr y in
        let a = fold-roll-Init KindReading Filling Reading values.kind_step values.init_step values.expr_step layer in
        let b = fold-roll-Init (List Layout) Layout Layout placed.kind_pieces placed.init_of placed.expr_of layer in
        subst FillingStands (sym a) (init_layer y (subst (Lies end) b h))

    expr_rolled : ((k : K) → KindIs (kind k)) → (y : Expr-F K I E) → ExprIs (roll-Expr (map-Expr K I E ExprKind Init Expr kind init expr y))
    expr_rolled kind_is y h =
        let layer = map-Expr K I E ExprKind Init Expr kind init expr y in
        let a = fold-roll-Expr KindReading Filling Reading values.kind_step values.init_step values.expr_step layer in
        let b = fold-roll-Expr (List Layout) Layout Layout placed.kind_pieces placed.init_of placed.expr_of layer in
        let q = subst (Lies end) b h in
        let k = kind_is y.kind (row_lies end (kind_pieces (kind y.kind)) q.1) in
        subst ReadingStands (sym a) (record {
          here = q.0;
          judge = λ s. both (k.judge s y.span q.0) (type_noted ((kind_reading (kind y.kind)).judge s y.span).ty y.span);
          assigned = λ s. both (k.assigned s y.span q.0) (type_noted ((kind_reading (kind y.kind)).assigned s y.span).ty y.span);
          receiver = λ s. k.receiver s y.span q.0;
        })

  pub expression_stands : (e : Expr) → Lies end (expr_piece e) → ReadingStands (reading e)
  expression_stands = ind-Expr KindIs InitIs ExprIs
      (λ x y e. subst (λ layer. KindIs (roll-ExprKind layer)) e (kind_rolled (λ k. k.0) (λ i. i.0) (λ x. x.0) (λ i. i.1) (λ x. x.1) y))
      (λ x y e. subst (λ layer. InitIs (roll-Init layer)) e (init_rolled (λ k. k.0) (λ i. i.0) (λ x. x.0) (λ i. i.1) (λ x. x.1) y))
      (λ x y e. subst (λ layer. ExprIs (roll-Expr layer)) e (expr_rolled (λ k. k.0) (λ i. i.0) (λ x. x.0) (λ i. i.1) (λ x. x.1) (λ k. k.1) y))

  pub initialiser_stands : (i : Init) → Lies end (init_piece i) → FillingStands (filling i)
  initialiser_stands = ind-Init KindIs InitIs ExprIs
      (λ x y e. subst (λ layer. KindIs (roll-ExprKind layer)) e (kind_rolled (λ k. k.0) (λ i. i.0) (λ x. x.0) (λ i. i.1) (λ x. x.1) y))
      (λ x y e. subst (λ layer. InitIs (roll-Init layer)) e (init_rolled (λ k. k.0) (λ i. i.0) (λ x. x.0) (λ i. i.1) (λ x. x.1) y))
      (λ x y e. subst (λ layer. ExprIs (roll-Expr layer)) e (expr_rolled (λ k. k.0) (λ i. i.0) (λ x. x.0) (λ i. i.1) (λ x. x.1) (λ k. k.1) y))
