-- The plain code of an expression has a property of operations, where what it assigns and the cells of its accesses are spots that may be written and read.
use Rattle.std.proofs.Common.{◌≡◌, ℕ, Bool, true, List, [], ◌∷◌, ◌++◌, map, Option, Some, None, Ok, Err, Result, refl, sym, ap, subst, ◌∙◌, arith, false}
use Rattle.std.specs.Prelude.{◌&&◌, if◌then◌else◌}
use Rattle.std.proofs.lemmas.Bool.{and_parts, false≢true}
use Rattle.ix_text.specs.declared.span.Span.{Span}
use Rattle.ix_core.specs.declared.claim.Type_.{Type_}
use Rattle.ix_core.specs.declared.op.Op.{Op}
use Rattle.ix_core.specs.declared.op.Literal.TheVariants as literal
use Rattle.ix_core.specs.declared.op.OpKind.TheVariants as op
use Rattle.ix_tree.specs.declared.annot.Ident.{Ident}
use Rattle.ix_tree.specs.declared.expr.Expr.{Expr, Expr-F, ind-Expr, map-Expr, roll-Expr, fold-roll-Expr}
use Rattle.ix_tree.specs.declared.expr.ExprKind.{ExprKind, ExprKind-F, map-ExprKind, roll-ExprKind, fold-ExprKind, fold-roll-ExprKind}
use Rattle.ix_tree.specs.declared.expr.Init.{Init, Init-F, ind-Init, map-Init, roll-Init, fold-roll-Init}
use Rattle.ix_meaning.specs.declared.note.Meaning.{Meaning}
use Rattle.ix_meaning.specs.declared.note.Meaning.TheVariants as meaning
use Rattle.ix_plain.specs.declared.made.Made.{Made}
use Rattle.ix_plain.specs.declared.made.Spot.{Spot}
use Rattle.ix_plain.specs.declared.made.Spot.TheVariants as spot
use Rattle.ix_plain.specs.Scope.{Scope, slot_of, meaning_at, type_at, is_among}
use Rattle.ix_plain.specs.Parts.{◌>>=◌, computed, in_place}
use Rattle.ix_plain.specs.Values as values
use Rattle.ix_plain.specs.Values.{Lowering, Filling, named_spot, lowering, filling}
use Rattle.ix_formed.specs.Additions.{Makes, AllOf}
use Rattle.ix_formed.specs.Written.{all_true}
use Rattle.ix_formed.specs.Readable as readable
use Rattle.ix_formed.specs.Readable.{Shape, shape, all_fine, is_readable_expr, is_readable_init}
use Rattle.ix_formed.proofs.NumberLists.{all_split}
use Rattle.ix_formed.proofs.PlainItems.{makes_more, makes_then}
use Rattle.ix_guard.specs.Accesses as accesses
use Rattle.ix_guard.specs.Tests.{is_variable}
use Rattle.ix_guard.specs.Accesses.{Parts, Reading, reading, parts_of, init_parts, all_parts, place_of}
use Rattle.ix_guard_promise.specs.KeptSlots.{Leaving, FillsLeaving}
use Rattle.ix_guard_promise.specs.AllAccesses as any
use Rattle.ix_guard_promise.specs.AllAccesses.{AnyAccess, Form, all_accesses, init_accesses, each_of}
use Rattle.ix_guard_promise.specs.OnlyThere.{IsNameOf}
use Rattle.ix_guard_promise.proofs.KeptItems.{Allows, leaves_none, computed_leaves, computes_leaves}
use Rattle.ix_guard_promise.proofs.KeptForms.{AimsAt, CellAims, int_leaves, name_leaves, selection_leaves, element_leaves, new_array_leaves, filled_leaves, unary_leaves, binary_leaves, assign_leaves, step_leaves, call_leaves, new_object_leaves}

-- whatever was made before, this is so
makes_always : {A B E : Type 0} (Q : B → Type 0) (r : Result A E) (next : A → Result B E) → ((a : A) → Makes Q (next a)) → Makes Q (r >>= next)
makes_always Q (Ok a) next holds = holds a
makes_always Q (Err limit) next holds = tt

pub makes_all : {A E : Type 0} (Q : A → Type 0) (r : Result A E) → ((a : A) → Q a) → Makes Q r
makes_all Q (Ok a) holds = holds a
makes_all Q (Err limit) holds = tt

-- The value is in that slot, if the expression is a name that means the variable in it and the full expression doesn't assign it.
abbrev pub IsInSlot : Scope → Option Ident → ℕ → Type 0
IsInSlot scope None at = Unit {0}
IsInSlot scope (Some name) at = (slot : ℕ) → IsNameOf scope slot name → is_among slot scope.assigned ≡ false → at ≡ slot

variable_in_slot : (scope : Scope) (span : Span) (from : ℕ) (made : Made)
    → Makes (λ v. (slot : ℕ) → from ≡ slot → is_among slot scope.assigned ≡ false → v.slot ≡ slot) (values.variable scope span from made)
variable_in_slot scope span from made = copied_or_not (is_among from scope.assigned) refl
  where
    copied_or_not : (b : Bool) → is_among from scope.assigned ≡ b
        → Makes (λ v. (slot : ℕ) → from ≡ slot → is_among slot scope.assigned ≡ false → v.slot ≡ slot) (if b then computed made (op.Copy made.free from (type_at scope span)) span else in_place made from)
    copied_or_not true is = makes_all (λ v. (slot : ℕ) → from ≡ slot → is_among slot scope.assigned ≡ false → v.slot ≡ slot) (computed made (op.Copy made.free from (type_at scope span)) span)
        (λ v slot here free. absurd (false≢true (sym free ∙ ap (λ n. is_among n scope.assigned) (sym here) ∙ is)))
    copied_or_not false is = λ slot here free. here

named_in_slot : (scope : Scope) (span : Span) (m : Option Meaning) (made : Made)
    → Makes (λ v. (slot : ℕ) → is_variable m ≡ true → slot_of scope m ≡ slot → is_among slot scope.assigned ≡ false → v.slot ≡ slot) (values.named scope span m made)
named_in_slot scope span (Some (meaning.Constant n)) made =
    makes_all (λ v. (slot : ℕ) → is_variable (Some (meaning.Constant n)) ≡ true → slot_of scope (Some (meaning.Constant n)) ≡ slot → is_among slot scope.assigned ≡ false → v.slot ≡ slot)
    (values.named scope span (Some (meaning.Constant n)) made) (λ v slot variable. absurd (false≢true variable))
named_in_slot scope span (Some (meaning.FieldNamed field)) made =
    makes_all (λ v. (slot : ℕ) → is_variable (Some (meaning.FieldNamed field)) ≡ true → slot_of scope (Some (meaning.FieldNamed field)) ≡ slot → is_among slot scope.assigned ≡ false → v.slot ≡ slot)
    (values.named scope span (Some (meaning.FieldNamed field)) made) (λ v slot variable. absurd (false≢true variable))
named_in_slot scope span other made =
    makes_more (λ v. (slot : ℕ) → slot_of scope other ≡ slot → is_among slot scope.assigned ≡ false → v.slot ≡ slot)
    (λ v. (slot : ℕ) → is_variable other ≡ true → slot_of scope other ≡ slot → is_among slot scope.assigned ≡ false → v.slot ≡ slot)
    (λ v holds slot variable. holds slot) (values.variable scope span (slot_of scope other) made) (variable_in_slot scope span (slot_of scope other) made)

name_in_slot : (scope : Scope) (ident : Ident) (span : Span) (made : Made) → Makes (λ v. IsInSlot scope (Some ident) v.slot) (values.named scope span (meaning_at scope ident.span) made)
name_in_slot scope ident span made =
    makes_more (λ v. (slot : ℕ) → is_variable (meaning_at scope ident.span) ≡ true → slot_of scope (meaning_at scope ident.span) ≡ slot → is_among slot scope.assigned ≡ false → v.slot ≡ slot)
    (λ v. IsInSlot scope (Some ident) v.slot) (λ v holds slot means. holds slot means.variable means.in_slot)
    (values.named scope span (meaning_at scope ident.span) made) (named_in_slot scope span (meaning_at scope ident.span) made)

-- What is asked of each access in the tree, so that the cell that it becomes is a spot that may be read and written.
abbrev pub FitCells : (Aims : Spot → Type 0) → Scope → (AnyAccess → Type 0) → Type 0
FitCells Aims scope Fits = (access : AnyAccess) → Fits access → (array index : ℕ) (ty : Type_) → IsInSlot scope access.array array → IsInSlot scope access.index index → Aims (spot.Cell array index ty access.place)

module _ {P : Op → Type 0} {Low : ℕ → Type 0} {Aims : Spot → Type 0} (allows : Allows P Low Aims) (Fits : AnyAccess → Type 0) (scope : Scope) (cells : FitCells Aims scope Fits) where
  -- what each of these names means may be written
  abbrev pub AssignsAims : List Span → Type 0
  AssignsAims spans = AllOf (λ span. Aims (named_spot scope (meaning_at scope span))) spans

  -- An expression of these shape, parts and accesses: its lowering has the property, and where it is what an assignment writes to, that may be written.
  record Holds (s : Shape) (r : Reading) (k : Form) (l : Lowering) : Type 0 where
    leaves : s.fine ≡ true → AssignsAims r.parts.assigned → AllOf Fits k.accesses → Leaving P Low scope l
    aims : s.place ≡ true → AssignsAims (place_of r.name) → AllOf Fits k.accesses → AimsAt Aims scope l
    slot : (made : Made) → Makes (λ v. IsInSlot scope k.name v.slot) (l.value scope made)

  -- and it stands where its lowering says
  record HoldsAt (s : Shape) (r : Reading) (k : any.Reading) (l : Lowering) : Type 0 where
    holds : Holds s r k.form l
    span : l.span ≡ k.span

  abbrev InitHolds : Bool → Parts → List AnyAccess → Filling → Type 0
  InitHolds fine parts inside f = fine ≡ true → AssignsAims parts.assigned → AllOf Fits inside → FillsLeaving P Low scope f

  moved : {s t : Shape} {r q : Reading} {k h : Form} {f g : Span → Lowering} (span : Span) → s ≡ t → r ≡ q → k ≡ h → f ≡ g → Holds t q h (g span) → Holds s r k (f span)
  moved {s} {t} {r} {q} {k} {h} {f} {g} span a b c d holds =
      subst (λ x. Holds x r k (f span)) (sym a) (subst (λ x. Holds t x k (f span)) (sym b) (subst (λ x. Holds t q x (f span)) (sym c)
      (subst (λ (x : Span → Lowering). Holds t q h (x span)) (sym d) holds)))

  moved_expr : {s t : Shape} {r q : Reading} {k h : any.Reading} {l m : Lowering} → s ≡ t → r ≡ q → k ≡ h → l ≡ m → HoldsAt t q h m → HoldsAt s r k l
  moved_expr {s} {t} {r} {q} {k} {h} {l} {m} a b c d holds =
      subst (λ x. HoldsAt x r k l) (sym a) (subst (λ x. HoldsAt t x k l) (sym b) (subst (λ x. HoldsAt t q x l) (sym c) (subst (λ x. HoldsAt t q h x) (sym d) holds)))

  moved_init : {s t : Bool} {r q : Parts} {k h : List AnyAccess} {l m : Filling} → s ≡ t → r ≡ q → k ≡ h → l ≡ m → InitHolds t q h m → InitHolds s r k l
  moved_init {s} {t} {r} {q} {k} {h} {l} {m} a b c d holds =
      subst (λ x. InitHolds x r k l) (sym a) (subst (λ x. InitHolds t x k l) (sym b) (subst (λ x. InitHolds t q x l) (sym c) (subst (λ x. InitHolds t q h x) (sym d) holds)))

  abbrev kind_shape : ExprKind → Shape
  kind_shape = fold-ExprKind Shape Bool Shape readable.kind_step readable.init_step readable.expr_step

  abbrev kind_reading : ExprKind → Reading
  kind_reading = fold-ExprKind Reading Parts Reading accesses.kind_step accesses.init_step accesses.expr_step

  abbrev kind_form : ExprKind → Form
  kind_form = fold-ExprKind Form (List AnyAccess) any.Reading any.kind_step any.init_step any.expr_step

  abbrev kind_lowering : ExprKind → Span → Lowering
  kind_lowering = fold-ExprKind (Span → Lowering) Filling Lowering values.kind_step values.init_step values.expr_step

  abbrev KindIs : ExprKind → Type 0
  KindIs k = (span : Span) → Holds (kind_shape k) (kind_reading k) (kind_form k) (kind_lowering k span)

  abbrev InitIs : Init → Type 0
  InitIs i = InitHolds (is_readable_init i) (init_parts i) (init_accesses i) (filling i)

  abbrev ExprIs : Expr → Type 0
  ExprIs e = HoldsAt (shape e) (reading e) (any.reading e) (lowering e)

  -- both of a list of places
  split : (first second : List Span) → AssignsAims (first ++ second) → AssignsAims first × AssignsAims second
  split first second apart = all_split (λ span. Aims (named_spot scope (meaning_at scope span))) first second apart

  -- a form that is no name and can't be assigned
  no_slot : (l : Lowering) (made : Made) → Makes (λ v. IsInSlot scope None v.slot) (l.value scope made)
  no_slot l made = makes_all (λ v. IsInSlot scope None v.slot) (l.value scope made) (λ v. tt)

  no_place : (parts : Parts) (inside : List AnyAccess) (fine : Bool) (l : Lowering) → (fine ≡ true → AssignsAims parts.assigned → AllOf Fits inside → Leaving P Low scope l)
      → Holds (readable.a_value fine) (accesses.unnamed parts) (any.unnamed inside) l
  no_place parts inside fine l leaves = record { leaves = leaves; aims = λ place. absurd (false≢true place); slot = no_slot l }

  module _ {K I E : Type 0} (kind : K → ExprKind) (init : I → Init) (expr : E → Expr) (init_is : (i : I) → InitIs (init i)) (expr_is : (e : E) → ExprIs (expr e)) where
    part : (e : E) → (shape (expr e)).fine ≡ true → AssignsAims (parts_of (expr e)).assigned → AllOf Fits (any.reading (expr e)).form.accesses → Leaving P Low scope (lowering (expr e))
    part e = (expr_is e).holds.leaves

    all_leave : (es : List E) → all_fine (map shape (map expr es)) ≡ true → AssignsAims (accesses.all (accesses.each (map reading (map expr es)))).assigned
        → AllOf Fits (any.each (map any.reading (map expr es))) → AllOf (Leaving P Low scope) (map lowering (map expr es))
    all_leave [] fine apart fit = tt
    all_leave (e ∷ es) fine apart fit =
        let f = and_parts (shape (expr e)).fine (all_fine (map shape (map expr es))) fine in
        let a = split (parts_of (expr e)).assigned (accesses.all (accesses.each (map reading (map expr es)))).assigned apart in
        let g = all_split Fits (any.reading (expr e)).form.accesses (any.each (map any.reading (map expr es))) fit in
        (part e f.0 a.0 g.0, all_leave es f.1 a.1 g.1)

    all_fill : (is : List I) → all_true (map is_readable_init (map init is)) ≡ true → AssignsAims (accesses.all (map init_parts (map init is))).assigned
        → AllOf Fits (any.all (map init_accesses (map init is))) → AllOf (FillsLeaving P Low scope) (map filling (map init is))
    all_fill [] fine apart fit = tt
    all_fill (i ∷ is) fine apart fit =
        let f = and_parts (is_readable_init (init i)) (all_true (map is_readable_init (map init is))) fine in
        let a = split (init_parts (init i)).assigned (accesses.all (map init_parts (map init is))).assigned apart in
        let g = all_split Fits (init_accesses (init i)) (any.all (map init_accesses (map init is))) fit in
        (init_is i f.0 a.0 g.0, all_fill is f.1 a.1 g.1)

    -- the cell of an access in the tree
    cell_at : (of at : E) (ty : Type_) → Fits (any.accessing (any.reading (expr of)) (any.reading (expr at))) → CellAims Aims scope (lowering (expr of)) (lowering (expr at)) ty (lowering (expr at)).span
    cell_at of at ty fit made =
        makes_more (λ x. IsInSlot scope (any.reading (expr of)).form.name x.slot)
        (λ x. (next : Made) → Makes (λ y. Aims (spot.Cell x.slot y.slot ty (lowering (expr at)).span)) ((lowering (expr at)).value scope next))
        (λ x first next. makes_more (λ y. IsInSlot scope (any.reading (expr at)).form.name y.slot) (λ y. Aims (spot.Cell x.slot y.slot ty (lowering (expr at)).span))
        (λ y second. subst (λ span. Aims (spot.Cell x.slot y.slot ty span)) (sym (expr_is at).span)
        (cells (any.accessing (any.reading (expr of)) (any.reading (expr at))) fit x.slot y.slot ty first second))
        ((lowering (expr at)).value scope next) ((expr_is at).holds.slot next))
        ((lowering (expr of)).value scope made) ((expr_is of).holds.slot made)

    -- and what is assigned, where it is an access
    aims_at : (of at : E) → CellAims Aims scope (lowering (expr of)) (lowering (expr at)) (type_at scope (lowering (expr of)).span) (lowering (expr at)).span → (span : Span)
        → AimsAt Aims scope (values.element (lowering (expr of)) (lowering (expr at)) span)
    aims_at of at cell span made =
        let ty = type_at scope (lowering (expr of)).span in
        makes_then (λ x. (next : Made) → Makes (λ y. Aims (spot.Cell x.slot y.slot ty (lowering (expr at)).span)) ((lowering (expr at)).value scope next)) (λ t. Aims t.spot)
        ((lowering (expr of)).value scope made) _ (cell made)
        (λ x aim. makes_then (λ y. Aims (spot.Cell x.slot y.slot ty (lowering (expr at)).span)) (λ t. Aims t.spot) ((lowering (expr at)).value scope x.made) _ (aim x.made) (λ y is. is))

    kind_layer : (y : ExprKind-F K I E) (span : Span) → Holds
        (readable.kind_step (map-ExprKind ExprKind Init Expr Shape Bool Shape kind_shape is_readable_init shape (map-ExprKind K I E ExprKind Init Expr kind init expr y)))
        (accesses.kind_step (map-ExprKind ExprKind Init Expr Reading Parts Reading kind_reading init_parts reading (map-ExprKind K I E ExprKind Init Expr kind init expr y)))
        (any.kind_step (map-ExprKind ExprKind Init Expr Form (List AnyAccess) any.Reading kind_form init_accesses any.reading (map-ExprKind K I E ExprKind Init Expr kind init expr y)))
        (values.kind_step (map-ExprKind ExprKind Init Expr (Span → Lowering) Filling Lowering kind_lowering filling lowering (map-ExprKind K I E ExprKind Init Expr kind init expr y)) span)
    kind_layer (ExprKind-F.Int n) span = no_place accesses.nothing [] true _ (λ fine apart fit. computes_leaves allows scope _ span (λ made below. int_leaves allows scope n span made below))
    kind_layer (ExprKind-F.Bool answer) span = no_place accesses.nothing [] true (values.bool answer span)
        (λ fine apart fit.
        let by_value = computes_leaves allows scope (λ at made. computed made (op.Const made.free (literal.Bool answer)) span) span
        (λ made below. computed_leaves allows made (op.Const made.free (literal.Bool answer)) span below refl (λ slot. refl)) in
        record { value = by_value.value; condition = λ free below. record { each = tt; no_loop = tt; up = omega arith }; target = by_value.target; unused = by_value.unused })
    kind_layer ExprKind-F.Null span = no_place accesses.nothing [] true (values.null span)
        (λ fine apart fit. computes_leaves allows scope _ span (λ made below. computed_leaves allows made (op.Const made.free (literal.NullOf (type_at scope span))) span below refl (λ slot. refl)))
    kind_layer ExprKind-F.This span = no_place accesses.nothing [] true _ (λ fine apart fit. computes_leaves allows scope _ span (λ made below. leaves_none made))
    kind_layer (ExprKind-F.Name ident) span = record {
      leaves = λ fine apart fit. name_leaves allows scope ident span;
      aims = λ place apart fit made. apart.0;
      slot = λ made. name_in_slot scope ident span made;
    }
    kind_layer (ExprKind-F.Select object ident) span = record {
      leaves = λ fine apart fit. selection_leaves allows scope (lowering (expr object)) ident span (part object fine apart fit);
      aims = λ place apart fit made. makes_always (λ t. Aims t.spot) ((lowering (expr object)).value scope made) _ (λ o. allows.of_fields o.slot (values.field_number (meaning_at scope ident.span)));
      slot = no_slot (values.selection (lowering (expr object)) ident span);
    }
    kind_layer (ExprKind-F.Index of at) span = record {
      leaves = λ fine apart fit.
          let f = and_parts (shape (expr of)).fine (shape (expr at)).fine fine in
          let a = split (parts_of (expr of)).assigned (parts_of (expr at)).assigned apart in
          let g = all_split Fits (any.reading (expr of)).form.accesses (any.reading (expr at)).form.accesses fit.1 in
          element_leaves allows scope (lowering (expr of)) (lowering (expr at)) span (part of f.0 a.0 g.0) (part at f.1 a.1 g.1) (cell_at of at (type_at scope (lowering (expr of)).span) fit.0);
      aims = λ place apart fit. aims_at of at (cell_at of at (type_at scope (lowering (expr of)).span) fit.0) span;
      slot = no_slot (values.element (lowering (expr of)) (lowering (expr at)) span);
    }
    kind_layer (ExprKind-F.Call None ident args) span =
        no_place (accesses.all (accesses.each (map reading (map expr args)))) (any.each (map any.reading (map expr args))) (all_fine (map shape (map expr args)))
        (values.call None ident (map lowering (map expr args)) span)
        (λ fine apart fit. call_leaves allows scope None tt (map lowering (map expr args)) (all_leave args fine apart fit) ident span)
    kind_layer (ExprKind-F.Call (Some object) ident args) span =
        no_place (accesses.both (parts_of (expr object)) (accesses.all (accesses.each (map reading (map expr args)))))
        ((any.reading (expr object)).form.accesses ++ any.each (map any.reading (map expr args))) ((shape (expr object)).fine && all_fine (map shape (map expr args)))
        (values.call (Some (lowering (expr object))) ident (map lowering (map expr args)) span)
        (λ fine apart fit.
        let f = and_parts (shape (expr object)).fine (all_fine (map shape (map expr args))) fine in
        let a = split (parts_of (expr object)).assigned (accesses.all (accesses.each (map reading (map expr args)))).assigned apart in
        let g = all_split Fits (any.reading (expr object)).form.accesses (any.each (map any.reading (map expr args))) fit in
        call_leaves allows scope (Some (lowering (expr object))) (part object f.0 a.0 g.0) (map lowering (map expr args)) (all_leave args f.1 a.1 g.1) ident span)
    kind_layer (ExprKind-F.New ident args) span =
        no_place (accesses.all (accesses.each (map reading (map expr args)))) (any.each (map any.reading (map expr args))) (all_fine (map shape (map expr args)))
        (values.new_object ident (map lowering (map expr args)) span)
        (λ fine apart fit. new_object_leaves allows scope ident (map lowering (map expr args)) span (all_leave args fine apart fit))
    kind_layer (ExprKind-F.NewArray ty size) span =
        no_place (parts_of (expr size)) (any.reading (expr size)).form.accesses (shape (expr size)).fine (values.new_array (lowering (expr size)) span)
        (λ fine apart fit. new_array_leaves allows scope (lowering (expr size)) span (part size fine apart fit))
    kind_layer (ExprKind-F.NewItems ty items) span =
        no_place (accesses.all (map init_parts (map init items))) (any.all (map init_accesses (map init items))) (all_true (map is_readable_init (map init items))) _
        (λ fine apart fit. computes_leaves allows scope _ span
        (λ made below. filled_leaves allows scope (map filling (map init items)) span (all_fill items fine apart fit) (type_at scope span) made below))
    kind_layer (ExprKind-F.Unary operator operand) span =
        no_place (parts_of (expr operand)) (any.reading (expr operand)).form.accesses (shape (expr operand)).fine (values.unary_of operator (lowering (expr operand)) span)
        (λ fine apart fit. unary_leaves allows scope operator (lowering (expr operand)) span (part operand fine apart fit))
    kind_layer (ExprKind-F.Binary operator left right) span =
        no_place (accesses.operands operator (parts_of (expr left)) (parts_of (expr right))) ((any.reading (expr left)).form.accesses ++ (any.reading (expr right)).form.accesses)
        ((shape (expr left)).fine && (shape (expr right)).fine)
        (values.binary_of operator (lowering (expr left)) (lowering (expr right)) span)
        (λ fine apart fit.
        let f = and_parts (shape (expr left)).fine (shape (expr right)).fine fine in
        let a = split (parts_of (expr left)).assigned (parts_of (expr right)).assigned apart in
        let g = all_split Fits (any.reading (expr left)).form.accesses (any.reading (expr right)).form.accesses fit in
        binary_leaves allows scope operator (lowering (expr left)) (lowering (expr right)) span (part left f.0 a.0 g.0) (part right f.1 a.1 g.1))
    kind_layer (ExprKind-F.Assign operator target value) span =
        no_place (accesses.both (accesses.as_target (reading (expr target))) (parts_of (expr value))) ((any.reading (expr target)).form.accesses ++ (any.reading (expr value)).form.accesses)
        ((shape (expr target)).place && ((shape (expr target)).fine && (shape (expr value)).fine)) (values.assign_of operator (lowering (expr target)) (lowering (expr value)) span)
        (λ fine apart fit.
        let f = and_parts (shape (expr target)).place ((shape (expr target)).fine && (shape (expr value)).fine) fine in
        let h = and_parts (shape (expr target)).fine (shape (expr value)).fine f.1 in
        let a = split (place_of (reading (expr target)).name ++ (parts_of (expr target)).assigned) (parts_of (expr value)).assigned apart in
        let b = split (place_of (reading (expr target)).name) (parts_of (expr target)).assigned a.0 in
        let g = all_split Fits (any.reading (expr target)).form.accesses (any.reading (expr value)).form.accesses fit in
        assign_leaves allows scope operator (lowering (expr target)) (lowering (expr value)) span (part target h.0 b.1 g.0) ((expr_is target).holds.aims f.0 b.0 g.0) (part value h.1 a.1 g.1))
    kind_layer (ExprKind-F.Step up after target) span =
        no_place (accesses.as_target (reading (expr target))) (any.reading (expr target)).form.accesses ((shape (expr target)).place && (shape (expr target)).fine) (values.step up after (lowering (expr target)) span)
        (λ fine apart fit.
        let f = and_parts (shape (expr target)).place (shape (expr target)).fine fine in
        let b = split (place_of (reading (expr target)).name) (parts_of (expr target)).assigned apart in
        step_leaves allows scope up after (lowering (expr target)) span (part target f.1 b.1 fit) ((expr_is target).holds.aims f.0 b.0 fit))

    kind_rolled : (y : ExprKind-F K I E) → KindIs (roll-ExprKind (map-ExprKind K I E ExprKind Init Expr kind init expr y))
    kind_rolled y span =
        let a = fold-roll-ExprKind Shape Bool Shape readable.kind_step readable.init_step readable.expr_step (map-ExprKind K I E ExprKind Init Expr kind init expr y) in
        let b = fold-roll-ExprKind Reading Parts Reading accesses.kind_step accesses.init_step accesses.expr_step (map-ExprKind K I E ExprKind Init Expr kind init expr y) in
        let c = fold-roll-ExprKind Form (List AnyAccess) any.Reading any.kind_step any.init_step any.expr_step (map-ExprKind K I E ExprKind Init Expr kind init expr y) in
        let d = fold-roll-ExprKind (Span → Lowering) Filling Lowering values.kind_step values.init_step values.expr_step (map-ExprKind K I E ExprKind Init Expr kind init expr y) in
        moved span a b c d (kind_layer y span)

    init_layer : (y : Init-F K I E) → InitHolds
        (readable.init_step (map-Init ExprKind Init Expr Shape Bool Shape kind_shape is_readable_init shape (map-Init K I E ExprKind Init Expr kind init expr y)))
        (accesses.init_step (map-Init ExprKind Init Expr Reading Parts Reading kind_reading init_parts reading (map-Init K I E ExprKind Init Expr kind init expr y)))
        (any.init_step (map-Init ExprKind Init Expr Form (List AnyAccess) any.Reading kind_form init_accesses any.reading (map-Init K I E ExprKind Init Expr kind init expr y)))
        (values.init_step (map-Init ExprKind Init Expr (Span → Lowering) Filling Lowering kind_lowering filling lowering (map-Init K I E ExprKind Init Expr kind init expr y)))
    init_layer (Init-F.Value e) fine apart fit ty made below = (part e fine apart fit).value made below
    init_layer (Init-F.Items items span) fine apart fit ty made below = filled_leaves allows scope (map filling (map init items)) span (all_fill items fine apart fit) ty made below

    init_rolled : (y : Init-F K I E) → InitIs (roll-Init (map-Init K I E ExprKind Init Expr kind init expr y))
    init_rolled y =
        let a = fold-roll-Init Shape Bool Shape readable.kind_step readable.init_step readable.expr_step (map-Init K I E ExprKind Init Expr kind init expr y) in
        let b = fold-roll-Init Reading Parts Reading accesses.kind_step accesses.init_step accesses.expr_step (map-Init K I E ExprKind Init Expr kind init expr y) in
        let c = fold-roll-Init Form (List AnyAccess) any.Reading any.kind_step any.init_step any.expr_step (map-Init K I E ExprKind Init Expr kind init expr y) in
        let d = fold-roll-Init (Span → Lowering) Filling Lowering values.kind_step values.init_step values.expr_step (map-Init K I E ExprKind Init Expr kind init expr y) in
        moved_init a b c d (init_layer y)

    expr_rolled : ((k : K) → KindIs (kind k)) → (y : Expr-F K I E) → ExprIs (roll-Expr (map-Expr K I E ExprKind Init Expr kind init expr y))
    expr_rolled kind_is y =
        let a = fold-roll-Expr Shape Bool Shape readable.kind_step readable.init_step readable.expr_step (map-Expr K I E ExprKind Init Expr kind init expr y) in
        let b = fold-roll-Expr Reading Parts Reading accesses.kind_step accesses.init_step accesses.expr_step (map-Expr K I E ExprKind Init Expr kind init expr y) in
        let c = fold-roll-Expr Form (List AnyAccess) any.Reading any.kind_step any.init_step any.expr_step (map-Expr K I E ExprKind Init Expr kind init expr y) in
        let d = fold-roll-Expr (Span → Lowering) Filling Lowering values.kind_step values.init_step values.expr_step (map-Expr K I E ExprKind Init Expr kind init expr y) in
        let g = kind_is y.kind y.span in
        moved_expr a b c d (record {
          holds = record {
            leaves = λ fine apart fit. let l = g.leaves fine apart fit in record { value = l.value; condition = l.condition; target = l.target; unused = l.unused };
            aims = λ place apart fit made. g.aims place apart fit made;
            slot = g.slot;
          };
          span = refl;
        })

  expression_is : (e : Expr) → ExprIs e
  expression_is = ind-Expr KindIs InitIs ExprIs
      (λ x y e. subst (λ layer. KindIs (roll-ExprKind layer)) e (kind_rolled (λ k. k.0) (λ i. i.0) (λ x. x.0) (λ i. i.1) (λ x. x.1) y))
      (λ x y e. subst (λ layer. InitIs (roll-Init layer)) e (init_rolled (λ k. k.0) (λ i. i.0) (λ x. x.0) (λ i. i.1) (λ x. x.1) y))
      (λ x y e. subst (λ layer. ExprIs (roll-Expr layer)) e (expr_rolled (λ k. k.0) (λ i. i.0) (λ x. x.0) (λ i. i.1) (λ x. x.1) (λ k. k.1) y))

  -- An expression whose assigned names and accesses are fine.
  pub expression_leaves : (e : Expr) → is_readable_expr e ≡ true → AssignsAims (parts_of e).assigned → AllOf Fits (all_accesses e) → Leaving P Low scope (lowering e)
  expression_leaves e = (expression_is e).holds.leaves

  -- so an initialiser
  pub initialiser_leaves : (i : Init) → is_readable_init i ≡ true → AssignsAims (init_parts i).assigned → AllOf Fits (init_accesses i) → FillsLeaving P Low scope (filling i)
  initialiser_leaves = ind-Init KindIs InitIs ExprIs
      (λ x y e. subst (λ layer. KindIs (roll-ExprKind layer)) e (kind_rolled (λ k. k.0) (λ i. i.0) (λ x. x.0) (λ i. i.1) (λ x. x.1) y))
      (λ x y e. subst (λ layer. InitIs (roll-Init layer)) e (init_rolled (λ k. k.0) (λ i. i.0) (λ x. x.0) (λ i. i.1) (λ x. x.1) y))
      (λ x y e. subst (λ layer. ExprIs (roll-Expr layer)) e (expr_rolled (λ k. k.0) (λ i. i.0) (λ x. x.0) (λ i. i.1) (λ x. x.1) (λ k. k.1) y))

  -- and a list of them, as the arguments of `super(..)` are
  pub all_leave_slots : (es : List Expr) → all_fine (map shape es) ≡ true → AssignsAims (all_parts es).assigned → AllOf Fits (each_of all_accesses es) → AllOf (Leaving P Low scope) (map lowering es)
  all_leave_slots [] fine apart fit = tt
  all_leave_slots (e ∷ es) fine apart fit =
      let f = and_parts (shape e).fine (all_fine (map shape es)) fine in
      let a = split (parts_of e).assigned (all_parts es).assigned apart in
      let g = all_split Fits (all_accesses e) (each_of all_accesses es) fit in
      (expression_leaves e f.0 a.0 g.0, all_leave_slots es f.1 a.1 g.1)
