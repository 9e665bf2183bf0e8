-- Every expression without errors on names becomes operations that fit, and gives a value of its type.
use Rattle.std.proofs.Common.{◌≡◌, ◌≤◌, ℕ, Bool, true, false, List, [], ◌∷◌, ◌++◌, map, length, Option, Some, None, refl, sym, ap, subst, ◌∙◌, arith}
use Rattle.std.specs.Prelude.{◌&&◌, nat_lt}
use Rattle.std.proofs.lemmas.Bool.{false≢true, and_parts}
use Rattle.ix_text.specs.declared.span.Span.{Span}
use Rattle.ix_num.specs.declared.arith.Arith.{Arith}
use Rattle.ix_core.specs.declared.op.Literal.TheVariants as literal
use Rattle.ix_core.specs.declared.op.OpKind.TheVariants as op
use Rattle.ix_core.specs.Machine.{is_int}
use Rattle.ix_core.specs.Types.{int_type, bool_type, class_type, is_type, is_reference_type}
use Rattle.ix_tree.specs.declared.expr.Expr.{Expr, Expr-F, ind-Expr, map-Expr, roll-Expr, fold-roll-Expr}
use Rattle.ix_tree.specs.declared.expr.ExprKind.{ExprKind, ExprKind-F, map-ExprKind, roll-ExprKind, fold-ExprKind, fold-roll-ExprKind}
use Rattle.ix_tree.specs.declared.expr.Init.{Init, Init-F, ind-Init, map-Init, roll-Init, fold-roll-Init}
use Rattle.ix_tree.specs.Parts as parts
use Rattle.ix_tree.specs.Parts.{Part, together, expr_parts, init_parts, type_parts, most_entries}
use Rattle.ix_meaning.specs.Rules as rules
use Rattle.ix_meaning.specs.Types as types
use Rattle.ix_meaning.specs.Values as reading
use Rattle.ix_meaning.specs.Values.{Reading, KindReading, valued}
use Rattle.ix_plain.specs.Scope.{type_at, or_void, is_among}
use Rattle.ix_plain.specs.Assigned as assigned
use Rattle.ix_plain.specs.Assigned.{Adding, Assigns, all, each, assigns, init_assigns, both}
use Rattle.ix_plain.specs.Parts.{in_place, computed}
use Rattle.ix_plain.specs.Values as values
use Rattle.ix_plain.specs.Values.{Lowering, Filling, lowering, filling}
use Rattle.ix_formed.specs.Additions.{Makes, AllOf}
use Rattle.ix_formed.specs.Readable as readable
use Rattle.ix_formed.specs.Readable.{Shape, shape, is_readable_init, all_fine}
use Rattle.ix_formed.specs.Typed.{Gives, Setting, IsHere, IsSet, Fits, FitsTarget, FitsFilling}
use Rattle.ix_formed.specs.Written as written
use Rattle.ix_formed.specs.Written.{is_written_expr, is_written_init, all_true}
use Rattle.ix_formed.proofs.AssignedVariables.{Appends, among_left, among_right, assigns_append, init_assigns_append, none_appends, both_append}
use Rattle.ix_formed.proofs.TypedArrays.{AllFit, element_fits, element_target, new_array_fits, new_items_fits, value_filling, items_filling}
use Rattle.ix_formed.proofs.TypedAssignments.{assignment_fits, compound_fits, step_fits}
use Rattle.ix_formed.proofs.TypedCalls.{AllFits, bare_fits, dot_fits, new_fits_too}
use Rattle.ix_formed.proofs.TypedChecks.{computes_fits, lowering_at, reading_at}
use Rattle.ix_formed.proofs.TypedNames.{int_yields, constant_yields, this_held}
use Rattle.ix_formed.proofs.TypedOperators.{unary_fits, binary_fits}
use Rattle.ix_formed.proofs.TypedPoints.{keeps_none}
use Rattle.ix_formed.proofs.TypedSelections.{name_fits, name_target, selection_fits, selection_target}
use Rattle.ix_formed.proofs.TypedSteps.{value_in_place, this_apart}

pub all_parted : {A : Type 0} (P : A → Type 0) (xs ys : List A) → AllOf P (xs ++ ys) → AllOf P xs × AllOf P ys
all_parted P [] ys a = (tt, a)
all_parted P (x ∷ xs) ys a = let r = all_parted P xs ys a.1 in ((a.0, r.0), r.1)

module _ (z : Setting) (set : IsSet z) where
  -- the variables that are assigned in it are among those of the full expression
  abbrev pub Covers : Adding → Type 0
  Covers adding = (slot : ℕ) → is_among slot (adding z.scope []) ≡ true → is_among slot z.scope.assigned ≡ true

  pub covers_both : (f g : Adding) → Appends g → Covers (both f g) → Covers f × Covers g
  covers_both f g a covers =
      let split : both f g z.scope [] ≡ f z.scope [] ++ g z.scope [] = a z.scope.site z.scope.locals z.scope.assigned z.scope.assigned (f z.scope []) in (
        (λ slot e. covers slot (ap (is_among slot) split ∙ among_left slot (f z.scope []) (g z.scope []) e)),
        (λ slot e. covers slot (ap (is_among slot) split ∙ among_right slot (f z.scope []) (g z.scope []) e)),
      )

  abbrev Here : List Part → Type 0
  Here ps = AllOf (IsHere z) ps

  here_both : (xs ys : List Part) → Here (xs ++ ys) → Here xs × Here ys
  here_both xs ys here = all_parted (IsHere z) xs ys here

  abbrev kind_lowering : ExprKind → Span → Lowering
  kind_lowering = fold-ExprKind (Span → Lowering) Filling Lowering values.kind_step values.init_step values.expr_step

  abbrev kind_reading : ExprKind → KindReading
  kind_reading = reading.kind_reading

  abbrev kind_parts : ExprKind → List Part
  kind_parts = fold-ExprKind (List Part) (List Part) (List Part) parts.kind_step parts.init_step parts.expr_step

  abbrev kind_written : ExprKind → Bool
  kind_written = fold-ExprKind Bool Bool Bool written.kind_step written.init_step written.expr_step

  abbrev kind_shape : ExprKind → Shape
  kind_shape = fold-ExprKind Shape Bool Shape readable.kind_step readable.init_step readable.expr_step

  abbrev kind_assigns : ExprKind → Assigns
  kind_assigns = fold-ExprKind Assigns Adding Assigns assigned.kind_step assigned.init_step assigned.expr_step

  -- an expression fits, it stands in the full expression, and a place may be assigned
  abbrev Both : Lowering → Reading → Shape → Assigns → Type 0
  Both l r s a = Fits z l r × z.here l.span × (s.place ≡ true → Covers a.own → FitsTarget z l r)

  abbrev KindIs : ExprKind → Type 0
  KindIs k = (span : Span) → z.here span → Here (kind_parts k) → kind_written k ≡ true → (kind_shape k).fine ≡ true → Covers (kind_assigns k).inside
      → Both (lowering_at z set (kind_lowering k span) span) (reading_at z set (kind_reading k) span) (kind_shape k) (kind_assigns k)

  abbrev ExprIs : Expr → Type 0
  ExprIs e = Here (expr_parts e) → is_written_expr e ≡ true → (shape e).fine ≡ true → Covers (assigns e).inside → Both (lowering e) (reading.reading e) (shape e) (assigns e)

  abbrev InitIs : Init → Type 0
  InitIs i = Here (init_parts i) → is_written_init i ≡ true → is_readable_init i ≡ true → Covers (init_assigns i) → FitsFilling z (filling i) (reading.filling i)

  -- ---- forms without parts

  int_fits : (n : _) (span : Span) → is_int n ≡ true → Fits z (lowering_at z set (values.computes (λ scope made. values.int_value n span made) span) span) (reading_at z set (valued (λ s p. types.judged (Some types.int) [])) span)
  int_fits n span int = computes_fits z set span (valued (λ s p. types.judged (Some types.int) [])) (λ scope made. values.int_value n span made) refl refl (λ s at. refl)
      (λ said table. record { ty = int_type; typed = refl; of_type = refl; yields = int_yields z set n span int })

  bool_fits : (answer : Bool) (span : Span) → Fits z (lowering_at z set (values.bool answer span) span) (reading_at z set (valued (λ s p. types.judged (Some types.boolean) [])) span)
  bool_fits answer span =
      let c = computes_fits z set span (valued (λ s p. types.judged (Some types.boolean) [])) (λ scope made. computed made (op.Const made.free (literal.Bool answer)) span) refl refl (λ s at. refl)
      (λ said table. record { ty = bool_type; typed = refl; of_type = refl; yields = λ made point ready. constant_yields z set (literal.Bool answer) span made point ready refl }) in
      record {
        same = refl;
        value = c.value;
        null = c.null;
        condition = λ said is free point le stands. record {
          holds = point;
          fails = point;
          up = omega arith;
          plain = record { straight = refl; supers = refl };
          decides = λ now le. record { fits = refl; true_at = refl; false_at = refl };
          keeps_holds = keeps_none free point;
          keeps_fails = keeps_none free point;
        };
        receiver = c.receiver;
        unused = c.unused;
        this = c.this;
      }

  abbrev null_kind : KindReading
  null_kind = record {
    is_null = true;
    is_this = false;
    judge = λ s p. types.judged None (types.wrong Rattle.ix_meaning.specs.declared.note.Rule.TheVariants.TypeMismatch p);
    assigned = λ s p. types.judged None (types.wrong Rattle.ix_meaning.specs.declared.note.Rule.TheVariants.TypeMismatch p);
    receiver = λ s p. reading.received reading.no_object (types.wrong Rattle.ix_meaning.specs.declared.note.Rule.TheVariants.TypeMismatch p);
  }

  null_fits : (span : Span) → Fits z (lowering_at z set (values.null span) span) (reading_at z set null_kind span)
  null_fits span = record {
    same = refl;
    value = λ said. absurd said.0;
    null = λ yes_null ty reference real table made point ready.
        let same : type_at z.scope span ≡ ty = ap or_void table in
        subst (λ t. Makes (Gives z.program z.method z.locals z.fixed z.avoided made point ty) (computed made (op.Const made.free (literal.NullOf t)) span)) (sym same)
        (constant_yields z set (literal.NullOf ty) span made point ready (Rattle.ix_formed.proofs.NumberLists.both_true (is_reference_type ty) (is_type z.program ty) reference real));
    condition = λ said. absurd said.0;
    receiver = λ said. absurd said.0;
    unused = λ said. absurd said.0;
    this = λ e. absurd (false≢true e);
  }

  abbrev this_kind : KindReading
  this_kind = record {
    is_null = false;
    is_this = true;
    judge = λ s p. types.judged (Some (class_type s.class)) (rules.not_static s false p);
    assigned = λ s p. types.judged (Some (class_type s.class)) (rules.not_static s false p);
    receiver = λ s p. reading.as_object (types.judged (Some (class_type s.class)) (rules.not_static s false p)) p;
  }

  -- `this` is in slot 0
  abbrev this_valued : KindReading
  this_valued = valued (λ s p. types.judged (Some (class_type s.class)) (rules.not_static s false p))

  this_fits : (span : Span) → Fits z (lowering_at z set (values.computes (λ scope made. in_place made 0) span) span) (reading_at z set this_kind span)
  this_fits span =
      let c = computes_fits z set span this_valued (λ scope made. in_place made 0) refl refl (λ s at. refl)
      (λ said table.
      let has = by_has z.names.has_object (Rattle.ix_formed.proofs.TypedChecks.unbroken z _ Rattle.ix_meaning.specs.declared.note.Rule.TheVariants.NotStatic span said) in
      record {
        ty = class_type z.names.class;
        typed = refl;
        of_type = set.class_there;
        yields = λ made point ready. value_in_place z.program z.method z.locals z.fixed z.avoided made point 0 (class_type z.names.class) (let a = set.static has in let b = ready.0 in omega (arith, a, b)) (this_apart z set has)
            (λ real. this_held z set point has ready.1);
      }) in
      record { same = refl; value = c.value; null = c.null; condition = c.condition; receiver = c.receiver; unused = c.unused; this = λ e made. refl }
    where
      by_has : (b : Bool) → (Rattle.std.specs.Prelude.not b && true) ≡ false → b ≡ true
      by_has true e = refl
      by_has false e = absurd (false≢true (sym e))

  -- ---- all forms

  module _ {K I E : Type 0} (kind : K → ExprKind) (init : I → Init) (expr : E → Expr) (init_is : (i : I) → InitIs (init i)) (expr_is : (e : E) → ExprIs (expr e)) where
    args_append : (es : List E) → Appends (all (each (map assigns (map expr es))))
    args_append [] = none_appends
    args_append (e ∷ es) = both_append (assigns (expr e)).inside (all (each (map assigns (map expr es)))) (assigns_append (expr e)).1 (args_append es)

    args_fit : (es : List E) → Here (together (map expr_parts (map expr es))) → all_true (map is_written_expr (map expr es)) ≡ true → all_fine (map shape (map expr es)) ≡ true → Covers (all (each (map assigns (map expr es))))
        → AllFits z set (map lowering (map expr es)) (map reading.reading (map expr es))
    args_fit [] here wr fine covers = tt
    args_fit (e ∷ es) here wr fine covers =
        let h = here_both (expr_parts (expr e)) (together (map expr_parts (map expr es))) here in
        let w = and_parts (is_written_expr (expr e)) (all_true (map is_written_expr (map expr es))) wr in
        let n = and_parts (shape (expr e)).fine (all_fine (map shape (map expr es))) fine in
        let c = covers_both (assigns (expr e)).inside (all (each (map assigns (map expr es)))) (args_append es) covers in
        ((expr_is e h.0 w.0 n.0 c.0).0, args_fit es h.1 w.1 n.1 c.1)

    items_append : (is : List I) → Appends (all (map init_assigns (map init is)))
    items_append [] = none_appends
    items_append (i ∷ is) = both_append (init_assigns (init i)) (all (map init_assigns (map init is))) (init_assigns_append (init i)) (items_append is)

    items_fit : (is : List I) → Here (together (map init_parts (map init is))) → all_true (map is_written_init (map init is)) ≡ true → all_true (map is_readable_init (map init is)) ≡ true → Covers (all (map init_assigns (map init is)))
        → AllFit z set (map filling (map init is)) (map reading.filling (map init is))
    items_fit [] here wr fine covers = tt
    items_fit (i ∷ is) here wr fine covers =
        let h = here_both (init_parts (init i)) (together (map init_parts (map init is))) here in
        let w = and_parts (is_written_init (init i)) (all_true (map is_written_init (map init is))) wr in
        let n = and_parts (is_readable_init (init i)) (all_true (map is_readable_init (map init is))) fine in
        let c = covers_both (init_assigns (init i)) (all (map init_assigns (map init is))) (items_append is) covers in
        (init_is i h.0 w.0 n.0 c.0, items_fit is h.1 w.1 n.1 c.1)

    same_count : (is : List I) → length (map filling (map init is)) ≡ length (map init_parts (map init is))
    same_count [] = refl
    same_count (i ∷ is) = let a = same_count is in omega (arith, a)

    few_items : (is : List I) → length (map init_parts (map init is)) ≤ most_entries → length (map filling (map init is)) ≤ most_entries
    few_items is le = let a = same_count is in omega (arith, a, le)

    abbrev l_of : E → Lowering
    l_of e = lowering (expr e)

    abbrev r_of : E → Reading
    r_of e = reading.reading (expr e)

    abbrev ps : E → List Part
    ps e = expr_parts (expr e)

    abbrev wr_of : E → Bool
    wr_of e = is_written_expr (expr e)

    abbrev sh : E → Shape
    sh e = shape (expr e)

    abbrev as_of : E → Assigns
    as_of e = assigns (expr e)

    abbrev KindLayer : ExprKind-F K I E → Type 0
    KindLayer y = let layer = map-ExprKind K I E ExprKind Init Expr kind init expr y in (span : Span) → z.here span
        → Here (parts.kind_step (map-ExprKind ExprKind Init Expr (List Part) (List Part) (List Part) kind_parts init_parts expr_parts layer))
        → written.kind_step (map-ExprKind ExprKind Init Expr Bool Bool Bool kind_written is_written_init is_written_expr layer) ≡ true
        → (readable.kind_step (map-ExprKind ExprKind Init Expr Shape Bool Shape kind_shape is_readable_init shape layer)).fine ≡ true
        → Covers (assigned.kind_step (map-ExprKind ExprKind Init Expr Assigns Adding Assigns kind_assigns init_assigns assigns layer)).inside
        → Both (lowering_at z set (values.kind_step (map-ExprKind ExprKind Init Expr (Span → Lowering) Filling Lowering kind_lowering filling lowering layer) span) span)
        (reading_at z set (reading.kind_step (map-ExprKind ExprKind Init Expr KindReading reading.Filling Reading kind_reading reading.filling reading.reading layer)) span)
        (readable.kind_step (map-ExprKind ExprKind Init Expr Shape Bool Shape kind_shape is_readable_init shape layer))
        (assigned.kind_step (map-ExprKind ExprKind Init Expr Assigns Adding Assigns kind_assigns init_assigns assigns layer))

    assign_layer : (operator : Option Arith) (target value : E) → KindLayer (ExprKind-F.Assign operator target value)
    assign_layer operator target value span at here wr fine covers =
        let h = here_both (ps target) (ps value) here in
        let w = and_parts (wr_of target) (wr_of value) wr in
        let n = and_parts (sh target).place ((sh target).fine && (sh value).fine) fine in
        let m = and_parts (sh target).fine (sh value).fine n.1 in
        let rest = both_append (as_of target).inside (as_of value).inside (assigns_append (expr target)).1 (assigns_append (expr value)).1 in
        let c = covers_both (as_of target).own (both (as_of target).inside (as_of value).inside) rest covers in
        let d = covers_both (as_of target).inside (as_of value).inside (assigns_append (expr value)).1 c.1 in
        let t = expr_is target h.0 w.0 m.0 d.0 in
        let v = expr_is value h.1 w.1 m.1 d.1 in
        let aims = t.2 n.0 c.0 in
        by_operator operator aims t.1 v.0
      where
        by_operator : (o : Option Arith) → FitsTarget z (l_of target) (r_of target) → z.here (l_of target).span → Fits z (l_of value) (r_of value)
            → Both (lowering_at z set (values.assign_of o (l_of target) (l_of value) span) span) (reading_at z set (reading.kind_step (ExprKind-F.Assign o (r_of target) (r_of value))) span)
            (readable.a_value ((sh target).place && ((sh target).fine && (sh value).fine))) (assigned.through (both (as_of target).own (both (as_of target).inside (as_of value).inside)))
        by_operator None aims there v = ((assignment_fits z set (l_of target) (l_of value) (r_of target) (r_of value) aims span at v), at, (λ place own. absurd (false≢true place)))
        by_operator (Some arith_op) aims there v = ((compound_fits z set (l_of target) (l_of value) (r_of target) (r_of value) aims span at arith_op v there), at, (λ place own. absurd (false≢true place)))

    call_layer : (object : Option E) (ident : _) (args : List E) → KindLayer (ExprKind-F.Call object ident args)
    call_layer None ident args span at here wr fine covers =
        ((bare_fits z set (map lowering (map expr args)) (map reading.reading (map expr args)) (args_fit args here.1.1 wr fine covers) ident span here.0), at, (λ place own. absurd (false≢true place)))
    call_layer (Some object) ident args span at here wr fine covers =
        let h = here_both (ps object) _ here in
        let w = and_parts (wr_of object) (all_true (map is_written_expr (map expr args))) wr in
        let n = and_parts (sh object).fine (all_fine (map shape (map expr args))) fine in
        let c = covers_both (as_of object).inside (all (each (map assigns (map expr args)))) (args_append args) covers in
        ((dot_fits z set (map lowering (map expr args)) (map reading.reading (map expr args)) (args_fit args h.1.1.1 w.1 n.1 c.1) ident span h.1.0 (l_of object) (r_of object) (expr_is object h.0 w.0 n.0 c.0).0), at, (λ place own. absurd (false≢true place)))

    kind_layer : (y : ExprKind-F K I E) → KindLayer y
    kind_layer (ExprKind-F.Int n) span at here wr fine covers = ((int_fits n span wr), at, (λ place own. absurd (false≢true place)))
    kind_layer (ExprKind-F.Bool answer) span at here wr fine covers = ((bool_fits answer span), at, (λ place own. absurd (false≢true place)))
    kind_layer ExprKind-F.Null span at here wr fine covers = ((null_fits span), at, (λ place own. absurd (false≢true place)))
    kind_layer ExprKind-F.This span at here wr fine covers = ((this_fits span), at, (λ place own. absurd (false≢true place)))
    kind_layer (ExprKind-F.Name ident) span at here wr fine covers =
        (name_fits z set ident span at here.0, at, (λ place own. name_target z set ident span at here.0 own))
    kind_layer (ExprKind-F.Select object ident) span at here wr fine covers =
        let h = here_both (ps object) _ here in
        let o = expr_is object h.0 wr fine covers in
        (selection_fits z set (l_of object) (r_of object) o.0 ident span h.1.0, at, (λ place own. selection_target z set (l_of object) (r_of object) o.0 ident span h.1.0))
    kind_layer (ExprKind-F.Index array index) span at here wr fine covers =
        let h = here_both (ps array) (ps index) here in
        let w = and_parts (wr_of array) (wr_of index) wr in
        let n = and_parts (sh array).fine (sh index).fine fine in
        let c = covers_both (as_of array).inside (as_of index).inside (assigns_append (expr index)).1 covers in
        let a = expr_is array h.0 w.0 n.0 c.0 in
        let i = expr_is index h.1 w.1 n.1 c.1 in
        (element_fits z set (l_of array) (l_of index) (r_of array) (r_of index) a.0 i.0 span, at, (λ place own. element_target z set (l_of array) (l_of index) (r_of array) (r_of index) a.0 i.0 span))
    kind_layer (ExprKind-F.Call object ident args) span at here wr fine covers = call_layer object ident args span at here wr fine covers
    kind_layer (ExprKind-F.New ident args) span at here wr fine covers =
        ((new_fits_too z set (map lowering (map expr args)) (map reading.reading (map expr args)) (args_fit args here.1.1 wr fine covers) ident span here.0), at, (λ place own. absurd (false≢true place)))
    kind_layer (ExprKind-F.NewArray ty size) span at here wr fine covers =
        let h = here_both (type_parts ty) (ps size) here in
        let w = and_parts (nat_lt 0 ty.depth) (wr_of size) wr in
        ((new_array_fits z set ty (l_of size) (r_of size) span w.0 (expr_is size h.1 w.1 fine covers).0), at, (λ place own. absurd (false≢true place)))
    kind_layer (ExprKind-F.NewItems ty items) span at here wr fine covers =
        let h = here_both (type_parts ty) _ here in
        let w = and_parts (nat_lt 0 ty.depth) (all_true (map is_written_init (map init items))) wr in
        ((new_items_fits z set ty (map filling (map init items)) (map reading.filling (map init items)) span w.0 (items_fit items h.1.1 w.1 fine covers) (few_items items h.1.0)), at, (λ place own. absurd (false≢true place)))
    kind_layer (ExprKind-F.Unary operator operand) span at here wr fine covers = ((unary_fits z set operator (l_of operand) (r_of operand) span (expr_is operand here wr fine covers).0), at, (λ place own. absurd (false≢true place)))
    kind_layer (ExprKind-F.Binary operator left right) span at here wr fine covers =
        let h = here_both (ps left) (ps right) here in
        let w = and_parts (wr_of left) (wr_of right) wr in
        let n = and_parts (sh left).fine (sh right).fine fine in
        let c = covers_both (as_of left).inside (as_of right).inside (assigns_append (expr right)).1 covers in
        ((binary_fits z set operator (l_of left) (l_of right) (r_of left) (r_of right) span (expr_is left h.0 w.0 n.0 c.0).0 (expr_is right h.1 w.1 n.1 c.1).0), at, (λ place own. absurd (false≢true place)))
    kind_layer (ExprKind-F.Assign operator target value) span at here wr fine covers = assign_layer operator target value span at here wr fine covers
    kind_layer (ExprKind-F.Step up after target) span at here wr fine covers =
        let n = and_parts (sh target).place (sh target).fine fine in
        let c = covers_both (as_of target).own (as_of target).inside (assigns_append (expr target)).1 covers in
        let t = expr_is target here wr n.1 c.1 in
        ((step_fits z set (l_of target) (r_of target) (t.2 n.0 c.0) up after span at t.1), at, (λ place own. absurd (false≢true place)))

    -- ---- through the folds

    kind_rolled : (y : ExprKind-F K I E) → KindIs (roll-ExprKind (map-ExprKind K I E ExprKind Init Expr kind init expr y))
    kind_rolled y span at here wr fine covers =
        let layer = map-ExprKind K I E ExprKind Init Expr kind init expr y in
        let k = roll-ExprKind layer in
        let p = fold-roll-ExprKind (List Part) (List Part) (List Part) parts.kind_step parts.init_step parts.expr_step layer in
        let w = fold-roll-ExprKind Bool Bool Bool written.kind_step written.init_step written.expr_step layer in
        let n = fold-roll-ExprKind Shape Bool Shape readable.kind_step readable.init_step readable.expr_step layer in
        let c = fold-roll-ExprKind Assigns Adding Assigns assigned.kind_step assigned.init_step assigned.expr_step layer in
        let l = fold-roll-ExprKind (Span → Lowering) Filling Lowering values.kind_step values.init_step values.expr_step layer in
        let r = fold-roll-ExprKind KindReading reading.Filling Reading reading.kind_step reading.init_step reading.expr_step layer in
        let done = kind_layer y span at (subst Here p here) (sym w ∙ wr) (ap (λ (x : Shape). x.fine) (sym n) ∙ fine) (subst (λ (a : Assigns). Covers a.inside) c covers) in
        let a = subst (λ (f : Span → Lowering). Both (lowering_at z set (f span) span) (reading_at z set (reading.kind_step (map-ExprKind ExprKind Init Expr KindReading reading.Filling Reading kind_reading reading.filling reading.reading layer)) span)
        (readable.kind_step (map-ExprKind ExprKind Init Expr Shape Bool Shape kind_shape is_readable_init shape layer))
        (assigned.kind_step (map-ExprKind ExprKind Init Expr Assigns Adding Assigns kind_assigns init_assigns assigns layer))) (sym l) done in
        let b = subst (λ (f : KindReading). Both (lowering_at z set (kind_lowering k span) span) (reading_at z set f span)
        (readable.kind_step (map-ExprKind ExprKind Init Expr Shape Bool Shape kind_shape is_readable_init shape layer))
        (assigned.kind_step (map-ExprKind ExprKind Init Expr Assigns Adding Assigns kind_assigns init_assigns assigns layer))) (sym r) a in
        let d = subst (λ (x : Shape). Both (lowering_at z set (kind_lowering k span) span) (reading_at z set (kind_reading k) span) x
        (assigned.kind_step (map-ExprKind ExprKind Init Expr Assigns Adding Assigns kind_assigns init_assigns assigns layer))) (sym n) b in
        subst (λ (x : Assigns). Both (lowering_at z set (kind_lowering k span) span) (reading_at z set (kind_reading k) span) (kind_shape k) x) (sym c) d

    init_layer : (y : Init-F K I E) → let layer = map-Init K I E ExprKind Init Expr kind init expr y in
        Here (parts.init_step (map-Init ExprKind Init Expr (List Part) (List Part) (List Part) kind_parts init_parts expr_parts layer))
        → written.init_step (map-Init ExprKind Init Expr Bool Bool Bool kind_written is_written_init is_written_expr layer) ≡ true
        → readable.init_step (map-Init ExprKind Init Expr Shape Bool Shape kind_shape is_readable_init shape layer) ≡ true
        → Covers (assigned.init_step (map-Init ExprKind Init Expr Assigns Adding Assigns kind_assigns init_assigns assigns layer))
        → FitsFilling z (values.init_step (map-Init ExprKind Init Expr (Span → Lowering) Filling Lowering kind_lowering filling lowering layer))
        (reading.init_step (map-Init ExprKind Init Expr KindReading reading.Filling Reading kind_reading reading.filling reading.reading layer))
    init_layer (Init-F.Value e) here wr fine covers = value_filling z set (l_of e) (r_of e) (expr_is e here wr fine covers).0
    init_layer (Init-F.Items items span) here wr fine covers =
        items_filling z set (map filling (map init items)) (map reading.filling (map init items)) span (items_fit items here.1 wr fine covers) (few_items items here.0)

    init_rolled : (y : Init-F K I E) → InitIs (roll-Init (map-Init K I E ExprKind Init Expr kind init expr y))
    init_rolled y here wr fine covers =
        let layer = map-Init K I E ExprKind Init Expr kind init expr y in
        let p = fold-roll-Init (List Part) (List Part) (List Part) parts.kind_step parts.init_step parts.expr_step layer in
        let w = fold-roll-Init Bool Bool Bool written.kind_step written.init_step written.expr_step layer in
        let n = fold-roll-Init Shape Bool Shape readable.kind_step readable.init_step readable.expr_step layer in
        let c = fold-roll-Init Assigns Adding Assigns assigned.kind_step assigned.init_step assigned.expr_step layer in
        let l = fold-roll-Init (Span → Lowering) Filling Lowering values.kind_step values.init_step values.expr_step layer in
        let r = fold-roll-Init KindReading reading.Filling Reading reading.kind_step reading.init_step reading.expr_step layer in
        let done = init_layer y (subst Here p here) (sym w ∙ wr) (sym n ∙ fine) (subst Covers c covers) in
        let a = subst (λ (f : Filling). FitsFilling z f (reading.init_step (map-Init ExprKind Init Expr KindReading reading.Filling Reading kind_reading reading.filling reading.reading layer))) (sym l) done in
        subst (λ (f : reading.Filling). FitsFilling z (filling (roll-Init layer)) f) (sym r) a

    expr_rolled : ((k : K) → KindIs (kind k)) → (y : Expr-F K I E) → ExprIs (roll-Expr (map-Expr K I E ExprKind Init Expr kind init expr y))
    expr_rolled kind_is y here wr fine covers =
        let layer = map-Expr K I E ExprKind Init Expr kind init expr y in
        let e = roll-Expr layer in
        let k = kind y.kind in
        let p = fold-roll-Expr (List Part) (List Part) (List Part) parts.kind_step parts.init_step parts.expr_step layer in
        let w = fold-roll-Expr Bool Bool Bool written.kind_step written.init_step written.expr_step layer in
        let n = fold-roll-Expr Shape Bool Shape readable.kind_step readable.init_step readable.expr_step layer in
        let c = fold-roll-Expr Assigns Adding Assigns assigned.kind_step assigned.init_step assigned.expr_step layer in
        let l = fold-roll-Expr (Span → Lowering) Filling Lowering values.kind_step values.init_step values.expr_step layer in
        let r = fold-roll-Expr KindReading reading.Filling Reading reading.kind_step reading.init_step reading.expr_step layer in
        let h = subst Here p here in
        let done = kind_is y.kind y.span h.0 h.1 (sym w ∙ wr) (ap (λ (x : Shape). x.fine) (sym n) ∙ fine) (subst (λ (a : Assigns). Covers a.inside) c covers) in
        let a = subst (λ (f : Lowering). Both f (reading_at z set (kind_reading k) y.span) (kind_shape k) (kind_assigns k)) (sym l) done in
        let b = subst (λ (f : Reading). Both (lowering e) f (kind_shape k) (kind_assigns k)) (sym r) a in
        let d = subst (λ (x : Shape). Both (lowering e) (reading.reading e) x (kind_assigns k)) (sym n) b in
        subst (λ (x : Assigns). Both (lowering e) (reading.reading e) (shape e) x) (sym c) d

  -- An expression fits, as each place wants it.
  pub expression_fits : (e : Expr) → ExprIs e
  expression_fits = ind-Expr KindIs InitIs ExprIs
      (λ x y e. subst (λ layer. KindIs (roll-ExprKind layer)) e (kind_rolled (λ k. k.0) (λ i. i.0) (λ x. x.0) (λ i. i.1) (λ x. x.1) y))
      (λ x y e. subst (λ layer. InitIs (roll-Init layer)) e (init_rolled (λ k. k.0) (λ i. i.0) (λ x. x.0) (λ i. i.1) (λ x. x.1) y))
      (λ x y e. subst (λ layer. ExprIs (roll-Expr layer)) e (expr_rolled (λ k. k.0) (λ i. i.0) (λ x. x.0) (λ i. i.1) (λ x. x.1) (λ k. k.1) y))

  -- and so does an initialiser
  pub initialiser_fits : (i : Init) → InitIs i
  initialiser_fits = ind-Init KindIs InitIs ExprIs
      (λ x y e. subst (λ layer. KindIs (roll-ExprKind layer)) e (kind_rolled (λ k. k.0) (λ i. i.0) (λ x. x.0) (λ i. i.1) (λ x. x.1) y))
      (λ x y e. subst (λ layer. InitIs (roll-Init layer)) e (init_rolled (λ k. k.0) (λ i. i.0) (λ x. x.0) (λ i. i.1) (λ x. x.1) y))
      (λ x y e. subst (λ layer. ExprIs (roll-Expr layer)) e (expr_rolled (λ k. k.0) (λ i. i.0) (λ x. x.0) (λ i. i.1) (λ x. x.1) (λ k. k.1) y))
