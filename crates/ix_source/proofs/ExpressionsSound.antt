-- Every expression without errors on names is sound, as each place wants it.
use Rattle.std.proofs.Common.{◌≡◌, Bool, true, false, List, [], ◌∷◌, ◌++◌, map, Option, Some, None, refl, sym, ap, subst, ◌∙◌}
use Rattle.std.specs.Prelude.{◌&&◌, nat_lt}
use Rattle.std.proofs.lemmas.Bool.{false≢true, and_parts}
use Rattle.ix_text.specs.declared.span.Span.{Span}
use Rattle.ix_tree.specs.declared.expr.Expr.{Expr, Expr-F, ind-Expr, map-Expr, roll-Expr, fold-roll-Expr}
use Rattle.ix_tree.specs.declared.expr.ExprKind.{ExprKind, ExprKind-F, map-ExprKind, roll-ExprKind, fold-ExprKind, fold-roll-ExprKind}
use Rattle.ix_tree.specs.declared.expr.Init.{Init, Init-F, ind-Init, map-Init, roll-Init, fold-roll-Init}
use Rattle.ix_tree.specs.Parts as parts
use Rattle.ix_tree.specs.Parts.{Part, together, expr_parts, init_parts, type_parts}
use Rattle.ix_meaning.specs.Rules as rules
use Rattle.ix_meaning.specs.Types as types
use Rattle.ix_meaning.specs.Values as reading
use Rattle.ix_meaning.specs.Values.{Reading, KindReading, valued}
use Rattle.ix_plain.specs.Assigned as assigned
use Rattle.ix_plain.specs.Assigned.{Adding, Assigns, all, each, assigns, init_assigns, both}
use Rattle.ix_plain.specs.Values.{Lowering, lowering}
use Rattle.ix_formed.specs.Additions.{AllOf}
use Rattle.ix_formed.specs.Readable as readable
use Rattle.ix_formed.specs.Readable.{Shape, shape, is_readable_init, all_fine}
use Rattle.ix_formed.specs.Typed as typed
use Rattle.ix_formed.specs.Typed.{IsHere}
use Rattle.ix_formed.specs.Written as written
use Rattle.ix_formed.specs.Written.{is_written_expr, is_written_init, all_true}
use Rattle.ix_formed.proofs.AssignedVariables.{Appends, assigns_append, init_assigns_append, none_appends, both_append}
use Rattle.ix_formed.proofs.TypedChecks.{reading_at}
use Rattle.ix_formed.proofs.TypedExpressions.{all_parted, Covers, covers_both, expression_fits}
use Rattle.ix_source.specs.Along.{Setting}
use Rattle.ix_source.specs.Sound as sound
use Rattle.ix_source.specs.Sound.{Soundness, soundness, init_soundness, used}
use Rattle.ix_source.specs.WellNamed.{View, IsSeen, IsSound, IsSoundTarget, IsSoundFilling}
use Rattle.ix_source.proofs.SoundArrays.{AllFilled, element_sound, element_target, new_array_sound, new_items_sound, value_filled, items_filled}
use Rattle.ix_source.proofs.SoundCalls.{bare_sound, dot_sound, new_sound}
use Rattle.ix_source.proofs.SoundNames.{name_sound, name_target, this_is}
use Rattle.ix_source.proofs.SoundOperators.{unary_sound, binary_sound, assign_sound, step_sound}
use Rattle.ix_source.proofs.SoundParts.{AllAre, computed_sound}
use Rattle.ix_source.proofs.SoundSelections.{selection_sound, selection_target}

module _ (y : typed.Setting) (set : typed.IsSet y) (v : View) (n : IsSeen y v) where
  abbrev Here : List Part → Type 0
  Here ps = AllOf (IsHere y) ps

  here_both : (xs ys : List Part) → Here (xs ++ ys) → Here xs × Here ys
  here_both xs ys here = all_parted (IsHere y) xs ys here

  abbrev kind_sound : ExprKind → Span → Soundness
  kind_sound = fold-ExprKind (Span → Soundness) (Setting → Bool) Soundness sound.kind_step sound.init_step sound.expr_step

  abbrev kind_reading : ExprKind → KindReading
  kind_reading = reading.kind_reading

  abbrev kind_parts : ExprKind → List Part
  kind_parts = fold-ExprKind (List Part) (List Part) (List Part) parts.kind_step parts.init_step parts.expr_step

  abbrev kind_written : ExprKind → Bool
  kind_written = fold-ExprKind Bool Bool Bool written.kind_step written.init_step written.expr_step

  abbrev kind_shape : ExprKind → Shape
  kind_shape = fold-ExprKind Shape Bool Shape readable.kind_step readable.init_step readable.expr_step

  abbrev kind_assigns : ExprKind → Assigns
  kind_assigns = fold-ExprKind Assigns Adding Assigns assigned.kind_step assigned.init_step assigned.expr_step

  -- an expression is sound, and so it is where it may be assigned
  abbrev Both : Soundness → Reading → Shape → Assigns → Type 0
  Both s r sh a = IsSound y v s r × (sh.place ≡ true → Covers y set a.own → IsSoundTarget y v s r)

  abbrev KindIs : ExprKind → Type 0
  KindIs k = (span : Span) → y.here span → Here (kind_parts k) → kind_written k ≡ true → (kind_shape k).fine ≡ true → Covers y set (kind_assigns k).inside
      → Both (kind_sound k span) (reading_at y set (kind_reading k) span) (kind_shape k) (kind_assigns k)

  abbrev ExprIs : Expr → Type 0
  ExprIs e = Here (expr_parts e) → is_written_expr e ≡ true → (shape e).fine ≡ true → Covers y set (assigns e).inside → Both (soundness e) (reading.reading e) (shape e) (assigns e)

  abbrev InitIs : Init → Type 0
  InitIs i = Here (init_parts i) → is_written_init i ≡ true → is_readable_init i ≡ true → Covers y set (init_assigns i) → IsSoundFilling y v (init_soundness i) (reading.filling i)

  -- ---- forms without parts

  literal_sound : (span : Span) (ty : _) → IsSound y v (sound.computes (λ z. true) span) (reading_at y set (valued (λ s p. types.judged (Some ty) [])) span)
  literal_sound span ty = computed_sound y set v span (valued (λ s p. types.judged (Some ty) [])) (sound.computes (λ z. true) span) refl (λ at. refl) refl refl (λ said table. refl)

  abbrev null_kind : KindReading
  null_kind = record {
    is_null = true;
    is_this = false;
    judge = λ s p. types.judged None (types.wrong Rattle.ix_meaning.specs.declared.note.Rule.TheVariants.TypeMismatch p);
    assigned = λ s p. types.judged None (types.wrong Rattle.ix_meaning.specs.declared.note.Rule.TheVariants.TypeMismatch p);
    receiver = λ s p. reading.received reading.no_object (types.wrong Rattle.ix_meaning.specs.declared.note.Rule.TheVariants.TypeMismatch p);
  }

  null_sound : (span : Span) → IsSound y v (sound.computes (λ z. true) span) (reading_at y set null_kind span)
  null_sound span = record { span = refl; value = λ said. refl; null = λ e. refl; unused = λ said. refl; object = λ ty said e. refl }

  abbrev this_kind : KindReading
  this_kind = record {
    is_null = false;
    is_this = true;
    judge = λ s p. types.judged (Some (Rattle.ix_core.specs.Types.class_type s.class)) (rules.not_static s false p);
    assigned = λ s p. types.judged (Some (Rattle.ix_core.specs.Types.class_type s.class)) (rules.not_static s false p);
    receiver = λ s p. reading.as_object (types.judged (Some (Rattle.ix_core.specs.Types.class_type s.class)) (rules.not_static s false p)) p;
  }

  this_sound : (span : Span) → IsSound y v (sound.computes (λ z. z.has_this) span) (reading_at y set this_kind span)
  this_sound span = computed_sound y set v span this_kind (sound.computes (λ z. z.has_this) span) refl (λ at. refl) refl refl (λ said table. this_is y set v n false span refl said)

  -- ---- all forms

  module _ {K I E : Type 0} (kind : K → ExprKind) (init : I → Init) (expr : E → Expr) (init_is : (i : I) → InitIs (init i)) (expr_is : (e : E) → ExprIs (expr e)) where
    abbrev l_of : E → Lowering
    l_of e = lowering (expr e)

    abbrev r_of : E → Reading
    r_of e = reading.reading (expr e)

    abbrev s_of : E → Soundness
    s_of e = soundness (expr e)

    abbrev ps : E → List Part
    ps e = expr_parts (expr e)

    abbrev wr_of : E → Bool
    wr_of e = is_written_expr (expr e)

    abbrev sh : E → Shape
    sh e = shape (expr e)

    abbrev as_of : E → Assigns
    as_of e = assigns (expr e)

    args_append : (es : List E) → Appends (all (each (map assigns (map expr es))))
    args_append [] = none_appends
    args_append (e ∷ es) = both_append (as_of e).inside (all (each (map assigns (map expr es)))) (assigns_append (expr e)).1 (args_append es)

    args_are : (es : List E) → Here (together (map expr_parts (map expr es))) → all_true (map is_written_expr (map expr es)) ≡ true → all_fine (map shape (map expr es)) ≡ true → Covers y set (all (each (map assigns (map expr es))))
        → AllAre y set v (map lowering (map expr es)) (map reading.reading (map expr es)) (map soundness (map expr es))
    args_are [] here wr fine covers = tt
    args_are (e ∷ es) here wr fine covers =
        let h = here_both (ps e) (together (map expr_parts (map expr es))) here in
        let w = and_parts (wr_of e) (all_true (map is_written_expr (map expr es))) wr in
        let f = and_parts (sh e).fine (all_fine (map shape (map expr es))) fine in
        let c = covers_both y set (as_of e).inside (all (each (map assigns (map expr es)))) (args_append es) covers in
        (((expression_fits y set (expr e) h.0 w.0 f.0 c.0).0, (expr_is e h.0 w.0 f.0 c.0).0), args_are es h.1 w.1 f.1 c.1)

    items_append : (is : List I) → Appends (all (map init_assigns (map init is)))
    items_append [] = none_appends
    items_append (i ∷ is) = both_append (init_assigns (init i)) (all (map init_assigns (map init is))) (init_assigns_append (init i)) (items_append is)

    items_are : (is : List I) → Here (together (map init_parts (map init is))) → all_true (map is_written_init (map init is)) ≡ true → all_true (map is_readable_init (map init is)) ≡ true → Covers y set (all (map init_assigns (map init is)))
        → AllFilled y set v (map init_soundness (map init is)) (map reading.filling (map init is))
    items_are [] here wr fine covers = tt
    items_are (i ∷ is) here wr fine covers =
        let h = here_both (init_parts (init i)) (together (map init_parts (map init is))) here in
        let w = and_parts (is_written_init (init i)) (all_true (map is_written_init (map init is))) wr in
        let f = and_parts (is_readable_init (init i)) (all_true (map is_readable_init (map init is))) fine in
        let c = covers_both y set (init_assigns (init i)) (all (map init_assigns (map init is))) (items_append is) covers in
        (init_is i h.0 w.0 f.0 c.0, items_are is h.1 w.1 f.1 c.1)

    abbrev KindLayer : ExprKind-F K I E → Type 0
    KindLayer x = let layer = map-ExprKind K I E ExprKind Init Expr kind init expr x in (span : Span) → y.here span
        → Here (parts.kind_step (map-ExprKind ExprKind Init Expr (List Part) (List Part) (List Part) kind_parts init_parts expr_parts layer))
        → written.kind_step (map-ExprKind ExprKind Init Expr Bool Bool Bool kind_written is_written_init is_written_expr layer) ≡ true
        → (readable.kind_step (map-ExprKind ExprKind Init Expr Shape Bool Shape kind_shape is_readable_init shape layer)).fine ≡ true
        → Covers y set (assigned.kind_step (map-ExprKind ExprKind Init Expr Assigns Adding Assigns kind_assigns init_assigns assigns layer)).inside
        → Both (sound.kind_step (map-ExprKind ExprKind Init Expr (Span → Soundness) (Setting → Bool) Soundness kind_sound init_soundness soundness layer) span)
        (reading_at y set (reading.kind_step (map-ExprKind ExprKind Init Expr KindReading reading.Filling Reading kind_reading reading.filling reading.reading layer)) span)
        (readable.kind_step (map-ExprKind ExprKind Init Expr Shape Bool Shape kind_shape is_readable_init shape layer))
        (assigned.kind_step (map-ExprKind ExprKind Init Expr Assigns Adding Assigns kind_assigns init_assigns assigns layer))

    no_place : {A : Type 0} → false ≡ true → A
    no_place e = absurd (false≢true e)

    assign_layer : (operator : _) (target value : E) → KindLayer (ExprKind-F.Assign operator target value)
    assign_layer operator target value span at here wr fine covers =
        let h = here_both (ps target) (ps value) here in
        let w = and_parts (wr_of target) (wr_of value) wr in
        let f = and_parts (sh target).place ((sh target).fine && (sh value).fine) fine in
        let m = and_parts (sh target).fine (sh value).fine f.1 in
        let rest = both_append (as_of target).inside (as_of value).inside (assigns_append (expr target)).1 (assigns_append (expr value)).1 in
        let c = covers_both y set (as_of target).own (both (as_of target).inside (as_of value).inside) rest covers in
        let d = covers_both y set (as_of target).inside (as_of value).inside (assigns_append (expr value)).1 c.1 in
        let t = expr_is target h.0 w.0 m.0 d.0 in
        let t_fits = expression_fits y set (expr target) h.0 w.0 m.0 d.0 in
        let x_fits = expression_fits y set (expr value) h.1 w.1 m.1 d.1 in
        (assign_sound y set v (l_of target) (l_of value) (r_of target) (r_of value) (s_of target) (s_of value) (t_fits.2 f.0 c.0) x_fits.0 (t.1 f.0 c.0) (expr_is value h.1 w.1 m.1 d.1).0 operator span, (λ place own. no_place place))

    call_layer : (object : Option E) (ident : _) (args : List E) → KindLayer (ExprKind-F.Call object ident args)
    call_layer None ident args span at here wr fine covers =
        (bare_sound y set v n (map lowering (map expr args)) (map reading.reading (map expr args)) (map soundness (map expr args)) (args_are args here.1.1 wr fine covers) ident here.0 span, (λ place own. no_place place))
    call_layer (Some object) ident args span at here wr fine covers =
        let h = here_both (ps object) _ here in
        let w = and_parts (wr_of object) (all_true (map is_written_expr (map expr args))) wr in
        let f = and_parts (sh object).fine (all_fine (map shape (map expr args))) fine in
        let c = covers_both y set (as_of object).inside (all (each (map assigns (map expr args)))) (args_append args) covers in (
          dot_sound y set v n (map lowering (map expr args)) (map reading.reading (map expr args)) (map soundness (map expr args)) (args_are args h.1.1.1 w.1 f.1 c.1) ident h.1.0 span
              (l_of object) (r_of object) (s_of object) (expression_fits y set (expr object) h.0 w.0 f.0 c.0).0 (expr_is object h.0 w.0 f.0 c.0).0,
          (λ place own. no_place place),
        )

    kind_layer : (x : ExprKind-F K I E) → KindLayer x
    kind_layer (ExprKind-F.Int k) span at here wr fine covers = (literal_sound span types.int, (λ place own. no_place place))
    kind_layer (ExprKind-F.Bool answer) span at here wr fine covers = (literal_sound span types.boolean, (λ place own. no_place place))
    kind_layer ExprKind-F.Null span at here wr fine covers = (null_sound span, (λ place own. no_place place))
    kind_layer ExprKind-F.This span at here wr fine covers = (this_sound span, (λ place own. no_place place))
    kind_layer (ExprKind-F.Name ident) span at here wr fine covers = (name_sound y set v n ident here.0 span, (λ place own. name_target y set v n ident here.0 span at own))
    kind_layer (ExprKind-F.Select object ident) span at here wr fine covers =
        let h = here_both (ps object) _ here in
        let o = (expr_is object h.0 wr fine covers).0 in
        let fits = (expression_fits y set (expr object) h.0 wr fine covers).0 in
        (selection_sound y set v (l_of object) (r_of object) (s_of object) fits o ident h.1.0 span, (λ place own. selection_target y set v (l_of object) (r_of object) (s_of object) fits o ident h.1.0 span))
    kind_layer (ExprKind-F.Index array index) span at here wr fine covers =
        let h = here_both (ps array) (ps index) here in
        let w = and_parts (wr_of array) (wr_of index) wr in
        let f = and_parts (sh array).fine (sh index).fine fine in
        let c = covers_both y set (as_of array).inside (as_of index).inside (assigns_append (expr index)).1 covers in
        let a = (expr_is array h.0 w.0 f.0 c.0).0 in
        let i = (expr_is index h.1 w.1 f.1 c.1).0 in
        let a_fits = (expression_fits y set (expr array) h.0 w.0 f.0 c.0).0 in
        let i_fits = (expression_fits y set (expr index) h.1 w.1 f.1 c.1).0 in
        (element_sound y set v (l_of array) (l_of index) (r_of array) (r_of index) (s_of array) (s_of index) a_fits i_fits a i span, (λ place own. element_target y set v (l_of array) (l_of index) (r_of array) (r_of index) (s_of array) (s_of index) a_fits i_fits a i span))
    kind_layer (ExprKind-F.Call object ident args) span at here wr fine covers = call_layer object ident args span at here wr fine covers
    kind_layer (ExprKind-F.New ident args) span at here wr fine covers =
        (new_sound y set v n (map lowering (map expr args)) (map reading.reading (map expr args)) (map soundness (map expr args)) (args_are args here.1.1 wr fine covers) ident here.0 span, (λ place own. no_place place))
    kind_layer (ExprKind-F.NewArray ty size) span at here wr fine covers =
        let h = here_both (type_parts ty) (ps size) here in
        let w = and_parts (nat_lt 0 ty.depth) (wr_of size) wr in
        (new_array_sound y set v ty (l_of size) (r_of size) (s_of size) span (expression_fits y set (expr size) h.1 w.1 fine covers).0 (expr_is size h.1 w.1 fine covers).0, (λ place own. no_place place))
    kind_layer (ExprKind-F.NewItems ty items) span at here wr fine covers =
        let h = here_both (type_parts ty) _ here in
        let w = and_parts (nat_lt 0 ty.depth) (all_true (map is_written_init (map init items))) wr in
        (new_items_sound y set v ty (map init_soundness (map init items)) (map reading.filling (map init items)) span w.0 (items_are items h.1.1 w.1 fine covers), (λ place own. no_place place))
    kind_layer (ExprKind-F.Unary operator operand) span at here wr fine covers =
        (unary_sound y set v operator (l_of operand) (r_of operand) (s_of operand) span (expression_fits y set (expr operand) here wr fine covers).0 (expr_is operand here wr fine covers).0, (λ place own. no_place place))
    kind_layer (ExprKind-F.Binary operator left right) span at here wr fine covers =
        let h = here_both (ps left) (ps right) here in
        let w = and_parts (wr_of left) (wr_of right) wr in
        let f = and_parts (sh left).fine (sh right).fine fine in
        let c = covers_both y set (as_of left).inside (as_of right).inside (assigns_append (expr right)).1 covers in (
          binary_sound y set v (l_of left) (l_of right) (r_of left) (r_of right) (s_of left) (s_of right) (expression_fits y set (expr left) h.0 w.0 f.0 c.0).0 (expression_fits y set (expr right) h.1 w.1 f.1 c.1).0
              (expr_is left h.0 w.0 f.0 c.0).0 (expr_is right h.1 w.1 f.1 c.1).0 operator span,
          (λ place own. no_place place),
        )
    kind_layer (ExprKind-F.Assign operator target value) span at here wr fine covers = assign_layer operator target value span at here wr fine covers
    kind_layer (ExprKind-F.Step up after target) span at here wr fine covers =
        let f = and_parts (sh target).place (sh target).fine fine in
        let c = covers_both y set (as_of target).own (as_of target).inside (assigns_append (expr target)).1 covers in
        let t = expr_is target here wr f.1 c.1 in
        (step_sound y set v up after (r_of target) (s_of target) span (t.1 f.0 c.0), (λ place own. no_place place))

    -- ---- through the folds

    kind_rolled : (x : ExprKind-F K I E) → KindIs (roll-ExprKind (map-ExprKind K I E ExprKind Init Expr kind init expr x))
    kind_rolled x span at here wr fine covers =
        let layer = map-ExprKind K I E ExprKind Init Expr kind init expr x in
        let k = roll-ExprKind layer in
        let p = fold-roll-ExprKind (List Part) (List Part) (List Part) parts.kind_step parts.init_step parts.expr_step layer in
        let w = fold-roll-ExprKind Bool Bool Bool written.kind_step written.init_step written.expr_step layer in
        let f = fold-roll-ExprKind Shape Bool Shape readable.kind_step readable.init_step readable.expr_step layer in
        let c = fold-roll-ExprKind Assigns Adding Assigns assigned.kind_step assigned.init_step assigned.expr_step layer in
        let l = fold-roll-ExprKind (Span → Soundness) (Setting → Bool) Soundness sound.kind_step sound.init_step sound.expr_step layer in
        let r = fold-roll-ExprKind KindReading reading.Filling Reading reading.kind_step reading.init_step reading.expr_step layer in
        let done = kind_layer x span at (subst Here p here) (sym w ∙ wr) (ap (λ (x : Shape). x.fine) (sym f) ∙ fine) (subst (λ (a : Assigns). Covers y set a.inside) c covers) in
        let a = subst (λ (f : Span → Soundness). Both (f span) (reading_at y set (reading.kind_step (map-ExprKind ExprKind Init Expr KindReading reading.Filling Reading kind_reading reading.filling reading.reading layer)) span)
        (readable.kind_step (map-ExprKind ExprKind Init Expr Shape Bool Shape kind_shape is_readable_init shape layer))
        (assigned.kind_step (map-ExprKind ExprKind Init Expr Assigns Adding Assigns kind_assigns init_assigns assigns layer))) (sym l) done in
        let b = subst (λ (f : KindReading). Both (kind_sound k span) (reading_at y set f span)
        (readable.kind_step (map-ExprKind ExprKind Init Expr Shape Bool Shape kind_shape is_readable_init shape layer))
        (assigned.kind_step (map-ExprKind ExprKind Init Expr Assigns Adding Assigns kind_assigns init_assigns assigns layer))) (sym r) a in
        let d = subst (λ (x : Shape). Both (kind_sound k span) (reading_at y set (kind_reading k) span) x
        (assigned.kind_step (map-ExprKind ExprKind Init Expr Assigns Adding Assigns kind_assigns init_assigns assigns layer))) (sym f) b in
        subst (λ (x : Assigns). Both (kind_sound k span) (reading_at y set (kind_reading k) span) (kind_shape k) x) (sym c) d

    init_layer : (x : Init-F K I E) → let layer = map-Init K I E ExprKind Init Expr kind init expr x in
        Here (parts.init_step (map-Init ExprKind Init Expr (List Part) (List Part) (List Part) kind_parts init_parts expr_parts layer))
        → written.init_step (map-Init ExprKind Init Expr Bool Bool Bool kind_written is_written_init is_written_expr layer) ≡ true
        → readable.init_step (map-Init ExprKind Init Expr Shape Bool Shape kind_shape is_readable_init shape layer) ≡ true
        → Covers y set (assigned.init_step (map-Init ExprKind Init Expr Assigns Adding Assigns kind_assigns init_assigns assigns layer))
        → IsSoundFilling y v (sound.init_step (map-Init ExprKind Init Expr (Span → Soundness) (Setting → Bool) Soundness kind_sound init_soundness soundness layer))
        (reading.init_step (map-Init ExprKind Init Expr KindReading reading.Filling Reading kind_reading reading.filling reading.reading layer))
    init_layer (Init-F.Value e) here wr fine covers = value_filled y set v (l_of e) (r_of e) (s_of e) (expression_fits y set (expr e) here wr fine covers).0 (expr_is e here wr fine covers).0
    init_layer (Init-F.Items items span) here wr fine covers = items_filled y set v (map init_soundness (map init items)) (map reading.filling (map init items)) span (items_are items here.1 wr fine covers)

    init_rolled : (x : Init-F K I E) → InitIs (roll-Init (map-Init K I E ExprKind Init Expr kind init expr x))
    init_rolled x here wr fine covers =
        let layer = map-Init K I E ExprKind Init Expr kind init expr x in
        let p = fold-roll-Init (List Part) (List Part) (List Part) parts.kind_step parts.init_step parts.expr_step layer in
        let w = fold-roll-Init Bool Bool Bool written.kind_step written.init_step written.expr_step layer in
        let f = fold-roll-Init Shape Bool Shape readable.kind_step readable.init_step readable.expr_step layer in
        let c = fold-roll-Init Assigns Adding Assigns assigned.kind_step assigned.init_step assigned.expr_step layer in
        let l = fold-roll-Init (Span → Soundness) (Setting → Bool) Soundness sound.kind_step sound.init_step sound.expr_step layer in
        let r = fold-roll-Init KindReading reading.Filling Reading reading.kind_step reading.init_step reading.expr_step layer in
        let done = init_layer x (subst Here p here) (sym w ∙ wr) (sym f ∙ fine) (subst (Covers y set) c covers) in
        let a = subst (λ (f : Setting → Bool). IsSoundFilling y v f (reading.init_step (map-Init ExprKind Init Expr KindReading reading.Filling Reading kind_reading reading.filling reading.reading layer))) (sym l) done in
        subst (λ (f : reading.Filling). IsSoundFilling y v (init_soundness (roll-Init layer)) f) (sym r) a

    expr_rolled : ((k : K) → KindIs (kind k)) → (x : Expr-F K I E) → ExprIs (roll-Expr (map-Expr K I E ExprKind Init Expr kind init expr x))
    expr_rolled kind_is x here wr fine covers =
        let layer = map-Expr K I E ExprKind Init Expr kind init expr x in
        let e = roll-Expr layer in
        let k = kind x.kind in
        let p = fold-roll-Expr (List Part) (List Part) (List Part) parts.kind_step parts.init_step parts.expr_step layer in
        let w = fold-roll-Expr Bool Bool Bool written.kind_step written.init_step written.expr_step layer in
        let f = fold-roll-Expr Shape Bool Shape readable.kind_step readable.init_step readable.expr_step layer in
        let c = fold-roll-Expr Assigns Adding Assigns assigned.kind_step assigned.init_step assigned.expr_step layer in
        let l = fold-roll-Expr (Span → Soundness) (Setting → Bool) Soundness sound.kind_step sound.init_step sound.expr_step layer in
        let r = fold-roll-Expr KindReading reading.Filling Reading reading.kind_step reading.init_step reading.expr_step layer in
        let h = subst Here p here in
        let done = kind_is x.kind x.span h.0 h.1 (sym w ∙ wr) (ap (λ (x : Shape). x.fine) (sym f) ∙ fine) (subst (λ (a : Assigns). Covers y set a.inside) c covers) in
        let own : Both (record (kind_sound k x.span) { span = x.span }) (reading_at y set (kind_reading k) x.span) (kind_shape k) (kind_assigns k) =
        (record { span = refl; value = done.0.value; null = done.0.null; unused = done.0.unused; object = done.0.object }, done.1) in
        let a = subst (λ (f : Soundness). Both f (reading_at y set (kind_reading k) x.span) (kind_shape k) (kind_assigns k)) (sym l) own in
        let b = subst (λ (f : Reading). Both (soundness e) f (kind_shape k) (kind_assigns k)) (sym r) a in
        let d = subst (λ (x : Shape). Both (soundness e) (reading.reading e) x (kind_assigns k)) (sym f) b in
        subst (λ (x : Assigns). Both (soundness e) (reading.reading e) (shape e) x) (sym c) d

  -- An expression is sound, as each place wants it.
  pub expression_sound : (e : Expr) → ExprIs e
  expression_sound = ind-Expr KindIs InitIs ExprIs
      (λ x y e. subst (λ layer. KindIs (roll-ExprKind layer)) e (kind_rolled (λ k. k.0) (λ i. i.0) (λ x. x.0) (λ i. i.1) (λ x. x.1) y))
      (λ x y e. subst (λ layer. InitIs (roll-Init layer)) e (init_rolled (λ k. k.0) (λ i. i.0) (λ x. x.0) (λ i. i.1) (λ x. x.1) y))
      (λ x y e. subst (λ layer. ExprIs (roll-Expr layer)) e (expr_rolled (λ k. k.0) (λ i. i.0) (λ x. x.0) (λ i. i.1) (λ x. x.1) (λ k. k.1) y))

  -- and so is an initialiser
  pub initialiser_sound : (i : Init) → InitIs i
  initialiser_sound = ind-Init KindIs InitIs ExprIs
      (λ x y e. subst (λ layer. KindIs (roll-ExprKind layer)) e (kind_rolled (λ k. k.0) (λ i. i.0) (λ x. x.0) (λ i. i.1) (λ x. x.1) y))
      (λ x y e. subst (λ layer. InitIs (roll-Init layer)) e (init_rolled (λ k. k.0) (λ i. i.0) (λ x. x.0) (λ i. i.1) (λ x. x.1) y))
      (λ x y e. subst (λ layer. ExprIs (roll-Expr layer)) e (expr_rolled (λ k. k.0) (λ i. i.0) (λ x. x.0) (λ i. i.1) (λ x. x.1) (λ k. k.1) y))
