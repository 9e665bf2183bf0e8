-- A name and a selection fit, as each place wants them.
use Rattle.std.proofs.Common.{◌≡◌, ◌<◌, ℕ, ℤ, Bool, true, false, List, [], ◌∷◌, Option, Some, None, Ok, Err, Result, refl, sym, ap, subst, ◌∙◌, arith}
use Rattle.std.specs.Prelude.{if◌then◌else◌, ◌&&◌, ◌||◌, not, length, ◌==◌, bytes_eq, codes}
use Rattle.std.proofs.lemmas.Bool.{false≢true}
use Rattle.ix_text.specs.declared.span.Span.{Span}
use Rattle.ix_core.specs.declared.claim.Base.{Base}
use Rattle.ix_core.specs.declared.claim.Base.TheVariants as base
use Rattle.ix_core.specs.declared.claim.Claim.{Claim}
use Rattle.ix_core.specs.declared.claim.Type_.{Type_}
use Rattle.ix_core.specs.declared.claim.Type_.TheVariants as type
use Rattle.ix_core.specs.declared.op.OpKind.TheVariants as op
use Rattle.ix_core.specs.Formed.{is_slot, is_target, is_array_in, is_array_at}
use Rattle.ix_core.specs.Machine.{is_int}
use Rattle.ix_core.specs.Tables.{field_at}
use Rattle.ix_core.specs.Types.{Point, int_type, class_type, is_type, is_of, is_class}
use Rattle.ix_tree.specs.declared.annot.Ident.{Ident}
use Rattle.ix_tree.specs.Parts.{elsewhere}
use Rattle.ix_meaning.specs.declared.members.Field.{Field}
use Rattle.ix_meaning.specs.declared.note.Meaning.{Meaning}
use Rattle.ix_meaning.specs.declared.note.Meaning.TheVariants as meaning
use Rattle.ix_meaning.specs.declared.note.Rule.TheVariants as rule
use Rattle.ix_meaning.specs.Members.{field_named}
use Rattle.ix_meaning.specs.Rules as rules
use Rattle.ix_meaning.specs.Types.{judged, type_note}
use Rattle.ix_meaning.specs.Values as reading
use Rattle.ix_meaning.specs.Values.{Reading, KindReading, Object, no_object, of_class, value, as_object, object_notes, no_reference, valued, valued_and_assigned}
use Rattle.ix_plain.specs.declared.made.Made.{Made}
use Rattle.ix_plain.specs.declared.made.Spot.TheVariants as spot
use Rattle.ix_plain.specs.Scope.{Scope, meaning_at}
use Rattle.ix_plain.specs.Parts.{Within, ◌>>=◌, Value}
use Rattle.ix_plain.specs.Values as values
use Rattle.ix_plain.specs.Values.{Lowering, without_value}
use Rattle.ix_formed.specs.Additions.{Makes}
use Rattle.ix_formed.specs.Points.{Known}
use Rattle.ix_formed.specs.Typed.{Runs, Gives, Holds, Setting, Told, IsHere, IsSet, FieldIs, Ready, Yields, SpotIs, Aims, ReceiverIs, Fits, FitsTarget}
use Rattle.ix_formed.proofs.NumberLists.{both_true}
use Rattle.ix_formed.proofs.PlainItems.{makes_more, makes_then, makes_both}
use Rattle.ix_formed.proofs.SameTypes.{real_result}
use Rattle.ix_formed.proofs.TypedChecks.{parted, kept, tabled, noted, Speaks, computes_fits, lowering_at, reading_at}
use Rattle.ix_formed.proofs.TypedNames.{new_target, there_is, int_yields, field_yields, may_write, is_value, NameSpeaks, name_speaks, name_aims, IsCovered}
use Rattle.ix_formed.proofs.TypedSteps.{differs, steps_none, then_value, value_after, op_given, holds_up, ready_on}

module _ (z : Setting) (set : IsSet z) where
  -- ---- names

  module _ (ident : Ident) (span : Span) (here : z.here span) (named : IsHere z (elsewhere ident)) where
    abbrev name_run : Scope → Made → Within Value
    name_run = λ scope made. values.named scope span (meaning_at scope ident.span) made

    at_meaning : (said : Option Type_) → NameSpeaks z set ident span said → Speaks z set said name_run
    at_meaning said n = record {
      ty = n.speaks.ty;
      typed = n.speaks.typed;
      of_type = n.speaks.of_type;
      yields = λ made point ready. subst (λ o. Makes (Gives z.program z.method z.locals z.fixed z.avoided made point n.speaks.ty) (values.named z.scope span o made)) (sym n.table) (n.speaks.yields made point ready);
    }

    -- a name that isn't that of a class
    abbrev as_variable : KindReading
    as_variable = valued (λ s p. reading.variable s false ident)

    variable_fits : Fits z (lowering_at z set (values.computes name_run span) span) (reading_at z set as_variable span)
    variable_fits = computes_fits z set span as_variable name_run refl refl (λ s at. refl)
        (λ said table. at_meaning (reading.variable z.names false ident).ty (name_speaks z set ident span here named said table))

    unused_value : (o : Option Meaning) (m : Meaning) → o ≡ Some m → is_value z set m ≡ true → (made : Made) → (values.named z.scope span o made >>= without_value) ≡ values.named_unused z.scope span o made
    unused_value None m e is made = refl
    unused_value (Some (meaning.Local k)) m e is made = refl
    unused_value (Some (meaning.Param k)) m e is made = refl
    unused_value (Some (meaning.FieldNamed k)) m e is made = refl
    unused_value (Some (meaning.Constant k)) m e is made = refl
    unused_value (Some (meaning.MethodNamed k)) m e is made = refl
    unused_value (Some meaning.LengthOf) m e is made = refl
    unused_value (Some (meaning.ClassNamed k)) m e is made = let same : m ≡ meaning.ClassNamed k = cc in absurd (false≢true (ap (is_value z set) (sym same) ∙ is))

    class_unused : (o : Option Meaning) (class : ℕ) → o ≡ Some (meaning.ClassNamed class) → (made : Made) (point : Point) → Makes (Runs z.program z.method z.locals z.fixed made point) (values.named_unused z.scope span o made)
    class_unused o class e made point =
        subst (λ o. Makes (Runs z.program z.method z.locals z.fixed made point) (values.named_unused z.scope span o made)) (sym e) (record { behind = point; steps = steps_none z.program z.method z.locals z.fixed made point })

    abbrev name_reading : KindReading
    name_reading = record { is_null = false; is_this = false; judge = λ s p. reading.variable s false ident; assigned = λ s p. reading.variable s true ident; receiver = λ s p. reading.name_before_dot s ident p }

    variable_unused : Told z (as_object (reading.variable z.names false ident) span).notes → (made : Made) (point : Point) → Ready z made point
        → Makes (Runs z.program z.method z.locals z.fixed made point) (values.named_unused z.scope span (meaning_at z.scope ident.span) made)
    variable_unused said made point ready =
        let j = reading.variable z.names false ident in
        let a = parted z j.notes (object_notes j.ty span) said in
        let b = parted z (type_note j.ty span) (no_reference j.ty span) a.1 in
        let n = name_speaks z set ident span here named a.0 (tabled z span j.ty b.0) in
        subst (Makes (Runs z.program z.method z.locals z.fixed made point)) (unused_value (meaning_at z.scope ident.span) n.means n.table n.is_value made) (variable_fits.unused said made point ready)

    class_or_is : (o : Option ℕ) → z.names.world.class ident.text ≡ o → Told z (reading.class_or z.names ident span o).notes
        → ReceiverIs z span (lowering_at z set (values.name ident span) span) (reading.class_or z.names ident span o).object
        × ((made : Made) (point : Point) → Ready z made point → Makes (Runs z.program z.method z.locals z.fixed made point) (values.named_unused z.scope span (meaning_at z.scope ident.span) made))
    class_or_is (Some class) e said = (set.members.classes ident.text class e, (λ made point ready. class_unused (meaning_at z.scope ident.span) class (said.0 named) made point))
    class_or_is None e said = (variable_fits.receiver said, variable_unused said)

    before_dot_is : Told z (reading.name_before_dot z.names ident span).notes
        → ReceiverIs z span (lowering_at z set (values.name ident span) span) (reading.name_before_dot z.names ident span).object
        × ((made : Made) (point : Point) → Ready z made point → Makes (Runs z.program z.method z.locals z.fixed made point) (values.named_unused z.scope span (meaning_at z.scope ident.span) made))
    before_dot_is = by_variable (reading.is_variable z.names ident.text)
      where
        by_variable : (b : Bool) → Told z (if b then as_object (reading.variable z.names false ident) span else reading.class_or z.names ident span (z.names.world.class ident.text)).notes
            → ReceiverIs z span (lowering_at z set (values.name ident span) span) (if b then as_object (reading.variable z.names false ident) span else reading.class_or z.names ident span (z.names.world.class ident.text)).object
            × ((made : Made) (point : Point) → Ready z made point → Makes (Runs z.program z.method z.locals z.fixed made point) (values.named_unused z.scope span (meaning_at z.scope ident.span) made))
        by_variable true said = (variable_fits.receiver said, variable_unused said)
        by_variable false said = class_or_is (z.names.world.class ident.text) refl said

    pub name_fits : Fits z (lowering_at z set (values.name ident span) span) (reading_at z set name_reading span)
    name_fits = record {
      same = refl;
      value = variable_fits.value;
      null = variable_fits.null;
      condition = variable_fits.condition;
      receiver = λ said. (before_dot_is said).0;
      unused = λ said. (before_dot_is said).1;
      this = λ e. absurd (false≢true e);
    }

    pub name_target : IsCovered z set ident span here named → FitsTarget z (lowering_at z set (values.name ident span) span) (reading_at z set name_reading span)
    name_target covered said =
        let j = reading.variable z.names true ident in
        let a = parted z j.notes (type_note j.ty span) said in
        let n = name_aims z set ident span here named covered a.0 in
        record {
          ty = n.ty;
          typed = n.typed;
          table = noted z j.ty n.ty span n.typed a.1;
          real = n.real;
          aims = λ made point ready. record {
            behind = point;
            steps = steps_none z.program z.method z.locals z.fixed made point;
            spot = subst (λ o. SpotIs z point made.free n.ty (values.named_spot z.scope o)) (sym n.table) (n.spot made point ready);
          };
        }

  -- ---- selections

  module _ (l : Lowering) (r : Reading) (f : Fits z l r) (ident : Ident) (span : Span) (named : IsHere z (elsewhere ident)) where
    abbrev run : Scope → Made → Within Value
    run = λ scope made. values.selected l span scope (meaning_at scope ident.span) made

    -- what is before the dot of a constant runs
    abbrev Unused : Type 0
    Unused = (made : Made) (point : Point) → Ready z made point → Makes (Runs z.program z.method z.locals z.fixed made point) (l.unused z.scope made)

    constant_selected : (n : ℤ) → is_int n ≡ true → meaning_at z.scope ident.span ≡ Some (meaning.Constant n) → Unused → Yields z int_type run
    constant_selected n int means unused made point ready =
        subst (λ o. Makes (Gives z.program z.method z.locals z.fixed z.avoided made point int_type) (values.selected l span z.scope o made)) (sym means)
        (makes_then (Runs z.program z.method z.locals z.fixed made point) (Gives z.program z.method z.locals z.fixed z.avoided made point int_type) (l.unused z.scope made) _ (unused made point ready)
        (λ before q. value_after z.program z.method z.locals z.fixed z.avoided made point before q.behind int_type (values.int_value n span before) q.steps (int_yields z set n span int before q.behind (ready_on z set made point before q.behind ready q.steps))))

    field_selected : (k : ℕ) (ty : Type_) → meaning_at z.scope ident.span ≡ Some (meaning.FieldNamed k) → is_type z.program ty ≡ true → Yields z ty l.value → k < length z.program.fields
        → is_of z.program ty (class_type (field_at z.program k).class) ≡ true → Yields z (field_at z.program k).ty run
    field_selected k ty means real yields there below made point ready =
        subst (λ o. Makes (Gives z.program z.method z.locals z.fixed z.avoided made point (field_at z.program k).ty) (values.selected l span z.scope o made)) (sym means)
        (then_value z.program z.method z.locals z.fixed z.avoided made point ty (field_at z.program k).ty (l.value z.scope made) _ (yields made point ready)
        (λ o g. field_yields z set span k o.slot o.made g.behind (ready_on z set made point o.made g.behind ready g.steps) there g.low (holds_up z set g.behind o.slot ty (class_type (field_at z.program k).class) (g.holds real) below)))

    length_selected : (of : Base) (depth : ℕ) (claims : List Claim) → meaning_at z.scope ident.span ≡ Some meaning.LengthOf → is_type z.program (type.Array of depth claims) ≡ true → Yields z (type.Array of depth claims) l.value → Yields z int_type run
    length_selected of depth claims means real yields made point ready =
        subst (λ o. Makes (Gives z.program z.method z.locals z.fixed z.avoided made point int_type) (values.selected l span z.scope o made)) (sym means)
        (then_value z.program z.method z.locals z.fixed z.avoided made point (type.Array of depth claims) int_type (l.value z.scope made) _ (yields made point ready)
        (λ o g. op_given z set o.made g.behind (ready_on z set made point o.made g.behind ready g.steps) (record { kind = op.Length o.made.free o.slot; span = span; parts = [] }) int_type refl refl
        (λ lt.
        let low : o.slot < z.method.slots = (let a = g.low in omega (arith, a, lt)) in
        both_true (is_slot z.program z.method o.slot) _ (there_is o.slot z.method.slots low) (both_true (is_array_at g.behind o.slot) _ (held_array g.behind o.slot (g.holds real))
        (both_true (is_target z.program z.method o.made.free) _ (new_target z set o.made g.behind (ready_on z set made point o.made g.behind ready g.steps) lt) (both_true (not (o.made.free == o.slot)) true (differs o.made.free o.slot g.low) refl))))))
      where
        at_point : (b : Base) (d : ℕ) (cs : List Claim) (point : Point) (slot : ℕ) → Known point slot (type.Array b d cs) → is_array_at point slot ≡ true
        at_point b d cs None slot known = refl
        at_point b d cs (Some types) slot known = ap is_array_in known

        by_held : (t : Type_) (point : Point) (slot : ℕ) → is_of z.program t (type.Array of depth claims) ≡ true → Known point slot t → is_array_at point slot ≡ true
        by_held type.Void point slot of known = absurd (false≢true of)
        by_held (type.Plain base.Int) point slot of known = absurd (false≢true of)
        by_held (type.Plain base.Bool) point slot of known = absurd (false≢true of)
        by_held (type.Plain (base.Class c)) point slot of known = absurd (false≢true of)
        by_held (type.Array b d cs) point slot of known = at_point b d cs point slot known

        held_array : (point : Point) (slot : ℕ) → Holds z.program point slot (type.Array of depth claims) → is_array_at point slot ≡ true
        held_array point slot h = by_held h.held point slot h.fits h.known

    -- a field behind a value of a class
    object_field : (class : ℕ) (fd : Field) (m : Option Meaning) → FieldIs z.program z.scope.site class fd m → is_type z.program (class_type class) ≡ true → Yields z (class_type class) l.value → Unused → Told z (rules.use_of m ident.span) → Speaks z set fd.ty run
    object_field class fd (Some (meaning.FieldNamed k)) is real yields unused used = record {
      ty = (field_at z.program k).ty;
      typed = is.2;
      of_type = real_result z.program (field_at z.program k).ty is.6;
      yields = field_selected k (class_type class) (used.0 named) real yields is.0 is.5;
    }
    object_field class fd (Some (meaning.Constant n)) is real yields unused used = record { ty = int_type; typed = is.1; of_type = refl; yields = constant_selected n is.0 (used.0 named) unused }
    object_field class fd (Some (meaning.Local k)) is real yields unused used = absurd is
    object_field class fd (Some (meaning.Param k)) is real yields unused used = absurd is
    object_field class fd (Some (meaning.ClassNamed k)) is real yields unused used = absurd is
    object_field class fd (Some (meaning.MethodNamed k)) is real yields unused used = absurd is
    object_field class fd (Some meaning.LengthOf) is real yields unused used = absurd is
    object_field class fd None is real yields unused used = absurd is

    -- a constant behind a class's name
    static_field : (class : ℕ) (fd : Field) (m : Option Meaning) → FieldIs z.program z.scope.site class fd m → fd.is_static ≡ true → Unused → Told z (rules.use_of m ident.span) → Speaks z set fd.ty run
    static_field class fd (Some (meaning.FieldNamed k)) is static unused used = absurd (false≢true (sym is.4 ∙ static))
    static_field class fd (Some (meaning.Constant n)) is static unused used = record { ty = int_type; typed = is.1; of_type = refl; yields = constant_selected n is.0 (used.0 named) unused }
    static_field class fd (Some (meaning.Local k)) is static unused used = absurd is
    static_field class fd (Some (meaning.Param k)) is static unused used = absurd is
    static_field class fd (Some (meaning.ClassNamed k)) is static unused used = absurd is
    static_field class fd (Some (meaning.MethodNamed k)) is static unused used = absurd is
    static_field class fd (Some meaning.LengthOf) is static unused used = absurd is
    static_field class fd None is static unused used = absurd is

    behind_class : (class : ℕ) (o : Option Field) → is_class z.program class ≡ true → field_named z.names.world class ident.text ≡ o → Unused → Told z (reading.class_field z.names false ident o).notes → Speaks z set (reading.class_field z.names false ident o).ty run
    behind_class class None is e unused said = absurd said.0
    behind_class class (Some fd) is e unused said =
        let a = parted z (rules.not_static_in_class fd.is_static ident.span) (reading.field_use z.names false false ident.span fd) said in
        let b = parted z (rules.use_of fd.meaning ident.span) (rules.final_assigned z.names.in_constructor z.names.class false false fd ident.span) a.1 in
        static_field class fd fd.meaning (set.members.fields class ident.text fd is e) (kept z fd.is_static rule.NotStatic ident.span a.0) unused b.0

    behind_object : (class : ℕ) (o : Option Field) → is_class z.program class ≡ true → field_named z.names.world class ident.text ≡ o → Yields z (class_type class) l.value → Unused → Told z (reading.instance_field z.names false r.is_this ident o).notes
        → Speaks z set (reading.instance_field z.names false r.is_this ident o).ty run
    behind_object class None is e yields unused said = absurd said.0
    behind_object class (Some fd) is e yields unused said =
        let b = parted z (rules.use_of fd.meaning ident.span) (rules.final_assigned z.names.in_constructor z.names.class false r.is_this fd ident.span) said in
        object_field class fd fd.meaning (set.members.fields class ident.text fd is e) is yields unused b.0

    behind_array : (of : Base) (depth : ℕ) (claims : List Claim) → is_type z.program (type.Array of depth claims) ≡ true → Yields z (type.Array of depth claims) l.value → (b : Bool)
        → Told z (if b then judged (Some int_type) (Rattle.ix_meaning.specs.declared.note.Note.TheVariants.Use ident.span meaning.LengthOf ∷ rules.not_assignable false ident.span) else judged None (rules.unknown_name ident.span)).notes
        → Speaks z set (if b then judged (Some int_type) (Rattle.ix_meaning.specs.declared.note.Note.TheVariants.Use ident.span meaning.LengthOf ∷ rules.not_assignable false ident.span) else judged None (rules.unknown_name ident.span)).ty run
    behind_array of depth claims real yields true said = record { ty = int_type; typed = refl; of_type = refl; yields = length_selected of depth claims (said.0 named) real yields }
    behind_array of depth claims real yields false said = absurd said.0

    by_object : (o : Object) → ReceiverIs z r.span l o → Unused → Told z (reading.selected z.names false r.is_this ident o).notes → Speaks z set (reading.selected z.names false r.is_this ident o).ty run
    by_object no_object is unused said = absurd is
    by_object (of_class class) is unused said = behind_class class (field_named z.names.world class ident.text) is refl unused said
    by_object (value (type.Plain (base.Class class))) is unused said = behind_object class (field_named z.names.world class ident.text) is.0 refl is.3 unused said
    by_object (value (type.Array of depth claims)) is unused said = behind_array of depth claims is.0 is.3 (bytes_eq ident.text (codes "length")) said
    by_object (value (type.Plain base.Int)) is unused said = absurd (false≢true is.1)
    by_object (value (type.Plain base.Bool)) is unused said = absurd (false≢true is.1)
    by_object (value type.Void) is unused said = absurd (false≢true is.1)

    abbrev selection_reading : KindReading
    selection_reading = valued_and_assigned (λ s p. reading.selection r ident false s) (λ s p. reading.selection r ident true s)

    selection_computes : Fits z (lowering_at z set (values.computes run span) span) (reading_at z set selection_reading span)
    selection_computes = computes_fits z set span selection_reading run refl refl (λ s at. refl)
        (λ said table.
        let a = parted z (r.receiver z.names).notes (reading.selected z.names false r.is_this ident (r.receiver z.names).object).notes said in
        by_object (r.receiver z.names).object (f.receiver a.0) (f.unused a.0) a.1)

    pub selection_fits : Fits z (lowering_at z set (values.selection l ident span) span) (reading_at z set selection_reading span)
    selection_fits = record {
      same = refl;
      value = selection_computes.value;
      null = selection_computes.null;
      condition = selection_computes.condition;
      receiver = selection_computes.receiver;
      unused = selection_computes.unused;
      this = selection_computes.this;
    }

    -- ---- as a target

    pub record FieldAims (said : Option Type_) : Type 0 where
      pub field : ℕ
      pub ty : Type_
      pub means : meaning_at z.scope ident.span ≡ Some (meaning.FieldNamed field)
      pub typed : said ≡ Some (field_at z.program field).ty
      pub real : is_type z.program (field_at z.program field).ty ≡ true
      pub there : field < length z.program.fields
      pub object : is_type z.program ty ≡ true
      pub yields : Yields z ty l.value
      pub below : is_of z.program ty (class_type (field_at z.program field).class) ≡ true
      pub may : (slot : ℕ) → (r.is_this ≡ true → slot ≡ 0) → Rattle.ix_core.specs.Formed.may_be_written z.program z.method slot field ≡ true

    target_field : (class : ℕ) (fd : Field) (m : Option Meaning) → FieldIs z.program z.scope.site class fd m → is_type z.program (class_type class) ≡ true → Yields z (class_type class) l.value → Told z (rules.use_of m ident.span)
        → rules.may_assign z.names.in_constructor z.names.class r.is_this fd ≡ true → FieldAims fd.ty
    target_field class fd (Some (meaning.FieldNamed k)) is real yields used may = record {
      field = k;
      ty = class_type class;
      means = used.0 named;
      typed = is.2;
      real = is.6;
      there = is.0;
      object = real;
      yields = yields;
      below = is.5;
      may = λ slot zero. may_write z set r.is_this slot k fd is.1 is.3 zero may;
    }
    target_field class fd (Some (meaning.Constant n)) is real yields used may = absurd (false≢true (sym (ap (λ b. not b || (not fd.is_static && (r.is_this && (z.names.in_constructor && (fd.class == z.names.class))))) is.3
        ∙ ap (λ b. not b && (r.is_this && (z.names.in_constructor && (fd.class == z.names.class)))) is.2) ∙ may))
    target_field class fd (Some (meaning.Local k)) is real yields used may = absurd is
    target_field class fd (Some (meaning.Param k)) is real yields used may = absurd is
    target_field class fd (Some (meaning.ClassNamed k)) is real yields used may = absurd is
    target_field class fd (Some (meaning.MethodNamed k)) is real yields used may = absurd is
    target_field class fd (Some meaning.LengthOf) is real yields used may = absurd is
    target_field class fd None is real yields used may = absurd is

    static_target : (class : ℕ) (fd : Field) (m : Option Meaning) → FieldIs z.program z.scope.site class fd m → fd.is_static ≡ true → rules.may_assign z.names.in_constructor z.names.class false fd ≡ true → ⊥
    static_target class fd (Some (meaning.FieldNamed k)) is static may = false≢true (sym is.4 ∙ static)
    static_target class fd (Some (meaning.Constant n)) is static may = false≢true (sym (ap (λ b. not b || (not fd.is_static && false)) is.3 ∙ ap (λ b. not b && false) static) ∙ may)
    static_target class fd (Some (meaning.Local k)) is static may = is
    static_target class fd (Some (meaning.Param k)) is static may = is
    static_target class fd (Some (meaning.ClassNamed k)) is static may = is
    static_target class fd (Some (meaning.MethodNamed k)) is static may = is
    static_target class fd (Some meaning.LengthOf) is static may = is
    static_target class fd None is static may = is

    aims_behind_class : (class : ℕ) (o : Option Field) → is_class z.program class ≡ true → field_named z.names.world class ident.text ≡ o → Told z (reading.class_field z.names true ident o).notes → FieldAims (reading.class_field z.names true ident o).ty
    aims_behind_class class None is e said = absurd said.0
    aims_behind_class class (Some fd) is e said =
        let a = parted z (rules.not_static_in_class fd.is_static ident.span) (reading.field_use z.names true false ident.span fd) said in
        let b = parted z (rules.use_of fd.meaning ident.span) (rules.final_assigned z.names.in_constructor z.names.class true false fd ident.span) a.1 in
        absurd (static_target class fd fd.meaning (set.members.fields class ident.text fd is e) (kept z fd.is_static rule.NotStatic ident.span a.0)
        (kept z (rules.may_assign z.names.in_constructor z.names.class false fd) rule.FinalAssigned ident.span b.1))

    aims_behind_object : (class : ℕ) (o : Option Field) → is_class z.program class ≡ true → field_named z.names.world class ident.text ≡ o → Yields z (class_type class) l.value → Told z (reading.instance_field z.names true r.is_this ident o).notes
        → FieldAims (reading.instance_field z.names true r.is_this ident o).ty
    aims_behind_object class None is e yields said = absurd said.0
    aims_behind_object class (Some fd) is e yields said =
        let b = parted z (rules.use_of fd.meaning ident.span) (rules.final_assigned z.names.in_constructor z.names.class true r.is_this fd ident.span) said in
        target_field class fd fd.meaning (set.members.fields class ident.text fd is e) is yields b.0 (kept z (rules.may_assign z.names.in_constructor z.names.class r.is_this fd) rule.FinalAssigned ident.span b.1)

    aims_behind_array : (b : Bool)
        → Told z (if b then judged (Some int_type) (Rattle.ix_meaning.specs.declared.note.Note.TheVariants.Use ident.span meaning.LengthOf ∷ rules.not_assignable true ident.span) else judged None (rules.unknown_name ident.span)).notes
        → FieldAims (if b then judged (Some int_type) (Rattle.ix_meaning.specs.declared.note.Note.TheVariants.Use ident.span meaning.LengthOf ∷ rules.not_assignable true ident.span) else judged None (rules.unknown_name ident.span)).ty
    aims_behind_array true said = absurd said.1.0
    aims_behind_array false said = absurd said.0

    aims_by_object : (o : Object) → ReceiverIs z r.span l o → Told z (reading.selected z.names true r.is_this ident o).notes → FieldAims (reading.selected z.names true r.is_this ident o).ty
    aims_by_object no_object is said = absurd is
    aims_by_object (of_class class) is said = aims_behind_class class (field_named z.names.world class ident.text) is refl said
    aims_by_object (value (type.Plain (base.Class class))) is said = aims_behind_object class (field_named z.names.world class ident.text) is.0 refl is.3 said
    aims_by_object (value (type.Array of depth claims)) is said = aims_behind_array (bytes_eq ident.text (codes "length")) said
    aims_by_object (value (type.Plain base.Int)) is said = absurd (false≢true is.1)
    aims_by_object (value (type.Plain base.Bool)) is said = absurd (false≢true is.1)
    aims_by_object (value type.Void) is said = absurd (false≢true is.1)

    of_this : (made : Made) → Makes (λ v. r.is_this ≡ true → v.slot ≡ 0) (l.value z.scope made)
    of_this made = by_this r.is_this refl
      where
        all_make : {A E : Type 0} (P : A → Type 0) → ((x : A) → P x) → (o : Result A E) → Makes P o
        all_make P all (Ok x) = all x
        all_make P all (Err e) = tt

        by_this : (b : Bool) → r.is_this ≡ b → Makes (λ v. r.is_this ≡ true → v.slot ≡ 0) (l.value z.scope made)
        by_this true e = makes_more (λ v. v.slot ≡ 0) (λ v. r.is_this ≡ true → v.slot ≡ 0) (λ v zero yes. zero) (l.value z.scope made) (f.this e made)
        by_this false e = all_make (λ v. r.is_this ≡ true → v.slot ≡ 0) (λ v yes. absurd (false≢true (sym e ∙ yes))) (l.value z.scope made)

    pub selection_target : FitsTarget z (lowering_at z set (values.selection l ident span) span) (reading_at z set selection_reading span)
    selection_target said =
        let j = reading.selection r ident true z.names in
        let a = parted z j.notes (type_note j.ty span) said in
        let b = parted z (r.receiver z.names).notes (reading.selected z.names true r.is_this ident (r.receiver z.names).object).notes a.0 in
        let t = aims_by_object (r.receiver z.names).object (f.receiver b.0) b.1 in
        let ty = (field_at z.program t.field).ty in
        record {
          ty = ty;
          typed = t.typed;
          table = noted z j.ty ty span t.typed a.1;
          real = t.real;
          aims = λ made point ready.
              makes_then (λ v. Gives z.program z.method z.locals z.fixed z.avoided made point t.ty v × (r.is_this ≡ true → v.slot ≡ 0)) (Aims z made point ty) (l.value z.scope made) _
              (makes_both (Gives z.program z.method z.locals z.fixed z.avoided made point t.ty) (λ v. r.is_this ≡ true → v.slot ≡ 0) (l.value z.scope made) (t.yields made point ready) (of_this made))
              (λ o g. record {
                behind = g.0.behind;
                steps = g.0.steps;
                spot = subst (λ m. SpotIs z g.0.behind o.made.free ty (spot.FieldOf o.slot (values.field_number m))) (sym t.means)
                    (g.0.low, t.there, refl, t.may o.slot g.1, holds_up z set g.0.behind o.slot t.ty (class_type (field_at z.program t.field).class) (g.0.holds t.object) t.below);
              });
        }
