-- Selections without errors on names are sound: fields of objects, constants, lengths of arrays.
use Rattle.std.proofs.Common.{◌≡◌, ℕ, Bool, true, false, ◌∷◌, Option, Some, None, refl, sym, ap, subst, ◌∙◌}
use Rattle.std.specs.Prelude.{if◌then◌else◌, ◌&&◌, ◌||◌, not, ◌==◌, bytes_eq, codes}
use Rattle.std.proofs.lemmas.Bool.{false≢true}
use Rattle.ix_text.specs.declared.span.Span.{Span}
use Rattle.ix_core.specs.declared.claim.Base.TheVariants as base
use Rattle.ix_core.specs.declared.claim.Type_.{Type_}
use Rattle.ix_core.specs.declared.claim.Type_.TheVariants as type
use Rattle.ix_core.specs.Types.{int_type, class_type, is_class}
use Rattle.ix_tree.specs.declared.annot.Ident.{Ident}
use Rattle.ix_tree.specs.Parts.{elsewhere}
use Rattle.ix_meaning.specs.declared.members.Field.{Field}
use Rattle.ix_meaning.specs.declared.note.Meaning.{Meaning}
use Rattle.ix_meaning.specs.declared.note.Meaning.TheVariants as meaning
use Rattle.ix_meaning.specs.declared.note.Note.TheVariants.{Use}
use Rattle.ix_meaning.specs.declared.note.Rule.TheVariants as rule
use Rattle.ix_meaning.specs.Members.{field_named}
use Rattle.ix_meaning.specs.Rules as rules
use Rattle.ix_meaning.specs.Types.{judged, type_note}
use Rattle.ix_meaning.specs.Values as reading
use Rattle.ix_meaning.specs.Values.{Reading, KindReading, Object, no_object, of_class, value, valued_and_assigned}
use Rattle.ix_plain.specs.Scope.{meaning_at}
use Rattle.ix_plain.specs.Values.{Lowering}
use Rattle.ix_formed.specs.Typed as typed
use Rattle.ix_formed.specs.Typed.{Told, IsHere, FieldIs, ReceiverIs, Fits}
use Rattle.ix_formed.proofs.TypedChecks.{parted, kept, reading_at}
use Rattle.ix_source.specs.Along.{Setting}
use Rattle.ix_source.specs.Sound as sound
use Rattle.ix_source.specs.Sound.{Soundness, used}
use Rattle.ix_source.specs.WellNamed.{View, viewed, IsSound, IsSoundTarget}
use Rattle.ix_source.proofs.SoundParts.{used_is, computed_sound}

module _ (y : typed.Setting) (set : typed.IsSet y) (v : View) where
  abbrev z : Setting
  z = viewed y v

  -- a value before a dot is used
  pub object_used : (l : Lowering) (r : Reading) (s : Soundness) → Fits y l r → IsSound y v s r → Told y (r.receiver y.names).notes → (ty : Type_) → (r.receiver y.names).object ≡ value ty → ReceiverIs y r.span l (value ty) → used s z ≡ true
  object_used l r s f k said ty e is = used_is y set v s r.span k.span (k.object ty said e) ty is.2 is.0

  module _ (l : Lowering) (r : Reading) (s : Soundness) (f : Fits y l r) (k : IsSound y v s r) (ident : Ident) (here : IsHere y (elsewhere ident)) where
    abbrev IsSelected : Type 0
    IsSelected = sound.selected s z (meaning_at y.scope ident.span) ≡ true

    abbrev IsTarget : Type 0
    IsTarget = sound.selected_target s z (meaning_at y.scope ident.span) ≡ true

    selected_as : (m : Meaning) → y.scope.site.names.meaning ident.span ≡ Some m → sound.selected s z (Some m) ≡ true → IsSelected
    selected_as m table is = subst (λ o. sound.selected s z o ≡ true) (sym table) is

    object_field : (class : ℕ) (fd : Field) (m : Option Meaning) → FieldIs y.program y.scope.site class fd m → used s z ≡ true → s.unused z ≡ true → Told y (rules.use_of m ident.span) → IsSelected
    object_field class fd (Some (meaning.FieldNamed n)) is taken unused said = selected_as (meaning.FieldNamed n) (said.0 here) taken
    object_field class fd (Some (meaning.Constant n)) is taken unused said = selected_as (meaning.Constant n) (said.0 here) unused
    object_field class fd (Some (meaning.Local n)) is taken unused said = absurd is
    object_field class fd (Some (meaning.Param n)) is taken unused said = absurd is
    object_field class fd (Some (meaning.ClassNamed n)) is taken unused said = absurd is
    object_field class fd (Some (meaning.MethodNamed n)) is taken unused said = absurd is
    object_field class fd (Some meaning.LengthOf) is taken unused said = absurd is
    object_field class fd None is taken unused said = absurd is

    static_field : (class : ℕ) (fd : Field) (m : Option Meaning) → FieldIs y.program y.scope.site class fd m → fd.is_static ≡ true → s.unused z ≡ true → Told y (rules.use_of m ident.span) → IsSelected
    static_field class fd (Some (meaning.FieldNamed n)) is static unused said = absurd (false≢true (sym is.4 ∙ static))
    static_field class fd (Some (meaning.Constant n)) is static unused said = selected_as (meaning.Constant n) (said.0 here) unused
    static_field class fd (Some (meaning.Local n)) is static unused said = absurd is
    static_field class fd (Some (meaning.Param n)) is static unused said = absurd is
    static_field class fd (Some (meaning.ClassNamed n)) is static unused said = absurd is
    static_field class fd (Some (meaning.MethodNamed n)) is static unused said = absurd is
    static_field class fd (Some meaning.LengthOf) is static unused said = absurd is
    static_field class fd None is static unused said = absurd is

    behind_class : (class : ℕ) (o : Option Field) → is_class y.program class ≡ true → field_named y.names.world class ident.text ≡ o → s.unused z ≡ true → Told y (reading.class_field y.names false ident o).notes → IsSelected
    behind_class class None is e unused said = absurd said.0
    behind_class class (Some fd) is e unused said =
        let a = parted y (rules.not_static_in_class fd.is_static ident.span) (reading.field_use y.names false false ident.span fd) said in
        let b = parted y (rules.use_of fd.meaning ident.span) (rules.final_assigned y.names.in_constructor y.names.class false false fd ident.span) a.1 in
        static_field class fd fd.meaning (set.members.fields class ident.text fd is e) (kept y fd.is_static rule.NotStatic ident.span a.0) unused b.0

    behind_object : (class : ℕ) (o : Option Field) → is_class y.program class ≡ true → field_named y.names.world class ident.text ≡ o → used s z ≡ true → s.unused z ≡ true → Told y (reading.instance_field y.names false r.is_this ident o).notes → IsSelected
    behind_object class None is e taken unused said = absurd said.0
    behind_object class (Some fd) is e taken unused said =
        let b = parted y (rules.use_of fd.meaning ident.span) (rules.final_assigned y.names.in_constructor y.names.class false r.is_this fd ident.span) said in
        object_field class fd fd.meaning (set.members.fields class ident.text fd is e) taken unused b.0

    behind_array : (b : Bool) → used s z ≡ true → Told y (if b then judged (Some int_type) (Use ident.span meaning.LengthOf ∷ rules.not_assignable false ident.span) else judged None (rules.unknown_name ident.span)).notes → IsSelected
    behind_array true taken said = selected_as meaning.LengthOf (said.0 here) taken
    behind_array false taken said = absurd said.0

    by_object : (o : Object) → ReceiverIs y r.span l o → ((ty : Type_) → o ≡ value ty → ReceiverIs y r.span l (value ty) → used s z ≡ true) → s.unused z ≡ true → Told y (reading.selected y.names false r.is_this ident o).notes → IsSelected
    by_object no_object is taken unused said = absurd is
    by_object (of_class class) is taken unused said = behind_class class (field_named y.names.world class ident.text) is refl unused said
    by_object (value (type.Plain (base.Class class))) is taken unused said = behind_object class (field_named y.names.world class ident.text) is.0 refl (taken (class_type class) refl is) unused said
    by_object (value (type.Array of depth claims)) is taken unused said = behind_array (bytes_eq ident.text (codes "length")) (taken (type.Array of depth claims) refl is) said
    by_object (value (type.Plain base.Int)) is taken unused said = absurd (false≢true is.1)
    by_object (value (type.Plain base.Bool)) is taken unused said = absurd (false≢true is.1)
    by_object (value type.Void) is taken unused said = absurd (false≢true is.1)

    abbrev selection_reading : KindReading
    selection_reading = valued_and_assigned (λ s p. reading.selection r ident false s) (λ s p. reading.selection r ident true s)

    pub selection_sound : (span : Span) → IsSound y v (sound.selection s ident span) (reading_at y set selection_reading span)
    selection_sound span = computed_sound y set v span selection_reading (sound.selection s ident span) refl (λ at. refl) refl refl
        (λ said table.
        let a = parted y (r.receiver y.names).notes (reading.selected y.names false r.is_this ident (r.receiver y.names).object).notes said in
        by_object (r.receiver y.names).object (f.receiver a.0) (λ ty e is. object_used l r s f k a.0 ty e is) (k.unused a.0) a.1)

    -- ---- as a target

    target_as : (m : Meaning) → y.scope.site.names.meaning ident.span ≡ Some m → sound.selected_target s z (Some m) ≡ true → IsTarget
    target_as m table is = subst (λ o. sound.selected_target s z o ≡ true) (sym table) is

    target_field : (class : ℕ) (fd : Field) (m : Option Meaning) → FieldIs y.program y.scope.site class fd m → used s z ≡ true → Told y (rules.use_of m ident.span)
        → rules.may_assign y.names.in_constructor y.names.class r.is_this fd ≡ true → IsTarget
    target_field class fd (Some (meaning.FieldNamed n)) is taken said may = target_as (meaning.FieldNamed n) (said.0 here) taken
    target_field class fd (Some (meaning.Constant n)) is taken said may = absurd (false≢true (sym (ap (λ b. not b || (not fd.is_static && (r.is_this && (y.names.in_constructor && (fd.class == y.names.class))))) is.3
        ∙ ap (λ b. not b && (r.is_this && (y.names.in_constructor && (fd.class == y.names.class)))) is.2) ∙ may))
    target_field class fd (Some (meaning.Local n)) is taken said may = absurd is
    target_field class fd (Some (meaning.Param n)) is taken said may = absurd is
    target_field class fd (Some (meaning.ClassNamed n)) is taken said may = absurd is
    target_field class fd (Some (meaning.MethodNamed n)) is taken said may = absurd is
    target_field class fd (Some meaning.LengthOf) is taken said may = absurd is
    target_field class fd None is taken said may = absurd is

    static_target : (class : ℕ) (fd : Field) (m : Option Meaning) → FieldIs y.program y.scope.site class fd m → fd.is_static ≡ true → rules.may_assign y.names.in_constructor y.names.class false fd ≡ true → ⊥
    static_target class fd (Some (meaning.FieldNamed n)) is static may = false≢true (sym is.4 ∙ static)
    static_target class fd (Some (meaning.Constant n)) is static may = false≢true (sym (ap (λ b. not b || (not fd.is_static && false)) is.3 ∙ ap (λ b. not b && false) static) ∙ may)
    static_target class fd (Some (meaning.Local n)) is static may = is
    static_target class fd (Some (meaning.Param n)) is static may = is
    static_target class fd (Some (meaning.ClassNamed n)) is static may = is
    static_target class fd (Some (meaning.MethodNamed n)) is static may = is
    static_target class fd (Some meaning.LengthOf) is static may = is
    static_target class fd None is static may = is

    target_behind_class : (class : ℕ) (o : Option Field) → is_class y.program class ≡ true → field_named y.names.world class ident.text ≡ o → Told y (reading.class_field y.names true ident o).notes → IsTarget
    target_behind_class class None is e said = absurd said.0
    target_behind_class class (Some fd) is e said =
        let a = parted y (rules.not_static_in_class fd.is_static ident.span) (reading.field_use y.names true false ident.span fd) said in
        let b = parted y (rules.use_of fd.meaning ident.span) (rules.final_assigned y.names.in_constructor y.names.class true false fd ident.span) a.1 in
        absurd (static_target class fd fd.meaning (set.members.fields class ident.text fd is e) (kept y fd.is_static rule.NotStatic ident.span a.0)
        (kept y (rules.may_assign y.names.in_constructor y.names.class false fd) rule.FinalAssigned ident.span b.1))

    target_behind_object : (class : ℕ) (o : Option Field) → is_class y.program class ≡ true → field_named y.names.world class ident.text ≡ o → used s z ≡ true → Told y (reading.instance_field y.names true r.is_this ident o).notes → IsTarget
    target_behind_object class None is e taken said = absurd said.0
    target_behind_object class (Some fd) is e taken said =
        let b = parted y (rules.use_of fd.meaning ident.span) (rules.final_assigned y.names.in_constructor y.names.class true r.is_this fd ident.span) said in
        target_field class fd fd.meaning (set.members.fields class ident.text fd is e) taken b.0 (kept y (rules.may_assign y.names.in_constructor y.names.class r.is_this fd) rule.FinalAssigned ident.span b.1)

    target_behind_array : (b : Bool) → Told y (if b then judged (Some int_type) (Use ident.span meaning.LengthOf ∷ rules.not_assignable true ident.span) else judged None (rules.unknown_name ident.span)).notes → IsTarget
    target_behind_array true said = absurd said.1.0
    target_behind_array false said = absurd said.0

    target_by_object : (o : Object) → ReceiverIs y r.span l o → ((ty : Type_) → o ≡ value ty → ReceiverIs y r.span l (value ty) → used s z ≡ true) → Told y (reading.selected y.names true r.is_this ident o).notes → IsTarget
    target_by_object no_object is taken said = absurd is
    target_by_object (of_class class) is taken said = target_behind_class class (field_named y.names.world class ident.text) is refl said
    target_by_object (value (type.Plain (base.Class class))) is taken said = target_behind_object class (field_named y.names.world class ident.text) is.0 refl (taken (class_type class) refl is) said
    target_by_object (value (type.Array of depth claims)) is taken said = target_behind_array (bytes_eq ident.text (codes "length")) said
    target_by_object (value (type.Plain base.Int)) is taken said = absurd (false≢true is.1)
    target_by_object (value (type.Plain base.Bool)) is taken said = absurd (false≢true is.1)
    target_by_object (value type.Void) is taken said = absurd (false≢true is.1)

    pub selection_target : (span : Span) → IsSoundTarget y v (sound.selection s ident span) (reading_at y set selection_reading span)
    selection_target span said =
        let j = reading.selection r ident true y.names in
        let a = parted y j.notes (type_note j.ty span) said in
        let b = parted y (r.receiver y.names).notes (reading.selected y.names true r.is_this ident (r.receiver y.names).object).notes a.0 in
        target_by_object (r.receiver y.names).object (f.receiver b.0) (λ ty e is. object_used l r s f k b.0 ty e is) b.1
