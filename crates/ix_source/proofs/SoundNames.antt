-- Names without errors are sound: `this`, variables, fields and constants.
use Rattle.std.proofs.Common.{◌≡◌, ℕ, Bool, true, false, List, [], ◌∷◌, Option, Some, None, refl, sym, ap, subst, ◌∙◌}
use Rattle.std.specs.Prelude.{if◌then◌else◌, ◌&&◌, ◌||◌, not, ◌==◌, bytes_eq}
use Rattle.std.proofs.lemmas.Bool.{false≢true}
use Rattle.ix_text.specs.declared.span.Span.{Span}
use Rattle.ix_core.specs.declared.claim.Type_.{Type_}
use Rattle.ix_tree.specs.declared.annot.Ident.{Ident}
use Rattle.ix_tree.specs.Parts.{elsewhere}
use Rattle.ix_meaning.specs.declared.members.Field.{Field}
use Rattle.ix_meaning.specs.declared.note.Meaning.{Meaning}
use Rattle.ix_meaning.specs.declared.note.Meaning.TheVariants as meaning
use Rattle.ix_meaning.specs.declared.note.Rule.TheVariants as rule
use Rattle.ix_meaning.specs.Members.{field_named}
use Rattle.ix_meaning.specs.Rules as rules
use Rattle.ix_meaning.specs.Scope.{Known as Variable, meant, is_pending}
use Rattle.ix_meaning.specs.Types.{judged, type_note}
use Rattle.ix_meaning.specs.Values as reading
use Rattle.ix_meaning.specs.Values.{Reading, KindReading, of_class, value, as_object, object_notes}
use Rattle.ix_plain.specs.Scope.{slot_of, meaning_at, is_among}
use Rattle.ix_plain.specs.Assigned.{with_slot}
use Rattle.ix_formed.specs.Additions.{AllOf}
use Rattle.ix_formed.specs.Typed as typed
use Rattle.ix_formed.specs.Typed.{Told, IsHere, is_variable, FieldIs}
use Rattle.ix_formed.proofs.NumberLists.{both_true, is_itself}
use Rattle.ix_formed.proofs.TypedChecks.{parted, unbroken, kept, reading_at}
use Rattle.ix_formed.proofs.TypedNames.{variable_is, IsCovered}
use Rattle.ix_source.specs.Along.{Setting}
use Rattle.ix_source.specs.Sound as sound
use Rattle.ix_source.specs.WellNamed.{View, viewed, IsSeen, IsSound, IsSoundTarget}

-- what is so of each variable is so of the one that a name means
meant_is : (P : Variable → Type 0) (text : List ℕ) (vs : List Variable) → AllOf P vs → (k : Variable) → meant text vs ≡ Some k → P k
meant_is P text [] all k e = absurd cc
meant_is P text (v ∷ vs) all k e = here (bytes_eq v.name text) (meant_is P text vs all.1 k) e
  where
    here : (b : Bool) → (meant text vs ≡ Some k → P k) → (if b then Some v else meant text vs) ≡ Some k → P k
    here true rest e = let same : v ≡ k = cc in subst P same all.0
    here false rest e = rest e

pub has_object : (b : Bool) → (not b && true) ≡ false → b ≡ true
has_object true e = refl
has_object false e = absurd (false≢true (sym e))

module _ (y : typed.Setting) (set : typed.IsSet y) (v : View) (n : IsSeen y v) where
  abbrev z : Setting
  z = viewed y v

  -- `this` is there where what isn't static is used without a dot
  pub this_is : (is_static : Bool) (span : Span) → is_static ≡ false → Told y (rules.not_static y.names is_static span) → v.has_this ≡ true
  this_is is_static span static said =
      n.object (has_object y.names.has_object (ap (λ b. not y.names.has_object && not b) (sym static) ∙ unbroken y (not y.names.has_object && not is_static) rule.NotStatic span said))

  -- ---- variables

  own_named : (m : Meaning) → is_variable m ≡ true → v.owner (slot_of y.scope (Some m)) ≡ Some m → sound.named z (Some m) ≡ true
  own_named (meaning.Local k) e own = ap (sound.is_same (meaning.Local k)) own ∙ is_itself k
  own_named (meaning.Param k) e own = ap (sound.is_same (meaning.Param k)) own ∙ is_itself k
  own_named (meaning.FieldNamed k) e own = absurd (false≢true e)
  own_named (meaning.Constant k) e own = absurd (false≢true e)
  own_named (meaning.ClassNamed k) e own = absurd (false≢true e)
  own_named (meaning.MethodNamed k) e own = absurd (false≢true e)
  own_named meaning.LengthOf e own = absurd (false≢true e)

  own_assigned : (m : Meaning) → is_variable m ≡ true → v.owner (slot_of y.scope (Some m)) ≡ Some m → is_among (slot_of y.scope (Some m)) y.scope.assigned ≡ true → sound.named_target z (Some m) ≡ true
  own_assigned (meaning.Local k) e own among = both_true (sound.is_own z (meaning.Local k)) _ (own_named (meaning.Local k) e own) among
  own_assigned (meaning.Param k) e own among = both_true (sound.is_own z (meaning.Param k)) _ (own_named (meaning.Param k) e own) among
  own_assigned (meaning.FieldNamed k) e own among = absurd (false≢true e)
  own_assigned (meaning.Constant k) e own among = absurd (false≢true e)
  own_assigned (meaning.ClassNamed k) e own among = absurd (false≢true e)
  own_assigned (meaning.MethodNamed k) e own among = absurd (false≢true e)
  own_assigned meaning.LengthOf e own among = absurd (false≢true e)

  -- a variable's slot is the one that its assignment adds
  own_slot : (m : Meaning) → is_variable m ≡ true → is_among (slot_of y.scope (Some m)) (with_slot y.scope (Some m) []) ≡ true
  own_slot (meaning.Local k) e = ap (λ b. if b then true else false) (is_itself (slot_of y.scope (Some (meaning.Local k))))
  own_slot (meaning.Param k) e = ap (λ b. if b then true else false) (is_itself (slot_of y.scope (Some (meaning.Param k))))
  own_slot (meaning.FieldNamed k) e = absurd (false≢true e)
  own_slot (meaning.Constant k) e = absurd (false≢true e)
  own_slot (meaning.ClassNamed k) e = absurd (false≢true e)
  own_slot (meaning.MethodNamed k) e = absurd (false≢true e)
  own_slot meaning.LengthOf e = absurd (false≢true e)

  module _ (ident : Ident) (here : IsHere y (elsewhere ident)) where
    abbrev IsNamed : Type 0
    IsNamed = sound.named z (meaning_at y.scope ident.span) ≡ true

    abbrev IsTarget : Type 0
    IsTarget = sound.named_target z (meaning_at y.scope ident.span) ≡ true

    -- by what the table says
    named_as : (m : Meaning) → y.scope.site.names.meaning ident.span ≡ Some m → sound.named z (Some m) ≡ true → IsNamed
    named_as m table is = subst (λ o. sound.named z o ≡ true) (sym table) is

    target_as : (m : Meaning) → y.scope.site.names.meaning ident.span ≡ Some m → sound.named_target z (Some m) ≡ true → IsTarget
    target_as m table is = subst (λ o. sound.named_target z o ≡ true) (sym table) is

    owned_is : (k : Variable) → meant ident.text y.names.names ≡ Some k → v.owner (slot_of y.scope (Some k.meaning)) ≡ Some k.meaning
    owned_is k e = meant_is (λ (x : Variable). v.owner (slot_of y.scope (Some x.meaning)) ≡ Some x.meaning) ident.text y.names.names n.owned k e

    known_named : (k : Variable) → meant ident.text y.names.names ≡ Some k → Told y (reading.known_notes false k ident.span) → IsNamed
    known_named k e said = named_as k.meaning (said.0 here) (own_named k.meaning (variable_is y set ident.text k e).kind (owned_is k e))

    known_target : (span : Span) (there : y.here span) → IsCovered y set ident span there here → (k : Variable) → meant ident.text y.names.names ≡ Some k → Told y (reading.known_notes true k ident.span) → IsTarget
    known_target span there covered k e said =
        let kind = (variable_is y set ident.text k e).kind in
        target_as k.meaning (said.0 here)
        (own_assigned k.meaning kind (owned_is k e)
        (covered (slot_of y.scope (Some k.meaning)) (ap (λ o. is_among (slot_of y.scope (Some k.meaning)) (with_slot y.scope o [])) (said.0 here) ∙ own_slot k.meaning kind)))

    -- ---- fields

    field_sound : (f : Field) (m : Option Meaning) → FieldIs y.program y.scope.site y.names.class f m → Told y (rules.not_static y.names f.is_static ident.span) → Told y (rules.use_of m ident.span) → IsNamed
    field_sound f (Some (meaning.FieldNamed k)) is static said = named_as (meaning.FieldNamed k) (said.0 here) (this_is f.is_static ident.span is.4 static)
    field_sound f (Some (meaning.Constant k)) is static said = named_as (meaning.Constant k) (said.0 here) refl
    field_sound f (Some (meaning.Local k)) is static said = absurd is
    field_sound f (Some (meaning.Param k)) is static said = absurd is
    field_sound f (Some (meaning.ClassNamed k)) is static said = absurd is
    field_sound f (Some (meaning.MethodNamed k)) is static said = absurd is
    field_sound f (Some meaning.LengthOf) is static said = absurd is
    field_sound f None is static said = absurd is

    constant_final : (f : Field) → f.is_static ≡ true → f.is_final ≡ true → rules.may_assign y.names.in_constructor y.names.class true f ≡ true → ⊥
    constant_final f static final may =
        false≢true (sym (ap (λ b. not b || (not f.is_static && (true && (y.names.in_constructor && (f.class == y.names.class))))) final ∙ ap (λ b. not b && (true && (y.names.in_constructor && (f.class == y.names.class)))) static) ∙ may)

    field_target : (f : Field) (m : Option Meaning) → FieldIs y.program y.scope.site y.names.class f m → Told y (rules.not_static y.names f.is_static ident.span) → Told y (rules.use_of m ident.span)
        → Told y (rules.final_assigned y.names.in_constructor y.names.class true true f ident.span) → IsTarget
    field_target f (Some (meaning.FieldNamed k)) is static said final = target_as (meaning.FieldNamed k) (said.0 here) (this_is f.is_static ident.span is.4 static)
    field_target f (Some (meaning.Constant k)) is static said final = absurd (constant_final f is.2 is.3 (kept y (rules.may_assign y.names.in_constructor y.names.class true f) rule.FinalAssigned ident.span final))
    field_target f (Some (meaning.Local k)) is static said final = absurd is
    field_target f (Some (meaning.Param k)) is static said final = absurd is
    field_target f (Some (meaning.ClassNamed k)) is static said final = absurd is
    field_target f (Some (meaning.MethodNamed k)) is static said final = absurd is
    field_target f (Some meaning.LengthOf) is static said final = absurd is
    field_target f None is static said final = absurd is

    bare_named : (o : Option Field) → field_named y.names.world y.names.class ident.text ≡ o → Told y (reading.bare_field y.names false ident.span o).notes → IsNamed
    bare_named None e said = absurd said.0
    bare_named (Some f) e said =
        let a = parted y (rules.not_static y.names f.is_static ident.span) (reading.field_use y.names false true ident.span f) said in
        let b = parted y (rules.use_of f.meaning ident.span) (rules.final_assigned y.names.in_constructor y.names.class false true f ident.span) a.1 in
        field_sound f f.meaning (set.members.fields y.names.class ident.text f set.class_there e) a.0 b.0

    bare_target : (o : Option Field) → field_named y.names.world y.names.class ident.text ≡ o → Told y (reading.bare_field y.names true ident.span o).notes → IsTarget
    bare_target None e said = absurd said.0
    bare_target (Some f) e said =
        let a = parted y (rules.not_static y.names f.is_static ident.span) (reading.field_use y.names true true ident.span f) said in
        let b = parted y (rules.use_of f.meaning ident.span) (rules.final_assigned y.names.in_constructor y.names.class true true f ident.span) a.1 in
        field_target f f.meaning (set.members.fields y.names.class ident.text f set.class_there e) a.0 b.0 b.1

    -- ---- what a name means

    known_or_named : (o : Option Variable) → meant ident.text y.names.names ≡ o → Told y (reading.known_or y.names false ident o).notes → IsNamed
    known_or_named (Some k) e said = known_named k e said
    known_or_named None e said = bare_named (field_named y.names.world y.names.class ident.text) refl said

    known_or_target : (span : Span) (there : y.here span) → IsCovered y set ident span there here → (o : Option Variable) → meant ident.text y.names.names ≡ o → Told y (reading.known_or y.names true ident o).notes → IsTarget
    known_or_target span there covered (Some k) e said = known_target span there covered k e said
    known_or_target span there covered None e said = bare_target (field_named y.names.world y.names.class ident.text) refl said

    pub variable_named : Told y (reading.variable y.names false ident).notes → IsNamed
    variable_named = pending_or_not (is_pending y.names.pending ident.text)
      where
        pending_or_not : (b : Bool) → Told y (if b then judged None (rules.unknown_name ident.span) else reading.known_or y.names false ident (meant ident.text y.names.names)).notes → IsNamed
        pending_or_not true said = absurd said.0
        pending_or_not false said = known_or_named (meant ident.text y.names.names) refl said

    pub variable_target : (span : Span) (there : y.here span) → IsCovered y set ident span there here → Told y (reading.variable y.names true ident).notes → IsTarget
    variable_target span there covered = pending_or_not (is_pending y.names.pending ident.text)
      where
        pending_or_not : (b : Bool) → Told y (if b then judged None (rules.unknown_name ident.span) else reading.known_or y.names true ident (meant ident.text y.names.names)).notes → IsTarget
        pending_or_not true said = absurd said.0
        pending_or_not false said = known_or_target span there covered (meant ident.text y.names.names) refl said

    -- ---- as an expression

    abbrev pub name_kind : KindReading
    name_kind = record { is_null = false; is_this = false; judge = λ s p. reading.variable s false ident; assigned = λ s p. reading.variable s true ident; receiver = λ s p. reading.name_before_dot s ident p }

    named_or_class : (o : Option Meaning) → sound.named z o ≡ true → sound.named_unused z o ≡ true
    named_or_class None e = absurd (false≢true e)
    named_or_class (Some (meaning.ClassNamed k)) e = refl
    named_or_class (Some (meaning.Local k)) e = e
    named_or_class (Some (meaning.Param k)) e = e
    named_or_class (Some (meaning.FieldNamed k)) e = e
    named_or_class (Some (meaning.Constant k)) e = e
    named_or_class (Some (meaning.MethodNamed k)) e = e
    named_or_class (Some meaning.LengthOf) e = e

    abbrev Unused : Type 0
    Unused = sound.named_unused z (meaning_at y.scope ident.span) ≡ true

    abbrev Behind : reading.Received → Span → Type 0
    Behind o span = Told y o.notes → Unused × ((ty : Type_) → o.object ≡ value ty → IsNamed)

    variable_behind : (span : Span) → Behind (as_object (reading.variable y.names false ident) span) span
    variable_behind span said =
        let is = variable_named (parted y (reading.variable y.names false ident).notes (object_notes (reading.variable y.names false ident).ty span) said).0 in
        (named_or_class (meaning_at y.scope ident.span) is, (λ ty e. is))

    class_behind : (o : Option ℕ) (span : Span) → Behind (reading.class_or y.names ident span o) span
    class_behind (Some class) span said = (subst (λ o. sound.named_unused z o ≡ true) (sym (said.0 here)) refl, (λ ty e. no_value class ty e))
      where
        no_value : (class : ℕ) (ty : Type_) → of_class class ≡ value ty → IsNamed
        no_value class ty e = absurd (cc e)
    class_behind None span said = variable_behind span said

    before_dot : (span : Span) → Behind (reading.name_before_dot y.names ident span) span
    before_dot span = by_variable (reading.is_variable y.names ident.text)
      where
        by_variable : (b : Bool) → Behind (if b then as_object (reading.variable y.names false ident) span else reading.class_or y.names ident span (y.names.world.class ident.text)) span
        by_variable true said = variable_behind span said
        by_variable false said = class_behind (y.names.world.class ident.text) span said

    pub name_sound : (span : Span) → IsSound y v (sound.name ident span) (reading_at y set name_kind span)
    name_sound span = record {
      span = refl;
      value = λ said. variable_named (parted y (reading.variable y.names false ident).notes (type_note (reading.variable y.names false ident).ty span) said).0;
      null = λ e. absurd (false≢true e);
      unused = λ said. (before_dot span said).0;
      object = λ ty said e. (before_dot span said).1 ty e;
    }

    pub name_target : (span : Span) (there : y.here span) → IsCovered y set ident span there here → IsSoundTarget y v (sound.name ident span) (reading_at y set name_kind span)
    name_target span there covered said = variable_target span there covered (parted y (reading.variable y.names true ident).notes (type_note (reading.variable y.names true ident).ty span) said).0
