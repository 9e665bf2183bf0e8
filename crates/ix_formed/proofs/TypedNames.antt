-- Literals and names give values of their types, and a name that may be assigned is a spot for them.
use Rattle.std.proofs.Common.{◌≡◌, ◌≤◌, ◌<◌, ℕ, ℤ, Bool, true, false, List, [], ◌∷◌, Option, Some, None, refl, sym, ap, subst, ◌∙◌, arith}
use Rattle.std.specs.Prelude.{if◌then◌else◌, ◌&&◌, ◌||◌, not, nat_lt, length, ◌==◌, bytes_eq, unwrap_or}
use Rattle.std.proofs.lemmas.Bool.{false≢true, and_parts}
use Rattle.std.proofs.lemmas.Bool.Decides.{nat_tests}
use Rattle.ix_text.specs.declared.span.Span.{Span}
use Rattle.ix_core.specs.declared.claim.Type_.{Type_}
use Rattle.ix_core.specs.declared.op.Literal.{Literal}
use Rattle.ix_core.specs.declared.op.Literal.TheVariants as literal
use Rattle.ix_core.specs.declared.op.OpKind.TheVariants as op
use Rattle.ix_core.specs.Formed.{assigned, is_there, is_target, literal_fits, literal_type, variable_type, copy_fits, field_fits, may_be_written, reads}
use Rattle.ix_core.specs.Machine.{is_int}
use Rattle.ix_core.specs.Tables.{field_at}
use Rattle.ix_core.specs.Types.{Point, int_type, class_type, is_type}
use Rattle.ix_tree.specs.declared.annot.Ident.{Ident}
use Rattle.ix_meaning.specs.declared.members.Field.{Field}
use Rattle.ix_meaning.specs.declared.note.Meaning.{Meaning}
use Rattle.ix_meaning.specs.declared.note.Meaning.TheVariants as meaning
use Rattle.ix_meaning.specs.declared.note.Rule.TheVariants as rule
use Rattle.ix_meaning.specs.Members.{field_named}
use Rattle.ix_meaning.specs.Rules as rules
use Rattle.ix_meaning.specs.Scope.{Known as Variable, meant, is_pending}
use Rattle.ix_meaning.specs.Types.{judged}
use Rattle.ix_meaning.specs.Values as reading
use Rattle.ix_plain.specs.declared.made.Made.{Made}
use Rattle.ix_plain.specs.declared.made.Spot.TheVariants as spot
use Rattle.ix_plain.specs.Scope.{slot_of, meaning_at, type_at, or_void, is_among}
use Rattle.ix_plain.specs.Assigned.{with_slot}
use Rattle.ix_plain.specs.Parts.{in_place, computed}
use Rattle.ix_plain.specs.Values as values
use Rattle.ix_plain.specs.Values.{int_value}
use Rattle.ix_formed.specs.Additions.{Makes, AllOf}
use Rattle.ix_formed.specs.Points.{Known}
use Rattle.ix_formed.specs.Typed.{Gives, Holds, Setting, Told, IsHere, IsSet, IsSlotOf, IsVariable, is_variable, FieldIs, Stands, Ready, Yields, SpotIs}
use Rattle.ix_formed.proofs.NumberLists.{both_true, is_itself}
use Rattle.ix_formed.proofs.SameTypes.{real_result}
use Rattle.ix_formed.proofs.TypedChecks.{parted, unbroken, kept, Tabled, Speaks}
use Rattle.ix_formed.proofs.TypedSteps.{target_is, differs, op_given, op_given_when, value_in_place, reads_held, holds_up, holds_known}

-- a number that is less than the length of a list
pub there_is : (number count : ℕ) → number < count → nat_lt number count ≡ true
there_is number count lt = grind (arith, nat_tests)

module _ (z : Setting) (set : IsSet z) where
  -- the slot of a new temporary
  pub new_target : (made : Made) (point : Point) → Ready z made point → made.free < z.method.slots → is_target z.program z.method made.free ≡ true
  new_target made point ready lt = target_is z.program z.method made.free (let a = set.params in let b = ready.0 in omega (arith, a, b)) lt

  -- ---- literals

  pub constant_yields : (value : Literal) (span : Span) (made : Made) (point : Point) → Ready z made point → literal_fits z.program z.method value ≡ true
      → Makes (Gives z.program z.method z.locals z.fixed z.avoided made point (literal_type value)) (computed made (op.Const made.free value) span)
  constant_yields value span made point ready fits =
      op_given z set made point ready (record { kind = op.Const made.free value; span = span; parts = [] }) (literal_type value) refl refl
      (λ lt. both_true (literal_fits z.program z.method value) (is_target z.program z.method made.free && true) fits (both_true (is_target z.program z.method made.free) true (new_target made point ready lt) refl))

  pub int_yields : (n : ℤ) (span : Span) → is_int n ≡ true → Yields z int_type (λ scope made. int_value n span made)
  int_yields n span int made point ready = constant_yields (literal.Int n) span made point ready int

  -- ---- variables

  no_this : (constructor : Bool) (slot first : ℕ) → first ≤ slot → (constructor ≡ true → 1 ≤ first) → not (constructor && (slot == 0)) ≡ true
  no_this false slot first le one = refl
  no_this true slot first le one = ap not (not_zero slot (let a = one refl in omega (arith, a, le)))
    where
      not_zero : (slot : ℕ) → 1 ≤ slot → (slot == 0) ≡ false
      not_zero slot le = grind (arith, nat_tests)

  pub copied : (span : Span) → z.here span → (slot : ℕ) (t ty : Type_) → t ≡ ty → IsSlotOf z slot ty → is_type z.program ty ≡ true → (made : Made) (point : Point) → Ready z made point → Known point slot ty
      → Makes (Gives z.program z.method z.locals z.fixed z.avoided made point ty) (computed made (op.Copy made.free slot t) span)
  copied span here slot t ty same is real made point ready known =
      let none : z.fixed → variable_type z.program z.method z.locals made.free span ≡ None = λ now. set.temporaries now made.free ready.0 span here in
      let low : slot < made.free = (let a = is.low in let b = ready.0 in omega (arith, a, b)) in
      op_given_when z set made point ready (record { kind = op.Copy made.free slot t; span = span; parts = [] }) ty refl
      (λ now. ap (λ o. assigned made.free (unwrap_or o t) point) (none now) ∙ ap (λ t. assigned made.free t point) same)
      (λ now lt.
      let read : reads z.program z.method point slot t ≡ true = ap (reads z.program z.method point slot) same
      ∙ reads_held z.program z.method z.locals z.fixed point slot made.free ty low (omega (arith, lt)) (holds_known z set point slot ty real known) in
      let copy : copy_fits z.program z.method z.locals (variable_type z.program z.method z.locals made.free span) made.free slot t [] ≡ true =
      ap (λ o. copy_fits z.program z.method z.locals o made.free slot t []) (none now)
      ∙ both_true (is_target z.program z.method made.free) (not (z.method.constructor && (slot == 0))) (new_target made point ready lt) (no_this z.method.constructor slot _ is.first set.with_this) in
      both_true (reads z.program z.method point slot t) _ read (both_true (not (made.free == slot)) _ (differs made.free slot low) copy))

  pub variable_yields : (span : Span) → z.here span → (slot : ℕ) (ty : Type_) → IsSlotOf z slot ty → is_among slot z.scope.assigned ≡ is_among slot z.avoided → is_type z.program ty ≡ true → z.scope.site.names.type_of span ≡ Some ty → (made : Made) (point : Point) → Ready z made point
      → Known point slot ty → Makes (Gives z.program z.method z.locals z.fixed z.avoided made point ty) (values.variable z.scope span slot made)
  variable_yields span here slot ty is stays real table made point ready known = in_place_or_not (is_among slot z.scope.assigned) refl
    where
      in_place_or_not : (b : Bool) → is_among slot z.scope.assigned ≡ b → Makes (Gives z.program z.method z.locals z.fixed z.avoided made point ty) (if b then computed made (op.Copy made.free slot (type_at z.scope span)) span else in_place made slot)
      in_place_or_not true e = copied span here slot (type_at z.scope span) ty (ap or_void table) is real made point ready known
      in_place_or_not false e = value_in_place z.program z.method z.locals z.fixed z.avoided made point slot ty (let a = is.low in let b = ready.0 in omega (arith, a, b)) (sym stays ∙ e) (λ again. holds_known z set point slot ty real known)

  -- a variable that a name means
  meant_in : (P : Variable → Type 0) (text : List ℕ) (vs : List Variable) → AllOf P vs → (k : Variable) → meant text vs ≡ Some k → P k
  meant_in P text [] all k e = absurd cc
  meant_in P text (v ∷ vs) all k e = here (bytes_eq v.name text) (meant_in P text vs all.1 k) e
    where
      here : (b : Bool) → (meant text vs ≡ Some k → P k) → (if b then Some v else meant text vs) ≡ Some k → P k
      here true rest e = let same : v ≡ k = cc in subst P same all.0
      here false rest e = rest e

  pub variable_is : (text : List ℕ) (k : Variable) → meant text z.names.names ≡ Some k → IsVariable z k
  variable_is text k e = meant_in (IsVariable z) text z.names.names set.variables k e

  pub variable_known : (text : List ℕ) (k : Variable) → meant text z.names.names ≡ Some k → (point : Point) → Stands z point → (ty : Type_) → k.ty ≡ Some ty → Known point (slot_of z.scope (Some k.meaning)) ty
  variable_known text k e point stands = meant_in (λ (v : Variable). (ty : Type_) → v.ty ≡ Some ty → Known point (slot_of z.scope (Some v.meaning)) ty) text z.names.names stands.variables k e

  -- ---- fields

  -- a field of an object
  pub field_yields : (span : Span) (field object : ℕ) (made : Made) (point : Point) → Ready z made point → field < length z.program.fields → object < made.free
      → Holds z.program point object (class_type (field_at z.program field).class)
      → Makes (Gives z.program z.method z.locals z.fixed z.avoided made point (field_at z.program field).ty) (computed made (op.ReadField made.free object field) span)
  field_yields span field object made point ready there low held =
      op_given z set made point ready (record { kind = op.ReadField made.free object field; span = span; parts = [] }) (field_at z.program field).ty refl refl
      (λ lt.
      let read = reads_held z.program z.method z.locals z.fixed point object made.free (class_type (field_at z.program field).class) low (omega (arith, lt)) held in
      let fit : field_fits z.program z.method point object field ≡ true = both_true (is_there z.program.fields field) _ (there_is field (length z.program.fields) there) read in
      both_true (field_fits z.program z.method point object field) _ fit (both_true (is_target z.program z.method made.free) _ (new_target made point ready lt) (both_true (not (made.free == object)) true (differs made.free object low) refl)))

  pub this_held : (point : Point) → z.names.has_object ≡ true → Stands z point → Holds z.program point 0 (class_type z.names.class)
  this_held point has stands = holds_known z set point 0 (class_type z.names.class) set.class_there (stands.this has)

  -- a final field is written in a constructor alone
  pub may_write : (through : Bool) (object field : ℕ) (f : Field) → (field_at z.program field).class ≡ f.class → (field_at z.program field).is_final ≡ f.is_final → (through ≡ true → object ≡ 0)
      → rules.may_assign z.names.in_constructor z.names.class through f ≡ true → may_be_written z.program z.method object field ≡ true
  may_write through object field f class final zero may =
      ap (λ b. not b || (z.method.constructor && ((object == 0) && ((field_at z.program field).class == z.method.class)))) final ∙ by_final f.is_final may
    where
      same_class : (f.class == z.names.class) ≡ true → ((field_at z.program field).class == z.method.class) ≡ true
      same_class e = ap (λ n. n == z.method.class) class ∙ ap (λ n. f.class == n) set.method_class ∙ e

      is_zero : (object : ℕ) → object ≡ 0 → (object == 0) ≡ true
      is_zero object e = grind (arith, nat_tests)

      by_final : (b : Bool) → (not b || (not f.is_static && (through && (z.names.in_constructor && (f.class == z.names.class))))) ≡ true
          → (not b || (z.method.constructor && ((object == 0) && ((field_at z.program field).class == z.method.class)))) ≡ true
      by_final false e = refl
      by_final true e =
          let a = and_parts (not f.is_static) (through && (z.names.in_constructor && (f.class == z.names.class))) e in
          let b = and_parts through (z.names.in_constructor && (f.class == z.names.class)) a.1 in
          let c = and_parts z.names.in_constructor (f.class == z.names.class) b.1 in
          both_true z.method.constructor _ (set.in_constructor c.0) (both_true (object == 0) _ (is_zero object (zero b.0)) (same_class c.1))

  -- ---- what a name means

  abbrev pub is_value : Meaning → Bool
  is_value (meaning.Local k) = true
  is_value (meaning.Param k) = true
  is_value (meaning.FieldNamed k) = true
  is_value (meaning.Constant n) = true
  is_value _ = false

  -- a name is a variable, a field of `this` or a constant
  pub record NameSpeaks (ident : Ident) (span : Span) (said : Option Type_) : Type 0 where
    pub means : Meaning
    pub table : z.scope.site.names.meaning ident.span ≡ Some means
    pub is_value : is_value means ≡ true
    pub speaks : Speaks z set said (λ scope made. values.named scope span (Some means) made)

  -- and may be assigned
  pub record NameAims (ident : Ident) (said : Option Type_) : Type 0 where
    pub means : Meaning
    pub table : z.scope.site.names.meaning ident.span ≡ Some means
    pub ty : Type_
    pub typed : said ≡ Some ty
    pub real : is_type z.program ty ≡ true
    pub spot : (made : Made) (point : Point) → Ready z made point → SpotIs z point made.free ty (values.named_spot z.scope (Some means))

  named_variable : (m : Meaning) → is_variable m ≡ true → (span : Span) (made : Made) → values.variable z.scope span (slot_of z.scope (Some m)) made ≡ values.named z.scope span (Some m) made
  named_variable (meaning.Local k) e span made = refl
  named_variable (meaning.Param k) e span made = refl
  named_variable (meaning.FieldNamed k) e span made = absurd (false≢true e)
  named_variable (meaning.Constant n) e span made = absurd (false≢true e)
  named_variable (meaning.ClassNamed k) e span made = absurd (false≢true e)
  named_variable (meaning.MethodNamed k) e span made = absurd (false≢true e)
  named_variable meaning.LengthOf e span made = absurd (false≢true e)

  spot_variable : (m : Meaning) → is_variable m ≡ true → spot.Variable (slot_of z.scope (Some m)) ≡ values.named_spot z.scope (Some m)
  spot_variable (meaning.Local k) e = refl
  spot_variable (meaning.Param k) e = refl
  spot_variable (meaning.FieldNamed k) e = absurd (false≢true e)
  spot_variable (meaning.Constant n) e = absurd (false≢true e)
  spot_variable (meaning.ClassNamed k) e = absurd (false≢true e)
  spot_variable (meaning.MethodNamed k) e = absurd (false≢true e)
  spot_variable meaning.LengthOf e = absurd (false≢true e)

  value_variable : (m : Meaning) → is_variable m ≡ true → is_value m ≡ true
  value_variable (meaning.Local k) e = refl
  value_variable (meaning.Param k) e = refl
  value_variable (meaning.FieldNamed k) e = absurd (false≢true e)
  value_variable (meaning.Constant n) e = absurd (false≢true e)
  value_variable (meaning.ClassNamed k) e = absurd (false≢true e)
  value_variable (meaning.MethodNamed k) e = absurd (false≢true e)
  value_variable meaning.LengthOf e = absurd (false≢true e)

  module _ (ident : Ident) (span : Span) (here : z.here span) (named : IsHere z (Rattle.ix_tree.specs.Parts.elsewhere ident)) where
    known_speaks : (k : Variable) → meant ident.text z.names.names ≡ Some k → Told z (reading.known_notes false k ident.span) → Tabled z span k.ty → NameSpeaks ident span k.ty
    known_speaks k e said table =
        let is = variable_is ident.text k e in
        record {
          means = k.meaning;
          table = said.0 named;
          is_value = value_variable k.meaning is.kind;
          speaks = record {
            ty = is.ty;
            typed = is.typed;
            of_type = real_result z.program is.ty is.real;
            yields = λ made point ready. subst (Makes (Gives z.program z.method z.locals z.fixed z.avoided made point is.ty)) (named_variable k.meaning is.kind span made)
                (variable_yields span here (slot_of z.scope (Some k.meaning)) is.ty is.slot is.stays is.real (table is.ty is.typed) made point ready (variable_known ident.text k e point ready.1 is.ty is.typed));
          };
        }

    -- the variable that a name means is among those that are assigned
    abbrev pub IsCovered : Type 0
    IsCovered = (slot : ℕ) → is_among slot (with_slot z.scope (meaning_at z.scope ident.span) []) ≡ true → is_among slot z.scope.assigned ≡ true

    own_slot : (m : Meaning) → is_variable m ≡ true → is_among (slot_of z.scope (Some m)) (with_slot z.scope (Some m) []) ≡ true
    own_slot (meaning.Local k) e = ap (λ b. if b then true else false) (is_itself (slot_of z.scope (Some (meaning.Local k))))
    own_slot (meaning.Param k) e = ap (λ b. if b then true else false) (is_itself (slot_of z.scope (Some (meaning.Param k))))
    own_slot (meaning.FieldNamed k) e = absurd (false≢true e)
    own_slot (meaning.Constant n) e = absurd (false≢true e)
    own_slot (meaning.ClassNamed k) e = absurd (false≢true e)
    own_slot (meaning.MethodNamed k) e = absurd (false≢true e)
    own_slot meaning.LengthOf e = absurd (false≢true e)

    known_aims : IsCovered → (k : Variable) → meant ident.text z.names.names ≡ Some k → Told z (reading.known_notes true k ident.span) → NameAims ident k.ty
    known_aims covered k e said =
        let is = variable_is ident.text k e in
        record {
          means = k.meaning;
          table = said.0 named;
          ty = is.ty;
          typed = is.typed;
          real = is.real;
          spot = λ made point ready. subst (SpotIs z point made.free is.ty) (spot_variable k.meaning is.kind) (
            is.slot,
            variable_known ident.text k e point ready.1 is.ty is.typed,
            sym is.stays ∙ covered (slot_of z.scope (Some k.meaning)) (ap (λ o. is_among (slot_of z.scope (Some k.meaning)) (with_slot z.scope o [])) (said.0 named) ∙ own_slot k.meaning is.kind),
          );
        }

    -- `this` is there where a field is used without a dot
    has_this : (f : Field) → f.is_static ≡ false → Told z (rules.not_static z.names f.is_static ident.span) → z.names.has_object ≡ true
    has_this f static said = by_has z.names.has_object (ap (λ b. not z.names.has_object && not b) (sym static) ∙ unbroken z (not z.names.has_object && not f.is_static) rule.NotStatic ident.span said)
      where
        by_has : (b : Bool) → (not b && true) ≡ false → b ≡ true
        by_has true e = refl
        by_has false e = absurd (false≢true (sym e))

    field_speaks : (f : Field) (m : Option Meaning) → FieldIs z.program z.scope.site z.names.class f m → Told z (rules.not_static z.names f.is_static ident.span) → Told z (rules.use_of m ident.span) → NameSpeaks ident span f.ty
    field_speaks f (Some (meaning.FieldNamed k)) is static used =
        let has = has_this f is.4 static in
        record {
          means = meaning.FieldNamed k;
          table = used.0 named;
          is_value = refl;
          speaks = record {
            ty = (field_at z.program k).ty;
            typed = is.2;
            of_type = real_result z.program (field_at z.program k).ty is.6;
            yields = λ made point ready. field_yields span k 0 made point ready is.0 (let a = set.static has in let b = ready.0 in omega (arith, a, b))
                (holds_up z set point 0 (class_type z.names.class) (class_type (field_at z.program k).class) (this_held point has ready.1) is.5);
          };
        }
    field_speaks f (Some (meaning.Constant n)) is static used = record {
      means = meaning.Constant n;
      table = used.0 named;
      is_value = refl;
      speaks = record { ty = int_type; typed = is.1; of_type = refl; yields = int_yields n span is.0 };
    }
    field_speaks f (Some (meaning.Local k)) is static used = absurd is
    field_speaks f (Some (meaning.Param k)) is static used = absurd is
    field_speaks f (Some (meaning.ClassNamed k)) is static used = absurd is
    field_speaks f (Some (meaning.MethodNamed k)) is static used = absurd is
    field_speaks f (Some meaning.LengthOf) is static used = absurd is
    field_speaks f None is static used = absurd is

    constant_final : (f : Field) → f.is_static ≡ true → f.is_final ≡ true → (through : Bool) → rules.may_assign z.names.in_constructor z.names.class through f ≡ true → ⊥
    constant_final f static final through may =
        false≢true (sym (ap (λ b. not b || (not f.is_static && (through && (z.names.in_constructor && (f.class == z.names.class))))) final ∙ ap (λ b. not b && (through && (z.names.in_constructor && (f.class == z.names.class)))) static) ∙ may)

    field_aims : (f : Field) (m : Option Meaning) → FieldIs z.program z.scope.site z.names.class f m → Told z (rules.not_static z.names f.is_static ident.span) → Told z (rules.use_of m ident.span)
        → Told z (rules.final_assigned z.names.in_constructor z.names.class true true f ident.span) → NameAims ident f.ty
    field_aims f (Some (meaning.FieldNamed k)) is static used final =
        let has = has_this f is.4 static in
        let may = kept z (rules.may_assign z.names.in_constructor z.names.class true f) rule.FinalAssigned ident.span final in
        record {
          means = meaning.FieldNamed k;
          table = used.0 named;
          ty = (field_at z.program k).ty;
          typed = is.2;
          real = is.6;
          spot = λ made point ready. (
            (let a = set.static has in let b = ready.0 in omega (arith, a, b)),
            is.0,
            refl,
            may_write true 0 k f is.1 is.3 (λ e. refl) may,
            holds_up z set point 0 (class_type z.names.class) (class_type (field_at z.program k).class) (this_held point has ready.1) is.5,
          );
        }
    field_aims f (Some (meaning.Constant n)) is static used final = absurd (constant_final f is.2 is.3 true (kept z (rules.may_assign z.names.in_constructor z.names.class true f) rule.FinalAssigned ident.span final))
    field_aims f (Some (meaning.Local k)) is static used final = absurd is
    field_aims f (Some (meaning.Param k)) is static used final = absurd is
    field_aims f (Some (meaning.ClassNamed k)) is static used final = absurd is
    field_aims f (Some (meaning.MethodNamed k)) is static used final = absurd is
    field_aims f (Some meaning.LengthOf) is static used final = absurd is
    field_aims f None is static used final = absurd is

    bare_speaks : (o : Option Field) → field_named z.names.world z.names.class ident.text ≡ o → Told z (reading.bare_field z.names false ident.span o).notes → Tabled z span (reading.bare_field z.names false ident.span o).ty
        → NameSpeaks ident span (reading.bare_field z.names false ident.span o).ty
    bare_speaks None e said table = absurd said.0
    bare_speaks (Some f) e said table =
        let a = parted z (rules.not_static z.names f.is_static ident.span) (reading.field_use z.names false true ident.span f) said in
        let b = parted z (rules.use_of f.meaning ident.span) (rules.final_assigned z.names.in_constructor z.names.class false true f ident.span) a.1 in
        field_speaks f f.meaning (set.members.fields z.names.class ident.text f set.class_there e) a.0 b.0

    bare_aims : (o : Option Field) → field_named z.names.world z.names.class ident.text ≡ o → Told z (reading.bare_field z.names true ident.span o).notes → NameAims ident (reading.bare_field z.names true ident.span o).ty
    bare_aims None e said = absurd said.0
    bare_aims (Some f) e said =
        let a = parted z (rules.not_static z.names f.is_static ident.span) (reading.field_use z.names true true ident.span f) said in
        let b = parted z (rules.use_of f.meaning ident.span) (rules.final_assigned z.names.in_constructor z.names.class true true f ident.span) a.1 in
        field_aims f f.meaning (set.members.fields z.names.class ident.text f set.class_there e) a.0 b.0 b.1

    known_or_speaks : (o : Option Variable) → meant ident.text z.names.names ≡ o → Told z (reading.known_or z.names false ident o).notes → Tabled z span (reading.known_or z.names false ident o).ty
        → NameSpeaks ident span (reading.known_or z.names false ident o).ty
    known_or_speaks (Some k) e said table = known_speaks k e said table
    known_or_speaks None e said table = bare_speaks (field_named z.names.world z.names.class ident.text) refl said table

    known_or_aims : IsCovered → (o : Option Variable) → meant ident.text z.names.names ≡ o → Told z (reading.known_or z.names true ident o).notes → NameAims ident (reading.known_or z.names true ident o).ty
    known_or_aims covered (Some k) e said = known_aims covered k e said
    known_or_aims covered None e said = bare_aims (field_named z.names.world z.names.class ident.text) refl said

    pub name_speaks : Told z (reading.variable z.names false ident).notes → Tabled z span (reading.variable z.names false ident).ty → NameSpeaks ident span (reading.variable z.names false ident).ty
    name_speaks = pending_or_not (is_pending z.names.pending ident.text)
      where
        pending_or_not : (b : Bool) → Told z (if b then judged None (rules.unknown_name ident.span) else reading.known_or z.names false ident (meant ident.text z.names.names)).notes
            → Tabled z span (if b then judged None (rules.unknown_name ident.span) else reading.known_or z.names false ident (meant ident.text z.names.names)).ty
            → NameSpeaks ident span (if b then judged None (rules.unknown_name ident.span) else reading.known_or z.names false ident (meant ident.text z.names.names)).ty
        pending_or_not true said table = absurd said.0
        pending_or_not false said table = known_or_speaks (meant ident.text z.names.names) refl said table

    pub name_aims : IsCovered → Told z (reading.variable z.names true ident).notes → NameAims ident (reading.variable z.names true ident).ty
    name_aims covered = pending_or_not (is_pending z.names.pending ident.text)
      where
        pending_or_not : (b : Bool) → Told z (if b then judged None (rules.unknown_name ident.span) else reading.known_or z.names true ident (meant ident.text z.names.names)).notes
            → NameAims ident (if b then judged None (rules.unknown_name ident.span) else reading.known_or z.names true ident (meant ident.text z.names.names)).ty
        pending_or_not true said = absurd said.0
        pending_or_not false said = known_or_aims covered (meant ident.text z.names.names) refl said
