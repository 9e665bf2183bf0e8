-- Behind a call the facts that stay are true.
use Rattle.std.specs.Prelude.{◌≡◌, ℕ, ◌<◌, ◌==◌, Bool, true, false, not, ◌&&◌, List, [], ◌∷◌, length, slice_set, Option, Some, None, unwrap_or, refl}
use Rattle.std.proofs.Common.{arith, sym, ap, ◌∙◌, subst}
use Rattle.std.proofs.lemmas.Bool.{and_parts, false≢true}
use Rattle.ix_core.specs.declared.fact.Path.{Path}
use Rattle.ix_core.specs.declared.fact.Path.TheVariants.{Slot, FieldOf}
use Rattle.ix_core.specs.declared.op.CallOp.{CallOp}
use Rattle.ix_core.specs.declared.program.Method.{Method}
use Rattle.ix_core.specs.Heap.{Held, Num, Boolean, Null, At, Heap, ObjectOf, no_reading, field_value, value_at, int_of, reading_of}
use Rattle.ix_core.specs.Machine.{CallKind, Static, Instance, New, Super, set_target, target_of, call_values}
use Rattle.ix_core.specs.Objects.{AllOn, HasField, MeetsField, field_readings}
use Rattle.ix_core.specs.Tables.{Tables}
use Rattle.ix_core.specs.Analysis.{FillsTarget, Results, ResultTrue}
use Rattle.ix_core.specs.Waits.{FitsKind, FitsCall, AreFresh, is_super, Since, NoEffect, Hidden}
use Rattle.ix_core.specs.World.{World, tables_in}
use Rattle.ix_core.proofs.Entered.{none_some, reading_later}
use Rattle.ix_core.proofs.Heaps.{value_other, value_set}
use Rattle.ix_core_example.specs.Facts.{Fact, held_through, held_at, AllTrue, only, off_call}
use Rattle.ix_core_example.specs.Rules.{with_result, with_field, with_fields, behind_super, facts_behind}
use Rattle.ix_core_example.proofs.Truths.{Stays, later_stays, through_on, only_true, claims_true}
use Rattle.ix_core_example.proofs.StepsKeep.{not_true}

-- a call gives its value to its target, or to none
in_target : (target at : ℕ) (default : Option Held) → Rattle.std.specs.Prelude.option_map (λ (d : Held). target) default ≡ Some at → at ≡ target
in_target target at None e = none_some at e
in_target target at (Some d) e = sym (ap (λ (o : Option ℕ). unwrap_or o 0) e)

target_is : (tables : Tables) (kind : CallKind) (call : CallOp) (at : ℕ) → target_of tables kind call ≡ Some at → at ≡ call.target
target_is tables Static call at e = in_target call.target at (tables.routines call.method).default e
target_is tables Instance call at e = in_target call.target at (tables.routines call.method).default e
target_is tables (New class) call at e = sym (ap (λ (o : Option ℕ). unwrap_or o 0) e)
target_is tables Super call at e = none_some at e

set_other : (target : Option ℕ) (value : Option Held) (slots : List Held) (slot : ℕ) → ((at : ℕ) → target ≡ Some at → (slot == at) ≡ false) → value_at slots slot ≡ value_at (set_target target value slots) slot
set_other None value slots slot apart = refl
set_other (Some at) None slots slot apart = refl
set_other (Some at) (Some x) slots slot apart = sym (value_other slots at slot x (apart at refl))

module _ (world : World) (caller named : Method) (kind : CallKind) (call : CallOp) (slots : List Held) (began heap : Heap) (value : Option Held) (on : AllOn slots began) (since : Since world caller named kind slots began heap) where
  abbrev later : List Held
  later = set_target (target_of (tables_in world) kind call) value slots

  same_slot : (slot : ℕ) → not (slot == call.target) ≡ true → value_at slots slot ≡ value_at later slot
  same_slot slot e = set_other (target_of (tables_in world) kind call) value slots slot (λ at is. subst (λ t. (slot == t) ≡ false) (sym (target_is (tables_in world) kind call at is)) (not_true (slot == call.target) e))

  same_through : (slot field : ℕ) (held : Held) → value_at slots slot ≡ held → named.effect_free ≡ true → is_super kind ≡ false → held_through world began held field ≡ held_through world heap held field
  same_through slot field (At object) is quiet plain = since.same slot field object is (record { not_super = λ super own has. false≢true (sym plain ∙ super); reason = NoEffect quiet })
  same_through slot field (Num n) is quiet plain = refl
  same_through slot field (Boolean answer) is quiet plain = refl
  same_through slot field Null is quiet plain = refl

  call_stays : Stays world (off_call named kind call.target) slots began later heap
  call_stays = later_stays world (off_call named kind call.target) slots began later heap on since.later held
    where
      held : (path : Path) → off_call named kind call.target path ≡ true → held_at world slots began path ≡ held_at world later heap path
      held (Slot slot) e = same_slot slot e
      held (FieldOf slot field) e =
          let both = and_parts (not (slot == call.target)) (named.effect_free && not (is_super kind)) e in
          let quiet = and_parts named.effect_free (not (is_super kind)) both.1 in
          same_through slot field (value_at slots slot) refl quiet.0 (not_true (is_super kind) quiet.1) ∙ ap (λ held. held_through world heap held field) (same_slot slot both.0)

  -- what the claims of the result say is true of the slot that got it
  result_true : (target : Option ℕ) (value : Option Held) (facts : List Fact) → length slots ≡ caller.slots → ((at : ℕ) → target ≡ Some at → at < caller.slots) → FillsTarget value target → (values : List Held)
      → ResultTrue world named values heap value → AllTrue world facts (set_target target value slots) heap → AllTrue world (with_result target named.result_claims facts) (set_target target value slots) heap
  result_true None value facts size within given values results all = all
  result_true (Some at) None facts size within given values results all = absurd given
  result_true (Some at) (Some x) facts size within given values results all =
      let lt : at < length slots = (let h = within at refl in omega (arith, h, size)) in
      claims_true world (Slot at) (slice_set slots at x) heap facts named.result_claims _ _ results (ap int_of (sym (value_set slots at x lt))) all

  -- Behind `super` the claims of the parent's fields are true, and the other fields of the object read as they did.
  abbrev pub SuperShows : Type 0
  SuperShows = is_super kind ≡ true → (object : ℕ) × (value_at slots 0 ≡ At object) × AreFresh world began object caller.class × ((field : ℕ) → HasField world (ObjectOf named.class) field → MeetsField world heap object field)

  module _ (object : ℕ) (at : value_at slots 0 ≡ At object) (own : caller.constructor ≡ true) (fresh : AreFresh world began object caller.class)
      (claims : (field : ℕ) → HasField world (ObjectOf named.class) field → MeetsField world heap object field) where
    through_this : (field : ℕ) → held_through world heap (value_at slots 0) field ≡ field_value world.place heap object field
    through_this field = ap (λ held. held_through world heap held field) at

    still_fresh : (field place : ℕ) → world.place caller.class field ≡ Some place → world.place named.class field ≡ None → reading_of heap (field_value world.place heap object field) ≡ no_reading
    still_fresh field place mine none =
        ap (reading_of heap) (sym (since.same 0 field object at (record { not_super = λ super o has. none_some has.0 (sym none ∙ has.1); reason = Hidden (own, refl) })))
        ∙ (sym (reading_later began heap (field_value world.place began object field) since.later (through_on world slots began on field (At object))) ∙ fresh field (place, mine))

    one_true : (field : ℕ) (theirs mine : Option ℕ) → world.place named.class field ≡ theirs → world.place caller.class field ≡ mine → (facts : List Fact) → AllTrue world facts slots heap
        → AllTrue world (with_field theirs mine field (world.field_claims field) facts) slots heap
    one_true field (Some place) mine e d facts all =
        claims_true world (FieldOf 0 field) slots heap facts (world.field_claims field) _ (field_readings world heap object) (claims field (place, e)) (ap int_of (sym (through_this field))) all
    one_true field None (Some place) e d facts all = (ap (reading_of heap) (through_this field) ∙ still_fresh field place d e, all)
    one_true field None None e d facts all = all

    fields_true : (fields : List ℕ) (facts : List Fact) → AllTrue world facts slots heap → AllTrue world (with_fields world caller named fields facts) slots heap
    fields_true [] facts all = all
    fields_true (field ∷ fields) facts all = one_true field (world.place named.class field) (world.place caller.class field) refl refl (with_fields world caller named fields facts) (fields_true fields facts all)

  super_true : (fields : ℕ → List ℕ) (which : CallKind) → kind ≡ which → FitsCall world caller named kind call → SuperShows → (facts : List Fact) → AllTrue world facts later heap
      → AllTrue world (behind_super world fields caller named which facts) later heap
  super_true fields Static e fits shows facts all = all
  super_true fields Instance e fits shows facts all = all
  super_true fields (New class) e fits shows facts all = all
  super_true fields Super e fits shows facts all =
      let this = shows (ap is_super e) in
      let same : later ≡ slots = ap (λ k. set_target (target_of (tables_in world) k call) value slots) e in
      subst (λ s. AllTrue world (with_fields world caller named (fields caller.class) facts) s heap) (sym same)
      (fields_true this.0 this.1 (subst (λ k. FitsKind world k caller named call) e fits.kinds).0 this.2 this.3 (fields caller.class) facts (subst (λ s. AllTrue world facts s heap) same all))

  pub behind_true : (fields : ℕ → List ℕ) (facts : List Fact) → FitsCall world caller named kind call → length slots ≡ caller.slots → FillsTarget value (target_of (tables_in world) kind call)
      → Results world named (call_values kind call (length began) slots) heap value → SuperShows → AllTrue world facts slots began → AllTrue world (facts_behind world fields caller named kind call facts) later heap
  behind_true fields facts fits size given results shows all =
      super_true fields kind refl fits shows _
      (result_true (target_of (tables_in world) kind call) value (only (off_call named kind call.target) facts) size fits.within given (call_values kind call (length began) slots) results.claims
      (only_true world (off_call named kind call.target) slots began later heap call_stays facts all))
