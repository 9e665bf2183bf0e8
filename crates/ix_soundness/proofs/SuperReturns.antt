-- Behind a call of the parent's constructor each store that its rule gives is met: the class's own fields are as in a new object, and the claims of inherited
-- fields hold.
use Rattle.std.specs.Prelude.{◌≡◌, ℕ, suc, ◌==◌, Bool, true, false, not, ◌&&◌, ◌||◌, pos, List, [], ◌∷◌, slice_get, Some, refl}
use Rattle.std.proofs.Common.{sym, ap, ◌∙◌, subst, arith}
use Rattle.std.proofs.lemmas.Bool.{false≢true}
use Rattle.std.proofs.lemmas.Int.{ints}
use Rattle.ix_core.specs.declared.claim.Type_.{Type_}
use Rattle.ix_core.specs.declared.fact.Fact.TheVariants.{Rng, LenRng}
use Rattle.ix_core.specs.declared.fact.Path.{Path}
use Rattle.ix_core.specs.declared.fact.Path.TheVariants.{Slot, FieldOf}
use Rattle.ix_core.specs.declared.op.CallOp.{CallOp}
use Rattle.ix_core.specs.declared.program.Method.{Method}
use Rattle.ix_core.specs.declared.program.Program.{Program}
use Rattle.ix_core.specs.Formed.{is_formed}
use Rattle.ix_core.specs.Heap.{Held, At, Heap, ObjectOf, Reading, object_at, place_in, field_value, value_at, reading_of, no_reading}
use Rattle.ix_core.specs.Machine.{Super}
use Rattle.ix_core.specs.Numbers.{Numbers, HasInts, numbers_of}
use Rattle.ix_core.specs.Objects.{IsOn, AllOn, HasField, MeetsField, field_readings}
use Rattle.ix_core.specs.Tables.{method_at, class_at, field_at, all_fields, is_among, place_among}
use Rattle.ix_core.specs.Waits.{Since, Hidden, AreFresh}
use Rattle.ix_core.specs.World.{World}
use Rattle.ix_core.proofs.Entered.{reading_later, cell_each}
use Rattle.ix_core.specs.declared.claim.Name.TheVariants.{FieldNamed}
use Rattle.ix_facts.specs.AfterOperation.{is_int, is_array}
use Rattle.ix_facts.specs.Exact.{if_so}
use Rattle.ix_facts.specs.Facts.{AllHold}
use Rattle.ix_facts.specs.Forget.{SameBut, of_call, of_this}
use Rattle.ix_facts.specs.Stores.{Stored, Meets}
use Rattle.ix_facts.proofs.FactLists.{all_hold_app}
use Rattle.ix_rules_hold.specs.CallEffects.{spared_in}
use Rattle.ix_rules_hold.specs.MachineSteps.{own_slot, reading_at}
use Rattle.ix_rules_hold.proofs.MachineTests.{field_is}
use Rattle.ix_rules_hold.proofs.ReturnedCalls.{super_step}
use Rattle.ix_signatures.specs.Names.{object_path}
use Rattle.ix_signatures.specs.Signs.{SuperGives, of_callee, zero_facts, zero_fields, own_fields, fields_facts, fields_above, inherited_fields}
use Rattle.ix_signatures.proofs.SignTruth.{signs_hold}
use Rattle.ix_soundness.specs.Direct.{direct}
use Rattle.ix_soundness.specs.Known.{call_of}
use Rattle.ix_soundness.proofs.ClaimTruths.{claims_hold}
use Rattle.ix_soundness.proofs.FieldPlaces.{at_among, own_has, own_not_above, among_placed}
use Rattle.ix_soundness.proofs.NamedClaims.{field_names}

-- ---- facts of a new object

-- a field that reads as in a new object
pub zero_holds : (ty : Type_) (field : ℕ) (w : Numbers) → (w.int (FieldOf 0 field) ≡ pos 0) × (w.size (FieldOf 0 field) ≡ pos 0) → AllHold (zero_facts ty (FieldOf 0 field)) w
zero_holds ty field w is =
    all_hold_app w (if_so (is_int ty) (Rng (FieldOf 0 field) (pos 0) (pos 0) ∷ [])) (if_so (is_array ty) (LenRng (FieldOf 0 field) (pos 0) (pos 0) ∷ [])) (by_int (is_int ty)) (by_array (is_array ty))
  where
    by_int : (b : Bool) → AllHold (if_so b (Rng (FieldOf 0 field) (pos 0) (pos 0) ∷ [])) w
    by_int true = let e = is.0 in ((omega (arith, ints, e), omega (arith, ints, e)), tt)
    by_int false = tt

    by_array : (b : Bool) → AllHold (if_so b (LenRng (FieldOf 0 field) (pos 0) (pos 0) ∷ [])) w
    by_array true = let e = is.1 in ((omega (arith, ints, e), omega (arith, ints, e)), tt)
    by_array false = tt

pub zeros_hold : (program : Program) (fields : List ℕ) (w : Numbers) → ((k field : ℕ) → slice_get fields k ≡ Some field → (w.int (FieldOf 0 field) ≡ pos 0) × (w.size (FieldOf 0 field) ≡ pos 0)) → AllHold (zero_fields program fields) w
zeros_hold program [] w each = tt
zeros_hold program (field ∷ fields) w each =
    all_hold_app w (zero_facts (field_at program field).ty (FieldOf 0 field)) (zero_fields program fields) (zero_holds (field_at program field).ty field w (each 0 field refl)) (zeros_hold program fields w (λ k f is. each (suc k) f is))

pub reads_zero : (r : Reading) → r ≡ no_reading → (r.int ≡ pos 0) × (r.size ≡ pos 0)
reads_zero r e = (ap (λ (x : Reading). x.int) e, ap (λ (x : Reading). x.size) e)

still : (t quiet own final this : Bool) → ((t || (not quiet && (not own && not final))) || this) ≡ false → (this || (not (quiet || own) && not final)) ≡ false
still true quiet own final this e = absurd (false≢true (sym e))
still false true own final this e = by_this this e
  where
    by_this : (this : Bool) → (false || this) ≡ false → (this || false) ≡ false
    by_this true e = absurd (false≢true (sym e))
    by_this false e = refl
still false false own final true e = absurd (or_this (not own && not final) e)
  where
    or_this : (b : Bool) → (b || true) ≡ false → ⊥
    or_this true e = false≢true (sym e)
    or_this false e = false≢true (sym e)
still false false own final false e = or_none (not own && not final) e
  where
    or_none : (b : Bool) → (b || false) ≡ false → b ≡ false
    or_none true e = e
    or_none false e = refl

module _ (program : Program) (locals : List (List Type_)) (formed : is_formed program locals ≡ true) where
  abbrev world : World
  world = direct program

  module _ (caller : Method) (n : ℕ) (call : CallOp) (slots : List Held) (began heap : Heap) (made : caller.constructor ≡ true) (parent : (class_at program caller.class).parent ≡ Some (method_at program n).class) (on : AllOn slots began)
      (since : Since world caller (method_at program n) Super slots began heap) (object : ℕ) (at : value_at slots 0 ≡ At object) (fresh : AreFresh world began object caller.class)
      (claims : (field : ℕ) → HasField world (ObjectOf (method_at program n).class) field → MeetsField world heap object field) (before : HasInts world.place slots began) (behind : HasInts world.place slots heap) where
    abbrev v : Numbers
    v = numbers_of world.place slots began before

    abbrev w : Numbers
    w = numbers_of world.place slots heap behind

    super_same : SameBut (λ p. of_callee program caller (call_of call n) p || of_this p) v w
    super_same p e = super_step world caller (method_at program n) Super slots began heap before on since behind p (kept p e)
      where
        kept : (p : Path) → (of_callee program caller (call_of call n) p || of_this p) ≡ false → (of_this p || of_call world.is_final (spared_in caller (method_at program n)) p) ≡ false
        kept (Slot k) e = refl
        kept (FieldOf k f) e = still (k == call.target) (method_at program n).effect_free (own_slot caller k) (world.is_final f) (k == 0) e

    -- a field of the class itself is as it was, since no object of the parent has it
    own_zero : (field : ℕ) → is_among (class_at program caller.class).fields field ≡ true → (w.int (FieldOf 0 field) ≡ pos 0) × (w.size (FieldOf 0 field) ≡ pos 0)
    own_zero field among =
        let was : reading_of began (field_value world.place began object field) ≡ no_reading = fresh field (own_has program locals formed caller.class field among) in
        let same = since.same 0 field object at (record { not_super = λ s own has. own_not_above program locals formed caller.class (method_at program n).class field parent among has; reason = Hidden (made, refl) }) in
        let on_cell = cell_each (IsOn began) (object_at began object).cells (place_in world.place (object_at began object).kind field) tt (on.within object) in
        let now : reading_of heap (field_value world.place heap object field) ≡ no_reading
        = ap (reading_of heap) (sym same) ∙ (sym (reading_later began heap (field_value world.place began object field) since.later on_cell) ∙ was) in
        let read : reading_at w (FieldOf 0 field) ≡ no_reading = sym (field_is world slots heap behind 0 object field at) ∙ now in
        reads_zero (reading_at w (FieldOf 0 field)) read

    inherited_hold : (fields : List ℕ) → ((k field : ℕ) → slice_get fields k ≡ Some field → HasField world (ObjectOf (method_at program n).class) field) → AllHold (fields_facts program fields) w
    inherited_hold [] each = tt
    inherited_hold (field ∷ fields) each =
        all_hold_app w _ (fields_facts program fields)
        (claims_hold (object_path 0) (FieldOf 0 field) (field_at program field).claims w (field_readings world heap object (FieldNamed field)) (field_readings world heap object) (field_is world slots heap behind 0 object field at)
        (λ name named. let found = field_names program locals formed field name named in
        subst (λ m. field_readings world heap object m ≡ reading_at w (object_path 0 m)) (sym found.is) (field_is world slots heap behind 0 object found.other at))
        (claims field (each 0 field refl)))
        (inherited_hold fields (λ k f is. each (suc k) f is))

    above_has : (k field : ℕ) → slice_get (inherited_fields program caller) k ≡ Some field → HasField world (ObjectOf (method_at program n).class) field
    above_has k field is =
        let there : slice_get (all_fields program (method_at program n).class) k ≡ Some field = subst (λ o. slice_get (fields_above program o) k ≡ Some field) parent is in
        placed (all_fields program (method_at program n).class) field (at_among (all_fields program (method_at program n).class) field k there)
      where
        placed : (numbers : List ℕ) (field : ℕ) → is_among numbers field ≡ true → (place : ℕ) × (place_among numbers field ≡ Some place)
        placed numbers field e = among_placed numbers field e

    pub super_meets : (s t : Stored) → SuperGives program caller (call_of call n) s t → Meets s v → Meets t w
    super_meets s t gives meets =
        (signs_hold program caller).super (call_of call n) s t v w super_same
        (zeros_hold program (own_fields program caller) w (λ k field is. own_zero field (at_among (class_at program caller.class).fields field k is)))
        (inherited_hold (inherited_fields program caller) above_has) meets gives
