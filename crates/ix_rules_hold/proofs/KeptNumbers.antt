-- The numbers of the paths that a call and a write of a field leave as they were.
use Rattle.std.specs.Prelude.{◌≡◌, ℕ, ◌==◌, ◌&&◌, ◌||◌, not, Bool, true, false, List, Some, refl}
use Rattle.std.proofs.Common.{arith, sym, ap, ◌∙◌, subst, ⊎_elim}
use Rattle.std.proofs.lemmas.Bool.{false≢true, and_parts}
use Rattle.std.proofs.lemmas.Bool.Decides.{nat_tests}
use Rattle.ix_core.specs.declared.fact.Path.{Path}
use Rattle.ix_core.specs.declared.fact.Path.TheVariants.{Slot, FieldOf}
use Rattle.ix_core.specs.declared.program.Method.{Method}
use Rattle.ix_core.specs.Heap.{Held, Reading, Num, Boolean, Null, At, Heap, value_at, object_at, place_in, field_value, reading_of, write_at}
use Rattle.ix_core.specs.Machine.{CallKind}
use Rattle.ix_core.specs.Objects.{IsOn, AllOn, Later, IsSame, IsFree, HeapKeeps, FrameKeeps, IsOwn}
use Rattle.ix_facts.specs.Forget.{SameBut, of_call, of_field, of_this}
use Rattle.ix_core.specs.Numbers.{HasInts, numbers_of, held_at, field_of}
use Rattle.ix_core.specs.Waits.{Stays, NoEffect, Final, Hidden, Since, is_super}
use Rattle.ix_core.specs.Analysis.{IsWorld}
use Rattle.ix_core.specs.World.{World}
use Rattle.ix_rules_hold.specs.MachineSteps.{own_slot}
use Rattle.ix_core.proofs.Entered.{cell_each, reading_later}
use Rattle.ix_core.proofs.FieldSteps.{write_same, write_later}
use Rattle.ix_core.proofs.Cases.{by_test, equal}

-- ---- which paths keep their numbers

-- What a call leaves as it is: slots; and unless it is `super` on that object, the fields that are final or of `this` of a constructor, and all fields where
-- the callee is without effects.
abbrev pub outlives : World → Method → Method → CallKind → Path → Bool
outlives world caller callee kind (Slot slot) = true
outlives world caller callee kind (FieldOf slot field) =
    not (is_super kind && own_slot caller slot) && (callee.effect_free || (world.is_final field || own_slot caller slot))

-- What a write of a field through a slot leaves as it is: slots and other fields; in a constructor a write through another slot spares `this`.
abbrev spared : Method → ℕ → ℕ → Path → Bool
spared method through field (Slot slot) = true
spared method through field (FieldOf slot other) = not (other == field) || (own_slot method slot && not (through == 0))

own_of : (method : Method) (slot : ℕ) → own_slot method slot ≡ true → IsOwn method slot
own_of method slot e = let both = and_parts method.constructor (slot == 0) e in (both.0, equal slot 0 both.1)

own_is : (method : Method) (slot : ℕ) → IsOwn method slot → own_slot method slot ≡ true
own_is method slot own = let a = own.0 in let b = own.1 in grind (arith, nat_tests)

pub not_true : (b : Bool) → not b ≡ true → b ≡ true → ⊥
not_true true n e = false≢true n
not_true false n e = false≢true e

pub both_true : {a b : Bool} → a ≡ true → b ≡ true → (a && b) ≡ true
both_true a b = rw a (rw b refl)

last_of : (a b c : Bool) → a ≡ false → b ≡ false → (a || (b || c)) ≡ true → c ≡ true
last_of a b c x y e = subst (λ t. (t || c) ≡ true) y (subst (λ t. (t || (b || c)) ≡ true) x e)

pub same_true : (n m : ℕ) → n ≡ m → (n == m) ≡ true
same_true n m e = grind (arith, nat_tests)

-- what is spared of the written field is `this`, and it was written through another slot
spared_parts : (method : Method) (o f slot g : ℕ) → g ≡ f → spared method o f (FieldOf slot g) ≡ true → IsOwn method slot × (o ≡ 0 → ⊥)
spared_parts method o f slot g same e =
    let rest : (own_slot method slot && not (o == 0)) ≡ true = subst (λ t. (not t || (own_slot method slot && not (o == 0))) ≡ true) (same_true g f same) e in
    let both = and_parts (own_slot method slot) (not (o == 0)) rest in
    (own_of method slot both.0, λ z. not_true (o == 0) both.1 (same_true o 0 z))

pub stays_of : (world : World) (caller callee : Method) (kind : CallKind) (slot field : ℕ) → outlives world caller callee kind (FieldOf slot field) ≡ true → Stays world caller callee kind slot field
stays_of world caller callee kind slot field e =
    let both = and_parts (not (is_super kind && own_slot caller slot)) (callee.effect_free || (world.is_final field || own_slot caller slot)) e in record {
      not_super = λ s own has. let o = own_is caller slot own in not_true (is_super kind && own_slot caller slot) both.0 (both_true s o);
      reason = by_test callee.effect_free (λ q. NoEffect q)
          (λ q. by_test (world.is_final field) (λ f. Final f) (λ f. Hidden (own_of caller slot (last_of callee.effect_free (world.is_final field) (own_slot caller slot) q f both.1))));
    }

abbrev AsBefore : World → List Held → Heap → Heap → Path → Type 0
AsBefore world slots before after p = reading_of before (held_at world.place slots before p) ≡ reading_of after (held_at world.place slots after p)

module _ (world : World) (slots : List Held) (before after : Heap) (later : Later before after) (all : AllOn slots before) where
  slot_before : (slot : ℕ) → AsBefore world slots before after (Slot slot)
  slot_before slot = reading_later before after (value_at slots slot) later (all.held slot)

  field_before : (slot field : ℕ) (held : Held) → ((object : ℕ) → held ≡ At object → IsSame world before after object field)
      → reading_of before (field_of world.place before field held) ≡ reading_of after (field_of world.place after field held)
  field_before slot field (Num n) same = refl
  field_before slot field (Boolean answer) same = refl
  field_before slot field Null same = refl
  field_before slot field (At k) same =
      let on : IsOn before (field_value world.place before k field) = cell_each (IsOn before) (object_at before k).cells (place_in world.place (object_at before k).kind field) tt (all.within k) in
      reading_later before after (field_value world.place before k field) later on ∙ ap (reading_of after) (same k refl)

-- Across a call the paths that outlive it keep their numbers.
pub call_before : (world : World) (caller callee : Method) (kind : CallKind) (slots : List Held) (began heap : Heap) → AllOn slots began → Since world caller callee kind slots began heap
    → (p : Path) → outlives world caller callee kind p ≡ true → AsBefore world slots began heap p
call_before world caller callee kind slots began heap all since (Slot slot) e = slot_before world slots began heap since.later all slot
call_before world caller callee kind slots began heap all since (FieldOf slot field) e =
    field_before world slots began heap since.later all slot field (value_at slots slot) (λ object at. since.same slot field object at (stays_of world caller callee kind slot field e))

module _ (world : World) (tables : IsWorld world) (building : ℕ → Type 0) (method : Method) (slots : List Held) (heap : Heap) (keeps : HeapKeeps world building heap) (frame : FrameKeeps building method slots heap) (all : AllOn slots heap) where
  -- Across a write the paths that it spares keep theirs.
  pub write_before : (o f k at v : ℕ) (holds : value_at slots o ≡ At k) (placed : place_in world.place (object_at heap k).kind f ≡ Some at)
      → (p : Path) → spared method o f p ≡ true → AsBefore world slots heap (write_at heap k at (value_at slots v)) p
  write_before o f k at v holds placed (Slot slot) e = slot_before world slots heap (write_at heap k at (value_at slots v)) (write_later world tables building method slots heap keeps frame o f k at v holds placed) all slot
  write_before o f k at v holds placed (FieldOf slot g) e =
      field_before world slots heap (write_at heap k at (value_at slots v)) (write_later world tables building method slots heap keeps frame o f k at v holds placed) all slot g (value_at slots slot)
      (λ object is. ⊎_elim (λ same. same)
      (λ same.
      let parts = spared_parts method o f slot g same.1 e in
      absurd ((subst (IsFree building heap) holds (frame.free o (λ own. parts.1 own.1))).1 (frame.this parts.0.0 k (subst (λ q. value_at slots q ≡ At k) parts.0.1 (is ∙ ap At same.0)))))
      (write_same world tables building method slots heap keeps frame o f k at v holds placed object g))

-- ---- the same, as the forgets of the rules are said

pub or_true : (b : Bool) → (b || true) ≡ true
or_true true = refl
or_true false = refl

bool_call : (s own quiet final : Bool) → s ≡ false → (not own && not final) ≡ false → (not (s && own) && (quiet || (final || own))) ≡ true
bool_call true own quiet final e h = absurd (false≢true (sym e))
bool_call false true quiet true e h = or_true quiet
bool_call false true quiet false e h = or_true quiet
bool_call false false quiet true e h = or_true quiet
bool_call false false quiet false e h = absurd (false≢true (sym h))

bool_write : (is spared_ : Bool) → (not spared_ && is) ≡ false → (not is || spared_) ≡ true
bool_write true true h = refl
bool_write true false h = absurd (false≢true (sym h))
bool_write false spared_ h = refl

call_outlives : (world : World) (caller callee : Method) (kind : CallKind) → is_super kind ≡ false → (p : Path) → of_call world.is_final (own_slot caller) p ≡ false → outlives world caller callee kind p ≡ true
call_outlives world caller callee kind s (Slot slot) e = refl
call_outlives world caller callee kind s (FieldOf slot field) e = bool_call (is_super kind) (own_slot caller slot) callee.effect_free (world.is_final field) s e

write_spares : (method : Method) (o f : ℕ) (p : Path) → of_field f (λ slot. own_slot method slot && not (o == 0)) p ≡ false → spared method o f p ≡ true
write_spares method o f (Slot slot) e = refl
write_spares method o f (FieldOf slot g) e = bool_write (g == f) (own_slot method slot && not (o == 0)) e

-- A call that is no `super`: the numbers stay but for the fields that it may write. So `forget_laws` gives the facts without them.
pub call_same : (world : World) (caller callee : Method) (kind : CallKind) (slots : List Held) (began heap : Heap) (ints : HasInts world.place slots began) (after : HasInts world.place slots heap)
    → is_super kind ≡ false → AllOn slots began → Since world caller callee kind slots began heap
    → SameBut (of_call world.is_final (own_slot caller)) (numbers_of world.place slots began ints) (numbers_of world.place slots heap after)
call_same world caller callee kind slots began heap ints after s all since p e =
    let x = call_before world caller callee kind slots began heap all since p (call_outlives world caller callee kind s p e) in (ap (λ (r : Reading). r.int) (sym x), ap (λ (r : Reading). r.size) (sym x))

-- A write of a field.
pub write_numbers : (world : World) (tables : IsWorld world) (building : ℕ → Type 0) (method : Method) (slots : List Held) (heap : Heap) (keeps : HeapKeeps world building heap) (frame : FrameKeeps building method slots heap) → AllOn slots heap
    → (o f k at v : ℕ) → value_at slots o ≡ At k → place_in world.place (object_at heap k).kind f ≡ Some at
    → (ints : HasInts world.place slots heap) (after : HasInts world.place slots (write_at heap k at (value_at slots v)))
    → SameBut (of_field f (λ slot. own_slot method slot && not (o == 0))) (numbers_of world.place slots heap ints) (numbers_of world.place slots (write_at heap k at (value_at slots v)) after)
write_numbers world tables building method slots heap keeps frame all o f k at v holds placed ints after p e =
    let x = write_before world tables building method slots heap keeps frame all o f k at v holds placed p (write_spares method o f p e) in (ap (λ (r : Reading). r.int) (sym x), ap (λ (r : Reading). r.size) (sym x))

bool_super : (z s c quiet final : Bool) → (z || (not (c && z) && not final)) ≡ false → (not (s && (c && z)) && (quiet || (final || (c && z)))) ≡ true
bool_super true s c quiet final e = absurd (false≢true (sym e))
bool_super false true true quiet true e = or_true quiet
bool_super false true false quiet true e = or_true quiet
bool_super false false true quiet true e = or_true quiet
bool_super false false false quiet true e = or_true quiet
bool_super false s true quiet false e = absurd (false≢true (sym e))
bool_super false s false quiet false e = absurd (false≢true (sym e))

super_outlives : (world : World) (caller callee : Method) (kind : CallKind) (p : Path) → (of_this p || of_call world.is_final (own_slot caller) p) ≡ false → outlives world caller callee kind p ≡ true
super_outlives world caller callee kind (Slot slot) e = refl
super_outlives world caller callee kind (FieldOf slot field) e = bool_super (slot == 0) (is_super kind) caller.constructor callee.effect_free (world.is_final field) e

-- A call of any kind, where all facts on fields of `this` go.
pub super_same : (world : World) (caller callee : Method) (kind : CallKind) (slots : List Held) (began heap : Heap) (ints : HasInts world.place slots began) (after : HasInts world.place slots heap)
    → AllOn slots began → Since world caller callee kind slots began heap
    → SameBut (λ p. of_this p || of_call world.is_final (own_slot caller) p) (numbers_of world.place slots began ints) (numbers_of world.place slots heap after)
super_same world caller callee kind slots began heap ints after all since p e =
    let x = call_before world caller callee kind slots began heap all since p (super_outlives world caller callee kind p e) in (ap (λ (r : Reading). r.int) (sym x), ap (λ (r : Reading). r.size) (sym x))
