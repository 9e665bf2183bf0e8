-- Values of types on a later heap, and what a slot holds that fits.
use Rattle.std.specs.Prelude.{◌≡◌, ◌⊎◌, ℕ, ◌<◌, ◌≤◌, ◌==◌, nat_lt, ℤ, Bool, true, List, length, slice_set, Option, None, Some, unwrap_or, refl}
use Rattle.std.proofs.Common.{arith, sym, ap, subst, ◌∙◌, inl, inr}
use Rattle.std.proofs.lemmas.Bool.{and_parts, false≢true}
use Rattle.std.proofs.lemmas.Bool.Decides.{nat_tests}
use Rattle.std.proofs.lemmas.Option.{slice_get_past}
use Rattle.ix_core.specs.declared.claim.Base.{Base}
use Rattle.ix_core.specs.declared.claim.Base.TheVariants as base
use Rattle.ix_core.specs.declared.claim.Type_.{Type_}
use Rattle.ix_core.specs.declared.claim.Type_.TheVariants as type
use Rattle.ix_core.specs.declared.program.Method.{Method}
use Rattle.ix_core.specs.declared.program.Program.{Program}
use Rattle.ix_core.specs.Formed.{reads, type_at, type_fits, is_slot}
use Rattle.ix_core.specs.Heap.{Held, Num, Boolean, Null, At, Heap, Object, Kind, ArrayOf, nothing, value_at, object_at}
use Rattle.ix_core.specs.Objects.{Later}
use Rattle.ix_core.specs.Typed.{IsOfType, SlotsTyped}
use Rattle.ix_core.specs.Types.{Types, with_type, int_type, bool_type, is_array}
use Rattle.ix_core.proofs.Cases.{by_test, equal}
use Rattle.ix_core.proofs.Heaps.{value_set, value_other}
use Rattle.ix_core.proofs.TypeLaws.{WaysEnd, of_above}

-- ---- later heaps

-- nothing is an instance of a class, or an array of a type
abbrev is_nothing : Kind → Type 0
is_nothing (ArrayOf type.Void) = Unit {0}
is_nothing _ = ⊥

there : (heap : Heap) (number : ℕ) → (is_nothing (object_at heap number).kind → ⊥) → number < length heap
there heap number some =
    by_test (nat_lt number (length heap))
    (λ t. grind (arith, nat_tests))
    (λ t.
    let past : length heap ≤ number = grind (arith, nat_tests) in
    let is : object_at heap number ≡ nothing = ap (λ o. unwrap_or o nothing) (slice_get_past heap number past) in
    absurd (some (subst (λ (o : Object). is_nothing o.kind) (sym is) tt)))

-- what is an array, or has a field, is on the heap
pub array_there : (program : Program) (heap : Heap) (number : ℕ) (ty : Type_) → is_array program ty ≡ true → (object_at heap number).kind ≡ ArrayOf ty → number < length heap
array_there program heap number (type.Array of depth element) is kind = there heap number (λ none. subst is_nothing kind none)
array_there program heap number (type.Plain of) is kind = absurd (false≢true is)
array_there program heap number type.Void is kind = absurd (false≢true is)

pub later_typed : (program : Program) (heap after : Heap) (ty : Type_) (value : Held) → Later heap after → IsOfType program heap ty value → IsOfType program after ty value
later_typed program heap after (type.Plain base.Int) (Num n) later is = tt
later_typed program heap after (type.Plain base.Bool) (Boolean answer) later is = tt
later_typed program heap after (type.Plain (base.Class class)) Null later is = tt
later_typed program heap after (type.Plain (base.Class class)) (At number) later is =
    (is.0, sym (later number (there heap number (λ none. subst is_nothing is.1 none))).kind ∙ is.1, is.2)
later_typed program heap after (type.Array of depth element) Null later is = tt
later_typed program heap after (type.Array of depth element) (At number) later is = sym (later number (there heap number (λ none. subst is_nothing is none))).kind ∙ is
later_typed program heap after (type.Plain base.Int) (Boolean answer) later is = absurd is
later_typed program heap after (type.Plain base.Int) Null later is = absurd is
later_typed program heap after (type.Plain base.Int) (At number) later is = absurd is
later_typed program heap after (type.Plain base.Bool) (Num n) later is = absurd is
later_typed program heap after (type.Plain base.Bool) Null later is = absurd is
later_typed program heap after (type.Plain base.Bool) (At number) later is = absurd is
later_typed program heap after (type.Plain (base.Class class)) (Num n) later is = absurd is
later_typed program heap after (type.Plain (base.Class class)) (Boolean answer) later is = absurd is
later_typed program heap after (type.Array of depth element) (Num n) later is = absurd is
later_typed program heap after (type.Array of depth element) (Boolean answer) later is = absurd is
later_typed program heap after type.Void value later is = absurd is

pub slots_later : (program : Program) (types : Types) (slots : List Held) (heap after : Heap) → Later heap after → SlotsTyped program types slots heap → SlotsTyped program types slots after
slots_later program types slots heap after later typed slot ty is = later_typed program heap after ty (value_at slots slot) later (typed slot ty is)

-- ---- assignments

some_type : {a b : Type_} → ◌≡◌ {A = Option Type_} (Some a) (Some b) → a ≡ b
some_type e = ap (λ (o : Option Type_). unwrap_or o type.Void) e

-- the target holds a value of the type, and all else is as it was
pub assign_typed : (program : Program) (types : Types) (slots : List Held) (heap : Heap) (t : ℕ) (ty : Type_) (x : Held) → t < length slots → IsOfType program heap ty x → SlotsTyped program types slots heap
    → SlotsTyped program (with_type t ty types) (slice_set slots t x) heap
assign_typed program types slots heap t ty x lt is typed slot other e =
    by_test (slot == t)
    (λ h.
    let same : ty ≡ other = some_type (let f : with_type t ty types slot ≡ Some ty = rw h refl in sym f ∙ e) in
    subst (λ y. IsOfType program heap y (value_at (slice_set slots t x) slot)) same
    (subst (λ v. IsOfType program heap ty v) (sym (ap (value_at (slice_set slots t x)) (equal slot t h) ∙ value_set slots t x lt)) is))
    (λ h.
    let same : types slot ≡ Some other = (let f : with_type t ty types slot ≡ types slot = rw h refl in sym f ∙ e) in
    subst (λ v. IsOfType program heap other v) (sym (value_other slots t slot x h)) (typed slot other same))

-- ---- what a slot holds that fits: no operand is of another type, and none lies past the frame

pub int_held : (program : Program) (heap : Heap) (value : Held) → IsOfType program heap int_type value → (n : ℤ) × (value ≡ Num n)
int_held program heap (Num n) is = (n, refl)
int_held program heap (Boolean answer) is = absurd is
int_held program heap Null is = absurd is
int_held program heap (At number) is = absurd is

pub bool_held : (program : Program) (heap : Heap) (value : Held) → IsOfType program heap bool_type value → (answer : Bool) × (value ≡ Boolean answer)
bool_held program heap (Boolean answer) is = (answer, refl)
bool_held program heap (Num n) is = absurd is
bool_held program heap Null is = absurd is
bool_held program heap (At number) is = absurd is

pub array_held : (program : Program) (heap : Heap) (of : Base) (depth : ℕ) (element : _) (value : Held) → IsOfType program heap (type.Array of depth element) value
    → (value ≡ Null) ⊎ ((number : ℕ) × (value ≡ At number) × ((object_at heap number).kind ≡ ArrayOf (type.Array of depth element)))
array_held program heap of depth element Null is = inl refl
array_held program heap of depth element (At number) is = inr (number, refl, is)
array_held program heap of depth element (Num n) is = absurd is
array_held program heap of depth element (Boolean answer) is = absurd is

module _ (program : Program) (ends : WaysEnd program) (method : Method) (types : Types) (slots : List Held) (heap : Heap) (size : length slots ≡ method.slots) (typed : SlotsTyped program types slots heap) where
  fits_typed : (slot : ℕ) (ty : Type_) (known : Option Type_) → types slot ≡ known → type_fits program method known ty ≡ true → IsOfType program heap ty (value_at slots slot)
  fits_typed slot ty None is e = absurd (false≢true e)
  fits_typed slot ty (Some held) is e = of_above program ends heap held ty (value_at slots slot) e (typed slot held is)

  pub slot_there : (slot : ℕ) → is_slot program method slot ≡ true → slot < length slots
  slot_there slot e = subst (λ n. slot < n) (sym size) (grind (arith, nat_tests))

  pub read_typed : (slot : ℕ) (ty : Type_) → reads program method (Some types) slot ty ≡ true → (slot < length slots) × IsOfType program heap ty (value_at slots slot)
  read_typed slot ty e =
      let parts = and_parts (is_slot program method slot) (type_at program method (Some types) slot ty) e in
      (slot_there slot parts.0, fits_typed slot ty (types slot) refl parts.1)
