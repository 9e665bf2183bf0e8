-- Where no error of an access, a new array or a value of an element is derived, indices lie within arrays, lengths aren't negative, and elements meet their claims.
use Rattle.std.specs.Prelude.{◌≡◌, ℕ, zero, suc, nat_lt, ◌≤ℤ◌, ◌<ℤ◌, int_le, ℤ, pos, Bool, true, false, ◌&&◌, if◌then◌else◌, List, [], ◌∷◌, slice_get, Some, refl}
use Rattle.std.specs.List.{list_all}
use Rattle.std.proofs.Common.{arith, sym, subst}
use Rattle.std.proofs.lemmas.Bool.{and_parts, false≢true}
use Rattle.std.proofs.lemmas.Bool.Decides.{nat_tests}
use Rattle.std.proofs.lemmas.Int.{ints}
use Rattle.ix_text.specs.declared.span.Span.{Span}
use Rattle.ix_num.specs.Ints.{least_int}
use Rattle.ix_core.specs.declared.claim.Base.{Base}
use Rattle.ix_core.specs.declared.claim.Base.TheVariants as base
use Rattle.ix_core.specs.declared.claim.Claim.{Claim}
use Rattle.ix_core.specs.declared.claim.Claim.TheVariants as claim
use Rattle.ix_core.specs.declared.claim.Type_.{Type_}
use Rattle.ix_core.specs.declared.claim.Type_.TheVariants as type
use Rattle.ix_core.specs.declared.error.Error.{Error}
use Rattle.ix_core.specs.declared.error.Subject.TheVariants.{Element}
use Rattle.ix_core.specs.declared.fact.Path.TheVariants.{Slot}
use Rattle.ix_core.specs.declared.fact.PathOff.TheVariants.{Nothing}
use Rattle.ix_core.specs.declared.fact.PathClaim.TheVariants as path_claim
use Rattle.ix_core.specs.declared.program.Program.{Program}
use Rattle.ix_core.specs.Claims.{True, AreTrueOf}
use Rattle.ix_core.specs.Heap.{Held, Num, Boolean, Null, At, Heap, Places, value_at, int_of, size_of, int_reading, no_reading, cell_default, default_of_base}
use Rattle.ix_core.specs.Machine.{int_at}
use Rattle.ix_core.specs.Numbers.{Numbers, HasInts, numbers_of}
use Rattle.ix_core.specs.Objects.{MeetsElement}
use Rattle.ix_core.specs.Safe.{element_claims}
use Rattle.ix_core.specs.Typed.{IsOfType}
use Rattle.ix_core.specs.Types.{is_array, is_base, is_int_type, is_empty, is_element_claim, cell_type}
use Rattle.ix_core.proofs.Cases.{by_test}
use Rattle.ix_facts.specs.AfterOperation.{loaded_claims}
use Rattle.ix_facts.specs.Assume.{ClaimHolds}
use Rattle.ix_facts.specs.Stores.{Stored, Meets}
use Rattle.ix_rules_hold.specs.MachineSteps.{on_paths}
use Rattle.ix_signatures.specs.SignErrors.{Refuses, plain}
use Rattle.ix_sign.specs.RuleErrors.{AccessLow, AccessHigh, LengthNegative, ElementClaim, FreshElement, zero_meets, no_path}
use Rattle.ix_soundness.proofs.ClaimTruths.{EachHolds, none_fails}
use Rattle.ix_soundness.proofs.Stable.{unrefused}

-- ---- claims on elements name nothing

element_true : (c : Claim) (n : ℤ) (slot : ℕ) (v : Numbers) → is_element_claim c ≡ true → v.int (Slot slot) ≡ n → ClaimHolds (on_paths no_path c) (Slot slot) v → True c (int_reading n) (λ name. no_reading)
element_true (claim.Range low high) n slot v is same holds = (subst (λ m. low ≤ℤ m) same holds.0, subst (λ m. m ≤ℤ high) same holds.1)
element_true (claim.Low low) n slot v is same holds = subst (λ m. low ≤ℤ m) same holds
element_true (claim.Length least) n slot v is same holds = absurd (false≢true is)
element_true (claim.Same other) n slot v is same holds = absurd (false≢true is)
element_true (claim.Less name constant) n slot v is same holds = absurd (false≢true is)
element_true (claim.Upper array offset constant) n slot v is same holds = absurd (false≢true is)
element_true (claim.Search array) n slot v is same holds = absurd (false≢true is)
element_true (claim.Negative array) n slot v is same holds = absurd (false≢true is)

elements_true : (claims : List Claim) (n : ℤ) (slot : ℕ) (v : Numbers) → list_all is_element_claim claims ≡ true → v.int (Slot slot) ≡ n → EachHolds no_path (Slot slot) claims v → AreTrueOf claims n
elements_true [] n slot v are same each = tt
elements_true (c ∷ claims) n slot v are same each =
    let parts = and_parts (is_element_claim c) (list_all is_element_claim claims) are in
    (element_true c n slot v parts.0 same (each 0 c refl), elements_true claims n slot v parts.1 same (λ k d is. each (suc k) d is))

zero_true : (c : Claim) → zero_meets c ≡ true → True c (int_reading (pos 0)) (λ name. no_reading)
zero_true (claim.Range low high) e = let parts = and_parts (int_le low (pos 0)) (int_le (pos 0) high) e in let a = parts.0 in let b = parts.1 in (omega (arith, ints, a), omega (arith, ints, b))
zero_true (claim.Low low) e = omega (arith, ints, e)
zero_true (claim.Length least) e = absurd (false≢true e)
zero_true (claim.Same other) e = absurd (false≢true e)
zero_true (claim.Less name constant) e = absurd (false≢true e)
zero_true (claim.Upper array offset constant) e = absurd (false≢true e)
zero_true (claim.Search array) e = absurd (false≢true e)
zero_true (claim.Negative array) e = absurd (false≢true e)

zeros_true : (claims : List Claim) → ((k : ℕ) (c : Claim) → slice_get claims k ≡ Some c → zero_meets c ≡ true) → AreTrueOf claims (pos 0)
zeros_true [] each = tt
zeros_true (c ∷ claims) each = (zero_true c (each 0 c refl), zeros_true claims (λ k d is. each (suc k) d is))

none_true : (claims : List Claim) (n : ℤ) → is_empty claims ≡ true → AreTrueOf claims n
none_true [] n e = tt
none_true (c ∷ claims) n e = absurd (false≢true e)

-- the claims of a type on its elements; only those of ints have any
element_parts : (program : Program) (of : _) (depth : ℕ) (element : List Claim) → is_array program (type.Array of depth element) ≡ true
    → (nat_lt 0 depth ≡ true) × ((if is_int_type (type.Plain of) then list_all is_element_claim element else is_empty element) ≡ true)
element_parts program of depth element e =
    let one = and_parts (is_base program of) (nat_lt 0 depth && (if is_int_type (type.Plain of) then list_all is_element_claim element else is_empty element)) e in
    and_parts (nat_lt 0 depth) _ one.1

-- a value of the cells' type meets the claims where its int meets those that are loaded
pub element_met : (program : Program) (heap : Heap) (ty : Type_) (held : Held) → is_array program ty ≡ true → IsOfType program heap (cell_type ty) held
    → (list_all is_element_claim (loaded_claims ty) ≡ true → AreTrueOf (loaded_claims ty) (int_of held)) → MeetsElement (element_claims ty) held
element_met program heap ty (Boolean answer) is typed loaded = tt
element_met program heap ty Null is typed loaded = tt
element_met program heap ty (At number) is typed loaded = tt
element_met program heap (type.Array base.Int (suc zero) element) (Num n) is typed loaded = loaded (element_parts program base.Int 1 element is).1
element_met program heap (type.Array base.Int zero element) (Num n) is typed loaded = absurd (no_depth (element_parts program base.Int 0 element is).0)
  where
    no_depth : nat_lt 0 0 ≡ true → ⊥
    no_depth e = grind (arith, nat_tests)
element_met program heap (type.Array base.Int (suc (suc depth)) element) (Num n) is typed loaded = absurd typed
element_met program heap (type.Array base.Bool depth element) (Num n) is typed loaded = none_true element n (element_parts program base.Bool depth element is).1
element_met program heap (type.Array (base.Class class) depth element) (Num n) is typed loaded = none_true element n (element_parts program (base.Class class) depth element is).1
element_met program heap (type.Plain of) (Num n) is typed loaded = tt
element_met program heap type.Void (Num n) is typed loaded = tt

-- a new cell holds 0, or no int
default_zero : (ty : Type_) → int_of (cell_default ty) ≡ pos 0
default_zero type.Void = refl
default_zero (type.Plain of) = refl
default_zero (type.Array of depth element) = by_depth (nat_lt 1 depth) of
  where
    by_depth : (deep : Bool) (of : Base) → int_of (if deep then Null else default_of_base of) ≡ pos 0
    by_depth true of = refl
    by_depth false base.Int = refl
    by_depth false base.Bool = refl
    by_depth false (base.Class class) = refl

-- ---- errors

module _ (program : Program) (place : Places) (slots : List Held) (heap : Heap) (ints_ : HasInts place slots heap) (s : Stored) (meets : Meets s (numbers_of place slots heap ints_)) where
  abbrev v : Numbers
  v = numbers_of place slots heap ints_

  low_shown : (index : ℕ) (span : Span) → ((error : Error) (rank : ℕ) → AccessLow index span s error rank → ⊥) → pos 0 ≤ℤ int_at slots index
  low_shown index span none = unrefused s v (path_claim.Low (pos 0)) (Slot index) (λ refused. none (plain 1 span) 0 (record { refused = refused; is = refl; first = refl })) meets

  high_shown : (array index : ℕ) (span : Span) → ((error : Error) (rank : ℕ) → AccessHigh array index span s error rank → ⊥) → int_at slots index <ℤ size_of heap (value_at slots array)
  high_shown array index span none =
      let h = unrefused s v (path_claim.Upper (Slot array) Nothing (pos 0)) (Slot index) (λ refused. none (plain 2 span) 0 (record { refused = refused; is = refl; first = refl })) meets in omega (arith, ints, h)

  pub inside_shown : (array index : ℕ) (span : Span) → ((error : Error) (rank : ℕ) → AccessLow index span s error rank → ⊥) → ((error : Error) (rank : ℕ) → AccessHigh array index span s error rank → ⊥)
      → (pos 0 ≤ℤ int_at slots index) × (int_at slots index <ℤ size_of heap (value_at slots array))
  inside_shown array index span low high = (low_shown index span low, high_shown array index span high)

  pub length_shown : (size : ℕ) (span : Span) → ((error : Error) (rank : ℕ) → LengthNegative size span s error rank → ⊥) → pos 0 ≤ℤ int_at slots size
  length_shown size span none = unrefused s v (path_claim.Low (pos 0)) (Slot size) (λ refused. none (plain 3 span) 0 (record { refused = refused; is = refl; first = refl })) meets

  pub element_shown : (ty : Type_) (value : ℕ) (span : Span) → is_array program ty ≡ true → IsOfType program heap (cell_type ty) (value_at slots value) → ((error : Error) (rank : ℕ) → ElementClaim ty value span s error rank → ⊥)
      → MeetsElement (element_claims ty) (value_at slots value)
  element_shown ty value span is typed none =
      element_met program heap ty (value_at slots value) is typed
      (λ are. elements_true (loaded_claims ty) (int_of (value_at slots value)) value v are refl
      (λ k c at. unrefused s v (on_paths no_path c) (Slot value)
      (none_fails (λ claim. Refuses s (on_paths no_path claim) (Slot value)) (loaded_claims ty) 16 span Element none k c at) meets))

  pub fresh_shown : (ty : Type_) (size : ℕ) (span : Span) → is_array program ty ≡ true → IsOfType program heap (cell_type ty) (cell_default ty) → ((error : Error) (rank : ℕ) → FreshElement ty size span s error rank → ⊥)
      → pos 0 <ℤ int_at slots size → MeetsElement (element_claims ty) (cell_default ty)
  fresh_shown ty size span is typed none some =
      element_met program heap ty (cell_default ty) is typed (λ are. subst (AreTrueOf (loaded_claims ty)) (sym (default_zero ty)) (zeros_true (loaded_claims ty) each))
    where
      each : (k : ℕ) (c : Claim) → slice_get (loaded_claims ty) k ≡ Some c → zero_meets c ≡ true
      each k c at = by_test (zero_meets c) (λ t. t)
          (λ t.
          let empty = unrefused s v (path_claim.Range least_int (pos 0)) (Slot size)
          (λ refused. none_fails (λ claim. (zero_meets claim ≡ false) × Refuses s (path_claim.Range least_int (pos 0)) (Slot size)) (loaded_claims ty) 16 span Element none k c at (t, refused)) meets in
          let h = empty.1 in absurd (omega (arith, ints, h, some)))
