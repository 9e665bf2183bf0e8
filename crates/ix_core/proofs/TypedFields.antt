-- An object that an operation on a field finds has the field.
use Rattle.std.specs.Prelude.{◌≡◌, ◌⊎◌, ℕ, zero, suc, ◌+◌, ◌<◌, ◌==◌, Bool, true, ◌&&◌, if◌then◌else◌, List, [], ◌∷◌, length, reverse, slice_get, option_map, Some, unwrap_or, refl}
use Rattle.std.specs.List.{list_all}
use Rattle.std.proofs.Common.{arith, sym, ap, subst, inl, inr, ⊎_elim}
use Rattle.std.proofs.lemmas.Bool.{and_parts, false≢true}
use Rattle.std.proofs.lemmas.Bool.Decides.{nat_tests}
use Rattle.std.proofs.lemmas.Grind.{reverse_onto}
use Rattle.ix_core.specs.declared.claim.Type_.{Type_}
use Rattle.ix_core.specs.declared.program.Field.{Field}
use Rattle.ix_core.specs.declared.program.Method.{Method}
use Rattle.ix_core.specs.declared.program.Program.{Program}
use Rattle.ix_core.specs.Formed.{is_formed, parent_fits, ends_within, are_same_numbers, are_distinct, numbers_where, fields_fit, field_fits, reads, is_there}
use Rattle.ix_core.specs.Heap.{Held, Num, Boolean, Null, At, Heap, Kind, value_at, object_at, place_in}
use Rattle.ix_core.specs.Tables.{class_at, field_at, no_field, all_fields, ancestors, most_on_way, is_among, place_among, tables_of}
use Rattle.ix_core.specs.Typed.{IsOfType, SlotsTyped}
use Rattle.ix_core.specs.Types.{Types, class_type, is_below, is_class}
use Rattle.ix_core.proofs.Ancestors.{first_among, rest_among, among_parts, front_among, back_among, flat_among}
use Rattle.ix_core.proofs.Cases.{by_test}
use Rattle.ix_core.proofs.FormedParts.{among_all, class_is, fields_all, ways_end}
use Rattle.ix_core.proofs.TypedValues.{read_typed}

pub among_reverse : (numbers : List ℕ) (number : ℕ) → is_among numbers number ≡ true → is_among (reverse numbers) number ≡ true
among_reverse [] number e = absurd (false≢true e)
among_reverse (first ∷ numbers) number e =
    subst (λ l. is_among l number ≡ true) (sym (reverse_onto numbers first []))
    (⊎_elim (λ here. back_among (reverse numbers) (first ∷ []) number (first_among first number [] here)) (λ rest. front_among (reverse numbers) (first ∷ []) number (among_reverse numbers number rest)) (among_parts first number numbers e))

-- an item of which it is so is found by its number
pub where_has : {A : Type 0} (d : A) (is : A → Bool) (first : ℕ) (items : List A) (k : ℕ) → k < length items → is (unwrap_or (slice_get items k) d) ≡ true → is_among (numbers_where is first items) (first + k) ≡ true
where_has d is first [] k lt e = absurd (omega (arith, lt))
where_has d is first (item ∷ items) zero lt e =
    let h : (first == first + 0) ≡ true = grind (arith, nat_tests) in
    subst (λ b. is_among (if b then first ∷ numbers_where is (first + 1) items else numbers_where is (first + 1) items) (first + 0) ≡ true) (sym e) (first_among first (first + 0) (numbers_where is (first + 1) items) h)
where_has d is first (item ∷ items) (suc k) lt e =
    let rest = where_has d is (first + 1) items k (omega (arith, lt)) e in
    let h : (first + 1) + k ≡ first + suc k = omega arith in
    let there = subst (λ n. is_among (numbers_where is (first + 1) items) n ≡ true) h rest in
    by_test (is item)
    (λ t. subst (λ b. is_among (if b then first ∷ numbers_where is (first + 1) items else numbers_where is (first + 1) items) (first + suc k) ≡ true) (sym t) (rest_among first (first + suc k) (numbers_where is (first + 1) items) there))
    (λ t. subst (λ b. is_among (if b then first ∷ numbers_where is (first + 1) items else numbers_where is (first + 1) items) (first + suc k) ≡ true) (sym t) there)

place_of : (numbers : List ℕ) (number : ℕ) → is_among numbers number ≡ true → (place : ℕ) × (place_among numbers number ≡ Some place)
place_of [] number e = absurd (false≢true e)
place_of (first ∷ numbers) number e =
    by_test (first == number)
    (λ t. (0, subst (λ b. (if b then Some 0 else option_map (λ (place : ℕ). place + 1) (place_among numbers number)) ≡ Some 0) (sym t) refl))
    (λ t.
    let rest : is_among numbers number ≡ true = subst (λ b. (if b then true else is_among numbers number) ≡ true) t e in
    let found = place_of numbers number rest in
    (found.0 + 1, subst (λ b. (if b then Some 0 else option_map (λ (place : ℕ). place + 1) (place_among numbers number)) ≡ Some (found.0 + 1)) (sym t) (ap (option_map (λ (place : ℕ). place + 1)) found.1)))

module _ (program : Program) (locals : List (List Type_)) (formed : is_formed program locals ≡ true) where
  class_of_field : (number : ℕ) (fields : List Field) (k : ℕ) → fields_fit program number fields ≡ true → k < length fields → is_class program (unwrap_or (slice_get fields k) no_field).class ≡ true
  class_of_field number [] k e lt = absurd (omega (arith, lt))
  class_of_field number (field ∷ fields) zero e lt = (and_parts (is_class program field.class) _ e).0
  class_of_field number (field ∷ fields) (suc k) e lt = class_of_field (number + 1) fields k (rest_fit number field fields e) (omega (arith, lt))
    where
      rest_fit : (number : ℕ) (field : Field) (fields : List Field) → fields_fit program number (field ∷ fields) ≡ true → fields_fit program (number + 1) fields ≡ true
      rest_fit number field fields e =
          let one = and_parts (is_class program field.class) _ e in
          let two = and_parts (Rattle.ix_core.specs.Types.is_type program field.ty) _ one.1 in
          (and_parts (list_all (Rattle.ix_core.specs.Formed.claim_fits field.ty (Rattle.ix_core.specs.Formed.others (Rattle.ix_core.specs.declared.claim.Name.TheVariants.FieldNamed number) (Rattle.ix_core.specs.Formed.field_type_of_name program field))) field.claims) (fields_fit program (number + 1) fields) two.1).1

  -- a field is one of its class
  own_field : (number : ℕ) → number < length program.fields → is_among (class_at program (field_at program number).class).fields number ≡ true
  own_field number lt =
      let class = (field_at program number).class in
      let in_range : class < length program.classes = (let h = class_of_field 0 program.fields number (fields_all program locals formed) lt in grind (arith, nat_tests)) in
      let wanted = numbers_where (λ (field : Field). field.class == class) 0 program.fields in
      let one = and_parts (parent_fits program (class_at program class).parent && ends_within program most_on_way (Some class)) _ (class_is program locals formed class in_range) in
      let two = and_parts (are_same_numbers (class_at program class).fields wanted) _ one.1 in
      let three = and_parts (are_distinct (class_at program class).fields) (list_all (is_among wanted) (class_at program class).fields && list_all (is_among (class_at program class).fields) wanted) two.0 in
      let four = and_parts (list_all (is_among wanted) (class_at program class).fields) (list_all (is_among (class_at program class).fields) wanted) three.1 in
      let h : (class == class) ≡ true = grind (arith, nat_tests) in
      let e : 0 + number ≡ number = omega arith in
      among_all (is_among (class_at program class).fields) wanted number four.1
      (subst (λ n. is_among wanted n ≡ true) e (where_has no_field (λ (field : Field). field.class == class) 0 program.fields number lt h))

  -- and one of each class below
  pub has_field : (of number : ℕ) → number < length program.fields → is_below program of (field_at program number).class ≡ true → (place : ℕ) × (place_among (all_fields program of) number ≡ Some place)
  has_field of number lt below =
      place_of (all_fields program of) number
      (flat_among (λ above. (class_at program above).fields) (reverse (ancestors program of)) (field_at program number).class number (among_reverse (ancestors program of) (field_at program number).class below) (own_field number lt))

  -- What an operation on a field finds in the slot is null, or an object that has the field.
  pub field_there : (method : Method) (types : Types) (slots : List Held) (heap : Heap) → length slots ≡ method.slots → SlotsTyped program types slots heap → (object field : ℕ) → field_fits program method (Some types) object field ≡ true
      → (value_at slots object ≡ Null) ⊎ ((number place : ℕ) × (value_at slots object ≡ At number) × (place_in (tables_of program).place (object_at heap number).kind field ≡ Some place))
  field_there method types slots heap size typed object field e =
      let parts = and_parts (is_there program.fields field) (reads program method (Some types) object (class_type (field_at program field).class)) e in
      let lt : field < length program.fields = (let h = parts.0 in grind (arith, nat_tests)) in
      by_held (value_at slots object) lt (read_typed program (ways_end program locals formed) method types slots heap size typed object (class_type (field_at program field).class) parts.1).1
    where
      by_held : (held : Held) → field < length program.fields → IsOfType program heap (class_type (field_at program field).class) held
          → (held ≡ Null) ⊎ ((number place : ℕ) × (held ≡ At number) × (place_in (tables_of program).place (object_at heap number).kind field ≡ Some place))
      by_held Null lt is = inl refl
      by_held (At number) lt is =
          let found = has_field is.0 field lt is.2 in
          inr (number, found.0, refl, subst (λ (kind : Kind). place_in (tables_of program).place kind field ≡ Some found.0) (sym is.1) found.1)
      by_held (Num n) lt is = absurd is
      by_held (Boolean answer) lt is = absurd is
