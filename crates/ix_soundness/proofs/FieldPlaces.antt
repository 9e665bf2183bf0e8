-- Which objects have a field: those of its class and of the classes below, and no others.
use Rattle.std.specs.Prelude.{◌≡◌, ◌⊎◌, ℕ, zero, suc, ◌+◌, ◌<◌, ◌==◌, true, if◌then◌else◌, List, [], ◌∷◌, ◌++◌, length, reverse, slice_get, option_map, Option, None, Some, unwrap_or, refl}
use Rattle.std.proofs.Common.{arith, sym, ap, subst, inl, inr, ⊎_elim}
use Rattle.std.proofs.lemmas.Bool.{false≢true}
use Rattle.std.proofs.lemmas.Bool.Decides.{nat_tests}
use Rattle.std.proofs.lemmas.Grind.{reverse_onto}
use Rattle.ix_core.specs.declared.claim.Type_.{Type_}
use Rattle.ix_core.specs.declared.program.Program.{Program}
use Rattle.ix_core.specs.Formed.{is_formed, ends_within}
use Rattle.ix_core.specs.Heap.{Kind, ObjectOf, ArrayOf}
use Rattle.ix_core.specs.Objects.{HasField}
use Rattle.ix_core.specs.Tables.{class_at, field_at, all_fields, ancestors, is_among, place_among, way_up, most_on_way}
use Rattle.ix_core.specs.Types.{is_below}
use Rattle.ix_core.proofs.Ancestors.{first_among, rest_among, among_parts, enough}
use Rattle.ix_core.proofs.Cases.{by_test, equal}
use Rattle.ix_core.proofs.Entered.{none_some}
use Rattle.ix_core.proofs.FormedParts.{field_listed, flat_parts, ways_end}
use Rattle.ix_core.proofs.TypedFields.{has_field}
use Rattle.ix_soundness.specs.Direct.{direct}

-- ---- lists of numbers

pub placed_among : (numbers : List ℕ) (n place : ℕ) → place_among numbers n ≡ Some place → is_among numbers n ≡ true
placed_among [] n place e = absurd cc
placed_among (first ∷ numbers) n place e =
    by_test (first == n)
    (λ t. first_among first n numbers t)
    (λ t. rest_among first n numbers (later (place_among numbers n) (λ at is. placed_among numbers n at is) (subst (λ b. (if b then Some 0 else option_map (λ (p : ℕ). p + 1) (place_among numbers n)) ≡ Some place) t e)))
  where
    later : (o : Option ℕ) → ((at : ℕ) → o ≡ Some at → is_among numbers n ≡ true) → option_map (λ (p : ℕ). p + 1) o ≡ Some place → is_among numbers n ≡ true
    later None each f = absurd cc
    later (Some at) each f = each at refl

pub among_placed : (numbers : List ℕ) (n : ℕ) → is_among numbers n ≡ true → (place : ℕ) × (place_among numbers n ≡ Some place)
among_placed [] n e = absurd (false≢true e)
among_placed (first ∷ numbers) n e =
    by_test (first == n)
    (λ t. (0, subst (λ b. (if b then Some 0 else option_map (λ (p : ℕ). p + 1) (place_among numbers n)) ≡ Some 0) (sym t) refl))
    (λ t.
    let found = among_placed numbers n (subst (λ b. (if b then true else is_among numbers n) ≡ true) t e) in
    (found.0 + 1, subst (λ b. (if b then Some 0 else option_map (λ (p : ℕ). p + 1) (place_among numbers n)) ≡ Some (found.0 + 1)) (sym t) (ap (option_map (λ (p : ℕ). p + 1)) found.1)))

either_among : (front back : List ℕ) (n : ℕ) → is_among (front ++ back) n ≡ true → (is_among front n ≡ true) ⊎ (is_among back n ≡ true)
either_among [] back n e = inr e
either_among (one ∷ front) back n e =
    ⊎_elim
    (λ here. inl (first_among one n front here))
    (λ rest. ⊎_elim (λ a. inl (rest_among one n front a)) (λ b. inr b) (either_among front back n rest))
    (among_parts one n (front ++ back) e)

pub reversed_among : (numbers : List ℕ) (n : ℕ) → is_among (reverse numbers) n ≡ true → is_among numbers n ≡ true
reversed_among [] n e = absurd (false≢true e)
reversed_among (first ∷ numbers) n e =
    ⊎_elim
    (λ a. rest_among first n numbers (reversed_among numbers n a))
    (λ b. ⊎_elim (λ here. first_among first n numbers here) (λ none. absurd (false≢true none)) (among_parts first n [] b))
    (either_among (reverse numbers) (first ∷ []) n (subst (λ l. is_among l n ≡ true) (reverse_onto numbers first []) e))

pub among_at : (numbers : List ℕ) (n : ℕ) → is_among numbers n ≡ true → (k : ℕ) × (slice_get numbers k ≡ Some n)
among_at [] n e = absurd (false≢true e)
among_at (first ∷ numbers) n e =
    ⊎_elim (λ here. (0, ap Some (equal first n here))) (λ rest. let found = among_at numbers n rest in (suc found.0, found.1)) (among_parts first n numbers e)

pub at_among : (numbers : List ℕ) (n k : ℕ) → slice_get numbers k ≡ Some n → is_among numbers n ≡ true
at_among [] n k e = absurd cc
at_among (first ∷ numbers) n zero e = first_among first n numbers (let same : first ≡ n = ap (λ (o : Option ℕ). unwrap_or o first) e in grind (arith, nat_tests, same))
at_among (first ∷ numbers) n (suc k) e = rest_among first n numbers (at_among numbers n k e)

-- no class is above its parent
module _ (program : Program) where
  abbrev parent_of : ℕ → Option ℕ
  parent_of number = (class_at program number).parent

  none_up : {A : Type 0} (most number : ℕ) → is_among (way_up parent_of most None) number ≡ true → A
  none_up zero number e = absurd (false≢true e)
  none_up (suc most) number e = absurd (false≢true e)

  -- above a class on a way that ends there is less of the way
  shorter : (most : ℕ) (from : Option ℕ) (class : ℕ) → ends_within program most from ≡ true → is_among (way_up parent_of most from) class ≡ true → (fewer : ℕ) × (fewer < most) × (ends_within program fewer (parent_of class) ≡ true)
  shorter most None class ends e = none_up most class e
  shorter zero (Some first) class ends e = absurd (false≢true ends)
  shorter (suc most) (Some first) class ends e =
      ⊎_elim
      (λ here. (most, omega (arith), subst (λ c. ends_within program most (parent_of c) ≡ true) (equal first class here) ends))
      (λ up. let rest = shorter most (parent_of first) class ends up in let lt = rest.1 in (rest.0, omega (arith, lt), rest.2))
      (among_parts first class (way_up parent_of most (parent_of first)) e)

  round : (class parent : ℕ) → parent_of class ≡ Some parent → (fuel most : ℕ) → most < fuel → ends_within program most (Some parent) ≡ true → is_among (way_up parent_of most (Some parent)) class ≡ true → ⊥
  round class parent is zero most lt ends e = omega (arith, lt)
  round class parent is (suc fuel) most lt ends e =
      let rest = shorter most (Some parent) class ends e in
      let again : ends_within program rest.0 (Some parent) ≡ true = subst (λ o. ends_within program rest.0 o ≡ true) is rest.2 in
      let fewer = rest.1 in
      round class parent is fuel rest.0 (omega (arith, lt, fewer)) again (enough program rest.0 most (Some parent) class again e)

module _ (program : Program) (locals : List (List Type_)) (formed : is_formed program locals ≡ true) where
  -- an object that has a field is of its class or of one below
  pub has_below : (class field : ℕ) → HasField (direct program) (ObjectOf class) field → (field < length program.fields) × (is_below program class (field_at program field).class ≡ true)
  has_below class field has =
      let among = placed_among (all_fields program class) field has.0 has.1 in
      let place = flat_parts (λ above. (class_at program above).fields) (reverse (ancestors program class)) field among in
      let listed = field_listed program locals formed place.0 field place.2 in
      (listed.0, subst (λ c. is_below program class c ≡ true) (sym listed.1) (reversed_among (ancestors program class) place.0 place.1))

  pub below_has : (class field : ℕ) → field < length program.fields → is_below program class (field_at program field).class ≡ true → HasField (direct program) (ObjectOf class) field
  below_has class field lt below = has_field program locals formed class field lt below

  -- and has each field of that class
  pub has_same : (kind : Kind) (field other : ℕ) → HasField (direct program) kind field → other < length program.fields → (field_at program other).class ≡ (field_at program field).class → HasField (direct program) kind other
  has_same (ArrayOf ty) field other has lt same = none_some has.0 has.1
  has_same (ObjectOf class) field other has lt same = below_has class other lt (subst (λ c. is_below program class c ≡ true) (sym same) (has_below class field has).1)

  itself_below : (class : ℕ) → is_below program class class ≡ true
  itself_below class = first_among class class (way_up (λ below. (class_at program below).parent) 31 (class_at program class).parent) (same class)
    where
      same : (n : ℕ) → (n == n) ≡ true
      same n = grind (arith, nat_tests)

  -- a field of the class itself
  pub own_has : (class field : ℕ) → is_among (class_at program class).fields field ≡ true → HasField (direct program) (ObjectOf class) field
  own_has class field among =
      let listed = field_listed program locals formed class field among in
      below_has class field listed.0 (subst (λ c. is_below program class c ≡ true) (sym listed.1) (itself_below class))

  -- which no object of the parent has
  pub own_not_above : (class parent field : ℕ) → (class_at program class).parent ≡ Some parent → is_among (class_at program class).fields field ≡ true → HasField (direct program) (ObjectOf parent) field → ⊥
  own_not_above class parent field is among has =
      let listed = field_listed program locals formed class field among in
      let below : is_below program parent class ≡ true = subst (λ c. is_below program parent c ≡ true) listed.1 (has_below parent field has).1 in
      round program class parent is 33 most_on_way (omega (arith)) (ways_end program locals formed parent) below
