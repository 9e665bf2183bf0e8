-- The superclasses of a class are its ancestors in the program, and it has the fields that it lists and inherits.
use Rattle.std.proofs.Common.{◌≡◌, ◌≤◌, ◌<◌, ℕ, zero, suc, ◌+◌, true, false, List, [], ◌∷◌, length, Option, Some, None, sym, ap, subst, ◌∙◌, arith}
use Rattle.std.specs.Prelude.{◌==◌, ◌||◌, ◌&&◌, reverse, slice_get, unwrap_or}
use Rattle.std.specs.List.{list_all}
use Rattle.std.proofs.lemmas.Bool.{false≢true, and_parts}
use Rattle.ix_core.specs.declared.program.Class.{Class}
use Rattle.ix_core.specs.declared.program.Field.{Field}
use Rattle.ix_core.specs.declared.program.Program.{Program}
use Rattle.ix_core.specs.Formed.{are_distinct, numbers_where, ends_within}
use Rattle.ix_core.specs.Tables.{class_at, field_at, no_field, no_class, way_up, ancestors, all_fields, is_among, most_on_way}
use Rattle.ix_core.specs.Types.{is_below}
use Rattle.ix_core.proofs.Ancestors.{first_among, rest_among, above, flat_among}
use Rattle.ix_core.proofs.Cases.{by_test, equal}
use Rattle.ix_core.proofs.FormedParts.{among_all}
use Rattle.ix_meaning.specs.Classes as classes
use Rattle.ix_meaning.specs.Classes.{parent, onward, supers, is_cyclic}
use Rattle.ix_core.proofs.TypedFields.{among_reverse, where_has}
use Rattle.ix_formed.specs.Additions.{AllOf}
use Rattle.ix_formed.specs.Shape.{AllNumbered, ListsFields}
use Rattle.ix_formed.proofs.NumberLists.{is_itself}
use Rattle.ix_formed.proofs.WaysUp.{up, up_within, supers_are}

-- a number of a list, as either definition has it
among_same : (n : ℕ) (xs : List ℕ) → classes.is_among n xs ≡ true → is_among xs n ≡ true
among_same n [] e = absurd (false≢true e)
among_same n (x ∷ xs) e =
    by_test (x == n) (λ t. first_among x n xs t)
    (λ f. rest_among x n xs (among_same n xs (sym (ap (λ b. b || classes.is_among n xs) f) ∙ e)))

module _ (p : Program) (ps : List (Option ℕ)) (same : (class : ℕ) → (class_at p class).parent ≡ parent ps class) where
  abbrev parent_of : ℕ → Option ℕ
  parent_of class = (class_at p class).parent

  -- the way up from a class, where there are turns enough
  up_there : (turns : List (Option ℕ)) (class most : ℕ) → length (up ps turns class) < most → (other : ℕ) → classes.is_among other (class ∷ up ps turns class) ≡ true
      → is_among (way_up parent_of most (Some class)) other ≡ true
  up_there turns class zero lt other e = absurd (omega (arith, lt))
  up_there [] class (suc most) lt other e =
      by_test (class == other) (λ t. first_among class other (way_up parent_of most (parent_of class)) t) (λ f. absurd (false≢true (sym (ap (λ b. b || false) f) ∙ e)))
  up_there (turn ∷ turns) class (suc most) lt other e =
      by_test (class == other) (λ t. first_among class other (way_up parent_of most (parent_of class)) t)
      (λ f. rest_among class other (way_up parent_of most (parent_of class))
      (subst (λ (o : Option ℕ). is_among (way_up parent_of most o) other ≡ true) (sym (same class))
      (further (parent ps class) lt (sym (ap (λ b. b || classes.is_among other (up ps (turn ∷ turns) class)) f) ∙ e) (λ above le there. up_there turns above most le other there))))
    where
      further : (o : Option ℕ) → length (onward (up ps turns) o) < suc most → classes.is_among other (onward (up ps turns) o) ≡ true
          → ((above : ℕ) → length (up ps turns above) < most → classes.is_among other (above ∷ up ps turns above) ≡ true → is_among (way_up parent_of most (Some above)) other ≡ true)
          → is_among (way_up parent_of most o) other ≡ true
      further None lt e rest = absurd (false≢true e)
      further (Some above) lt e rest = rest above (omega (arith, lt)) e

  module _ (acyclic : (class : ℕ) → class < length ps → is_cyclic ps class ≡ false) (within : (class above : ℕ) → parent ps class ≡ Some above → above < length ps)
      (few : (class : ℕ) → class < length ps → 1 + length (supers ps class) ≤ most_on_way) where
    -- a class, or one of its superclasses
    pub is_above : (class : ℕ) → class < length ps → (other : ℕ) → classes.is_among other (class ∷ supers ps class) ≡ true → is_below p class other ≡ true
    is_above class lt other e =
        let s = supers_are ps acyclic within class lt in
        let le = few class lt in
        let l = ap (λ (xs : List ℕ). length xs) s in
        up_there ps class most_on_way (omega (arith, le, l)) other (subst (λ (xs : List ℕ). classes.is_among other (class ∷ xs) ≡ true) s e)

    all_among : (P : ℕ → Type 0) (xs : List ℕ) (n : ℕ) → AllOf P xs → classes.is_among n xs ≡ true → P n
    all_among P [] n all e = absurd (false≢true e)
    all_among P (x ∷ xs) n all e =
        by_test (x == n) (λ t. subst P (equal x n t) all.0) (λ f. all_among P xs n all.1 (sym (ap (λ b. b || classes.is_among n xs) f) ∙ e))

    -- is a class of the source
    pub above_is_class : (class : ℕ) → class < length ps → (other : ℕ) → classes.is_among other (class ∷ supers ps class) ≡ true → other < length ps
    above_is_class class lt other e =
        let s = supers_are ps acyclic within class lt in
        all_among (λ n. n < length ps) (class ∷ up ps ps class) other (lt, up_within ps acyclic within ps class) (subst (λ (xs : List ℕ). classes.is_among other (class ∷ xs) ≡ true) s e)

    pub is_above_again : ((class : ℕ) → class < length ps → ends_within p most_on_way (Some class) ≡ true) → (class middle other : ℕ) → class < length ps → is_below p class middle ≡ true → is_below p middle other ≡ true → is_below p class other ≡ true
    is_above_again ways class middle other lt a b = above p most_on_way most_on_way (Some class) middle other (ways class lt) a b

  -- ---- the fields of a class

  listed_fields : (number : ℕ) (classes : List Class) (k : ℕ) → AllNumbered (ListsFields p.fields) number classes → k < length classes → ListsFields p.fields (number + k) (unwrap_or (slice_get classes k) no_class)
  listed_fields number [] k all lt = absurd (omega (arith, lt))
  listed_fields number (class ∷ classes) zero all lt = let e : number ≡ number + 0 = omega arith in subst (λ n. ListsFields p.fields n class) e all.0
  listed_fields number (class ∷ classes) (suc k) all lt =
      let e : (number + 1) + k ≡ number + suc k = omega arith in
      subst (λ n. ListsFields p.fields n (unwrap_or (slice_get classes k) no_class)) e (listed_fields (number + 1) classes k all.1 (omega (arith, lt)))

  lists_field : AllNumbered (ListsFields p.fields) 0 p.classes → (field : ℕ) → field < length p.fields → (field_at p field).class < length p.classes → is_among (class_at p (field_at p field).class).fields field ≡ true
  lists_field all field lt there =
      let class = (field_at p field).class in
      let wanted = numbers_where (λ (f : Field). f.class == class) 0 p.fields in
      let zero : 0 + class ≡ class = omega arith in
      let lists = subst (λ n. ListsFields p.fields n (class_at p class)) zero (listed_fields 0 p.classes class all there) in
      let three = and_parts (are_distinct (class_at p class).fields) (list_all (is_among wanted) (class_at p class).fields && list_all (is_among (class_at p class).fields) wanted) lists in
      let four = and_parts (list_all (is_among wanted) (class_at p class).fields) (list_all (is_among (class_at p class).fields) wanted) three.1 in
      let e : 0 + field ≡ field = omega arith in
      among_all (is_among (class_at p class).fields) wanted field four.1
      (subst (λ n. is_among wanted n ≡ true) e (where_has no_field (λ (f : Field). f.class == class) 0 p.fields field lt (is_itself class)))

  -- a field of a class above is one of all fields of the class
  pub has_field : AllNumbered (ListsFields p.fields) 0 p.classes → (class field : ℕ) → field < length p.fields → (field_at p field).class < length p.classes → is_below p class (field_at p field).class ≡ true
      → is_among (all_fields p class) field ≡ true
  has_field all class field lt there below =
      flat_among (λ above. (class_at p above).fields) (reverse (ancestors p class)) (field_at p field).class field (among_reverse (ancestors p class) (field_at p field).class below) (lists_field all field lt there)
