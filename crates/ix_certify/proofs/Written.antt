-- Stores that speak of a method's own paths may be written down.
use Rattle.std.specs.Prelude.{◌≡◌, ℕ, suc, ◌<◌, Bool, true, false, not, ◌&&◌, ◌||◌, List, [], ◌∷◌, length, map, slice_get, unwrap_or, Some, refl}
use Rattle.std.specs.Cmp.Derive.{both_true}
use Rattle.std.specs.List.{list_all}
use Rattle.std.proofs.Common.{arith, ap, sym, ◌∙◌, subst, ⊎_elim}
use Rattle.std.proofs.lemmas.Bool.{and_parts, false≢true}
use Rattle.ix_core.specs.declared.fact.Fact.{Fact}
use Rattle.ix_core.specs.declared.fact.Fact.TheVariants.{Rng, LenRng, Low, Same, IsLen, Less, Sum, Search, Neg, Upper}
use Rattle.ix_core.specs.declared.fact.Path.{Path}
use Rattle.ix_core.specs.declared.fact.Path.TheVariants.{Slot, FieldOf}
use Rattle.ix_core.specs.declared.fact.PathOff.{PathOff}
use Rattle.ix_core.specs.declared.fact.PathOff.TheVariants.{Nothing, Plus, Minus}
use Rattle.ix_core.specs.declared.program.Method.{Method}
use Rattle.ix_core.specs.Tables.{no_method}
use Rattle.ix_core.proofs.Cases.{by_test}
use Rattle.ix_facts.specs.Facts.{IsIn, is_default}
use Rattle.ix_facts.specs.Forget.{names, offset_names}
use Rattle.ix_facts.specs.Stores.{Stored, Unreachable, Reached}
use Rattle.ix_fact_table.specs.Apart.{compares_two, is_proper}
use Rattle.ix_fact_table.specs.Entries.{has_ends}
use Rattle.ix_store.specs.WholeStores.{AreAStore}
use Rattle.ix_certify.specs.Within.{is_inside, is_out, is_within, are_within, StoreWithin}
use Rattle.ix_cert.specs.Labellings.{is_outside, loops_of}
use Rattle.ix_cert.specs.Adding.{MayBeLabel, MayBeLabels, MayLabel}
use Rattle.ix_cert.proofs.Bytes.{not_true}
use Rattle.ix_cert.proofs.Parts.{length_map}
use Rattle.ix_cert.proofs.WholeRead.{each_proper}

-- ---- no int beside itself

default_two : (f : Fact) → is_default f ≡ true → compares_two f ≡ true
default_two (Less p q c) told = absurd (false≢true told)
default_two (Rng p l h) told = refl
default_two (LenRng a l h) told = refl
default_two (Low p c) told = refl
default_two (Same a b) told = refl
default_two (IsLen p a) told = refl
default_two (Sum t y z) told = refl
default_two (Search p a) told = refl
default_two (Neg p a) told = refl
default_two (Upper p a o c) told = refl

or_rest : (a b : Bool) → a ≡ false → (a || b) ≡ true → b ≡ true
or_rest true b off either = absurd (false≢true (sym off))
or_rest false b off either = either

module _ (is_in : Path → Bool) where
  within_two : (f : Fact) → is_within is_in f ≡ true → compares_two f ≡ true
  within_two f within =
      by_test (is_default f)
      (λ t. default_two f t)
      (λ t. (and_parts (not (names (is_out is_in) f)) (compares_two f) (or_rest (is_default f) (not (names (is_out is_in) f) && compares_two f) t within)).1)

  all_two : (facts : List Fact) → are_within is_in facts ≡ true → list_all compares_two facts ≡ true
  all_two [] within = refl
  all_two (f ∷ facts) within =
      let parts = and_parts (is_within is_in f) (are_within is_in facts) within in
      both_true (within_two f parts.0) (all_two facts parts.1)

  each_within : (facts : List Fact) → are_within is_in facts ≡ true → (f : Fact) → IsIn f facts → is_within is_in f ≡ true
  each_within [] within f i = absurd i
  each_within (g ∷ facts) within f i =
      let parts = and_parts (is_within is_in g) (are_within is_in facts) within in
      ⊎_elim (λ e. subst (λ x. is_within is_in x ≡ true) (sym e) parts.0) (λ j. each_within facts parts.1 f j) i

-- ---- no path outside

or_same : (a b c d : Bool) → a ≡ c → b ≡ d → (a || b) ≡ (c || d)
or_same a b c d one two = ap (λ x. x || b) one ∙ ap (λ x. c || x) two

module _ (is other : Path → Bool) (same : (p : Path) → is p ≡ other p) where
  offset_same : (o : PathOff) → offset_names is o ≡ offset_names other o
  offset_same Nothing = refl
  offset_same (Plus q) = same q
  offset_same (Minus q) = same q

  two_same : (p q : Path) → (is p || is q) ≡ (other p || other q)
  two_same p q = or_same (is p) (is q) (other p) (other q) (same p) (same q)

  names_same : (f : Fact) → names is f ≡ names other f
  names_same (Rng p l h) = same p
  names_same (LenRng a l h) = same a
  names_same (Low p c) = same p
  names_same (Same a b) = two_same a b
  names_same (IsLen p a) = two_same p a
  names_same (Less p q c) = two_same p q
  names_same (Sum t y z) = or_same (is t) (is y || is z) (other t) (other y || other z) (same t) (two_same y z)
  names_same (Search p a) = two_same p a
  names_same (Neg p a) = two_same p a
  names_same (Upper p a o c) =
      or_same (is p) (is a || offset_names is o) (other p) (other a || offset_names other o) (same p) (or_same (is a) (offset_names is o) (other a) (offset_names other o) (same a) (offset_same o))

module _ (slots fields : ℕ) where
  outside_is : (p : Path) → is_outside slots fields p ≡ is_out (is_inside slots fields) p
  outside_is (Slot slot) = refl
  outside_is (FieldOf slot field) = refl

  tells : (f : Fact) → is_proper f ≡ true → is_default f ≡ false
  tells f proper = not_true (is_default f) (and_parts (not (is_default f)) (compares_two f) (and_parts (has_ends f) (not (is_default f) && compares_two f) proper).1).0

  inside_of : (f : Fact) → is_default f ≡ false → is_within (is_inside slots fields) f ≡ true → names (is_outside slots fields) f ≡ false
  inside_of f told within =
      let names_out = names (is_out (is_inside slots fields)) f in
      let off = (and_parts (not names_out) (compares_two f) (or_rest (is_default f) (not names_out && compares_two f) told within)).0 in
      names_same (is_outside slots fields) (is_out (is_inside slots fields)) outside_is f ∙ not_true names_out off

  may_be_label : (store : Stored) → ((facts : List Fact) → store ≡ Reached facts → list_all compares_two facts ≡ true → AreAStore facts) → StoreWithin (is_inside slots fields) store → MayBeLabel slots fields store
  may_be_label Unreachable own within = tt
  may_be_label (Reached facts) own within =
      let whole = own facts refl (all_two (is_inside slots fields) facts within) in
      record { whole = whole; inside = λ f i. inside_of f (tells f (each_proper facts whole.proper f i)) (each_within (is_inside slots fields) facts within f i) }

  -- ---- labels of one method

  module _ {S : Type 0} (stored : S → Stored) (own : (store : S) (facts : List Fact) → stored store ≡ Reached facts → list_all compares_two facts ≡ true → AreAStore facts) where
    pub may_be_labels : (found : List S) (labels : ℕ → Stored) → ((loop : ℕ) → loop < length found → slice_get (map stored found) loop ≡ Some (labels loop))
        → ((loop : ℕ) → loop < length found → StoreWithin (is_inside slots fields) (labels loop)) → MayBeLabels slots fields (map stored found)
    may_be_labels [] labels there within = tt
    may_be_labels (store ∷ found) labels there within =
        let some = there 0 (omega arith) in
        let is : labels 0 ≡ stored store = cc in (
          may_be_label (stored store) (own store) (subst (StoreWithin (is_inside slots fields)) is (within 0 (omega arith))),
          may_be_labels found (λ loop. labels (suc loop)) (λ loop lt. there (suc loop) (omega (arith, lt))) (λ loop lt. within (suc loop) (omega (arith, lt))),
        )

-- ---- labels of all methods

module _ {S : Type 0} (stored : S → Stored) (fields : ℕ) where
  abbrev pub MayLabelMethod : Method → List S → Type 0
  MayLabelMethod method found = (length found ≡ loops_of method) × MayBeLabels method.slots fields (map stored found)

  pub may_label : (methods : List Method) (labels : List (List S)) → length labels ≡ length methods
      → ((number : ℕ) (found : List S) → slice_get labels number ≡ Some found → MayLabelMethod (unwrap_or (slice_get methods number) no_method) found) → MayLabel fields methods (map (map stored) labels)
  may_label [] [] same each = tt
  may_label [] (found ∷ labels) same each = absurd (omega (arith, same))
  may_label (method ∷ methods) [] same each = absurd (omega (arith, same))
  may_label (method ∷ methods) (found ∷ labels) same each =
      let here = each 0 found refl in
      (length_map stored found ∙ here.0, here.1, may_label methods labels (omega (arith, same)) (λ number other is. each (suc number) other is))
