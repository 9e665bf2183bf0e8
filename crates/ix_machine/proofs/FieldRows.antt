-- The fields of all classes, row by row.
use Rattle.std.proofs.Common.{◌≡◌, ℕ, zero, suc, ◌+◌, ◌<◌, ◌≤◌, Bool, true, false, List, [], ◌∷◌, ◌++◌, length, map, Some, None, refl, ap, sym, ◌∙◌, arith, ◌⊎◌, inl, inr, Vec}
use Rattle.std.specs.Prelude.{slice_get, nat_lt, option_map}
use Rattle.std.proofs.lemmas.Option.{slice_get_past, slice_get-map}
use Rattle.std.proofs.lemmas.Bool.Decides.{nat_tests}
use Rattle.std.specs.declared.alloc.Global.{Global}
use Rattle.std.proofs.lemmas.List.{length-map, map-append}
use Rattle.ix_machine.specs.Rows.{AreFields, numbered}
use Rattle.ix_core.specs.declared.program.Program.{Program}
use Rattle.ix_core.specs.Formed.{numbers_from}
use Rattle.ix_core.specs.Tables.{all_fields}

pub numbers-snoc : (first count : ℕ) → numbers_from first (suc count) ≡ numbers_from first count ++ (first + count) ∷ []
numbers-snoc first zero = let e : first + 0 ≡ first = omega arith in rw e refl
numbers-snoc first (suc count) = let e : first + suc count ≡ first + 1 + count = omega arith in rw e (ap (λ xs. first ∷ xs) (numbers-snoc (first + 1) count))

numbers_length : (first count : ℕ) → length (numbers_from first count) ≡ count
numbers_length first zero = refl
numbers_length first (suc count) = ap (λ n. suc n) (numbers_length (first + 1) count)

pub number_at : (first count index : ℕ) → index < count → slice_get (numbers_from first count) index ≡ Some (first + index)
number_at first zero index h = absurd (omega (arith, h))
number_at first (suc count) zero h = let e : first + 0 ≡ first = omega arith in rw e refl
number_at first (suc count) (suc index) h = let e : first + suc index ≡ first + 1 + index = omega arith in rw e (number_at (first + 1) count index (omega (arith, h)))

pub no_fields : (program : Program) (class : ℕ) → slice_get program.classes class ≡ None → all_fields program class ≡ []
no_fields program class none = simp none

pub row_is : (program : Program) (rows : List (Vec ℕ Global)) (class : ℕ) (fields : List ℕ) → class < 4294967296 → AreFields program rows
    → (Some fields ≡ slice_get (map (λ (row : Vec ℕ Global). row.items) rows) class) ⊎ ((length rows ≤ class) × (fields ≡ [])) → fields ≡ all_fields program class
row_is program rows class fields small right (inl here) =
    by (nat_lt class (numbered program)) refl
  where
    by : (answer : Bool) → nat_lt class (numbered program) ≡ answer → fields ≡ all_fields program class
    by true so =
        let within : class < numbered program = grind (arith, nat_tests) in
        let e : Some fields ≡ Some (all_fields program class) =
        here ∙ (ap (λ rows. slice_get rows class) right ∙ (slice_get-map (all_fields program) (numbers_from 0 (numbered program)) class ∙ (ap (option_map (all_fields program)) (number_at 0 (numbered program) class within) ∙ (let e : 0 + class ≡ class = omega arith in ap (λ n. Some (all_fields program n)) e)))) in
        cc
    by false so =
        let past : length (map (all_fields program) (numbers_from 0 (numbered program))) ≤ class = simp (length-map, numbers_length) (grind (arith, nat_tests)) in
        let e : Some fields ≡ None = here ∙ (ap (λ rows. slice_get rows class) right ∙ slice_get_past (map (all_fields program) (numbers_from 0 (numbered program))) class past) in
        cc
row_is program rows class fields small right (inr past) =
    let n : length rows ≡ numbered program = sym (length-map rows (λ (row : Vec ℕ Global). row.items)) ∙ (ap length right ∙ (length-map (numbers_from 0 (numbered program)) (all_fields program) ∙ numbers_length 0 (numbered program))) in
    past.1 ∙ sym (no_fields program class (slice_get_past program.classes class (omega (arith, past.0, n, small))))

pub rows_next : (program : Program) (rows more : List (Vec ℕ Global)) (row : Vec ℕ Global) (class : ℕ) → more ≡ rows ++ row ∷ [] → row.items ≡ all_fields program class
    → map (λ (row : Vec ℕ Global). row.items) rows ≡ map (all_fields program) (numbers_from 0 class) → map (λ (row : Vec ℕ Global). row.items) more ≡ map (all_fields program) (numbers_from 0 (class + 1))
rows_next program rows more row class added is inv =
    let e : 0 + class ≡ class = omega arith in
    let s : class + 1 ≡ suc class = omega arith in
    ap (map (λ (row : Vec ℕ Global). row.items)) added
    ∙ (map-append (λ (row : Vec ℕ Global). row.items) rows (row ∷ [])
    ∙ (ap (λ xs. xs ++ row.items ∷ []) inv
    ∙ (ap (λ fields. map (all_fields program) (numbers_from 0 class) ++ fields ∷ []) is
    ∙ sym (ap (λ n. map (all_fields program) (numbers_from 0 n)) s ∙ (ap (map (all_fields program)) (numbers-snoc 0 class) ∙ (map-append (all_fields program) (numbers_from 0 class) ((0 + class) ∷ []) ∙ ap (λ n. map (all_fields program) (numbers_from 0 class) ++ all_fields program n ∷ []) e))))))

pub room_left : (most used count fresh : ℕ) {fields : ℕ} → count ≡ fields → fresh ≡ fields → nat_lt most (used + (fresh + 1)) ≡ false → used + (count + 1) ≤ most
room_left most used count fresh same other free = grind (arith, nat_tests)
