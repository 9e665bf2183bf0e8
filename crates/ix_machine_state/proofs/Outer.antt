-- The places outside the innermost.
use Rattle.std.proofs.Common.{◌≡◌, refl, ℕ, suc, ◌+◌, ◌-◌, ◌<◌, ◌≤◌, List, [], ◌∷◌, ◌++◌, length, take, arith, ap, sym, ◌∙◌, slice_set}
use Rattle.std.proofs.Math.Seq.{take-length}
use Rattle.std.proofs.lemmas.List.{take_more_set, length-set}
use Rattle.ix_machine_state.specs.declared.places.Place.{Place}
use Rattle.ix_machine_state.specs.Fits.{reach, most_values}
use Rattle.ix_machine_state.specs.Places.{outer}
use Rattle.ix_machine_state.proofs.Reach.{reach-snoc, values-snoc}

outer-cons : (first second : Place) (places : List Place) → outer (first ∷ second ∷ places) ≡ first ∷ outer (second ∷ places)
outer-cons first second places =
    let count : length (first ∷ second ∷ places) - 1 ≡ suc (length (second ∷ places) - 1) = omega arith in
    ap (λ n. take n (first ∷ second ∷ places)) count

some_last : (places : List Place) → 0 < length places → (place : Place) × (places ≡ outer places ++ place ∷ [])
some_last [] some = absurd (omega (arith, some))
some_last (first ∷ []) some = (first, refl)
some_last (first ∷ second ∷ places) some =
    let last = some_last (second ∷ places) (omega arith) in
    (last.0, ap (λ xs. first ∷ xs) last.1 ∙ sym (ap (λ xs. xs ++ last.0 ∷ []) (outer-cons first second places)))

-- another place in the last one's stead
pub last_set : (places : List Place) (index : ℕ) (place : Place) → index + 1 ≡ length places → slice_set places index place ≡ outer places ++ place ∷ []
last_set places index place is =
    let all : index + 1 ≡ length (slice_set places index place) = omega (arith, is, length-set places index place) in
    let before : index ≡ length places - 1 = omega (arith, is) in
    sym (take-length (slice_set places index place)) ∙ (ap (λ n. take n (slice_set places index place)) (sym all)
    ∙ (take_more_set places index place (omega (arith, is)) ∙ ap (λ n. take n places ++ place ∷ []) before))

-- they reach no higher, and pass no more values
pub reach_outer : (places : List Place) → 0 < length places → reach 0 (outer places) ≤ reach 0 places
reach_outer places some = let last = some_last places some in omega (arith, ap (reach 0) last.1, reach-snoc 0 (outer places) last.0)

pub values_outer : (places : List Place) → 0 < length places → most_values (outer places) ≤ most_values places
values_outer places some = let last = some_last places some in omega (arith, ap most_values last.1, values-snoc (outer places) last.0)
