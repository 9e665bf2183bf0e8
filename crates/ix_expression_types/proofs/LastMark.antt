-- The last of the marks, and those before it.
use Rattle.std.proofs.Common.{arith, ◌≡◌, ◌<◌, ◌-◌, ◌+◌, ◌++◌, [], ◌∷◌, ℕ, List, Some, length, take, refl, ap, sym, ◌∙◌}
use Rattle.std.specs.List.{slice_get}
use Rattle.std.proofs.lemmas.List.{length-append, take_at, get_or_at}
use Rattle.std.proofs.lemmas.Option.{slice_get-get_or}

before_last : (outer : List ℕ) (mark : ℕ) → length (outer ++ mark ∷ []) ≡ length outer + 1
before_last outer mark = length-append outer (mark ∷ [])

pub last_mark : (items outer : List ℕ) (mark : ℕ) → items ≡ outer ++ mark ∷ [] → slice_get items (length items - 1) ≡ Some mark
last_mark items outer mark is =
    let count : length items ≡ length outer + 1 = ap (λ (l : List ℕ). length l) is ∙ before_last outer mark in
    let within : length outer < length (outer ++ mark ∷ []) = let size = before_last outer mark in omega (arith, size) in
    let place : length items - 1 ≡ length outer = omega (arith, count) in
    ap (λ (k : ℕ). slice_get items k) place ∙ ap (λ (l : List ℕ). slice_get l (length outer)) is
    ∙ slice_get-get_or (outer ++ mark ∷ []) (length outer) mark within ∙ ap (λ (k : ℕ). Some k) (get_or_at outer mark [] mark (length outer) refl)

pub other_marks : (items outer : List ℕ) (mark : ℕ) → items ≡ outer ++ mark ∷ [] → take (length items - 1) items ≡ outer
other_marks items outer mark is =
    let count : length items ≡ length outer + 1 = ap (λ (l : List ℕ). length l) is ∙ before_last outer mark in
    let place : length outer ≡ length items - 1 = omega (arith, count) in
    ap (λ (l : List ℕ). take (length items - 1) l) is ∙ take_at outer (mark ∷ []) (length items - 1) place
