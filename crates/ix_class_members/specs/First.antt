-- The number of the first that passes a test.
use Rattle.std.specs.Prelude.{ℕ, ◌+◌, ◌==◌, Bool, ◌&&◌, if◌then◌else◌, Option, Some, None, List, [], ◌∷◌, bytes_eq}
use Rattle.ix_meaning.specs.declared.members.Field.{Field}

abbrev pub found_or : Option ℕ → Bool → ℕ → Option ℕ
found_or (Some k) passes next = Some k
found_or None passes next = if passes then Some next else None

-- where the first of the list has the number `k`
abbrev pub first_where : {A : Type 0} → (A → Bool) → Option ℕ → ℕ → List A → Option ℕ
first_where passes found k [] = found
first_where passes found k (a ∷ more) = first_where passes (found_or found (passes a) k) (k + 1) more

abbrev pub is_field_named : ℕ → List ℕ → Field → Bool
is_field_named c name f = f.class == c && bytes_eq f.name name
