-- What is seen of the world outside: files that are read, bytes that are taken, and faults that are counted.
use Rattle.std.specs.Prelude.{◌≡◌, ℕ, ◌-◌, ◌^◌, ◌<◌, ◌≤◌, ◌⊎◌, List, [], ◌∷◌, ◌++◌, Option, Some, None, if◌then◌else◌, bytes_eq, unwrap_or, option_map, take, drop, length, slice_get, Contains}

-- ---- files

-- files by name, of which the first of two with one name counts
abbrev pub Files : Type 0
Files = List (List ℕ × List ℕ)

-- the bytes of the file of that name
abbrev pub held : Files → List ℕ → Option (List ℕ)
held [] name = None
held (file ∷ files) name = if bytes_eq file.0 name then Some file.1 else held files name

-- the bytes under a name, none where it isn't held
abbrev pub bytes_under : List ℕ → Files → List ℕ
bytes_under name files = unwrap_or (held files name) []

-- the bytes of the file at that place, none past the last
abbrev pub bytes_at : Files → ℕ → List ℕ
bytes_at files place = unwrap_or (option_map (λ file. file.1) (slice_get files place)) []

-- what was handed out of each file that was opened, once these bytes more were handed out of the last one
abbrev pub add_last : List ℕ → List (List ℕ) → List (List ℕ)
add_last bytes [] = []
add_last bytes (part ∷ []) = (part ++ bytes) ∷ []
add_last bytes (part ∷ next ∷ parts) = part ∷ add_last bytes (next ∷ parts)

-- what was handed out of the first and of the second file that were opened since; none of one that wasn't opened
abbrev pub first_given : List (List ℕ) → List (List ℕ) → List ℕ
first_given before after = unwrap_or (slice_get (drop (length before) after) 0) []

abbrev pub second_given : List (List ℕ) → List (List ℕ) → Option (List ℕ)
second_given before after = slice_get (drop (length before) after) 1

-- what is told begins with these bytes
abbrev pub TellsFirst : Option (List ℕ) → List ℕ → Type 0
TellsFirst None bytes = Unit {0}
TellsFirst (Some all) bytes = take (length bytes) all ≡ bytes

-- ---- sinks

-- what was taken is more by the text
abbrev pub Took : List ℕ → List ℕ → List ℕ → Type 0
Took text before after = after ≡ before ++ text

-- what was taken is more by a prefix of the text
abbrev pub TookPrefix : List ℕ → List ℕ → List ℕ → Type 0
TookPrefix text before after = (n : ℕ) × Took (take n text) before after

-- ---- faults

-- A count of faults rose: it is greater, or it stands at its last value.
abbrev pub Rose : ℕ → ℕ → Type 0
Rose old new = (old < new) ⊎ (new ≡ 2 ^ 64 - 1)

-- no call from this number on is to fail
abbrev pub NoneToCome : List ℕ → ℕ → Type 0
NoneToCome fails calls = (call : ℕ) → calls ≤ call → Contains fails call → ⊥
