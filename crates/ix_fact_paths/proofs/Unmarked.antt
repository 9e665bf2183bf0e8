-- What is marked after a mark is set, or after room is made for more.
use Rattle.std.specs.Prelude.{◌≡◌, ◌⊎◌, ℕ, zero, suc, ◌*◌, ◌%◌, ◌^◌, ◌<◌, Bool, true, false, if◌then◌else◌, List, [], ◌∷◌, ◌++◌, get_or, replicate, bit_or, refl}
use Rattle.std.specs.Int.{bit_at}
use Rattle.std.proofs.Common.{inl, inr, sym, ap, ◌∙◌, w64}
use Rattle.std.proofs.lemmas.Bool.{cases_eq}
use Rattle.std.proofs.lemmas.Nat.Bits.{bit_at_set_other}

-- a bit more
pub bit_put : (word k : ℕ) → k < 64 → (i : ℕ) → bit_at (bit_or word (1 * 2 ^ k % 2 ^ 64)) i ≡ 1 → (bit_at word i ≡ 1) ⊎ (i ≡ k)
bit_put word k within i set = elim (cases_eq i k) [ inl same ↦ inr same | inr other ↦ inl (sym (bit_at_set_other w64 word k within i other) ∙ set) ]

none : (n at : ℕ) → get_or (replicate n false) at false ≡ false
none zero at = refl
none (suc n) zero = refl
none (suc n) (suc at) = none n at

unmarked : (marks : List Bool) (n at : ℕ) → get_or (marks ++ replicate n false) at false ≡ get_or marks at false
unmarked [] n at = none n at
unmarked (m ∷ marks) n zero = refl
unmarked (m ∷ marks) n (suc at) = unmarked marks n at

-- places more that are not marked, where there was memory for them
pub longer : (old new : List Bool) (ok : Bool) (n : ℕ) → new ≡ (if ok then old ++ replicate n false else old) → (at : ℕ) → get_or new at false ≡ get_or old at false
longer old new true n is at = ap (λ l. get_or l at false) is ∙ unmarked old n at
longer old new false n is at = ap (λ l. get_or l at false) is
