-- One outcome more that is told.
use Rattle.std.specs.Prelude.{◌≡◌, ℕ, zero, suc, ◌<◌, ◌≤◌, ◌+◌, List, [], ◌∷◌, length, drop, slice_index_or, refl}
use Rattle.std.proofs.Common.{arith, add-one, sym, subst}
use Rattle.std.proofs.Math.Seq.{drop-cons}
use Rattle.ix_facts.specs.Stores.{Stored, IsTold, AreTold, none, next}
use Rattle.ix_test_facts.specs.declared.outcome.Outcome.{Outcome as Told}
use Rattle.ix_test_facts.specs.OverGroups.{outcome_of, outcomes_of}

pub next_told : (told : List Told) (k : ℕ) (d : Told) → k < length told → (first before after : Stored) → ((s : Stored) → AreTold (outcomes_of (drop k told)) before s → AreTold (outcomes_of told) first s) → IsTold (outcome_of (slice_index_or told k d)) before after
    → (s : Stored) → AreTold (outcomes_of (drop (k + 1) told)) after s → AreTold (outcomes_of told) first s
next_told told k d h first before after so_far one s rest =
    let here : drop k told ≡ slice_index_or told k d ∷ drop (k + 1) told = rw add-one (drop-cons told k d h) in
    so_far s (subst (λ l. AreTold (outcomes_of l) before s) (sym here) (next (outcome_of (slice_index_or told k d)) (outcomes_of (drop (k + 1) told)) before after s one rest))

past : (told : List Told) (k : ℕ) → length told ≤ k → drop k told ≡ []
past [] zero h = refl
past [] (suc k) h = refl
past (o ∷ told) zero h = absurd (omega (arith, h))
past (o ∷ told) (suc k) h = past told k (omega (arith, h))

pub all_told : (told : List Told) (k : ℕ) → length told ≤ k → (first after : Stored) → ((s : Stored) → AreTold (outcomes_of (drop k told)) after s → AreTold (outcomes_of told) first s) → AreTold (outcomes_of told) first after
all_told told k h first after so_far = so_far after (subst (λ l. AreTold (outcomes_of l) after after) (sym (past told k h)) (none after))
