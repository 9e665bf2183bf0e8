-- A claim that can't be false is true, so what isn't refused holds.
use Rattle.std.specs.Prelude.{◌≡◌, ◌≤ℤ◌, ◌<ℤ◌, ℤ, int_le, int_lt, true, false, negsuc, ◌-ℤ◌, ◌+ℤ◌}
use Rattle.std.specs.Ordering.{int_eq}
use Rattle.std.proofs.Common.{arith}
use Rattle.std.proofs.lemmas.Bool.Decides.{nat_tests, Decides-int_eq}
use Rattle.std.proofs.lemmas.Int.{ints}
use Rattle.ix_core.specs.declared.fact.Path.{Path}
use Rattle.ix_core.specs.declared.fact.PathClaim.{PathClaim}
use Rattle.ix_core.specs.declared.fact.PathClaim.TheVariants as claim
use Rattle.ix_core.specs.Numbers.{Numbers}
use Rattle.ix_core.proofs.Cases.{by_test}
use Rattle.ix_facts.specs.Assume.{ClaimHolds}
use Rattle.ix_facts.specs.Facts.{offset_number}
use Rattle.ix_facts.specs.Stores.{Stored, Meets, IsProved}
use Rattle.ix_facts.proofs.StoresHold.{proved_meets}

le_is : (a b : ℤ) → int_le a b ≡ true → a ≤ℤ b
le_is a b e = grind (arith, ints, nat_tests)

lt_is : (a b : ℤ) → int_lt a b ≡ true → a <ℤ b
lt_is a b e = grind (arith, ints, nat_tests)

le_not : (a b : ℤ) → int_le a b ≡ false → a ≤ℤ b → ⊥
le_not a b e is = grind (arith, ints, nat_tests)

lt_not : (a b : ℤ) → int_lt a b ≡ false → a <ℤ b → ⊥
lt_not a b e is = grind (arith, ints, nat_tests)

le_stable : (a b : ℤ) → ((a ≤ℤ b → ⊥) → ⊥) → a ≤ℤ b
le_stable a b twice = by_test (int_le a b) (λ t. le_is a b t) (λ t. absurd (twice (le_not a b t)))

lt_stable : (a b : ℤ) → ((a <ℤ b → ⊥) → ⊥) → a <ℤ b
lt_stable a b twice = by_test (int_lt a b) (λ t. lt_is a b t) (λ t. absurd (twice (lt_not a b t)))

eq_stable : (a b : ℤ) → ((a ≡ b → ⊥) → ⊥) → a ≡ b
eq_stable a b twice = by_test (int_eq a b) (λ t. (Decides-int_eq a b).0 t) (λ t. absurd (twice (λ e. not_both t ((Decides-int_eq a b).1 e))))
  where
    not_both : {t : _} → t ≡ false → t ≡ true → ⊥
    not_both e f = absurd cc

both_stable : {P Q : Type 0} → (((P → ⊥) → ⊥) → P) → (((Q → ⊥) → ⊥) → Q) → ((P × Q → ⊥) → ⊥) → P × Q
both_stable first second twice = (first (λ no_first. twice (λ both. no_first both.0)), second (λ no_second. twice (λ both. no_second both.1)))

pub claim_stable : (c : PathClaim) (p : Path) (v : Numbers) → ((ClaimHolds c p v → ⊥) → ⊥) → ClaimHolds c p v
claim_stable (claim.Range low high) p v twice = both_stable (le_stable low (v.int p)) (le_stable (v.int p) high) twice
claim_stable (claim.Low low) p v twice = le_stable low (v.int p) twice
claim_stable (claim.Length least) p v twice = le_stable least (v.size p) twice
claim_stable (claim.Same other) p v twice = eq_stable (v.size p) (v.size other) twice
claim_stable (claim.Less q c) p v twice = lt_stable (v.int p) (v.int q +ℤ c) twice
claim_stable (claim.Upper a o c) p v twice = lt_stable (v.int p +ℤ offset_number v o +ℤ c) (v.size a) twice
claim_stable (claim.Search a) p v twice = both_stable (le_stable (negsuc 0 -ℤ v.size a) (v.int p)) (lt_stable (v.int p) (v.size a)) twice
claim_stable (claim.Negative a) p v twice = both_stable (le_stable (negsuc 0 -ℤ v.size a) (v.int p)) (le_stable (v.int p) (negsuc 0)) twice

-- a claim that isn't refused where the store is met
pub unrefused : (s : Stored) (v : Numbers) (c : PathClaim) (p : Path) → ((IsProved c p s → ⊥) → ⊥) → Meets s v → ClaimHolds c p v
unrefused s v c p twice meets = claim_stable c p v (λ false_. twice (λ proved. false_ (proved_meets c p s v proved meets)))

-- a claim that not all of the stores refuse, which all are met
pub unrefused_by : (Allowed : Stored → Type 0) (v : Numbers) (c : PathClaim) (p : Path) → (((s : Stored) → Allowed s → IsProved c p s → ⊥) → ⊥) → ((s : Stored) → Allowed s → Meets s v) → ClaimHolds c p v
unrefused_by Allowed v c p twice meets = claim_stable c p v (λ false_. twice (λ s allowed proved. false_ (proved_meets c p s v proved (meets s allowed))))
