-- Claims and posts that name small numbers, one after the other: the first of those that are left, and those behind it. Loops over claims and posts cite these.
use Rattle.std.specs.Prelude.{◌≡◌, ◌+◌, ℕ, zero, suc, Bool, List, [], ◌∷◌, ◌++◌, drop, filter, refl}
use Rattle.std.proofs.Common.{add-one}
use Rattle.ix_core.specs.declared.claim.Claim.{Claim}
use Rattle.ix_core.specs.declared.claim.Name.{Name}
use Rattle.ix_core.specs.declared.claim.Post.{Post}
use Rattle.ix_core.specs.declared.fact.Path.{Path}
use Rattle.ix_core.proofs.Cases.{by_test}
use Rattle.ix_facts.specs.Assume.{claim_facts}
use Rattle.ix_facts.specs.Exact.{if_so}
use Rattle.ix_rules_hold.specs.MachineSteps.{on_paths}
use Rattle.ix_signatures.specs.Naming.{AreSmallClaims, AreSmallPosts}
use Rattle.ix_signatures.specs.Signs.{claims_facts}

claims_after : (claims : List Claim) (k : ℕ) → AreSmallClaims (drop k claims) → AreSmallClaims (drop (suc k) claims)
claims_after [] zero small = small
claims_after [] (suc k) small = small
claims_after (claim ∷ claims) zero small = small.1
claims_after (claim ∷ claims) (suc k) small = claims_after claims k small

pub claims_left : (claims : List Claim) (k : ℕ) → AreSmallClaims (drop k claims) → AreSmallClaims (drop (k + 1) claims)
claims_left claims k small = rw add-one (claims_after claims k small)

posts_after : (posts : List Post) (k : ℕ) → AreSmallPosts (drop k posts) → AreSmallPosts (drop (suc k) posts)
posts_after [] zero small = small
posts_after [] (suc k) small = small
posts_after (post ∷ posts) zero small = small.1
posts_after (post ∷ posts) (suc k) small = posts_after posts k small

pub posts_left : (posts : List Post) (k : ℕ) → AreSmallPosts (drop k posts) → AreSmallPosts (drop (k + 1) posts)
posts_left posts k small = rw add-one (posts_after posts k small)

-- what the claims that pass a test add, the first of them first
pub first_passed : (path : Name → Path) (at : Path) (passes : Claim → Bool) (claim : Claim) (rest : List Claim) →
    claims_facts path at (filter passes (claim ∷ rest)) ≡ if_so (passes claim) (claim_facts (on_paths path claim) at) ++ claims_facts path at (filter passes rest)
first_passed path at passes claim rest = by_test (passes claim) (λ t. rw t refl) (λ t. rw t refl)
