-- Claims that are true give the facts that the rules add, and claims that the rules show are true.
use Rattle.std.specs.Prelude.{◌≡◌, ℕ, zero, suc, List, [], ◌∷◌, slice_get, Option, Some, unwrap_or, refl}
use Rattle.std.proofs.Common.{sym, ap, subst}
use Rattle.ix_text.specs.declared.span.Span.{Span}
use Rattle.ix_core.specs.declared.claim.Claim.{Claim}
use Rattle.ix_core.specs.declared.claim.Name.{Name}
use Rattle.ix_core.specs.declared.error.Error.{Error}
use Rattle.ix_core.specs.declared.error.Subject.{Subject}
use Rattle.ix_core.specs.declared.fact.Path.{Path}
use Rattle.ix_core.specs.Claims.{True, AreTrue}
use Rattle.ix_core.specs.Heap.{Reading}
use Rattle.ix_core.specs.Numbers.{Numbers}
use Rattle.ix_core.specs.Objects.{Names}
use Rattle.ix_facts.specs.Assume.{ClaimHolds, claim_facts}
use Rattle.ix_facts.specs.Facts.{AllHold}
use Rattle.ix_facts.proofs.ClaimLaws.{claim_facts_hold}
use Rattle.ix_facts.proofs.FactLists.{all_hold_app}
use Rattle.ix_rules_hold.specs.MachineSteps.{on_paths, reading_at}
use Rattle.ix_rules_hold.proofs.MachineTests.{claim_holds, claim_true}
use Rattle.ix_signatures.specs.Signs.{claims_facts}
use Rattle.ix_signatures.specs.SignErrors.{Unproved, unproved}
use Rattle.ix_core.proofs.Stack.{claim_named}

-- ---- claims, where the numbers that they name are the same

pub true_named : (claims : List Claim) (v w : Reading) (f g : Name → Reading) → v ≡ w → ((name : Name) → Names claims name → f name ≡ g name) → AreTrue claims v f → AreTrue claims w g
true_named [] v w f g e same is = tt
true_named (claim ∷ claims) v w f g e same is =
    (claim_named claim w f g (λ name at x. same name (0, at, claim, refl, x)) (subst (λ r. True claim r f) e is.0), true_named claims v w f g e (λ name n. same name (suc n.0, n.1, n.2, n.3, n.4)) is.1)

-- ---- facts of claims

-- each claim of the list holds of the path
abbrev pub EachHolds : (Name → Path) → Path → List Claim → Numbers → Type 0
EachHolds path p claims v = (k : ℕ) (claim : Claim) → slice_get claims k ≡ Some claim → ClaimHolds (on_paths path claim) p v

pub each_facts : (path : Name → Path) (p : Path) (claims : List Claim) (v : Numbers) → EachHolds path p claims v → AllHold (claims_facts path p claims) v
each_facts path p [] v each = tt
each_facts path p (claim ∷ claims) v each =
    all_hold_app v (claim_facts (on_paths path claim) p) (claims_facts path p claims) (claim_facts_hold v (on_paths path claim) p (each 0 claim refl)) (each_facts path p claims v (λ k c is. each (suc k) c is))

pub each_true : (path : Name → Path) (p : Path) (claims : List Claim) (v : Numbers) → EachHolds path p claims v → AreTrue claims (reading_at v p) (λ name. reading_at v (path name))
each_true path p [] v each = tt
each_true path p (claim ∷ claims) v each = (claim_true v path p claim (each 0 claim refl), each_true path p claims v (λ k c is. each (suc k) c is))

pub true_each : (path : Name → Path) (p : Path) (claims : List Claim) (v : Numbers) → AreTrue claims (reading_at v p) (λ name. reading_at v (path name)) → EachHolds path p claims v
true_each path p [] v is k claim at = absurd cc
true_each path p (first ∷ claims) v is zero claim at = let same : first ≡ claim = ap (λ (o : Option Claim). unwrap_or o first) at in subst (λ c. ClaimHolds (on_paths path c) p v) same (claim_holds v path p first is.0)
true_each path p (first ∷ claims) v is (suc k) claim at = true_each path p claims v is.1 k claim at

-- where values and names are read as paths
pub claims_hold : (path : Name → Path) (p : Path) (claims : List Claim) (v : Numbers) (r : Reading) (names : Name → Reading) → r ≡ reading_at v p → ((name : Name) → Names claims name → names name ≡ reading_at v (path name))
    → AreTrue claims r names → AllHold (claims_facts path p claims) v
claims_hold path p claims v r names e same is = each_facts path p claims v (true_each path p claims v (true_named claims r (reading_at v p) names (λ name. reading_at v (path name)) e same is))

pub claims_true : (path : Name → Path) (p : Path) (claims : List Claim) (v : Numbers) (r : Reading) (names : Name → Reading) → r ≡ reading_at v p → ((name : Name) → Names claims name → names name ≡ reading_at v (path name))
    → EachHolds path p claims v → AreTrue claims r names
claims_true path p claims v r names e same each =
    true_named claims (reading_at v p) r (λ name. reading_at v (path name)) names (sym e) (λ name is. sym (same name is)) (each_true path p claims v each)

-- ---- errors

-- where no claim of a declaration is an error, none fails
pub none_fails : (Fails : Claim → Type 0) (claims : List Claim) (rule : ℕ) (span : Span) (subject : Subject) → ((error : Error) (rank : ℕ) → Unproved Fails claims rule span subject error rank → ⊥)
    → (k : ℕ) (claim : Claim) → slice_get claims k ≡ Some claim → Fails claim → ⊥
none_fails Fails claims rule span subject none k claim is fails = none (unproved rule span subject claim) k (record { claim = claim; claimed = is; refused = fails; is = refl })
