-- The rules on stores are sound: a state that meets the store before meets the store behind.
use Rattle.std.specs.Prelude.{◌≡◌, false, ℕ, Bool, ℤ, List, refl}
use Rattle.std.proofs.Common.{sym, ◌∙◌}
use Rattle.ix_core.specs.declared.claim.Type_.{Type_}
use Rattle.ix_core.specs.declared.fact.Path.{Path}
use Rattle.ix_core.specs.declared.fact.Path.TheVariants.{Slot, FieldOf}
use Rattle.ix_core.specs.declared.fact.PathClaim.{PathClaim}
use Rattle.ix_core.specs.declared.fact.Fact.{Fact}
use Rattle.ix_core.specs.declared.fact.Profile.{Profile}
use Rattle.ix_core.specs.declared.op.OpKind.{OpKind}
use Rattle.ix_core.specs.Numbers.{Numbers}
use Rattle.ix_facts.specs.Facts.{AllHold, in_orders}
use Rattle.ix_facts.specs.Closure.{SaysAll, kept}
use Rattle.ix_facts.specs.Forget.{of_slot, of_path, of_field, without, SameBut}
use Rattle.ix_facts.specs.AfterOperation.{HasExact}
use Rattle.ix_facts.specs.After.{of_target, Step, TargetApart, beside_target}
use Rattle.ix_facts.specs.Assume.{ClaimHolds, claim_facts}
use Rattle.ix_facts.specs.FieldSteps.{IsRead, IsWritten}
use Rattle.ix_facts.specs.Round.{rounded}
use Rattle.ix_facts.specs.Stores.{Stored, Unreachable, Reached, Meets, IsBelow, IsCopied, IsForgotten, IsRounded, IsAdded, IsAssumed, IsProved, IsEntry, with_copy, with_facts}
use Rattle.ix_facts.specs.Laws.{Alike}
use Rattle.ix_facts.proofs.AfterLaws.{copy_hold, goes_on_exact, results_now}
use Rattle.ix_facts.proofs.BoundsHold.{in_orders_hold}
use Rattle.ix_facts.proofs.ClaimLaws.{claim_facts_hold, proved_holds}
use Rattle.ix_facts.proofs.ClosureLaws.{kept_hold}
use Rattle.ix_facts.proofs.FactLists.{all_hold_app}
use Rattle.ix_facts.proofs.Frame.{without_holds, without_stays}
use Rattle.ix_facts.proofs.SaidKept.{kept_says}
use Rattle.ix_facts.proofs.SaidLaws.{says_app, says_more}
use Rattle.ix_facts.proofs.SaidRules.{rounded_above}
use Rattle.ix_facts.proofs.StoreLaws.{says_hold, store_meets, store_mono, given_below, given_meets}

unnamed_stay : (is : Path → Bool) (v w : Numbers) → SameBut is v w → (facts : List Fact) → AllHold facts v → AllHold (without is facts) w
unnamed_stay is v w others facts h = without_stays is v w others facts (without_holds is v facts h)

-- Where the facts hold and a step goes on, the exact interval by what is known beside the target is not empty.
pub step_exact : (profile : Profile) (kind : OpKind) (facts : List Fact) (v w : Numbers) → TargetApart kind → Step profile kind v w → AllHold facts v → HasExact (beside_target kind facts) kind
step_exact profile kind facts v w apart step h =
    goes_on_exact profile kind (beside_target kind facts) w (in_orders_hold w (without (of_target kind) facts) (unnamed_stay (of_target kind) v w step.others facts h)) (results_now profile kind v w apart step.others step.results)

pub copied_meets : (ty : Type_) (t p : Path) (v w : Numbers) → Alike w t p → SameBut (of_path t) v w → (s u : Stored) → IsCopied ty t p s u → Meets s v → Meets u w
copied_meets ty t p v w alike others = given_meets (with_copy ty t p) v w (λ facts h. copy_hold (without (of_path t) facts) w ty t p alike (unnamed_stay (of_path t) v w others facts h))

pub forgotten_meets : (is : Path → Bool) (v w : Numbers) → SameBut is v w → (s t : Stored) → IsForgotten is s t → Meets s v → Meets t w
forgotten_meets is v w others = given_meets (without is) v w (unnamed_stay is v w others)

pub rounded_meets : (marks : List ℤ) (scope : ℕ) (v : Numbers) (s t : Stored) → IsRounded marks scope s t → Meets s v → Meets t v
rounded_meets marks scope v = given_meets (rounded marks scope) v v (λ facts h. says_hold facts (rounded marks scope facts) v (rounded_above marks scope facts) h)

pub added_meets : (more : List Fact) (v : Numbers) → AllHold more v → (s t : Stored) → IsAdded more s t → Meets s v → Meets t v
added_meets more v h = given_meets (with_facts more) v v (λ facts k. all_hold_app v facts (kept more) k (kept_hold v more h))

pub assumed_meets : (claim : PathClaim) (p : Path) (v : Numbers) → ClaimHolds claim p v → (s t : Stored) → IsAssumed claim p s t → Meets s v → Meets t v
assumed_meets claim p v h = added_meets (claim_facts claim p) v (claim_facts_hold v claim p h)

pub proved_meets : (claim : PathClaim) (p : Path) (s : Stored) (v : Numbers) → IsProved claim p s → Meets s v → ClaimHolds claim p v
proved_meets claim p Unreachable v t m = absurd m
proved_meets claim p (Reached facts) v t m = proved_holds v (in_orders facts) (in_orders_hold v facts m) claim p t

pub entry_meets : (facts : List Fact) (s : Stored) (v : Numbers) → IsEntry facts s → AllHold facts v → Meets s v
entry_meets facts s v e h = store_meets (kept facts) s v e (kept_hold v facts h)

pub entry_mono : (strong weak : List Fact) (s t : Stored) → SaysAll strong weak → IsEntry strong s → IsEntry weak t → IsBelow s t
entry_mono strong weak s t a e f = store_mono (kept strong) (kept weak) s t (kept_says strong weak a) e f

-- what is added only strengthens
pub added_below : (more : List Fact) (s t : Stored) → IsAdded more s t → IsBelow t s
added_below more = given_below (with_facts more) (λ facts. says_more facts (kept more) facts (λ f k. k))

-- stronger stores to which stronger facts are added
pub added_two : (more fewer : List Fact) (s t u w : Stored) → SaysAll more fewer → IsBelow s t → IsAdded more s u → IsAdded fewer t w → IsBelow u w
added_two more fewer Unreachable t u w a b g h = Rattle.std.proofs.Common.subst (λ x. IsBelow x w) (sym g) tt
added_two more fewer (Reached x) Unreachable u w a b g h = absurd b
added_two more fewer (Reached x) (Reached y) u w a b g h =
    store_mono (with_facts more x) (with_facts fewer y) u w (says_app x (kept more) y (kept fewer) b (kept_says more fewer a)) g h

-- ---- fields

pub read_meets : (ty : Type_) (t o f : ℕ) (v w : Numbers) → of_slot t (Slot o) ≡ false → IsRead t o f v w → (s u : Stored) → IsCopied ty (Slot t) (FieldOf o f) s u → Meets s v → Meets u w
read_meets ty t o f v w apart read =
    copied_meets ty (Slot t) (FieldOf o f) v w (let e = read.others (FieldOf o f) apart in record { int = read.int ∙ sym e.0; size = read.size ∙ sym e.1 }) read.others

pub written_meets : (ty : Type_) (o f x : ℕ) (spared : ℕ → Bool) (v w : Numbers) → IsWritten o f x spared v w
    → (s between u : Stored) → IsForgotten (of_field f spared) s between → IsCopied ty (FieldOf o f) (Slot x) between u → Meets s v → Meets u w
written_meets ty o f x spared v w written s between u forgotten copied m =
    let e = written.others (Slot x) refl in
    copied_meets ty (FieldOf o f) (Slot x) w w (record { int = written.int ∙ sym e.0; size = written.size ∙ sym e.1 }) (λ p n. (refl, refl)) between u copied
    (forgotten_meets (of_field f spared) v w written.others s between forgotten m)
