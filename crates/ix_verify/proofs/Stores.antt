-- What the calls of the store answer is the least that the rules allow.
use Rattle.std.proofs.Common.{◌≡◌, ◌⊎◌, inl, inr, ⊎_elim, ◌↔◌, ℕ, Bool, List, [], ◌∷◌, ◌++◌, Option, subst}
use Rattle.ix_core.specs.declared.fact.Profile.{Profile}
use Rattle.ix_core.specs.declared.op.Op.{Op}
use Rattle.ix_core.specs.declared.op.Test.{Test}
use Rattle.ix_core.specs.declared.program.Method.{Method}
use Rattle.ix_core.specs.declared.program.Program.{Program}
use Rattle.ix_facts.specs.MethodLandmarks.{method_numbers, AreLandmarksOf}
use Rattle.ix_facts.specs.Round.{rounded}
use Rattle.ix_facts.specs.Stores.{Stored, IsBelow, IsStoreOf, IsJoined, IsTested, IsRounded, Gives, outcomes_of}
use Rattle.ix_facts.proofs.SaidRules.{rounded_mono}
use Rattle.ix_facts.proofs.StepLaws.{gives_step, told_give, told_least, given_gives, given_least}
use Rattle.ix_facts.proofs.StoreLaws.{below_itself, store_above, store_least, joined_least}
use Rattle.ix_flow.specs.Flow.{Rules}
use Rattle.ix_flow.specs.Walk.{IsIn, IsLeast, Joins}
use Rattle.ix_lattice.specs.Lattice.{IsJoin}
use Rattle.ix_sign.specs.MethodRules.{RoundedGives, method_rules}
use Rattle.ix_signatures.specs.Signs as signs
use Rattle.ix_signatures.specs.Signs.{Adds, entry_facts, told_facts}
use Rattle.ix_store.specs.declared.store.Store.{Store}
use Rattle.ix_store.specs.StoredFacts.{stored}
use Rattle.ix_store.specs.StoreOrder.{StoreBelow}
use Rattle.ix_verify.proofs.OneLandmarks.{one_landmarks}

module _ (program : Program) (method : Method) (profile : Profile) where
  abbrev R : Rules
  R = method_rules program method profile

  pub joins : (one other joined : Store) → IsJoin StoreBelow one other joined → IsJoined (stored one) (stored other) (stored joined) → Joins R (stored one) (stored other) (stored joined)
  joins one other joined is said = ((is.left, is.right), λ t both. joined_least (stored one) (stored other) (stored joined) t said both.0 both.1)

  pub after_least : (op : Op) (s t : Stored) → signs.IsLeastOf (R.After op) s t → IsLeast R (R.After op s) t
  after_least op s t least = (least.above, least.least)

  pub told_least_of : (answer : Bool) (last : Option Op) (slot : ℕ) (s t : Stored) → signs.IsLeastOf (Adds (told_facts program last slot answer)) s t → IsLeast R (R.Told answer last slot s) t
  told_least_of answer last slot s t least = (least.above, least.least)

  pub tested_least : (answer : Bool) (test : Test) (s t : Stored) → IsTested answer test s t → IsLeast R (R.Tested answer test s) t
  tested_least answer test s t tested = (told_give (outcomes_of answer test) s t tested, λ other gives. told_least (outcomes_of answer test) s t other tested gives)

  pub entry_least : (t : Stored) → IsStoreOf (entry_facts program method) t → IsLeast R R.Entry t
  entry_least t is = (store_above (entry_facts program method) t is, λ other entry. store_least (entry_facts program method) t other is entry)

  -- ---- the label of a loop

  module _ (marks : List Rattle.std.specs.Prelude.ℤ) (are : AreLandmarksOf program method marks) (scope : ℕ) (joined moved label : Stored) (is : IsRounded marks scope joined moved) where
    pub kept : IsBelow moved label → RoundedGives program method scope joined label
    kept below =
        (marks, are, gives_step (rounded marks scope) (rounded_mono marks scope) joined joined moved label (below_itself joined) (given_gives (rounded marks scope) joined moved is) below)

    pub fails : (IsBelow moved label → ⊥) → RoundedGives program method scope joined label → ⊥
    fails not (others, both, gives) =
        let same = one_landmarks (method_numbers program method) others marks both are in
        not (given_least (rounded marks scope) joined moved label is (subst (λ ns. Gives (rounded ns scope) joined label) same gives))

-- one number more at the end
pub one_more : (old : List ℕ) (number n : ℕ) → IsIn n (old ++ number ∷ []) ↔ (IsIn n old ⊎ (n ≡ number))
one_more [] number n = (λ has. ⊎_elim (λ is. inr is) (λ none. absurd none) has, λ either. ⊎_elim (λ none. absurd none) (λ is. inl is) either)
one_more (first ∷ old) number n = (
  λ has. ⊎_elim (λ is. inl (inl is)) (λ later. ⊎_elim (λ before. inl (inr before)) (λ is. inr is) ((one_more old number n).0 later)) has,
  λ either. ⊎_elim (λ before. ⊎_elim (λ is. inl is) (λ later. inr ((one_more old number n).1 (inl later))) before) (λ is. inr ((one_more old number n).1 (inr is))) either,
)
