-- The label of a loop, and what is judged of it.
use Rattle.std.proofs.Common.{◌≡◌, ◌⊎◌, inl, inr, ◌↔◌, ℕ, zero, suc, Bool, true, false, IsTrue, List, [], ◌∷◌, ◌++◌, map, slice_get, Some, None, append-nil, refl, sym, ap, subst, ◌∙◌}
use Rattle.std.proofs.lemmas.Bool.{cases_Bool, false≢true}
use Rattle.ix_facts.specs.Stores.{Stored, Unreachable, IsBelow, IsRounded}
use Rattle.ix_flow.specs.Walk.{IsIn, Joins}
use Rattle.ix_store.specs.declared.store.Store.{Store}
use Rattle.ix_store.specs.StoredFacts.{stored}
use Rattle.ix_verify.specs.declared.walk.Walk.{Walk}
use Rattle.ix_verify.specs.AtLabels.{label_of}
use Rattle.ix_verify.specs.Walking.{IsWalk, labels_in, rules, one_unless, JudgesLoop}
use Rattle.ix_verify.proofs.Stores.{kept, fails, one_more}

pub label_found : (labels : List Store) (loop : ℕ) (label : Store) → slice_get labels loop ≡ Some label → stored label ≡ label_of (map stored labels) loop
label_found [] loop label found = absurd cc
label_found (first ∷ labels) zero label found = let same : first ≡ label = cc in ap stored (sym same)
label_found (first ∷ labels) (suc loop) label found = label_found labels loop label found

pub label_missing : (labels : List Store) (loop : ℕ) → slice_get labels loop ≡ None → Unreachable ≡ label_of (map stored labels) loop
label_missing [] loop none = refl
label_missing (first ∷ labels) zero none = absurd cc
label_missing (first ∷ labels) (suc loop) none = label_missing labels loop none

pub holds_is : (walk : Walk) (ready : IsWalk walk) (scope : ℕ) (joined moved label : Stored) (holds : Bool) → IsRounded walk.marks.now.ints scope joined moved → IsTrue holds ↔ IsBelow moved label → IsTrue holds ↔ (rules walk).Rounded scope joined label
holds_is walk ready scope joined moved label holds is says = (
  λ so. kept walk.program.now walk.within.now walk.profile walk.marks.now.ints ready.marks scope joined moved label is (says.0 so),
  λ rounded. elim (cases_Bool holds) [
    | inl so ↦ so
    | inr not ↦ absurd (fails walk.program.now walk.within.now walk.profile walk.marks.now.ints ready.marks scope joined moved label is (λ below. false≢true (sym not ∙ says.1 below)) rounded)
  ],
)

pub judged : (walk : Walk) (number scope : ℕ) (entry back joined : Stored) (old new : List ℕ) (holds : Bool) → Joins (rules walk) entry back joined → IsTrue holds ↔ (rules walk).Rounded scope joined (label_of (labels_in walk) number)
    → new ≡ old ++ one_unless holds number → JudgesLoop walk number scope entry back old new
judged walk number scope entry back joined old new true joins says is = (joined, joins, inl (says.0 refl, is ∙ append-nil old))
judged walk number scope entry back joined old new false joins says is =
    (joined, joins, inr (λ rounded. false≢true (says.1 rounded), λ n. subst (λ ns. IsIn n ns ↔ (IsIn n old ⊎ (n ≡ number))) (sym is) (one_more old number n)))
