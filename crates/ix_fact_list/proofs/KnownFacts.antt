-- Going over known facts by their numbers.
use Rattle.std.specs.Prelude.{◌≡◌, ℕ, zero, suc, ◌+◌, slice_get, drop, All, Bool, List, [], ◌∷◌, ◌++◌, Some, refl}
use Rattle.std.proofs.Common.{add-one, sym, ap, ◌∙◌, subst}
use Rattle.std.proofs.lemmas.List.{append_assoc}
use Rattle.std.proofs.lemmas.List.Elements.{All-nil, All-cons, All-append}
use Rattle.ix_core.specs.declared.fact.Path.{Path}
use Rattle.ix_core.specs.declared.fact.Fact.{Fact}
use Rattle.ix_facts.specs.Forget.{names, without}
use Rattle.ix_facts.specs.Small.{HasSmallNumbers}
use Rattle.ix_core.proofs.Cases.{by_test}

pub drop_at : (facts : List Fact) (k : ℕ) (f : Fact) → slice_get facts k ≡ Some f → drop k facts ≡ f ∷ drop (suc k) facts
drop_at [] k f e = cc
drop_at (g ∷ facts) zero f e = let i : g ≡ f = cc in ap (λ y. y ∷ facts) i
drop_at (g ∷ facts) (suc k) f e = drop_at facts k f e

without_one : (is : Path → Bool) (f : Fact) (facts : List Fact) → without is (f ∷ facts) ≡ without is (f ∷ []) ++ without is facts
without_one is f facts = by_test (names is f) (λ t. rw t refl) (λ t. rw t refl)

one_small : (is : Path → Bool) (f : Fact) → HasSmallNumbers f → All HasSmallNumbers (without is (f ∷ []))
one_small is f s = by_test (names is f) (λ t. rw t (All-nil HasSmallNumbers)) (λ t. rw t (All-cons HasSmallNumbers f [] s (All-nil HasSmallNumbers)))

pub next_without : (is : Path → Bool) (found next whole known : List Fact) (k : ℕ) (f : Fact) → slice_get known k ≡ Some f → next ≡ found ++ without is (f ∷ []) → found ++ without is (drop k known) ≡ whole
    → next ++ without is (drop (k + 1) known) ≡ whole
next_without is found next whole known k f at made so_far =
    let here : without is (drop k known) ≡ without is (f ∷ []) ++ without is (drop (suc k) known) = ap (without is) (drop_at known k f at) ∙ without_one is f (drop (suc k) known) in
    rw (add-one, made) (append_assoc found (without is (f ∷ [])) (without is (drop (suc k) known)) ∙ (ap (λ l. found ++ l) (sym here) ∙ so_far))

pub next_small : (is : Path → Bool) (found next : List Fact) (f : Fact) → HasSmallNumbers f → next ≡ found ++ without is (f ∷ []) → All HasSmallNumbers found → All HasSmallNumbers next
next_small is found next f s made all = subst (λ l. All HasSmallNumbers l) (sym made) (All-append HasSmallNumbers found (without is (f ∷ [])) all (one_small is f s))
