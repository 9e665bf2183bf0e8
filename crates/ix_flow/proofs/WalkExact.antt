-- A walk finds exactly the loops whose labels fail, and exactly the errors that the rules derive at the labels. Where it finds none, the labels are those of a flow
-- without errors.
use Rattle.std.proofs.Common.{◌⊎◌, inl, inr, ℕ, ◌≡◌, refl, subst, List, [], ◌∷◌}
use Rattle.std.proofs.lemmas.Bool.{cases_eq}
use Rattle.ix_core.specs.Code.{Code}
use Rattle.ix_flow.specs.Flow.{Point, Rules, RulesLaws, IsFlow, Anything, Avoids}
use Rattle.ix_flow.specs.Given.{judging, Fails, IsDerivedAt}
use Rattle.ix_flow.specs.Walk.{IsIn, WalksBody}
use Rattle.ix_flow.proofs.GivenLabels.{all_judged}
use Rattle.ix_flow.proofs.WalkBelow.{flow_clear}
use Rattle.ix_flow.proofs.WalkFlows.{clear_flow}

in_or_not : (n : ℕ) (ns : List ℕ) → IsIn n ns ⊎ (IsIn n ns → ⊥)
in_or_not n [] = inr (λ has. has)
in_or_not n (first ∷ ns) = elim (cases_eq n first) [
  | inl is ↦ inl (inl is)
  | inr apart ↦ elim (in_or_not n ns) [
    | inl later ↦ inl (inr later)
    | inr absent ↦ inr (λ has. elim has [
      | inl is ↦ apart is
      | inr later ↦ absent later
    ])
  ]
]

module _ (R : Rules) (L : RulesLaws R) {E Errors : Type 0} (Derives : Point → R.Store → E → Type 0) (Lists : E → Errors → Type 0)
    (weaker : (point : Point) (s t : R.Store) (error : E) → R.Below s t → Derives point s error → Derives point t error)
    (labels : ℕ → R.Store) (none : Errors) (body : Code) (failed : List ℕ) (errors : Errors) (walks : WalksBody R Derives Lists labels none body failed errors) where
  -- ---- loops

  pub failed_fails : (loop : ℕ) → IsIn loop failed → Fails R labels body loop
  failed_fails loop has flow =
      (flow_clear R L Derives Lists labels (λ number. number ≡ loop) (λ error. ⊥) (Anything (judging R (λ number. number ≡ loop))) (λ point s t error below fine derived barred. barred) none body failed errors walks flow).0 loop has refl

  pub fails_failed : (loop : ℕ) → Fails R labels body loop → IsIn loop failed
  fails_failed loop fails = elim (in_or_not loop failed) [
    | inl has ↦ has
    | inr absent ↦ absurd (fails
        (clear_flow R L Derives Lists labels (λ number. number ≡ loop) (λ error. ⊥) (Anything (judging R (λ number. number ≡ loop))) (λ point s i avoided. tt) none body failed errors walks
        (λ number has is. absent (subst (λ n. IsIn n failed) is has), λ error has barred. barred)))
  ]

  -- ---- errors

  pub listed_derived : (error : E) → Lists error errors → IsDerivedAt R Derives labels body error
  listed_derived error has flow =
      (flow_clear R L Derives Lists labels (λ number. ⊥) (λ other. other ≡ error) (λ point store. Avoids R Derives error point store.0)
      (λ point s t other below fine derived is. fine (weaker point s t.0 error below (subst (Derives point s) is derived))) none body failed errors walks flow).1 error has refl

  pub derived_listed : (error : E) → Lists error errors ⊎ (Lists error errors → ⊥) → IsDerivedAt R Derives labels body error → Lists error errors
  derived_listed error (inl has) derived = has
  derived_listed error (inr absent) derived = absurd (derived
      (clear_flow R L Derives Lists labels (λ number. ⊥) (λ other. other ≡ error) (λ point store. Avoids R Derives error point store.0) (λ point s i avoided has. avoided error has refl) none body failed errors walks
      (λ number has judged. judged, λ other has is. absent (subst (λ e. Lists e errors) is has))))

  -- ---- neither

  pub clean_flow : (Fine : Point → R.Store → Type 0) → ((point : Point) (s : R.Store) → ((error : E) → Derives point s error → ⊥) → Fine point s)
      → ((loop : ℕ) → IsIn loop failed → ⊥) → ((error : E) → Lists error errors → ⊥) → IsFlow R Fine labels body
  clean_flow Fine fine kept avoided =
      all_judged R Fine labels body
      (clear_flow R L Derives Lists labels (λ number. Unit {0}) (λ error. Unit {0}) (λ point store. Fine point store.0) (λ point s i clear. fine point s (λ error derived. clear error derived tt)) none body failed errors walks
      (λ number has judged. kept number has, λ error has barred. avoided error has))
