-- What the audit of one method answers.
use Rattle.std.proofs.Common.{◌≡◌, ◌⊎◌, inl, inr, ⊎_elim, ℕ, zero, suc, ◌<◌, List, [], ◌∷◌, ◌++◌, Option, None, Some, length, get_or, slice_get, unwrap_or, arith, sym, ap, subst, ◌∙◌}
use Rattle.std.specs.Prelude.{IfNone}
use Rattle.ix_core.specs.declared.error.Error.{Error}
use Rattle.ix_core.specs.declared.fact.Profile.{Profile}
use Rattle.ix_core.specs.declared.program.Method.{Method}
use Rattle.ix_core.specs.declared.program.Program.{Program}
use Rattle.ix_core.specs.Code.{Code}
use Rattle.ix_core.specs.Tables.{method_at, no_method, body_of}
use Rattle.ix_facts.specs.Stores.{Stored, IsBelow}
use Rattle.ix_flow.specs.Flow.{Point, Rules, RulesLaws}
use Rattle.ix_flow.specs.Given.{Fails, IsDerivedAt}
use Rattle.ix_flow.specs.Walk.{IsIn}
use Rattle.ix_flow.proofs.WalkExact.{failed_fails, fails_failed, listed_derived, derived_listed, clean_flow}
use Rattle.ix_sign.specs.MethodRules.{method_rules}
use Rattle.ix_sign.specs.RuleErrors.{OverridesBy, TextErrors}
use Rattle.ix_sign.proofs.ErrorsWeaker.{errors_weaker}
use Rattle.ix_sign.proofs.MethodLaws.{method_laws}
use Rattle.ix_errors.specs.declared.ranked.Ranked.{Ranked}
use Rattle.ix_errors.specs.Exactly.{IsListed}
use Rattle.ix_soundness.specs.Errors.{NoErrors}
use Rattle.ix_soundness.specs.Sound.{HasNoErrors}
use Rattle.ix_verify.specs.AtLabels.{Derives, label_of, FailsAt, IsErrorAt, IsFirstFailing}
use Rattle.ix_verify.specs.Walking.{AddsTo, SomewhereIn, Finds, IsLeastIn}
use Rattle.ix_verify.proofs.Listing.{listed_or_not}
use Rattle.ix_verify.proofs.Lists.{listed_behind, to_both}

there : {A : Type 0} (xs : List A) (k : ℕ) (x : A) → k < length xs → x ≡ get_or xs k x → slice_get xs k ≡ Some x
there [] k x within is = absurd (omega (arith, within))
there (y ∷ xs) zero x within is = ap Some (sym is)
there (y ∷ xs) (suc k) x within is = there xs k x (omega (arith, within)) is

-- the method of a number that is in range
pub method_is : (program : Program) (number : ℕ) (methods : List Method) (method : Method) → methods ≡ program.methods → number < length methods → method ≡ get_or methods number method → method_at program number ≡ method
method_is program number methods method are within is = ap (λ o. unwrap_or o no_method) (ap (λ ms. slice_get ms number) (sym are) ∙ there methods number method within is)

module _ (program : Program) (profile : Profile) (number : ℕ) (labels : List Stored) (failed : List ℕ) (errors : List Ranked) (finds : Finds program (method_at program number) number profile labels failed errors) where
  abbrev method : Method
  method = method_at program number

  abbrev R : Rules
  R = method_rules program method profile

  abbrev L : RulesLaws R
  L = method_laws program method profile

  abbrev body : Code
  body = body_of method

  abbrev Gives : Point → Stored → Ranked → Type 0
  Gives = Derives program method number

  weaker : (point : Point) (s t : Stored) (found : Ranked) → IsBelow s t → Gives point s found → Gives point t found
  weaker point s t found below = errors_weaker s t below program method number found.error found.rank point

  -- a loop's label fails exactly where the walk found it
  found_fails : (loop : ℕ) → IsIn loop failed → FailsAt program profile number labels loop
  found_fails = failed_fails R L Gives IsListed weaker (label_of labels) [] body failed errors finds

  fails_found : (loop : ℕ) → FailsAt program profile number labels loop → IsIn loop failed
  fails_found = fails_failed R L Gives IsListed weaker (label_of labels) [] body failed errors finds

  pub first_failing : (least : Option ℕ) → IsLeastIn failed least → IsFirstFailing program profile number labels least
  first_failing None none = λ loop fails. none loop (fails_found loop fails)
  first_failing (Some loop) (has, least) = (found_fails loop has, λ before less fails. let below = least before (fails_found before fails) in absurd (omega (arith, less, below)))

  abbrev Derived : Error → ℕ → Type 0
  Derived error rank = IsDerivedAt R Gives (label_of labels) body (record { error = error; rank = rank })

  derived_behind : (old : List Ranked) → AddsTo Derived old (old ++ errors)
  derived_behind old found = (
    λ has. ⊎_elim (λ a. inl a) (λ b. inr (listed_derived R L Gives IsListed weaker (label_of labels) [] body failed errors finds found b)) ((listed_behind old errors found).0 has),
    λ either. (listed_behind old errors found).1 (⊎_elim (λ a. inl a) (λ d. inr (derived_listed R L Gives IsListed weaker (label_of labels) [] body failed errors finds found (listed_or_not found errors) d)) either),
  )

  pub all_errors : (old one two new : List Ranked) → one ≡ old ++ errors → AddsTo (OverridesBy program method number method.overrides) one two → AddsTo (SomewhereIn program method body) two new
      → AddsTo (IsErrorAt program profile number labels) old new
  all_errors old one two new is over text =
      to_both Derived (TextErrors program method number) old one new (subst (AddsTo Derived old) (sym is) (derived_behind old)) (to_both (OverridesBy program method number method.overrides) (SomewhereIn program method body) one two new over text)

  pub no_errors : IsLeastIn failed None → ((error : Error) (rank : ℕ) → IsErrorAt program profile number labels error rank → ⊥) → HasNoErrors program profile number
  no_errors none avoided = record {
    labels = label_of labels;
    flow = clean_flow R L Gives IsListed weaker (label_of labels) [] body failed errors finds (NoErrors program method number) (λ point s clear error rank has. clear (record { error = error; rank = rank }) has)
        (λ loop has. none loop has)
        (λ found has. avoided found.error found.rank (inl (listed_derived R L Gives IsListed weaker (label_of labels) [] body failed errors finds found has)));
    text = λ error rank has. avoided error rank (inr has);
  }

  pub none_sound : (least : Option ℕ) → IsLeastIn failed least → IfNone least (((error : Error) (rank : ℕ) → IsErrorAt program profile number labels error rank → ⊥) → HasNoErrors program profile number)
  none_sound None none = no_errors none
  none_sound (Some loop) is = tt
