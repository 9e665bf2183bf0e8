-- Methods audited one after the other.
use Rattle.std.proofs.Common.{◌≡◌, ◌⊎◌, inl, inr, ⊎_elim, ◌↔◌, ℕ, zero, suc, ◌+◌, ◌<◌, List, [], ◌∷◌, length, Option, None, Some, map, slice_get, unwrap_or, arith, refl, sym, ap, subst, ◌∙◌}
use Rattle.std.proofs.lemmas.Bool.{cases_lt}
use Rattle.ix_core.specs.declared.error.Error.{Error}
use Rattle.ix_core.specs.declared.fact.Profile.{Profile}
use Rattle.ix_core.specs.declared.program.Program.{Program}
use Rattle.ix_facts.specs.Stores.{Stored}
use Rattle.ix_errors.specs.ErrorList.{In, IsErrorList}
use Rattle.ix_errors.proofs.Lists.{same_list}
use Rattle.ix_errors.specs.declared.ranked.Ranked.{Ranked}
use Rattle.ix_errors.specs.Exactly.{IsListed}
use Rattle.ix_soundness.specs.Sound.{HasNoErrors}
use Rattle.ix_verify.specs.declared.audit_answer.Audit.{Audit}
use Rattle.ix_verify.specs.declared.audit_answer.Audit.TheVariants as audit
use Rattle.ix_verify.specs.AtLabels.{FailsAt, IsErrorAt, IsFirstFailing}
use Rattle.ix_verify.specs.Audited.{labels_of, NoneFails, IsErrorBelow, IsAudit, IsAnswer}
use Rattle.ix_verify.specs.Walking.{AddsTo}

module _ (program : Program) (profile : Profile) (labels : List (List Stored)) where
  -- what stands before the method of a number
  pub record IsSoFar (count : ℕ) (found : List Ranked) : Type 0 where
    pub kept : NoneFails program profile labels count
    pub errors : (one : Ranked) → IsListed one found ↔ IsErrorBelow program profile labels count one.error one.rank
    pub sound : ((error : Error) (rank : ℕ) → IsErrorBelow program profile labels count error rank → ⊥) → (number : ℕ) → number < count → HasNoErrors program profile number

  pub begins : IsSoFar 0 []
  begins = record {
    kept = λ method loop within. absurd (omega (arith, within));
    errors = λ one. (λ has. absurd has, λ is. absurd (let within = is.before in omega (arith, within)));
    sound = λ none number within. absurd (omega (arith, within));
  }

  goes_up : (count : ℕ) (error : Error) (rank : ℕ) → IsErrorBelow program profile labels count error rank → IsErrorBelow program profile labels (count + 1) error rank
  goes_up count error rank is = record { number = is.number; before = let within = is.before in omega (arith, within); of = is.of }

  last_one : (count number : ℕ) → number < count + 1 → (number < count) ⊎ (number ≡ count)
  last_one count number within = elim (cases_lt number count) [
    | inl before ↦ inl before
    | inr past ↦ inr (omega (arith, within, past))
  ]

  -- one method more
  pub goes : (count : ℕ) (old new : List Ranked) → IsSoFar count old → IsFirstFailing program profile count (labels_of labels count) None → AddsTo (IsErrorAt program profile count (labels_of labels count)) old new
      → (((error : Error) (rank : ℕ) → IsErrorAt program profile count (labels_of labels count) error rank → ⊥) → HasNoErrors program profile count) → IsSoFar (count + 1) new
  goes count old new before kept adds none = record {
    kept = λ method loop within fails. elim (last_one count method within) [
      | inl less ↦ before.kept method loop less fails
      | inr same ↦ kept loop (subst (λ n. FailsAt program profile n (labels_of labels n) loop) same fails)
    ];
    errors = λ one. (
      λ has. ⊎_elim (λ earlier. goes_up count one.error one.rank ((before.errors one).0 earlier)) (λ here. record { number = count; before = omega arith; of = here }) ((adds one).0 has),
      λ is. elim (last_one count is.number is.before) [
        | inl less ↦ (adds one).1 (inl ((before.errors one).1 (record { number = is.number; before = less; of = is.of })))
        | inr same ↦ (adds one).1 (inr (subst (λ n. IsErrorAt program profile n (labels_of labels n) one.error one.rank) same is.of))
      ],
    );
    sound = λ nothing number within. elim (last_one count number within) [
      | inl less ↦ before.sound (λ error rank is. nothing error rank (goes_up count error rank is)) number less
      | inr same ↦ subst (HasNoErrors program profile) (sym same) (none (λ error rank here. nothing error rank (record { number = count; before = omega arith; of = here })))
    ];
  }

  pub fails_at : (count loop : ℕ) (found : List Ranked) → count < length program.methods → IsSoFar count found → IsFirstFailing program profile count (labels_of labels count) (Some loop) → IsAudit program profile labels (audit.Loop count loop)
  fails_at count loop found within before (fails, first) = (within, fails, before.kept, first)

  pub ends : (count : ℕ) (found : List Ranked) (answer : Audit) → count ≡ length program.methods → IsSoFar count found → IsAnswer found answer → IsAudit program profile labels answer
  ends count found audit.Clean all before is =
      let whole = subst (λ n. IsSoFar n found) all before in
      let none : (error : Error) (rank : ℕ) → IsErrorBelow program profile labels (length program.methods) error rank → ⊥ = λ error rank has. subst (IsListed (record { error = error; rank = rank })) is ((whole.errors (record { error = error; rank = rank })).1 has) in
      (whole.kept, none, whole.sound none)
  ends count found (audit.Loop method loop) all before is = absurd is
  ends count found (audit.Errors errors) all before is =
      let whole = subst (λ n. IsSoFar n found) all before in
      (whole.kept, same_list (In found) (IsErrorBelow program profile labels (length program.methods)) (λ error rank has. (whole.errors (record { error = error; rank = rank })).0 has) (λ error rank has. (whole.errors (record { error = error; rank = rank })).1 has) errors.items is.0, is.1)

-- what is mapped, list by list, at a place
pub mapped_at : {A B : Type 0} (f : A → B) (lists : List (List A)) (number : ℕ) → map f (unwrap_or (slice_get lists number) []) ≡ unwrap_or (slice_get (map (map f) lists) number) []
mapped_at f [] number = refl
mapped_at f (list ∷ lists) zero = refl
mapped_at f (list ∷ lists) (suc number) = mapped_at f lists number

-- a list of some errors is not empty
pub some_listed : (first : Ranked) (found : List Ranked) (errors : List Error) → IsErrorList (In (first ∷ found)) errors → errors ≡ [] → ⊥
some_listed first found errors list none =
    let at = list.all first.error first.rank (inl refl) in
    let gone : None ≡ Some first.error = ap (λ es. slice_get es at.0) (sym none) ∙ at.1 in
    absurd cc

pub not_empty : (found : List Ranked) (errors : List Error) → (found ≡ [] → ⊥) → IsErrorList (In found) errors → errors ≡ [] → ⊥
not_empty [] errors some list = absurd (some refl)
not_empty (first ∷ found) errors some list = some_listed first found errors list

pub none_of : (found : Option ℕ) → ((n : ℕ) → found ≡ Some n → ⊥) → found ≡ None
none_of None none = refl
none_of (Some n) none = absurd (none n refl)
