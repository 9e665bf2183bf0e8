-- The lists of an operation's errors have exactly those of the rules.
use Rattle.std.specs.Prelude.{◌≡◌, ◌↔◌, ◌⊎◌, ℕ, suc, pos, ◌+◌, Bool, true, false, not, ◌&&◌, slice_get, None, Some, List, [], ◌∷◌, refl}
use Rattle.std.proofs.Common.{zero, arith, inl, inr, sym, subst}
use Rattle.std.proofs.lemmas.Bool.{false≢true}
use Rattle.ix_text.specs.declared.span.Span.{Span}
use Rattle.ix_num.specs.Ints.{least_int}
use Rattle.ix_core.specs.declared.claim.Claim.{Claim}
use Rattle.ix_core.specs.declared.claim.Name.{Name}
use Rattle.ix_core.specs.declared.claim.Type_.{Type_}
use Rattle.ix_core.specs.declared.error.Error.{Error}
use Rattle.ix_core.specs.declared.error.Subject.TheVariants.{Element}
use Rattle.ix_core.specs.declared.fact.Path.TheVariants.{Slot}
use Rattle.ix_core.specs.declared.fact.PathClaim.TheVariants as path_claim
use Rattle.ix_core.specs.declared.op.Op.{Op}
use Rattle.ix_core.specs.declared.program.Method.{Method}
use Rattle.ix_facts.specs.AfterOperation.{loaded_claims}
use Rattle.ix_facts.specs.Stores.{Stored}
use Rattle.ix_rules_hold.specs.MachineSteps.{on_paths, own_path}
use Rattle.ix_errors.specs.Exactly.{AreExactly}
use Rattle.ix_errors.specs.Refusals.{refusals, not_proved}
use Rattle.ix_signatures.specs.SignErrors.{Refuses, part}
use Rattle.ix_errors.proofs.Refused.{fails_refused, exactly_none, exactly_both, exactly_same, refusals_exact}
use Rattle.ix_errors.specs.Lists.{fails, element_refusals, entry_refusals, zero_fails, fresh_refusals}
use Rattle.ix_sign.specs.RuleErrors.{zero_meets, no_path, subject_of, AssignClaim, ElementClaim, EntryClaim, FreshElement}

-- ---- elements

pub elements_are : (store : Stored) (ty : Type_) (value : ℕ) (place : Span) → AreExactly (ElementClaim ty value place store) (element_refusals store ty value place)
elements_are store ty value place =
    refusals_exact (λ claim. Refuses store (on_paths no_path claim) (Slot value)) (not_proved store no_path (Slot value)) (λ claim. fails_refused (on_paths no_path claim) (Slot value) store) 16 place Element (loaded_claims ty)

both_hold : (b f : Bool) (P : Type 0) → (f ≡ true) ↔ P → ((not b && f) ≡ true) ↔ ((b ≡ false) × P)
both_hold true f P same = (λ e. absurd (false≢true e), λ x. absurd (false≢true (sym x.0)))
both_hold false f P same = (λ e. (refl, same.0 e), λ x. same.1 x.1)

pub zeros_are : (store : Stored) (ty : Type_) (size : ℕ) (place : Span) → AreExactly (FreshElement ty size place store) (fresh_refusals store ty size place)
zeros_are store ty size place =
    let empty = path_claim.Range least_int (pos 0) in
    refusals_exact (λ claim. (zero_meets claim ≡ false) × Refuses store empty (Slot size)) (zero_fails store size)
    (λ claim. both_hold (zero_meets claim) (fails store empty (Slot size)) (Refuses store empty (Slot size)) (fails_refused empty (Slot size) store)) 16 place Element (loaded_claims ty)

-- ---- entries

module _ (store : Stored) (ty : Type_) (done : Op) where
  abbrev OneEntry : ℕ → ℕ → Error → ℕ → Type 0
  OneEntry number value = ElementClaim ty value (part done number) store

  abbrev SomeEntry : ℕ → List ℕ → Error → ℕ → Type 0
  SomeEntry first entries error rank = (k : ℕ) × (value : ℕ) × (slice_get entries k ≡ Some value) × OneEntry (first + k) value error rank

  entry_parts : (first entry : ℕ) (entries : List ℕ) (error : Error) (rank : ℕ) → SomeEntry first (entry ∷ entries) error rank → OneEntry first entry error rank ⊎ SomeEntry (suc first) entries error rank
  entry_parts first entry entries error rank (zero, v, at, u) =
      let same : v ≡ entry = cc in
      let e : first + 0 ≡ first = omega arith in
      inl (subst (λ n. OneEntry n entry error rank) e (subst (λ x. OneEntry (first + 0) x error rank) same u))
  entry_parts first entry entries error rank (suc k, v, at, u) = let e : first + suc k ≡ suc first + k = omega arith in inr (k, v, at, subst (λ n. OneEntry n v error rank) e u)

  entry_later : (first entry : ℕ) (entries : List ℕ) (error : Error) (rank : ℕ) → SomeEntry (suc first) entries error rank → SomeEntry first (entry ∷ entries) error rank
  entry_later first entry entries error rank d = let e : suc first + d.0 ≡ first + suc d.0 = omega arith in (suc d.0, d.1, d.2, subst (λ n. OneEntry n d.1 error rank) e d.3)

  entries_exact : (first : ℕ) (entries : List ℕ) → AreExactly (SomeEntry first entries) (entry_refusals store ty done first entries)
  entries_exact first [] = exactly_none (SomeEntry first []) (λ error rank d. let none : None ≡ Some d.1 = d.2 in absurd cc)
  entries_exact first (entry ∷ entries) =
      exactly_both (OneEntry first entry) (SomeEntry (suc first) entries) (SomeEntry first (entry ∷ entries))
      (element_refusals store ty entry (part done first)) (entry_refusals store ty done (suc first) entries)
      (entry_parts first entry entries) (λ error rank u. let e : first ≡ first + 0 = omega arith in (0, entry, refl, subst (λ n. OneEntry n entry error rank) e u)) (entry_later first entry entries)
      (elements_are store ty entry (part done first)) (entries_exact (suc first) entries)

  pub entries_are : (entries : List ℕ) → AreExactly (EntryClaim ty entries done store) (entry_refusals store ty done 0 entries)
  entries_are entries =
      exactly_same (SomeEntry 0 entries) (EntryClaim ty entries done store) (entry_refusals store ty done 0 entries)
      (λ error rank. (
        λ d. record { at = d.0; value = d.1; entry = d.2; of = let e : 0 + d.0 ≡ d.0 = omega arith in subst (λ n. OneEntry n d.1 error rank) e d.3 },
        λ a. let e : a.at ≡ 0 + a.at = omega arith in (a.at, a.value, a.entry, subst (λ n. OneEntry n a.value error rank) e a.of),
      ))
      (entries_exact 0 entries)

-- ---- variables

pub assigns_are : (store : Stored) (method : Method) (number source : ℕ) (place : Span) (name : Name) (claims : List Claim)
    → AreExactly (AssignClaim method number source place (Some (name, claims)) store) (refusals (not_proved store (own_path method) (Slot source)) 4 place (subject_of number name) 0 claims)
assigns_are store method number source place name claims =
    refusals_exact (λ claim. Refuses store (on_paths (own_path method) claim) (Slot source)) (not_proved store (own_path method) (Slot source)) (λ claim. fails_refused (on_paths (own_path method) claim) (Slot source) store)
    4 place (subject_of number name) claims
