-- The labels that are found are the least ones, as they are written down.
use Rattle.std.proofs.Common.{◌≡◌, ℕ, zero, suc, ◌<◌, List, [], ◌∷◌, length, map, slice_get, unwrap_or, Some, arith, refl, sym, ap, subst, ◌∙◌}
use Rattle.std.proofs.lemmas.List.{length-map}
use Rattle.std.proofs.lemmas.Option.{slice_get_within}
use Rattle.ix_core.specs.declared.error.Error.{Error}
use Rattle.ix_core.specs.declared.fact.Profile.{Profile}
use Rattle.ix_core.specs.declared.program.Program.{Program}
use Rattle.ix_core.specs.Formed.{Formed}
use Rattle.ix_core.specs.Tables.{method_at, body_of}
use Rattle.ix_facts.specs.Stores.{Stored}
use Rattle.ix_flow.specs.Flow.{IsLeastFlow}
use Rattle.ix_sign.specs.MethodRules.{method_rules}
use Rattle.ix_store.specs.declared.store.Store.{Store}
use Rattle.ix_store.specs.StoredFacts.{stored}
use Rattle.ix_cert.specs.Labellings.{loops_of}
use Rattle.ix_labels.specs.LoopLabels.{AreLoopLabels}
use Rattle.ix_check.specs.MethodErrors.{IsError}
use Rattle.ix_verify.specs.Flawless.{IsLeastFlawless, AreLeastFlawless}
use Rattle.ix_verify.proofs.Accepted.{least_accepted}
use Rattle.ix_check.specs.ErrorList.{IsErrorList}
use Rattle.ix_verify.specs.declared.answer.CertError.{CertError}
use Rattle.ix_verify.specs.declared.answer.CertError.TheVariants.{Memory}
use Rattle.ix_verify.specs.Verdicts.{CanVerify, IsRefused}
use Rattle.ix_verify.proofs.OneVerdict.{none_refused}
use Rattle.ix_certify.specs.Certificates.{AreLeastOf, AreLeast, IsLeastCertificate}

-- what stands in a list that was mapped
mapped_in : {A B : Type 0} (f : A → B) (xs : List A) (at : ℕ) (y : B) → slice_get (map f xs) at ≡ Some y → (x : A) × (slice_get xs at ≡ Some x) × (y ≡ f x)
mapped_in f [] at y is = cc
mapped_in f (x ∷ xs) zero y is = (x, refl, cc)
mapped_in f (x ∷ xs) (suc at) y is = mapped_in f xs at y is

some_at : {A : Type 0} (xs : List A) (at : ℕ) → at < length xs → (x : A) × (slice_get xs at ≡ Some x)
some_at [] at within = absurd (omega (arith, within))
some_at (x ∷ xs) zero within = (x, refl)
some_at (x ∷ xs) (suc at) within = some_at xs at (omega (arith, within))

module _ (program : Program) (profile : Profile) where
  least_of : (number : ℕ) (found : List Store) → length found ≡ loops_of (method_at program number) → AreLoopLabels program (method_at program number) profile found → AreLeastOf program profile number (map stored found)
  least_of number found count are =
      let many = length-map found stored in
      record {
        labels = are.labels;
        least = subst (λ n. IsLeastFlow (method_rules program (method_at program number) profile) (body_of (method_at program number)) n are.labels) (sym many) are.least;
        there = λ loop within. are.there loop (omega (arith, within, many));
        each = many ∙ count;
      }

  pub all_least : (labels : List (List Store)) → length labels ≡ length program.methods
      → ((number : ℕ) (found : List Store) → number < length program.methods → AreLoopLabels program (method_at program number) profile found → length found ≡ loops_of (method_at program number))
      → ((number : ℕ) (found : List Store) → slice_get labels number ≡ Some found → AreLoopLabels program (method_at program number) profile found) → AreLeast program profile (map (map stored) labels)
  all_least labels same counts each = record {
    of = λ number stores is.
        let m = mapped_in (map stored) labels number stores is in
        let within = slice_get_within labels number m.0 m.1 in
        let are = each number m.0 m.1 in
        subst (AreLeastOf program profile number) (sym m.2) (least_of number m.0 (counts number m.0 (omega (arith, within, same)) are) are);
    each = length-map labels (map stored) ∙ same;
  }

  -- ---- labels of which the rules derive no error

  pub flawless : (labels : List (List Stored)) → AreLeast program profile labels → ((error : Error) (rank : ℕ) → IsError program profile error rank → ⊥) → AreLeastFlawless program profile labels
  flawless labels least none number within =
      let there = some_at labels number (omega (arith, within, least.each)) in
      let own = least.of number there.0 there.1 in
      subst (IsLeastFlawless program profile number) (sym (ap (λ o. unwrap_or o []) there.1)) (record {
        labels = own.labels;
        there = own.there;
        least = own.least;
        none = λ error rank either. none error rank (record { number = number; before = within; of = either });
      })

-- ---- lists of errors

pub no_items : {A : Type 0} (items : List A) → length items ≡ 0 → items ≡ []
no_items [] none = refl
no_items (item ∷ items) none = absurd (omega (arith, none))

pub some_error : (D : Error → ℕ → Type 0) (errors : List Error) → IsErrorList D errors → (errors ≡ [] → ⊥) → (error : Error) × (rank : ℕ) × D error rank
some_error D [] list some = absurd (some refl)
some_error D (error ∷ errors) list some = let c = list.only 0 error refl in (error, c.0, c.1.is)

pub accepted : (program : Program) (profile : Profile) (text : List ℕ) → Formed program → CanVerify program → ((error : Error) (rank : ℕ) → IsError program profile error rank → ⊥) → IsLeastCertificate program profile text
    → (why : CertError) → IsRefused program text why → why ≡ Memory
accepted program profile text formed can none (labels, least, is) =
    none_refused program text formed can profile labels is (λ found same. least_accepted program profile formed labels found same (flawless program profile labels least none))
