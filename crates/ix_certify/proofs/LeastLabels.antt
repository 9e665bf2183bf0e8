-- Least labels may be written down: they speak of the method's own paths, and a store has all facts that follow.
use Rattle.std.specs.Prelude.{◌≡◌, ℕ, ◌<◌, true, List, length, map, slice_get, Some}
use Rattle.std.specs.List.{list_all}
use Rattle.std.proofs.Common.{arith, ◌∙◌}
use Rattle.std.proofs.lemmas.Option.{slice_get_within}
use Rattle.ix_core.specs.declared.fact.Fact.{Fact}
use Rattle.ix_core.specs.declared.fact.Profile.{Profile}
use Rattle.ix_core.specs.declared.program.Program.{Program}
use Rattle.ix_core.specs.Formed.{Formed}
use Rattle.ix_core.specs.Tables.{method_at, body_of}
use Rattle.ix_facts.specs.Stores.{Stored, Reached}
use Rattle.ix_fact_table.specs.Apart.{compares_two}
use Rattle.ix_flow.specs.Flow.{IsLeastFlow}
use Rattle.ix_store.specs.declared.store.Store.{Store}
use Rattle.ix_store.specs.StoredFacts.{stored}
use Rattle.ix_store.specs.WholeStores.{AreAStore}
use Rattle.ix_sign.specs.MethodRules.{method_rules}
use Rattle.ix_certify.specs.Within.{is_inside, StoreWithin}
use Rattle.ix_labels.specs.LoopLabels.{AreLoopLabels}
use Rattle.ix_cert.specs.Adding.{AreLabels}
use Rattle.ix_cert.proofs.FormedLoops.{formed_loops}
use Rattle.ix_certify.proofs.HeadCount.{method_heads}
use Rattle.ix_certify.proofs.Written.{MayLabelMethod, may_be_labels, may_label}

module _ (own : (store : Store) (facts : List Fact) → stored store ≡ Reached facts → list_all compares_two facts ≡ true → AreAStore facts)
    (within : (program : Program) (profile : Profile) (number loops : ℕ) (labels : ℕ → Stored) → Formed program → number < length program.methods
    → IsLeastFlow (method_rules program (method_at program number) profile) (body_of (method_at program number)) loops labels
    → (loop : ℕ) → loop < loops → StoreWithin (is_inside (method_at program number).slots (length program.fields)) (labels loop)) where
  pub one_method : (program : Program) (profile : Profile) (number : ℕ) (found : List Store) → Formed program → number < length program.methods → AreLoopLabels program (method_at program number) profile found
      → MayLabelMethod stored (length program.fields) (method_at program number) found
  one_method program profile number found formed there are = (
    are.each ∙ method_heads (body_of (method_at program number)) (formed_loops program formed number there).blocks,
    may_be_labels (method_at program number).slots (length program.fields) stored own found are.labels are.there (within program profile number (length found) are.labels formed there are.least),
  )

  pub all_methods : (program : Program) (profile : Profile) (labels : List (List Store)) → Formed program → length labels ≡ length program.methods
      → ((number : ℕ) (found : List Store) → slice_get labels number ≡ Some found → AreLoopLabels program (method_at program number) profile found) → AreLabels program (map (map stored) labels)
  all_methods program profile labels formed same each = may_label stored (length program.fields) program.methods labels same (λ number found is.
      let before = slice_get_within labels number found is in
      one_method program profile number found formed (omega (arith, before, same)) (each number found is))
