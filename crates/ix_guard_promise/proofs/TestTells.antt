-- Where a guard's test fails its index is inside its array; where it holds nothing is known.
use Rattle.std.proofs.Common.{◌≡◌, ℕ, true, false, List, [], ◌∷◌, Option, None, refl, sym, subst}
use Rattle.std.specs.Prelude.{pos}
use Rattle.ix_num.specs.declared.rel.Rel.TheVariants.{Lt, Ge}
use Rattle.ix_core.specs.declared.fact.Path.TheVariants.{Slot}
use Rattle.ix_core.specs.declared.fact.Profile.{Profile}
use Rattle.ix_core.specs.declared.op.Op.{Op}
use Rattle.ix_core.specs.declared.op.Test.{Test}
use Rattle.ix_core.specs.declared.program.Method.{Method}
use Rattle.ix_core.specs.declared.program.Program.{Program}
use Rattle.ix_core.specs.Types.{int_type}
use Rattle.ix_facts.specs.Facts.{in_orders}
use Rattle.ix_facts.specs.Closure.{kept}
use Rattle.ix_facts.specs.AfterTest.{Outcome, Below, outcome_facts}
use Rattle.ix_facts.specs.Stores.{Stored, Reached, OutcomesGive, outcomes_of}
use Rattle.ix_facts.proofs.StoreLaws.{below_itself}
use Rattle.ix_flow.specs.Flow.{Point, Doing, Asks}
use Rattle.ix_sign.specs.MethodRules.{AfterGives, KindGives, method_rules}
use Rattle.ix_guard_promise.specs.Known.{Inside, accessed}
use Rattle.ix_guard_promise.specs.KnownFacts.{store_of}
use Rattle.ix_guard_promise.specs.Guards.{Compares, IsTest, outside}
use Rattle.ix_guard_promise.proofs.KeptFacts.{unknown_above, more_stays}
use Rattle.ix_guard_promise.proofs.KeptRules.{kind_unknown}
use Rattle.ix_guard_promise.proofs.TestFacts.{zero_facts, low_facts, length_facts, zero_made, low_told, length_made, high_told}

-- nothing is known behind any outcomes
pub outcomes_unknown : (outcomes : List Outcome) (s : Stored) → OutcomesGive outcomes s (Reached [])
outcomes_unknown [] s = unknown_above s
outcomes_unknown (outcome ∷ outcomes) s = (s, more_stays (λ facts. kept (outcome_facts (in_orders facts) outcome)) s, outcomes_unknown outcomes s)

negative_fails : (index slot : ℕ) (test : Test) → Compares Lt index slot int_type test → outcomes_of false test ≡ Below (Slot slot) (Slot index) (pos 1) ∷ []
negative_fails index slot test compares = rw (compares.by, compares.first, compares.second, compares.of) refl

too_high_fails : (index slot : ℕ) (test : Test) → Compares Ge index slot int_type test → outcomes_of false test ≡ Below (Slot index) (Slot slot) (pos 0) ∷ []
too_high_fails index slot test compares = rw (compares.by, compares.first, compares.second, compares.of) refl

module _ (program : Program) (method : Method) (profile : Profile) (Fine : Point → Stored → Type 0) (labels : ℕ → Stored) where
  module _ (array index : ℕ) (null_op zero_op length_op : Op) (is_null is_negative is_too_high : Test) (test : IsTest array index null_op zero_op length_op is_null is_negative is_too_high) where
    zero_after : AfterGives program method profile zero_op (Reached []) (Reached (zero_facts test.zero_slot))
    zero_after = subst (λ kind. KindGives program method profile kind zero_op.span.from (Reached []) (Reached (zero_facts test.zero_slot))) (sym test.makes_zero) (zero_made profile test.zero_slot)

    length_after : AfterGives program method profile length_op (Reached (low_facts index)) (Reached (length_facts array index test.length_slot))
    length_after = subst (λ kind. KindGives program method profile kind length_op.span.from (Reached (low_facts index)) (Reached (length_facts array index test.length_slot)))
        (sym test.makes_length) (length_made profile array index test.length_slot test.apart)

    negative_tells : OutcomesGive (outcomes_of false is_negative) (Reached (zero_facts test.zero_slot)) (Reached (low_facts index))
    negative_tells = subst (λ outcomes. OutcomesGive outcomes (Reached (zero_facts test.zero_slot)) (Reached (low_facts index)))
        (sym (negative_fails index test.zero_slot is_negative test.asks_negative))
        (Reached (low_facts index), low_told test.zero_slot index, below_itself (Reached (low_facts index)))

    too_high_tells : OutcomesGive (outcomes_of false is_too_high) (Reached (length_facts array index test.length_slot)) (store_of (Inside array index))
    too_high_tells = subst (λ outcomes. OutcomesGive outcomes (Reached (length_facts array index test.length_slot)) (store_of (Inside array index)))
        (sym (too_high_fails index test.length_slot is_too_high test.asks_too_high))
        (store_of (Inside array index), high_told array index test.length_slot, below_itself (store_of (Inside array index)))

    pub test_tells : ((done : Op) (store : Stored) → accessed done.kind ≡ None → Fine (Doing done) store) → (last : Option Op) (before : Stored)
        → Asks (method_rules program method profile) Fine labels last (outside null_op zero_op length_op is_null is_negative is_too_high) before (Reached []) (store_of (Inside array index)) (Reached []) (Reached [])
    test_tells fine last before = (
      Reached (low_facts index),
      (
        Reached [],
        (
          Reached [],
          (fine null_op before (subst (λ kind. accessed kind ≡ None) (sym test.makes_null) refl), Reached [], kind_unknown program method profile null_op.kind null_op.span.from before, below_itself (Reached [])),
          outcomes_unknown (outcomes_of true is_null) (Reached []),
          outcomes_unknown (outcomes_of false is_null) (Reached []),
        ),
        (
          Reached (zero_facts test.zero_slot),
          (fine zero_op (Reached []) (subst (λ kind. accessed kind ≡ None) (sym test.makes_zero) refl), Reached (zero_facts test.zero_slot), zero_after, below_itself (Reached (zero_facts test.zero_slot))),
          outcomes_unknown (outcomes_of true is_negative) (Reached (zero_facts test.zero_slot)),
          negative_tells,
        ),
      ),
      (
        Reached (length_facts array index test.length_slot),
        (fine length_op (Reached (low_facts index)) (subst (λ kind. accessed kind ≡ None) (sym test.makes_length) refl), Reached (length_facts array index test.length_slot), length_after, below_itself (Reached (length_facts array index test.length_slot))),
        outcomes_unknown (outcomes_of true is_too_high) (Reached (length_facts array index test.length_slot)),
        too_high_tells,
      ),
    )
