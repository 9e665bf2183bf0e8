-- What is inserted in a text moves no two places to one: what begins later begins later then, and what ends later ends later.
use Rattle.std.proofs.Common.{◌≡◌, ℕ, ◌≤◌, ◌<◌, nat_lt, if◌then◌else◌, List, [], ◌∷◌, length, ap, ◌∙◌, arith}
use Rattle.std.specs.Prelude.{◌==◌}
use Rattle.ix_core.proofs.Cases.{by_test, differ, equal}
use Rattle.ix_text.specs.declared.span.Span.{Span}
use Rattle.ix_guard_text.specs.Woven.{Added}
use Rattle.ix_guard_text.specs.Interleaved.{added_before, moving}
use Rattle.ix_guard_text.proofs.Shifts.{begins_later}
use Rattle.ix_guard_text.specs.MovedNotes.{IsInjective}

part_rises : (a b place size : ℕ) → a ≤ b → (if nat_lt place a then size else 0) ≤ (if nat_lt place b then size else 0)
part_rises a b place size le = grind (arith, le)

before_rises : (added : List Added) (a b : ℕ) → a ≤ b → added_before added a ≤ added_before added b
before_rises [] a b le = omega arith
before_rises (new ∷ added) a b le = omega (arith, part_rises a b new.place (length new.bytes) le, before_rises added a b le)

-- What ends later ends later then.
pub ends_later : (added : List Added) (a b : ℕ) → a < b → (moving added).to a < (moving added).to b
ends_later added a b lt = let e = before_rises added a b (omega (arith, lt)) in omega (arith, e, lt)

-- a function that rises gives no number twice
rising_apart : (of : ℕ → ℕ) → ((a b : ℕ) → a < b → of a < of b) → (a b : ℕ) → of a ≡ of b → a ≡ b
rising_apart of rises a b e =
    by_test (a == b) (equal a b)
    (λ f. by_test (nat_lt a b) (λ t. let lt : a < b = grind (arith, t) in let up = rises a b lt in absurd (omega (arith, up, e)))
    (λ g. let no = differ a b f in let lt : b < a = grind (arith, g, no) in let up = rises b a lt in absurd (omega (arith, up, e))))

abbrev span_of : ℕ → ℕ → Span
span_of from to = record { from = from; to = to }

pub moving_is_injective : (added : List Added) → IsInjective (moving added)
moving_is_injective added = record {
  same = λ p q e.
      let from = rising_apart (moving added).from (begins_later added) p.from q.from (ap (λ (span : Span). span.from) e) in
      let to = rising_apart (moving added).to (ends_later added) p.to q.to (ap (λ (span : Span). span.to) e) in
      ap (λ n. span_of n p.to) from ∙ ap (λ n. span_of q.from n) to;
}
