-- Places are the same where they are the same moved, if no two come to one.
use Rattle.std.proofs.Common.{◌≡◌, ℕ, true, sym, ap, ◌∙◌}
use Rattle.std.specs.Prelude.{◌==◌}
use Rattle.std.proofs.lemmas.Bool.{and_parts, false≢true}
use Rattle.ix_text.specs.declared.span.Span.{Span}
use Rattle.ix_core.proofs.Cases.{by_test, equal}
use Rattle.ix_meaning.specs.Listed.{same_span}
use Rattle.ix_formed.proofs.NumberLists.{is_itself, both_true}
use Rattle.ix_guard_text.specs.Moved.{Move, moved_span}
use Rattle.ix_guard_text.specs.MovedNotes.{IsInjective}

same_itself : (a : Span) → same_span a a ≡ true
same_itself a = both_true (a.from == a.from) (a.to == a.to) (is_itself a.from) (is_itself a.to)

abbrev span_of : ℕ → ℕ → Span
span_of from to = record { from = from; to = to }

same_is : (a b : Span) → same_span a b ≡ true → a ≡ b
same_is a b e =
    let parts = and_parts (a.from == b.from) (a.to == b.to) e in
    let from = equal a.from b.from parts.0 in
    let to = equal a.to b.to parts.1 in
    ap (λ n. span_of n a.to) from ∙ ap (λ n. span_of b.from n) to

pub same_span_moved : (move : Move) → IsInjective move → (p q : Span) → same_span (moved_span move p) (moved_span move q) ≡ same_span p q
same_span_moved move apart p q =
    by_test (same_span p q)
    (λ t. ap (λ (x : Span). same_span (moved_span move p) (moved_span move x)) (sym (same_is p q t)) ∙ same_itself (moved_span move p) ∙ sym t)
    (λ f. by_test (same_span (moved_span move p) (moved_span move q))
    (λ t. let e = apart.same p q (same_is (moved_span move p) (moved_span move q) t) in absurd (false≢true (sym f ∙ ap (λ (x : Span). same_span p x) (sym e) ∙ same_itself p)))
    (λ g. g ∙ sym f))
