use Rattle.std.proofs.Common.{rules, ◌≡◌, ◌+◌, ◌<◌, length, ◌++◌, ◌∷◌, [], Some, ap, sym, subst, ◌∙◌, pos, take, get_or, arith, w32, to_z, of_z, not}
use Rattle.std.proofs.lemmas.Int.{to_z-of_z}
use Rattle.std.proofs.lemmas.Bool.{false≢true, not_from_true, true_from_ne_false}
use Rattle.ix_landmarks.proofs.Ascending.{IsOnce, once_more, once_again, all_once, some_same, same_some}
use Rattle.ix_landmarks.proofs.marks.each_once.Goals.{then-ne+in_ok-push, else-ne}
use Rattle.ix_landmarks.proofs.marks.each_once.Goals as goal

pub loop-number-preserved : goal.loop-number-preserved
loop-number-preserved c =
    let sorted = c.args.sorted.now in
    let k = c.loop-number.number-index in
    let within : k < length sorted = omega (arith, c.loop-number-test.true) in
    let number : to_z w32 (of_z w32 (get_or sorted k (pos 0))) ≡ get_or sorted k (pos 0) = to_z-of_z w32 (get_or sorted k (pos 0)) (search rules) in
    elim c.if-ne.branch [
      | then-ne+in_ok-push w ↦
          subst (λ l. IsOnce c.if-ne.ints l (take (k + 1) sorted)) (sym (w.last-is ∙ ap Some number))
          (subst (λ i. IsOnce i (Some (get_or sorted k (pos 0))) (take (k + 1) sorted)) (sym (w.ints-is ∙ w.in_ok-push.ensures.added ∙ ap (λ n. c.loop-number.ints ++ n ∷ []) number))
          (once_more sorted c.loop-number.ints c.loop-number.last k (pos 0) c.requires within c.loop-number.invariant
          (λ is. false≢true (sym (not_from_true _ (some_same c.loop-number.last _ (is ∙ ap Some (sym number)))) ∙ sym c.ne.ensures ∙ w.if-ne.true))))
      | else-ne w ↦
          subst (λ l. IsOnce c.if-ne.ints l (take (k + 1) sorted)) (sym w.last-is)
          (subst (λ i. IsOnce i c.loop-number.last (take (k + 1) sorted)) (sym w.ints-is)
          (once_again sorted c.loop-number.ints c.loop-number.last k (pos 0) within c.loop-number.invariant
          (same_some c.loop-number.last _ (true_from_ne_false _ (λ apart. false≢true (sym w.if-ne.false ∙ c.ne.ensures ∙ ap not apart))) ∙ ap Some number)))
    ]

pub returns-clause-same : goal.returns-clause-same
returns-clause-same c = all_once c.args.sorted.now c.loop-number.ints c.loop-number.last c.loop-number.number-index (omega (arith, c.loop-number-test.false)) c.loop-number.invariant
