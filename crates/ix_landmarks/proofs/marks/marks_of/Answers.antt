use Rattle.std.proofs.Common.{rules, ◌↔◌, pos, subst, sym, take, take_all, get_or, arith, w32}
use Rattle.std.proofs.lemmas.Int.{to_z-of_z}
use Rattle.ix_facts.specs.Round.{IsAmong, IsLandmark}
use Rattle.ix_landmarks.specs.Items.{AddsNear}
use Rattle.ix_landmarks.proofs.Added.{near_more}
use Rattle.ix_landmarks.proofs.Ascending.{next_front}
use Rattle.ix_landmarks.proofs.marks.marks_of.Goals as goal

pub loop-number-preserved : goal.loop-number-preserved
loop-number-preserved c n =
    let numbers = c.args.numbers.now in
    let k = c.loop-number.number-index in
    subst (λ front. IsAmong n c.push_near-in-loop-number.new.out.items ↔ IsLandmark front n) (sym (next_front numbers k (pos 0) (omega (arith, c.loop-number-test.true))))
    (near_more (take k numbers) (get_or numbers k (pos 0)) c.loop-number.marks.items c.push_near-in-loop-number.new.out.items c.loop-number.invariant
    (subst (λ m. AddsNear m c.loop-number.marks.items c.push_near-in-loop-number.new.out.items) (to_z-of_z w32 (get_or numbers k (pos 0)) (search rules)) c.in_ok-push_near.ensures) n)

pub returns : goal.returns
returns c n = subst (λ front. IsAmong n c.loop-number.marks.items ↔ IsLandmark front n) (take_all c.loop-number.number-index c.args.numbers.now (omega (arith, c.loop-number-test.false))) (c.loop-number.invariant n)
