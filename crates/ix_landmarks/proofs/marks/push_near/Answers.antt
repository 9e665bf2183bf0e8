use Rattle.std.proofs.Common.{rules, ◌≡◌, ◌++◌, ◌∷◌, [], ap, subst, sym, ◌∙◌, append_assoc, w32, to_z, of_z, pos, ◌-ℤ◌, ◌+ℤ◌}
use Rattle.std.proofs.lemmas.Int.{to_z-of_z}
use Rattle.std.proofs.lemmas.Result.{on_ok_weaker}
use Rattle.std.specs.Prelude.{FitsSigned}
use Rattle.std.specs.Int.{saturate_signed}
use Rattle.ix_landmarks.proofs.Added.{IsBelow, IsAbove, int_of_signed, one_below, one_above, near_of}
use Rattle.ix_landmarks.proofs.marks.push_near.Goals as goal

pub returns : goal.returns
returns c =
    let n = c.args.number in
    let below = c.saturating_sub.result in
    let above = c.saturating_add.result in
    let old = c.args.out.now.items in
    let fits : FitsSigned w32 n = search rules in
    let int = int_of_signed n fits in
    let same = to_z-of_z w32 n fits in
    let b : IsBelow n below = subst (IsBelow n) (sym (c.saturating_sub.ensures ∙ ap (λ m. saturate_signed w32 (m -ℤ pos 1)) same)) (one_below n int) in
    let a : IsAbove n above = subst (IsAbove n) (sym (c.saturating_add.ensures ∙ ap (λ m. saturate_signed w32 (m +ℤ pos 1)) same)) (one_above n int) in
    let first : c.push.new.self.items ≡ old ++ below ∷ [] = c.in_ok-push.ensures.items ∙ ap (λ m. old ++ m ∷ []) (to_z-of_z w32 below (search rules)) in
    on_ok_weaker c.push_both.result
    (λ added. near_of n below above old c.push_both.new.out.items int b a
    (added ∙ (ap (λ m. c.push.new.self.items ++ m ∷ to_z w32 (of_z w32 above) ∷ []) same ∙ ap (λ m. c.push.new.self.items ++ n ∷ m ∷ []) (to_z-of_z w32 above (search rules))) ∙ (ap (λ l. l ++ n ∷ above ∷ []) first ∙ append_assoc old (below ∷ []) (n ∷ above ∷ []))))
    c.push_both.ensures
