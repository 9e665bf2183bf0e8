-- The number that a call gives of two machine numbers, as it is of the two without a width.
use mir.Syntax.{Width}
use Rattle.std.proofs.Common.{◌≡◌, SFits, to_z, of_z, ap, ◌∙◌}
use Rattle.std.specs.Prelude.{ℤ}
use Rattle.std.proofs.lemmas.Int.{to_z-of_z}

pub number_of :
    (w : Width) (of : ℤ → ℤ → ℤ) (given one other : ℤ) → SFits w given → SFits w one → SFits w other → given ≡ of (to_z w (of_z w one)) (to_z w (of_z w other)) → to_z w (of_z w given) ≡ of one other
number_of w of given one other x y z is = to_z-of_z w given x ∙ (is ∙ (ap (λ n. of n (to_z w (of_z w other))) (to_z-of_z w one y) ∙ ap (of one) (to_z-of_z w other z)))
