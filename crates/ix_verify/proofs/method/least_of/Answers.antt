use Rattle.std.proofs.Common.{◌≡◌, ◌+◌, ◌∷◌, ◌++◌, [], take, get_or, take_all, arith, suc, ap, sym, subst, ◌∙◌}
use Rattle.std.proofs.Math.Seq.{take-suc}
use Rattle.ix_verify.specs.Walking.{IsLeastIn}
use Rattle.ix_verify.proofs.Bodies.{lesser_least}
use Rattle.ix_verify.proofs.method.least_of.Goals as goal

pub loop-number-preserved : goal.loop-number-preserved
loop-number-preserved c =
    let numbers = c.args.numbers.now in
    let k = c.loop-number.number-index in
    let front : take (k + 1) numbers ≡ take k numbers ++ get_or numbers k 0 ∷ [] = (let e : k + 1 ≡ suc k = omega arith in ap (λ j. take j numbers) e) ∙ take-suc numbers k 0 (omega (arith, c.loop-number-test.true)) in
    subst (λ ns. IsLeastIn ns c.lesser-least.result) (sym front) (subst (IsLeastIn (take k numbers ++ get_or numbers k 0 ∷ [])) (sym c.lesser-least.ensures) (lesser_least (take k numbers) c.loop-number.least (get_or numbers k 0) c.loop-number.invariant))

pub returns : goal.returns
returns c = subst (λ ns. IsLeastIn ns c.loop-number.least) (take_all c.loop-number.number-index c.args.numbers.now (omega (arith, c.loop-number-test.false))) c.loop-number.invariant
