use Rattle.std.proofs.Common.{arith, ◌≡◌, ◌+◌, ◌-◌, ◌*◌, ◌^◌, ◌<◌, ◌≤◌, ◌/◌, ◌%◌, refl}
use Rattle.std.proofs.lemmas.Bool.{true≢false}
use Rattle.std.proofs.lemmas.Nat.{div-add-mod'}
use Rattle.ix_core.specs.declared.fact.Path.TheVariants.{Slot, FieldOf}
use Rattle.ix_core.proofs.numbered.path_of.Goals as goal

pub returns-then-number-le511-clause-none : goal.returns-then-number-le511-clause-none
returns-then-number-le511-clause-none c =
    ((λ e. absurd (true≢false e)), (λ none. absurd (none (Slot c.args.number, c.if-number-le511.true, refl))))

pub returns-clause-none : goal.returns-clause-none
returns-clause-none c =
    let number = c.args.number in
    let row = number / 2 ^ 32 in
    let rest = number % 2 ^ 32 in
    let whole = div-add-mod' number (2 ^ 32) in
    let low = c.if-row-lt1.false in
    let high = c.if-row-gt512.false in
    let within : rest < 2 ^ 32 = omega arith in
    let slot : row - 1 ≤ 511 = omega (arith, high) in
    let is : (row - 1 + 1) * 2 ^ 32 + rest ≡ number = omega (arith, low, whole) in
    ((λ e. absurd (true≢false e)), (λ none. absurd (none (FieldOf (row - 1) rest, (slot, within), is))))
