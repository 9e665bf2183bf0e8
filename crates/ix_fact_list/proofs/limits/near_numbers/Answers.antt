use Rattle.std.proofs.Common.{arith, ◌≡◌, ◌≤◌, IfOk, length, sym, subst}
use Rattle.std.proofs.lemmas.Bool.Decides.{nat_tests}
use Rattle.std.proofs.lemmas.List.{take_all}
use Rattle.ix_fact_list.proofs.limits.near_numbers.Goals as goal

pub returns-then-numbers-le-PLACES : goal.returns-then-numbers-le-PLACES
returns-then-numbers-le-PLACES c =
    let numbers = c.args.numbers.now in
    let short : length numbers ≤ 2048 = grind (arith, nat_tests, c.if-numbers-le-PLACES.true) in
    subst (λ l. IfOk c.from_slice.result (λ near. near.items ≡ l)) (sym (take_all 2048 numbers short)) c.from_slice.ensures.items
