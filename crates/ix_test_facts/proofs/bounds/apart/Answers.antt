use Rattle.std.proofs.Common.{FitsSigned, w32, rules}
use Rattle.ix_test_facts.proofs.IntSums.{sum_is, sum_limit}
use Rattle.ix_test_facts.proofs.bounds.apart.Goals as goal

pub returns : goal.returns
returns c =
    let first : FitsSigned w32 c.args.c.now = search rules in
    let second : FitsSigned w32 c.args.k.now = search rules in
    let is = sum_is c.args.c.now c.args.k.now first second in
    record { value = is; small = rw is (sum_limit c.args.c.now c.args.k.now first second) }
