use Rattle.std.proofs.Common.{arith, ◌≤◌, length, w64}
use Rattle.std.proofs.lemmas.Int.{to_z-of_z}
use Rattle.std.proofs.lemmas.Result.{on_ok_weaker}
use Rattle.ix_text.proofs.Chained.{where_ok}
use Rattle.ix_fact_list.proofs.NearCopied.{longer}
use Rattle.ix_fact_list.proofs.limits.reach.Goals as goal

pub returns : goal.returns
returns c =
    let old = c.args.numbers.now.items in
    let new = c.resize.new.self in
    let default = to_z-of_z w64 c.args.default c.ranges.default in
    let short : length old ≤ c.args.place = omega (arith, c.len.ensures, c.if-place-len.false) in
    record {
      reached = on_ok_weaker c.resize.result (λ long. omega (arith, long)) (where_ok c.resize.result _ _ _ c.resize.ensures.len);
      same = on_ok_weaker c.resize.result (λ made at. longer old new.items _ _ _ c.args.default (omega (arith, short)) default made at) (where_ok c.resize.result new.items _ old c.resize.ensures.items);
    }
