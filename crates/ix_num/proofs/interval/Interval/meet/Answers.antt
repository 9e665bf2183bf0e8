use Rattle.std.proofs.Common.{◌≡◌, ◌∙◌, to_z, of_z, arith}
use Rattle.std.specs.Int.{w64, int_min, int_max}
use Rattle.std.proofs.lemmas.Int.{ints, clamps}
use Rattle.ix_num.specs.Intervals.{normal, meet_of}
use Rattle.ix_num.proofs.Ends.{same_ends}
use Rattle.ix_num.proofs.Members.{meet_common, meet_monotone}
use Rattle.ix_num.proofs.interval.Interval.meet.Goals as goal

value : (c : goal.After-normal) → c.normal.result ≡ meet_of c.args.self c.args.other
value c =
    let low : to_z w64 (of_z w64 c.max-lo.result) ≡ int_max c.args.self.lo c.args.other.lo = omega (arith, ints, clamps, c.max-lo.ensures.value) in
    let high : to_z w64 (of_z w64 c.min-hi.result) ≡ int_min c.args.self.hi c.args.other.hi = omega (arith, ints, clamps, c.min-hi.ensures.value) in
    c.normal.ensures ∙ (λ i. normal (same_ends low high i))

pub returns-clause-value : goal.returns-clause-value
returns-clause-value c = value c

pub returns-clause-common : goal.returns-clause-common
returns-clause-common c = rw (value c) (meet_common c.args.self c.args.other)

pub returns-clause-monotone : goal.returns-clause-monotone
returns-clause-monotone c = rw (value c) (λ i j. meet_monotone i j c.args.self c.args.other)
