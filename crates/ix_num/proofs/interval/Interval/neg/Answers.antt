use Rattle.std.proofs.Common.{◌≡◌, ◌∙◌, sym, false, pos, ◌-ℤ◌, ◌≤ℤ◌, to_z, of_z, arith}
use Rattle.std.specs.Int.{w64}
use Rattle.std.proofs.lemmas.Int.{ints}
use Rattle.ix_num.specs.declared.interval.Interval.{Interval}
use Rattle.ix_num.specs.Intervals.{IsWithin, all_ints, is_empty, neg_of}
use Rattle.ix_num.proofs.Ends.{same_ends}
use Rattle.ix_num.proofs.Members.{low_end, high_end, neg_if_empty, neg_if_some, neg_members, neg_monotone}
use Rattle.ix_num.proofs.interval.Interval.neg.Goals as goal

-- what the code makes of an interval that is not empty
value : (x : Interval) → IsWithin x all_ints → is_empty x ≡ false → ◌≡◌ {A = Interval} (record { lo = to_z w64 (of_z w64 (pos 0 -ℤ to_z w64 (of_z w64 x.hi))); hi = to_z w64 (of_z w64 (pos 0 -ℤ to_z w64 (of_z w64 x.lo))) }) (neg_of x)
value x within some =
    let filled : x.lo ≤ℤ x.hi = grind (arith, ints) in
    let low = within.each x.lo (low_end x filled) in
    let high = within.each x.hi (high_end x filled) in
    same_ends (omega (arith, ints, low.from, low.to, high.from, high.to)) (omega (arith, ints, low.from, low.to, high.from, high.to)) ∙ sym (neg_if_some x some)

pub returns-then-is_empty-clause-monotone : goal.returns-then-is_empty-clause-monotone
returns-then-is_empty-clause-monotone c =
    let x = c.args.self in
    let is = neg_if_empty x (sym c.is_empty.ensures.value ∙ c.if-is_empty.true) in
    λ i p. rw is at (neg_monotone i x p)

pub returns-clause-value : goal.returns-clause-value
returns-clause-value c = value c.args.self c.requires (sym c.is_empty.ensures.value ∙ c.if-is_empty.false)

pub returns-clause-negated : goal.returns-clause-negated
returns-clause-negated c = rw (value c.args.self c.requires (sym c.is_empty.ensures.value ∙ c.if-is_empty.false)) (neg_members c.args.self)

pub returns-clause-monotone : goal.returns-clause-monotone
returns-clause-monotone c = rw (value c.args.self c.requires (sym c.is_empty.ensures.value ∙ c.if-is_empty.false)) (λ i. neg_monotone i c.args.self)
