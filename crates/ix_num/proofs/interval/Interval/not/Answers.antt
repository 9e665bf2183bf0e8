use Rattle.std.proofs.Common.{◌≡◌, ◌∙◌, sym, false, negsuc, ◌-ℤ◌, to_z, of_z, FitsSigned, arith, rules}
use Rattle.std.specs.Int.{w64}
use Rattle.std.proofs.lemmas.Int.{ints}
use Rattle.ix_num.specs.declared.interval.Interval.{Interval}
use Rattle.ix_num.specs.Intervals.{is_empty, not_of}
use Rattle.ix_num.proofs.Ends.{same_ends}
use Rattle.ix_num.proofs.Members.{not_if_empty, not_if_some, not_members, not_monotone}
use Rattle.ix_num.proofs.interval.Interval.not.Goals as goal

-- what the code makes of an interval that is not empty
value : (x : Interval) → FitsSigned w64 x.lo → FitsSigned w64 x.hi → is_empty x ≡ false → ◌≡◌ {A = Interval} (record { lo = to_z w64 (of_z w64 (negsuc 0 -ℤ to_z w64 (of_z w64 x.hi))); hi = to_z w64 (of_z w64 (negsuc 0 -ℤ to_z w64 (of_z w64 x.lo))) }) (not_of x)
value x low high some = same_ends (omega (arith, ints)) (omega (arith, ints)) ∙ sym (not_if_some x some)

pub returns-then-is_empty-clause-monotone : goal.returns-then-is_empty-clause-monotone
returns-then-is_empty-clause-monotone c =
    let x = c.args.self in
    let is = not_if_empty x (sym c.is_empty.ensures.value ∙ c.if-is_empty.true) in
    λ i p. rw is at (not_monotone i x p)

pub returns-clause-value : goal.returns-clause-value
returns-clause-value c = value c.args.self (search rules) (search rules) (sym c.is_empty.ensures.value ∙ c.if-is_empty.false)

pub returns-clause-flipped : goal.returns-clause-flipped
returns-clause-flipped c = rw (value c.args.self (search rules) (search rules) (sym c.is_empty.ensures.value ∙ c.if-is_empty.false)) (not_members c.args.self)

pub returns-clause-monotone : goal.returns-clause-monotone
returns-clause-monotone c = rw (value c.args.self (search rules) (search rules) (sym c.is_empty.ensures.value ∙ c.if-is_empty.false)) (λ i. not_monotone i c.args.self)
