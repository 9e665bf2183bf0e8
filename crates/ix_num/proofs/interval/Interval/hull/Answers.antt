use Rattle.std.proofs.Common.{◌≡◌, ◌∙◌, sym, true, false, to_z, of_z, arith}
use Rattle.std.specs.Int.{w64}
use Rattle.std.proofs.lemmas.Int.{ints, clamps}
use Rattle.std.proofs.lemmas.Bool.{cond-true}
use Rattle.ix_num.specs.declared.interval.Interval.{Interval}
use Rattle.ix_num.specs.Intervals.{is_empty, hull_of}
use Rattle.ix_num.proofs.Ends.{same_ends}
use Rattle.ix_num.proofs.Members.{hull_left, hull_right, hull_least, hull_monotone}
use Rattle.ix_num.proofs.interval.Interval.hull.Goals as goal

pub returns-then-is_empty-clause-right : goal.returns-then-is_empty-clause-right
returns-then-is_empty-clause-right c =
    let empty : is_empty c.args.self ≡ true = sym c.is_empty.ensures.value ∙ c.if-is_empty.true in
    let value : c.normal.result ≡ hull_of c.args.self c.args.other = c.normal.ensures ∙ sym (cond-true (is_empty c.args.self) _ _ empty) in
    rw value (hull_right c.args.self c.args.other)

pub returns-then-is_empty-clause-least : goal.returns-then-is_empty-clause-least
returns-then-is_empty-clause-least c =
    let empty : is_empty c.args.self ≡ true = sym c.is_empty.ensures.value ∙ c.if-is_empty.true in
    let value : c.normal.result ≡ hull_of c.args.self c.args.other = c.normal.ensures ∙ sym (cond-true (is_empty c.args.self) _ _ empty) in
    rw value (hull_least c.args.self c.args.other)

pub returns-then-is_empty-clause-monotone : goal.returns-then-is_empty-clause-monotone
returns-then-is_empty-clause-monotone c =
    let empty : is_empty c.args.self ≡ true = sym c.is_empty.ensures.value ∙ c.if-is_empty.true in
    let value : c.normal.result ≡ hull_of c.args.self c.args.other = c.normal.ensures ∙ sym (cond-true (is_empty c.args.self) _ _ empty) in
    rw value (λ i j. hull_monotone i j c.args.self c.args.other)

pub returns-then-is_empty-2-clause-monotone : goal.returns-then-is_empty-2-clause-monotone
returns-then-is_empty-2-clause-monotone c =
    let x = c.args.self in
    let y = c.args.other in
    let some : is_empty x ≡ false = sym c.is_empty.ensures.value ∙ c.if-is_empty.false in
    let empty : is_empty y ≡ true = sym c.is_empty-else-is_empty.ensures.value ∙ c.if-is_empty-2.true in
    let value : hull_of x y ≡ x = rw (some, empty) in
    λ i j p q. rw value at (hull_monotone i j x y p q)

value : (c : goal.After-max) → ◌≡◌ {A = Interval} (record { lo = to_z w64 (of_z w64 c.min.result); hi = to_z w64 (of_z w64 c.max.result) }) (hull_of c.args.self c.args.other)
value c =
    let some : is_empty c.args.self ≡ false = sym c.is_empty.ensures.value ∙ c.if-is_empty.false in
    let filled : is_empty c.args.other ≡ false = sym c.is_empty-else-is_empty.ensures.value ∙ c.if-is_empty-2.false in
    rw (some, filled) (same_ends (omega (arith, ints, clamps, c.min.ensures.value)) (omega (arith, ints, clamps, c.max.ensures.value)))

pub returns-else-is_empty-2-clause-value : goal.returns-else-is_empty-2-clause-value
returns-else-is_empty-2-clause-value c = value c

pub returns-else-is_empty-2-clause-left : goal.returns-else-is_empty-2-clause-left
returns-else-is_empty-2-clause-left c = rw (value c) (hull_left c.args.self c.args.other)

pub returns-else-is_empty-2-clause-right : goal.returns-else-is_empty-2-clause-right
returns-else-is_empty-2-clause-right c = rw (value c) (hull_right c.args.self c.args.other)

pub returns-else-is_empty-2-clause-least : goal.returns-else-is_empty-2-clause-least
returns-else-is_empty-2-clause-least c = rw (value c) (hull_least c.args.self c.args.other)

pub returns-else-is_empty-2-clause-monotone : goal.returns-else-is_empty-2-clause-monotone
returns-else-is_empty-2-clause-monotone c = rw (value c) (λ i j. hull_monotone i j c.args.self c.args.other)
