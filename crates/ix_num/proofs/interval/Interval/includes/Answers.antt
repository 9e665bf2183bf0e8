use Rattle.std.proofs.Common.{FitsSigned, rules, ◌∙◌}
use Rattle.std.specs.Int.{w64}
use Rattle.std.proofs.lemmas.Int.{to_z-of_z}
use Rattle.ix_num.proofs.Members.{includes_from, not_from}
use Rattle.ix_num.proofs.interval.Interval.includes.Goals as goal

pub returns-then-self-n : goal.returns-then-self-n
returns-then-self-n c =
    let x = c.args.self in
    let number = to_z-of_z w64 c.args.n c.ranges.n in
    let low : FitsSigned w64 x.lo = search rules in
    let high : FitsSigned w64 x.hi = search rules in
    let is = includes_from x c.args.n (rw (number, to_z-of_z w64 x.lo low) at c.if-self-n.true) in
    record { value = rw (number, to_z-of_z w64 x.hi high) (is.0); member = rw (number, to_z-of_z w64 x.hi high) (is.1) }

pub returns-else-self-n : goal.returns-else-self-n
returns-else-self-n c =
    let x = c.args.self in
    let number = to_z-of_z w64 c.args.n c.ranges.n in
    let low : FitsSigned w64 x.lo = search rules in
    let no = rw (number, to_z-of_z w64 x.lo low) at c.if-self-n.false in
    let is = not_from x c.args.n no in
    record { value = c.if-self-n.false ∙ is.0; member = rw (c.if-self-n.false) (is.1) }
