use Rattle.std.proofs.Common.{pos, ◌+ℤ◌, ◌-ℤ◌, sym, ◌∙◌, FitsSigned, w32, rules}
use Rattle.ix_bounds.proofs.BoundSteps.{limit_of_less}
use Rattle.ix_bounds.proofs.BoundedNumbers.{kept, end_kept, limit_kept, int_kept}
use Rattle.ix_bounds.proofs.limits.limit_by.Goals as goal

pub returns-then-is_same_path-clause-bound : goal.returns-then-is_same_path-clause-bound
returns-then-is_same_path-clause-bound g c =
    let all = g.G.Groups.all c.args.facts.now in
    let high = end_kept c.range_high.result c.range_high.ensures.small ∙ c.range_high.ensures.bound in
    let fits : FitsSigned w32 c.in-Less.c = search rules in
    let constant = int_kept c.in-Less.c fits in
    let n = limit_kept c.short_of.result c.short_of.ensures.small ∙ c.short_of.ensures.value ∙ (λ i. high i +ℤ constant i -ℤ pos 1) in
    limit_of_less all c.args.p.now c.args.fact.now c.in-Less.r c.in-Less.q c.in-Less.c (kept c.short_of.result) c.in-Less.is (sym c.is_same_path.ensures ∙ c.if-is_same_path.true) n

pub returns-then-is_same_path-clause-small : goal.returns-then-is_same_path-clause-small
returns-then-is_same_path-clause-small g c = rw (limit_kept c.short_of.result c.short_of.ensures.small) (c.short_of.ensures.small)
