use Rattle.std.proofs.Common.{rules, ap, ◌≡◌, w64, to_z, of_z, sym, subst, ◌∙◌}
use Rattle.std.proofs.lemmas.Int.{to_z-of_z}
use Rattle.ix_num.specs.Ints.{greatest_int}
use Rattle.ix_facts.specs.Bounds as spec
use Rattle.ix_facts.specs.Small.{IsEnd}
use Rattle.ix_fact_list.specs.NearNumbers.{number_at}
use Rattle.ix_fact_list.proofs.NearRaised.{range_high_small}
use Rattle.ix_fact_list.proofs.limits.NearEnds.high.Goals as goal

pub returns-in-Some-clause-small : goal.returns-in-Some-clause-small
returns-in-Some-clause-small g c =
    let all = g.G.Groups.all c.args.facts.now in
    let n = c.in-Some.high in
    let e : to_z w64 (of_z w64 n) ≡ spec.range_high all c.args.p.now = to_z-of_z w64 n (search rules) ∙ (c.in-Some.ensures.number ∙ (ap (λ l. number_at l greatest_int c.args.p.now) c.deref.ensures.value ∙ c.requires.ends.highs c.args.p.now c.in-Some.ensures.near)) in
    subst IsEnd (sym e) (range_high_small all c.args.p.now c.requires.small)
