use Rattle.std.proofs.Common.{rules, ◌≡◌, pos, ◌+ℤ◌, ◌-ℤ◌, w32, w64, to_z, of_z, sym, subst, ◌∙◌}
use Rattle.std.proofs.lemmas.Int.{to_z-of_z}
use Rattle.ix_facts.specs.Bounds as spec
use Rattle.ix_facts.specs.Small.{IsLimit}
use Rattle.ix_fact_list.proofs.NearRaised.{low_of_less, low_of_length, limit_of_end, told_by}
use Rattle.ix_fact_list.proofs.limits.low_told.Goals as goal

pub returns-in-Less-clause-low : goal.returns-in-Less-clause-low
returns-in-Less-clause-low g c =
    let all = g.G.Groups.all c.args.facts.now in
    let a : to_z w64 (of_z w64 c.past.result) ≡ c.past.result = to_z-of_z w64 c.past.result (search rules) in
    let b : to_z w64 (of_z w64 c.low.result) ≡ c.low.result = to_z-of_z w64 c.low.result (search rules) in
    let d : to_z w64 (of_z w64 (to_z w32 (of_z w32 c.in-Less.c))) ≡ c.in-Less.c = search rules in
    let n : to_z w64 (of_z w64 c.past.result) ≡ spec.range_low all c.in-Less.q -ℤ c.in-Less.c +ℤ pos 1 =
    told_by (λ end k. end -ℤ k +ℤ pos 1) _ c.past.result _ c.low.result c.in-Less.c _ _ a c.past.ensures.value b c.low.ensures.value d in
    low_of_less all c.args.fact.now c.in-Less.q c.in-Less.r c.in-Less.c _ c.in-Less.is n

pub returns-in-IsLen-clause-low : goal.returns-in-IsLen-clause-low
returns-in-IsLen-clause-low g c =
    low_of_length (g.G.Groups.all c.args.facts.now) c.args.fact.now c.in-IsLen.r c.in-IsLen.a _ c.in-IsLen.is (to_z-of_z w64 c.length_low.result (search rules) ∙ c.length_low.ensures.value)

pub returns-in-IsLen-clause-small : goal.returns-in-IsLen-clause-small
returns-in-IsLen-clause-small g c =
    subst IsLimit (sym (to_z-of_z w64 c.length_low.result (search rules))) (limit_of_end c.length_low.result c.length_low.ensures.small)
