use Rattle.std.proofs.Common.{rules, ap, ◌≡◌, pos, ◌+ℤ◌, ◌-ℤ◌, w32, w64, to_z, of_z, sym, subst, ◌∙◌}
use Rattle.std.proofs.lemmas.Int.{to_z-of_z}
use Rattle.ix_core.specs.declared.fact.PathOff.TheVariants.{Nothing}
use Rattle.ix_core.specs.declared.fact.Fact.TheVariants.{Upper}
use Rattle.ix_facts.specs.Bounds as spec
use Rattle.ix_facts.specs.Small.{IsLimit}
use Rattle.ix_fact_list.proofs.NearRaised.{high_of_less, high_of_upper, high_of_length, limit_of_end, told_by}
use Rattle.ix_fact_list.proofs.limits.high_told.Goals as goal

pub returns-in-Less-clause-high : goal.returns-in-Less-clause-high
returns-in-Less-clause-high g c =
    let all = g.G.Groups.all c.args.facts.now in
    let a : to_z w64 (of_z w64 c.short_of.result) ≡ c.short_of.result = to_z-of_z w64 c.short_of.result (search rules) in
    let b : to_z w64 (of_z w64 c.high.result) ≡ c.high.result = to_z-of_z w64 c.high.result (search rules) in
    let d : to_z w64 (of_z w64 (to_z w32 (of_z w32 c.in-Less.c))) ≡ c.in-Less.c = search rules in
    let n : to_z w64 (of_z w64 c.short_of.result) ≡ spec.range_high all c.in-Less.r +ℤ c.in-Less.c -ℤ pos 1 =
    told_by (λ end k. end +ℤ k -ℤ pos 1) _ c.short_of.result _ c.high.result c.in-Less.c _ _ a c.short_of.ensures.value b c.high.ensures.value d in
    high_of_less all c.args.fact.now c.in-Less.q c.in-Less.r c.in-Less.c _ c.in-Less.is n

pub returns-in-Upper-default-default-Nothing-default-clause-high :
    goal.returns-in-Upper-default-default-Nothing-default-clause-high
returns-in-Upper-default-default-Nothing-default-clause-high g c =
    let all = g.G.Groups.all c.args.facts.now in
    let r = c.in-Upper-default-default-Nothing-default.r in
    let array = c.in-Upper-default-default-Nothing-default.a in
    let bound = c.in-Upper-default-default-Nothing-default.c in
    let is = c.in-Upper-default-default-Nothing-default.is in
    let nothing : c.in-Upper-default-default-Nothing-default.field-2 ≡ Nothing = rw is at c.in-Upper-default-default-Nothing-default.field-2-is in
    let upper : c.args.fact.now ≡ Upper r array Nothing bound = is ∙ ap (λ x. Upper r array x bound) nothing in
    let a : to_z w64 (of_z w64 c.within.result) ≡ c.within.result = to_z-of_z w64 c.within.result (search rules) in
    let b : to_z w64 (of_z w64 c.length_high.result) ≡ c.length_high.result = to_z-of_z w64 c.length_high.result (search rules) in
    let d : to_z w64 (of_z w64 (to_z w32 (of_z w32 bound))) ≡ bound = search rules in
    let n : to_z w64 (of_z w64 c.within.result) ≡ spec.length_high all array -ℤ pos 1 -ℤ bound =
    told_by (λ end k. end -ℤ pos 1 -ℤ k) _ c.within.result _ c.length_high.result bound _ _ a c.within.ensures.value b c.length_high.ensures.value d in
    high_of_upper all c.args.fact.now r array bound _ upper n

pub returns-in-IsLen-clause-high : goal.returns-in-IsLen-clause-high
returns-in-IsLen-clause-high g c =
    high_of_length (g.G.Groups.all c.args.facts.now) c.args.fact.now c.in-IsLen.r c.in-IsLen.a _ c.in-IsLen.is (to_z-of_z w64 c.length_high-in-IsLen.result (search rules) ∙ c.length_high-in-IsLen.ensures.value)

pub returns-in-IsLen-clause-small : goal.returns-in-IsLen-clause-small
returns-in-IsLen-clause-small g c =
    subst IsLimit (sym (to_z-of_z w64 c.length_high-in-IsLen.result (search rules))) (limit_of_end c.length_high-in-IsLen.result c.length_high-in-IsLen.ensures.small)
