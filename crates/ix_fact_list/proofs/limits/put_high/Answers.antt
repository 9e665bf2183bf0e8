use Rattle.std.proofs.Common.{rules, ◌≡◌, Some, w64, to_z, of_z, ap, sym, subst, ◌∙◌}
use Rattle.std.proofs.lemmas.Int.{to_z-of_z}
use Rattle.std.proofs.lemmas.Result.{on_ok_weaker}
use Rattle.ix_num.specs.Ints.{greatest_int}
use Rattle.ix_facts.specs.Bounds.{is_path, when, limit_by}
use Rattle.ix_facts.specs.Small.{IsLimit}
use Rattle.ix_fact_list.proofs.NearRaised.{lowered_as}
use Rattle.ix_fact_list.proofs.limits.put_high.Goals as goal

pub returns-in-Some-clause-lowered : goal.returns-in-Some-clause-lowered
returns-in-Some-clause-lowered g c =
    let all = g.G.Groups.all c.args.facts.now in
    let number : to_z w64 (of_z w64 c.in-Some.high) ≡ c.in-Some.high = to_z-of_z w64 c.in-Some.high (search rules) in
    on_ok_weaker c.lower.result
    (lowered_as c.args.highs.now.items c.lower.new.numbers.items greatest_int (λ q. when (is_path c.in-Some.p q) (Some (to_z w64 (of_z w64 c.in-Some.high)))) (λ q. limit_by all q c.args.fact.now)
    (λ q. ap (λ n. when (is_path c.in-Some.p q) (Some n)) number ∙ c.in-Some.ensures.high q)) c.lower.ensures.lowered

pub returns-in-Some-clause-small : goal.returns-in-Some-clause-small
returns-in-Some-clause-small g c =
    let number : to_z w64 (of_z w64 c.in-Some.high) ≡ c.in-Some.high = to_z-of_z w64 c.in-Some.high (search rules) in
    on_ok_weaker c.lower.result (λ kept. kept (subst IsLimit (sym number) c.in-Some.ensures.small)) c.lower.ensures.small
