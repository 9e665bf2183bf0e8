use Rattle.std.proofs.Common.{rules, ◌≡◌, Some, w64, to_z, of_z, ap, sym, subst, ◌∙◌}
use Rattle.std.proofs.lemmas.Int.{to_z-of_z}
use Rattle.std.proofs.lemmas.Result.{on_ok_weaker}
use Rattle.ix_num.specs.Ints.{least_int}
use Rattle.ix_facts.specs.Bounds.{is_path, when, lower_by}
use Rattle.ix_facts.specs.Small.{IsLimit}
use Rattle.ix_fact_list.proofs.NearRaised.{raised_as}
use Rattle.ix_fact_list.proofs.limits.put_low.Goals as goal

pub returns-in-Some-clause-raised : goal.returns-in-Some-clause-raised
returns-in-Some-clause-raised g c =
    let all = g.G.Groups.all c.args.facts.now in
    let number : to_z w64 (of_z w64 c.in-Some.low) ≡ c.in-Some.low = to_z-of_z w64 c.in-Some.low (search rules) in
    on_ok_weaker c.raise.result
    (raised_as c.args.lows.now.items c.raise.new.numbers.items least_int (λ q. when (is_path c.in-Some.p q) (Some (to_z w64 (of_z w64 c.in-Some.low)))) (λ q. lower_by all q c.args.fact.now)
    (λ q. ap (λ n. when (is_path c.in-Some.p q) (Some n)) number ∙ c.in-Some.ensures.low q)) c.raise.ensures.raised

pub returns-in-Some-clause-small : goal.returns-in-Some-clause-small
returns-in-Some-clause-small g c =
    let number : to_z w64 (of_z w64 c.in-Some.low) ≡ c.in-Some.low = to_z-of_z w64 c.in-Some.low (search rules) in
    on_ok_weaker c.raise.result (λ kept. kept (subst IsLimit (sym number) c.in-Some.ensures.small)) c.raise.ensures.small
