use Rattle.std.proofs.Common.{rules, ◌≡◌, get_or, nat_eq, Some, w64, to_z, of_z, ap, subst, ◌∙◌}
use Rattle.std.proofs.lemmas.Int.{to_z-of_z}
use Rattle.std.proofs.lemmas.Result.{on_ok_weaker}
use Rattle.ix_num.specs.Ints.{greatest_int}
use Rattle.ix_facts.specs.Bounds.{at_least, at_most, when}
use Rattle.ix_fact_list.proofs.NearRaised.{raised, lowered}
use Rattle.ix_fact_list.proofs.limits.put_range.Goals as goal

pub returns-in_ok-raise_at-in-Some-clause-raised : goal.returns-in_ok-raise_at-in-Some-clause-raised
returns-in_ok-raise_at-in-Some-clause-raised c =
    let old = c.args.lows.now.items in
    let new = c.raise_at.new.numbers.items in
    let near = c.in-Some.ensures.near in
    let default : to_z w64 (of_z w64 c.args.default) ≡ c.args.default = to_z-of_z w64 c.args.default (search rules) in
    let number : to_z w64 (of_z w64 c.args.low) ≡ c.args.low = to_z-of_z w64 c.args.low (search rules) in
    let put = c.in_ok-raise_at-in-Some.ensures in
    let all = raised old new c.args.default c.args.p.now c.args.low near.0
    (λ at. subst (λ d. get_or new at d ≡ at_least (get_or old at d) (when (nat_eq c.in-Some.place at) (Some (to_z w64 (of_z w64 c.args.low))))) default (put at)
    ∙ (ap (λ n. at_least (get_or old at c.args.default) (when (nat_eq c.in-Some.place at) (Some n))) number ∙ ap (λ k. at_least (get_or old at c.args.default) (when (nat_eq k at) (Some c.args.low))) near.1)) in
    on_ok_weaker c.lower_at.result (λ _. all) c.lower_at.ensures

pub returns-in_ok-raise_at-in-Some-clause-lowered : goal.returns-in_ok-raise_at-in-Some-clause-lowered
returns-in_ok-raise_at-in-Some-clause-lowered c =
    let old = c.args.highs.now.items in
    let new = c.lower_at.new.numbers.items in
    let near = c.in-Some.ensures.near in
    let number : to_z w64 (of_z w64 c.args.high) ≡ c.args.high = to_z-of_z w64 c.args.high (search rules) in
    on_ok_weaker c.lower_at.result
    (λ put. lowered old new greatest_int c.args.p.now c.args.high near.0
    (λ at. put at
    ∙ (ap (λ n. at_most (get_or old at greatest_int) (when (nat_eq c.in-Some.place at) (Some n))) number ∙ ap (λ k. at_most (get_or old at greatest_int) (when (nat_eq k at) (Some c.args.high))) near.1))) c.lower_at.ensures
