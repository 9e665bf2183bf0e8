use Rattle.std.proofs.Common.{rules, ◌≡◌, get_or, nat_eq, Some, w64, to_z, of_z, ap, subst, ◌∙◌}
use Rattle.std.proofs.lemmas.Int.{to_z-of_z}
use Rattle.std.proofs.lemmas.Result.{on_ok_weaker}
use Rattle.ix_facts.specs.Bounds.{at_most, when}
use Rattle.ix_fact_list.proofs.NearRaised.{lowered, lowered_small}
use Rattle.ix_fact_list.proofs.limits.lower.Goals as goal

pub returns-in-Some-clause-lowered : goal.returns-in-Some-clause-lowered
returns-in-Some-clause-lowered c =
    let old = c.args.numbers.now.items in
    let new = c.lower_at.new.numbers.items in
    let near = c.in-Some.ensures.near in
    let default : to_z w64 (of_z w64 c.args.default) ≡ c.args.default = to_z-of_z w64 c.args.default (search rules) in
    let number : to_z w64 (of_z w64 c.args.high) ≡ c.args.high = to_z-of_z w64 c.args.high (search rules) in
    on_ok_weaker c.lower_at.result
    (λ put. lowered old new c.args.default c.args.p.now c.args.high near.0
    (λ at. subst (λ d. get_or new at d ≡ at_most (get_or old at d) (when (nat_eq c.in-Some.place at) (Some (to_z w64 (of_z w64 c.args.high))))) default (put at)
    ∙ (ap (λ n. at_most (get_or old at c.args.default) (when (nat_eq c.in-Some.place at) (Some n))) number ∙ ap (λ k. at_most (get_or old at c.args.default) (when (nat_eq k at) (Some c.args.high))) near.1))) c.lower_at.ensures

pub returns-in-Some-clause-small : goal.returns-in-Some-clause-small
returns-in-Some-clause-small c =
    let old = c.args.numbers.now.items in
    let new = c.lower_at.new.numbers.items in
    let default : to_z w64 (of_z w64 c.args.default) ≡ c.args.default = to_z-of_z w64 c.args.default (search rules) in
    let number : to_z w64 (of_z w64 c.args.high) ≡ c.args.high = to_z-of_z w64 c.args.high (search rules) in
    on_ok_weaker c.lower_at.result
    (λ put. lowered_small old new c.args.default c.in-Some.place c.args.high
    (λ at. subst (λ d. get_or new at d ≡ at_most (get_or old at d) (when (nat_eq c.in-Some.place at) (Some (to_z w64 (of_z w64 c.args.high))))) default (put at)
    ∙ ap (λ n. at_most (get_or old at c.args.default) (when (nat_eq c.in-Some.place at) (Some n))) number)) c.lower_at.ensures
