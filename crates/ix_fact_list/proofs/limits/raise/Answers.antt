use Rattle.std.proofs.Common.{rules, ◌≡◌, get_or, nat_eq, Some, w64, to_z, of_z, ap, subst, ◌∙◌}
use Rattle.std.proofs.lemmas.Int.{to_z-of_z}
use Rattle.std.proofs.lemmas.Result.{on_ok_weaker}
use Rattle.ix_facts.specs.Bounds.{at_least, when}
use Rattle.ix_fact_list.proofs.NearRaised.{raised, raised_small}
use Rattle.ix_fact_list.proofs.limits.raise.Goals as goal

pub returns-in-Some-clause-raised : goal.returns-in-Some-clause-raised
returns-in-Some-clause-raised c =
    let old = c.args.numbers.now.items in
    let new = c.raise_at.new.numbers.items in
    let near = c.in-Some.ensures.near in
    let default : to_z w64 (of_z w64 c.args.default) ≡ c.args.default = to_z-of_z w64 c.args.default (search rules) in
    let number : to_z w64 (of_z w64 c.args.low) ≡ c.args.low = to_z-of_z w64 c.args.low (search rules) in
    on_ok_weaker c.raise_at.result
    (λ put. raised old new c.args.default c.args.p.now c.args.low near.0
    (λ at. subst (λ d. get_or new at d ≡ at_least (get_or old at d) (when (nat_eq c.in-Some.place at) (Some (to_z w64 (of_z w64 c.args.low))))) default (put at)
    ∙ (ap (λ n. at_least (get_or old at c.args.default) (when (nat_eq c.in-Some.place at) (Some n))) number ∙ ap (λ k. at_least (get_or old at c.args.default) (when (nat_eq k at) (Some c.args.low))) near.1))) c.raise_at.ensures

pub returns-in-Some-clause-small : goal.returns-in-Some-clause-small
returns-in-Some-clause-small c =
    let old = c.args.numbers.now.items in
    let new = c.raise_at.new.numbers.items in
    let default : to_z w64 (of_z w64 c.args.default) ≡ c.args.default = to_z-of_z w64 c.args.default (search rules) in
    let number : to_z w64 (of_z w64 c.args.low) ≡ c.args.low = to_z-of_z w64 c.args.low (search rules) in
    on_ok_weaker c.raise_at.result
    (λ put. raised_small old new c.args.default c.in-Some.place c.args.low
    (λ at. subst (λ d. get_or new at d ≡ at_least (get_or old at d) (when (nat_eq c.in-Some.place at) (Some (to_z w64 (of_z w64 c.args.low))))) default (put at)
    ∙ ap (λ n. at_least (get_or old at c.args.default) (when (nat_eq c.in-Some.place at) (Some n))) number)) c.raise_at.ensures
