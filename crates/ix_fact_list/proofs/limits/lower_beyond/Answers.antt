use Rattle.std.proofs.Common.{rules, ◌≡◌, ℕ, get_or, w64, to_z, of_z, subst}
use Rattle.std.proofs.lemmas.Int.{to_z-of_z}
use Rattle.ix_fact_list.proofs.NearRaised.{set_lowered}
use Rattle.ix_fact_list.proofs.limits.lower_beyond.Goals as goal

pub returns : goal.returns
returns c =
    let old = c.args.numbers.now.items in
    let reached = c.reach.new.numbers.items in
    let default : to_z w64 (of_z w64 c.args.default) ≡ c.args.default = to_z-of_z w64 c.args.default (search rules) in
    let same : (at : ℕ) → get_or reached at c.args.default ≡ get_or old at c.args.default = subst (λ d. (at : ℕ) → get_or reached at d ≡ get_or old at d) default c.in_ok-reach.ensures.same in
    set_lowered old reached c.args.default c.args.place c.args.high c.in_ok-reach.ensures.reached same _ (search rules)
