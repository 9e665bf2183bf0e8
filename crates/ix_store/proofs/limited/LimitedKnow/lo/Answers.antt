use Rattle.std.proofs.Common.{rules, ◌≡◌, w64, to_z, of_z, ap, sym, subst, ◌∙◌}
use Rattle.std.proofs.lemmas.Int.{to_z-of_z}
use Rattle.ix_num.specs.Ints.{least_int}
use Rattle.ix_facts.specs.Bounds.{lower_bound}
use Rattle.ix_facts.specs.Facts.{in_orders}
use Rattle.ix_facts.specs.Small.{IsBound}
use Rattle.ix_fact_paths.specs.ByPath.{near_place}
use Rattle.ix_fact_list.specs.NearNumbers.{number_at}
use Rattle.ix_fact_list.proofs.NearRaised.{bound_of_limit}
use Rattle.ix_store.specs.StoredFacts.{facts_in}
use Rattle.ix_store.proofs.limited.LimitedKnow.lo.Goals as goal

pub returns-in-Some-clause-bound : goal.returns-in-Some-clause-bound
returns-in-Some-clause-bound c =
    to_z-of_z w64 c.in-Some.low (search rules) ∙ (c.in-Some.ensures.low ∙ (c.self.invariant.lows c.args.p.now c.in-Some.ensures.near
    ∙ ap (λ known. lower_bound (in_orders (facts_in known)) c.args.p.now) c.self.view_is))

pub returns-in-Some-clause-small : goal.returns-in-Some-clause-small
returns-in-Some-clause-small c =
    let numbers = c.self.inside.limits.lows.items in
    let e : to_z w64 (of_z w64 c.in-Some.low) ≡ number_at numbers least_int c.args.p.now = to_z-of_z w64 c.in-Some.low (search rules) ∙ c.in-Some.ensures.low in
    subst IsBound (sym e) (bound_of_limit (number_at numbers least_int c.args.p.now) (c.self.invariant.small_lows (near_place c.args.p.now)))

pub returns-in-None-clause-bound : goal.returns-in-None-clause-bound
returns-in-None-clause-bound c = to_z-of_z w64 c.lo.result (search rules) ∙ (c.lo.ensures.bound ∙ ap (λ known. lower_bound (in_orders (facts_in known)) c.args.p.now) c.self.view_is)
