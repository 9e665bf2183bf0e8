use Rattle.std.specs.Prelude.{pos}
use Rattle.std.proofs.Common.{[], ◌∷◌, get_or, refl}
use Rattle.ix_core.specs.declared.fact.Path.TheVariants.{Slot}
use Rattle.ix_core.specs.declared.fact.Fact.TheVariants.{Rng}
use Rattle.ix_text.proofs.Walked.{next_or, none_left}
use Rattle.ix_facts.specs.Closure.{kept}
use Rattle.ix_intervals.specs.KeptLaws.{kept_joined}
use Rattle.ix_store.proofs.facts_after.kept_facts.Goals as goal

pub loop-fact-preserved : goal.loop-fact-preserved
loop-fact-preserved c =
    let none = Rng (Slot 0) (pos 0) (pos 0) in
    let fact = get_or c.args.facts.now c.loop-fact.fact-index none in
    next_or (λ _. kept) c.args.facts.now c.loop-fact.fact-index none _ _ _ _ c.loop-fact-test.true (kept_joined (fact ∷ [])) c.in_ok-push_kept.ensures c.loop-fact.invariant

pub returns : goal.returns
returns c = record { facts = none_left (λ _. kept) c.args.facts.now c.loop-fact.fact-index _ _ c.loop-fact-test.false refl c.loop-fact.invariant }
