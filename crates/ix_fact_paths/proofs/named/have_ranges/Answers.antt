use Rattle.std.proofs.Common.{inl, inr, sym, ◌∙◌, ⊎_elim}
use Rattle.ix_facts.specs.Exact.{ints_of}
use Rattle.ix_fact_paths.specs.NamedLaws.{names_it}
use Rattle.ix_fact_paths.proofs.PartsNamed.{in_place, none_left}
use Rattle.ix_fact_paths.proofs.named.have_ranges.Goals as goal

pub loop-fact-preserved : goal.loop-fact-preserved
loop-fact-preserved c p i =
    ⊎_elim
    (λ j. ⊎_elim (λ k. inl k) (λ k. inr (names_it ints_of p c.args.facts.now _ (in_place c.args.facts.now c.loop-fact.fact-index _ c.loop-fact-test.true) k)) (c.behind_range-rest.ensures p j))
    (λ j. inr j)
    (c.loop-fact.invariant p i)

pub returns-then-is_empty : goal.returns-then-is_empty
returns-then-is_empty c t p i = ⊎_elim (λ j. absurd (none_left c.loop-fact.rest.now p (sym c.is_empty.ensures ∙ c.if-is_empty.true) j)) (λ j. j) (c.loop-fact.invariant p i)

pub returns : goal.returns
returns c t p i = ⊎_elim (λ j. absurd (none_left c.loop-fact.rest.now p (sym c.is_empty-2.ensures ∙ t) j)) (λ j. j) (c.loop-fact.invariant p i)
