use Rattle.std.proofs.Common.{add-one, ◌≡◌, ◌∷◌, ◌++◌, ◌+◌, drop, slice_index_or, pos, subst}
use Rattle.std.proofs.Math.Seq.{drop-cons}
use Rattle.ix_core.specs.declared.fact.Path.TheVariants.{Slot}
use Rattle.ix_core.specs.declared.fact.Fact.TheVariants.{Rng}
use Rattle.ix_fact_paths.specs.ByPath.{facts_at, on_it}
use Rattle.ix_fact_paths.proofs.Added.{next_put}
use Rattle.ix_fact_paths.proofs.by_slot.Places.of.Goals as goal

pub loop-fact-preserved : goal.loop-fact-preserved
loop-fact-preserved c =
    let k = c.loop-fact.fact-index in
    let facts = c.args.facts.now in
    let none = Rng (Slot 0) (pos 0) (pos 0) in
    let fact = slice_index_or facts k none in
    let here : drop k facts ≡ fact ∷ drop (k + 1) facts = rw add-one (drop-cons facts k none c.loop-fact-test.true) in
    λ x.
    next_put x fact (facts_at c.loop-fact.places x) (facts_at c.put_fact.new.self x) (drop (k + 1) facts) (on_it x facts) (c.in_ok-put_fact.ensures x)
    (subst (λ l. facts_at c.loop-fact.places x ++ on_it x l ≡ on_it x facts) here (c.loop-fact.invariant x))
