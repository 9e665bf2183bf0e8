use Rattle.std.specs.Prelude.{pos}
use Rattle.std.proofs.Common.{add-one, subst}
use Rattle.std.proofs.Math.Seq.{take-suc}
use Rattle.std.proofs.lemmas.List.{take_all}
use Rattle.ix_core.specs.declared.fact.Path.TheVariants.{Slot}
use Rattle.ix_core.specs.declared.fact.Fact.TheVariants.{Rng}
use Rattle.ix_fact_table.specs.Piles.{ArePiles}
use Rattle.ix_fact_table.proofs.PiledFacts.{no_piles}
use Rattle.ix_fact_table.proofs.KeySearches.{in_place}
use Rattle.ix_fact_table.proofs.insertion.piles.Goals as goal

pub loop-fact-init : goal.loop-fact-init
loop-fact-init c = rw (c.in_ok-first.ensures.items, c.new-second.ensures.items) (no_piles c.args.kind)

pub pile_entry-requires : goal.pile_entry-requires
pile_entry-requires c =
    let k = c.loop-fact.fact-index in
    let none = Rng (Slot 0) (pos 0) (pos 0) in
    record {
      class = c.requires.classes _ (in_place c.args.facts.now k none c.loop-fact-test.true);
      first = c.loop-fact.invariant.first_form;
      second = c.loop-fact.invariant.second_form;
    }

pub loop-fact-preserved : goal.loop-fact-preserved
loop-fact-preserved c =
    let k = c.loop-fact.fact-index in
    let none = Rng (Slot 0) (pos 0) (pos 0) in
    rw (add-one, take-suc c.args.facts.now k none c.loop-fact-test.true) (c.in_ok-pile_entry.ensures.piles _ c.loop-fact.invariant)

pub returns : goal.returns
returns c = record { piles = subst (λ l. ArePiles c.args.kind l c.loop-fact.first.items c.loop-fact.second.items) (take_all c.loop-fact.fact-index c.args.facts.now c.loop-fact-test.false) c.loop-fact.invariant }
