use Rattle.std.specs.Prelude.{pos}
use Rattle.std.proofs.Common.{◌≡◌, ◌∷◌, ◌++◌, ◌+◌, drop, get_or, add-one, ap, sym, ◌∙◌}
use Rattle.std.proofs.Math.Seq.{drop-cons}
use Rattle.std.proofs.lemmas.List.{append-nil, drop_all}
use Rattle.ix_core.specs.declared.fact.Path.TheVariants.{Slot}
use Rattle.ix_core.specs.declared.fact.Fact.TheVariants.{Rng}
use Rattle.ix_fact_table.specs.Links.{links}
use Rattle.ix_fact_table.proofs.links.length_links.Goals as goal

pub loop-fact-preserved : goal.loop-fact-preserved
loop-fact-preserved c =
    let facts = c.args.facts.now in
    let k = c.loop-fact.fact-index in
    let none = Rng (Slot 0) (pos 0) (pos 0) in
    let at : drop k facts ≡ get_or facts k none ∷ drop (k + 1) facts = rw add-one (drop-cons facts k none c.loop-fact-test.true) in
    c.in_ok-push_link.ensures (drop (k + 1) facts) ∙ (ap (λ l. c.loop-fact.found.items ++ links c.loop-fact.firsts.items l) (sym at) ∙ c.loop-fact.invariant)

pub returns : goal.returns
returns c =
    let found = c.loop-fact.found.items in
    record { links = sym (append-nil found) ∙ (ap (λ l. found ++ links c.loop-fact.firsts.items l) (sym (drop_all c.loop-fact.fact-index c.args.facts.now c.loop-fact-test.false)) ∙ c.loop-fact.invariant) }
