use Rattle.std.proofs.Common.{◌∷◌, refl, sym, ◌∙◌}
use Rattle.std.proofs.lemmas.Bool.{false≢true}
use Rattle.ix_fact_table.specs.MeetLaws.{strong_covers, covers_strong}
use Rattle.ix_fact_table.proofs.WalksAlongBoth.{none_left, equal_key, comparing_lacks, comparing_past, comparing_both, comparing_fails, comparing_missing}
use Rattle.ix_fact_table.proofs.walks.behind_cover.Goals as goal

pub loop-fact-preserved : goal.loop-fact-preserved
loop-fact-preserved c =
    λ first second rest now.
    comparing_past first second c.loop-fact.rest.now (c.args.other.now ∷ rest) c.in-Some.fact.now c.in-Some.more.now c.args.other.now rest c.in-Some.ensures.cases.0 refl (sym c.compare_facts.ensures ∙ c.in-Less.is) (c.loop-fact.invariant first second rest now)

pub returns-in-Greater-clause-lacks : goal.returns-in-Greater-clause-lacks
returns-in-Greater-clause-lacks c =
    λ first second rest now.
    comparing_missing first second c.loop-fact.rest.now (c.args.other.now ∷ rest) c.in-Some.fact.now c.in-Some.more.now c.args.other.now rest c.in-Some.ensures.cases.0 refl (sym c.compare_facts.ensures ∙ c.in-Greater.is) (c.loop-fact.invariant first second rest now)

pub returns-then-not-is_as_strong-clause-lacks : goal.returns-then-not-is_as_strong-clause-lacks
returns-then-not-is_as_strong-clause-lacks c =
    λ first second rest now.
    comparing_fails first second c.loop-fact.rest.now (c.args.other.now ∷ rest) c.in-Some.fact.now c.in-Some.more.now c.args.other.now rest c.in-Some.ensures.cases.0 refl (sym c.compare_facts.ensures ∙ c.in-Equal.is)
    (λ covers. false≢true (sym c.if-not-is_as_strong.true ∙ (c.is_as_strong.ensures ∙ covers_strong c.in-Some.fact.now c.args.other.now covers))) (c.loop-fact.invariant first second rest now)

pub returns-in-Equal-clause-covered : goal.returns-in-Equal-clause-covered
returns-in-Equal-clause-covered c =
    λ first second rest now.
    let same = sym c.compare_facts.ensures ∙ c.in-Equal.is in
    comparing_both first second c.loop-fact.rest.now (c.args.other.now ∷ rest) c.in-Some.fact.now c.in-Some.more.now c.args.other.now rest c.in-Some.ensures.cases.0 refl same
    (strong_covers c.in-Some.fact.now c.args.other.now (equal_key c.in-Some.fact.now c.args.other.now same) (sym c.is_as_strong.ensures ∙ c.if-not-is_as_strong.false)) (c.loop-fact.invariant first second rest now)

pub returns-clause-lacks : goal.returns-clause-lacks
returns-clause-lacks c =
    λ first second rest now.
    comparing_lacks first second c.loop-fact.rest.now (c.args.other.now ∷ rest) c.args.other.now rest (none_left c.loop-fact.rest.now c.in_default.ensures.cases) refl (c.loop-fact.invariant first second rest now)
