use Rattle.std.proofs.lemmas.Bool.{false≢true}
use Rattle.ix_fact_table.proofs.WalksAlongBoth.{comparing_skipped, comparing_starts}
use Rattle.ix_fact_table.proofs.walks.covers_all.Goals as goal

pub loop-other-init : goal.loop-other-init
loop-other-init c = comparing_starts c.args.first.now c.args.second.now c.requires.first c.requires.second

pub skipped-requires : goal.skipped-requires
skipped-requires c = record { rises = c.loop-other.invariant.mine_rise }

pub loop-other-preserved : goal.loop-other-preserved
loop-other-preserved c =
    let is = c.in-Some.ensures.cases.0 in
    let past = comparing_skipped c.args.first.now c.args.second.now c.loop-other.mine.now c.loop-other.theirs.now c.skipped.result.now c.in-Some.other.now c.in-Some.more.now is c.skipped.ensures.run c.loop-other.invariant in
    c.in-Some-behind_cover.ensures.covered c.args.first.now c.args.second.now c.in-Some.more.now (rw is at past)

pub returns-in_default-behind_cover : goal.returns-in_default-behind_cover
returns-in_default-behind_cover c =
    let is = c.in-Some.ensures.cases.0 in
    let past = comparing_skipped c.args.first.now c.args.second.now c.loop-other.mine.now c.loop-other.theirs.now c.skipped.result.now c.in-Some.other.now c.in-Some.more.now is c.skipped.ensures.run c.loop-other.invariant in
    let lacks = c.in_default-behind_cover.ensures.lacks c.args.first.now c.args.second.now c.in-Some.more.now (rw is at past) in
    record { covered = (λ t. absurd (false≢true t), λ all. absurd (lacks all)) }
