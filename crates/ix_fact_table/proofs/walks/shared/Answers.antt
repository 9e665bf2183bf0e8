use Rattle.std.proofs.Common.{inr}
use Rattle.ix_fact_table.proofs.WalksAlongBoth.{none_left, sharing_starts, sharing_ends}
use Rattle.ix_fact_table.proofs.walks.shared.Goals as goal

pub loop-other-init : goal.loop-other-init
loop-other-init c = rw c.in_ok-shared.ensures.items (sharing_starts c.args.first.now c.args.second.now c.requires.first c.requires.second)

pub loop-other-preserved : goal.loop-other-preserved
loop-other-preserved c =
    c.in_ok-mine.ensures.sharing c.args.first.now c.args.second.now c.in-Some.more.now (rw c.in-Some.ensures.cases.0 at c.loop-other.invariant)

pub returns : goal.returns
returns c =
    let ends = sharing_ends c.args.first.now c.args.second.now c.loop-other.mine.now c.loop-other.theirs.now c.loop-other.shared.items (inr (none_left c.loop-other.theirs.now c.in_default.ensures.cases)) c.loop-other.invariant in
    record { shared = ends.0; rises = ends.1 }
