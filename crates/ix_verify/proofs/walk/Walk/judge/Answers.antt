use Rattle.std.proofs.lemmas.Result.{on_ok_weaker}
use Rattle.ix_store.specs.StoredFacts.{stored}
use Rattle.ix_verify.proofs.Labels.{judged}
use Rattle.ix_verify.proofs.walk.Walk.judge.Goals as goal

pub returns : goal.returns
returns c =
    on_ok_weaker c.note.result
    (λ is. judged c.args.self.now c.args.loop_number c.args.scope (stored c.args.entry.now) (stored c.args.back.now) (stored c.in_ok-joined.joined) c.args.failed.now.items c.note.new.failed.items c.in_ok-holds.holds c.in_ok-joined.ensures c.in_ok-holds.ensures is)
    c.note.ensures
