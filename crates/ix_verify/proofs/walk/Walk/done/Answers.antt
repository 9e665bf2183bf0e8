use Rattle.std.proofs.lemmas.Result.{IfOk-weaker}
use Rattle.ix_store.specs.StoredFacts.{stored}
use Rattle.ix_verify.proofs.Lists.{exactly_to}
use Rattle.ix_verify.proofs.Stores.{after_least}
use Rattle.ix_verify.proofs.walk.Walk.done.Goals as goal

pub returns-clause-errors : goal.returns-clause-errors
returns-clause-errors c = IfOk-weaker c.after.result _ _ (λ _ _. exactly_to _ _ _ c.in_ok-push_op_errors.ensures.errors) c.after.ensures.least

pub returns-clause-least : goal.returns-clause-least
returns-clause-least c =
    let walk = c.args.self.now in
    IfOk-weaker c.after.result _ _ (λ after least. after_least walk.program.now walk.within.now walk.profile c.args.op.now (stored c.args.before.now) (stored after) least) c.after.ensures.least
