use Rattle.std.proofs.Common.{◌∙◌, ap}
use Rattle.std.proofs.lemmas.Result.{IfOk-weaker}
use Rattle.ix_replies.specs.Said.{bench_verdict}
use Rattle.ix_commands.proofs.answering.workload_reply.Goals as goal

pub returns : goal.returns
returns c =
    IfOk-weaker c.bench_reply.result _ _
    (λ reply is cert. (c.in_ok-errors.errors.items, c.in_ok-errors.ensures.errors, is ∙ ap (bench_verdict c.args.count c.args.program.now) c.deref.ensures.value)) c.bench_reply.ensures
