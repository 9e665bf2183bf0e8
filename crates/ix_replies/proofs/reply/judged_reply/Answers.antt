use Rattle.std.proofs.Common.{rules, sym, ◌∙◌, ap}
use Rattle.ix_replies.specs.Answer.{out_answer}
use Rattle.ix_replies.specs.declared.status.Status.TheVariants.{Rejected}
use Rattle.ix_replies.proofs.Verdicts.{verdict_rejected}
use Rattle.ix_replies.proofs.reply.judged_reply.Goals as goal

pub returns : goal.returns
returns c =
    c.on_out-2.ensures ∙ ap (out_answer Rejected) (rw (sym c.in_ok-lines.ensures) c.in_ok-out-2.ensures) ∙ sym (verdict_rejected c.args.name.now c.args.bytes.now c.args.program.now c.args.errors.now (search rules))
