use Rattle.std.proofs.Common.{ap, subst}
use Rattle.std.proofs.lemmas.Result.{IfOk-weaker}
use Rattle.ix_front.specs.Found.{Found}
use Rattle.ix_front.specs.Findings.{seen}
use Rattle.ix_replies.specs.Replies.{shown}
use Rattle.ix_commands.proofs.Answered.{status_is, at_limit, rejected}
use Rattle.ix_commands.proofs.guarding.guarded_reply.Goals as goal

pub returns-in-TooLong-clause-safe : goal.returns-in-TooLong-clause-safe
returns-in-TooLong-clause-safe c = IfOk-weaker c.too_long_reply.result _ _ (λ reply is done. absurd (at_limit (shown reply) (status_is (shown reply) _ is) done)) c.too_long_reply.ensures

pub returns-in-Broken-clause-safe : goal.returns-in-Broken-clause-safe
returns-in-Broken-clause-safe c = IfOk-weaker c.broken_reply.result _ _ (λ reply is done. absurd (rejected (shown reply) (status_is (shown reply) _ is) done)) c.broken_reply.ensures

pub returns-in-Past-clause-safe : goal.returns-in-Past-clause-safe
returns-in-Past-clause-safe c = IfOk-weaker c.past_reply.result _ _ (λ reply is done. absurd (at_limit (shown reply) (status_is (shown reply) _ is) done)) c.past_reply.ensures

pub returns-in-Misnamed-clause-safe : goal.returns-in-Misnamed-clause-safe
returns-in-Misnamed-clause-safe c = IfOk-weaker c.misnamed_reply.result _ _ (λ reply is done. absurd (rejected (shown reply) (status_is (shown reply) _ is) done)) c.misnamed_reply.ensures

pub written_reply-requires-clause-found : goal.written_reply-requires-clause-found
written_reply-requires-clause-found c = subst (Found c.args.text.items) (ap seen c.in-Whole.is) c.requires.found
