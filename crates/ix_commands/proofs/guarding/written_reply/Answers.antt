use Rattle.std.proofs.Common.{◌≡◌, ◌∙◌, ℕ, List, ap, sym, subst}
use Rattle.ix_core.specs.declared.error.Error.{Error}
use Rattle.ix_front.specs.Found.{Found, Whole}
use Rattle.ix_replies.specs.Answer.{Answer}
use Rattle.ix_replies.specs.declared.status.Status.{Status}
use Rattle.ix_replies.specs.declared.status.Status.TheVariants.{Done}
use Rattle.ix_commands.specs.Answers.{guard_status}
use Rattle.ix_commands.proofs.GuardsAnswered.{guard_done}
use Rattle.ix_commands.proofs.guarding.written_reply.Goals as goal

pub returns-clause-safe : goal.returns-clause-safe
returns-clause-safe c = λ done.
    let errors = c.in_ok-errors.errors.items in
    let is = c.on_bytes.ensures in
    let status : guard_status errors ≡ Done =
    ap guard_status (sym c.deref.ensures.value) ∙ (sym c.guard_status.ensures ∙ (sym (ap (λ (a : Answer). a.status) is) ∙ done)) in
    record {
      program = c.args.program.now;
      found = subst (λ (t : List ℕ). Found t (Whole c.args.program.now)) (sym (ap (λ (a : Answer). a.out) is)) c.requires.found;
      safe = c.in_ok-errors.ensures.safe (guard_done errors status);
    }
