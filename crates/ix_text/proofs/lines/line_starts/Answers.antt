use Rattle.std.proofs.Common.{sym, ap, ◌∙◌}
use Rattle.ix_text.proofs.LineStarts.{starts_with, starts_without}
use Rattle.ix_text.proofs.lines.line_starts.Goals.{then-starts_line+in_ok-push, else-starts_line}
use Rattle.ix_text.proofs.lines.line_starts.Goals as goal

pub loop-at-preserved : goal.loop-at-preserved
loop-at-preserved c = elim c.if-starts_line.branch [
  | then-starts_line+in_ok-push w ↦ starts_with c.args.text.now c.loop-at.starts.items c.if-starts_line.starts.items c.loop-at.at c.loop-at.invariant (sym c.starts_line.ensures ∙ w.if-starts_line.true) (ap (λ v. v.items) w.starts-is ∙ w.in_ok-push.ensures.items)
  | else-starts_line w ↦ ap (λ v. v.items) w.starts-is ∙ starts_without c.args.text.now c.loop-at.starts.items c.loop-at.at c.loop-at.invariant (sym c.starts_line.ensures ∙ w.if-starts_line.false)
]
