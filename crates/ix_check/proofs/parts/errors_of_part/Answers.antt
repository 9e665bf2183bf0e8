use Rattle.std.proofs.Common.{◌≡◌, ◌∙◌, ◌+◌, ap, sym, subst}
use Rattle.ix_core.specs.Tables.{method_at}
use Rattle.ix_errors.specs.Exactly.{AreExactly}
use Rattle.ix_check.specs.Parts.{is_of_part, IsErrorOfPart}
use Rattle.ix_check.proofs.TwoParts.{with_method, past_method}
use Rattle.ix_check.proofs.parts.errors_of_part.Goals.{then-is_of_part+in_ok-found+in_ok-append, else-is_of_part}
use Rattle.ix_check.proofs.parts.errors_of_part.Goals as goal

pub loop-number-preserved : goal.loop-number-preserved
loop-number-preserved g c =
    let program = c.args.program.now in
    let number = c.loop-number.number in
    let here : is_of_part c.args.before c.args.place (method_at program number) ≡ c.is_of_part.result = sym (c.is_of_part.ensures ∙ ap (is_of_part c.args.before c.args.place) c.method_of.ensures) in
    elim c.if-is_of_part.branch [
      | then-is_of_part+in_ok-found+in_ok-append w ↦
          with_method c.args.before c.args.place program c.args.profile number c.loop-number.out.items w.in_ok-found.found.items c.if-is_of_part.out.items (here ∙ w.if-is_of_part.true) c.loop-number.invariant w.in_ok-found.ensures.errors
          (ap (λ v. v.items) w.out-is ∙ w.in_ok-append.ensures.items)
      | else-is_of_part w ↦
          subst (AreExactly (IsErrorOfPart c.args.before c.args.place program c.args.profile (number + 1))) (sym (ap (λ v. v.items) w.out-is))
          (past_method c.args.before c.args.place program c.args.profile number c.loop-number.out.items (here ∙ w.if-is_of_part.false) c.loop-number.invariant)
    ]
