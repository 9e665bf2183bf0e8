use Rattle.std.specs.Option.{option_copied}
use Rattle.std.proofs.Common.{None, Some, sym, ap, ◌∙◌}
use Rattle.ix_core.specs.Code.{items_code}
use Rattle.ix_core.specs.Posts.{last_done}
use Rattle.ix_verify.proofs.LastItem.{last_told}
use Rattle.ix_verify.proofs.done.last_op.Goals as goal

pub returns-in-Some : goal.returns-in-Some
returns-in-Some c =
    let found = sym (ap option_copied c.in-Some.is) ∙ c.last.ensures.value in
    c.op_of.ensures ∙ (sym (last_told c.as_slice.result.now (Some c.in-Some.item.now) found) ∙ ap (λ items. last_done None (items_code items)) c.as_slice.ensures)
