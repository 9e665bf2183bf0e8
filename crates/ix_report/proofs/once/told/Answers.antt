use Rattle.std.proofs.Common.{rules, refl, drop, ◌+◌, get_or}
use Rattle.std.proofs.lemmas.List.{drop_more, drop_all}
use Rattle.ix_core.specs.declared.error.Detail.TheVariants.{Plain}
use Rattle.ix_report.specs.Reports.{start, have_one_line}
use Rattle.ix_report.proofs.EarlierStarts.{telling_begins, telling_more, all_told, tell_old, tell_new}
use Rattle.ix_report.proofs.once.told.Goals as goal
use Rattle.ix_report.proofs.once.told.Goals.{then-not-branch+in_ok-push, else-not-branch}

pub loop-error-init : goal.loop-error-init
loop-error-init c = telling_begins start (have_one_line c.args.program.now) c.args.errors.now c.new-told.result.items c.args.errors.now c.new-told.ensures.items refl

pub loop-error-preserved : goal.loop-error-preserved
loop-error-preserved c =
    let error = get_or c.args.errors.now c.loop-error.error-index (record { rule = 0; span = record { from = 0; to = 0 }; detail = Plain }) in
    telling_more start (have_one_line c.args.program.now) c.args.errors.now c.loop-error.told.items c.if-not-branch.told.items c.loop-error.starts.earlier c.loop-error.starts.last c.moved-starts.result.earlier c.moved-starts.result.last
    error (drop c.loop-error.error-index c.args.errors.now) (drop (c.loop-error.error-index + 1) c.args.errors.now)
    c.loop-error.invariant (drop_more c.args.errors.now c.loop-error.error-index _ c.loop-error-test.true) (search rules) c.moved-starts.ensures.within
    (elim c.if-not-branch.branch [
      | then-not-branch+in_ok-push w ↦ tell_new start (have_one_line c.args.program.now) c.loop-error.told.items c.if-not-branch.told.items error (search rules) (search rules)
      | else-not-branch w ↦ tell_old start (have_one_line c.args.program.now) c.loop-error.told.items c.if-not-branch.told.items error (search rules) (search rules)
    ])

pub returns : goal.returns
returns c = record { told = all_told start (have_one_line c.args.program.now) c.args.errors.now c.loop-error.told.items (drop c.loop-error.error-index c.args.errors.now) c.loop-error.starts.earlier c.loop-error.starts.last c.loop-error.invariant (drop_all c.loop-error.error-index c.args.errors.now c.loop-error-test.false) }
