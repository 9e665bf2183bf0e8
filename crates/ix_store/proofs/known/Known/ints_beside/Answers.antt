use Rattle.std.proofs.Common.{ap, sym, subst, ◌∙◌}
use Rattle.std.proofs.lemmas.Result.{IfOk-weaker}
use Rattle.ix_fact_paths.specs.PutLaws.{IsRising}
use Rattle.ix_fact_paths.specs.ChangedPaths.{is_changed, paths_beside}
use Rattle.ix_store.proofs.OverInts.{known_rising, beside_rises}
use Rattle.ix_store.proofs.known.Known.ints_beside.Goals as goal

pub returns-clause-rising : goal.returns-clause-rising
returns-clause-rising c =
    let is_gone = is_changed c.args.changed.now in
    let known = c.args.self.now in
    IfOk-weaker c.unchanged_paths.result _ _ (λ ints is. subst IsRising (sym (is ∙ ap (paths_beside is_gone) c.deref.ensures.value)) (beside_rises is_gone known.ints.items (known_rising known))) c.unchanged_paths.ensures

pub returns-clause-told : goal.returns-clause-told
returns-clause-told c = IfOk-weaker c.unchanged_paths.result _ _ (λ ints is told. is ∙ ap (paths_beside (is_changed c.args.changed.now)) c.deref.ensures.value) c.unchanged_paths.ensures
