use Rattle.std.proofs.Common.{sym, ap, ◌∙◌}
use Rattle.ix_fact_paths.specs.ChangedPaths.{is_changed, some_path}
use Rattle.ix_store.proofs.OverInts.{untouched}
use Rattle.ix_store.proofs.known.Known.is_touched.Goals as goal

pub returns-else-changes_some : goal.returns-else-changes_some
returns-else-changes_some c = record {
  spared = λ none.
      let is = is_changed c.args.changed.now in
      untouched is c.args.self.now
      (ap (some_path is) (sym c.deref.ensures.value) ∙ (sym c.changes_some.ensures ∙ c.if-changes_some.false))
      (ap (some_path is) (sym c.deref-else-changes_some.ensures.value) ∙ (sym c.changes_some-else-changes_some.ensures ∙ none));
}
