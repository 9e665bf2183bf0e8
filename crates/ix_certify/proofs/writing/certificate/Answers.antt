use Rattle.std.proofs.Common.{rules, ◌≡◌, ℕ, List, length, map, slice_get, Some}
use Rattle.std.proofs.lemmas.Result.{IfOk-weaker}
use Rattle.ix_core.specs.Tables.{method_at}
use Rattle.ix_labels.specs.LoopLabels.{AreLoopLabels}
use Rattle.ix_store.specs.declared.store.Store.{Store}
use Rattle.ix_store.specs.StoredFacts.{stored}
use Rattle.ix_certify.proofs.Least.{all_least}
use Rattle.ix_certify.proofs.writing.certificate.Goals as goal

pub print-requires : goal.print-requires
print-requires c =
    let program = c.args.program.now in
    let same : length c.as_slice.result.now ≡ length program.methods = search rules in
    let each : (number : ℕ) (stores : List Store) → slice_get c.as_slice.result.now number ≡ Some stores → AreLoopLabels program (method_at program number) c.args.profile stores = search rules in
    c.least_labels_may_be_written.ensures.all program c.args.profile c.as_slice.result.now c.requires.formed same each

pub returns : goal.returns
returns c =
    let program = c.args.program.now in
    let same : length c.as_slice.result.now ≡ length program.methods = search rules in
    let each : (number : ℕ) (stores : List Store) → slice_get c.as_slice.result.now number ≡ Some stores → AreLoopLabels program (method_at program number) c.args.profile stores = search rules in
    IfOk-weaker c.print.result _ _
    (λ text is. (
      map (map stored) c.as_slice.result.now,
      all_least program c.args.profile c.as_slice.result.now same (λ number found within are. (c.least_labels_may_be_written.ensures.one program c.args.profile number found c.requires.formed within are).0) each,
      is,
    ))
    c.print.ensures
