use Rattle.std.proofs.Common.{◌≡◌, ◌++◌, drop}
use Rattle.ix_store.specs.StoredFacts.{stored}
use Rattle.ix_errors.specs.Refusals.{dependent_refusals}
use Rattle.ix_errors.proofs.field_errors.push_dependents.Given as goal

abbrev pub invariant-loop-number : goal.invariant-loop-number
invariant-loop-number l =
    l.out.items ++ dependent_refusals (stored l.store) l.write.object l.write.field l.write.value l.write.place l.number (drop l.number l.fields)
    ≡ l.fn.out.items ++ dependent_refusals (stored l.store) l.write.object l.write.field l.write.value l.write.place 0 l.program.fields
