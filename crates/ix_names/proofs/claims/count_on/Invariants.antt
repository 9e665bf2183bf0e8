use Rattle.std.proofs.Common.{◌≡◌, ◌≤◌, drop}
use Rattle.ix_annot.specs.Table.{most_claims}
use Rattle.ix_meaning.specs.Limits as spec
use Rattle.ix_names.specs.Counted as counts
use Rattle.ix_names.proofs.claims.count_on.Given as goal

abbrev pub invariant-loop-annot : goal.invariant-loop-annot
invariant-loop-annot l = record {
  few : l.count ≤ most_claims;
  counted : counts.counted_on l.count (drop l.annot-index l.annots) ≡ counts.counted_on l.before l.annots;
  passed : spec.past_claims_in l.count (drop l.annot-index l.annots) ≡ spec.past_claims_in l.before l.annots;
}
