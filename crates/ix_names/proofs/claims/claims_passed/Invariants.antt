use Rattle.std.proofs.Common.{◌≡◌, drop}
use Rattle.ix_meaning.specs.Limits as spec
use Rattle.ix_names.proofs.claims.claims_passed.Given as goal

abbrev pub invariant-loop-class : goal.invariant-loop-class
invariant-loop-class l = spec.past_claims (spec.all_annots (drop l.class-index l.classes)) ≡ spec.past_claims (spec.all_annots l.classes)
