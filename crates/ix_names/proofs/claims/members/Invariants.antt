use Rattle.std.proofs.Common.{◌≡◌, drop, option_map}
use Rattle.ix_meaning.specs.Declarators as joint
use Rattle.ix_meaning.specs.Limits as spec
use Rattle.ix_names.specs.Shown.{IsFine}
use Rattle.ix_names.proofs.claims.members.Given as goal

abbrev pub invariant-loop-each : goal.invariant-loop-each
invariant-loop-each l = record {
  fine : IsFine (option_map (λ first. first.now) l.first);
  passed :
      spec.past_claims (spec.member_annots (joint.members_behind (option_map (λ first. first.now) l.first) (drop l.each-index l.members)))
      ≡ spec.past_claims (spec.member_annots (joint.members l.members));
}
