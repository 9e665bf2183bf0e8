use Rattle.std.proofs.Common.{rules, refl}
use Rattle.ix_guard.specs.Guards as spec
use Rattle.ix_guard.specs.Shown.{site_of}
use Rattle.ix_guard.proofs.Sums.{one_more, none_left}
use Rattle.ix_guard.proofs.guards.add_members.Goals as goal

pub loop-member-preserved : goal.loop-member-preserved
loop-member-preserved c =
    let site = site_of c.args.site.now in
    one_more (spec.in_members site) (spec.in_member site) (λ _ _. refl) c.args.members.now c.loop-member.member-index c.member-item.result _ _ _ (search rules) (search rules) c.in_ok-add_member.ensures c.loop-member.invariant

pub returns : goal.returns
returns c = none_left (spec.in_members (site_of c.args.site.now)) refl c.args.members.now c.loop-member.member-index _ _ (search rules) c.loop-member.invariant
