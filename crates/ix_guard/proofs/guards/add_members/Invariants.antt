use Rattle.std.proofs.Common.{◌≡◌, ◌++◌, drop}
use Rattle.ix_guard.specs.Guards as spec
use Rattle.ix_guard.specs.Shown.{site_of}
use Rattle.ix_guard.proofs.guards.add_members.Given as goal

abbrev pub invariant-loop-member : goal.invariant-loop-member
invariant-loop-member l = l.out.items ++ spec.in_members (site_of l.site) (drop l.member-index l.members) ≡ l.initial.out.items ++ spec.in_members (site_of l.site) l.members
