use Rattle.std.proofs.Common.{◌≡◌, drop}
use Rattle.ix_plain.specs.Program as spec
use Rattle.ix_lower.specs.Homes.{shown_tables, shown_home}
use Rattle.ix_lower.proofs.source.add_methods.Given as goal

abbrev pub invariant-loop-member : goal.invariant-loop-member
invariant-loop-member l = spec.methods_in (shown_tables l.tables) (shown_home l.home) l.home.members.now l.initial.methods ≡ spec.methods_in (shown_tables l.tables) (shown_home l.home) (drop l.member-index l.home.members.now) l.methods
