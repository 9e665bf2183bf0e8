use Rattle.std.proofs.Common.{◌≡◌, drop}
use Rattle.ix_plain.specs.Members as spec
use Rattle.ix_symbols.specs.Numbered.{shown}
use Rattle.ix_lower.proofs.member.add_fields.Given as goal

abbrev pub invariant-loop-member : goal.invariant-loop-member
invariant-loop-member l = spec.fields_in (shown l.table) l.initial.fields l.class l.members ≡ spec.fields_in (shown l.table) l.fields l.class (drop l.member-index l.members)
