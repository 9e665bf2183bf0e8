use Rattle.std.proofs.Common.{◌≡◌, ◌++◌, ◌+◌, ◌≤◌, drop, option_map}
use Rattle.std.specs.HashMap.{get_by_text}
use Rattle.ix_meaning.specs.Declarators as declared
use Rattle.ix_meaning.specs.Source as spec
use Rattle.ix_class_members.specs.Begun.{AllBegin, first_shown}
use Rattle.ix_names.specs.Places.{at}
use Rattle.ix_names.proofs.classes.members.Given as goal

abbrev pub invariant-loop-i : goal.invariant-loop-i
invariant-loop-i l = record {
  next : spec.next_fields l.next (drop l.i l.members) ≡ spec.next_fields l.first l.members;
  few : l.next ≤ l.first + l.i;
  begins : AllBegin l.begun;
  notes :
      l.notes ++ spec.member_notes (at l.world l.number l.class) (get_by_text l.table) l.i l.next (declared.members_behind (option_map first_shown l.begun) (drop l.i l.members))
      ≡ l.fn.notes ++ spec.member_notes (at l.world l.number l.class) (get_by_text l.table) 0 l.first (declared.members l.members);
}
