use Rattle.std.proofs.Common.{◌≡◌, ◌++◌, ◌+◌, ◌≤◌, drop, option_map}
use Rattle.std.specs.HashMap.{get_by_text}
use Rattle.ix_meaning.specs.Declarators as declared
use Rattle.ix_meaning.specs.Members as spec
use Rattle.ix_class_members.specs.Begun.{AllBegin, first_shown}
use Rattle.ix_class_members.proofs.lists.push_fields.Given as goal

abbrev pub invariant-loop-i : goal.invariant-loop-i
invariant-loop-i l = record {
  begins : AllBegin l.begun;
  fields :
      l.fields ++ spec.fields_in (get_by_text l.classes) l.class l.next (declared.members_behind (option_map first_shown l.begun) (drop l.i l.members))
      ≡ l.fn.fields ++ spec.fields_in (get_by_text l.classes) l.class l.first (declared.members l.members);
  next : spec.next_fields l.next (drop l.i l.members) ≡ spec.next_fields l.first l.members;
  few : l.next ≤ l.first + l.i;
}
