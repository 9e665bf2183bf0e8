use Rattle.std.proofs.Common.{◌≡◌, ◌++◌, ◌+◌, ◌≤◌, drop}
use Rattle.std.specs.HashMap.{get_by_text}
use Rattle.ix_meaning.specs.Members as spec
use Rattle.ix_meaning.specs.Source.{members_in}
use Rattle.ix_class_members.proofs.lists.fields.Given as goal

abbrev pub invariant-loop-c : goal.invariant-loop-c
invariant-loop-c l = record {
  fields : l.fields ++ spec.fields_from (get_by_text l.classes) l.c l.next (drop l.c l.decls) ≡ spec.fields_from (get_by_text l.classes) 0 0 l.decls;
  few : l.next + members_in (drop l.c l.decls) ≤ members_in l.decls;
}
