use Rattle.std.proofs.Common.{◌≡◌, ◌++◌, drop}
use Rattle.std.specs.HashMap.{get_by_text}
use Rattle.ix_meaning.specs.Members as spec
use Rattle.ix_class_members.proofs.lists.push_methods.Given as goal

abbrev pub invariant-loop-member : goal.invariant-loop-member
invariant-loop-member l = l.methods ++ spec.methods_in (get_by_text l.classes) l.class (drop l.member-index l.members) ≡ l.fn.methods ++ spec.methods_in (get_by_text l.classes) l.class l.members
