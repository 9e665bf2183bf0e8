use Rattle.std.proofs.Common.{◌≡◌, ◌++◌, drop}
use Rattle.std.specs.HashMap.{get_by_text}
use Rattle.ix_meaning.specs.Members as spec
use Rattle.ix_class_members.proofs.lists.methods.Given as goal

abbrev pub invariant-loop-c : goal.invariant-loop-c
invariant-loop-c l = l.methods ++ spec.methods_from (get_by_text l.classes) l.c (drop l.c l.decls) ≡ spec.methods_from (get_by_text l.classes) 0 l.decls
