use Rattle.std.proofs.Common.{◌≡◌, ◌++◌, drop, map}
use Rattle.std.specs.HashMap.{get_by_text}
use Rattle.ix_meaning.specs.Members as spec
use Rattle.ix_class_members.proofs.lists.param_types.Given as goal

abbrev pub invariant-loop-param : goal.invariant-loop-param
invariant-loop-param l = l.types ++ map (spec.param_type (get_by_text l.classes)) (drop l.param-index l.params) ≡ map (spec.param_type (get_by_text l.classes)) l.params
