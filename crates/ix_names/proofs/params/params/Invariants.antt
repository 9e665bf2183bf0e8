use Rattle.std.proofs.Common.{◌≡◌, ◌++◌, drop, map}
use Rattle.ix_expression_types.specs.Here.{param_known}
use Rattle.ix_class_members.specs.World.{shown}
use Rattle.ix_names.specs.Declarations as parts
use Rattle.ix_names.proofs.params.params.Given as goal

abbrev pub invariant-loop-k : goal.invariant-loop-k
invariant-loop-k l = map param_known l.params ++ parts.params_from (shown l.world) l.k (drop l.k l.decls) ≡ parts.params_from (shown l.world) 0 l.decls
