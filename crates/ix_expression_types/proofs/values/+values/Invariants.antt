use Rattle.std.proofs.Common.{◌≡◌, ◌++◌, map, drop}
use Rattle.ix_expression_types.specs.Here.{here}
use Rattle.ix_meaning.specs.Values as spec
use Rattle.ix_expression_types.proofs.values.+values.Given as goal

abbrev pub invariant-arguments-loop-i : goal.invariant-arguments-loop-i
invariant-arguments-loop-i l =
    l.notes ++ spec.arguments (here l.world l.scopes) (map spec.reading (drop l.i l.args)) (drop l.i l.params)
    ≡ l.fn.notes ++ spec.arguments (here l.world l.scopes) (map spec.reading l.args) l.params

abbrev pub invariant-fill_all-loop-item : goal.invariant-fill_all-loop-item
invariant-fill_all-loop-item l =
    l.notes ++ spec.fillings (map spec.filling (drop l.item-index l.items)) (here l.world l.scopes) l.ty
    ≡ l.fn.notes ++ spec.fillings (map spec.filling l.items) (here l.world l.scopes) l.ty
