use Rattle.std.proofs.Common.{◌≡◌, ◌++◌, [], drop, take}
use Rattle.ix_expression_types.specs.Here.{here}
use Rattle.ix_names.specs.Declarations as parts
use Rattle.ix_names.proofs.params.note_params.Given as goal

abbrev pub invariant-loop-k : goal.invariant-loop-k
invariant-loop-k l =
    l.notes ++ parts.params_notes (here l.world l.scopes) (take l.k l.decls) l.k (drop l.k l.decls)
    ≡ l.fn.notes ++ parts.params_notes (here l.world l.scopes) [] 0 l.decls
