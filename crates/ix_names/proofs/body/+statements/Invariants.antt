use Rattle.std.proofs.Common.{◌≡◌, ◌++◌, ◌+◌, map, drop}
use Rattle.ix_expression_types.specs.Here.{here, Extends}
use Rattle.ix_meaning.specs.Bodies as spec
use Rattle.ix_names.proofs.body.+statements.Given as goal

abbrev pub invariant-statements-loop-s : goal.invariant-statements-loop-s
invariant-statements-loop-s l = record {
  counts : l.scopes.next + (spec.all_told (map spec.telling (drop l.s-index l.ss))).declares ≡ l.fn.scopes.next + (spec.all_told (map spec.telling l.ss)).declares;
  notes : l.notes ++ (spec.all_told (map spec.telling (drop l.s-index l.ss))).notes (here l.world l.scopes) ≡ l.fn.notes ++ (spec.all_told (map spec.telling l.ss)).notes (here l.world l.fn.scopes);
  scope : spec.after (spec.all_told (map spec.telling (drop l.s-index l.ss))) (here l.world l.scopes) ≡ spec.after (spec.all_told (map spec.telling l.ss)) (here l.world l.fn.scopes);
  keeps : Extends l.fn.scopes l.scopes;
}
