use Rattle.std.proofs.Common.{◌≡◌, ◌++◌, ◌+◌, drop, map}
use Rattle.ix_expression_types.specs.Here.{here, Extends}
use Rattle.ix_meaning.specs.Bodies as spec
use Rattle.ix_meaning.specs.Declarators as declared
use Rattle.ix_names.proofs.body.declare_further.Given as goal

abbrev pub invariant-loop-decl : goal.invariant-loop-decl
invariant-loop-decl l = record {
  counts :
      l.scopes.next + (spec.all_declared (map (declared.further l.first) (drop l.decl-index l.decls))).declares
      ≡ l.fn.scopes.next + (spec.all_declared (map (declared.further l.first) l.decls)).declares;
  notes :
      l.notes ++ (spec.all_declared (map (declared.further l.first) (drop l.decl-index l.decls))).notes (here l.world l.scopes)
      ≡ l.fn.notes ++ (spec.all_declared (map (declared.further l.first) l.decls)).notes (here l.world l.fn.scopes);
  scope :
      spec.after (spec.all_declared (map (declared.further l.first) (drop l.decl-index l.decls))) (here l.world l.scopes)
      ≡ spec.after (spec.all_declared (map (declared.further l.first) l.decls)) (here l.world l.fn.scopes);
  keeps : Extends l.fn.scopes l.scopes;
}
