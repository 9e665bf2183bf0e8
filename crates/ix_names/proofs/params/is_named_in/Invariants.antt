use Rattle.std.proofs.Common.{◌≡◌, drop}
use Rattle.ix_meaning.specs.Source as spec
use Rattle.ix_names.proofs.params.is_named_in.Given as goal

abbrev pub invariant-loop-decl : goal.invariant-loop-decl
invariant-loop-decl l = spec.is_named_in (drop l.decl-index l.decls) l.name ≡ spec.is_named_in l.decls l.name
