use Rattle.std.proofs.Common.{◌≡◌, drop}
use Rattle.std.specs.List.{list_any}
use Rattle.ix_guard.specs.Tests as spec
use Rattle.ix_guard.proofs.test.is_declared.Given as goal

abbrev pub invariant-loop-decl : goal.invariant-loop-decl
invariant-loop-decl l = list_any (spec.is_called l.name) l.declared ≡ list_any (spec.is_called l.name) (drop l.decl-index l.declared)
