use Rattle.std.proofs.Common.{◌≡◌, drop}
use Rattle.ix_signatures.specs.Names.{param_in}
use Rattle.ix_sign.proofs.variables.param_at.Given as goal

abbrev pub invariant-loop-number : goal.invariant-loop-number
invariant-loop-number l = param_in l.method l.slot l.number (drop l.number l.params) ≡ param_in l.method l.slot 0 l.method.params
