use Rattle.std.proofs.Common.{◌≡◌, drop}
use Rattle.ix_signatures.specs.Names.{local_in}
use Rattle.ix_sign.proofs.variables.local_at.Given as goal

abbrev pub invariant-loop-number : goal.invariant-loop-number
invariant-loop-number l = local_in l.slot l.place l.number (drop l.number l.locals) ≡ local_in l.slot l.place 0 l.method.locals
