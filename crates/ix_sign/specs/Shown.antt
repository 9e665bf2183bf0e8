-- A variable as the rules have it.
use Rattle.std.specs.Prelude.{List}
use Rattle.ix_core.specs.declared.claim.Claim.{Claim}
use Rattle.ix_core.specs.declared.claim.Name.{Name}
use Rattle.ix_sign.specs.declared.variable.Variable.{Variable}

abbrev pub shown : Variable → Name × List Claim
shown variable = (variable.name, variable.claims.now)
