-- What is read of a program where one of its methods is judged: signatures. The errors of a method are those that the rules derive of it where every other
-- method is its signature alone (separate checking: Cardelli, "Program fragments, linking, and modularization", POPL 1997).
use Rattle.std.specs.Prelude.{◌⊎◌, ℕ, [], map}
use Rattle.ix_core.specs.declared.error.Error.{Error}
use Rattle.ix_core.specs.declared.fact.Profile.{Profile}
use Rattle.ix_core.specs.declared.program.Method.{Method}
use Rattle.ix_core.specs.declared.program.Program.{Program}
use Rattle.ix_core.specs.Tables.{body_of}
use Rattle.ix_flow.specs.Flow.{IsDerived}
use Rattle.ix_sign.specs.MethodRules.{method_rules}
use Rattle.ix_sign.specs.RuleErrors.{TextErrors}
use Rattle.ix_check.specs.MethodErrors.{Derives}

-- the method without its body, its locals and its slots
abbrev pub signature_of : Method → Method
signature_of method = record method { locals = []; slots = 0; body = record { items = [] } }

-- the program of which each method is its signature
abbrev pub signatures : Program → Program
signatures program = record program { methods = map signature_of program.methods; accesses = 0 }

-- The errors of a method that is given, with its number, where what is declared is read of this program: no flow of its body avoids the error, or the text
-- alone gives it.
abbrev pub ErrorsOf : Program → Method → ℕ → Profile → Error → ℕ → Type 0
ErrorsOf declared method number profile error rank =
    IsDerived (method_rules declared method profile) (Derives declared method number) (body_of method) (record { error = error; rank = rank })
    ⊎ TextErrors declared method number error rank
