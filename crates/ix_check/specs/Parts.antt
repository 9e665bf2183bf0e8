-- The errors of a program in two parts, as of a source that is joined with another text: those of the methods that stand before a place, and those of all others.
use Rattle.std.specs.Prelude.{◌≡◌, ℕ, ◌<◌, nat_lt, Bool, true, false, not, length}
use Rattle.ix_core.specs.declared.error.Error.{Error}
use Rattle.ix_core.specs.declared.fact.Profile.{Profile}
use Rattle.ix_core.specs.declared.program.Method.{Method}
use Rattle.ix_core.specs.declared.program.Program.{Program}
use Rattle.ix_core.specs.Tables.{method_at}
use Rattle.ix_check.specs.MethodErrors.{IsErrorOf}

-- the method's name stands before the place, or it doesn't
abbrev pub is_of_part : Bool → ℕ → Method → Bool
is_of_part true place method = nat_lt method.span.from place
is_of_part false place method = not (nat_lt method.span.from place)

-- an error of one of the first so many methods, of those of a part
pub record IsErrorOfPart (before : Bool) (place : ℕ) (program : Program) (profile : Profile) (count : ℕ) (error : Error) (rank : ℕ) : Type 0 where
  pub number : ℕ
  pub within : number < count
  pub part : is_of_part before place (method_at program number) ≡ true
  pub of : IsErrorOf program profile number error rank

-- an error of the methods before the place
abbrev pub IsErrorBefore : ℕ → Program → Profile → Error → ℕ → Type 0
IsErrorBefore place program profile = IsErrorOfPart true place program profile (length program.methods)

-- and one of all others
abbrev pub IsErrorBehind : ℕ → Program → Profile → Error → ℕ → Type 0
IsErrorBehind place program profile = IsErrorOfPart false place program profile (length program.methods)
