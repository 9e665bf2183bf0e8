-- What the check promises of a source without errors.
use Rattle.std.specs.Prelude.{◌≡◌, Ok}
use Rattle.ix_core.specs.declared.fact.Profile.{Profile}
use Rattle.ix_core.specs.declared.program.Program.{Program}
use Rattle.ix_core.specs.Safe.{Safe}
use Rattle.ix_meaning.specs.Resolved.{names}
use Rattle.ix_plain.specs.Program.{program as program_of}
use Rattle.ix_tree.specs.declared.decl.Unit.{Unit as Source}

-- The source has a program, the one that `run` runs. Where sums count as the profile says, no run of it indexes outside an array or makes one of negative length.
pub record IsSafe (profile : Profile) (source : Source) : Type 0 where
  pub program : Program
  pub plain : program_of (names source) source.classes ≡ Ok program
  pub safe : Safe program profile
