-- A run that begins: the method that its entry means, and the inputs that its words write.
use Rattle.std.specs.Prelude.{ℕ, List}
use Rattle.ix_core.specs.declared.program.Program.{Program}
use Rattle.ix_core.specs.Safe.{Input, Begins}
use Rattle.ix_machine.specs.Starts.{Given}
use Rattle.ix_words.specs.Words.{Text}

-- The words write inputs of that method, and they meet its claims.
pub record Entering (program : Program) (entry : Text) (words : List Text) : Type 0 where
  pub method : ℕ
  pub inputs : List Input
  pub given : Given program entry words method inputs
  pub begins : Begins program method inputs
