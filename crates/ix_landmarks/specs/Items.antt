-- What is added to a list of numbers.
use Rattle.std.specs.Prelude.{◌≡◌, ℤ, pos, ◌≤ℤ◌, ◌+ℤ◌, ◌-ℤ◌, List, [], ◌∷◌, ◌++◌}
use Rattle.ix_num.specs.Ints.{IsInt}
use Rattle.ix_core.specs.declared.program.Program.{Program}
use Rattle.ix_core.specs.Code.{Code}
use Rattle.ix_facts.specs.MethodLandmarks.{code_numbers}
use Rattle.ix_facts.specs.Round.{IsAmong}

-- the numbers of an item, before those of whatever comes behind it
pub record AddsItem (program : Program) (item : Code → Code) (old new : List ℤ) : Type 0 where
  pub more : List ℤ
  pub added : new ≡ old ++ more
  pub of : (rest : Code) → code_numbers program (item rest) ≡ more ++ code_numbers program rest

-- the ints at most 1 away from a number
pub record AddsNear (number : ℤ) (old new : List ℤ) : Type 0 where
  pub near : List ℤ
  pub added : new ≡ old ++ near
  pub only : (n : ℤ) → IsAmong n near → IsInt n × ((number -ℤ pos 1) ≤ℤ n) × (n ≤ℤ (number +ℤ pos 1))
  pub all : (n : ℤ) → IsInt n → (number -ℤ pos 1) ≤ℤ n → n ≤ℤ (number +ℤ pos 1) → IsAmong n near

-- each number is at most the next
abbrev pub IsAscending : List ℤ → Type 0
IsAscending [] = Unit {0}
IsAscending (n ∷ []) = Unit {0}
IsAscending (n ∷ m ∷ ms) = (n ≤ℤ m) × IsAscending (m ∷ ms)
