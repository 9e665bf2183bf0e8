-- How a condition is answered, in the numbers of paths: from the state before it to the state behind it.
use Rattle.std.specs.Prelude.{ℕ, Bool, true, false, not}
use Rattle.ix_core.specs.declared.op.Test.{Test}
use Rattle.ix_core.specs.Code.{Code, Condition, Known, Compare, Truth, Both, Either, Opposite}
use Rattle.ix_core.specs.Numbers.{Numbers}
use Rattle.ix_facts.specs.AfterTest.{AllSo}
use Rattle.ix_facts.specs.Stores.{outcomes_of}

-- `Leads` says which state is behind a block.
module _ (Leads : Code → Numbers → Numbers → Type 0) where
  pub data Decides : Condition → Bool → Numbers → Numbers → Type 0 where
    known : (answer : Bool) (v : Numbers) → Decides (Known answer) answer v v
    compared : (block : Code) (test : Test) (answer : Bool) (v w : Numbers) → Leads block v w → AllSo (outcomes_of answer test) w → Decides (Compare block test) answer v w
    truth : (block : Code) (slot : ℕ) (answer : Bool) (v w : Numbers) → Leads block v w → Decides (Truth block slot) answer v w
    both_asked : (first second : Condition) (answer : Bool) (v u w : Numbers) → Decides first true v u → Decides second answer u w → Decides (Both first second) answer v w
    both_false : (first second : Condition) (v w : Numbers) → Decides first false v w → Decides (Both first second) false v w
    either_asked : (first second : Condition) (answer : Bool) (v u w : Numbers) → Decides first false v u → Decides second answer u w → Decides (Either first second) answer v w
    either_true : (first second : Condition) (v w : Numbers) → Decides first true v w → Decides (Either first second) true v w
    opposite : (asked : Condition) (answer : Bool) (v w : Numbers) → Decides asked answer v w → Decides (Opposite asked) (not answer) v w
