-- Labels that say the same, wherever a certificate says anything of them.
use Rattle.std.specs.Prelude.{◌≡◌, ℕ, ◌<◌, ◌^◌, true, List, [], ◌∷◌, length}
use Rattle.ix_core.specs.declared.program.Method.{Method}
use Rattle.ix_core.specs.declared.program.Program.{Program}
use Rattle.ix_core.specs.Tables.{method_at}
use Rattle.ix_facts.specs.Stores.{Stored, SayTheSame}
use Rattle.ix_cert.specs.Labellings.{loops_of, has_part}

-- the stores say the same, loop by loop
abbrev pub SameStores : List Stored → List Stored → Type 0
SameStores [] [] = Unit {0}
SameStores (store ∷ stores) (other ∷ others) = SayTheSame store other × SameStores stores others
SameStores _ _ = ⊥

-- Both lists have a store for each loop of the method. Where it has a part in a certificate, the stores say the same.
pub record SameForMethod (method : Method) (stores others : List Stored) : Type 0 where
  pub count : length stores ≡ loops_of method
  pub other : length others ≡ loops_of method
  pub same : has_part method ≡ true → SameStores stores others

-- so for each method
abbrev pub SameLabels : List Method → List (List Stored) → List (List Stored) → Type 0
SameLabels [] [] [] = Unit {0}
SameLabels (method ∷ methods) (stores ∷ labels) (others ∷ more) = SameForMethod method stores others × SameLabels methods labels more
SameLabels _ _ _ = ⊥

-- The slots of each method, and the fields, can be counted with 32 bits, as those of every program that is held in memory can.
pub record HasSmallPaths (program : Program) : Type 0 where
  pub slots : (number : ℕ) → number < length program.methods → (method_at program number).slots < 2 ^ 32
  pub fields : length program.fields < 2 ^ 32
