-- What is added to a text, and labels that may be written down.
use Rattle.std.specs.Prelude.{◌≡◌, ℕ, ◌+◌, List, [], ◌∷◌, ◌++◌, length, codes, decimal}
use Rattle.ix_core.specs.declared.program.Method.{Method}
use Rattle.ix_core.specs.declared.program.Program.{Program}
use Rattle.ix_core.specs.Code.{Code}
use Rattle.ix_core.specs.Formed.{loop_numbers}
use Rattle.ix_facts.specs.Stores.{Stored, Unreachable, Reached}
use Rattle.ix_cert.specs.Lines.{AreLinesOf, ended, lines_text}
use Rattle.ix_cert.specs.Labellings.{MayBeWritten, LabelsText, MethodText, MethodsText, loops_of}

-- A part is added, whatever the rest is.
pub record Adds (Part : List ℕ → List ℕ → Type 0) (old new : List ℕ) : Type 0 where
  pub part : List ℕ
  pub added : new ≡ old ++ part
  pub is : (rest : List ℕ) → Part (part ++ rest) rest

-- the loops of an item are counted, before those of whatever stands behind it
abbrev pub AddsLoops : (Code → Code) → (old new : ℕ) → Type 0
AddsLoops item old new = (rest : Code) → new + length (loop_numbers rest) ≡ old + length (loop_numbers (item rest))

-- the lines of a store, as its own facts are written
abbrev pub AreOwnLines : Stored → List (List ℕ) → Type 0
AreOwnLines Unreachable lines = lines ≡ codes "unreachable" ∷ []
AreOwnLines (Reached facts) lines = AreLinesOf facts lines

pub record AddsStore (store : Stored) (old new : List ℕ) : Type 0 where
  pub lines : List (List ℕ)
  pub own : AreOwnLines store lines
  pub added : new ≡ old ++ lines_text lines

pub record AddsLabel (number : ℕ) (store : Stored) (old new : List ℕ) : Type 0 where
  pub lines : List (List ℕ)
  pub own : AreOwnLines store lines
  pub added : new ≡ old ++ (ended (codes "label " ++ decimal number) ++ lines_text lines)

-- ---- labels that may be written down as they are

abbrev pub MayBeLabel : (slots fields : ℕ) → Stored → Type 0
MayBeLabel slots fields Unreachable = Unit {0}
MayBeLabel slots fields (Reached facts) = MayBeWritten slots fields facts

abbrev pub MayBeLabels : (slots fields : ℕ) → List Stored → Type 0
MayBeLabels slots fields [] = Unit {0}
MayBeLabels slots fields (store ∷ stores) = MayBeLabel slots fields store × MayBeLabels slots fields stores

-- for each method a list, for each loop a store that may be written down
abbrev pub MayLabel : (fields : ℕ) → List Method → List (List Stored) → Type 0
MayLabel fields [] [] = Unit {0}
MayLabel fields [] (stores ∷ labels) = ⊥
MayLabel fields (method ∷ methods) [] = ⊥
MayLabel fields (method ∷ methods) (stores ∷ labels) = (length stores ≡ loops_of method) × MayBeLabels method.slots fields stores × MayLabel fields methods labels

abbrev pub AreLabels : Program → List (List Stored) → Type 0
AreLabels program labels = MayLabel (length program.fields) program.methods labels

-- ---- parts of labels that may be written down

abbrev pub AreLabelsText : List Stored → List ℕ → List ℕ → Type 0
AreLabelsText stores text rest = (slots fields : ℕ) → MayBeLabels slots fields stores → LabelsText slots fields 0 stores text rest

abbrev pub IsMethodText : ℕ → Method → List Stored → List ℕ → List ℕ → Type 0
IsMethodText number method stores text rest = (fields : ℕ) → length stores ≡ loops_of method → MayBeLabels method.slots fields stores → MethodText fields number method stores text rest

abbrev pub AreMethodsText : List Method → List (List Stored) → List ℕ → List ℕ → Type 0
AreMethodsText methods labels text rest = (fields : ℕ) → MayLabel fields methods labels → MethodsText fields 0 methods labels text rest
