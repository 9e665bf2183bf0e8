-- A certificate: the labels of all loops of a program, written down.
use Rattle.std.specs.Prelude.{◌≡◌, ℕ, suc, ◌==◌, nat_lt, Bool, true, false, not, ◌&&◌, List, [], ◌∷◌, ◌++◌, length, codes, decimal}
use Rattle.ix_core.specs.declared.fact.Fact.{Fact}
use Rattle.ix_core.specs.declared.fact.Path.{Path}
use Rattle.ix_core.specs.declared.fact.Path.TheVariants.{Slot, FieldOf}
use Rattle.ix_core.specs.declared.fact.Profile.{Profile}
use Rattle.ix_core.specs.declared.program.Method.{Method}
use Rattle.ix_core.specs.declared.program.Program.{Program}
use Rattle.ix_core.specs.FirstLine.{first_line}
use Rattle.ix_core.specs.Formed.{loop_numbers}
use Rattle.ix_core.specs.Tables.{body_of}
use Rattle.ix_facts.specs.Facts.{IsIn}
use Rattle.ix_facts.specs.Forget.{names}
use Rattle.ix_facts.specs.Stores.{Stored, Unreachable, Reached, SayTheSame}
use Rattle.ix_store.specs.WholeStores.{AreAStore}
use Rattle.ix_cert.specs.Lines.{AreLinesOf, ended, lines_text}

-- ---- the label of a loop

-- a slot that the method doesn't have, or a field that the program doesn't have, by how many there are
abbrev pub is_outside : (slots fields : ℕ) → Path → Bool
is_outside slots fields (Slot slot) = not (nat_lt slot slots)
is_outside slots fields (FieldOf slot field) = not (nat_lt slot slots && nat_lt field fields)

-- Facts that may be written down as a label: all facts of one store, each once, of slots of the method and fields of the program.
pub record MayBeWritten (slots fields : ℕ) (facts : List Fact) : Type 0 where
  pub whole : AreAStore facts
  pub inside : (fact : Fact) → IsIn fact facts → names (is_outside slots fields) fact ≡ false

-- The lines are the label's: those of all facts of a store that says the same as the label.
abbrev pub IsLabel : (slots fields : ℕ) → Stored → List (List ℕ) → Type 0
IsLabel slots fields Unreachable lines = lines ≡ codes "unreachable" ∷ []
IsLabel slots fields (Reached facts) lines = (written : List Fact) × MayBeWritten slots fields written × SayTheSame (Reached written) (Reached facts) × AreLinesOf written lines

-- ---- the certificate, part by part: the text begins with the part, and goes on with the rest

-- the labels of a method, from the one of this number on
abbrev pub LabelsText : (slots fields number : ℕ) → List Stored → List ℕ → List ℕ → Type 0
LabelsText slots fields number [] text rest = text ≡ rest
LabelsText slots fields number (store ∷ stores) text rest =
    (lines : List (List ℕ)) × (later : List ℕ) × IsLabel slots fields store lines × (text ≡ ended (codes "label " ++ decimal number) ++ (lines_text lines ++ later)) × LabelsText slots fields (suc number) stores later rest

abbrev pub loops_of : Method → ℕ
loops_of method = length (loop_numbers (body_of method))

-- A method that has loops has a part; of each other one nothing is written. In the program of a source only the methods that stand there have loops.
abbrev pub has_part : Method → Bool
has_part method = not (loops_of method == 0)

abbrev pub PartText : Bool → (slots fields number : ℕ) → List Stored → List ℕ → List ℕ → Type 0
PartText false slots fields number stores text rest = text ≡ rest
PartText true slots fields number stores text rest = (labels : List ℕ) × (text ≡ ended (codes "method " ++ decimal number) ++ labels) × LabelsText slots fields 0 stores labels rest

-- the method of this number, with a store for each loop
abbrev pub MethodText : (fields number : ℕ) → Method → List Stored → List ℕ → List ℕ → Type 0
MethodText fields number method stores text rest = (length stores ≡ loops_of method) × PartText (has_part method) method.slots fields number stores text rest

-- the methods, from the one of this number on
abbrev pub MethodsText : (fields number : ℕ) → List Method → List (List Stored) → List ℕ → List ℕ → Type 0
MethodsText fields number [] [] text rest = text ≡ rest
MethodsText fields number [] (stores ∷ labels) text rest = ⊥
MethodsText fields number (method ∷ methods) [] text rest = ⊥
MethodsText fields number (method ∷ methods) (stores ∷ labels) text rest = (later : List ℕ) × MethodText fields number method stores text later × MethodsText fields (suc number) methods labels later rest

-- The bytes are a certificate of the program, in this profile, with these labels: for each method a list, for each loop a store.
abbrev pub IsLabelling : Program → Profile → List (List Stored) → List ℕ → Type 0
IsLabelling program profile labels text =
    (methods : List ℕ) × (text ≡ first_line profile ++ methods) × MethodsText (length program.fields) 0 program.methods labels methods (codes "end\n")
