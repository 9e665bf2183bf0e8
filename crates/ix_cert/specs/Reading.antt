-- What is read from a text.
use Rattle.std.specs.Prelude.{◌≡◌, ◌≢◌, ℕ, ◌<◌, ◌^◌, true, false, if◌then◌else◌, List, [], ◌∷◌, ◌++◌, codes}
use Rattle.std.specs.Fmt.{signed_decimal}
use Rattle.ix_num.specs.Ints.{IsInt}
use Rattle.ix_core.specs.declared.fact.Fact.{Fact}
use Rattle.ix_core.specs.declared.fact.Fact.TheVariants.{Rng, LenRng, Low, Same, IsLen, Less, Sum, Search, Neg, Upper}
use Rattle.ix_core.specs.declared.fact.Path.{Path}
use Rattle.ix_core.specs.declared.fact.Path.TheVariants.{Slot, FieldOf}
use Rattle.ix_core.specs.declared.fact.PathOff.{PathOff}
use Rattle.ix_core.specs.declared.fact.PathOff.TheVariants.{Nothing, Plus, Minus}
use Rattle.ix_facts.specs.Forget.{names}
use Rattle.ix_facts.specs.Stores.{Stored}
use Rattle.ix_cert.specs.declared.stop.Stop.{Stop}
use Rattle.ix_cert.specs.declared.stop.Stop.TheVariants.{Memory}
use Rattle.ix_cert.specs.Lines.{path_text, fact_text, is_before, ended, lines_text}
use Rattle.ix_cert.specs.Labellings.{is_outside, IsLabel}

-- ---- words

-- no byte of the text is this one
abbrev pub Lacks : ℕ → List ℕ → Type 0
Lacks byte [] = Unit {0}
Lacks byte (one ∷ text) = (one ≢ byte) × Lacks byte text

-- the text up to the first such byte, and what stands behind it
abbrev pub IsCut : ℕ → List ℕ → List ℕ → List ℕ → Type 0
IsCut byte text first rest = Lacks byte first × (text ≡ first ++ byte ∷ rest)

-- ---- facts whose numbers fit their types

abbrev pub IsSmall : Path → Type 0
IsSmall (Slot slot) = slot < 2 ^ 32
IsSmall (FieldOf slot field) = (slot < 2 ^ 32) × (field < 2 ^ 32)

abbrev pub IsSmallOffset : PathOff → Type 0
IsSmallOffset Nothing = Unit {0}
IsSmallOffset (Plus q) = IsSmall q
IsSmallOffset (Minus q) = IsSmall q

abbrev pub IsSmallFact : Fact → Type 0
IsSmallFact (Rng p l h) = IsSmall p × IsInt l × IsInt h
IsSmallFact (LenRng a l h) = IsSmall a × IsInt l × IsInt h
IsSmallFact (Low p c) = IsSmall p × IsInt c
IsSmallFact (Same a b) = IsSmall a × IsSmall b
IsSmallFact (IsLen p a) = IsSmall p × IsSmall a
IsSmallFact (Less p q c) = IsSmall p × IsSmall q × IsInt c
IsSmallFact (Sum t y z) = IsSmall t × IsSmall y × IsSmall z
IsSmallFact (Search p a) = IsSmall p × IsSmall a
IsSmallFact (Neg p a) = IsSmall p × IsSmall a
IsSmallFact (Upper p a o c) = IsSmall p × IsSmall a × IsSmallOffset o × IsInt c

-- ---- a line

abbrev pub offset_text : PathOff → List ℕ
offset_text Nothing = codes "0"
offset_text (Plus q) = codes "+" ++ path_text q
offset_text (Minus q) = codes "-" ++ path_text q

-- what stands behind a line's word, for a fact as it is given
abbrev pub args_text : Fact → List ℕ
args_text (Rng p l h) = path_text p ++ 32 ∷ (signed_decimal l ++ 32 ∷ signed_decimal h)
args_text (LenRng a l h) = path_text a ++ 32 ∷ (signed_decimal l ++ 32 ∷ signed_decimal h)
args_text (Low p c) = path_text p ++ 32 ∷ signed_decimal c
args_text (Same a b) = path_text a ++ 32 ∷ path_text b
args_text (IsLen p a) = path_text p ++ 32 ∷ path_text a
args_text (Less p q c) = path_text p ++ 32 ∷ (path_text q ++ 32 ∷ signed_decimal c)
args_text (Sum t y z) = path_text t ++ 32 ∷ (path_text y ++ 32 ∷ path_text z)
args_text (Search p a) = path_text p ++ 32 ∷ path_text a
args_text (Neg p a) = path_text p ++ 32 ∷ path_text a
args_text (Upper p a o c) = path_text p ++ 32 ∷ (path_text a ++ 32 ∷ (offset_text o ++ 32 ∷ signed_decimal c))

abbrev pub word_of : Fact → List ℕ
word_of (Rng p l h) = codes "rng "
word_of (LenRng a l h) = codes "len "
word_of (Low p c) = codes "low "
word_of (Same a b) = codes "same "
word_of (IsLen p a) = codes "islen "
word_of (Less p q c) = codes "less "
word_of (Sum t y z) = codes "sum "
word_of (Search p a) = codes "search "
word_of (Neg p a) = codes "neg "
word_of (Upper p a o c) = codes "upper "

abbrev pub given_text : Fact → List ℕ
given_text fact = word_of fact ++ args_text fact

-- Of the orders of a fact the one that is written.
abbrev pub in_text_order : Fact → Fact
in_text_order (Same a b) = if is_before (path_text b) (path_text a) then Same b a else Same a b
in_text_order (Sum t y z) = if is_before (path_text z) (path_text y) then Sum t z y else Sum t y z
in_text_order (Upper p a (Plus q) c) = if is_before (path_text q) (path_text p) then Upper q a (Plus p) c else Upper p a (Plus q) c
in_text_order fact = fact

-- a fact of slots of the method and fields of the program, whose numbers fit
pub record MayBeRead (slots fields : ℕ) (fact : Fact) : Type 0 where
  pub small : IsSmallFact fact
  pub inside : names (is_outside slots fields) fact ≡ false

-- The line is the fact's, and that of no other fact but its orders.
pub record IsReadAs (slots fields : ℕ) (line : List ℕ) (fact : Fact) : Type 0 where
  pub text : fact_text fact ≡ line
  pub inside : names (is_outside slots fields) fact ≡ false
  pub only : (other : Fact) → IsSmallFact other → fact_text other ≡ line → fact ≡ in_text_order other

-- ---- lines

-- No line of a fact stands first in the text, or none that may come behind the last one.
abbrev pub Stops : (slots fields : ℕ) → List ℕ → List ℕ → Type 0
Stops slots fields last text = (fact : Fact) (rest : List ℕ) → MayBeRead slots fields fact → is_before last (fact_text fact) ≡ true → text ≡ ended (fact_text fact) ++ rest → ⊥

-- The text's first line is the fact's, and may come behind the last one.
pub record IsNextFact (slots fields : ℕ) (last text : List ℕ) (fact : Fact) (line rest : List ℕ) : Type 0 where
  pub cut : IsCut 10 text line rest
  pub behind : is_before last line ≡ true
  pub read : IsReadAs slots fields line fact

-- The text begins with the lines of these facts, each behind the one before, and the rest begins with no further one.
abbrev pub FactsText : (slots fields : ℕ) → List ℕ → List ℕ → List Fact → List ℕ → Type 0
FactsText slots fields last text [] rest = (text ≡ rest) × Stops slots fields last text
FactsText slots fields last text (fact ∷ facts) rest = (line : List ℕ) × (later : List ℕ) × IsNextFact slots fields last text fact line later × FactsText slots fields line later facts rest

-- the lines of a label, and the rest
abbrev pub LabelText : (slots fields : ℕ) → Stored → List ℕ → List ℕ → Type 0
LabelText slots fields store text rest = (lines : List (List ℕ)) × IsLabel slots fields store lines × (text ≡ lines_text lines ++ rest)

-- What stands behind a label: neither a line of a fact nor `unreachable`.
pub record EndsLabel (text : List ℕ) : Type 0 where
  pub fact : (fact : Fact) (rest : List ℕ) → text ≡ ended (fact_text fact) ++ rest → ⊥
  pub unreachable : (rest : List ℕ) → text ≡ ended (codes "unreachable") ++ rest → ⊥

abbrev pub IsMemory : Stop → Type 0
IsMemory stop = stop ≡ Memory
