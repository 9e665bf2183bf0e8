-- How a fact is written down, and the facts of a store: a line a fact, in the order of bytes.
use Rattle.std.specs.Prelude.{◌≡◌, ◌↔◌, ℕ, Bool, true, if◌then◌else◌, List, [], ◌∷◌, ◌++◌, codes, decimal}
use Rattle.std.specs.Fmt.{signed_decimal}
use Rattle.std.specs.Ordering.{is_lt, nat_cmp}
use Rattle.std.specs.Cmp.Lexicographic.{slice_cmp}
use Rattle.ix_core.specs.declared.fact.Path.{Path}
use Rattle.ix_core.specs.declared.fact.Path.TheVariants.{Slot, FieldOf}
use Rattle.ix_core.specs.declared.fact.PathOff.{PathOff}
use Rattle.ix_core.specs.declared.fact.PathOff.TheVariants.{Nothing, Plus, Minus}
use Rattle.ix_core.specs.declared.fact.Fact.{Fact}
use Rattle.ix_core.specs.declared.fact.Fact.TheVariants.{Rng, LenRng, Low, Same, IsLen, Less, Sum, Search, Neg, Upper}
use Rattle.ix_facts.specs.Facts.{IsIn}

-- `s3`, and `s3.1` for field 1 of the object in it
abbrev pub path_text : Path → List ℕ
path_text (Slot slot) = codes "s" ++ decimal slot
path_text (FieldOf slot field) = codes "s" ++ (decimal slot ++ (codes "." ++ decimal field))

-- the first text comes before the second, as words in a dictionary do, by their bytes
abbrev pub is_before : List ℕ → List ℕ → Bool
is_before text other = is_lt (slice_cmp nat_cmp text other)

-- Of two paths that may be exchanged the one comes first whose text isn't the greater.
abbrev pub both_texts : Path → Path → List ℕ
both_texts p q = if is_before (path_text q) (path_text p) then path_text q ++ (codes " " ++ path_text p) else path_text p ++ (codes " " ++ path_text q)

abbrev pub two : Path → Path → List ℕ
two p q = path_text p ++ (codes " " ++ path_text q)

-- a bound at a sum: `p + q` is `q + p`
abbrev pub sum_bound : Path → Path → Path → List ℕ
sum_bound p a q = two p a ++ (codes " +" ++ path_text q)

abbrev pub bound_text : Path → Path → PathOff → List ℕ
bound_text p a Nothing = two p a ++ codes " 0"
bound_text p a (Plus q) = if is_before (path_text q) (path_text p) then sum_bound q a p else sum_bound p a q
bound_text p a (Minus q) = two p a ++ (codes " -" ++ path_text q)

-- a fact without its line's end
abbrev pub fact_text : Fact → List ℕ
fact_text (Rng p l h) = codes "rng " ++ (path_text p ++ (codes " " ++ (signed_decimal l ++ (codes " " ++ signed_decimal h))))
fact_text (LenRng a l h) = codes "len " ++ (path_text a ++ (codes " " ++ (signed_decimal l ++ (codes " " ++ signed_decimal h))))
fact_text (Low p c) = codes "low " ++ (path_text p ++ (codes " " ++ signed_decimal c))
fact_text (Same a b) = codes "same " ++ both_texts a b
fact_text (IsLen p a) = codes "islen " ++ two p a
fact_text (Less p q c) = codes "less " ++ (two p q ++ (codes " " ++ signed_decimal c))
fact_text (Sum t y z) = codes "sum " ++ (path_text t ++ (codes " " ++ both_texts y z))
fact_text (Search p a) = codes "search " ++ two p a
fact_text (Neg p a) = codes "neg " ++ two p a
fact_text (Upper p a o c) = codes "upper " ++ (bound_text p a o ++ (codes " " ++ signed_decimal c))

-- what stands behind the word of a fact
abbrev pub behind_word : Fact → List ℕ
behind_word (Rng p l h) = path_text p ++ (codes " " ++ (signed_decimal l ++ (codes " " ++ signed_decimal h)))
behind_word (LenRng a l h) = path_text a ++ (codes " " ++ (signed_decimal l ++ (codes " " ++ signed_decimal h)))
behind_word (Low p c) = path_text p ++ (codes " " ++ signed_decimal c)
behind_word (Same a b) = both_texts a b
behind_word (IsLen p a) = two p a
behind_word (Less p q c) = two p q ++ (codes " " ++ signed_decimal c)
behind_word (Sum t y z) = path_text t ++ (codes " " ++ both_texts y z)
behind_word (Search p a) = two p a
behind_word (Neg p a) = two p a
behind_word (Upper p a o c) = bound_text p a o ++ (codes " " ++ signed_decimal c)

-- each line comes before the next one
abbrev pub Ascend : List (List ℕ) → Type 0
Ascend [] = Unit {0}
Ascend (line ∷ []) = Unit {0}
Ascend (line ∷ next ∷ lines) = (is_before line next ≡ true) × Ascend (next ∷ lines)

abbrev pub IsAmong : List ℕ → List (List ℕ) → Type 0
IsAmong line lines = (before after : List (List ℕ)) × (lines ≡ before ++ line ∷ after)

-- The lines of facts: one of each text, in order.
abbrev pub AreLinesOf : List Fact → List (List ℕ) → Type 0
AreLinesOf facts lines = Ascend lines × ((line : List ℕ) → IsAmong line lines ↔ ((fact : Fact) × IsIn fact facts × (line ≡ fact_text fact)))

abbrev pub ended : List ℕ → List ℕ
ended line = line ++ codes "\n"

abbrev pub lines_text : List (List ℕ) → List ℕ
lines_text [] = []
lines_text (line ∷ lines) = ended line ++ lines_text lines
