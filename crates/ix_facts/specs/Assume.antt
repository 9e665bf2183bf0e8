-- What a claim that is assumed adds, and which claims facts prove. Checker Framework manual, Index Checker and Constant Value Checker: the
-- annotation of a declared variable is assumed of what was checked against it.
use Rattle.std.specs.Prelude.{◌≡◌, Bool, false, not, ◌&&◌, ◌||◌, pos, negsuc, ◌+ℤ◌, ◌-ℤ◌, ◌≤ℤ◌, ◌<ℤ◌, int_le, List, [], ◌∷◌}
use Rattle.ix_num.specs.Ints.{least_int, greatest_int}
use Rattle.ix_core.specs.declared.fact.Path.{Path}
use Rattle.ix_core.specs.declared.fact.PathOff.TheVariants.{Nothing}
use Rattle.ix_core.specs.declared.fact.PathClaim.{PathClaim}
use Rattle.ix_core.specs.declared.fact.PathClaim.TheVariants as claim
use Rattle.ix_core.specs.declared.fact.Fact.{Fact}
use Rattle.ix_core.specs.declared.fact.Fact.TheVariants.{Rng, LenRng, Low, Same, IsLen, Less, Search, Neg, Upper}
use Rattle.ix_core.specs.Numbers.{Numbers}
use Rattle.ix_facts.specs.Facts.{Holds}
use Rattle.ix_facts.specs.Bounds
use Rattle.ix_facts.specs.Bounds.{is_path}
use Rattle.ix_facts.specs.Exact.{if_so}
use Rattle.ix_facts.specs.AfterOperation.{reaches}

-- The claim is true of the path.
abbrev pub ClaimHolds : PathClaim → Path → Numbers → Type 0
ClaimHolds (claim.Range low high) p v = (low ≤ℤ v.int p) × (v.int p ≤ℤ high)
ClaimHolds (claim.Low low) p v = low ≤ℤ v.int p
ClaimHolds (claim.Length least) p v = least ≤ℤ v.size p
ClaimHolds (claim.Same other) p v = v.size p ≡ v.size other
ClaimHolds (claim.Less q c) p v = v.int p <ℤ (v.int q +ℤ c)
ClaimHolds (claim.Upper a o c) p v = Holds (Upper p a o c) v
ClaimHolds (claim.Search a) p v = Holds (Search p a) v
ClaimHolds (claim.Negative a) p v = Holds (Neg p a) v

-- The facts that a claim adds where it is assumed. `p < p + c` is no fact.
abbrev pub claim_facts : PathClaim → Path → List Fact
claim_facts (claim.Range low high) p = Rng p low high ∷ []
claim_facts (claim.Low low) p = Rng p low greatest_int ∷ if_so (int_le (negsuc 0) low && int_le low (pos 1)) (Low p low ∷ [])
claim_facts (claim.Length least) p = LenRng p least greatest_int ∷ []
claim_facts (claim.Same other) p = Same p other ∷ []
claim_facts (claim.Less q c) p = if_so (not (is_path p q)) (Less p q c ∷ [])
claim_facts (claim.Upper a o c) p = Upper p a o c ∷ []
claim_facts (claim.Search a) p = Search p a ∷ Upper p a Nothing (pos 0) ∷ []
claim_facts (claim.Negative a) p = Neg p a ∷ Rng p least_int (negsuc 0) ∷ []

-- ---- which claims are proved

abbrev pub is_length : Path → Path → Fact → Bool
is_length p a (IsLen q b) = is_path q p && is_path b a
is_length p a _ = false

abbrev pub is_search : Path → Path → Fact → Bool
is_search p a (Search q b) = is_path q p && is_path b a
is_search p a _ = false

abbrev pub is_negative : Path → Path → Fact → Bool
is_negative p a (Neg q b) = is_path q p && is_path b a
is_negative p a _ = false

-- a fact of the list passes the test
abbrev pub has : (Fact → Bool) → List Fact → Bool
has test [] = false
has test (fact ∷ facts) = test fact || has test facts

module _ (facts : List Fact) where
  -- an int is at least -1 less the least length
  abbrev pub from_minus_length : Path → Path → Bool
  from_minus_length p a = int_le (negsuc 0 -ℤ Bounds.length_low facts a) (Bounds.lower_bound facts p)

  -- The facts, in all their orders, prove the claim of the path: by its bounds; that two arrays have the same length by a stored fact alone; an
  -- answer of a search by a stored fact or by its ends, and a negative one likewise.
  abbrev pub proves : PathClaim → Path → Bool
  proves (claim.Range low high) p = int_le low (Bounds.lower_bound facts p) && int_le (Bounds.upper_limit facts p) high
  proves (claim.Low low) p = int_le low (Bounds.lower_bound facts p)
  proves (claim.Length least) p = int_le least (Bounds.length_low facts p)
  proves (claim.Same other) p = Bounds.stored_same facts p other
  proves (claim.Less q c) p = int_le (Bounds.less_bound facts p q) c
  proves (claim.Upper a o c) p = reaches facts (Bounds.upper_bound facts p a o) c
  proves (claim.Search a) p = has (is_search p a) facts || (reaches facts (Bounds.upper_bound facts p a Nothing) (pos 0) && from_minus_length p a)
  proves (claim.Negative a) p = has (is_negative p a) facts || (int_le (Bounds.upper_limit facts p) (negsuc 0) && (has (is_search p a) facts || from_minus_length p a))
