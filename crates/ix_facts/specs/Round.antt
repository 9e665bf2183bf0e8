-- Facts moved to landmarks, so that a loop's facts come from a finite set: the widening of a loop's label. The landmarks are this project's own;
-- widening is Cousot and Cousot's, POPL 1977, section 9.
use Rattle.std.specs.Prelude.{◌≡◌, ◌⊎◌, ℕ, nat_lt, Bool, not, ℤ, pos, negsuc, ◌+ℤ◌, ◌-ℤ◌, ◌≤ℤ◌, ◌<ℤ◌, int_le, List, [], ◌∷◌, Option, Some, None}
use Rattle.std.specs.Int.{int_min, int_max}
use Rattle.ix_num.specs.Ints.{least_int, greatest_int, IsInt}
use Rattle.ix_core.specs.declared.fact.Path.{Path}
use Rattle.ix_core.specs.declared.fact.Path.TheVariants.{Slot, FieldOf}
use Rattle.ix_core.specs.declared.fact.Fact.{Fact}
use Rattle.ix_core.specs.declared.fact.Fact.TheVariants.{Rng, LenRng, Less, Upper}
use Rattle.ix_facts.specs.Bounds.{best, when}
use Rattle.ix_facts.specs.Exact.{each, if_some}
use Rattle.ix_facts.specs.Forget.{without}

-- the greatest landmark that is at most a number, and the least that is at least it
abbrev pub mark_below : List ℤ → ℤ → Option ℤ
mark_below [] n = None
mark_below (mark ∷ marks) n = best int_max (when (int_le mark n) (Some mark)) (mark_below marks n)

abbrev pub mark_above : List ℤ → ℤ → Option ℤ
mark_above [] n = None
mark_above (mark ∷ marks) n = best int_min (when (int_le n mark) (Some mark)) (mark_above marks n)

abbrev pub if_both : (ℤ → ℤ → Fact) → Option ℤ → Option ℤ → List Fact
if_both make (Some l) (Some h) = make l h ∷ []
if_both make _ _ = []

-- Range ends move outwards, a constant of `p < q + c` up and of `p + offset + c < a.length` down, to the next landmark. A fact whose constant
-- has none is dropped; since the ends of the int range are landmarks, none is.
abbrev pub rounded_fact : List ℤ → Fact → List Fact
rounded_fact marks (Rng p l h) = if_both (Rng p) (mark_below marks l) (mark_above marks h)
rounded_fact marks (LenRng a l h) = if_both (LenRng a) (mark_below marks l) (mark_above marks h)
rounded_fact marks (Less p q c) = if_some (Less p q) (mark_above marks c)
rounded_fact marks (Upper p a o c) = if_some (Upper p a o) (mark_below marks c)
rounded_fact marks fact = fact ∷ []

-- a path through a slot that is not below the loop's first free one
abbrev pub is_beyond : ℕ → Path → Bool
is_beyond scope (Slot s) = not (nat_lt s scope)
is_beyond scope (FieldOf s f) = not (nat_lt s scope)

-- The facts of a loop's label: those that name a slot beyond the loop's scope are dropped, the others rounded.
abbrev pub rounded : List ℤ → ℕ → List Fact → List Fact
rounded marks scope facts = each (rounded_fact marks) (without (is_beyond scope) facts)

-- ---- landmarks

abbrev pub IsAmong : ℤ → List ℤ → Type 0
IsAmong n [] = ⊥
IsAmong n (m ∷ ms) = (n ≡ m) ⊎ IsAmong n ms

-- A landmark for the numbers of a method: an end of the int range, -1, 0 or 1, or an int at most 1 away from one of the numbers.
pub record IsLandmark (numbers : List ℤ) (n : ℤ) : Type 0 where
  pub int : IsInt n
  pub is : ((n ≡ least_int) ⊎ (n ≡ greatest_int)) ⊎ (((negsuc 0 ≤ℤ n) × (n ≤ℤ pos 1)) ⊎ ((c : ℤ) × IsAmong c numbers × ((c -ℤ pos 1) ≤ℤ n) × (n ≤ℤ (c +ℤ pos 1))))

-- each number is below the next
abbrev pub Rises : List ℤ → Type 0
Rises [] = Unit {0}
Rises (n ∷ []) = Unit {0}
Rises (n ∷ m ∷ ms) = (n <ℤ m) × Rises (m ∷ ms)

-- The landmarks for the numbers, in ascending order.
pub record AreLandmarks (numbers marks : List ℤ) : Type 0 where
  pub rises : Rises marks
  pub only : (n : ℤ) → IsAmong n marks → IsLandmark numbers n
  pub all : (n : ℤ) → IsLandmark numbers n → IsAmong n marks
