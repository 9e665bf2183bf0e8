-- What the definitions of facts and rules promise: in each state in which facts hold their bounds hold, and stronger facts have no weaker ones.
use Rattle.std.specs.Prelude.{◌≡◌, ◌⊎◌, true, ℤ, pos, ◌+ℤ◌, ◌-ℤ◌, ◌≤ℤ◌, List, Some, negsuc, [], ◌∷◌}
use Rattle.ix_core.specs.declared.fact.Path.{Path}
use Rattle.ix_core.specs.declared.fact.PathOff.{PathOff}
use Rattle.ix_core.specs.declared.fact.PathOff.TheVariants.{Nothing, Plus, Minus}
use Rattle.ix_core.specs.declared.fact.Fact.{Fact}
use Rattle.ix_core.specs.declared.fact.Fact.TheVariants.{IsLen, Less, Upper}
use Rattle.ix_core.specs.Numbers.{Numbers}
use Rattle.ix_facts.specs.Facts.{Holds, IsIn, Covers, Stronger}
use Rattle.ix_facts.specs.Bounds.{are_same, length_low, length_high, lower_bound, upper_limit, stored_upper, stored_less, upper_bound, less_bound}
use Rattle.ix_facts.specs.Closure.{Default, Follows, AllTell}

-- each bound that the facts give is true of the numbers
pub record BoundsHold (facts : List Fact) (v : Numbers) : Type 0 where
  pub lower : (p : Path) → lower_bound facts p ≤ℤ v.int p
  pub limit : (p : Path) → v.int p ≤ℤ upper_limit facts p
  pub length_from : (a : Path) → length_low facts a ≤ℤ v.size a
  pub length_to : (a : Path) → v.size a ≤ℤ length_high facts a
  pub upper : (p a : Path) (o : PathOff) (c : ℤ) → upper_bound facts p a o ≡ Some c → Holds (Upper p a o c) v
  pub less : (p q : Path) → Holds (Less p q (less_bound facts p q)) v
  pub same : (a b : Path) → are_same facts a b ≡ true → v.size a ≡ v.size b

-- each bound of the first facts is at least as good as that of the second
pub record BoundsNoWeaker (strong weak : List Fact) : Type 0 where
  pub lower : (p : Path) → lower_bound weak p ≤ℤ lower_bound strong p
  pub limit : (p : Path) → upper_limit strong p ≤ℤ upper_limit weak p
  pub length_from : (a : Path) → length_low weak a ≤ℤ length_low strong a
  pub length_to : (a : Path) → length_high strong a ≤ℤ length_high weak a
  pub upper : (p a : Path) (o : PathOff) (c : ℤ) → upper_bound weak p a o ≡ Some c → (d : ℤ) × (upper_bound strong p a o ≡ Some d) × (c ≤ℤ d)
  pub less : (p q : Path) → less_bound strong p q ≤ℤ less_bound weak p q
  pub same : (a b : Path) → are_same weak a b ≡ true → are_same strong a b ≡ true

-- two paths with the same numbers
pub record Alike (v : Numbers) (t s : Path) : Type 0 where
  pub int : v.int t ≡ v.int s
  pub size : v.size t ≡ v.size s

-- each bound of the two lists of facts is the same
abbrev pub SameBounds : List Fact → List Fact → Type 0
SameBounds facts others = BoundsNoWeaker facts others × BoundsNoWeaker others facts

-- each list of facts is at least as strong as the other
abbrev pub AsStrong : List Fact → List Fact → Type 0
AsStrong facts others = Stronger facts others × Stronger others facts

-- All that follows is said by a fact as it stands, in no other order, or is said of every path; and no fact is said of every path.
pub record ClosedAsItStands (facts : List Fact) : Type 0 where
  pub says : (f : Fact) → Follows facts f → Default f ⊎ ((g : Fact) × IsIn g facts × Covers g f)
  pub tells : AllTell facts

-- the facts, with each length of an array also as a bound from the array's end: `p = a.length` as `p - 1 < a.length`
abbrev pub with_lengths : List Fact → List Fact
with_lengths [] = []
with_lengths (IsLen p a ∷ facts) = IsLen p a ∷ Upper p a Nothing (negsuc 0) ∷ with_lengths facts
with_lengths (fact ∷ facts) = fact ∷ with_lengths facts

-- A way to the bound n of `p + o + n < a.length` by one step: the stored bound itself; the stored bound of an int q that p is below; the stored
-- bound at an offset +q that +r is below, or at an offset -q where q is below r.
pub data Way (facts : List Fact) (p a : Path) (o : PathOff) (n : ℤ) : Type 0 where
  itself : (c : ℤ) → stored_upper facts p a o ≡ Some c → n ≤ℤ c → Way facts p a o n
  greater : (q : Path) (c d : ℤ) → stored_upper facts q a o ≡ Some c → stored_less facts p q ≡ Some d → n ≤ℤ (c -ℤ d +ℤ pos 1) → Way facts p a o n
  plus : (r q : Path) (c d : ℤ) → o ≡ Plus r → stored_upper facts p a (Plus q) ≡ Some c → stored_less facts r q ≡ Some d → n ≤ℤ (c -ℤ d +ℤ pos 1) → Way facts p a o n
  minus : (r q : Path) (c d : ℤ) → o ≡ Minus r → stored_upper facts p a (Minus q) ≡ Some c → stored_less facts q r ≡ Some d → n ≤ℤ (c -ℤ d +ℤ pos 1) → Way facts p a o n
