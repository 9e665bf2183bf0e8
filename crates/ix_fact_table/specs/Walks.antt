-- What walks along two lists of facts give.
use Rattle.std.specs.Prelude.{◌≡◌, ◌↔◌, ◌<◌, ◌≤◌, ℕ, true, false, Bool, cond, int_le, ◌&&◌, List, [], ◌∷◌, ◌++◌, get_or, length, take, drop}
use Rattle.std.specs.declared.cmp.Ordering.TheVariants.{Less as Before}
use Rattle.ix_core.specs.declared.fact.Fact.{Fact}
use Rattle.ix_core.specs.declared.fact.Fact.TheVariants.{Rng, LenRng, Low, Less, Upper}
use Rattle.ix_facts.specs.Facts.{IsIn, Covers, is_default}
use Rattle.ix_fact_table.specs.FactOrder.{AtKey, fact_cmp}
use Rattle.ix_fact_table.specs.Meets.{met, common}
use Rattle.ix_fact_table.specs.Rising.{rises}

-- so many facts at the front have keys that are less than the other fact's
abbrev pub ArePast : List Fact → ℕ → Fact → Type 0
ArePast facts count other = (k : ℕ) (d : Fact) → k < count → fact_cmp (get_or facts k d) other ≡ Before

-- a run at the front, of facts whose keys are less than the other's, is taken over, and the rest is left
pub record IsPassed (facts : List Fact) (other : Fact) (all more rest : List Fact) : Type 0 where
  pub count : ℕ
  pub within : count ≤ length facts
  pub before : ArePast facts count other
  pub run : more ≡ all ++ take count facts
  pub left_over : rest ≡ drop count facts

-- such a run is left out
pub record IsSkipped (facts : List Fact) (other : Fact) (rest : List Fact) : Type 0 where
  pub count : ℕ
  pub within : count ≤ length facts
  pub before : ArePast facts count other
  pub left_over : rest ≡ drop count facts

-- the fact is one of the two lists, or what a fact of each says together
pub data FromBoth (first second : List Fact) (f : Fact) : Type 0 where
  left : IsIn f first → FromBoth first second f
  right : IsIn f second → FromBoth first second f
  both : (g h : Fact) → IsIn g first → IsIn h second → AtKey g h → f ≡ met g h → FromBoth first second f

-- the list says at each key what the two say together
pub record HasBoth (first second all : List Fact) : Type 0 where
  pub first_covered : (f : Fact) → IsIn f first → (g : Fact) × IsIn g all × Covers g f
  pub second_covered : (f : Fact) → IsIn f second → (g : Fact) × IsIn g all × Covers g f
  pub from : (f : Fact) → IsIn f all → FromBoth first second f

-- what merges the facts that are left completes the whole
pub record Merging (first second mine theirs all : List Fact) : Type 0 where
  pub mine_rise : rises mine ≡ true
  pub theirs_rise : rises theirs ≡ true
  pub with_mine : rises (all ++ mine) ≡ true
  pub with_theirs : rises (all ++ theirs) ≡ true
  pub completes : (rest : List Fact) → HasBoth mine theirs rest → HasBoth first second (all ++ rest)

-- what a fact of each says in common, where that isn't said of every path
pub record IsShared (first second : List Fact) (f : Fact) : Type 0 where
  pub mine : Fact
  pub theirs : Fact
  pub in_first : IsIn mine first
  pub in_second : IsIn theirs second
  pub key : AtKey mine theirs
  pub is : f ≡ common mine theirs
  pub tells : is_default f ≡ false

-- the list says at each key what the two say in common
pub record HasShared (first second shared : List Fact) : Type 0 where
  pub kept : (f g : Fact) → IsIn f first → IsIn g second → AtKey f g → is_default (common f g) ≡ false → IsIn (common f g) shared
  pub from : (f : Fact) → IsIn f shared → IsShared first second f

-- what the facts that are left have in common completes the whole
pub record Sharing (first second mine theirs shared : List Fact) : Type 0 where
  pub mine_rise : rises mine ≡ true
  pub theirs_rise : rises theirs ≡ true
  pub with_mine : rises (shared ++ mine) ≡ true
  pub completes : (rest : List Fact) → HasShared mine theirs rest → HasShared first second (shared ++ rest)

-- each fact of the second list is covered by one of the first
abbrev pub AllCovered : List Fact → List Fact → Type 0
AllCovered first second = (f : Fact) → IsIn f second → (g : Fact) × IsIn g first × Covers g f

-- whether the one covers the other is whether what is left of it covers what is left of the other
pub record Comparing (first second mine theirs : List Fact) : Type 0 where
  pub mine_rise : rises mine ≡ true
  pub theirs_rise : rises theirs ≡ true
  pub covered : AllCovered first second ↔ AllCovered mine theirs

-- the first fact is at least as strong, where both stand at one key
abbrev pub is_as_strong : Fact → Fact → Bool
is_as_strong (Rng p l h) (Rng q m k) = int_le m l && int_le h k
is_as_strong (LenRng a l h) (LenRng b m k) = int_le m l && int_le h k
is_as_strong (Low p c) (Low q d) = int_le d c
is_as_strong (Less p q c) (Less r s d) = int_le c d
is_as_strong (Upper p a o c) (Upper q b x d) = int_le d c
is_as_strong f g = true

-- the fact, unless a test holds
abbrev pub if_not : Bool → Fact → List Fact
if_not test f = cond test [] (f ∷ [])
