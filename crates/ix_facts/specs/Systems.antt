-- What a system of facts answers: the part of the rules that is of its own kind, before anything is closed.
use Rattle.std.specs.Prelude.{◌≡◌, false, ℤ, pos, ◌≤ℤ◌, List, [], ◌∷◌, ◌++◌}
use Rattle.std.specs.Int.{int_min, int_max}
use Rattle.ix_num.specs.Ints.{least_int, greatest_int}
use Rattle.ix_core.specs.declared.claim.Type_.{Type_}
use Rattle.ix_core.specs.declared.fact.Path.{Path}
use Rattle.ix_core.specs.declared.fact.PathOff.TheVariants.{Plus}
use Rattle.ix_core.specs.declared.fact.Fact.{Fact}
use Rattle.ix_core.specs.declared.fact.Fact.TheVariants.{Rng, LenRng, Low, Same, Less, Sum, Upper}
use Rattle.ix_core.specs.declared.fact.Profile.{Profile}
use Rattle.ix_core.specs.declared.op.OpKind.{OpKind}
use Rattle.ix_facts.specs.Bounds.{is_path}
use Rattle.ix_facts.specs.Facts.{IsIn, Covers, is_default, in_orders}
use Rattle.ix_facts.specs.Closure.{Said, AllTell, kept}
use Rattle.ix_facts.specs.Kinds.{of_kind}
use Rattle.ix_facts.specs.declared.kind.Kind.{Kind}
use Rattle.ix_facts.specs.Forget.{of_path, without}
use Rattle.ix_facts.specs.Exact.{each}
use Rattle.ix_facts.specs.AfterOperation.{copied}
use Rattle.ix_facts.specs.After.{of_target, finished_by, finished, beside_target, kept_new}
use Rattle.ix_facts.specs.Round.{rounded_fact}
use Rattle.ix_facts.specs.Small.{IsClass}

-- What a list of facts says where nothing is closed: each fact, what is weaker at its key, two ranges of one path met, and
-- each in all its orders.
pub data Merges (facts : List Fact) : Fact → Type 0 where
  given : (f : Fact) → IsIn f facts → Merges facts f
  weaker : (g f : Fact) → Covers g f → Merges facts g → Merges facts f
  any_int : (p : Path) → Merges facts (Rng p least_int greatest_int)
  any_size : (a : Path) → Merges facts (LenRng a (pos 0) greatest_int)
  met : (p : Path) (l h m k : ℤ) → Merges facts (Rng p l h) → Merges facts (Rng p m k) → Merges facts (Rng p (int_max l m) (int_min h k))
  len_met : (a : Path) (l h m k : ℤ) → Merges facts (LenRng a l h) → Merges facts (LenRng a m k) → Merges facts (LenRng a (int_max l m) (int_min h k))
  turned : (a b : Path) → Merges facts (Same a b) → Merges facts (Same b a)
  sum_turned : (t y z : Path) → Merges facts (Sum t y z) → Merges facts (Sum t z y)
  upper_turned : (p a q : Path) (c : ℤ) → Merges facts (Upper p a (Plus q) c) → Merges facts (Upper q a (Plus p) c)

-- The table says what the facts say, and nothing else: at each key the strongest constant.
pub record IsTable (facts table : List Fact) : Type 0 where
  pub says : (f : Fact) → Merges facts f → Said table f
  pub only : (f : Fact) → IsIn f table → Merges facts f
  pub tells : AllTell table

-- After an operation: the table's facts that do not name the target, and the new facts of the own kind, by the facts that are known.
abbrev pub system_after : Kind → List Fact → List Fact → Profile → OpKind → List Fact
system_after own known table profile kind =
    without (of_target kind) table
    ++ of_kind own (kept_new (beside_target kind known) profile kind ++ kept (finished (beside_target kind known) (kept_new (beside_target kind known) profile kind) kind))

-- After a copy from one path to another.
abbrev pub system_copy : Kind → List Fact → List Fact → Type_ → Path → Path → List Fact
system_copy own known table ty t s =
    without (of_path t) table
    ++ of_kind own (kept (copied (in_orders (without (of_path t) known)) ty t s) ++ kept (finished_by ty (in_orders (without (of_path t) known)) (kept (copied (in_orders (without (of_path t) known)) ty t s)) t))

-- The table moved to landmarks.
abbrev pub system_rounded : List ℤ → List Fact → List Fact
system_rounded marks table = each (rounded_fact marks) table

-- The table with a fact, where the fact is of the own kind.
abbrev pub system_added : Kind → List Fact → Fact → List Fact
system_added own table fact = table ++ of_kind own (kept (fact ∷ []))

-- What is asked of a fact that is added: what an int is at least is -1, 0 or 1, and the two paths of a difference are two.
abbrev pub IsProper : Fact → Type 0
IsProper (Low p c) = IsClass c
IsProper (Less p q c) = is_path p q ≡ false
IsProper _ = Unit {0}

-- What an int of a table is at least is -1, 0 or 1.
abbrev pub HasClass : Fact → Type 0
HasClass (Low p c) = IsClass c
HasClass _ = Unit {0}

abbrev pub HaveClasses : List Fact → Type 0
HaveClasses facts = (f : Fact) → IsIn f facts → HasClass f

-- The ends of a range that is not empty are ints, and those of a length are from 0 on.
abbrev pub HasIntEnds : Fact → Type 0
HasIntEnds (Rng p l h) = l ≤ℤ h → (least_int ≤ℤ l) × (h ≤ℤ greatest_int)
HasIntEnds (LenRng a l h) = l ≤ℤ h → (pos 0 ≤ℤ l) × (h ≤ℤ greatest_int)
HasIntEnds _ = Unit {0}

-- A fact that may stand in a table. An empty range stands there as it was met.
pub record MayStand (f : Fact) : Type 0 where
  pub tells : is_default f ≡ false
  pub class : HasClass f
  pub ends : HasIntEnds f
