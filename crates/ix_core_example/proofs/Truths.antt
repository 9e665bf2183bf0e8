-- What facts that are true give: what stays true, and which claims are true.
use Rattle.std.specs.Prelude.{◌≡◌, ℕ, ◌≤ℤ◌, ◌<ℤ◌, ℤ, pos, int_le, Bool, true, false, if◌then◌else◌, List, [], ◌∷◌, refl}
use Rattle.std.proofs.Common.{arith, sym, ap, ◌∙◌, subst, ⊎_elim}
use Rattle.std.proofs.lemmas.Bool.{and_parts}
use Rattle.std.proofs.lemmas.Bool.Decides.{nat_tests}
use Rattle.std.proofs.lemmas.Int.{ints}
use Rattle.ix_core.specs.declared.claim.Claim.{Claim}
use Rattle.ix_core.specs.declared.claim.Claim.TheVariants.{Range, Low, Length, Same, Less, Upper, Search, Negative}
use Rattle.ix_core.specs.declared.claim.Name.{Name}
use Rattle.ix_core.specs.declared.fact.Path.{Path}
use Rattle.ix_core.specs.declared.fact.Path.TheVariants.{Slot, FieldOf}
use Rattle.ix_core.specs.Claims.{AreTrue}
use Rattle.ix_core.specs.Heap.{Held, Num, Boolean, Null, At, Heap, Reading, value_at, object_at, place_in, int_of, size_of}
use Rattle.ix_core.specs.Objects.{IsOn, AllOn, Later}
use Rattle.ix_core.specs.World.{World}
use Rattle.ix_core.proofs.Entered.{cell_each, reading_later}
use Rattle.ix_core_example.specs.Facts.{IsFresh, held_through, Fact, NotNegative, Below, IsLength, Holds, held_at, IsTrue, AllTrue, IsIn, names_only, only, AreLow, Proves, with_claims}

module _ (world : World) where
  pub in_true : (facts : List Fact) (fact : Fact) (slots : List Held) (heap : Heap) → IsIn fact facts → AllTrue world facts slots heap → IsTrue world slots heap fact
  in_true [] fact slots heap is all = absurd is
  in_true (other ∷ facts) fact slots heap is all = ⊎_elim (λ e. subst (IsTrue world slots heap) (sym e) all.0) (λ rest. in_true facts fact slots heap rest all.1) is

  -- the paths hold what they held, and the arrays of slots are as long
  pub record Stays (kept : Path → Bool) (slots : List Held) (heap : Heap) (later : List Held) (after : Heap) : Type 0 where
    pub held : (path : Path) → kept path ≡ true → held_at world slots heap path ≡ held_at world later after path
    pub size : (path : Path) → kept path ≡ true → size_of heap (held_at world slots heap path) ≡ size_of after (held_at world later after path)

  -- what a path holds is on the heap
  pub through_on : (slots : List Held) (heap : Heap) → AllOn slots heap → (field : ℕ) (held : Held) → IsOn heap (held_through world heap held field)
  through_on slots heap on field (At object) = cell_each (IsOn heap) (object_at heap object).cells (place_in world.place (object_at heap object).kind field) tt (λ k. on.within object k)
  through_on slots heap on field (Num n) = tt
  through_on slots heap on field (Boolean answer) = tt
  through_on slots heap on field Null = tt

  path_on : (slots : List Held) (heap : Heap) → AllOn slots heap → (path : Path) → IsOn heap (held_at world slots heap path)
  path_on slots heap on (Slot slot) = on.held slot
  path_on slots heap on (FieldOf slot field) = through_on slots heap on field (value_at slots slot)

  -- on a later heap arrays are as long
  pub later_stays : (kept : Path → Bool) (slots : List Held) (heap : Heap) (later : List Held) (after : Heap) → AllOn slots heap → Later heap after
      → ((path : Path) → kept path ≡ true → held_at world slots heap path ≡ held_at world later after path) → Stays kept slots heap later after
  later_stays kept slots heap later after on grows held = record {
    held = held;
    size = λ path e. ap (λ (r : Reading). r.size) (reading_later heap after (held_at world slots heap path) grows (path_on slots heap on path)) ∙ ap (size_of after) (held path e);
  }

  module _ (kept : Path → Bool) (slots : List Held) (heap : Heap) (later : List Held) (after : Heap) (stays : Stays kept slots heap later after) where
    fact_stays : (fact : Fact) → names_only kept fact ≡ true → IsTrue world slots heap fact → IsTrue world later after fact
    fact_stays (NotNegative path) e is = subst (λ held. pos 0 ≤ℤ int_of held) (stays.held path e) is
    fact_stays (Below path array) e is =
        let both = and_parts (kept path) (kept (Slot array)) e in
        subst (λ held. int_of held <ℤ size_of after (value_at later array)) (stays.held path both.0)
        (subst (λ size. int_of (held_at world slots heap path) <ℤ size) (stays.size (Slot array) both.1) is)
    fact_stays (IsLength slot array) e is =
        let both = and_parts (kept (Slot slot)) (kept (Slot array)) e in
        ap int_of (sym (stays.held (Slot slot) both.0)) ∙ (is ∙ stays.size (Slot array) both.1)
    fact_stays (IsFresh path) e is = (λ i. record { int = int_of (sym (stays.held path e) i); size = sym (stays.size path e) i }) ∙ is
    fact_stays (Holds slot path) e is =
        let both = and_parts (kept (Slot slot)) (kept path) e in
        sym (stays.held (Slot slot) both.0) ∙ (is ∙ stays.held path both.1)

    by_kept : (fact : Fact) (facts : List Fact) (b : Bool) → names_only kept fact ≡ b → IsTrue world slots heap fact → AllTrue world (only kept facts) later after
        → AllTrue world (if b then fact ∷ only kept facts else only kept facts) later after
    by_kept fact facts true e is rest = (fact_stays fact e is, rest)
    by_kept fact facts false e is rest = rest

    pub all_stay : ((path : Path) → kept path ≡ true) → (facts : List Fact) → AllTrue world facts slots heap → AllTrue world facts later after
    all_stay every [] all = tt
    all_stay every (fact ∷ facts) all = (fact_stays fact (every_name fact) all.0, all_stay every facts all.1)
      where
        every_name : (fact : Fact) → names_only kept fact ≡ true
        every_name (NotNegative path) = every path
        every_name (Below path array) = rw (every path) (every (Slot array))
        every_name (IsLength slot array) = rw (every (Slot slot)) (every (Slot array))
        every_name (IsFresh path) = every path
        every_name (Holds slot path) = rw (every (Slot slot)) (every path)

    pub only_true : (facts : List Fact) → AllTrue world facts slots heap → AllTrue world (only kept facts) later after
    only_true [] all = tt
    only_true (fact ∷ facts) all = by_kept fact facts (names_only kept fact) refl all.0 (only_true facts all.1)

  -- ---- claims

  le_is : (a b : ℤ) → int_le a b ≡ true → a ≤ℤ b
  le_is a b e = grind (arith, ints, nat_tests)

  by_low : (path : Path) (slots : List Held) (heap : Heap) (rest : List Fact) (low : ℤ) (b : Bool) → int_le (pos 0) low ≡ b → low ≤ℤ int_of (held_at world slots heap path) → AllTrue world rest slots heap
      → AllTrue world (if b then NotNegative path ∷ rest else rest) slots heap
  by_low path slots heap rest low true e is all = (let zero_is = le_is (pos 0) low e in omega (arith, ints, zero_is, is), all)
  by_low path slots heap rest low false e is all = all

  -- the claims of a path are true, so what they say is
  pub claims_true : (path : Path) (slots : List Held) (heap : Heap) (facts : List Fact) (claims : List Claim) (v : Reading) (names : Name → Reading) → AreTrue claims v names → v.int ≡ int_of (held_at world slots heap path)
      → AllTrue world facts slots heap → AllTrue world (with_claims path claims facts) slots heap
  claims_true path slots heap facts [] v names is same all = all
  claims_true path slots heap facts (Low low ∷ claims) v names is same all =
      by_low path slots heap (with_claims path claims facts) low (int_le (pos 0) low) refl (subst (λ n. low ≤ℤ n) same is.0) (claims_true path slots heap facts claims v names is.1 same all)
  claims_true path slots heap facts (Range low high ∷ claims) v names is same all = claims_true path slots heap facts claims v names is.1 same all
  claims_true path slots heap facts (Length least ∷ claims) v names is same all = claims_true path slots heap facts claims v names is.1 same all
  claims_true path slots heap facts (Same other ∷ claims) v names is same all = claims_true path slots heap facts claims v names is.1 same all
  claims_true path slots heap facts (Less name constant ∷ claims) v names is same all = claims_true path slots heap facts claims v names is.1 same all
  claims_true path slots heap facts (Upper array offset constant ∷ claims) v names is same all = claims_true path slots heap facts claims v names is.1 same all
  claims_true path slots heap facts (Search array ∷ claims) v names is same all = claims_true path slots heap facts claims v names is.1 same all
  claims_true path slots heap facts (Negative array ∷ claims) v names is same all = claims_true path slots heap facts claims v names is.1 same all

  pub proves_true : (path : Path) (slots : List Held) (heap : Heap) (facts : List Fact) (claims : List Claim) (v : Reading) (names : Name → Reading) → Proves facts path claims → v.int ≡ int_of (held_at world slots heap path)
      → AllTrue world facts slots heap → AreTrue claims v names
  proves_true path slots heap facts [] v names proves same all = tt
  proves_true path slots heap facts (Low low ∷ claims) v names proves same all =
      let zero_is : pos 0 ≤ℤ v.int = subst (λ n. pos 0 ≤ℤ n) (sym same) (in_true facts (NotNegative path) slots heap proves.1 all) in
      let low_is : low ≤ℤ pos 0 = proves.0 in
      (omega (arith, ints, zero_is, low_is), proves_true path slots heap facts claims v names proves.2 same all)
  proves_true path slots heap facts (Range low high ∷ claims) v names proves same all = absurd proves
  proves_true path slots heap facts (Length least ∷ claims) v names proves same all = absurd proves
  proves_true path slots heap facts (Same other ∷ claims) v names proves same all = absurd proves
  proves_true path slots heap facts (Less name constant ∷ claims) v names proves same all = absurd proves
  proves_true path slots heap facts (Upper array offset constant ∷ claims) v names proves same all = absurd proves
  proves_true path slots heap facts (Search array ∷ claims) v names proves same all = absurd proves
  proves_true path slots heap facts (Negative array ∷ claims) v names proves same all = absurd proves

-- claims that are lower bounds are true of each value with the same int
pub low_same : (claims : List Claim) (v w : Reading) (names others : Name → Reading) → AreLow claims → v.int ≡ w.int → AreTrue claims v names → AreTrue claims w others
low_same [] v w names others low same is = tt
low_same (Low n ∷ claims) v w names others low same is = (subst (λ m. n ≤ℤ m) same is.0, low_same claims v w names others low same is.1)
low_same (Range low_ high ∷ claims) v w names others low same is = absurd low
low_same (Length least ∷ claims) v w names others low same is = absurd low
low_same (Same other ∷ claims) v w names others low same is = absurd low
low_same (Less name constant ∷ claims) v w names others low same is = absurd low
low_same (Upper array offset constant ∷ claims) v w names others low same is = absurd low
low_same (Search array ∷ claims) v w names others low same is = absurd low
low_same (Negative array ∷ claims) v w names others low same is = absurd low
