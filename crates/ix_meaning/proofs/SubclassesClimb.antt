-- The way up from a class, of as many steps as there are classes, passes exactly the classes that it is a subclass of; `cyclic.class` is exactly a class that
-- is a subclass of itself; and the superclasses are exactly the other classes that it is a subclass of. No premise on cycles or on the numbers.
use Rattle.std.proofs.Common.{◌≡◌, ◌≢◌, ◌≤◌, ◌<◌, ℕ, Bool, true, false, List, [], ◌∷◌, ◌++◌, length, Option, Some, None, refl, sym, ap, subst, ◌∙◌, arith}
use Rattle.std.specs.Prelude.{if◌then◌else◌, ◌==◌, ◌||◌, slice_get}
use Rattle.std.proofs.lemmas.Bool.{false≢true}
use Rattle.std.proofs.lemmas.Bool.Decides.{nat_tests}
use Rattle.std.proofs.lemmas.Option.{slice_get_within}
use Rattle.std.specs.List.{AllByRecursion, IsDistinct, list_any}
use Rattle.std.proofs.lemmas.Map.Steps.{length-le_from_distinct_below}
use Rattle.ix_core.proofs.Cases.{by_test, equal, differ}
use Rattle.ix_meaning.specs.Classes.{parent, parent_in, onward, way_up, is_among, is_cyclic, unseen, supers}
use Rattle.ix_meaning.specs.Subclasses.{IsSubclass, direct, further}

same : (n : ℕ) → (n == n) ≡ true
same n = grind (arith, nat_tests)

differs : (n m : ℕ) → n ≢ m → (n == m) ≡ false
differs n m ne = grind (arith, nat_tests)

-- ---- numbers of a list

swapped : (n m : ℕ) → (n == m) ≡ false → (m == n) ≡ false
swapped n m e = differs m n (λ same. differ n m e (sym same))

neither : (a b : Bool) → (a || b) ≡ false → (a ≡ false) × (b ≡ false)
neither true b e = absurd (false≢true (sym e))
neither false b e = (refl, e)

among_append : (x : ℕ) (xs ys : List ℕ) → is_among x (xs ++ ys) ≡ (is_among x xs || is_among x ys)
among_append x [] ys = refl
among_append x (y ∷ xs) ys = ap (λ b. (y == x) || b) (among_append x xs ys) ∙ or_assoc (y == x) (is_among x xs) (is_among x ys)
  where
    or_assoc : (a b c : Bool) → (a || (b || c)) ≡ ((a || b) || c)
    or_assoc true b c = refl
    or_assoc false b c = refl

-- no number of the list stands in it twice
abbrev Distinct : List ℕ → Type 0
Distinct [] = Unit {0}
Distinct (x ∷ xs) = (is_among x xs ≡ false) × Distinct xs

-- none of the second list stands in the first
abbrev Apart : List ℕ → List ℕ → Type 0
Apart seen [] = Unit {0}
Apart seen (x ∷ xs) = (is_among x seen ≡ false) × Apart seen xs

grown : (seen : List ℕ) (x : ℕ) (xs : List ℕ) → is_among x xs ≡ false → Apart seen xs → Apart (seen ++ x ∷ []) xs
grown seen x [] absent apart = tt
grown seen x (y ∷ xs) absent apart =
    let parts = neither (y == x) (is_among x xs) absent in
    (among_append y seen (x ∷ []) ∙ ap (λ b. b || is_among y (x ∷ [])) apart.0 ∙ ap (λ b. b || false) (swapped y x parts.0), grown seen x xs parts.1 apart.1)

all_apart : (x : ℕ) (xs : List ℕ) → is_among x xs ≡ false → AllByRecursion (λ y. (x == y) ≡ false) xs
all_apart x [] e = tt
all_apart x (y ∷ xs) e = let parts = neither (y == x) (is_among x xs) e in (swapped y x parts.0, all_apart x xs parts.1)

as_distinct : (xs : List ℕ) → Distinct xs → IsDistinct ◌==◌ xs
unfolding IsDistinct
as_distinct [] d = tt
as_distinct (x ∷ xs) d = (all_apart x xs d.0, as_distinct xs d.1)

among_below : (n q : ℕ) (xs : List ℕ) → AllByRecursion (λ x. x < n) xs → list_any (λ x. q == x) xs ≡ true → q < n
among_below n q [] all among = absurd (false≢true among)
among_below n q (x ∷ xs) all among =
    by_test (q == x) (λ t. subst (λ y. y < n) (sym (equal q x t)) all.0)
    (λ f. among_below n q xs all.1 (sym (ap (λ b. b || list_any (λ x. q == x) xs) f) ∙ among))

-- so many different numbers are not all below a smaller one
few_distinct : (n : ℕ) (xs : List ℕ) → Distinct xs → AllByRecursion (λ x. x < n) xs → length xs ≤ n
few_distinct n xs d all = length-le_from_distinct_below xs n (as_distinct xs d) (λ q among. among_below n q xs all among)

-- ---- walks

-- a class with a parent is one of the list
parent_within : (ps : List (Option ℕ)) (class above : ℕ) → parent ps class ≡ Some above → class < length ps
parent_within ps class above e = by_entry (slice_get ps class) refl e
  where
    by_entry : (entry : Option (Option ℕ)) → entry ≡ slice_get ps class → parent_in entry ≡ Some above → class < length ps
    by_entry None is e = absurd cc
    by_entry (Some o) is e = slice_get_within ps class o (sym is)

-- The classes from one up to that below another, each the parent of the one before.
data Walk (ps : List (Option ℕ)) : ℕ → ℕ → List ℕ → Type 0 where
  last : (class above : ℕ) → parent ps class ≡ Some above → Walk ps class above (class ∷ [])
  step : (class next above : ℕ) (path : List ℕ) → parent ps class ≡ Some next → Walk ps next above path → Walk ps class above (class ∷ path)

module _ (ps : List (Option ℕ)) where
  passed_within : (class above : ℕ) (path : List ℕ) → Walk ps class above path → AllByRecursion (λ x. x < length ps) path
  passed_within _ _ _ (last class above e) = (parent_within ps class above e, tt)
  passed_within _ _ _ (step class next above path e walk) = (parent_within ps class next e, passed_within next above path walk)

  -- a walk from a class that another passes is a part of it
  part_from : (x class above : ℕ) (path : List ℕ) → Walk ps class above path → Distinct path → is_among x path ≡ true → (part : List ℕ) × Walk ps x above part × Distinct part
  part_from x _ _ _ (last class above e) d among =
      by_test (class == x)
      (λ t. subst (λ y. (part : List ℕ) × Walk ps y above part × Distinct part) (equal class x t) (class ∷ [], last class above e, d))
      (λ f. absurd (false≢true (sym (ap (λ b. b || false) f) ∙ among)))
  part_from x _ _ _ (step class next above path e walk) d among =
      by_test (class == x)
      (λ t. subst (λ y. (part : List ℕ) × Walk ps y above part × Distinct part) (equal class x t) (class ∷ path, step class next above path e walk, d))
      (λ f. part_from x next above path walk d.1 (sym (ap (λ b. b || is_among x path) f) ∙ among))

  -- to each superclass leads a walk that passes no class twice
  walk_to : (class above : ℕ) → IsSubclass ps class above → (path : List ℕ) × Walk ps class above path × Distinct path
  walk_to _ _ (direct class above e) = (class ∷ [], last class above e, (refl, tt))
  walk_to _ _ (further class next above e rest) =
      let found = walk_to next above rest in
      by_test (is_among class found.0)
      (λ t. part_from class next above found.0 found.1 found.2 t)
      (λ f. (class ∷ found.0, step class next above found.0 e found.1, (f, found.2)))

  few_passed : (class above : ℕ) (path : List ℕ) → Walk ps class above path → Distinct path → length path ≤ length ps
  few_passed class above path walk d = few_distinct (length ps) path d (passed_within class above path walk)

  -- ---- ways up

  walk_climbs : (class above : ℕ) (path : List ℕ) (turns : List (Option ℕ)) → Walk ps class above path → length path ≤ length turns → is_among above (way_up ps turns class) ≡ true
  walk_climbs _ _ _ [] (last class above e) le = absurd (omega (arith, le))
  walk_climbs _ _ _ (turn ∷ turns) (last class above e) le =
      ap (λ o. is_among above (onward (way_up ps turns) o)) e ∙ ap (λ b. b || is_among above (way_up ps turns above)) (same above)
  walk_climbs _ _ _ [] (step class next above path e walk) le = absurd (omega (arith, le))
  walk_climbs _ _ _ (turn ∷ turns) (step class next above path e walk) le =
      ap (λ o. is_among above (onward (way_up ps turns) o)) e
      ∙ by_test (next == above) (λ t. ap (λ b. b || is_among above (way_up ps turns next)) t)
      (λ f. ap (λ b. b || is_among above (way_up ps turns next)) f ∙ walk_climbs next above path turns walk (omega (arith, le)))

  -- The way up from a class passes each class that it is a subclass of.
  pub passes_each : (class above : ℕ) → IsSubclass ps class above → is_among above (way_up ps ps class) ≡ true
  passes_each class above below = let walk = walk_to class above below in walk_climbs class above walk.0 ps walk.1 (few_passed class above walk.0 walk.1 walk.2)

  -- And no other class, whatever the number of steps.
  pub passes_no_other : (turns : List (Option ℕ)) (class above : ℕ) → is_among above (way_up ps turns class) ≡ true → IsSubclass ps class above
  passes_no_other [] class above among = absurd (false≢true among)
  passes_no_other (turn ∷ turns) class above among = by_parent (parent ps class) refl (λ next. passes_no_other turns next above) among
    where
      by_parent : (o : Option ℕ) → o ≡ parent ps class → ((next : ℕ) → is_among above (way_up ps turns next) ≡ true → IsSubclass ps next above)
          → is_among above (onward (way_up ps turns) o) ≡ true → IsSubclass ps class above
      by_parent None is rest among = absurd (false≢true among)
      by_parent (Some next) is rest among =
          by_test (next == above) (λ t. subst (λ x. IsSubclass ps class x) (equal next above t) (direct class next (sym is)))
          (λ f. further class next above (sym is) (rest next (sym (ap (λ b. b || is_among above (way_up ps turns next)) f) ∙ among)))

  -- ---- cycles

  pub cyclic_is : (class : ℕ) → is_cyclic ps class ≡ true → IsSubclass ps class class
  cyclic_is class e = passes_no_other ps class class e

  pub is_cyclic_of : (class : ℕ) → IsSubclass ps class class → is_cyclic ps class ≡ true
  is_cyclic_of class below = passes_each class class below

  -- ---- superclasses

  unseen_among : (above : ℕ) (seen classes : List ℕ) → is_among above (unseen seen classes) ≡ true → (is_among above classes ≡ true) × (is_among above seen ≡ false)
  unseen_among above seen [] among = absurd (false≢true among)
  unseen_among above seen (class ∷ classes) among =
      by_test (is_among class seen)
      (λ t. absurd (false≢true (sym (ap (λ b. is_among above (if b then [] else class ∷ unseen (seen ++ class ∷ []) classes)) t) ∙ among)))
      (λ f. here f (unseen_among above (seen ++ class ∷ []) classes) (sym (ap (λ b. is_among above (if b then [] else class ∷ unseen (seen ++ class ∷ []) classes)) f) ∙ among))
    where
      here : is_among class seen ≡ false
          → (is_among above (unseen (seen ++ class ∷ []) classes) ≡ true → (is_among above classes ≡ true) × (is_among above (seen ++ class ∷ []) ≡ false))
          → is_among above (class ∷ unseen (seen ++ class ∷ []) classes) ≡ true → (is_among above (class ∷ classes) ≡ true) × (is_among above seen ≡ false)
      here f further_up among =
          by_test (class == above)
          (λ t. (ap (λ b. b || is_among above classes) t, subst (λ x. is_among x seen ≡ false) (equal class above t) f))
          (λ g.
          let rest = further_up (sym (ap (λ b. b || is_among above (unseen (seen ++ class ∷ []) classes)) g) ∙ among) in
          (ap (λ b. b || is_among above classes) g ∙ rest.0, (neither (is_among above seen) (is_among above (class ∷ [])) (sym (among_append above seen (class ∷ [])) ∙ rest.1)).0))

  -- Each superclass is another class that the class is a subclass of.
  pub supers_above : (class above : ℕ) → is_among above (supers ps class) ≡ true → IsSubclass ps class above × (class ≢ above)
  supers_above class above among =
      let parts = unseen_among above (class ∷ []) (way_up ps ps class) among in
      (passes_no_other ps class above parts.0, differ class above (neither (class == above) false parts.1).0)

  -- a walk to another class can end where it first comes to that class
  short_walk : (class above : ℕ) (path : List ℕ) → Walk ps class above path → Distinct path → class ≢ above
      → (short : List ℕ) × Walk ps class above short × Distinct short × (is_among above short ≡ false) × ((x : ℕ) → is_among x path ≡ false → is_among x short ≡ false)
  short_walk _ _ _ (last class above e) d other = (class ∷ [], last class above e, d, ap (λ b. b || false) (differs class above other), (λ x absent. absent))
  short_walk _ _ _ (step class next above path e walk) d other =
      by_test (next == above)
      (λ t. (
        class ∷ [],
        last class above (subst (λ x. parent ps class ≡ Some x) (equal next above t) e),
        (refl, tt),
        ap (λ b. b || false) (differs class above other),
        (λ x absent. ap (λ b. b || false) (neither (class == x) (is_among x path) absent).0),
      ))
      (λ f.
      let rest = short_walk next above path walk d.1 (differ next above f) in (
        class ∷ rest.0,
        step class next above rest.0 e rest.1,
        (rest.4 class d.0, rest.2),
        ap (λ b. b || is_among above rest.0) (differs class above other) ∙ rest.3,
        (λ x absent. let parts = neither (class == x) (is_among x path) absent in ap (λ b. b || is_among x rest.0) parts.0 ∙ rest.4 x parts.1),
      ))

  goes_on : (above : ℕ) (seen : List ℕ) (class : ℕ) (rest : List ℕ) → is_among class seen ≡ false → (class == above) ≡ false
      → is_among above (unseen seen (class ∷ rest)) ≡ is_among above (unseen (seen ++ class ∷ []) rest)
  goes_on above seen class rest absent other =
      ap (λ b. is_among above (if b then [] else class ∷ unseen (seen ++ class ∷ []) rest)) absent
      ∙ ap (λ b. b || is_among above (unseen (seen ++ class ∷ []) rest)) other

  stands : (seen : List ℕ) (class : ℕ) (rest : List ℕ) → is_among class seen ≡ false → is_among class (unseen seen (class ∷ rest)) ≡ true
  stands seen class rest absent =
      ap (λ b. is_among class (if b then [] else class ∷ unseen (seen ++ class ∷ []) rest)) absent
      ∙ ap (λ b. b || is_among class (unseen (seen ++ class ∷ []) rest)) (same class)

  still_unseen : (above : ℕ) (seen : List ℕ) (class : ℕ) → is_among above seen ≡ false → (class == above) ≡ false → is_among above (seen ++ class ∷ []) ≡ false
  still_unseen above seen class absent other =
      among_append above seen (class ∷ []) ∙ ap (λ b. b || is_among above (class ∷ [])) absent ∙ ap (λ b. b || false) other

  walk_unseen : (class above : ℕ) (path : List ℕ) (turns : List (Option ℕ)) (seen : List ℕ) → Walk ps class above path → length path ≤ length turns → Apart seen path → Distinct path
      → is_among above seen ≡ false → is_among above path ≡ false → is_among above (unseen seen (class ∷ way_up ps turns class)) ≡ true
  walk_unseen _ _ _ [] seen (last class above e) le apart d absent out = absurd (omega (arith, le))
  walk_unseen _ _ _ (turn ∷ turns) seen (last class above e) le apart d absent out =
      let other = (neither (class == above) false out).0 in
      goes_on above seen class (way_up ps (turn ∷ turns) class) apart.0 other
      ∙ ap (λ o. is_among above (unseen (seen ++ class ∷ []) (onward (way_up ps turns) o))) e
      ∙ stands (seen ++ class ∷ []) above (way_up ps turns above) (still_unseen above seen class absent other)
  walk_unseen _ _ _ [] seen (step class next above path e walk) le apart d absent out = absurd (omega (arith, le))
  walk_unseen _ _ _ (turn ∷ turns) seen (step class next above path e walk) le apart d absent out =
      let parts = neither (class == above) (is_among above path) out in
      goes_on above seen class (way_up ps (turn ∷ turns) class) apart.0 parts.0
      ∙ ap (λ o. is_among above (unseen (seen ++ class ∷ []) (onward (way_up ps turns) o))) e
      ∙ walk_unseen next above path turns (seen ++ class ∷ []) walk (omega (arith, le)) (grown seen class path d.0 apart.1) d.1 (still_unseen above seen class absent parts.0) parts.1

  apart_none : (path : List ℕ) → Apart [] path
  apart_none [] = tt
  apart_none (class ∷ path) = (refl, apart_none path)

  -- Each other class that the class is a subclass of is one of its superclasses.
  pub above_in_supers : (class above : ℕ) → IsSubclass ps class above → class ≢ above → is_among above (supers ps class) ≡ true
  above_in_supers class above below other =
      let walk = walk_to class above below in
      let short = short_walk class above walk.0 walk.1 walk.2 other in
      let found = walk_unseen class above short.0 ps [] short.1 (few_passed class above short.0 short.1 short.2) (apart_none short.0) short.2 refl short.3 in
      sym (ap (λ b. b || is_among above (supers ps class)) (differs class above other)) ∙ found
