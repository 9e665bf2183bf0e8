-- Where no class is its own superclass, each way up ends, and passes as many classes as there are superclasses.
use Rattle.std.proofs.Common.{◌≡◌, ◌≤◌, ◌<◌, ℕ, zero, suc, ◌+◌, Bool, true, false, List, [], ◌∷◌, ◌++◌, length, Option, Some, None, refl, sym, ap, subst, ◌∙◌, arith}
use Rattle.std.specs.Prelude.{if◌then◌else◌, ◌==◌, ◌||◌}
use Rattle.std.proofs.lemmas.Bool.{false≢true}
use Rattle.std.proofs.lemmas.Bool.Decides.{nat_tests}
use Rattle.ix_core.specs.declared.program.Program.{Program}
use Rattle.ix_core.specs.Formed.{ends_within}
use Rattle.ix_core.specs.Tables.{class_at}
use Rattle.ix_meaning.specs.Classes.{parent, onward, way_up, is_among, is_cyclic, unseen, supers}
use Rattle.ix_core.proofs.Cases.{by_test, equal, differ}
use Rattle.ix_formed.specs.Additions.{AllOf}

-- ---- numbers of a list

neither : (a b : Bool) → (a || b) ≡ false → (a ≡ false) × (b ≡ false)
neither true b e = absurd (false≢true (sym e))
neither false b e = (refl, e)

either_way : {A : Type 0} (P : A → Type 0) (b : Bool) (u v : A) → P u → P v → P (if b then u else v)
either_way P true u v x y = x
either_way P false u v x y = y

-- no number of the list stands in it twice
abbrev pub Distinct : List ℕ → Type 0
Distinct [] = Unit {0}
Distinct (x ∷ xs) = (is_among x xs ≡ false) × Distinct xs

abbrev without : ℕ → List ℕ → List ℕ
without n [] = []
without n (x ∷ xs) = if x == n then without n xs else x ∷ without n xs

without_not : (n m : ℕ) (xs : List ℕ) → is_among m xs ≡ false → is_among m (without n xs) ≡ false
without_not n m [] e = refl
without_not n m (x ∷ xs) e =
    let parts = neither (x == m) (is_among m xs) e in
    let rest = without_not n m xs parts.1 in
    either_way (λ l. is_among m l ≡ false) (x == n) (without n xs) (x ∷ without n xs) rest (ap (λ b. b || is_among m (without n xs)) parts.0 ∙ rest)

distinct_without : (n : ℕ) (xs : List ℕ) → Distinct xs → Distinct (without n xs)
distinct_without n [] d = tt
distinct_without n (x ∷ xs) d =
    either_way Distinct (x == n) (without n xs) (x ∷ without n xs) (distinct_without n xs d.1) (without_not n x xs d.0, distinct_without n xs d.1)

without_same : (n : ℕ) (xs : List ℕ) → is_among n xs ≡ false → without n xs ≡ xs
without_same n [] e = refl
without_same n (x ∷ xs) e =
    let parts = neither (x == n) (is_among n xs) e in
    ap (λ b. if b then without n xs else x ∷ without n xs) parts.0 ∙ ap (λ l. x ∷ l) (without_same n xs parts.1)

one_less : (n : ℕ) (xs : List ℕ) → Distinct xs → length xs ≤ 1 + length (without n xs)
one_less n [] d = omega arith
one_less n (x ∷ xs) d =
    by_test (x == n)
    (λ t.
    let same = equal x n t in
    let e = without_same n xs (subst (λ k. is_among k xs ≡ false) same d.0) in
    let l = ap (λ b. length (if b then without n xs else x ∷ without n xs)) t ∙ ap (λ (l : List ℕ). length l) e in omega (arith, l))
    (λ f. let l = ap (λ b. length (if b then without n xs else x ∷ without n xs)) f in let rest = one_less n xs d.1 in omega (arith, l, rest))

below_without : (n : ℕ) (xs : List ℕ) → AllOf (λ x. x < suc n) xs → AllOf (λ x. x < n) (without n xs)
below_without n [] a = tt
below_without n (x ∷ xs) a =
    by_test (x == n)
    (λ t. subst (λ b. AllOf (λ x. x < n) (if b then without n xs else x ∷ without n xs)) (sym t) (below_without n xs a.1))
    (λ f. subst (λ b. AllOf (λ x. x < n) (if b then without n xs else x ∷ without n xs)) (sym f)
    ((let u = a.0 in let v = differ x n f in omega (arith, u, v)), below_without n xs a.1))

-- so many different numbers are not all below a smaller one
pub few_distinct : (n : ℕ) (xs : List ℕ) → Distinct xs → AllOf (λ x. x < n) xs → length xs ≤ n
few_distinct zero [] d a = omega arith
few_distinct zero (x ∷ xs) d a = absurd (let u = a.0 in omega (arith, u))
few_distinct (suc n) xs d a =
    let rest = few_distinct n (without n xs) (distinct_without n xs d) (below_without n xs a) in
    let one = one_less n xs d in omega (arith, rest, one)

-- ---- ways up

module _ (ps : List (Option ℕ)) where
  abbrev pub up : List (Option ℕ) → ℕ → List ℕ
  up turns class = way_up ps turns class

  up_more : (turns more : List (Option ℕ)) (class x : ℕ) → length turns ≤ length more → is_among x (up turns class) ≡ true → is_among x (up more class) ≡ true
  up_more [] more class x le e = absurd (false≢true e)
  up_more (turn ∷ turns) [] class x le e = absurd (omega (arith, le))
  up_more (turn ∷ turns) (other ∷ more) class x le e = onward_more (parent ps class) e (λ p. up_more turns more p x (omega (arith, le)))
    where
      onward_more : (o : Option ℕ) → is_among x (onward (up turns) o) ≡ true → ((p : ℕ) → is_among x (up turns p) ≡ true → is_among x (up more p) ≡ true) → is_among x (onward (up more) o) ≡ true
      onward_more None e rest = absurd (false≢true e)
      onward_more (Some p) e rest =
          by_test (p == x) (λ t. ap (λ b. b || is_among x (up more p)) t)
          (λ f. ap (λ b. b || is_among x (up more p)) f ∙ rest p (sym (ap (λ b. b || is_among x (up turns p)) f) ∙ e))

  pub up_longer : (turns : List (Option ℕ)) (class : ℕ) → length (up turns class) ≤ length turns
  up_longer [] class = omega arith
  up_longer (turn ∷ turns) class = onward_longer (parent ps class) (λ p. up_longer turns p)
    where
      onward_longer : (o : Option ℕ) → ((p : ℕ) → length (up turns p) ≤ length turns) → length (onward (up turns) o) ≤ length (turn ∷ turns)
      onward_longer None rest = omega arith
      onward_longer (Some p) rest = let le = rest p in omega (arith, le)

  -- a way with turns left has ended
  up_ended : (p : Program) → ((class : ℕ) → (class_at p class).parent ≡ parent ps class) → (turns : List (Option ℕ)) (class : ℕ) → length (up turns class) < length turns
      → ends_within p (suc (length (up turns class))) (Some class) ≡ true
  up_ended p same [] class lt = absurd (omega (arith, lt))
  up_ended p same (turn ∷ turns) class lt =
      ap (ends_within p (length (up (turn ∷ turns) class))) (same class) ∙ onward_ended (parent ps class) lt (λ above. up_ended p same turns above)
    where
      onward_ended : (o : Option ℕ) → length (onward (up turns) o) < length (turn ∷ turns) → ((above : ℕ) → length (up turns above) < length turns → ends_within p (suc (length (up turns above))) (Some above) ≡ true)
          → ends_within p (length (onward (up turns) o)) o ≡ true
      onward_ended None lt rest = refl
      onward_ended (Some above) lt rest = rest above (omega (arith, lt))

  module _ (acyclic : (class : ℕ) → class < length ps → is_cyclic ps class ≡ false) (within : (class above : ℕ) → parent ps class ≡ Some above → above < length ps) where
    pub up_within : (turns : List (Option ℕ)) (class : ℕ) → AllOf (λ x. x < length ps) (up turns class)
    up_within [] class = tt
    up_within (turn ∷ turns) class = onward_within (parent ps class) refl (λ p. up_within turns p)
      where
        onward_within : (o : Option ℕ) → o ≡ parent ps class → ((p : ℕ) → AllOf (λ x. x < length ps) (up turns p)) → AllOf (λ x. x < length ps) (onward (up turns) o)
        onward_within None e rest = tt
        onward_within (Some p) e rest = (within class p (sym e), rest p)

    pub up_distinct : (turns : List (Option ℕ)) (class : ℕ) → class < length ps → length turns ≤ length ps → Distinct (class ∷ up turns class)
    up_distinct [] class lt le = (refl, tt)
    up_distinct (turn ∷ turns) class lt le = (
      by_test (is_among class (up (turn ∷ turns) class)) (λ t. absurd (false≢true (sym (acyclic class lt) ∙ up_more (turn ∷ turns) ps class class le t))) (λ f. f),
      onward_distinct (parent ps class) refl (λ p lt. up_distinct turns p lt (omega (arith, le))),
    )
      where
        onward_distinct : (o : Option ℕ) → o ≡ parent ps class → ((p : ℕ) → p < length ps → Distinct (p ∷ up turns p)) → Distinct (onward (up turns) o)
        onward_distinct None e rest = tt
        onward_distinct (Some p) e rest = rest p (within class p (sym e))

    -- the way up from a class ends before it has passed them all
    pub up_short : (class : ℕ) → class < length ps → length (up ps class) < length ps
    up_short class lt = let le = few_distinct (length ps) (class ∷ up ps class) (up_distinct ps class lt (omega arith)) (lt, up_within ps class) in omega (arith, le)

    -- ---- superclasses

    among_append : (x : ℕ) (xs ys : List ℕ) → is_among x (xs ++ ys) ≡ (is_among x xs || is_among x ys)
    among_append x [] ys = refl
    among_append x (y ∷ xs) ys = ap (λ b. (y == x) || b) (among_append x xs ys) ∙ or_assoc (y == x) (is_among x xs) (is_among x ys)
      where
        or_assoc : (a b c : Bool) → (a || (b || c)) ≡ ((a || b) || c)
        or_assoc true b c = refl
        or_assoc false b c = refl

    -- none of the second list stands in the first
    abbrev Apart : List ℕ → List ℕ → Type 0
    Apart seen xs = AllOf (λ x. is_among x seen ≡ false) xs

    same_swapped : (x y : ℕ) → (x == y) ≡ false → (y == x) ≡ false
    same_swapped x y e = grind (arith, nat_tests)

    grown : (seen : List ℕ) (x : ℕ) (xs : List ℕ) → is_among x xs ≡ false → Apart seen xs → Apart (seen ++ x ∷ []) xs
    grown seen x [] absent apart = tt
    grown seen x (y ∷ xs) absent apart =
        let parts = neither (y == x) (is_among x xs) absent in
        (among_append y seen (x ∷ []) ∙ ap (λ b. b || is_among y (x ∷ [])) apart.0 ∙ ap (λ b. b || false) (same_swapped y x parts.0), grown seen x xs parts.1 apart.1)

    unseen_all : (seen xs : List ℕ) → Apart seen xs → Distinct xs → unseen seen xs ≡ xs
    unseen_all seen [] apart d = refl
    unseen_all seen (x ∷ xs) apart d =
        ap (λ b. if b then [] else x ∷ unseen (seen ++ x ∷ []) xs) apart.0 ∙ ap (λ l. x ∷ l) (unseen_all (seen ++ x ∷ []) xs (grown seen x xs d.0 apart.1) d.1)

    apart_one : (x : ℕ) (xs : List ℕ) → is_among x xs ≡ false → Apart (x ∷ []) xs
    apart_one x [] absent = tt
    apart_one x (y ∷ xs) absent = let parts = neither (y == x) (is_among x xs) absent in (ap (λ b. b || false) (same_swapped y x parts.0), apart_one x xs parts.1)

    -- the superclasses are all classes on the way up
    pub supers_are : (class : ℕ) → class < length ps → supers ps class ≡ up ps class
    supers_are class lt = let d = up_distinct ps class lt (omega arith) in unseen_all (class ∷ []) (up ps class) (apart_one class (up ps class) d.0) d.1

    ends_more : (p : Program) (few many : ℕ) (o : Option ℕ) → few ≤ many → ends_within p few o ≡ true → ends_within p many o ≡ true
    ends_more p zero zero o le e = e
    ends_more p zero (suc many) None le e = refl
    ends_more p zero (suc many) (Some class) le e = absurd (false≢true e)
    ends_more p (suc few) zero o le e = absurd (omega (arith, le))
    ends_more p (suc few) (suc many) None le e = refl
    ends_more p (suc few) (suc many) (Some class) le e = ends_more p few many (class_at p class).parent (omega (arith, le)) e

    -- A way passes few classes where few are its superclasses.
    pub way_ends : (p : Program) → ((class : ℕ) → (class_at p class).parent ≡ parent ps class) → (most class : ℕ) → class < length ps → 1 + length (supers ps class) ≤ most
        → ends_within p most (Some class) ≡ true
    way_ends p same most class lt few =
        let e = ap (λ (l : List ℕ). length l) (supers_are class lt) in
        ends_more p (suc (length (up ps class))) most (Some class) (omega (arith, few, e)) (up_ended p same ps class (up_short class lt))
