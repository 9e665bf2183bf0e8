-- What outlines say of the parts of a statement, and what is known of its tests.
use Rattle.std.proofs.Common.{◌≡◌, ⊎_elim, Bool, true, false, List, [], ◌∷◌, ◌++◌, refl, sym, subst}
use Rattle.std.specs.Prelude.{◌&&◌, not, if◌then◌else◌}
use Rattle.std.specs.List.{list_any}
use Rattle.std.proofs.lemmas.Bool.{and_parts}
use Rattle.ix_text.specs.declared.span.Span.{Span}
use Rattle.ix_formed.specs.Additions.{AllOf}
use Rattle.ix_formed.proofs.NumberLists.{all_split, all_joined}
use Rattle.ix_guard.specs.Accesses.{Access}
use Rattle.ix_guard.specs.Tests.{Site, Changes, Pair, pair_of, same_pair, is_bound_error, is_guarded, is_tested, is_kept}
use Rattle.ix_guard.specs.Trees.{tested_behind}
use Rattle.ix_guard_promise.specs.AllAccesses.{AnyAccess}
use Rattle.ix_guard_promise.specs.AtPlace.{IsOff, HasNone}
use Rattle.ix_guard_promise.specs.Outlines.{Outline, nothing, node, followed, everything}
use Rattle.ix_guard_promise.specs.SourceGuards.{IsAmong, IsBehind, free, Guards}
use Rattle.ix_guard_promise.specs.SourceGuards.{AreKept}

-- ---- the first statement of an outline

abbrev pub tests_of : Outline → List Access
tests_of nothing = []
tests_of (node tests own others inner later) = tests

abbrev pub own_of : Outline → List AnyAccess
own_of nothing = []
own_of (node tests own others inner later) = own

module _ (site : Site) (place : Span) where
  pub is_behind : (o : Outline) → Guards site place o → IsBehind site place (tests_of o) (own_of o)
  is_behind nothing guards = free tt
  is_behind (node tests own others inner later) guards = guards.0

  -- ---- one behind the other

  pub guards_split : (a b : Outline) → Guards site place (followed a b) → Guards site place a × Guards site place b
  guards_split nothing b guards = (tt, guards)
  guards_split (node tests own others inner later) b guards = let q = guards_split later b guards.1.1.1 in ((guards.0, (guards.1.0, (guards.1.1.0, q.0))), q.1)

  pub guards_both : (a b : Outline) → Guards site place a → Guards site place b → Guards site place (followed a b)
  guards_both nothing b one two = two
  guards_both (node tests own others inner later) b one two = (one.0, (one.1.0, (one.1.1.0, guards_both later b one.1.1.1 two)))

  -- Where no access is at the place each is guarded.
  pub none_guards : (o : Outline) → HasNone place (everything o) → Guards site place o
  none_guards nothing none = tt
  none_guards (node tests own others inner later) none =
      let a = all_split (IsOff place) own (others ++ (everything inner ++ everything later)) none in
      let b = all_split (IsOff place) others (everything inner ++ everything later) a.1 in
      let c = all_split (IsOff place) (everything inner) (everything later) b.1 in
      (free a.0, (b.0, (none_guards inner c.0, none_guards later c.1)))

module _ (place : Span) where
  pub none_split : (xs ys : List AnyAccess) → HasNone place (xs ++ ys) → HasNone place xs × HasNone place ys
  none_split xs ys none = all_split (IsOff place) xs ys none

  pub none_followed : (a b : Outline) → HasNone place (everything (followed a b)) → HasNone place (everything a) × HasNone place (everything b)
  none_followed nothing b none = (tt, none)
  none_followed (node tests own others inner later) b none =
      let one = none_split own (others ++ (everything inner ++ everything (followed later b))) none in
      let two = none_split others (everything inner ++ everything (followed later b)) one.1 in
      let three = none_split (everything inner) (everything (followed later b)) two.1 in
      let four = none_followed later b three.1 in (
        all_joined (IsOff place) own (others ++ (everything inner ++ everything later)) one.0 (all_joined (IsOff place) others (everything inner ++ everything later) two.0 (all_joined (IsOff place) (everything inner) (everything later) three.0 four.0)),
        four.1,
      )

-- ---- tests

-- One of a list is so where all are.
pub among_so : {A : Type 0} (P : A → Type 0) (x : A) (xs : List A) → AllOf P xs → IsAmong x xs → P x
among_so P x [] all among = absurd among
among_so P x (first ∷ rest) all among = ⊎_elim (λ same. subst P (sym same) all.0) (λ more. among_so P x rest all.1 more) among

-- A statement keeps both variables of each of its tests.
pub tested_kept : (site : Site) (changes : Changes) (before : List Pair) (accesses : List Access) → AllOf (AreKept site changes) (tested_behind site changes before accesses)
tested_kept site changes before [] = tt
tested_kept site changes before (access ∷ rest) =
    by_test (is_tested site changes before access) refl (tested_kept site changes (before ++ pair_of site access ∷ []) rest) (tested_kept site changes before rest)
  where
    by_test : (b : Bool) → is_tested site changes before access ≡ b → AllOf (AreKept site changes) (tested_behind site changes (before ++ pair_of site access ∷ []) rest)
        → AllOf (AreKept site changes) (tested_behind site changes before rest)
        → AllOf (AreKept site changes) (if b then access ∷ tested_behind site changes (before ++ pair_of site access ∷ []) rest else tested_behind site changes before rest)
    by_test true e one other =
        let guarded = (and_parts (is_guarded site changes access) (not (list_any (same_pair (pair_of site access)) before)) e).0 in
        let kept = (and_parts (list_any (is_bound_error access.index.span) site.errors) (is_kept site changes access.array && is_kept site changes access.index) guarded).1 in
        let both = and_parts (is_kept site changes access.array) (is_kept site changes access.index) kept in
        (record { array = both.0; index = both.1 }, one)
    by_test false e one other = other
