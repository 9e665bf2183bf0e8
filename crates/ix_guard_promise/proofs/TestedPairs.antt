-- Each guarded access has a test: its own, or that of another access on the same variables.
use Rattle.std.proofs.Common.{◌≡◌, ◌≤◌, Bool, true, false, List, [], ◌∷◌, ◌++◌, Option, Some, None, refl, sym, ap, subst, ◌∙◌, inl, inr}
use Rattle.std.specs.Prelude.{◌⊎◌, ◌&&◌, ◌||◌, not, if◌then◌else◌}
use Rattle.std.specs.List.{list_any}
use Rattle.std.proofs.lemmas.Bool.{false≢true, and_parts}
use Rattle.ix_core.proofs.Cases.{by_test}
use Rattle.ix_tree.specs.declared.annot.Ident.{Ident}
use Rattle.ix_tree.specs.declared.decl.LocalDecl.{LocalDecl}
use Rattle.ix_meaning.specs.declared.note.Meaning.{Meaning}
use Rattle.ix_meaning.specs.declared.note.Meaning.TheVariants as meaning
use Rattle.ix_formed.proofs.NumberLists.{is_itself, both_true, all_so}
use Rattle.ix_guard.specs.Accesses.{Access, Parts}
use Rattle.ix_guard.specs.Tests.{Site, Changes, Pair, is_variable, same_variable, is_kept, is_guarded, pair_of, same_pair, is_tested, is_bound_error}
use Rattle.ix_guard.specs.Trees.{tested_behind, tested}
use Rattle.ix_guard.specs.GuardedAccesses.{changing, guarded_of}
use Rattle.ix_guard_promise.specs.AllAccesses.{AnyAccess}
use Rattle.ix_guard_promise.specs.SourceGuards.{IsAmong, IsOf, IsBehind, tested as behind_test}
use Rattle.ix_guard_promise.proofs.Outlined.{among_so}
use Rattle.ix_guard_promise.specs.SourceAccesses.{any_of}
use Rattle.ix_guard_promise.proofs.AccessesCounted.{accesses_at}
use Rattle.ix_guard_promise.proofs.OneAccess.{among_filtered, only_it}
use Rattle.ix_guard_promise.proofs.AccessesListed.{Listed}

-- ---- pairs of variables

same_as_itself : (m : Option Meaning) → is_variable m ≡ true → same_variable m m ≡ true
same_as_itself (Some (meaning.Local number)) e = is_itself number
same_as_itself (Some (meaning.Param number)) e = is_itself number
same_as_itself None e = absurd (false≢true e)
same_as_itself (Some (meaning.FieldNamed field)) e = absurd (false≢true e)
same_as_itself (Some (meaning.MethodNamed method)) e = absurd (false≢true e)
same_as_itself (Some (meaning.ClassNamed class)) e = absurd (false≢true e)
same_as_itself (Some (meaning.Constant value)) e = absurd (false≢true e)
same_as_itself (Some meaning.LengthOf) e = absurd (false≢true e)

kept_variable : (site : Site) (changes : Changes) (name : Ident) → is_kept site changes name ≡ true → is_variable (site.names.meaning name.span) ≡ true
kept_variable site changes name e = (and_parts (is_variable (site.names.meaning name.span)) _ e).0

module _ (site : Site) (changes : Changes) where
  same_pair_itself : (access : Access) → is_guarded site changes access ≡ true → same_pair (pair_of site access) (pair_of site access) ≡ true
  same_pair_itself access e =
      let kept = (and_parts (list_any (is_bound_error access.index.span) site.errors) (is_kept site changes access.array && is_kept site changes access.index) e).1 in
      let each = and_parts (is_kept site changes access.array) (is_kept site changes access.index) kept in
      both_true _ _ (same_as_itself (site.names.meaning access.array.span) (kept_variable site changes access.array each.0))
      (same_as_itself (site.names.meaning access.index.span) (kept_variable site changes access.index each.1))

  -- ---- the test of an access

  -- A test of the variables of this access.
  pub record HasTest (access : Access) (tests : List Access) : Type 0 where
    pub test : Access
    pub among : IsAmong test tests
    pub same : same_pair (pair_of site access) (pair_of site test) ≡ true

  -- The pair is one of these, or is tested.
  abbrev pub IsDone : Access → List Pair → List Access → Type 0
  IsDone access before tests = (list_any (same_pair (pair_of site access)) before ≡ true) ⊎ HasTest access tests

  any_append : (test : Pair → Bool) (before : List Pair) (pair : Pair) → list_any test (before ++ pair ∷ []) ≡ true → (list_any test before ≡ true) ⊎ (test pair ≡ true)
  any_append test [] pair e = inr (or_false (test pair) e)
    where
      or_false : (b : Bool) → (b || false) ≡ true → b ≡ true
      or_false true e = refl
      or_false false e = e
  any_append test (first ∷ before) pair e = first_or_later (test first) refl (any_append test before pair) e
    where
      lifted : (test first ≡ false) → (list_any test before ≡ true) ⊎ (test pair ≡ true) → (list_any test (first ∷ before) ≡ true) ⊎ (test pair ≡ true)
      lifted f (inl t) = inl (ap (λ b. b || list_any test before) f ∙ t)
      lifted f (inr t) = inr t

      first_or_later : (b : Bool) → test first ≡ b → (list_any test (before ++ pair ∷ []) ≡ true → (list_any test before ≡ true) ⊎ (test pair ≡ true))
          → (test first || list_any test (before ++ pair ∷ [])) ≡ true → (list_any test (first ∷ before) ≡ true) ⊎ (test pair ≡ true)
      first_or_later true t later e = inl (ap (λ b. b || list_any test before) t)
      first_or_later false t later e = lifted t (later (sym (ap (λ b. b || list_any test (before ++ pair ∷ [])) t) ∙ e))

  -- behind an access that is tested
  behind_tested : (access first : Access) (before : List Pair) (tests : List Access) → IsDone access (before ++ pair_of site first ∷ []) tests → IsDone access before (first ∷ tests)
  behind_tested access first before tests (inr t) = inr (record { test = t.test; among = inr t.among; same = t.same })
  behind_tested access first before tests (inl e) = first_or_before (any_append (same_pair (pair_of site access)) before (pair_of site first) e)
    where
      first_or_before : (list_any (same_pair (pair_of site access)) before ≡ true) ⊎ (same_pair (pair_of site access) (pair_of site first) ≡ true) → IsDone access before (first ∷ tests)
      first_or_before (inl t) = inl t
      first_or_before (inr t) = inr (record { test = first; among = inl refl; same = t })

  abbrev tests_from : Bool → List Pair → Access → List Access → List Access
  tests_from b before first rest = if b then first ∷ tested_behind site changes (before ++ pair_of site first ∷ []) rest else tested_behind site changes before rest

  -- an access that is guarded and not tested
  untested : (g l : Bool) → g ≡ true → (g && not l) ≡ false → l ≡ true
  untested true true e f = refl
  untested true false e f = absurd (false≢true (sym f))
  untested false l e f = absurd (false≢true e)

  pub done : (access : Access) (before : List Pair) (accesses : List Access) → IsAmong access accesses → is_guarded site changes access ≡ true → IsDone access before (tested_behind site changes before accesses)
  done access before [] m e = absurd m
  done access before (first ∷ rest) (inl same) e =
      by_test (is_tested site changes before first)
      (λ t. subst (λ b. IsDone access before (tests_from b before first rest)) (sym t)
      (inr (record { test = first; among = inl refl; same = subst (λ a. same_pair (pair_of site access) (pair_of site a) ≡ true) same (same_pair_itself access e) })))
      (λ f. inl (subst (λ a. list_any (same_pair (pair_of site a)) before ≡ true) (sym same)
      (untested (is_guarded site changes first) (list_any (same_pair (pair_of site first)) before) (subst (λ a. is_guarded site changes a ≡ true) same e) f)))
  done access before (first ∷ rest) (inr m) e =
      by_test (is_tested site changes before first)
      (λ t. subst (λ b. IsDone access before (tests_from b before first rest)) (sym t) (behind_tested access first before (tested_behind site changes (before ++ pair_of site first ∷ []) rest) (done access (before ++ pair_of site first ∷ []) rest m e)))
      (λ f. subst (λ b. IsDone access before (tests_from b before first rest)) (sym f) (done access before rest m e))

  has_test : (access : Access) (tests : List Access) → IsDone access [] tests → HasTest access tests
  has_test access tests (inl e) = absurd (false≢true e)
  has_test access tests (inr t) = t

-- ---- expressions behind their tests

module _ (site : Site) (declared : List LocalDecl) (parts : Parts) (own : List AnyAccess) (listed : Listed parts.accesses own) (access : Access) (among : IsAmong access (guarded_of site declared parts)) where
  found : IsAmong access parts.accesses × (is_guarded site (changing site declared parts) access ≡ true)
  found = among_filtered (is_guarded site (changing site declared parts)) parts.accesses among

  -- It is among all accesses.
  pub is_there : IsAmong (any_of access) own
  is_there = among_so (λ a. IsAmong (any_of a) own) access parts.accesses listed found.0

  -- Where no other does, what is evaluated stands behind its test.
  pub guarded_behind : accesses_at access.index.span own ≤ 1 → IsBehind site access.index.span (tested site declared parts) own
  guarded_behind one =
      let t = has_test site (changing site declared parts) access (tested site declared parts) (done site (changing site declared parts) access [] parts.accesses found.0 found.1) in
      let is_of : (y : AnyAccess) → any_of access ≡ y → IsOf site access.index.span t.test y =
      λ y e. record {
        array = access.array;
        index = access.index;
        array_named = ap (λ (a : AnyAccess). a.array) (sym e);
        index_named = ap (λ (a : AnyAccess). a.index) (sym e);
        same = t.same;
      } in
      behind_test t.test t.among
      (all_so (λ y. y.place ≡ access.index.span → any_of access ≡ y) (λ y. y.place ≡ access.index.span → IsOf site access.index.span t.test y) (λ y only at. is_of y (only at)) own
      (only_it access.index.span (any_of access) own refl is_there one))
