-- The method that a call finds is the source's (JLS 15.12.4.4): of the nearest class that has one, the first method that is the named one or overrides it.
use Rattle.std.proofs.Common.{◌≡◌, ◌≤◌, ◌<◌, ℕ, zero, suc, ◌+◌, Bool, true, false, List, [], ◌∷◌, ◌++◌, length, Option, Some, None, refl, sym, ap, ◌∙◌, arith}
use Rattle.std.specs.Prelude.{◌==◌, ◌&&◌, if◌then◌else◌, nat_lt, slice_get, unwrap_or, flat_map}
use Rattle.std.proofs.lemmas.Bool.Decides.{nat_tests}
use Rattle.std.proofs.lemmas.Option.{slice_get_past}
use Rattle.ix_text.specs.declared.span.Span.{Span}
use Rattle.ix_core.specs.declared.program.Class.{Class as PlainClass}
use Rattle.ix_core.specs.declared.program.Program.{Program}
use Rattle.ix_core.specs.Formed.{Formed, numbers_from, numbers_where}
use Rattle.ix_core.specs.Tables.{method_at, class_at, no_class, way_up, most_on_way, ancestors, overridden, is_among, first_where, found_method, default_result}
use Rattle.ix_core.proofs.Cases.{by_test}
use Rattle.ix_core.proofs.FormedParts.{first_is, flat_parts, method_listed}
use Rattle.ix_core.proofs.TypedCalls.{SameKind, overridden_same, same_itself}
use Rattle.ix_tree.specs.declared.decl.ClassDecl.{ClassDecl}
use Rattle.ix_tree.specs.declared.decl.MethodDecl.{MethodDecl}
use Rattle.ix_tree.specs.declared.decl.Unit.{Unit as Source}
use Rattle.ix_meaning.specs.declared.members.Signature.{Signature}
use Rattle.ix_meaning.specs.Classes.{parents, parent, onward, supers, unseen}
use Rattle.ix_meaning.specs.Classes as classes
use Rattle.ix_meaning.specs.Limits.{methods_of}
use Rattle.ix_meaning.specs.Members.{nearest, or_nearest}
use Rattle.ix_meaning.specs.Resolved.{names}
use Rattle.ix_meaning.specs.Source.{has_constructor}
use Rattle.ix_plain.specs.declared.numbers.Next.{Next}
use Rattle.ix_plain.specs.Members.{next_behind, first_numbers}
use Rattle.ix_plain.specs.Program.{Tables, Home, tables}
use Rattle.ix_formed.specs.Additions.{AllOf}
use Rattle.ix_formed.proofs.FieldsFit.{IsAccepted, class_count, same_parents, no_cycle, parents_there, few_above}
use Rattle.ix_formed.proofs.WaysUp.{up, up_short, supers_are}
use Rattle.ix_source.specs.Bodies.{Whole, whole, overridden_by, stands_for, found_in, found}
use Rattle.ix_source.specs.ByNumber.{AllClasses}
use Rattle.ix_source.proofs.AcceptedTables.{class_declared, overrides_same, as_many}
use Rattle.ix_source.proofs.DeclaredMembers.{below_class}

-- ---- the first of lists

first_both : (test : ℕ → Bool) (xs ys : List ℕ) → first_where test (xs ++ ys) ≡ or_nearest (first_where test xs) (first_where test ys)
first_both test [] ys = refl
first_both test (x ∷ xs) ys = this_or_later (test x) (first_both test xs ys)
  where
    this_or_later : (b : Bool) → first_where test (xs ++ ys) ≡ or_nearest (first_where test xs) (first_where test ys) → (if b then Some x else first_where test (xs ++ ys)) ≡ or_nearest (if b then Some x else first_where test xs) (first_where test ys)
    this_or_later true rest = refl
    this_or_later false rest = rest

first_of_lists : (test : ℕ → Bool) (of : ℕ → List ℕ) (xs : List ℕ) → first_where test (flat_map of xs) ≡ nearest (λ x. first_where test (of x)) xs
first_of_lists test of [] = refl
first_of_lists test of (x ∷ xs) = first_both test (of x) (flat_map of xs) ∙ ap (or_nearest (first_where test (of x))) (first_of_lists test of xs)

nearest_same : {A : Type 0} (own other : ℕ → Option A) (xs : List ℕ) → ((x : ℕ) → own x ≡ other x) → nearest own xs ≡ nearest other xs
nearest_same own other [] same = refl
nearest_same own other (x ∷ xs) same = ap (λ o. or_nearest o (nearest own xs)) (same x) ∙ ap (or_nearest (other x)) (nearest_same own other xs same)

first_same : (test other : ℕ → Bool) (xs : List ℕ) → ((x : ℕ) → test x ≡ other x) → first_where test xs ≡ first_where other xs
first_same test other [] same = refl
first_same test other (x ∷ xs) same = ap (λ b. if b then Some x else first_where test xs) (same x) ∙ ap (λ o. if other x then Some x else o) (first_same test other xs same)

none_further : (o : Option ℕ) → or_nearest o None ≡ o
none_further None = refl
none_further (Some x) = refl

-- ---- classes up

-- the way up from a class, where there are turns enough
ways_same : (p : Program) (ps : List (Option ℕ)) → ((class : ℕ) → (class_at p class).parent ≡ parent ps class) → (turns : List (Option ℕ)) (class most : ℕ) → length (up ps turns class) < length turns → length (up ps turns class) ≤ most
    → way_up (λ below. (class_at p below).parent) most ((class_at p class).parent) ≡ up ps turns class
ways_same p ps same [] class most lt le = absurd (omega (arith, lt))
ways_same p ps same (turn ∷ turns) class most lt le = ap (way_up (λ below. (class_at p below).parent) most) (same class) ∙ further (parent ps class) most lt le (λ above most lt le. ways_same p ps same turns above most lt le)
  where
    further : (o : Option ℕ) (most : ℕ) → length (onward (up ps turns) o) < length (turn ∷ turns) → length (onward (up ps turns) o) ≤ most
        → ((above most : ℕ) → length (up ps turns above) < length turns → length (up ps turns above) ≤ most → way_up (λ below. (class_at p below).parent) most ((class_at p above).parent) ≡ up ps turns above)
        → way_up (λ below. (class_at p below).parent) most o ≡ onward (up ps turns) o
    further None zero lt le rest = refl
    further None (suc most) lt le rest = refl
    further (Some above) zero lt le rest = absurd (omega (arith, le))
    further (Some above) (suc most) lt le rest = ap (λ l. above ∷ l) (rest above most (omega (arith, lt)) (omega (arith, le)))

-- nothing is asked of methods
abbrev pub Any : Home → MethodDecl → Type 0
Any at decl = Unit {0}

abbrev pub AnyDefault : Home → Span → Type 0
AnyDefault at span = Unit {0}

all_any : (ds : List MethodDecl) → AllOf (λ (d : MethodDecl). Unit {0}) ds
all_any [] = tt
all_any (d ∷ ds) = (tt, all_any ds)

pub any_class : (t : Tables) (next : Next) (decls : List ClassDecl) → AllClasses t Any AnyDefault next decls
any_class t next [] = tt
any_class t next (decl ∷ decls) = (all_any (methods_of decl.members), (λ none. tt), any_class t (next_behind next decl) decls)

module _ (unit : Source) (p : Program) (is : IsAccepted unit p) where
  abbrev w : Whole
  w = whole (names unit) unit.classes

  abbrev ps : List (Option ℕ)
  ps = parents unit.classes

  no_way : (turns : List (Option ℕ)) (class : ℕ) → parent ps class ≡ None → up ps turns class ≡ []
  no_way [] class e = refl
  no_way (turn ∷ turns) class e = ap (onward (up ps turns)) e

  -- A class of the program and those above it are those of the source.
  pub ancestors_same : (class : ℕ) → ancestors p class ≡ class ∷ w.world.supers class
  ancestors_same class =
      ap (λ l. class ∷ l)
      (by_test (nat_lt class (length ps))
      (λ t.
      let lt : class < length ps = grind (arith, nat_tests) in
      let s : supers ps class ≡ up ps ps class = supers_are ps (no_cycle unit p is) (parents_there unit p is) class lt in
      let few = few_above unit p is class lt in
      let long = ap (λ (l : List ℕ). length l) s in
      ways_same p ps (same_parents unit p is) ps class 31 (up_short ps (no_cycle unit p is) (parents_there unit p is) class lt) (omega (arith, few, long)) ∙ sym s)
      (λ t.
      let le : length ps ≤ class = grind (arith, nat_tests) in
      let none : parent ps class ≡ None = ap classes.parent_in (slice_get_past ps class le) in
      ap (way_up (λ below. (class_at p below).parent) 31) (same_parents unit p is class ∙ none) ∙ sym (ap (unseen (class ∷ [])) (no_way ps class none))))

  -- ---- methods

  -- Whether a method stands for the named one is the same in both.
  stands_same : (named most : ℕ) (o : Option ℕ) → is_among (way_up (λ below. (method_at p below).overrides) most o) named ≡ stands_for w named most o
  stands_same named zero None = refl
  stands_same named zero (Some method) = refl
  stands_same named (suc most) None = refl
  stands_same named (suc most) (Some method) =
      ap (λ b. if method == named then true else b)
      (ap (λ o. is_among (way_up (λ below. (method_at p below).overrides) most o) named) (overrides_same unit p is Any AnyDefault (any_class (tables (names unit) unit.classes) (first_numbers unit.classes) unit.classes) method) ∙ stands_same named most (overridden_by w (slice_get w.signatures method)))

  found_where : (named class number : ℕ) (ms : List Signature) → found_in w named class number ms ≡ first_where (λ method. stands_for w named most_on_way (Some method)) (numbers_where (λ (m : Signature). m.class == class) number ms)
  found_where named class number [] = refl
  found_where named class number (m ∷ ms) = own_or_not (m.class == class) (found_where named class (number + 1) ms)
    where
      own_or_not : (b : Bool) → found_in w named class (number + 1) ms ≡ first_where (λ method. stands_for w named most_on_way (Some method)) (numbers_where (λ (m : Signature). m.class == class) (number + 1) ms)
          → (if b && stands_for w named most_on_way (Some number) then Some number else found_in w named class (number + 1) ms)
          ≡ first_where (λ method. stands_for w named most_on_way (Some method)) (if b then number ∷ numbers_where (λ (m : Signature). m.class == class) (number + 1) ms else numbers_where (λ (m : Signature). m.class == class) (number + 1) ms)
      own_or_not true rest = ap (λ o. if stands_for w named most_on_way (Some number) then Some number else o) rest
      own_or_not false rest = rest

  -- a default constructor stands for no written method
  not_written : (named method : ℕ) → named < length w.signatures → length w.signatures ≤ method → stands_for w named most_on_way (Some method) ≡ false
  not_written named method lt le =
      let other : (method == named) ≡ false = grind (arith, nat_tests, lt, le) in
      ap (λ b. if b then true else stands_for w named 31 (overridden_by w (slice_get w.signatures method))) other ∙ ap (λ o. stands_for w named 31 (overridden_by w o)) (slice_get_past w.signatures method le)

  no_default : (named default : ℕ) (b : Bool) → named < length w.signatures → length w.signatures ≤ default → first_where (λ method. stands_for w named most_on_way (Some method)) (numbers_from default (if b then 0 else 1)) ≡ None
  no_default named default true lt le = refl
  no_default named default false lt le = ap (λ b. if b then Some default else None) (not_written named default lt le)

  none_found : (named class number : ℕ) (ms : List Signature) → AllOf (λ (m : Signature). m.class < class) ms → found_in w named class number ms ≡ None
  none_found named class number [] all = refl
  none_found named class number (m ∷ ms) all =
      let other : (m.class == class) ≡ false = (let lt = all.0 in grind (arith, nat_tests)) in
      ap (λ b. if b && stands_for w named most_on_way (Some number) then Some number else found_in w named class (number + 1) ms) other ∙ none_found named class (number + 1) ms all.1

  lower : (class : ℕ) (ms : List Signature) → length unit.classes ≤ class → AllOf (λ (m : Signature). m.class < 0 + length unit.classes) ms → AllOf (λ (m : Signature). m.class < class) ms
  lower class [] le all = tt
  lower class (m ∷ ms) le all = ((let lt = all.0 in omega (arith, le, lt)), lower class ms le all.1)

  -- what a class has of its own
  own_found : (named : ℕ) → named < length w.signatures → (class : ℕ) → first_where (λ method. is_among (overridden p method) named) (class_at p class).methods ≡ found_in w named class 0 w.signatures
  own_found named lt class =
      first_same (λ method. is_among (overridden p method) named) (λ method. stands_for w named most_on_way (Some method)) (class_at p class).methods (λ method. stands_same named most_on_way (Some method))
      ∙ by_test (nat_lt class (length unit.classes))
      (λ t.
      let c = class_declared unit p is Any AnyDefault (any_class (tables (names unit) unit.classes) (first_numbers unit.classes) unit.classes) class (grind (arith, nat_tests)) in
      let test : ℕ → Bool = λ method. stands_for w named most_on_way (Some method) in
      ap (first_where test) c.methods ∙ first_both test (numbers_from c.next.method (length (methods_of c.decl.members))) (numbers_from c.next.default (if has_constructor c.decl.members then 0 else 1))
      ∙ ap (or_nearest (first_where test (numbers_from c.next.method (length (methods_of c.decl.members))))) (no_default named c.next.default (has_constructor c.decl.members) lt c.behind)
      ∙ none_further (first_where test (numbers_from c.next.method (length (methods_of c.decl.members)))) ∙ ap (first_where test) (sym c.signed) ∙ sym (found_where named class 0 w.signatures))
      (λ t.
      let le : length unit.classes ≤ class = grind (arith, nat_tests) in
      let count = class_count unit p is in
      ap (λ (o : Option PlainClass). first_where (λ method. stands_for w named most_on_way (Some method)) (unwrap_or o no_class).methods) (slice_get_past p.classes class (omega (arith, le, count)))
      ∙ sym (none_found named class 0 w.signatures (lower class w.signatures le (below_class (tables (names unit) unit.classes) Any AnyDefault 0 unit.classes))))

  -- The method that runs where the named one is called on an object of the class is the source's.
  pub found_same : (class named : ℕ) → named < length w.methods → found_method p class named ≡ found w class named
  found_same class named lt =
      let less : named < length w.signatures = (let e = as_many unit p is Any AnyDefault (any_class (tables (names unit) unit.classes) (first_numbers unit.classes) unit.classes) in omega (arith, e, lt)) in
      ap (λ o. unwrap_or o named)
      (ap (λ l. first_where (λ method. is_among (overridden p method) named) (flat_map (λ above. (class_at p above).methods) l)) (ancestors_same class)
      ∙ first_of_lists (λ method. is_among (overridden p method) named) (λ above. (class_at p above).methods) (class ∷ w.world.supers class)
      ∙ nearest_same (λ above. first_where (λ method. is_among (overridden p method) named) (class_at p above).methods) (λ above. found_in w named above 0 w.signatures) (class ∷ w.world.supers class) (own_found named less))

  -- It is a written method.
  found_low : (named class number : ℕ) (ms : List Signature) (k : ℕ) → found_in w named class number ms ≡ Some k → k < number + length ms
  found_low named class number [] k e = absurd (cc e)
  found_low named class number (m ∷ ms) k e = this_or_later ((m.class == class) && stands_for w named most_on_way (Some number)) e (λ e. found_low named class (number + 1) ms k e)
    where
      this_or_later : (b : Bool) → (if b then Some number else found_in w named class (number + 1) ms) ≡ Some k → (found_in w named class (number + 1) ms ≡ Some k → k < (number + 1) + length ms) → k < number + length (m ∷ ms)
      this_or_later true e rest = let same : number ≡ k = cc e in omega (arith, same)
      this_or_later false e rest = let lt = rest e in omega (arith, lt)

  nearest_low : (own : ℕ → Option ℕ) (count named : ℕ) (xs : List ℕ) → ((x k : ℕ) → own x ≡ Some k → k < count) → named < count → unwrap_or (nearest own xs) named < count
  nearest_low own count named [] all lt = lt
  nearest_low own count named (x ∷ xs) all lt = this_or_later (own x) (all x) (nearest_low own count named xs all lt)
    where
      this_or_later : (o : Option ℕ) → ((k : ℕ) → o ≡ Some k → k < count) → unwrap_or (nearest own xs) named < count → unwrap_or (or_nearest o (nearest own xs)) named < count
      this_or_later None here rest = rest
      this_or_later (Some k) here rest = here k refl

  pub found_written : (class named : ℕ) → named < length w.methods → found_method p class named < length w.methods
  found_written class named lt =
      let e = as_many unit p is Any AnyDefault (any_class (tables (names unit) unit.classes) (first_numbers unit.classes) unit.classes) in
      let low = nearest_low (λ above. found_in w named above 0 w.signatures) (length w.signatures) named (class ∷ w.world.supers class) (λ above k f. let lt = found_low named above 0 w.signatures k f in omega (arith, lt)) (omega (arith, e, lt)) in
      let same = found_same class named lt in
      omega (arith, low, same, e)

  -- ---- whether it gives something back

  abbrev stands : ℕ → ℕ → Bool
  stands named method = is_among (overridden p method) named

  -- The method that runs has a result exactly where the named one has one, and it is of the same type.
  pub found_kind : Formed p → (class named : ℕ) → SameKind (method_at p (found_method p class named)) (method_at p named)
  found_kind formed class named = by_found (first_where (stands named) (flat_map (λ above. (class_at p above).methods) (ancestors p class))) refl
    where
      by_found : (o : Option ℕ) → first_where (stands named) (flat_map (λ above. (class_at p above).methods) (ancestors p class)) ≡ o → SameKind (method_at p (unwrap_or o named)) (method_at p named)
      by_found None e = same_itself p formed.0 formed.1 named
      by_found (Some method) e =
          let parts = first_is (stands named) (flat_map (λ above. (class_at p above).methods) (ancestors p class)) method e in
          let place = flat_parts (λ above. (class_at p above).methods) (ancestors p class) method parts.1 in
          overridden_same p formed.0 formed.1 most_on_way method named (method_listed p formed.0 formed.1 place.0 method place.2).0 parts.0

  pub found_gives : Formed p → (class named : ℕ) → default_result (method_at p (found_method p class named)).result ≡ default_result (method_at p named).result
  found_gives formed class named = ap default_result (found_kind formed class named).result
