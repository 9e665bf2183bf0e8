-- The classes of an accepted source's program fit.
use Rattle.std.proofs.Common.{◌≡◌, ◌≤◌, ◌<◌, ℕ, zero, suc, ◌+◌, Bool, true, false, List, [], ◌∷◌, ◌++◌, length, Option, Some, None, refl, sym, ap, subst, ◌∙◌, arith, length-append, ◌⊎◌, inl, inr, ⊎_elim}
use Rattle.std.specs.Prelude.{if◌then◌else◌, nat_lt, ◌==◌, ◌&&◌, ◌||◌, not, bytes_eq, slice_get, unwrap_or, count_by}
use Rattle.std.specs.List.{list_all}
use Rattle.std.proofs.lemmas.Bool.{false≢true, and_parts}
use Rattle.std.proofs.lemmas.Bool.Decides.{nat_tests}
use Rattle.std.proofs.lemmas.List.Recursion.{is_count_by}
use Rattle.ix_core.specs.declared.program.Class.{Class}
use Rattle.ix_core.specs.declared.program.Method.{Method}
use Rattle.ix_core.specs.declared.program.Program.{Program}
use Rattle.ix_core.specs.Formed.{at_most, class_fits, classes_fit, overriding, numbers_from, parent_fits, ends_within, are_same_numbers, numbers_where}
use Rattle.ix_core.specs.Tables.{method_at, no_method, overridden, way_up, is_among, most_on_way}
use Rattle.ix_core.proofs.Ancestors.{among_parts}
use Rattle.ix_core.proofs.Cases.{by_test, equal}
use Rattle.ix_tree.specs.declared.decl.ClassDecl.{ClassDecl}
use Rattle.ix_tree.specs.declared.decl.Member.{Member}
use Rattle.ix_tree.specs.declared.decl.Member.TheVariants as member
use Rattle.ix_tree.specs.declared.decl.MethodDecl.{MethodDecl}
use Rattle.ix_tree.specs.declared.decl.Unit.{Unit as Source}
use Rattle.ix_tree.specs.Parts.{unit_parts}
use Rattle.ix_meaning.specs.declared.members.Signature.{Signature}
use Rattle.ix_meaning.specs.declared.note.Rule.TheVariants as rule
use Rattle.ix_meaning.specs.Classes.{parents, class_named}
use Rattle.ix_meaning.specs.Inheritance as inheritance
use Rattle.ix_meaning.specs.Limits.{methods_of, all_methods}
use Rattle.ix_meaning.specs.Members as members
use Rattle.ix_meaning.specs.Members.{Callee, world, signature}
use Rattle.ix_meaning.specs.Resolved.{names}
use Rattle.ix_meaning.specs.Source as source
use Rattle.ix_meaning.specs.Source.{Place, place, has_constructor}
use Rattle.ix_plain.specs.declared.numbers.Next.{Next}
use Rattle.ix_plain.specs.Counts.{most_counted}
use Rattle.ix_plain.specs.Members.{next_behind, class_of, own_methods, first_numbers}
use Rattle.ix_plain.specs.Program as program
use Rattle.ix_plain.specs.Program.{Tables, Home, tables, overrides, number_of}
use Rattle.ix_formed.specs.Additions.{AllOf}
use Rattle.ix_formed.specs.NoErrors.{Agrees, MembersSay, ClassesSay}
use Rattle.ix_formed.specs.Shape.{IsNext, AllNumbered, ListsFields, ListsMethods, HasMethods, classes_of, AreDefaults, IfElse, IsOneDefault}
use Rattle.ix_formed.proofs.AllMethods.{program_has}
use Rattle.ix_formed.proofs.ClaimsFit.{Whenever}
use Rattle.ix_formed.proofs.ClassesHaveWays.{HasWay, classes_have_ways}
use Rattle.ix_formed.proofs.DeclaredMethods.{method_says}
use Rattle.ix_formed.proofs.EachMember.{not_broken, said_parts}
use Rattle.ix_formed.proofs.FieldsFit.{IsAccepted, is_small, shape, said}
use Rattle.ix_formed.proofs.HeadsAre.{SignaturesMatch, IsWritten, AreSo, all_match, signatures_parts}
use Rattle.ix_formed.proofs.MethodNumbers.{method_numbers, default_numbers, first_next, first_default}
use Rattle.ix_formed.proofs.Numbering.{goes, goes_on, classes_behind}
use Rattle.ix_formed.proofs.NumberLists.{all_so, all_joined, all_split, both_true}
use Rattle.ix_formed.proofs.OneOfEachName.{same_text, Differ, all_differ, counted, AsksName, numbers, one_asked}
use Rattle.ix_formed.proofs.Overrides.{IsCallee, callees, nearest_is}
use Rattle.ix_formed.proofs.ProgramsHaveShape.{at_most_is, written_length}
use Rattle.ix_formed.proofs.SmallSources.{few_fields}

-- ---- counts

counted_is : (is : ℕ → Bool) (xs : List ℕ) → counted is xs ≡ count_by is xs
counted_is is xs = is_count_by (counted is) is refl (λ x xs. refl) xs

counted_both : (is : ℕ → Bool) (xs ys : List ℕ) → counted is (xs ++ ys) ≡ counted is xs + counted is ys
counted_both is [] ys = omega arith
counted_both is (x ∷ xs) ys = this_too (is x) (counted_both is xs ys)
  where
    this_too : (b : Bool) → counted is (xs ++ ys) ≡ counted is xs + counted is ys → (if b then 1 + counted is (xs ++ ys) else counted is (xs ++ ys)) ≡ (if b then 1 + counted is xs else counted is xs) + counted is ys
    this_too true e = omega (arith, e)
    this_too false e = e

numbers_are : (first : ℕ) (ds : List MethodDecl) → numbers first ds ≡ numbers_from first (length ds)
numbers_are first [] = refl
numbers_are first (d ∷ ds) = let e : suc (length ds) ≡ length (d ∷ ds) = omega arith in ap (λ l. first ∷ l) (numbers_are (first + 1) ds) ∙ ap (numbers_from first) e

-- where no method is asked for none is counted
none_counted : (is : ℕ → Bool) (first : ℕ) (ds : List MethodDecl) → ((k : ℕ) → first ≤ k → k < first + length ds → is k ≡ false) → counted is (numbers first ds) ≡ 0
none_counted is first [] no_k = refl
none_counted is first (d ∷ ds) no_k =
    ap (λ b. if b then 1 + counted is (numbers (first + 1) ds) else counted is (numbers (first + 1) ds)) (no_k first (omega arith) (omega arith))
    ∙ none_counted is (first + 1) ds (λ k le lt. no_k k (omega (arith, le)) (omega (arith, lt)))

-- the numbers of a class's methods, and that of its default constructor where it has one
one_more : (is : ℕ → Bool) (b : Bool) (default : ℕ) → counted is (numbers_from default (if b then 0 else 1)) ≤ (if b then 0 else 1)
one_more is true default = omega arith
one_more is false default = test_or_not (is default)
  where
    test_or_not : (c : Bool) → (if c then 1 + 0 else 0) ≤ 1
    test_or_not true = omega arith
    test_or_not false = omega arith

not_default : (is : ℕ → Bool) (b : Bool) (default : ℕ) → is default ≡ false → counted is (numbers_from default (if b then 0 else 1)) ≡ 0
not_default is true default e = refl
not_default is false default e = ap (λ (c : Bool). if c then 1 + 0 else 0) e

all_at : {A : Type 0} (P : A → Type 0) (d : A) (xs : List A) → AllOf P xs → P d → (k : ℕ) → P (unwrap_or (slice_get xs k) d)
all_at P d [] all none k = none
all_at P d (x ∷ xs) all none zero = all.0
all_at P d (x ∷ xs) all none (suc k) = all_at P d xs all.1 none k

past_front : {A : Type 0} (P : A → Type 0) (d : A) (xs ys : List A) → AllOf P ys → P d → (k : ℕ) → length xs ≤ k → P (unwrap_or (slice_get (xs ++ ys) k) d)
past_front P d [] ys all none k le = all_at P d ys all none k
past_front P d (x ∷ xs) ys all none zero le = absurd (omega (arith, le))
past_front P d (x ∷ xs) ys all none (suc k) le = past_front P d xs ys all none k (omega (arith, le))

module _ (unit : Source) (p : Program) (is : IsAccepted unit p) where
  abbrev t : Tables
  t = tables (names unit) unit.classes

  abbrev pub total : ℕ
  total = length (all_methods unit.classes)

  pub methods_have : HasMethods (tables (names unit) unit.classes) (first_numbers unit.classes) unit.classes p.methods
  methods_have = (program_has (names unit) unit.classes p is.made).0

  pub numbers_go : IsNext (first_numbers unit.classes) unit.classes
  numbers_go =
      let s = is_small unit p is in
      first_next unit.classes s.classes s.methods (let a = few_fields unit.classes in let b = s.members in omega (arith, a, b))

  -- the signatures are those of the methods, and the methods are those that are written
  pub matched_with : (Q : Place → Home → MethodDecl → Type 0) → AreSo unit p is Q (tables (names unit) unit.classes) refl (members.methods unit.classes) 0 (first_numbers unit.classes) unit.classes
      → SignaturesMatch unit p is 0 (members.methods unit.classes) × AllOf (IsWritten unit p is Q (tables (names unit) unit.classes)) methods_have.written
  matched_with Q fine = all_match unit p is Q (tables (names unit) unit.classes) refl (parents unit.classes) (members.methods unit.classes) 0 0 (first_numbers unit.classes) unit.classes methods_have.written [] methods_have.default refl numbers_go
      (omega arith) is.written (said unit p is) methods_have.are_written fine methods_have.same

  abbrev pub HasFewParams : Place → Home → MethodDecl → Type 0
  HasFewParams l at d = length d.params ≤ 32

  few_params : (ss : List Signature) (c : ℕ) (next : Next) (ks : List ClassDecl) → AllOf (λ (d : MethodDecl). length d.params ≤ 32) (all_methods ks) → AreSo unit p is HasFewParams (tables (names unit) unit.classes) refl ss c next ks
  few_params ss c next [] few = tt
  few_params ss c next (k ∷ ks) few = let f = all_split (λ (d : MethodDecl). length d.params ≤ 32) (methods_of k.members) (all_methods ks) few in (f.0, few_params ss (c + 1) (next_behind next k) ks f.1)

  pub matched : SignaturesMatch unit p is 0 (members.methods unit.classes) × AllOf (IsWritten unit p is HasFewParams (tables (names unit) unit.classes)) methods_have.written
  matched = matched_with HasFewParams (few_params (members.methods unit.classes) 0 (first_numbers unit.classes) unit.classes (is_small unit p is).params)

  -- ---- what a method overrides has its name

  abbrev OverNamed : Method → Type 0
  OverNamed method = (over : ℕ) → method.overrides ≡ Some over → (over < total) × ((method_at p over).name ≡ method.name)

  pub signatures_few : (class : List ℕ → Option ℕ) (c : ℕ) (ks : List ClassDecl) → length (members.methods_from class c ks) ≡ length (all_methods ks)
  signatures_few class c [] = refl
  signatures_few class c (k ∷ ks) =
      let a = length-append (members.methods_in class c k.members) (members.methods_from class (c + 1) ks) in
      let b = length-append (methods_of k.members) (all_methods ks) in
      let d = own_few k.members in let e = signatures_few class (c + 1) ks in omega (arith, a, b, d, e)
    where
      own_few : (ms : List Member) → length (members.methods_in class c ms) ≡ length (methods_of ms)
      own_few [] = refl
      own_few (member.Field d ∷ ms) = own_few ms
      own_few (member.Method d ∷ ms) = let e = own_few ms in omega (arith, e)

  pub callable_few : (so : Signature → Bool) (k : ℕ) (ms : List Signature) → Whenever (λ (c : Callee). c.number < k + length ms) (members.callable_if so k ms)
  callable_few so k [] = tt
  callable_few so k (m ∷ ms) = this_or_later (so m) (callable_few so (k + 1) ms)
    where
      later : (o : Option Callee) → Whenever (λ (c : Callee). c.number < (k + 1) + length ms) o → Whenever (λ (c : Callee). c.number < k + length (m ∷ ms)) o
      later None h = tt
      later (Some c) h = omega (arith, h)

      this_or_later : (b : Bool) → Whenever (λ (c : Callee). c.number < (k + 1) + length ms) (members.callable_if so (k + 1) ms) → Whenever (λ (c : Callee). c.number < k + length (m ∷ ms)) (if b then Some (record { number = k; signature = m }) else members.callable_if so (k + 1) ms)
      this_or_later true h = omega arith
      this_or_later false h = later (members.callable_if so (k + 1) ms) h

  -- an instance method that is found has the name, and is written
  abbrev Named : List ℕ → ℕ → Callee → Type 0
  Named name a callee = (callee.number < total) × ((method_at p callee.number).name ≡ name)

  instance_named : (name : List ℕ) (a : ℕ) → Whenever (Named name a) (inheritance.if_instance ((world unit.classes).method a name))
  instance_named name a = only_instance ((world unit.classes).method a name) (callees unit p is (members.is_method_named a name) 0 (members.methods unit.classes) matched.0) (callable_few (members.is_method_named a name) 0 (members.methods unit.classes))
    where
      static_or_not : (m : Callee) → Named name a m → (b : Bool) → Whenever (Named name a) (if b then None else Some m)
      static_or_not m named true = tt
      static_or_not m named false = named

      only_instance : (o : Option Callee) → Whenever (IsCallee unit p is (members.is_method_named a name)) o → Whenever (λ (c : Callee). c.number < 0 + length (members.methods unit.classes)) o
          → Whenever (Named name a) (inheritance.if_instance o)
      only_instance None found few = tt
      only_instance (Some m) found few =
          let count = signatures_few (class_named unit.classes) 0 unit.classes in
          let one = and_parts (m.signature.class == a) (not m.signature.constructor && bytes_eq m.signature.name name) found.so_it_is in
          let two = and_parts (not m.signature.constructor) (bytes_eq m.signature.name name) one.1 in
          static_or_not m (omega (arith, few, count), found.matches.name ∙ same_text m.signature.name name two.1) m.signature.is_static

  written_named : (method : Method) → IsWritten unit p is HasFewParams (tables (names unit) unit.classes) method → OverNamed method
  written_named method w over e =
      let same : method.overrides ≡ overrides (world unit.classes) w.at.class w.decl = ap (λ (x : Method). x.overrides) w.same.same in
      let m = signature (world unit.classes).class w.at.class w.decl in
      by_over (inheritance.overridden (world unit.classes) m) (instance_or_not (m.constructor || m.is_static)) (sym same ∙ e)
    where
      found : Whenever (λ (c : Callee). (c.number < total) × ((method_at p c.number).name ≡ w.decl.name.text))
          (members.nearest (λ a. inheritance.if_instance ((world unit.classes).method a w.decl.name.text)) ((world unit.classes).supers w.at.class))
      found = weaker (members.nearest (λ a. inheritance.if_instance ((world unit.classes).method a w.decl.name.text)) ((world unit.classes).supers w.at.class))
          (nearest_is unit p is (λ a. inheritance.if_instance ((world unit.classes).method a w.decl.name.text)) ((world unit.classes).supers w.at.class) (Named w.decl.name.text) (instance_named w.decl.name.text))
        where
          weaker : (o : Option Callee) → Whenever (λ (c : Callee). (a : ℕ) × (Rattle.ix_meaning.specs.Classes.is_among a ((world unit.classes).supers w.at.class) ≡ true) × Named w.decl.name.text a c) o
              → Whenever (λ (c : Callee). (c.number < total) × ((method_at p c.number).name ≡ w.decl.name.text)) o
          weaker None h = tt
          weaker (Some c) h = h.2

      instance_or_not : (b : Bool) → Whenever (λ (c : Callee). (c.number < total) × ((method_at p c.number).name ≡ w.decl.name.text))
          (if b then None else members.nearest (λ a. inheritance.if_instance ((world unit.classes).method a w.decl.name.text)) ((world unit.classes).supers w.at.class))
      instance_or_not true = tt
      instance_or_not false = found

      by_over : (o : Option Callee) → Whenever (λ (c : Callee). (c.number < total) × ((method_at p c.number).name ≡ w.decl.name.text)) o → number_of o ≡ Some over → (over < total) × ((method_at p over).name ≡ method.name)
      by_over None h e = absurd cc
      by_over (Some c) h e =
          let same : c.number ≡ over = cc in
          let name : method.name ≡ w.decl.name.text = ap (λ (x : Method). x.name) w.same.same in
          (subst (λ n. n < total) same h.0, ap (λ n. (method_at p n).name) (sym same) ∙ h.1 ∙ sym name)

  defaults_override_none : (next : Next) (ks : List ClassDecl) (methods : List Method) → AreDefaults (tables (names unit) unit.classes) next ks methods → AllOf (λ (method : Method). method.overrides ≡ None) methods
  defaults_override_none next [] methods are = subst (AllOf (λ (method : Method). method.overrides ≡ None)) (sym are) tt
  defaults_override_none next (k ∷ ks) methods are = one_or_none (has_constructor k.members) are (λ others rest. defaults_override_none (next_behind next k) ks others rest)
    where
      one_or_none : (b : Bool) → IfElse b (AreDefaults (tables (names unit) unit.classes) (next_behind next k) ks methods) (IsOneDefault (AreDefaults (tables (names unit) unit.classes) (next_behind next k) ks) (tables (names unit) unit.classes) (program.home (tables (names unit) unit.classes) next k) k.name.span methods)
          → ((others : List Method) → AreDefaults (tables (names unit) unit.classes) (next_behind next k) ks others → AllOf (λ (method : Method). method.overrides ≡ None) others) → AllOf (λ (method : Method). method.overrides ≡ None) methods
      one_or_none true are rest = rest methods are
      one_or_none false are rest = subst (AllOf (λ (method : Method). method.overrides ≡ None)) (sym are.2) (ap (λ (m : Method). m.overrides) are.3.same, rest are.1 are.4)

  -- a default constructor overrides none
  past_written : (k : ℕ) → total ≤ k → (method_at p k).overrides ≡ None
  past_written k le =
      let l = written_length (tables (names unit) unit.classes) (first_numbers unit.classes) unit.classes methods_have.written methods_have.are_written in
      subst (λ (ms : List Method). (unwrap_or (slice_get ms k) no_method).overrides ≡ None) (sym methods_have.same)
      (past_front (λ (method : Method). method.overrides ≡ None) no_method methods_have.written methods_have.default (defaults_override_none (first_numbers unit.classes) unit.classes methods_have.default methods_have.are_default) refl k (omega (arith, le, l)))

  over_named : (k : ℕ) → OverNamed (method_at p k)
  over_named k =
      subst (λ (ms : List Method). OverNamed (unwrap_or (slice_get ms k) no_method)) (sym methods_have.same)
      (all_at OverNamed no_method (methods_have.written ++ methods_have.default)
      (all_joined OverNamed methods_have.written methods_have.default (all_so (IsWritten unit p is HasFewParams (tables (names unit) unit.classes)) OverNamed written_named methods_have.written matched.1)
      (all_so (λ (method : Method). method.overrides ≡ None) OverNamed (λ method none over e. absurd (no_over method none over e)) methods_have.default
      (defaults_override_none (first_numbers unit.classes) unit.classes methods_have.default methods_have.are_default)))
      (λ over e. absurd (no_over no_method refl over e)) k)
    where
      no_over : (method : Method) → method.overrides ≡ None → (over : ℕ) → method.overrides ≡ Some over → ⊥
      no_over method none over e = let bad : ◌≡◌ {A = Option ℕ} None (Some over) = sym none ∙ e in absurd cc

  -- the methods that one overrides have its name and are written
  chain_named : (most k n : ℕ) → is_among (way_up (λ below. (method_at p below).overrides) most (Some k)) n ≡ true → (n ≡ k) ⊎ ((n < total) × ((method_at p n).name ≡ (method_at p k).name))
  chain_named zero k n e = absurd (false≢true e)
  chain_named (suc most) k n e =
      ⊎_elim (λ here. inl (sym (equal k n here))) (λ rest. further (method_at p k).overrides refl rest (λ over there. chain_named most over n there))
      (among_parts k n (way_up (λ below. (method_at p below).overrides) most (method_at p k).overrides) e)
    where
      no_way : (most : ℕ) → is_among (way_up (λ below. (method_at p below).overrides) most None) n ≡ true → ⊥
      no_way zero e = false≢true e
      no_way (suc most) e = false≢true e

      further : (o : Option ℕ) → (method_at p k).overrides ≡ o → is_among (way_up (λ below. (method_at p below).overrides) most o) n ≡ true
          → ((over : ℕ) → is_among (way_up (λ below. (method_at p below).overrides) most (Some over)) n ≡ true → (n ≡ over) ⊎ ((n < total) × ((method_at p n).name ≡ (method_at p over).name)))
          → (n ≡ k) ⊎ ((n < total) × ((method_at p n).name ≡ (method_at p k).name))
      further None o e rest = absurd (no_way most e)
      further (Some over) o e rest =
          let named = over_named k over o in
          inr (⊎_elim (λ same. (subst (λ j. j < total) (sym same) named.0, ap (λ j. (method_at p j).name) same ∙ named.1)) (λ there. (there.0, there.1 ∙ named.1)) (rest over e))

  chain_of_default : (k n : ℕ) → total ≤ k → is_among (overridden p k) n ≡ true → n ≡ k
  chain_of_default k n le e =
      let none = past_written k le in
      let only : is_among (k ∷ way_up (λ below. (method_at p below).overrides) 31 None) n ≡ true = subst (λ (o : Option ℕ). is_among (k ∷ way_up (λ below. (method_at p below).overrides) 31 o) n ≡ true) none e in
      ⊎_elim (λ here. sym (equal k n here)) (λ rest. absurd (false≢true rest)) (among_parts k n [] only)

  -- ---- the methods of a class

  less_or_more : (n m : ℕ) → (n < m) ⊎ (m ≤ n)
  less_or_more n m = by_test (nat_lt n m) (λ t. inl (grind (arith, nat_tests))) (λ f. inr (grind (arith, nat_tests)))

  -- the test whether a method overrides the named one, or is it
  abbrev Overrides : ℕ → ℕ → Bool
  Overrides named method = is_among (overridden p method) named

  abbrev IsConstructor : ℕ → Bool
  IsConstructor method = (method_at p method).constructor

  asks_overriding : (named : ℕ) → named < total → (class : List ℕ → Option ℕ) (c first : ℕ) (ms : List Member) → SignaturesMatch unit p is first (members.methods_in class c ms)
      → AsksName (Overrides named) (method_at p named).name first (methods_of ms)
  asks_overriding named lt class c first [] match = tt
  asks_overriding named lt class c first (member.Field d ∷ ms) match = asks_overriding named lt class c first ms match
  asks_overriding named lt class c first (member.Method d ∷ ms) match = (
    (λ e. sym match.0.1.name ∙ ⊎_elim (λ same. ap (λ n. (method_at p n).name) (sym same)) (λ there. sym there.1) (chain_named most_on_way first named e)),
    asks_overriding named lt class c (first + 1) ms match.1,
  )

  -- a constructor has its class's name
  asks_constructor : (l : Place) (named : List ℕ → Option ℕ) (i next first : ℕ) (ms : List Member) → MembersSay (Agrees (names unit) (unit_parts unit)) l named i next ms
      → SignaturesMatch unit p is first (members.methods_in l.world.class l.class ms) → AsksName IsConstructor l.class_name first (methods_of ms)
  asks_constructor l named i next first [] says match = tt
  asks_constructor l named i next first (member.Field d ∷ ms) says match = asks_constructor l named (i + 1) (members.next_field next d) first ms says.2 match
  asks_constructor l named i next first (member.Method d ∷ ms) says match = (
    (λ e.
        let m = signature l.world.class l.class d in
        let c : d.constructor ≡ true = sym match.0.1.constructor ∙ e in
        let notes = (method_says (names unit) (unit_parts unit) l m d says.1).constructor in
        let own = subst (λ b. Rattle.ix_formed.specs.NoErrors.Say (Agrees (names unit) (unit_parts unit)) (if b then Rattle.ix_meaning.specs.Types.wrong_if (not (bytes_eq d.name.text l.class_name)) rule.UnknownName d.name.span
        ++ Rattle.ix_meaning.specs.Types.wrong_if d.mods.is_static rule.NotStatic d.name.span else [])) c notes in
        let wrong = not_broken (Agrees (names unit) (unit_parts unit)) (λ error wrong. wrong) (not (bytes_eq d.name.text l.class_name)) rule.UnknownName d.name.span
        (said_parts (Agrees (names unit) (unit_parts unit)) (Rattle.ix_meaning.specs.Types.wrong_if (not (bytes_eq d.name.text l.class_name)) rule.UnknownName d.name.span) _ own).0 in
        same_text d.name.text l.class_name (not_false (bytes_eq d.name.text l.class_name) wrong)),
    asks_constructor l named (i + 1) next (first + 1) ms says.2 match.1,
  )
    where
      not_false : (b : Bool) → not b ≡ false → b ≡ true
      not_false true e = refl
      not_false false e = absurd (false≢true (sym e))

  -- where no constructor is written none of the written methods is one
  no_constructors : (class : List ℕ → Option ℕ) (c first : ℕ) (ms : List Member) → has_constructor ms ≡ false → SignaturesMatch unit p is first (members.methods_in class c ms)
      → counted IsConstructor (numbers first (methods_of ms)) ≡ 0
  no_constructors class c first [] free match = refl
  no_constructors class c first (member.Field d ∷ ms) free match = no_constructors class c first ms free match
  no_constructors class c first (member.Method d ∷ ms) free match =
      let parts = neither d.constructor (has_constructor ms) free in
      ap (λ b. if b then 1 + counted IsConstructor (numbers (first + 1) (methods_of ms)) else counted IsConstructor (numbers (first + 1) (methods_of ms))) (match.0.1.constructor ∙ parts.0)
      ∙ no_constructors class c (first + 1) ms parts.1 match.1
    where
      neither : (a b : Bool) → (a || b) ≡ false → (a ≡ false) × (b ≡ false)
      neither true b e = absurd (false≢true (sym e))
      neither false b e = (refl, e)

  -- of a class's methods one is a constructor at most
  one_constructor : (l : Place) (next nf : ℕ) (default : ℕ) (ms : List Member) (named : List ℕ → Option ℕ) → Differ ms → MembersSay (Agrees (names unit) (unit_parts unit)) l named 0 nf ms
      → SignaturesMatch unit p is next (members.methods_in l.world.class l.class ms)
      → counted IsConstructor (numbers next (methods_of ms) ++ numbers_from default (if has_constructor ms then 0 else 1)) ≤ 1
  one_constructor l next nf default ms named differ says match =
      let both = counted_both IsConstructor (numbers next (methods_of ms)) (numbers_from default (if has_constructor ms then 0 else 1)) in
      written_or_not (has_constructor ms) refl both
    where
      written_or_not : (b : Bool) → has_constructor ms ≡ b
          → counted IsConstructor (numbers next (methods_of ms) ++ numbers_from default (if has_constructor ms then 0 else 1)) ≡ counted IsConstructor (numbers next (methods_of ms)) + counted IsConstructor (numbers_from default (if has_constructor ms then 0 else 1))
          → counted IsConstructor (numbers next (methods_of ms) ++ numbers_from default (if has_constructor ms then 0 else 1)) ≤ 1
      written_or_not true e both =
          let none : counted IsConstructor (numbers_from default (if has_constructor ms then 0 else 1)) ≡ 0 = ap (λ b. counted IsConstructor (numbers_from default (if b then 0 else 1))) e in
          let one = one_asked IsConstructor l.class_name next ms differ (asks_constructor l named 0 nf next ms says match) in omega (arith, both, none, one)
      written_or_not false e both =
          let none = no_constructors l.world.class l.class next ms e match in
          let one = one_more IsConstructor false default in
          let same : counted IsConstructor (numbers_from default (if has_constructor ms then 0 else 1)) ≡ counted IsConstructor (numbers_from default 1) = ap (λ b. counted IsConstructor (numbers_from default (if b then 0 else 1))) e in omega (arith, both, none, one, same)

  -- and one overrides a method, or is it
  one_overrides : (named : ℕ) (class : List ℕ → Option ℕ) (c next default : ℕ) (b : Bool) (ms : List Member) → Differ ms → SignaturesMatch unit p is next (members.methods_in class c ms) → next + length (methods_of ms) ≤ total → total ≤ default
      → counted (Overrides named) (numbers next (methods_of ms) ++ numbers_from default (if b then 0 else 1)) ≤ 1
  one_overrides named class c next default b ms differ match le past =
      let both = counted_both (Overrides named) (numbers next (methods_of ms)) (numbers_from default (if b then 0 else 1)) in
      ⊎_elim
      (λ lt.
      let one = one_asked (Overrides named) (method_at p named).name next ms differ (asks_overriding named lt class c next ms match) in
      let none = not_default (Overrides named) b default
      (by_test (Overrides named default) (λ t. let same = chain_of_default default named past t in absurd (let l = lt in omega (arith, l, same, past))) (λ f. f)) in
      omega (arith, both, one, none))
      (λ more.
      let none = none_counted (Overrides named) next (methods_of ms)
      (λ k first last. by_test (Overrides named k)
      (λ t. absurd (⊎_elim (λ same. let e = same in omega (arith, e, more, last, le)) (λ there. let l = there.0 in omega (arith, l, more)) (chain_named most_on_way k named t))) (λ f. f)) in
      let one = one_more (Overrides named) b default in
      let few : (if b then 0 else 1) ≤ 1 = (let zero_or_one : (c : Bool) → (if c then 0 else 1) ≤ 1 = either in zero_or_one b) in
      omega (arith, both, none, one, few))
      (less_or_more named total)
    where
      either : (c : Bool) → (if c then 0 else 1) ≤ 1
      either true = omega arith
      either false = omega arith

  -- ---- all classes

  abbrev HasFewMethods : ℕ → Class → Type 0
  HasFewMethods number class = (at_most (count_by (λ method. (method_at p method).constructor) class.methods) 1 ≡ true)
      × (list_all (λ named. at_most (overriding p class named) 1) (numbers_from 0 (length p.methods)) ≡ true)

  all_named : (numbers : List ℕ) (is : ℕ → Bool) → ((n : ℕ) → is n ≡ true) → list_all is numbers ≡ true
  all_named [] is all = refl
  all_named (n ∷ ns) is all = both_true (is n) (list_all is ns) (all n) (all_named ns is all)

  classes_few : (ps : List (Option ℕ)) (ss : List Signature) (c nf : ℕ) (next : Next) (parent : ℕ → Option ℕ) (ks : List ClassDecl) → next.class ≡ c → IsNext next ks → ClassesSay (Agrees (names unit) (unit_parts unit)) (world unit.classes) ps ss c nf ks
      → SignaturesMatch unit p is next.method (members.methods_from (world unit.classes).class c ks) → next.method + length (all_methods ks) ≤ total → total ≤ next.default
      → AllNumbered HasFewMethods next.class (classes_of next parent ks)
  classes_few ps ss c nf next parent [] class number says match le past = tt
  classes_few ps ss c nf next parent (k ∷ ks) class number says match le past =
      let g = goes next k ks number in
      let l = place (world unit.classes) ss c k in
      let parts = signatures_parts unit p is next.method (members.methods_in (world unit.classes).class c k.members) (members.methods_from (world unit.classes).class (c + 1) ks) match in
      let differ = all_differ (names unit) (unit_parts unit) l k.members nf says.0.members in
      let few = length-append (methods_of k.members) (all_methods ks) in
      let enough : next.method + length (methods_of k.members) ≤ most_counted = (let f = number.methods in omega (arith, f, few)) in
      let own_le : next.method + length (methods_of k.members) ≤ total = omega (arith, le, few) in
      let own : (class_of next (parent next.class) k).methods ≡ numbers next.method (methods_of k.members) ++ numbers_from next.default (if has_constructor k.members then 0 else 1) =
      default_numbers (has_constructor k.members) (own_methods [] next.method k.members) next.default
      ∙ ap (λ l. l ++ numbers_from next.default (if has_constructor k.members then 0 else 1)) (method_numbers [] next.method k.members enough ∙ sym (numbers_are next.method (methods_of k.members))) in
      let listed = numbers next.method (methods_of k.members) ++ numbers_from next.default (if has_constructor k.members then 0 else 1) in
      let constructors = one_constructor l next.method nf next.default k.members (source.member_named k.members) differ says.0.members parts.0 in
      let same_length = own_few (world unit.classes).class c k.members in
      let up : (next_behind next k).method ≡ next.method + length (members.methods_in (world unit.classes).class c k.members) = (let m = g.method in omega (arith, m, same_length)) in (
        (
          ap (λ l. at_most (count_by IsConstructor l) 1) own ∙ at_most_is (count_by IsConstructor listed) 1 (let e = counted_is IsConstructor listed in omega (arith, e, constructors)),
          all_named (numbers_from 0 (length p.methods)) (λ named. at_most (overriding p (class_of next (parent next.class) k) named) 1)
              (λ named. ap (λ l. at_most (count_by (Overrides named) l) 1) own
              ∙ at_most_is (count_by (Overrides named) listed) 1 (let e = counted_is (Overrides named) listed in let o = one_overrides named (world unit.classes).class c next.method next.default (has_constructor k.members) k.members differ parts.0 own_le past in omega (arith, e, o))),
        ),
        subst (λ n. AllNumbered HasFewMethods n (classes_of (next_behind next k) parent ks)) g.class
            (classes_few ps ss (c + 1) (members.next_fields nf k.members) (next_behind next k) parent ks (let a = g.class in omega (arith, a, class)) (goes_on next k ks number) says.1
            (subst (λ n. SignaturesMatch unit p is n (members.methods_from (world unit.classes).class (c + 1) ks)) (sym up) parts.1) (let m = g.method in omega (arith, m, le, few)) (let d = g.default in omega (arith, d, past))),
      )
    where
      own_few : (class : List ℕ → Option ℕ) (c : ℕ) (ms : List Member) → length (members.methods_in class c ms) ≡ length (methods_of ms)
      own_few class c [] = refl
      own_few class c (member.Field d ∷ ms) = own_few class c ms
      own_few class c (member.Method d ∷ ms) = let e = own_few class c ms in omega (arith, e)

  all_fit : (number : ℕ) (classes : List Class) → AllNumbered (HasWay p) number classes → AllNumbered (ListsFields p.fields) number classes → AllNumbered (ListsMethods p.methods) number classes → AllNumbered HasFewMethods number classes
      → classes_fit p number classes ≡ true
  all_fit number [] ways fields methods few = refl
  all_fit number (class ∷ classes) ways fields methods few =
      both_true (class_fits p number class) (classes_fit p (number + 1) classes)
      (both_true (parent_fits p class.parent && ends_within p most_on_way (Some number)) _ ways.0
      (both_true (are_same_numbers class.fields (numbers_where (λ f. f.class == number) 0 p.fields)) _ fields.0
      (both_true (are_same_numbers class.methods (numbers_where (λ (method : Method). method.class == number) 0 p.methods)) _ methods.0
      (both_true (at_most (count_by (λ method. (method_at p method).constructor) class.methods) 1) (list_all (λ named. at_most (overriding p class named) 1) (numbers_from 0 (length p.methods))) few.0.0 few.0.1))))
      (all_fit (number + 1) classes ways.1 fields.1 methods.1 few.1)

  -- All classes of the program fit.
  pub classes_do_fit : classes_fit p 0 p.classes ≡ true
  classes_do_fit =
      let first = first_numbers unit.classes in
      let parent = (world unit.classes).parent in
      let same : p.classes ≡ classes_of first parent unit.classes = (program_has (names unit) unit.classes p is.made).1 ∙ classes_behind [] first parent unit.classes in
      let s = is_small unit p is in
      let d = first_default unit.classes s.methods in
      all_fit 0 p.classes (classes_have_ways (names unit) unit p is.accepts is.few is.made) (shape unit p is).fields (shape unit p is).methods
      (subst (AllNumbered HasFewMethods 0) (sym same)
      (classes_few (parents unit.classes) (members.methods unit.classes) 0 0 first parent unit.classes refl numbers_go (said unit p is) matched.0 (omega arith) (omega (arith, d))))
