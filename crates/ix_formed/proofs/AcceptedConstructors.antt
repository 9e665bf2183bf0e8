-- The constructor of each class of an accepted source is the program's of its number.
use Rattle.std.proofs.Common.{◌≡◌, ◌≤◌, ◌<◌, ℕ, zero, suc, ◌+◌, Bool, true, false, List, [], ◌∷◌, ◌++◌, length, map, Option, Some, None, refl, sym, ap, subst, ◌∙◌, arith, append_assoc, length-append, ◌⊎◌, inl, inr, ⊎_elim}
use Rattle.std.specs.Prelude.{if◌then◌else◌, ◌&&◌, ◌||◌, not, ◌==◌, bytes_eq, slice_get, unwrap_or}
use Rattle.std.proofs.lemmas.Bool.{false≢true, and_parts}
use Rattle.std.proofs.lemmas.Bool.Decides.{nat_tests}
use Rattle.std.proofs.lemmas.List.{append-nil}
use Rattle.ix_core.specs.declared.claim.Type_.{Type_}
use Rattle.ix_core.specs.declared.claim.Type_.TheVariants as type
use Rattle.ix_core.specs.declared.program.Method.{Method}
use Rattle.ix_core.specs.declared.program.Program.{Program}
use Rattle.ix_core.specs.Tables.{method_at, no_method}
use Rattle.ix_core.specs.Types.{is_type, is_class}
use Rattle.ix_core.proofs.Cases.{by_test, equal}
use Rattle.ix_tree.specs.declared.decl.ClassDecl.{ClassDecl}
use Rattle.ix_tree.specs.declared.decl.Member.{Member}
use Rattle.ix_tree.specs.declared.decl.Member.TheVariants as member
use Rattle.ix_tree.specs.declared.decl.Unit.{Unit as Source}
use Rattle.ix_tree.specs.Parts.{unit_parts}
use Rattle.ix_meaning.specs.declared.members.Signature.{Signature}
use Rattle.ix_meaning.specs.declared.note.Rule.TheVariants as rule
use Rattle.ix_meaning.specs.Classes.{parents, class_named}
use Rattle.ix_meaning.specs.Limits.{methods_of, all_methods}
use Rattle.ix_meaning.specs.Members as members
use Rattle.ix_meaning.specs.Members.{ClassOf, Callee, world, signature, callable_if, is_constructor_named, own_constructor, constructor_params, params_in, class_name}
use Rattle.ix_meaning.specs.Resolved.{names}
use Rattle.ix_meaning.specs.Source.{Place, place, has_constructor, member_named}
use Rattle.ix_meaning.specs.Types.{wrong_if}
use Rattle.ix_plain.specs.declared.numbers.Next.{Next}
use Rattle.ix_plain.specs.Counts.{most_counted}
use Rattle.ix_plain.specs.Members.{next_behind, constructor_in, constructors_from, constructors, first_numbers}
use Rattle.ix_plain.specs.Program.{Tables, Home, tables, home}
use Rattle.ix_plain.specs.Scope.{Site, constructor_at}
use Rattle.ix_formed.specs.Additions.{AllOf}
use Rattle.ix_formed.specs.NoErrors.{Agrees, Say, MembersSay, ClassesSay}
use Rattle.ix_formed.specs.Shape.{IsNext, AreMethods, AreAllMethods, IsDefault, IsOneDefault, IfElse, AreDefaults}
use Rattle.ix_formed.specs.Typed.{TakesTypes, ConstructorIs}
use Rattle.ix_formed.proofs.AcceptedMembers.{whenever_is}
use Rattle.ix_formed.proofs.AcceptedMethods.{IsCalled, signatures_called, takes_types, found_so}
use Rattle.ix_formed.proofs.ClassesFit.{methods_have, numbers_go}
use Rattle.ix_formed.proofs.DeclaredMethods.{method_says}
use Rattle.ix_formed.proofs.EachMember.{said_parts, not_broken}
use Rattle.ix_formed.proofs.FieldsFit.{IsAccepted, class_count, said, is_small}
use Rattle.ix_formed.proofs.Numbering.{goes, goes_on, one_more}
use Rattle.ix_formed.proofs.MethodNumbers.{first_default}
use Rattle.ix_formed.proofs.NumberLists.{both_true, is_itself, all_joined, all_so}

-- ---- the first of a list

skipped : (so : Signature → Bool) (k : ℕ) (xs ys : List Signature) → AllOf (λ m. so m ≡ false) xs → callable_if so k (xs ++ ys) ≡ callable_if so (k + length xs) ys
skipped so k [] ys none = let e : k ≡ k + 0 = omega arith in ap (λ n. callable_if so n ys) e
skipped so k (x ∷ xs) ys none =
    let e : (k + 1) + length xs ≡ k + length (x ∷ xs) = omega arith in
    ap (λ b. if b then Some (record { number = k; signature = x }) else callable_if so (k + 1) (xs ++ ys)) none.0 ∙ skipped so (k + 1) xs ys none.1 ∙ ap (λ n. callable_if so n ys) e

none_so : (so : Signature → Bool) (k : ℕ) (xs : List Signature) → AllOf (λ m. so m ≡ false) xs → callable_if so k xs ≡ None
none_so so k [] none = refl
none_so so k (x ∷ xs) none = ap (λ b. if b then Some (record { number = k; signature = x }) else callable_if so (k + 1) xs) none.0 ∙ none_so so (k + 1) xs none.1

-- ---- the classes of signatures

of_class : (class : ClassOf) (c : ℕ) (ms : List Member) → AllOf (λ (m : Signature). m.class ≡ c) (members.methods_in class c ms)
of_class class c [] = tt
of_class class c (member.Field d ∷ ms) = of_class class c ms
of_class class c (member.Method d ∷ ms) = (refl, of_class class c ms)

later_classes : (class : ClassOf) (c : ℕ) (ks : List ClassDecl) → AllOf (λ (m : Signature). c ≤ m.class) (members.methods_from class c ks)
later_classes class c [] = tt
later_classes class c (k ∷ ks) =
    all_joined (λ (m : Signature). c ≤ m.class) (members.methods_in class c k.members) (members.methods_from class (c + 1) ks)
    (all_so (λ (m : Signature). m.class ≡ c) (λ (m : Signature). c ≤ m.class) (λ m e. omega (arith, e)) (members.methods_in class c k.members) (of_class class c k.members))
    (all_so (λ (m : Signature). c + 1 ≤ m.class) (λ (m : Signature). c ≤ m.class) (λ m e. omega (arith, e)) (members.methods_from class (c + 1) ks) (later_classes class (c + 1) ks))

other_class : (c : ℕ) (name : List ℕ) (m : Signature) → (m.class == c) ≡ false → is_constructor_named c name m ≡ false
other_class c name m e = ap (λ b. b && (m.constructor && bytes_eq m.name name)) e

less_other : (n m : ℕ) → n < m → (n == m) ≡ false
less_other n m lt = by_test (n == m) (λ t. let e = equal n m t in absurd (omega (arith, lt, e))) (λ f. f)

more_other : (n m : ℕ) → m < n → (n == m) ≡ false
more_other n m lt = by_test (n == m) (λ t. let e = equal n m t in absurd (omega (arith, lt, e))) (λ f. f)

-- ---- constructors of a class

-- each constructor has that name
abbrev pub AreNamed : List ℕ → List Member → Type 0
AreNamed name [] = Unit {0}
AreNamed name (member.Field d ∷ ms) = AreNamed name ms
AreNamed name (member.Method d ∷ ms) = (d.constructor ≡ true → bytes_eq d.name.text name ≡ true) × AreNamed name ms

-- the one that is written, or else the default one
abbrev IsOneOf : Option Callee → ℕ → ℕ → Bool → Type 0
IsOneOf o number default written = ((callee : Callee) × (o ≡ Some callee) × (callee.number ≡ number)) ⊎ ((o ≡ None) × (number ≡ default) × (written ≡ false))

own_of : (class : ClassOf) (c : ℕ) (name : List ℕ) (default next : ℕ) (ms : List Member) (later : List Signature) → AreNamed name ms → AllOf (λ m. is_constructor_named c name m ≡ false) later
    → next + length (methods_of ms) ≤ most_counted → IsOneOf (callable_if (is_constructor_named c name) next (members.methods_in class c ms ++ later)) (constructor_in default next ms) default (has_constructor ms)
own_of class c name default next [] later named none le = inr (none_so (is_constructor_named c name) next later none, refl, refl)
own_of class c name default next (member.Field d ∷ ms) later named none le = own_of class c name default next ms later named none le
own_of class c name default next (member.Method d ∷ ms) later named none le =
    let up = one_more next (omega (arith, le)) in
    by_constructor d.constructor refl
    (subst (λ n. IsOneOf (callable_if (is_constructor_named c name) (next + 1) (members.methods_in class c ms ++ later)) (constructor_in default n ms) default (has_constructor ms)) (sym up)
    (own_of class c name default (next + 1) ms later named.1 none (omega (arith, le))))
  where
    by_constructor : (b : Bool) → d.constructor ≡ b
        → IsOneOf (callable_if (is_constructor_named c name) (next + 1) (members.methods_in class c ms ++ later)) (constructor_in default (Rattle.ix_plain.specs.Counts.one next) ms) default (has_constructor ms)
        → IsOneOf (callable_if (is_constructor_named c name) next (members.methods_in class c (member.Method d ∷ ms) ++ later)) (constructor_in default next (member.Method d ∷ ms)) default (has_constructor (member.Method d ∷ ms))
    by_constructor true e rest =
        let m = signature class c d in
        let so = both_true (c == c) (m.constructor && bytes_eq m.name name) (is_itself c) (both_true m.constructor (bytes_eq m.name name) e (named.0 e)) in
        inl (
          record { number = next; signature = m },
          ap (λ b. if b then Some (record { number = next; signature = m }) else callable_if (is_constructor_named c name) (next + 1) (members.methods_in class c ms ++ later)) so,
          sym (ap (λ b. if b then next else constructor_in default (Rattle.ix_plain.specs.Counts.one next) ms) e),
        )
    by_constructor false e rest =
        let m = signature class c d in
        let so : is_constructor_named c name m ≡ false = ap (λ b. (c == c) && (b && bytes_eq m.name name)) e ∙ ap (λ b. b && false) (is_itself c) in
        let skip = ap (λ b. if b then Some (record { number = next; signature = m }) else callable_if (is_constructor_named c name) (next + 1) (members.methods_in class c ms ++ later)) so in
        let number = ap (λ b. if b then next else constructor_in default (Rattle.ix_plain.specs.Counts.one next) ms) e in
        ⊎_elim (λ a. inl (a.0, skip ∙ a.1, a.2 ∙ sym number)) (λ a. inr (skip ∙ a.0, number ∙ a.1, ap (λ b. b || has_constructor ms) e ∙ a.2)) rest

-- ---- the list of their numbers

abbrev pub numbers_of : Next → List ClassDecl → List ℕ
numbers_of next [] = []
numbers_of next (k ∷ ks) = constructor_in next.default next.method k.members ∷ numbers_of (next_behind next k) ks

constructors_are : (numbers : List ℕ) (next : Next) (ks : List ClassDecl) → constructors_from numbers next ks ≡ numbers ++ numbers_of next ks
constructors_are numbers next [] = sym (append-nil numbers)
constructors_are numbers next (k ∷ ks) =
    let n = constructor_in next.default next.method k.members in
    constructors_are (numbers ++ n ∷ []) (next_behind next k) ks ∙ append_assoc numbers (n ∷ []) (numbers_of (next_behind next k) ks)

method_behind : (before : List Method) (x : Method) (later : List Method) → slice_get (before ++ x ∷ later) (length before) ≡ Some x
method_behind [] x later = refl
method_behind (y ∷ before) x later = method_behind before x later

own_count : (tables : Tables) (at : Home) (ms : List Member) (methods : List Method) → AreMethods tables at ms methods → length methods ≡ length (methods_of ms)
own_count tables at [] methods are = ap (λ (l : List Method). length l) are
own_count tables at (member.Field d ∷ ms) methods are = own_count tables at ms methods are
own_count tables at (member.Method d ∷ ms) methods are = let a = ap (λ (l : List Method). length l) are.2 in let b = own_count tables at ms are.1 are.4 in omega (arith, a, b)

written_count : (tables : Tables) (next : Next) (ks : List ClassDecl) (methods : List Method) → AreAllMethods tables next ks methods → length methods ≡ length (all_methods ks)
written_count tables next [] methods are = ap (λ (l : List Method). length l) are
written_count tables next (k ∷ ks) methods are =
    let a = ap (λ (l : List Method). length l) are.2 in
    let b = length-append are.0 are.1 in
    let c = length-append (methods_of k.members) (all_methods ks) in
    let d = own_count tables (home tables next k) k.members are.0 are.3 in
    let e = written_count tables (next_behind next k) ks are.1 are.4 in omega (arith, a, b, c, d, e)

module _ (unit : Source) (p : Program) (is : IsAccepted unit p) where
  abbrev t : Tables
  t = tables (names unit) unit.classes

  abbrev So : Rattle.ix_meaning.specs.declared.note.Note.Note → Type 0
  So = Agrees (names unit) (unit_parts unit)

  abbrev all : List Signature
  all = members.methods unit.classes

  constructors_named : (l : Place) (named : List ℕ → Option ℕ) (i next : ℕ) (ms : List Member) → MembersSay So l named i next ms → AreNamed l.class_name ms
  constructors_named l named i next [] says = tt
  constructors_named l named i next (member.Field d ∷ ms) says = constructors_named l named (i + 1) (members.next_field next d) ms says.2
  constructors_named l named i next (member.Method d ∷ ms) says = (
    (λ e.
        let notes = (method_says (names unit) (unit_parts unit) l (signature l.world.class l.class d) d says.1).constructor in
        let own = subst (λ b. Say So (if b then wrong_if (not (bytes_eq d.name.text l.class_name)) rule.UnknownName d.name.span ++ wrong_if d.mods.is_static rule.NotStatic d.name.span else [])) e notes in
        not_false (bytes_eq d.name.text l.class_name)
        (not_broken So (λ error wrong. wrong) (not (bytes_eq d.name.text l.class_name)) rule.UnknownName d.name.span (said_parts So (wrong_if (not (bytes_eq d.name.text l.class_name)) rule.UnknownName d.name.span) _ own).0)),
    constructors_named l named (i + 1) next ms says.2,
  )
    where
      not_false : (b : Bool) → not b ≡ false → b ≡ true
      not_false true e = refl
      not_false false e = absurd (false≢true (sym e))

  -- the method of that number is a constructor of the class without parameters
  pub record IsPlainConstructor (c number : ℕ) : Type 0 where
    pub there : number < length p.methods
    pub constructor : (method_at p number).constructor ≡ true
    pub class : (method_at p number).class ≡ c
    pub types : (method_at p number).param_types ≡ []
    pub result : (method_at p number).result ≡ type.Void

  -- the constructor of a class with that name
  abbrev ConstructorSays : ℕ → List ℕ → ℕ → Type 0
  ConstructorSays c name number =
      ((callee : Callee) × (own_constructor all c name ≡ Some callee) × (callee.number ≡ number)) ⊎ ((own_constructor all c name ≡ None) × IsPlainConstructor c number)

  abbrev AllConstruct : ℕ → List ClassDecl → List ℕ → Type 0
  AllConstruct c [] ns = Unit {0}
  AllConstruct c (k ∷ ks) [] = ⊥
  AllConstruct c (k ∷ ks) (n ∷ ns) = ConstructorSays c k.name.text n × AllConstruct (c + 1) ks ns

  plain_one : (next : Next) (k : ClassDecl) (before others : List Method) (method : Method) → p.methods ≡ before ++ method ∷ others → IsDefault t (home t next k) k.name.span method → IsPlainConstructor next.class (length before)
  plain_one next k before others method e default =
      let here : method_at p (length before) ≡ method = ap (λ (l : List Method). unwrap_or (slice_get l (length before)) no_method) e ∙ ap (λ (o : Option Method). unwrap_or o no_method) (method_behind before method others) in
      record {
        there = let a = ap (λ (l : List Method). length l) e in let b = length-append before (method ∷ others) in omega (arith, a, b);
        constructor = ap (λ (m : Method). m.constructor) here ∙ ap (λ (m : Method). m.constructor) default.same;
        class = ap (λ (m : Method). m.class) here ∙ ap (λ (m : Method). m.class) default.same;
        types = ap (λ (m : Method). m.param_types) here ∙ ap (λ (m : Method). m.param_types) default.same;
        result = ap (λ (m : Method). m.result) here ∙ ap (λ (m : Method). m.result) default.same;
      }

  all_construct : (ps : List (Option ℕ)) (ss : List Signature) (nf c : ℕ) (next : Next) (ks : List ClassDecl) (before : List Signature) (front defaults : List Method) → next.class ≡ c → IsNext next ks
      → ClassesSay So (world unit.classes) ps ss c nf ks → all ≡ before ++ members.methods_from (class_named unit.classes) c ks → length before ≡ next.method → AllOf (λ (m : Signature). m.class < c) before
      → p.methods ≡ front ++ defaults → length front ≡ next.default → AreDefaults t next ks defaults → AllConstruct c ks (numbers_of next ks)
  all_construct ps ss nf c next [] before front defaults number go says listed count below methods first are = tt
  all_construct ps ss nf c next (k ∷ ks) before front defaults number go says listed count below methods first are =
      let class = class_named unit.classes in
      let name = k.name.text in
      let so = is_constructor_named c name in
      let g = goes next k ks go in
      let own = members.methods_in class c k.members in
      let later = members.methods_from class (c + 1) ks in
      let few = length-append (methods_of k.members) (all_methods ks) in
      let room = go.methods in
      let none_before = all_so (λ (m : Signature). m.class < c) (λ (m : Signature). so m ≡ false) (λ m lt. other_class c name m (less_other m.class c lt)) before below in
      let none_later = all_so (λ (m : Signature). c + 1 ≤ m.class) (λ (m : Signature). so m ≡ false) (λ m le. other_class c name m (more_other m.class c (omega (arith, le)))) later (later_classes class (c + 1) ks) in
      let start : 0 + length before ≡ next.method = omega (arith, count) in
      let here : own_constructor all c name ≡ callable_if so next.method (own ++ later) =
      ap (λ (l : List Signature). callable_if so 0 l) listed ∙ skipped so 0 before (own ++ later) none_before ∙ ap (λ n. callable_if so n (own ++ later)) start in
      let one = own_of class c name next.default next.method k.members later (constructors_named (place (world unit.classes) ss c k) (member_named k.members) 0 nf k.members says.0.members) none_later (omega (arith, room, few)) in
      let same_length = own_few class c k.members in
      let joined = length-append before own in
      let long : length (before ++ own) ≡ (next_behind next k).method = (let m = g.method in omega (arith, m, joined, same_length, count)) in
      let below_next = all_joined (λ (m : Signature). m.class < c + 1) before own
      (all_so (λ (m : Signature). m.class < c) (λ (m : Signature). m.class < c + 1) (λ m lt. omega (arith, lt)) before below)
      (all_so (λ (m : Signature). m.class ≡ c) (λ (m : Signature). m.class < c + 1) (λ m e. omega (arith, e)) own (of_class class c k.members)) in
      default_or_not (has_constructor k.members) refl are here one
      (λ front defaults methods first are.
      all_construct ps ss (members.next_fields nf k.members) (c + 1) (next_behind next k) ks (before ++ own) front defaults (let a = g.class in omega (arith, a, number)) (goes_on next k ks go) says.1
      (listed ∙ sym (append_assoc before own later)) long below_next methods first are)
    where
      own_few : (class : ClassOf) (c : ℕ) (ms : List Member) → length (members.methods_in class c ms) ≡ length (methods_of ms)
      own_few class c [] = refl
      own_few class c (member.Field d ∷ ms) = own_few class c ms
      own_few class c (member.Method d ∷ ms) = let e = own_few class c ms in omega (arith, e)

      default_or_not : (b : Bool) → has_constructor k.members ≡ b
          → IfElse b (AreDefaults t (next_behind next k) ks defaults) (IsOneDefault (AreDefaults t (next_behind next k) ks) t (home t next k) k.name.span defaults)
          → {o : Option Callee} → own_constructor all c k.name.text ≡ o → IsOneOf o (constructor_in next.default next.method k.members) next.default (has_constructor k.members)
          → ((front defaults : List Method) → p.methods ≡ front ++ defaults → length front ≡ (next_behind next k).default → AreDefaults t (next_behind next k) ks defaults → AllConstruct (c + 1) ks (numbers_of (next_behind next k) ks))
          → AllConstruct c (k ∷ ks) (numbers_of next (k ∷ ks))
      default_or_not true e are here one rest = (
        ⊎_elim (λ a. inl (a.0, here ∙ a.1, a.2)) (λ a. absurd (false≢true (sym a.2 ∙ e))) one,
        rest front defaults methods (let d = (goes next k ks go).default in let z : ◌≡◌ {A = ℕ} (if has_constructor k.members then 0 else 1) 0 = ap (λ b. if b then 0 else 1) e in omega (arith, d, z, first)) are,
      )
      default_or_not false e are here one rest =
          let split = methods ∙ ap (λ (l : List Method). front ++ l) are.2 in
          let plain = plain_one next k front are.1 are.0 split are.3 in
          let longer = length-append front (are.0 ∷ []) in (
            ⊎_elim (λ a. inl (a.0, here ∙ a.1, a.2)) (λ a. inr (here ∙ a.0, subst (IsPlainConstructor c) (first ∙ sym a.1) (subst (λ n. IsPlainConstructor n (length front)) number plain))) one,
            rest (front ++ are.0 ∷ []) are.1 (split ∙ sym (append_assoc front (are.0 ∷ []) are.1))
                (let d = (goes next k ks go).default in let z : ◌≡◌ {A = ℕ} (if has_constructor k.members then 0 else 1) 1 = ap (λ b. if b then 0 else 1) e in omega (arith, d, z, first, longer)) are.4,
          )

  constructed : AllConstruct 0 unit.classes (numbers_of (first_numbers unit.classes) unit.classes)
  constructed =
      let have = methods_have unit p is in
      let s = is_small unit p is in
      all_construct (parents unit.classes) (members.methods unit.classes) 0 0 (first_numbers unit.classes) unit.classes [] have.written have.default refl (numbers_go unit p is) (said unit p is) refl refl tt have.same
      (let a = written_count t (first_numbers unit.classes) unit.classes have.written have.are_written in let d = first_default unit.classes s.methods in omega (arith, a, d)) have.are_default

  constructed_at : (c : ℕ) (ks : List ClassDecl) (ns : List ℕ) → AllConstruct c ks ns → (j : ℕ) → j < length ks
      → (k : ClassDecl) × (n : ℕ) × (slice_get ks j ≡ Some k) × (slice_get ns j ≡ Some n) × ConstructorSays (c + j) k.name.text n
  constructed_at c [] ns con j lt = absurd (omega (arith, lt))
  constructed_at c (k ∷ ks) [] con j lt = absurd con
  constructed_at c (k ∷ ks) (n ∷ ns) con zero lt = let e : c ≡ c + 0 = omega arith in (k, n, refl, refl, subst (λ m. ConstructorSays m k.name.text n) e con.0)
  constructed_at c (k ∷ ks) (n ∷ ns) con (suc j) lt =
      let r = constructed_at (c + 1) ks ns con.1 j (omega (arith, lt)) in
      let e : (c + 1) + j ≡ c + suc j = omega arith in (r.0, r.1, r.2, r.3, subst (λ m. ConstructorSays m r.0.name.text r.1) e r.4)

  -- the constructor of a class
  pub constructor_is : (site : Site) → site.constructors ≡ constructors unit.classes → (class : ℕ) → is_class p class ≡ true → ConstructorIs p site class (constructor_params (world unit.classes) class)
  constructor_is site same class there =
      let lt : class < length unit.classes = (let a : class < length p.classes = grind (arith, nat_tests, there) in let b = class_count unit p is in omega (arith, a, b)) in
      let at = constructed_at 0 unit.classes (numbers_of (first_numbers unit.classes) unit.classes) constructed class lt in
      let number : constructor_at site class ≡ at.1 =
      ap (λ (l : List ℕ). unwrap_or (slice_get l class) 0) (same ∙ constructors_are [] (first_numbers unit.classes) unit.classes) ∙ ap (λ (o : Option ℕ). unwrap_or o 0) at.3 in
      let params : constructor_params (world unit.classes) class ≡ params_in (own_constructor all class at.0.name.text) = ap (λ (o : Option ClassDecl). params_in (own_constructor all class (class_name o))) at.2 in
      ⊎_elim
      (λ a.
      let found = whenever_is (λ (x : Callee). IsCalled unit p is x.number x.signature × (is_constructor_named class at.0.name.text x.signature ≡ true)) (own_constructor all class at.0.name.text) a.0
      (found_so (IsCalled unit p is) (is_constructor_named class at.0.name.text) 0 all (signatures_called unit p is)) a.1 in
      let called = found.0 in
      let s = a.0.signature in
      let parts = and_parts (s.class == class) (s.constructor && bytes_eq s.name at.0.name.text) found.1 in
      let is_one = (and_parts s.constructor (bytes_eq s.name at.0.name.text) parts.1).0 in
      build a.0.number (number ∙ sym a.2) s.params (params ∙ ap params_in a.1) (takes_types unit p is site a.0.number s called) (called.matches.constructor ∙ is_one) (called.matches.class ∙ equal s.class class parts.0)
      (unsome (method_at p a.0.number).result type.Void (called.matches.result ∙ called.types.none is_one)))
      (λ a.
      let plain = a.1 in
      build at.1 number [] (params ∙ ap params_in a.0)
      (record { there = plain.there; same = ap (λ (l : List Type_). map (λ t. Some t) l) plain.types; types = subst (AllOf (λ ty. is_type p ty ≡ true)) (sym plain.types) tt }) plain.constructor plain.class plain.result)
      (let e : 0 + class ≡ class = omega arith in subst (λ n. ConstructorSays n at.0.name.text at.1) e at.4)
    where
      unsome : (x y : Type_) → Some x ≡ Some y → x ≡ y
      unsome x y e = ap (λ (o : Option Type_). unwrap_or o type.Void) e

      build : (n : ℕ) → constructor_at site class ≡ n → (ts : List (Option Type_)) → constructor_params (world unit.classes) class ≡ ts → TakesTypes p site n ts → (method_at p n).constructor ≡ true → (method_at p n).class ≡ class
          → (method_at p n).result ≡ type.Void → ConstructorIs p site class (constructor_params (world unit.classes) class)
      build n e ts f takes constructor own void = record {
        takes = subst (λ n. TakesTypes p site n (constructor_params (world unit.classes) class)) (sym e) (subst (TakesTypes p site n) (sym f) takes);
        constructor = ap (λ n. (method_at p n).constructor) e ∙ constructor;
        of_class = ap (λ n. (method_at p n).class) e ∙ own;
        result = ap (λ n. (method_at p n).result) e ∙ void;
      }
