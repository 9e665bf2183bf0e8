-- What is declared under each number: each written method, and each class with its fields and its constructor.
use Rattle.std.proofs.Common.{◌≡◌, ◌≤◌, ◌<◌, inl, inr, ℕ, zero, suc, ◌+◌, Bool, true, false, List, [], ◌∷◌, ◌++◌, length, map, Option, Some, None, refl, sym, ap, subst, ◌∙◌, arith, append_assoc, length-append}
use Rattle.std.specs.Prelude.{if◌then◌else◌, ◌||◌, ◌==◌, nat_lt, slice_get, unwrap_or, option_map}
use Rattle.std.proofs.lemmas.Bool.{false≢true}
use Rattle.std.proofs.lemmas.Bool.Decides.{nat_tests}
use Rattle.std.proofs.lemmas.List.{append-nil}
use Rattle.ix_text.specs.declared.span.Span.{Span}
use Rattle.ix_core.specs.declared.program.Class.{Class as PlainClass}
use Rattle.ix_core.specs.declared.program.Field.{Field as PlainField}
use Rattle.ix_core.specs.declared.program.Method.{Method}
use Rattle.ix_core.specs.declared.program.Program.{Program}
use Rattle.ix_core.specs.Formed.{numbers_from, numbers_where}
use Rattle.ix_core.specs.Tables.{method_at, class_at, no_method, no_class, no_field}
use Rattle.ix_core.proofs.Cases.{by_test}
use Rattle.ix_tree.specs.declared.decl.ClassDecl.{ClassDecl}
use Rattle.ix_tree.specs.declared.decl.Member.{Member}
use Rattle.ix_tree.specs.declared.decl.Member.TheVariants as member
use Rattle.ix_tree.specs.declared.decl.MethodDecl.{MethodDecl}
use Rattle.ix_meaning.specs.declared.members.Signature.{Signature}
use Rattle.ix_meaning.specs.Limits.{methods_of, all_methods}
use Rattle.ix_meaning.specs.Members as meaning
use Rattle.ix_meaning.specs.Source.{has_constructor}
use Rattle.ix_plain.specs.declared.numbers.Next.{Next}
use Rattle.ix_plain.specs.Counts.{one, most_counted}
use Rattle.ix_plain.specs.Members.{next_behind, constructor_in, constructors_from, class_of, field_of, own_fields, own_methods}
use Rattle.ix_plain.specs.Program.{Tables, Home, home}
use Rattle.ix_formed.specs.Additions.{AllOf}
use Rattle.ix_formed.specs.Shape.{IsMethod, IsDefault, AreMethods, AreAllMethods, AreDefaults, IfElse, IsOneDefault, IsNext, classes_of, fields_of_class, fields_of, field_count}
use Rattle.ix_formed.proofs.MethodNumbers.{method_numbers, default_numbers}
use Rattle.ix_formed.proofs.NumberLists.{all_so, all_joined, where_here}
use Rattle.ix_formed.proofs.Numbering.{one_more, goes, goes_on, fields_counted}
use Rattle.ix_source.specs.Values.{initial}
use Rattle.ix_source.specs.Bodies as bodies
use Rattle.ix_source.specs.Bodies.{Written, Class, Field, written, written_in, written_from, fields_in, classes_from}
use Rattle.ix_source.specs.ByNumber.{AllClasses, IsDeclared, IsTyped, IsClass}
use Rattle.ix_source.proofs.JoinedLists.{get_front, get_behind, get_after}

module _ (tables : Tables) (Q : Home → MethodDecl → Type 0) (R : Home → Span → Type 0) where
  -- ---- written methods

  -- there are as many signatures and meanings as methods
  pub same_count : (at : Home) (class : ℕ) (ms : List Member) (methods : List Method) → AreMethods tables at ms methods → (length methods ≡ length (written_in class ms)) × (length methods ≡ length (meaning.methods_in tables.world.class class ms)) × (length methods ≡ length (methods_of ms))
  same_count at class [] methods are = (ap (λ (l : List Method). length l) are, ap (λ (l : List Method). length l) are, ap (λ (l : List Method). length l) are)
  same_count at class (member.Field d ∷ ms) methods are = same_count at class ms methods are
  same_count at class (member.Method d ∷ ms) methods are =
      let a = ap (λ (l : List Method). length l) are.2 in
      let b = same_count at class ms are.1 are.4 in
      let c = b.0 in let d = b.1 in let e = b.2 in (omega (arith, a, c), omega (arith, a, d), omega (arith, a, e))

  in_class : (next : Next) (class : ClassDecl) (ms : List Member) (methods : List Method) → AreMethods tables (home tables next class) ms methods → AllOf (Q (home tables next class)) (methods_of ms) → (k : ℕ) → k < length methods
      → IsDeclared tables Q R methods (meaning.methods_in tables.world.class next.class ms) (written_in next.class ms) k
  in_class next class [] methods are fine k lt = absurd (let a = ap (λ (l : List Method). length l) are in omega (arith, a, lt))
  in_class next class (member.Field d ∷ ms) methods are fine k lt = in_class next class ms methods are fine k lt
  in_class next class (member.Method d ∷ ms) methods are fine k lt =
      subst (λ l. IsDeclared tables Q R l (meaning.methods_in tables.world.class next.class (member.Method d ∷ ms)) (written_in next.class (member.Method d ∷ ms)) k) (sym are.2)
      (first_or_later k (let a = ap (λ (l : List Method). length l) are.2 in omega (arith, a, lt)) (λ k lt. in_class next class ms are.1 are.4 fine.1 k lt))
    where
      first_or_later : (k : ℕ) → k < length (are.0 ∷ are.1) → ((k : ℕ) → k < length are.1 → IsDeclared tables Q R are.1 (meaning.methods_in tables.world.class next.class ms) (written_in next.class ms) k)
          → IsDeclared tables Q R (are.0 ∷ are.1) (meaning.methods_in tables.world.class next.class (member.Method d ∷ ms)) (written_in next.class (member.Method d ∷ ms)) k
      first_or_later zero lt rest = record { next = next; class = class; decl = d; fine = fine.0; method = are.0; is = are.3; there = refl; signed = refl; means = refl }
      first_or_later (suc k) lt rest =
          let later = rest k (omega (arith, lt)) in
          record { next = later.next; class = later.class; decl = later.decl; fine = later.fine; method = later.method; is = later.is; there = later.there; signed = later.signed; means = later.means }

  -- in the first of two lists, or in the second
  in_front : (methods others : List Method) (ss ts : List Signature) (ws vs : List Written) → length methods ≡ length ss → length methods ≡ length ws → (k : ℕ) → k < length methods → IsDeclared tables Q R methods ss ws k → IsDeclared tables Q R (methods ++ others) (ss ++ ts) (ws ++ vs) k
  in_front methods others ss ts ws vs a b k lt is = record {
    next = is.next;
    class = is.class;
    decl = is.decl;
    fine = is.fine;
    method = is.method;
    is = is.is;
    there = get_front methods others k lt ∙ is.there;
    signed = get_front ss ts k (omega (arith, a, lt)) ∙ is.signed;
    means = get_front ws vs k (omega (arith, b, lt)) ∙ is.means;
  }

  in_back : (methods others : List Method) (ss ts : List Signature) (ws vs : List Written) → length methods ≡ length ss → length methods ≡ length ws → (k : ℕ) → IsDeclared tables Q R others ts vs k → IsDeclared tables Q R (methods ++ others) (ss ++ ts) (ws ++ vs) (length methods + k)
  in_back methods others ss ts ws vs a b k is = record {
    next = is.next;
    class = is.class;
    decl = is.decl;
    fine = is.fine;
    method = is.method;
    is = is.is;
    there = get_behind methods others k ∙ is.there;
    signed = ap (λ n. slice_get (ss ++ ts) (n + k)) a ∙ get_behind ss ts k ∙ is.signed;
    means = ap (λ n. slice_get (ws ++ vs) (n + k)) b ∙ get_behind ws vs k ∙ is.means;
  }

  pub in_classes : (next : Next) (decls : List ClassDecl) (methods : List Method) → AreAllMethods tables next decls methods → AllClasses tables Q R next decls → IsNext next decls → (k : ℕ) → k < length methods
      → IsDeclared tables Q R methods (meaning.methods_from tables.world.class next.class decls) (written_from next.class decls) k
  in_classes next [] methods are fine go k lt = absurd (let a = ap (λ (l : List Method). length l) are in omega (arith, a, lt))
  in_classes next (decl ∷ decls) methods are fine go k lt =
      let own = are.0 in
      let others = are.1 in
      let c = next.class in
      let ss = meaning.methods_in tables.world.class c decl.members in
      let ts = meaning.methods_from tables.world.class (c + 1) decls in
      let ws = written_in c decl.members in
      let vs = written_from (c + 1) decls in
      let counted = same_count (home tables next decl) c decl.members own are.3 in
      let long = ap (λ (l : List Method). length l) are.2 ∙ length-append own others in
      subst (λ l. IsDeclared tables Q R l (ss ++ ts) (ws ++ vs) k) (sym are.2)
      (by_test (nat_lt k (length own))
      (λ t. let low : k < length own = grind (arith, nat_tests) in in_front own others ss ts ws vs counted.1 counted.0 k low (in_class next decl decl.members own are.3 fine.0 k low))
      (λ t.
      let high : length own ≤ k = grind (arith, nat_tests) in
      let split = below (length own) k high in
      let j = split.0 in
      let e : length own + j ≡ k = split.1 in
      let later = in_classes (next_behind next decl) decls others are.4 fine.2 (goes_on next decl decls go) j (omega (arith, e, lt, long)) in
      subst (IsDeclared tables Q R (own ++ others) (ss ++ ts) (ws ++ vs)) e
      (in_back own others ss ts ws vs counted.1 counted.0 j
      (subst (λ n. IsDeclared tables Q R others (meaning.methods_from tables.world.class n decls) (written_from n decls) j) (goes next decl decls go).class later))))
    where
      below : (a b : ℕ) → a ≤ b → (j : ℕ) × (a + j ≡ b)
      below zero b le = (b, omega arith)
      below (suc a) zero le = absurd (omega (arith, le))
      below (suc a) (suc b) le = let r = below a b (omega (arith, le)) in let e = r.1 in (r.0, omega (arith, e))

  -- ---- fields

  fields_numbered : (numbers : List ℕ) (next : ℕ) (ms : List Member) → next + field_count ms ≤ most_counted → own_fields numbers next ms ≡ numbers ++ map (λ (own : Field). own.number) (fields_in next ms)
  fields_numbered numbers next [] le = sym (append-nil numbers)
  fields_numbered numbers next (member.Method d ∷ ms) le = fields_numbered numbers next ms le
  fields_numbered numbers next (member.Field d ∷ ms) le = static_or_not d.mods.is_static le (λ numbers n le. fields_numbered numbers n ms le)
    where
      static_or_not : (b : Bool) → next + ((if b then 0 else 1) + field_count ms) ≤ most_counted → ((numbers : List ℕ) (n : ℕ) → n + field_count ms ≤ most_counted → own_fields numbers n ms ≡ numbers ++ map (λ (own : Field). own.number) (fields_in n ms))
          → own_fields (if b then numbers else numbers ++ next ∷ []) (if b then next else one next) ms
          ≡ numbers ++ map (λ (own : Field). own.number) (if b then fields_in (if b then next else next + 1) ms else record { number = next; name = d.name.span; init = option_map initial d.init } ∷ fields_in (if b then next else next + 1) ms)
      static_or_not true le rest = rest numbers next (omega (arith, le))
      static_or_not false le rest =
          ap (λ n. own_fields (numbers ++ next ∷ []) n ms) (one_more next (omega (arith, le))) ∙ rest (numbers ++ next ∷ []) (next + 1) (omega (arith, le))
          ∙ append_assoc numbers (next ∷ []) (map (λ (own : Field). own.number) (fields_in (next + 1) ms))

  fields_typed : (p : Program) (class next : ℕ) (ms : List Member) (before later : List PlainField) → p.fields ≡ before ++ (fields_of_class tables.names class ms ++ later) → length before ≡ next → AllOf (IsTyped tables Q R p) (fields_in next ms)
  fields_typed p class next [] before later e count = tt
  fields_typed p class next (member.Method d ∷ ms) before later e count = fields_typed p class next ms before later e count
  fields_typed p class next (member.Field d ∷ ms) before later e count = static_or_not d.mods.is_static e (λ n before e count. fields_typed p class n ms before later e count)
    where
      static_or_not : (b : Bool) → p.fields ≡ before ++ (((if b then [] else field_of tables.names class d ∷ []) ++ fields_of_class tables.names class ms) ++ later)
          → ((n : ℕ) (before : List PlainField) → p.fields ≡ before ++ (fields_of_class tables.names class ms ++ later) → length before ≡ n → AllOf (IsTyped tables Q R p) (fields_in n ms))
          → AllOf (IsTyped tables Q R p) (if b then fields_in (if b then next else next + 1) ms else record { number = next; name = d.name.span; init = option_map initial d.init } ∷ fields_in (if b then next else next + 1) ms)
      static_or_not true e rest = rest next before e count
      static_or_not false e rest =
          let at : slice_get p.fields next ≡ Some (field_of tables.names class d) = ap (λ (l : List PlainField). slice_get l next) e ∙ ap (slice_get (before ++ field_of tables.names class d ∷ (fields_of_class tables.names class ms ++ later))) (sym count)
          ∙ get_after before (field_of tables.names class d) (fields_of_class tables.names class ms ++ later) in
          let long = length-append before (field_of tables.names class d ∷ []) in (
            ap (λ (o : Option PlainField). (unwrap_or o no_field).ty) at,
            rest (next + 1) (before ++ field_of tables.names class d ∷ []) (e ∙ sym (append_assoc before (field_of tables.names class d ∷ []) (fields_of_class tables.names class ms ++ later))) (omega (arith, long, count)),
          )

  fields_on : (next : ℕ) (ms : List Member) → meaning.next_fields next ms ≡ next + field_count ms
  fields_on next [] = omega arith
  fields_on next (member.Method d ∷ ms) = fields_on next ms
  fields_on next (member.Field d ∷ ms) = static_or_not d.mods.is_static (λ n. fields_on n ms)
    where
      static_or_not : (b : Bool) → ((n : ℕ) → meaning.next_fields n ms ≡ n + field_count ms) → meaning.next_fields (if b then next else next + 1) ms ≡ next + ((if b then 0 else 1) + field_count ms)
      static_or_not true rest = let e = rest next in omega (arith, e)
      static_or_not false rest = let e = rest (next + 1) in omega (arith, e)

  -- ---- constructors

  abbrev WrittenIn : Program → Home → ℕ → List Member → ℕ → Type 0
  WrittenIn p at c ms n = (d : MethodDecl) × Q at d × (d.constructor ≡ true) × IsMethod tables at d (method_at p n) × (bodies.constructor_in c ms ≡ Some (written c d))

  one_there : (p : Program) (at : Home) (c default next : ℕ) (ms : List Member) (methods before later : List Method) → AreMethods tables at ms methods → AllOf (Q at) (methods_of ms) → p.methods ≡ before ++ (methods ++ later) → length before ≡ next
      → next + length (methods_of ms) ≤ most_counted → has_constructor ms ≡ true → WrittenIn p at c ms (constructor_in default next ms)
  one_there p at c default next [] methods before later are fine e count le has = absurd (false≢true has)
  one_there p at c default next (member.Field d ∷ ms) methods before later are fine e count le has = one_there p at c default next ms methods before later are fine e count le has
  one_there p at c default next (member.Method d ∷ ms) methods before later are fine e count le has =
      let all : p.methods ≡ before ++ are.0 ∷ (are.1 ++ later) = e ∙ ap (λ (l : List Method). before ++ (l ++ later)) are.2 in
      this_or_later d.constructor refl has all
      (λ has.
      let long = length-append before (are.0 ∷ []) in
      let up = one_more next (omega (arith, le)) in
      subst (λ n. WrittenIn p at c ms (constructor_in default n ms)) (sym up)
      (one_there p at c default (next + 1) ms are.1 (before ++ are.0 ∷ []) later are.4 fine.1 (all ∙ sym (append_assoc before (are.0 ∷ []) (are.1 ++ later))) (omega (arith, long, count)) (omega (arith, le)) has))
    where
      this_or_later : (b : Bool) → d.constructor ≡ b → (b || has_constructor ms) ≡ true → p.methods ≡ before ++ are.0 ∷ (are.1 ++ later) → (has_constructor ms ≡ true → WrittenIn p at c ms (constructor_in default (one next) ms))
          → (x : MethodDecl) × Q at x × (x.constructor ≡ true) × IsMethod tables at x (method_at p (if b then next else constructor_in default (one next) ms)) × ((if b then Some (written c d) else bodies.constructor_in c ms) ≡ Some (written c x))
      this_or_later true is has all rest =
          let here : method_at p next ≡ are.0 = ap (λ (l : List Method). unwrap_or (slice_get l next) no_method) all ∙ ap (λ n. unwrap_or (slice_get (before ++ are.0 ∷ (are.1 ++ later)) n) no_method) (sym count)
          ∙ ap (λ (o : Option Method). unwrap_or o no_method) (get_after before are.0 (are.1 ++ later)) in
          (d, fine.0, is, subst (IsMethod tables at d) (sym here) are.3, refl)
      this_or_later false is has all rest = rest has

  none_there : (c default next : ℕ) (ms : List Member) → has_constructor ms ≡ false → (constructor_in default next ms ≡ default) × (bodies.constructor_in c ms ≡ None)
  none_there c default next [] has = (refl, refl)
  none_there c default next (member.Field d ∷ ms) has = none_there c default next ms has
  none_there c default next (member.Method d ∷ ms) has = this_or_later d.constructor has (λ has. none_there c default (one next) ms has)
    where
      this_or_later : (b : Bool) → (b || has_constructor ms) ≡ false → (has_constructor ms ≡ false → (constructor_in default (one next) ms ≡ default) × (bodies.constructor_in c ms ≡ None))
          → ((if b then next else constructor_in default (one next) ms) ≡ default) × ((if b then Some (written c d) else bodies.constructor_in c ms) ≡ None)
      this_or_later true has rest = absurd (false≢true (sym has))
      this_or_later false has rest = rest has

  -- of each class the number of its constructor
  abbrev pub constructor_numbers : Next → List ClassDecl → List ℕ
  constructor_numbers next [] = []
  constructor_numbers next (decl ∷ decls) = constructor_in next.default next.method decl.members ∷ constructor_numbers (next_behind next decl) decls

  pub constructors_are : (numbers : List ℕ) (next : Next) (decls : List ClassDecl) → constructors_from numbers next decls ≡ numbers ++ constructor_numbers next decls
  constructors_are numbers next [] = sym (append-nil numbers)
  constructors_are numbers next (decl ∷ decls) =
      let n = constructor_in next.default next.method decl.members in
      constructors_are (numbers ++ n ∷ []) (next_behind next decl) decls ∙ append_assoc numbers (n ∷ []) (constructor_numbers (next_behind next decl) decls)

  -- ---- classes

  -- the default constructor of a class, if it has one, and those behind it
  own_default : (p : Program) (next : Next) (decl : ClassDecl) (decls : List ClassDecl) (front default : List Method) → AreDefaults tables next (decl ∷ decls) default → p.methods ≡ front ++ default → length front ≡ next.default
      → (own : List Method) × (later : List Method) × (default ≡ own ++ later) × (length own ≡ (if has_constructor decl.members then 0 else 1)) × AreDefaults tables (next_behind next decl) decls later
      × (has_constructor decl.members ≡ false → IsDefault tables (home tables next decl) decl.name.span (method_at p next.default))
  own_default p next decl decls front default are e count = one_or_none (has_constructor decl.members) are
    where
      one_or_none : (b : Bool) → IfElse b (AreDefaults tables (next_behind next decl) decls default) (IsOneDefault (AreDefaults tables (next_behind next decl) decls) tables (home tables next decl) decl.name.span default)
          → (own : List Method) × (later : List Method) × (default ≡ own ++ later) × (length own ≡ (if b then 0 else 1)) × AreDefaults tables (next_behind next decl) decls later
          × (b ≡ false → IsDefault tables (home tables next decl) decl.name.span (method_at p next.default))
      one_or_none true are = ([], default, refl, refl, are, (λ has. absurd (false≢true (sym has))))
      one_or_none false are =
          let all = e ∙ ap (λ (l : List Method). front ++ l) are.2 in
          let here : method_at p next.default ≡ are.0 = ap (λ (l : List Method). unwrap_or (slice_get l next.default) no_method) all ∙ ap (λ n. unwrap_or (slice_get (front ++ are.0 ∷ are.1) n) no_method) (sym count)
          ∙ ap (λ (o : Option Method). unwrap_or o no_method) (get_after front are.0 are.1) in
          (are.0 ∷ [], are.1, are.2, refl, are.4, (λ has. subst (IsDefault tables (home tables next decl) decl.name.span) (sym here) are.3))

  of_class : (class : ℕ) (ms : List Member) → AllOf (λ (m : Signature). m.class ≡ class) (meaning.methods_in tables.world.class class ms)
  of_class class [] = tt
  of_class class (member.Field d ∷ ms) = of_class class ms
  of_class class (member.Method d ∷ ms) = (refl, of_class class ms)

  pub from_class : (class : ℕ) (decls : List ClassDecl) → AllOf (λ (m : Signature). class ≤ m.class) (meaning.methods_from tables.world.class class decls)
  from_class class [] = tt
  from_class class (decl ∷ decls) =
      all_joined (λ (m : Signature). class ≤ m.class) (meaning.methods_in tables.world.class class decl.members) (meaning.methods_from tables.world.class (class + 1) decls)
      (all_so (λ (m : Signature). m.class ≡ class) (λ (m : Signature). class ≤ m.class) (λ m e. omega (arith, e)) (meaning.methods_in tables.world.class class decl.members) (of_class class decl.members))
      (all_so (λ (m : Signature). class + 1 ≤ m.class) (λ (m : Signature). class ≤ m.class) (λ m e. omega (arith, e)) (meaning.methods_from tables.world.class (class + 1) decls) (from_class (class + 1) decls))

  pub below_class : (class : ℕ) (decls : List ClassDecl) → AllOf (λ (m : Signature). m.class < class + length decls) (meaning.methods_from tables.world.class class decls)
  below_class class [] = tt
  below_class class (decl ∷ decls) =
      all_joined (λ (m : Signature). m.class < class + length (decl ∷ decls)) (meaning.methods_in tables.world.class class decl.members) (meaning.methods_from tables.world.class (class + 1) decls)
      (all_so (λ (m : Signature). m.class ≡ class) (λ (m : Signature). m.class < class + length (decl ∷ decls)) (λ m e. omega (arith, e)) (meaning.methods_in tables.world.class class decl.members) (of_class class decl.members))
      (all_so (λ (m : Signature). m.class < (class + 1) + length decls) (λ (m : Signature). m.class < class + length (decl ∷ decls)) (λ m e. omega (arith, e)) (meaning.methods_from tables.world.class (class + 1) decls) (below_class (class + 1) decls))

  pub all_counted : (next : Next) (class : ℕ) (decls : List ClassDecl) (methods : List Method) → AreAllMethods tables next decls methods
      → (length methods ≡ length (written_from class decls)) × (length methods ≡ length (meaning.methods_from tables.world.class class decls)) × (length methods ≡ length (all_methods decls))
  all_counted next class [] methods are = (ap (λ (l : List Method). length l) are, ap (λ (l : List Method). length l) are, ap (λ (l : List Method). length l) are)
  all_counted next class (decl ∷ decls) methods are =
      let long = ap (λ (l : List Method). length l) are.2 ∙ length-append are.0 are.1 in
      let own = same_count (home tables next decl) class decl.members are.0 are.3 in
      let rest = all_counted (next_behind next decl) (class + 1) decls are.1 are.4 in
      let a = length-append (written_in class decl.members) (written_from (class + 1) decls) in
      let b = length-append (meaning.methods_in tables.world.class class decl.members) (meaning.methods_from tables.world.class (class + 1) decls) in
      let c = length-append (methods_of decl.members) (all_methods decls) in
      let d = own.0 in let e = own.1 in let f = own.2 in let h = rest.0 in let i = rest.1 in let j = rest.2 in
      (omega (arith, long, a, d, h), omega (arith, long, b, e, i), omega (arith, long, c, f, j))

  module _ (p : Program) (signatures : List Signature) (parent : ℕ → Option ℕ) where
    abbrev IsOwn : List ClassDecl → Next → ℕ → Type 0
    IsOwn decls next k = IsClass tables Q R p signatures decls (classes_from next.class next.field decls) (constructor_numbers next decls) k (next.class + k)

    one_class : (next : Next) (decl : ClassDecl) (decls : List ClassDecl) (own others front later : List Method) (fields_before : List PlainField) (classes_before : List PlainClass) → IsNext next (decl ∷ decls)
        → p.methods ≡ front ++ (own ++ later) → length front ≡ next.method → AreMethods tables (home tables next decl) decl.members own
        → (has_constructor decl.members ≡ false → IsDefault tables (home tables next decl) decl.name.span (method_at p next.default))
        → AllOf (Q (home tables next decl)) (methods_of decl.members) → (has_constructor decl.members ≡ false → R (home tables next decl) decl.name.span)
        → p.fields ≡ fields_before ++ (fields_of_class tables.names next.class decl.members ++ fields_of tables.names (next.class + 1) decls) → length fields_before ≡ next.field
        → p.classes ≡ classes_before ++ class_of next (parent next.class) decl ∷ classes_of (next_behind next decl) parent decls → length classes_before ≡ next.class
        → (signed_before : List Signature) → signatures ≡ signed_before ++ (meaning.methods_in tables.world.class next.class decl.members ++ meaning.methods_from tables.world.class (next.class + 1) decls) → length signed_before ≡ next.method
        → AllOf (λ (m : Signature). m.class < next.class) signed_before → length signatures ≤ next.default → IsOwn (decl ∷ decls) next 0
    one_class next decl decls own others front later fields_before classes_before go methods count are default fine none fields field_count classes class_count signed_before signed signed_count low high =
        let zero : next.class ≡ next.class + 0 = omega arith in
        let here : class_at p (next.class + 0) ≡ class_of next (parent next.class) decl =
        ap (λ n. class_at p n) (sym zero) ∙ ap (λ (l : List PlainClass). unwrap_or (slice_get l next.class) no_class) classes
        ∙ ap (λ n. unwrap_or (slice_get (classes_before ++ class_of next (parent next.class) decl ∷ classes_of (next_behind next decl) parent decls) n) no_class) (sym class_count)
        ∙ ap (λ (o : Option PlainClass). unwrap_or o no_class) (get_after classes_before (class_of next (parent next.class) decl) (classes_of (next_behind next decl) parent decls)) in
        let few_fields = go.fields in
        let few_methods = go.methods in
        let both = length-append (methods_of decl.members) (all_methods decls) in
        record {
          next = next;
          decl = decl;
          declared = refl;
          numbered = zero;
          means = ap (λ n. Some (record { fields = fields_in next.field decl.members; constructor = bodies.constructor_in n decl.members })) zero;
          methods = ap (λ (c : PlainClass). c.methods) here ∙ default_numbers (has_constructor decl.members) (own_methods [] next.method decl.members) next.default
              ∙ ap (λ numbers. numbers ++ numbers_from next.default (if has_constructor decl.members then 0 else 1)) (method_numbers [] next.method decl.members (omega (arith, few_methods, both)));
          signed = ap (λ n. numbers_where (λ (m : Signature). m.class == n) 0 signatures) (sym zero) ∙ ap (numbers_where (λ (m : Signature). m.class == next.class) 0) signed
              ∙ where_here (λ (m : Signature). m.class) next.class 0 signed_before (meaning.methods_in tables.world.class next.class decl.members) (meaning.methods_from tables.world.class (next.class + 1) decls) low (of_class next.class decl.members)
              (all_so (λ (m : Signature). next.class + 1 ≤ m.class) (λ (m : Signature). next.class < m.class) (λ m e. omega (arith, e)) (meaning.methods_from tables.world.class (next.class + 1) decls) (from_class (next.class + 1) decls))
              ∙ ap (λ n. numbers_from n (length (meaning.methods_in tables.world.class next.class decl.members))) (let e : 0 + length signed_before ≡ next.method = omega (arith, signed_count) in e)
              ∙ ap (numbers_from next.method) (let c = same_count (home tables next decl) next.class decl.members own are in sym c.1 ∙ c.2);
          behind = high;
          few = omega (arith, few_fields);
          fields = ap (λ (c : PlainClass). c.fields) here ∙ fields_numbered [] next.field decl.members (omega (arith, few_fields));
          types = fields_typed p next.class next.field decl.members fields_before (fields_of tables.names (next.class + 1) decls) fields field_count;
          made_by = refl;
          constructor = by_test (has_constructor decl.members)
              (λ has. let w = one_there p (home tables next decl) next.class next.default next.method decl.members own front later are fine methods count (omega (arith, few_methods, both)) has in
              inl (record { decl = w.0; fine = w.1; constructor = w.2; is = w.3; means = w.4 }))
              (λ has. let n = none_there next.class next.default next.method decl.members has in
              inr (record { none = has; fine = none has; is = subst (λ k. IsDefault tables (home tables next decl) decl.name.span (method_at p k)) (sym n.0) (default has); means = n.1 }));
        }

    pub all_classes : (next : Next) (decls : List ClassDecl) (before written first default : List Method) (fields_before : List PlainField) (classes_before : List PlainClass) → IsNext next decls → AllClasses tables Q R next decls
        → p.methods ≡ (before ++ written) ++ (first ++ default) → AreAllMethods tables next decls written → AreDefaults tables next decls default → length before ≡ next.method → length (before ++ written) + length first ≡ next.default
        → p.fields ≡ fields_before ++ fields_of tables.names next.class decls → length fields_before ≡ next.field → p.classes ≡ classes_before ++ classes_of next parent decls → length classes_before ≡ next.class
        → (signed_before : List Signature) → signatures ≡ signed_before ++ meaning.methods_from tables.world.class next.class decls → length signed_before ≡ next.method → AllOf (λ (m : Signature). m.class < next.class) signed_before → length signatures ≤ next.default
        → (k : ℕ) → k < length decls → IsOwn decls next k
    all_classes next [] before written first default fields_before classes_before go fine methods are defaults count more fields field_count classes class_count signed_before signed signed_count low high k lt = absurd (omega (arith, lt))
    all_classes next (decl ∷ decls) before written first default fields_before classes_before go fine methods are defaults count more fields field_count_is classes class_count signed_before signed signed_count low high k lt =
        let own = are.0 in
        let others = are.1 in
        let split : p.methods ≡ before ++ (own ++ (others ++ (first ++ default))) =
        methods ∙ ap (λ (l : List Method). (before ++ l) ++ (first ++ default)) are.2 ∙ append_assoc before (own ++ others) (first ++ default) ∙ ap (λ (l : List Method). before ++ l) (append_assoc own others (first ++ default)) in
        let front : p.methods ≡ ((before ++ written) ++ first) ++ default = methods ∙ sym (append_assoc (before ++ written) first default) in
        let front_count : length ((before ++ written) ++ first) ≡ next.default = length-append (before ++ written) first ∙ more in
        let d = own_default p next decl decls ((before ++ written) ++ first) default defaults front front_count in
        let g = goes next decl decls go in
        let own_names = fields_of_class tables.names next.class decl.members in
        let own_signed = meaning.methods_in tables.world.class next.class decl.members in
        let own_count = same_count (home tables next decl) next.class decl.members own are.3 in
        first_or_later k lt
        (one_class next decl decls own others before (others ++ (first ++ default)) fields_before classes_before go split count are.3 d.5 fine.0 fine.1 fields field_count_is classes class_count signed_before signed signed_count low high)
        (λ j lt.
        let later = all_classes (next_behind next decl) decls (before ++ own) others (first ++ d.0) d.1 (fields_before ++ own_names) (classes_before ++ class_of next (parent next.class) decl ∷ []) (goes_on next decl decls go) fine.2
        (methods ∙ ap (λ (l : List Method). (before ++ l) ++ (first ++ default)) are.2 ∙ ap (λ (l : List Method). l ++ (first ++ default)) (sym (append_assoc before own others))
        ∙ ap (λ (l : List Method). ((before ++ own) ++ others) ++ (first ++ l)) d.2 ∙ ap (λ (l : List Method). ((before ++ own) ++ others) ++ l) (sym (append_assoc first d.0 d.1)))
        are.4 d.4
        (let a = length-append before own in let b = own_count.2 in let c = g.method in omega (arith, a, b, c, count))
        (let a = length-append (before ++ own) others in let b = length-append before own in let c = length-append before written in let f = ap (λ (l : List Method). length l) are.2 in
        let h = length-append own others in let i = length-append first d.0 in let j = d.3 in let m = g.default in omega (arith, a, b, c, f, h, i, j, m, more))
        (fields ∙ sym (append_assoc fields_before own_names (fields_of tables.names (next.class + 1) decls)) ∙ ap (λ n. (fields_before ++ own_names) ++ fields_of tables.names n decls) (sym g.class))
        (let a = length-append fields_before own_names in let b = (fields_counted tables.names next.class decl.members).0 in let c = g.field in omega (arith, a, b, c, field_count_is))
        (classes ∙ sym (append_assoc classes_before (class_of next (parent next.class) decl ∷ []) (classes_of (next_behind next decl) parent decls)))
        (let a = length-append classes_before (class_of next (parent next.class) decl ∷ []) in let c = g.class in omega (arith, a, c, class_count))
        (signed_before ++ own_signed) (signed ∙ sym (append_assoc signed_before own_signed (meaning.methods_from tables.world.class (next.class + 1) decls)) ∙ ap (λ n. (signed_before ++ own_signed) ++ meaning.methods_from tables.world.class n decls) (sym g.class))
        (let a = length-append signed_before own_signed in let b = own_count.1 in let h = own_count.2 in let c = g.method in omega (arith, a, b, c, h, signed_count))
        (all_joined (λ (m : Signature). m.class < (next_behind next decl).class) signed_before own_signed
        (all_so (λ (m : Signature). m.class < next.class) (λ (m : Signature). m.class < (next_behind next decl).class) (λ m e. let c = g.class in omega (arith, e, c)) signed_before low)
        (all_so (λ (m : Signature). m.class ≡ next.class) (λ (m : Signature). m.class < (next_behind next decl).class) (λ m e. let c = g.class in omega (arith, e, c)) own_signed (of_class next.class decl.members)))
        (let a = g.default in omega (arith, a, high)) j lt in
        moved next decl decls j g.class (fields_on next.field decl.members ∙ sym g.field) later)
      where
        first_or_later : (k : ℕ) → k < length (decl ∷ decls) → IsOwn (decl ∷ decls) next 0 → ((j : ℕ) → j < length decls → IsOwn (decl ∷ decls) next (suc j)) → IsOwn (decl ∷ decls) next k
        first_or_later zero lt here later = here
        first_or_later (suc j) lt here later = later j (omega (arith, lt))

        -- a class behind the first
        moved : (next : Next) (decl : ClassDecl) (decls : List ClassDecl) (j : ℕ) → (next_behind next decl).class ≡ next.class + 1 → meaning.next_fields next.field decl.members ≡ (next_behind next decl).field → IsOwn decls (next_behind next decl) j → IsOwn (decl ∷ decls) next (suc j)
        moved next decl decls j class field is =
            let number : (next_behind next decl).class + j ≡ next.class + suc j = omega (arith, class) in
            let at = subst (λ n. IsClass tables Q R p signatures decls (classes_from (next.class + 1) (meaning.next_fields next.field decl.members) decls) (constructor_numbers (next_behind next decl) decls) j n) number
            (subst (λ c. IsClass tables Q R p signatures decls (classes_from c (meaning.next_fields next.field decl.members) decls) (constructor_numbers (next_behind next decl) decls) j ((next_behind next decl).class + j)) class
            (subst (λ f. IsClass tables Q R p signatures decls (classes_from (next_behind next decl).class f decls) (constructor_numbers (next_behind next decl) decls) j ((next_behind next decl).class + j)) (sym field) is)) in
            record { next = at.next; decl = at.decl; declared = at.declared; numbered = at.numbered; means = at.means; methods = at.methods; signed = at.signed; behind = at.behind; few = at.few; fields = at.fields; types = at.types; made_by = at.made_by; constructor = at.constructor }
