-- Methods and classes of an accepted source's program, by their numbers.
use Rattle.std.proofs.Common.{◌≡◌, ◌≤◌, ◌<◌, ℕ, zero, suc, ◌+◌, Bool, true, false, List, [], ◌∷◌, ◌++◌, length, map, Option, Some, None, refl, sym, ap, subst, ◌∙◌, arith, append_assoc}
use Rattle.std.specs.Prelude.{nat_lt, slice_get, unwrap_or, option_map}
use Rattle.std.proofs.lemmas.List.{append-nil, map-append, length-map}
use Rattle.std.proofs.lemmas.Bool.Decides.{nat_tests}
use Rattle.std.proofs.lemmas.Option.{slice_get_past}
use Rattle.ix_text.specs.declared.span.Span.{Span}
use Rattle.ix_core.specs.declared.program.Method.{Method}
use Rattle.ix_core.specs.declared.program.Program.{Program}
use Rattle.ix_core.specs.Code.{block_code}
use Rattle.ix_core.specs.Tables.{method_at, no_method, default_result, routine_of}
use Rattle.ix_core.proofs.Cases.{by_test}
use Rattle.ix_tree.specs.declared.decl.ClassDecl.{ClassDecl}
use Rattle.ix_tree.specs.declared.decl.Member.{Member}
use Rattle.ix_tree.specs.declared.decl.Member.TheVariants as member
use Rattle.ix_tree.specs.declared.decl.MethodDecl.{MethodDecl}
use Rattle.ix_tree.specs.declared.decl.Unit.{Unit as Source}
use Rattle.ix_meaning.specs.Limits.{all_methods}
use Rattle.ix_meaning.specs.Resolved.{names}
use Rattle.ix_meaning.specs.Source.{has_constructor}
use Rattle.ix_plain.specs.declared.body.Head.{Head}
use Rattle.ix_plain.specs.declared.numbers.Next.{Next}
use Rattle.ix_plain.specs.Counts.{most_counted}
use Rattle.ix_plain.specs.Members.{next_behind, first_numbers, constructors, heads_in, heads_from, heads}
use Rattle.ix_plain.specs.Parts.{block}
use Rattle.ix_plain.specs.Program.{Tables, Home, home, tables}
use Rattle.ix_plain.specs.Scope.{Site, head_at, no_head, declared_type}
use Rattle.ix_formed.specs.Additions.{AllOf}
use Rattle.ix_formed.specs.Shape.{IsMethod, IsDefault, AreDefaults, IfElse, IsOneDefault, HasMethods}
use Rattle.ix_formed.proofs.ClassesFit.{methods_have, numbers_go}
use Rattle.ix_formed.proofs.AllMethods.{program_has}
use Rattle.ix_formed.proofs.ClassesHaveWays.{parent_within}
use Rattle.ix_formed.proofs.FieldsFit.{IsAccepted, is_small, fields_are_all}
use Rattle.ix_formed.proofs.MethodNumbers.{first_default}
use Rattle.ix_formed.proofs.Numbering.{one_more, classes_behind}
use Rattle.ix_source.specs.Bodies.{Whole, Written, whole, written, written_in, written_from, members, static_of, overridden_by}
use Rattle.ix_source.specs.ByNumber.{AllClasses, IsDeclared, IsClass}
use Rattle.ix_source.proofs.DeclaredMembers.{in_classes, all_classes, all_counted, constructors_are, constructor_numbers}
use Rattle.ix_source.proofs.JoinedLists.{get_front, get_behind, get_mapped, get_so}

-- ---- routines

-- The routine of a written method: it ends with the default of its declared type, and runs the code that lowering made.
pub method_routine : (t : Tables) (at : Home) (d : MethodDecl) (method : Method) (is : IsMethod t at d method)
    → routine_of method ≡ record { constructor = d.constructor; default = default_result (declared_type (t.names.declared d.name.span)); slots = is.body.most; body = block_code (block is.body.made) }
method_routine t at d method is = ap routine_of is.same

-- and that of a constructor that isn't written
pub default_routine : (t : Tables) (at : Home) (span : Span) (method : Method) (is : IsDefault t at span method) → routine_of method ≡ record { constructor = true; default = None; slots = is.body.most; body = block_code (block is.body.made) }
default_routine t at span method is = ap routine_of is.same

-- ---- methods without `this`

abbrev head_of : Written → Head
head_of method = record { class = method.class; is_static = method.is_static }

heads_in_are : (before : List Head) (class : ℕ) (ms : List Member) → heads_in before class ms ≡ before ++ map head_of (written_in class ms)
heads_in_are before class [] = sym (append-nil before)
heads_in_are before class (member.Field d ∷ ms) = heads_in_are before class ms
heads_in_are before class (member.Method d ∷ ms) =
    heads_in_are (before ++ head_of (written class d) ∷ []) class ms
    ∙ append_assoc before (head_of (written class d) ∷ []) (map head_of (written_in class ms))

heads_are : (before : List Head) (class : ℕ) (decls : List ClassDecl) → class + length decls ≤ most_counted → heads_from before class decls ≡ before ++ map head_of (written_from class decls)
heads_are before class [] le = sym (append-nil before)
heads_are before class (decl ∷ decls) le =
    ap (λ n. heads_from (heads_in before class decl.members) n decls) (one_more class (omega (arith, le)))
    ∙ heads_are (heads_in before class decl.members) (class + 1) decls (omega (arith, le))
    ∙ ap (λ l. l ++ map head_of (written_from (class + 1) decls)) (heads_in_are before class decl.members)
    ∙ append_assoc before (map head_of (written_in class decl.members)) (map head_of (written_from (class + 1) decls))
    ∙ ap (λ l. before ++ l) (sym (map-append head_of (written_in class decl.members) (written_from (class + 1) decls)))

static_heads : (o : Option Written) → static_of o ≡ (unwrap_or (option_map head_of o) no_head).is_static
static_heads None = refl
static_heads (Some method) = refl

-- What the source says of a method's `this` is what lowering sees of it.
pub is_static_same : (unit : Source) (p : Program) → IsAccepted unit p → (site : Site) → site.heads ≡ heads unit.classes → (number : ℕ) → (members (whole (names unit) unit.classes)).is_static number ≡ (head_at site number).is_static
is_static_same unit p is site same number =
    let few = (is_small unit p is).classes in
    let ws = written_from 0 unit.classes in
    static_heads (slice_get ws number) ∙ sym (ap (λ o. (unwrap_or o no_head).is_static) (ap (λ l. slice_get l number) (same ∙ heads_are [] 0 unit.classes (omega (arith, few))) ∙ get_mapped head_of ws number))

-- as many of them as written methods
pub heads_count : (unit : Source) (p : Program) → IsAccepted unit p → length (heads unit.classes) ≡ length (whole (names unit) unit.classes).methods
heads_count unit p is =
    let few = (is_small unit p is).classes in
    ap (λ (l : List Head). length l) (heads_are [] 0 unit.classes (omega (arith, few))) ∙ length-map (written_from 0 unit.classes) head_of

-- ---- by their numbers

module _ (unit : Source) (p : Program) (is : IsAccepted unit p) (Q : Home → MethodDecl → Type 0) (R : Home → Span → Type 0) (fine : AllClasses (tables (names unit) unit.classes) Q R (first_numbers unit.classes) unit.classes) where
  abbrev t : Tables
  t = tables (names unit) unit.classes

  abbrev w : Whole
  w = whole (names unit) unit.classes

  abbrev have : HasMethods (tables (names unit) unit.classes) (first_numbers unit.classes) unit.classes p.methods
  have = methods_have unit p is

  counts : (length have.written ≡ length w.methods) × (length have.written ≡ length w.signatures) × (length have.written ≡ length (all_methods unit.classes))
  counts = all_counted t Q R (first_numbers unit.classes) 0 unit.classes have.written have.are_written

  pub as_many : length w.signatures ≡ length w.methods
  as_many = sym counts.1 ∙ counts.0

  -- Each written method, by its number: its plain form, its signature and its meaning are those of one declaration.
  pub method_declared : (number : ℕ) → number < length w.methods → IsDeclared t Q R p.methods w.signatures w.methods number
  method_declared number lt =
      let low : number < length have.written = (let c = counts.0 in omega (arith, c, lt)) in
      let d = in_classes t Q R (first_numbers unit.classes) unit.classes have.written have.are_written fine (numbers_go unit p is) number low in
      record { next = d.next; class = d.class; decl = d.decl; fine = d.fine; method = d.method; is = d.is; there = ap (λ (l : List Method). slice_get l number) have.same ∙ get_front have.written have.default number low ∙ d.there; signed = d.signed; means = d.means }

  -- Each class, by its number.
  pub class_declared : (number : ℕ) → number < length unit.classes → IsClass t Q R p w.signatures unit.classes w.classes (constructors unit.classes) number number
  class_declared number lt =
      let s = is_small unit p is in
      let has = program_has (names unit) unit.classes p is.made in
      let first = first_numbers unit.classes in
      let start : first.default ≡ length (all_methods unit.classes) = first_default unit.classes s.methods in
      let zero : 0 + number ≡ number = omega arith in
      let c = all_classes t Q R p w.signatures t.world.parent first unit.classes [] have.written [] have.default [] [] (numbers_go unit p is) fine have.same have.are_written have.are_default refl (let a = counts.2 in omega (arith, a, start))
      (fields_are_all unit p is) refl (has.1 ∙ classes_behind [] first t.world.parent unit.classes) refl [] refl refl tt (let a = counts.1 in let b = counts.2 in omega (arith, a, b, start)) number lt in
      subst (λ l. IsClass t Q R p w.signatures unit.classes w.classes l number number) (sym (constructors_are t Q R [] first unit.classes))
      (subst (λ n. IsClass t Q R p w.signatures unit.classes w.classes (constructor_numbers t Q R first unit.classes) number n) zero c)

  -- ---- what a method overrides

  no_overrides : (next : Next) (decls : List ClassDecl) (methods : List Method) → AreDefaults t next decls methods → AllOf (λ (m : Method). m.overrides ≡ None) methods
  no_overrides next [] methods are = subst (AllOf (λ (m : Method). m.overrides ≡ None)) (sym are) tt
  no_overrides next (decl ∷ decls) methods are = one_or_none (has_constructor decl.members) are (λ methods are. no_overrides (next_behind next decl) decls methods are)
    where
      one_or_none : (b : Bool) → IfElse b (AreDefaults t (next_behind next decl) decls methods) (IsOneDefault (AreDefaults t (next_behind next decl) decls) t (home t next decl) decl.name.span methods)
          → ((methods : List Method) → AreDefaults t (next_behind next decl) decls methods → AllOf (λ (m : Method). m.overrides ≡ None) methods) → AllOf (λ (m : Method). m.overrides ≡ None) methods
      one_or_none true are rest = rest methods are
      one_or_none false are rest = subst (AllOf (λ (m : Method). m.overrides ≡ None)) (sym are.2) (ap (λ (m : Method). m.overrides) are.3.same, rest are.1 are.4)

  past_written : (number : ℕ) → length have.written ≤ number → (method_at p number).overrides ≡ None
  past_written number le = none_at (slice_get p.methods number) refl
    where
      none_at : (o : Option Method) → slice_get p.methods number ≡ o → (unwrap_or o no_method).overrides ≡ None
      none_at None e = refl
      none_at (Some m) e =
          let d = below (length have.written) number le in
          let f : slice_get have.default d.0 ≡ Some m = sym (get_behind have.written have.default d.0) ∙ ap (slice_get (have.written ++ have.default)) d.1 ∙ sym (ap (λ (l : List Method). slice_get l number) have.same) ∙ e in
          get_so (λ (m : Method). m.overrides ≡ None) have.default d.0 m (no_overrides (first_numbers unit.classes) unit.classes have.default have.are_default) f
        where
          below : (a b : ℕ) → a ≤ b → (j : ℕ) × (a + j ≡ b)
          below zero b le = (b, omega arith)
          below (suc a) zero le = absurd (omega (arith, le))
          below (suc a) (suc b) le = let r = below a b (omega (arith, le)) in let e = r.1 in (r.0, omega (arith, e))

  -- The program's methods override those that the source's do.
  pub overrides_same : (number : ℕ) → (method_at p number).overrides ≡ overridden_by w (slice_get w.signatures number)
  overrides_same number =
      by_test (nat_lt number (length w.methods))
      (λ t.
      let lt : number < length w.methods = grind (arith, nat_tests) in
      let d = method_declared number lt in
      ap (λ (o : Option Method). (unwrap_or o no_method).overrides) d.there ∙ ap (λ (m : Method). m.overrides) d.is.same ∙ ap (overridden_by w) (sym d.signed))
      (λ t.
      let le : length w.methods ≤ number = grind (arith, nat_tests) in
      let a = counts.0 in
      let b = as_many in
      past_written number (omega (arith, a, le)) ∙ ap (overridden_by w) (sym (slice_get_past w.signatures number (omega (arith, b, le)))))

  -- Whether a method has a `this` is what its declaration says.
  pub static_of_declared : (number : ℕ) → number < length w.methods → (members w).is_static number ≡ (method_at p number).is_static
  static_of_declared number lt =
      let d = method_declared number lt in
      ap static_of d.means ∙ sym (ap (λ (o : Option Method). (unwrap_or o no_method).is_static) d.there ∙ ap (λ (m : Method). m.is_static) d.is.same)

  -- ---- classes above

  counted_constructors : (next : Next) (decls : List ClassDecl) → length (constructor_numbers t Q R next decls) ≡ length decls
  counted_constructors next [] = refl
  counted_constructors next (decl ∷ decls) = let e = counted_constructors (next_behind next decl) decls in omega (arith, e)

  pub constructors_count : length (constructors unit.classes) ≡ length unit.classes
  constructors_count = ap (λ (l : List ℕ). length l) (constructors_are t Q R [] (first_numbers unit.classes) unit.classes) ∙ counted_constructors (first_numbers unit.classes) unit.classes

  -- The parent of a class is a class of the source.
  pub parent_there : (class above : ℕ) → w.world.parent class ≡ Some above → above < length (constructors unit.classes)
  parent_there class above e = let lt = parent_within unit.classes class above e in let c = constructors_count in omega (arith, lt, c)
