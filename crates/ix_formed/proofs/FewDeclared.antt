-- The methods, their locals and the fields of an accepted source's program can be counted with 32 bits.
use Rattle.std.proofs.Common.{◌≡◌, ◌≤◌, ◌<◌, ◌^◌, ℕ, zero, suc, ◌+◌, Bool, true, false, List, [], ◌∷◌, map, length, refl, sym, ap, subst, ◌∙◌, arith, length-append}
use Rattle.std.specs.Prelude.{slice_get, unwrap_or}
use Rattle.std.specs.List.{All}
use Rattle.std.proofs.lemmas.List.Elements.{All-head, All-tail}
use Rattle.ix_text.specs.declared.span.Span.{Span}
use Rattle.ix_core.specs.declared.program.Field.{Field}
use Rattle.ix_core.specs.declared.program.Local.{Local}
use Rattle.ix_core.specs.declared.program.Method.{Method}
use Rattle.ix_core.specs.declared.program.Program.{Program}
use Rattle.ix_core.specs.Tables.{no_method}
use Rattle.ix_tree.specs.declared.decl.ClassDecl.{ClassDecl}
use Rattle.ix_tree.specs.declared.decl.Member.{Member}
use Rattle.ix_tree.specs.declared.decl.Member.TheVariants as member
use Rattle.ix_tree.specs.declared.decl.MethodDecl.{MethodDecl}
use Rattle.ix_tree.specs.declared.decl.Unit.{Unit as Source}
use Rattle.ix_meaning.specs.Bodies.{telling, all_told}
use Rattle.ix_meaning.specs.Resolved.{Names, names}
use Rattle.ix_meaning.specs.Source.{has_constructor}
use Rattle.ix_meaning.specs.Few.{DeclaresFew, DeclaresFewInClass}
use Rattle.ix_meaning.proofs.FewDeclarations.{few_members, each_member_few, few_in_body}
use Rattle.ix_plain.specs.declared.body.Body.{Body}
use Rattle.ix_plain.specs.declared.numbers.Next.{Next}
use Rattle.ix_plain.specs.Members.{next_behind, first_numbers, is_static, slot_behind}
use Rattle.ix_plain.specs.Program.{Tables, Home, site, home, start, tables, written_head, default_head, first_param, written_body, constructor_start}
use Rattle.ix_formed.specs.Additions.{AllOf}
use Rattle.ix_formed.specs.Shape.{IsMethod, IsDefault, AreMethods, AreAllMethods, AreDefaults, IfElse, IsOneDefault, HasMethods, fields_of, fields_of_class, all_field_count}
use Rattle.ix_formed.proofs.AllMethods.{program_has}
use Rattle.ix_formed.proofs.FieldsFit.{IsAccepted, is_small, fields_are_all}
use Rattle.ix_formed.proofs.NumberLists.{all_joined}
use Rattle.ix_formed.proofs.Numbering.{fields_counted}
use Rattle.ix_formed.proofs.PlainItems.{made_is}
use Rattle.ix_formed.proofs.ProgramsHaveShape.{written_length}
use Rattle.ix_formed.proofs.SmallSources.{few_fields}
use Rattle.ix_core.specs.Ready.{HasFew}
use Rattle.ix_formed.proofs.LocalsCounted.{Keeps, written_body_counted, constructor_keeps}

-- ---- locals

abbrev HasFewLocals : Method → Type 0
HasFewLocals method = length method.locals < 2 ^ 32

locals_are : (method : Method) (body : Body) → method.locals ≡ body.locals → length method.locals ≡ length body.locals
locals_are method body same = ap (λ (ls : List (Local × Span)). length ls) same

module _ (t : Tables) where
  method_few : (at : Home) (d : MethodDecl) (method : Method) → DeclaresFew (member.Method d) → IsMethod t at d method → HasFewLocals method
  method_few at d method few is =
      let free = slot_behind (first_param (is_static d)) d.params in
      let s = site t at (written_head t at d) in
      let counted = made_is (λ (body : Body). length body.locals ≤ (all_told (map telling d.body)).declares) (written_body s at d free) is.body (written_body_counted s at d free) is.made in
      let same = locals_are method is.body (ap (λ (m : Method). m.locals) is.same) in
      let declares = few_in_body d few in
      omega (arith, counted, same, declares)

  default_few : (at : Home) (span : Span) (method : Method) → IsDefault t at span method → HasFewLocals method
  default_few at span method is =
      let s = site t at (default_head at span) in
      let kept = made_is (Keeps (start 1)) (constructor_start s at [] span (start 1)) is.body (constructor_keeps s at [] span (start 1)) is.made in
      let same = ap (λ (ls : List (Local × Span)). length ls) (ap (λ (m : Method). m.locals) is.same ∙ kept) in
      omega (arith, same)

  members_few : (at : Home) (ms : List Member) (methods : List Method) → All DeclaresFew ms → AreMethods t at ms methods → AllOf HasFewLocals methods
  members_few at [] methods few are = subst (AllOf HasFewLocals) (sym are) tt
  members_few at (member.Field d ∷ ms) methods few are = members_few at ms methods (All-tail DeclaresFew (member.Field d) ms few) are
  members_few at (member.Method d ∷ ms) methods few are =
      subst (AllOf HasFewLocals) (sym are.2) (method_few at d are.0 (All-head DeclaresFew (member.Method d) ms few) are.3, members_few at ms are.1 (All-tail DeclaresFew (member.Method d) ms few) are.4)

  all_few : (next : Next) (ks : List ClassDecl) (methods : List Method) → All DeclaresFewInClass ks → AreAllMethods t next ks methods → AllOf HasFewLocals methods
  all_few next [] methods few are = subst (AllOf HasFewLocals) (sym are) tt
  all_few next (k ∷ ks) methods few are =
      subst (AllOf HasFewLocals) (sym are.2)
      (all_joined HasFewLocals are.0 are.1 (members_few (home t next k) k.members are.0 (All-head DeclaresFewInClass k ks few) are.3) (all_few (next_behind next k) ks are.1 (All-tail DeclaresFewInClass k ks few) are.4))

  defaults_few : (next : Next) (ks : List ClassDecl) (methods : List Method) → AreDefaults t next ks methods → AllOf HasFewLocals methods
  defaults_few next [] methods are = subst (AllOf HasFewLocals) (sym are) tt
  defaults_few next (k ∷ ks) methods are = one_or_none (has_constructor k.members) are (λ others rest. defaults_few (next_behind next k) ks others rest)
    where
      one_or_none : (b : Bool) → IfElse b (AreDefaults t (next_behind next k) ks methods) (IsOneDefault (AreDefaults t (next_behind next k) ks) t (home t next k) k.name.span methods)
          → ((others : List Method) → AreDefaults t (next_behind next k) ks others → AllOf HasFewLocals others) → AllOf HasFewLocals methods
      one_or_none true are rest = rest methods are
      one_or_none false are rest = subst (AllOf HasFewLocals) (sym are.2) (default_few (home t next k) k.name.span are.0 are.3, rest are.1 are.4)

few_at : (methods : List Method) → AllOf HasFewLocals methods → (number : ℕ) → length (unwrap_or (slice_get methods number) no_method).locals < 2 ^ 32
few_at [] all number = omega arith
few_at (method ∷ methods) all zero = all.0
few_at (method ∷ methods) all (suc number) = few_at methods all.1 number

-- ---- methods

defaults_counted : (t : Tables) (next : Next) (ks : List ClassDecl) (methods : List Method) → AreDefaults t next ks methods → length methods ≤ length ks
defaults_counted t next [] methods are = let e = ap (λ (ms : List Method). length ms) are in omega (arith, e)
defaults_counted t next (k ∷ ks) methods are = one_or_none (has_constructor k.members) are (λ others rest. defaults_counted t (next_behind next k) ks others rest)
  where
    one_or_none : (b : Bool) → IfElse b (AreDefaults t (next_behind next k) ks methods) (IsOneDefault (AreDefaults t (next_behind next k) ks) t (home t next k) k.name.span methods)
        → ((others : List Method) → AreDefaults t (next_behind next k) ks others → length others ≤ length ks) → length methods ≤ length (k ∷ ks)
    one_or_none true are rest = let le = rest methods are in omega (arith, le)
    one_or_none false are rest =
        let le = rest are.1 are.4 in
        let e = ap (λ (ms : List Method). length ms) are.2 in
        omega (arith, le, e)

-- ---- fields

all_counted : (names : Names) (class : ℕ) (decls : List ClassDecl) → length (fields_of names class decls) ≡ all_field_count decls
all_counted names class [] = refl
all_counted names class (decl ∷ decls) =
    let a = length-append (fields_of_class names class decl.members) (fields_of names (class + 1) decls) in
    let b = (fields_counted names class decl.members).0 in
    let c = all_counted names (class + 1) decls in
    omega (arith, a, b, c)

-- ---- the program

module _ (unit : Source) (p : Program) (is : IsAccepted unit p) where
  abbrev t : Tables
  t = tables (names unit) unit.classes

  has : HasMethods t (first_numbers unit.classes) unit.classes p.methods
  has = (program_has (names unit) unit.classes p is.made).0

  pub few_methods : length p.methods < 2 ^ 32
  few_methods =
      let small = is_small unit p is in
      let own = written_length t (first_numbers unit.classes) unit.classes has.written has.are_written in
      let defaults = defaults_counted t (first_numbers unit.classes) unit.classes has.default has.are_default in
      let both = ap (λ (ms : List Method). length ms) has.same in
      let joined = length-append has.written has.default in
      let a = small.methods in
      let b = small.classes in
      omega (arith, own, defaults, both, joined, a, b)

  all_methods_few : AllOf HasFewLocals p.methods
  all_methods_few =
      subst (AllOf HasFewLocals) (sym has.same)
      (all_joined HasFewLocals has.written has.default (all_few t (first_numbers unit.classes) unit.classes has.written (each_member_few unit is.can) has.are_written)
      (defaults_few t (first_numbers unit.classes) unit.classes has.default has.are_default))

  few_fields_there : length p.fields < 2 ^ 32
  few_fields_there =
      let fields = ap (λ (fs : List Field). length fs) (fields_are_all unit p is) in
      let counted = all_counted (names unit) 0 unit.classes in
      let a = few_fields unit.classes in
      let b = few_members unit is.can in
      omega (arith, fields, counted, a, b)

  pub few_locals_and_fields : HasFew p
  few_locals_and_fields = record { locals = few_at p.methods all_methods_few; fields = few_fields_there }
