-- Methods, fields, classes and parameters are made one after the other: what one more gives, and one that is refused. The loops over them cite these.
use Rattle.std.proofs.Common.{true, false, OnOk, MatchResult, ◌≡◌, ℕ, suc, ◌+◌, ◌<◌, ◌≤◌, List, [], ◌∷◌, ◌++◌, drop, get_or, length, Option, arith, sym, ap, ◌∙◌}
use Rattle.std.specs.Prelude.{Result, Ok, Err}
use Rattle.std.proofs.Math.Seq.{drop-cons}
use Rattle.std.proofs.lemmas.List.{drop_all}
use Rattle.ix_text.specs.declared.span.Span.{Span}
use Rattle.ix_core.specs.declared.claim.Claim.{Claim}
use Rattle.ix_core.specs.declared.claim.Type_.{Type_}
use Rattle.ix_core.specs.declared.program.Class.{Class}
use Rattle.ix_core.specs.declared.program.Local.{Local}
use Rattle.ix_core.specs.declared.program.Method.{Method}
use Rattle.ix_tree.specs.declared.decl.ClassDecl.{ClassDecl}
use Rattle.ix_meaning.specs.Limits.{Passed}
use Rattle.ix_tree.specs.declared.decl.LocalDecl.{LocalDecl}
use Rattle.ix_tree.specs.declared.decl.Member.{Member}
use Rattle.ix_tree.specs.declared.decl.Member.TheVariants as member
use Rattle.ix_tree.specs.declared.decl.MethodDecl.{MethodDecl}
use Rattle.ix_meaning.specs.Resolved.{Names}
use Rattle.ix_meaning.specs.Source.{has_constructor}
use Rattle.ix_meaning.specs.declared.note.Which.{Which}
use Rattle.ix_plain.specs.declared.body.Body.{Body}
use Rattle.ix_plain.specs.declared.numbers.Next.{Next}
use Rattle.ix_plain.specs.Counts.{one}
use Rattle.ix_plain.specs.Members.{next_behind, next_field, class_of, classes_from, params_from, param_types_from}
use Rattle.ix_plain.specs.Parts.{Within, ◌>>=◌}
use Rattle.ix_plain.specs.Program.{Tables, Home, home, default, placed, written_method, methods_in, methods_from, default_of, defaults_from, member_initialised, fields_initialised}
use Rattle.ix_plain.specs.Scope.{Site, declared_type, declared_claims}
use Rattle.ix_lower.specs.declared.source.LowerError.{LowerError}
use Rattle.ix_lower.specs.declared.source.LowerError.TheVariants as error

-- the first of those that are left
first_left : {A : Type 0} (all : List A) (place : ℕ) (first : A) → place < length all → first ≡ get_or all place first → drop place all ≡ first ∷ drop (place + 1) all
first_left all place first within is =
    let on : suc place ≡ place + 1 = omega arith in
    drop-cons all place first within ∙ (ap (λ x. x ∷ drop (suc place) all) (sym is) ∙ ap (λ n. first ∷ drop n all) on)

abbrev pub Methods : Type 0
Methods = Result (List Method) Passed

-- ---- the methods of classes

module _ (tables : Tables) (decls : List ClassDecl) (place : ℕ) (decl : ClassDecl) (next : Next) (found : Home) (before : List Method) (answer whole : Methods)
    (within : place < length decls) (is : decl ≡ get_or decls place decl) (at : found ≡ home tables next decl) where
  pub class_written : methods_in tables found found.members before ≡ answer → whole ≡ methods_from tables next (drop place decls) before
      → whole ≡ answer >>= methods_from tables (next_behind next decl) (drop (place + 1) decls)
  class_written made so =
      let rest = drop (place + 1) decls in
      so ∙ (ap (λ these. methods_from tables next these before) (first_left decls place decl within is)
      ∙ ap (λ (r : Methods). r >>= methods_from tables (next_behind next decl) rest) (ap (λ (h : Home). methods_in tables h h.members before) (sym at) ∙ made))

  pub class_defaulted : default_of tables found decl.name.span before ≡ answer → whole ≡ defaults_from tables next (drop place decls) before
      → whole ≡ answer >>= defaults_from tables (next_behind next decl) (drop (place + 1) decls)
  class_defaulted made so =
      let rest = drop (place + 1) decls in
      so ∙ (ap (λ these. defaults_from tables next these before) (first_left decls place decl within is)
      ∙ ap (λ (r : Methods). r >>= defaults_from tables (next_behind next decl) rest) (ap (λ (h : Home). default_of tables h decl.name.span before) (sym at) ∙ made))

-- ---- the constructor of a class that has none written

-- want of memory is no limit
pub no_limit : {T A : Type 0} (P : T → Type 0) (r : Result T LowerError) (which : Which) (place : ℕ) (x y : A) → MatchResult r P (λ cause. cause ≡ error.Memory) → r ≡ Err (error.Limit which place) → x ≡ y
no_limit P (Ok added) which place x y given is = cc
no_limit P (Err cause) which place x y given is = cc

module _ (tables : Tables) (home : Home) (span : Span) (before : List Method) where
  pub default_not_needed : has_constructor home.members ≡ true → default_of tables home span before ≡ Ok before
  default_not_needed has = rw has

  pub default_pushed : {T : Type 0} (method : Method) (after : List Method) (r : Result T LowerError) → has_constructor home.members ≡ false → placed span (default tables home span) ≡ Ok method
      → MatchResult r (λ _. after ≡ before ++ method ∷ []) (λ cause. cause ≡ error.Memory) → OnOk r (default_of tables home span before ≡ Ok after)
  default_pushed method after (Ok pushed) none made added = rw (none, made) (ap (λ (all : List Method). Ok all) (sym added))
  default_pushed method after (Err cause) none made added = tt

-- ---- the members of a class

module _ (members : List Member) (place : ℕ) (here : Member) (within : place < length members) (is : here ≡ get_or members place here) where
  pub method_placed : (tables : Tables) (home : Home) (decl : MethodDecl) (before : List Method) (answer : Result Method Passed) (whole : Methods) → here ≡ member.Method decl
      → placed decl.name.span (written_method tables home decl) ≡ answer → whole ≡ methods_in tables home (drop place members) before
      → whole ≡ answer >>= (λ method. methods_in tables home (drop (place + 1) members) (before ++ method ∷ []))
  method_placed tables home decl before answer whole method made so =
      let rest = drop (place + 1) members in
      so ∙ (ap (λ these. methods_in tables home these before) (first_left members place here within is)
      ∙ (ap (λ m. methods_in tables home (m ∷ rest) before) method
      ∙ ap (λ (r : Result Method Passed). r >>= (λ method. methods_in tables home rest (before ++ method ∷ []))) made))

  pub field_initialised : (site : Site) (field : ℕ) (decl : LocalDecl) (body : Body) (answer whole : Within Body) → here ≡ member.Field decl
      → member_initialised site field decl body ≡ answer → whole ≡ fields_initialised site field (drop place members) body
      → whole ≡ answer >>= fields_initialised site (next_field field decl) (drop (place + 1) members)
  field_initialised site field decl body answer whole of made so =
      let rest = drop (place + 1) members in
      so ∙ (ap (λ these. fields_initialised site field these body) (first_left members place here within is)
      ∙ (ap (λ m. fields_initialised site field (m ∷ rest) body) of
      ∙ ap (λ (r : Within Body). r >>= fields_initialised site (next_field field decl) rest) made))

pub methods_done : (members : List Member) (place : ℕ) (tables : Tables) (home : Home) (before : List Method) (whole : Methods) → length members ≤ place
    → whole ≡ methods_in tables home (drop place members) before → whole ≡ Ok before
methods_done members place tables home before whole past so = so ∙ ap (λ these. methods_in tables home these before) (drop_all place members past)

pub fields_done : (members : List Member) (place : ℕ) (site : Site) (field : ℕ) (body : Body) (whole : Within Body) → length members ≤ place
    → whole ≡ fields_initialised site field (drop place members) body → whole ≡ Ok body
fields_done members place site field body whole past so = so ∙ ap (λ these. fields_initialised site field these body) (drop_all place members past)

-- ---- classes and parameters

module _ (decls : List ClassDecl) (place : ℕ) (decl : ClassDecl) (within : place < length decls) (is : decl ≡ get_or decls place decl) where
  pub class_added : (parent : ℕ → Option ℕ) (classes new : List Class) (next behind : Next) (class : Class) (whole : List Class) → class ≡ class_of next (parent next.class) decl
      → new ≡ classes ++ class ∷ [] → behind ≡ next_behind next decl → whole ≡ classes_from classes next parent (drop place decls) → whole ≡ classes_from new behind parent (drop (place + 1) decls)
  class_added parent classes new next behind class whole made added on so =
      let rest = drop (place + 1) decls in
      so ∙ (ap (λ these. classes_from classes next parent these) (first_left decls place decl within is)
      ∙ (ap (λ c. classes_from (classes ++ c ∷ []) (next_behind next decl) parent rest) (sym made)
      ∙ (ap (λ all. classes_from all (next_behind next decl) parent rest) (sym added) ∙ ap (λ n. classes_from new n parent rest) (sym on))))

module _ (names : Names) (decls : List LocalDecl) (place : ℕ) (decl : LocalDecl) (within : place < length decls) (is : decl ≡ get_or decls place decl) where
  pub param_added : (params new : List Local) (slot behind : ℕ) (name : List ℕ) (claims : List Claim) (whole : List Local) → name ≡ decl.name.text
      → claims ≡ declared_claims (names.declared decl.name.span) → new ≡ params ++ record { slot = slot; name = name; claims = claims } ∷ []
      → behind ≡ one slot → whole ≡ params_from names params slot (drop place decls) → whole ≡ params_from names new behind (drop (place + 1) decls)
  param_added params new slot behind name claims whole named claimed added on so =
      let rest = drop (place + 1) decls in
      so ∙ (ap (λ these. params_from names params slot these) (first_left decls place decl within is)
      ∙ (ap (λ n. params_from names (params ++ record { slot = slot; name = n; claims = declared_claims (names.declared decl.name.span) } ∷ []) (one slot) rest) (sym named)
      ∙ (ap (λ c. params_from names (params ++ record { slot = slot; name = name; claims = c } ∷ []) (one slot) rest) (sym claimed)
      ∙ (ap (λ all. params_from names all (one slot) rest) (sym added) ∙ ap (λ n. params_from names new n rest) (sym on)))))

  pub type_added : (types new : List Type_) (ty : Type_) (whole : List Type_) → ty ≡ declared_type (names.declared decl.name.span) → new ≡ types ++ ty ∷ []
      → whole ≡ param_types_from names types (drop place decls) → whole ≡ param_types_from names new (drop (place + 1) decls)
  type_added types new ty whole declared added so =
      let rest = drop (place + 1) decls in
      so ∙ (ap (λ these. param_types_from names types these) (first_left decls place decl within is)
      ∙ (ap (λ t. param_types_from names (types ++ t ∷ []) rest) (sym declared) ∙ ap (λ all. param_types_from names all rest) (sym added)))
