-- The methods that names mean in an accepted source, its program has, and new arrays have types of it.
use Rattle.std.proofs.Common.{◌≡◌, ◌≤◌, ◌<◌, ℕ, ◌+◌, Bool, true, false, List, [], ◌∷◌, ◌++◌, length, map, Option, Some, None, refl, sym, ap, subst, ◌∙◌, arith, append_assoc, length-append}
use Rattle.std.specs.Prelude.{if◌then◌else◌, ◌&&◌, ◌||◌, not, nat_lt, ◌==◌, bytes_eq, slice_get, unwrap_or}
use Rattle.std.proofs.lemmas.Bool.{false≢true, and_parts}
use Rattle.std.proofs.lemmas.Bool.Decides.{nat_tests}
use Rattle.std.proofs.lemmas.List.{append-nil}
use Rattle.ix_core.specs.declared.claim.Base.{Base}
use Rattle.ix_core.specs.declared.claim.Base.TheVariants as base
use Rattle.ix_core.specs.declared.claim.Claim.{Claim}
use Rattle.ix_core.specs.declared.claim.Type_.{Type_}
use Rattle.ix_core.specs.declared.claim.Type_.TheVariants as type
use Rattle.ix_core.specs.declared.program.Program.{Program}
use Rattle.ix_core.specs.SameClaims.{distinct}
use Rattle.ix_core.specs.Tables.{method_at}
use Rattle.ix_core.specs.Types.{is_type, is_array, is_array_type, is_class, is_void, is_below, is_element_claim}
use Rattle.ix_core.proofs.Cases.{equal}
use Rattle.ix_tree.specs.declared.annot.Annot.{Annot}
use Rattle.ix_tree.specs.declared.annot.BaseTree.{BaseTree}
use Rattle.ix_tree.specs.declared.annot.BaseTree.TheVariants as tree
use Rattle.ix_tree.specs.declared.annot.TypeTree.{TypeTree}
use Rattle.ix_tree.specs.declared.decl.ClassDecl.{ClassDecl}
use Rattle.ix_tree.specs.declared.decl.LocalDecl.{LocalDecl}
use Rattle.ix_tree.specs.declared.decl.Member.{Member}
use Rattle.ix_tree.specs.declared.decl.Member.TheVariants as member
use Rattle.ix_tree.specs.declared.decl.MethodDecl.{MethodDecl}
use Rattle.ix_tree.specs.declared.decl.Unit.{Unit as Source}
use Rattle.ix_annot.specs.declared.scope.Target.TheVariants as on
use Rattle.ix_meaning.specs.declared.members.Signature.{Signature}
use Rattle.ix_meaning.specs.Annotated.{based, class_use, given, names_nothing, is_int_tree, of_result}
use Rattle.ix_meaning.specs.Classes as classes
use Rattle.ix_meaning.specs.Classes.{parents, supers, class_named}
use Rattle.ix_meaning.specs.Members as members
use Rattle.ix_meaning.specs.Members.{ClassOf, Callee, world, signature, param_type, result_type, callable_if, is_method_named, method_named}
use Rattle.ix_meaning.specs.Types.{shaped}
use Rattle.ix_meaning.specs.Values as values
use Rattle.ix_plain.specs.declared.body.Head.{Head}
use Rattle.ix_plain.specs.Counts.{most_counted}
use Rattle.ix_plain.specs.Members.{heads_in, heads_from, heads, is_static}
use Rattle.ix_plain.specs.Scope.{Site, head_at, no_head}
use Rattle.ix_formed.specs.Additions.{AllOf}
use Rattle.ix_formed.specs.Typed.{IsResult, TakesTypes, MethodIs}
use Rattle.ix_formed.specs.Written.{is_written_member, is_written_method, has_no_result, each_true}
use Rattle.ix_formed.proofs.AcceptedMembers.{whenever_is}
use Rattle.ix_formed.proofs.ClaimsFit.{Whenever, distinct_so}
use Rattle.ix_formed.proofs.ClassesFit.{matched}
use Rattle.ix_formed.proofs.DeclaredTypes.{ElementsFit, NamesClasses, declared_is_type, written_is_type, given_elements, given_none}
use Rattle.ix_formed.proofs.FieldsFit.{IsAccepted, class_count, names_classes, below, is_small}
use Rattle.ix_formed.proofs.HeadsAre.{Matches, SignaturesMatch}
use Rattle.ix_formed.proofs.Numbering.{one_more}
use Rattle.ix_formed.proofs.NumberLists.{both_true, all_joined}
use Rattle.ix_formed.proofs.Overrides.{nearest_is}
use Rattle.ix_formed.proofs.ProgramsHaveShape.{less_is}

-- ---- signatures with their numbers

-- each signature is so, with its number
abbrev pub AllFrom : (ℕ → Signature → Type 0) → ℕ → List Signature → Type 0
AllFrom P k [] = Unit {0}
AllFrom P k (m ∷ ms) = P k m × AllFrom P (k + 1) ms

pub found_so : (P : ℕ → Signature → Type 0) (so : Signature → Bool) (k : ℕ) (ms : List Signature) → AllFrom P k ms → Whenever (λ (c : Callee). P c.number c.signature × (so c.signature ≡ true)) (callable_if so k ms)
found_so P so k [] all = tt
found_so P so k (m ∷ ms) all = this_or_later (so m) refl (found_so P so (k + 1) ms all.1)
  where
    this_or_later : (b : Bool) → so m ≡ b → Whenever (λ (c : Callee). P c.number c.signature × (so c.signature ≡ true)) (callable_if so (k + 1) ms) → Whenever (λ (c : Callee). P c.number c.signature × (so c.signature ≡ true)) (if b then Some (record { number = k; signature = m }) else callable_if so (k + 1) ms)
    this_or_later true e rest = (all.0, e)
    this_or_later false e rest = rest

-- ---- heads

abbrev pub head_of : Signature → Head
head_of m = record { class = m.class; is_static = m.is_static }

heads_in_are : (class : ClassOf) (hs : List Head) (c : ℕ) (ms : List Member) → heads_in hs c ms ≡ hs ++ map head_of (members.methods_in class c ms)
heads_in_are class hs c [] = sym (append-nil hs)
heads_in_are class hs c (member.Field d ∷ ms) = heads_in_are class hs c ms
heads_in_are class hs c (member.Method d ∷ ms) =
    let h : Head = record { class = c; is_static = is_static d } in heads_in_are class (hs ++ h ∷ []) c ms ∙ append_assoc hs (h ∷ []) (map head_of (members.methods_in class c ms))

map_joined : (xs ys : List Signature) → map head_of (xs ++ ys) ≡ map head_of xs ++ map head_of ys
map_joined [] ys = refl
map_joined (x ∷ xs) ys = ap (λ l. head_of x ∷ l) (map_joined xs ys)

heads_are : (class : ClassOf) (hs : List Head) (c : ℕ) (ks : List ClassDecl) → c + length ks ≤ most_counted → heads_from hs c ks ≡ hs ++ map head_of (members.methods_from class c ks)
heads_are class hs c [] le = sym (append-nil hs)
heads_are class hs c (k ∷ ks) le =
    ap (λ n. heads_from (heads_in hs c k.members) n ks) (one_more c (omega (arith, le))) ∙ heads_are class (heads_in hs c k.members) (c + 1) ks (omega (arith, le))
    ∙ ap (λ l. l ++ map head_of (members.methods_from class (c + 1) ks)) (heads_in_are class hs c k.members)
    ∙ append_assoc hs (map head_of (members.methods_in class c k.members)) (map head_of (members.methods_from class (c + 1) ks))
    ∙ ap (λ l. hs ++ l) (sym (map_joined (members.methods_in class c k.members) (members.methods_from class (c + 1) ks)))

head_behind : (before : List Signature) (m : Signature) (later : List Signature) → slice_get (map head_of (before ++ m ∷ later)) (length before) ≡ Some (head_of m)
head_behind [] m later = refl
head_behind (x ∷ before) m later = head_behind before m later

-- ---- of an accepted source

module _ (unit : Source) (p : Program) (is : IsAccepted unit p) where
  -- a list of signatures from that number on
  heads_from_there : (before ms : List Signature) (number : ℕ) → number ≡ length before → AllFrom (λ k m. slice_get (map head_of (before ++ ms)) k ≡ Some (head_of m)) number ms
  heads_from_there before [] number e = tt
  heads_from_there before (m ∷ ms) number e = (
    subst (λ n. slice_get (map head_of (before ++ m ∷ ms)) n ≡ Some (head_of m)) (sym e) (head_behind before m ms),
    subst (λ (l : List Signature). AllFrom (λ k m. slice_get (map head_of l) k ≡ Some (head_of m)) (number + 1) ms) (append_assoc before (m ∷ []) ms)
        (heads_from_there (before ++ m ∷ []) ms (number + 1) (let a = length-append before (m ∷ []) in omega (arith, a, e))),
  )

  -- the parameters and the result have types of the program, and a constructor has no result
  pub record HasTypes (m : Signature) : Type 0 where
    pub params : (types : List Type_) → map (λ t. Some t) types ≡ m.params → AllOf (λ ty. is_type p ty ≡ true) types
    pub result : (ty : Type_) → m.result ≡ Some ty → IsResult p ty
    pub none : m.constructor ≡ true → m.result ≡ Some type.Void

  module _ (class : ClassOf) (there : NamesClasses p class) where
    params_real : (ds : List LocalDecl) (types : List Type_) → map (λ t. Some t) types ≡ map (param_type class) ds → AllOf (λ ty. is_type p ty ≡ true) types
    params_real [] [] e = tt
    params_real [] (t ∷ ts) e = absurd cc
    params_real (d ∷ ds) [] e = absurd cc
    params_real (d ∷ ds) (t ∷ ts) e =
        let first : param_type class d ≡ Some t = sym (ap (λ (l : List (Option Type_)). unwrap_or (slice_get l 0) None) e) in
        (declared_is_type p class there d.ty d.mods.annots t first, params_real ds ts (ap (λ (l : List (Option Type_)). tail l) e))
      where
        tail : List (Option Type_) → List (Option Type_)
        tail [] = []
        tail (x ∷ xs) = xs

    type_or_none : (annots : List Annot) (o : Option TypeTree) (ty : Type_) → result_type class annots o ≡ Some ty → IsResult p ty
    type_or_none annots None ty e = let same : type.Void ≡ ty = cc in subst (IsResult p) same refl
    type_or_none annots (Some tree) ty e = or_type (is_void ty) (declared_is_type p class there tree (of_result annots) ty e)
      where
        or_type : (b : Bool) → is_type p ty ≡ true → (b || is_type p ty) ≡ true
        or_type true e = refl
        or_type false e = e

    one_typed : (c : ℕ) (d : MethodDecl) → is_written_method d ≡ true → HasTypes (signature class c d)
    one_typed c d wr = record {
      params = params_real d.params;
      result = type_or_none d.mods.annots d.result;
      none = λ e. no_result d.result (ap (λ b. not b || has_no_result d.result) (sym e) ∙ (and_parts (not d.constructor || has_no_result d.result) _ wr).0);
    }
      where
        no_result : (o : Option TypeTree) → has_no_result o ≡ true → result_type class d.mods.annots o ≡ Some type.Void
        no_result None e = refl
        no_result (Some ty) e = absurd (false≢true e)

    typed_in : (c : ℕ) (ms : List Member) → each_true is_written_member ms ≡ true → AllOf HasTypes (members.methods_in class c ms)
    typed_in c [] wr = tt
    typed_in c (member.Field d ∷ ms) wr = typed_in c ms (and_parts (is_written_member (member.Field d)) (each_true is_written_member ms) wr).1
    typed_in c (member.Method d ∷ ms) wr = let w = and_parts (is_written_method d) (each_true is_written_member ms) wr in (one_typed c d w.0, typed_in c ms w.1)

    typed_from : (c : ℕ) (ks : List ClassDecl) → each_true (λ (k : ClassDecl). each_true is_written_member k.members) ks ≡ true → AllOf HasTypes (members.methods_from class c ks)
    typed_from c [] wr = tt
    typed_from c (k ∷ ks) wr =
        let w = and_parts (each_true is_written_member k.members) (each_true (λ (k : ClassDecl). each_true is_written_member k.members) ks) wr in
        all_joined HasTypes (members.methods_in class c k.members) (members.methods_from class (c + 1) ks) (typed_in c k.members w.0) (typed_from (c + 1) ks w.1)

  -- what is so of each signature, by its number
  pub record IsCalled (number : ℕ) (m : Signature) : Type 0 where
    pub there : number < length p.methods
    pub matches : Matches unit p is (method_at p number) m
    pub head : slice_get (heads unit.classes) number ≡ Some (head_of m)
    pub types : HasTypes m

  all_called : (number : ℕ) (ms : List Signature) → SignaturesMatch unit p is number ms → AllFrom (λ k m. slice_get (heads unit.classes) k ≡ Some (head_of m)) number ms → AllOf HasTypes ms → AllFrom IsCalled number ms
  all_called number [] match at types = tt
  all_called number (m ∷ ms) match at types = (record { there = match.0.0; matches = match.0.1; head = at.0; types = types.0 }, all_called (number + 1) ms match.1 at.1 types.1)

  pub signatures_called : AllFrom IsCalled 0 (members.methods unit.classes)
  signatures_called =
      let few = (is_small unit p is).classes in
      let all : heads unit.classes ≡ map head_of (members.methods unit.classes) = heads_are (class_named unit.classes) [] 0 unit.classes (omega (arith, few)) in
      all_called 0 (members.methods unit.classes) (matched unit p is).0
      (subst (λ (hs : List Head). AllFrom (λ k m. slice_get hs k ≡ Some (head_of m)) 0 (members.methods unit.classes)) (sym all) (heads_from_there [] (members.methods unit.classes) 0 refl))
      (typed_from (class_named unit.classes) (names_classes unit p is) 0 unit.classes is.written)

  pub class_is : (class : ℕ) → class < length unit.classes → is_class p class ≡ true
  class_is class lt = less_is class (length p.classes) (let n = class_count unit p is in omega (arith, lt, n))

  pub takes_types : (site : Site) (number : ℕ) (m : Signature) → IsCalled number m → TakesTypes p site number m.params
  takes_types site number m called = record { there = called.there; same = called.matches.params; types = called.types.params (method_at p number).param_types called.matches.params }

  -- a method that a name means in a class
  pub method_is : (site : Site) → site.heads ≡ heads unit.classes → (class : ℕ) (text : List ℕ) (m : Callee) → is_class p class ≡ true → method_named (world unit.classes) class text ≡ Some m → MethodIs p site class m
  method_is site same class text m there e =
      let found = whenever_is (λ (x : Callee). (a : ℕ) × (classes.is_among a (class ∷ supers (parents unit.classes) class) ≡ true) × (IsCalled x.number x.signature × (is_method_named a text x.signature ≡ true))) (method_named (world unit.classes) class text) m
      (nearest_is unit p is (λ a. members.own_method (members.methods unit.classes) a text) (class ∷ supers (parents unit.classes) class) (λ a (x : Callee). IsCalled x.number x.signature × (is_method_named a text x.signature ≡ true))
      (λ a. found_so IsCalled (is_method_named a text) 0 (members.methods unit.classes) signatures_called)) e in
      let called = found.2.0 in
      let n = m.number in
      let s = m.signature in
      let parts = and_parts (s.class == found.0) (not s.constructor && bytes_eq s.name text) found.2.1 in
      let plain = (and_parts (not s.constructor) (bytes_eq s.name text) parts.1).0 in
      let class_lt : class < length unit.classes = (let a : class < length p.classes = grind (arith, nat_tests, there) in let b = class_count unit p is in omega (arith, a, b)) in
      let head : head_at site n ≡ head_of s = ap (λ (l : List Head). unwrap_or (slice_get l n) no_head) same ∙ ap (λ (o : Option Head). unwrap_or o no_head) called.head in
      let own : (method_at p n).class ≡ found.0 = called.matches.class ∙ equal s.class found.0 parts.0 in
      record {
        takes = takes_types site n s called;
        head_static = ap (λ (h : Head). h.is_static) head;
        head_class = ap (λ (h : Head). is_class p h.class) head ∙ class_is s.class called.matches.there;
        static = called.matches.static;
        constructor = called.matches.constructor ∙ not_true s.constructor plain;
        result = sym called.matches.result;
        of_type = called.types.result (method_at p n).result (sym called.matches.result);
        below = ap (is_below p class) own ∙ below unit p is class found.0 class_lt found.1;
      }
    where
      not_true : (b : Bool) → not b ≡ true → b ≡ false
      not_true true e = absurd (false≢true e)
      not_true false e = refl

  -- ---- new arrays

  abbrev created_claims : TypeTree → List Claim
  created_claims ty = distinct (given (names_nothing (values.created_target ty)) ty.annots).claims

  pub created_is : (ty : TypeTree) (t : Type_) → nat_lt 0 ty.depth ≡ true → (values.created_in (class_named unit.classes) ty).ty ≡ Some t → is_array p t ≡ true
  created_is ty t deep e =
      both_true (is_array_type t) (is_type p t) (array_is ty.base e) (written_is_type p (class_named unit.classes) (names_classes unit p is) ty (created_claims ty) fit t e)
    where
      by_base : (of : BaseTree) → ElementsFit of (distinct (given (names_nothing (if is_int_tree of then on.Element else on.Other)) ty.annots).claims)
      by_base tree.Int = distinct_so (λ c. is_element_claim c ≡ true) (given (names_nothing on.Element) ty.annots).claims (given_elements (names_nothing on.Element) ty.annots refl)
      by_base tree.Boolean = ap distinct (given_none (names_nothing on.Other) ty.annots refl)
      by_base (tree.Named name) = ap distinct (given_none (names_nothing on.Other) ty.annots refl)

      fit : ElementsFit ty.base (created_claims ty)
      fit = by_base ty.base

      shape : (of : Base) (cs : List Claim) → is_array_type (shaped of ty.depth cs) ≡ true
      shape of cs =
          let f : (ty.depth == 0) ≡ false = grind (arith, nat_tests, deep) in ap (λ b. is_array_type (if b then type.Plain of else type.Array of ty.depth cs)) f

      class_array : (o : Option ℕ) (cs : List Claim) (span : _) → (class_use o ty.depth cs span).ty ≡ Some t → is_array_type t ≡ true
      class_array None cs span e = absurd cc
      class_array (Some number) cs span e = let same : shaped (base.Class number) ty.depth cs ≡ t = cc in subst (λ t. is_array_type t ≡ true) same (shape (base.Class number) cs)

      array_is : (of : BaseTree) → (based (class_named unit.classes) of ty.depth (created_claims ty)).ty ≡ Some t → is_array_type t ≡ true
      array_is tree.Int e = let same : shaped base.Int ty.depth (created_claims ty) ≡ t = cc in subst (λ t. is_array_type t ≡ true) same (shape base.Int (created_claims ty))
      array_is tree.Boolean e = let same : shaped base.Bool ty.depth (created_claims ty) ≡ t = cc in subst (λ t. is_array_type t ≡ true) same (shape base.Bool (created_claims ty))
      array_is (tree.Named name) e = class_array (class_named unit.classes name.text) (created_claims ty) name.span e
