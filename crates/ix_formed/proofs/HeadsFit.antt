-- The parameters and the result of a method of an accepted source's program fit, and a constructor has no result.
use Rattle.std.proofs.Common.{◌≡◌, ◌<◌, ℕ, suc, ◌+◌, Bool, true, false, List, [], ◌∷◌, length, Option, Some, None, refl, sym, ap, subst, ◌∙◌, arith}
use Rattle.std.specs.Prelude.{if◌then◌else◌, ◌==◌, ◌||◌, ◌&&◌, not, slice_get}
use Rattle.std.specs.List.{list_all}
use Rattle.std.proofs.lemmas.Bool.{false≢true, and_parts}
use Rattle.ix_core.specs.declared.claim.Name.{Name}
use Rattle.ix_core.specs.declared.claim.Name.TheVariants as name
use Rattle.ix_core.specs.declared.claim.Type_.{Type_}
use Rattle.ix_core.specs.declared.claim.Type_.TheVariants as type
use Rattle.ix_core.specs.declared.program.Method.{Method}
use Rattle.ix_core.specs.declared.program.Program.{Program}
use Rattle.ix_core.specs.Formed.{claim_fits, others, named_type, has_this, params_fit, result_fits, constructor_fits}
use Rattle.ix_core.specs.Tables.{param_slot, field_at, all_fields, is_among}
use Rattle.ix_core.specs.Types.{is_type, is_void, is_empty}
use Rattle.ix_tree.specs.declared.annot.TypeTree.{TypeTree}
use Rattle.ix_tree.specs.declared.decl.LocalDecl.{LocalDecl}
use Rattle.ix_tree.specs.declared.decl.MethodDecl.{MethodDecl}
use Rattle.ix_tree.specs.declared.decl.Unit.{Unit as Source}
use Rattle.ix_tree.specs.Parts.{unit_parts}
use Rattle.ix_annot.specs.Named.{is_own, what_holds}
use Rattle.ix_meaning.specs.declared.members.Signature.{Signature}
use Rattle.ix_meaning.specs.Annotated.{Declaration, variable, of_result}
use Rattle.ix_meaning.specs.Classes as classes
use Rattle.ix_meaning.specs.Classes.{parents, supers}
use Rattle.ix_meaning.specs.Members as members
use Rattle.ix_meaning.specs.Members.{World, world, signature, param_type, result_type}
use Rattle.ix_meaning.specs.Resolved.{Names, names}
use Rattle.ix_meaning.specs.Scope.{Scope, annot_names, type_or_void}
use Rattle.ix_meaning.specs.Source as source
use Rattle.ix_meaning.specs.Source.{Place}
use Rattle.ix_plain.specs.Members.{is_static}
use Rattle.ix_plain.specs.Scope.{declared_type, declared_claims}
use Rattle.ix_formed.specs.Additions.{AllOf}
use Rattle.ix_formed.specs.Shape.{AreInSlots, params_of, types_of}
use Rattle.ix_formed.specs.Written.{is_written_type, is_written_init, is_written_decl, is_written_method, has_no_result, each_true, maybe_true}
use Rattle.ix_formed.proofs.ClaimsFit.{all_true, Knows}
use Rattle.ix_formed.proofs.DeclaredFields.{MeansField}
use Rattle.ix_formed.proofs.DeclaredMethods.{MethodSays, ParamsSay, params_say, ResultSays, result_says}
use Rattle.ix_formed.proofs.DeclaredTypes.{Fit, NamesClasses, declared_is_type, variable_fits}
use Rattle.ix_formed.proofs.FieldsFit.{IsAccepted, names_classes, fields_known, inherits}
use Rattle.ix_formed.proofs.NumberLists.{both_true, is_itself}
use Rattle.ix_formed.proofs.ScopesKnow.{KnownFits, FieldsAreKnown, scope_knows, this_fits}

-- what a declaration may name: nothing else is itself
abbrev pub besides : Option Name → (Name → Option Type_) → Name → Option Type_
besides None types = types
besides (Some itself) types = others itself types

pub beside : (own : Option Name) (types : Name → Option Type_) (n : Name) → is_own own n ≡ false → besides own types n ≡ types n
beside None types n e = refl
beside (Some itself) types n e = ap (λ b. if b then None else types n) e

module _ (unit : Source) (p : Program) (is : IsAccepted unit p) where
  abbrev table : Names
  table = names unit

  -- A written method's head, as far as the program's method has it.
  pub record HasHead (l : Place) (d : MethodDecl) (method : Method) : Type 0 where
    pub world : l.world ≡ members.world unit.classes
    pub there : l.class < length unit.classes
    pub name : method.name ≡ d.name.text
    pub span : method.span ≡ d.name.span
    pub class : method.class ≡ l.class
    pub static : method.is_static ≡ is_static d
    pub constructor : method.constructor ≡ d.constructor
    pub types : method.param_types ≡ types_of (names unit) d.params
    pub result : method.result ≡ declared_type ((names unit).declared d.name.span)
    pub claims : method.result_claims ≡ declared_claims ((names unit).declared d.name.span)
    pub says : MethodSays (names unit) (unit_parts unit) l (signature l.world.class l.class d) d
    pub written : is_written_method d ≡ true

  module _ (l : Place) (d : MethodDecl) (method : Method) (head : HasHead l d method) where
    abbrev m : Signature
    m = signature l.world.class l.class d

    abbrev s : Scope
    s = source.head_scope l m d

    pub all_params_say : ParamsSay (names unit) (unit_parts unit) l s 0 d.params
    all_params_say = params_say (names unit) (unit_parts unit) l s [] 0 d.params head.says.params

    -- the parameters from a number on, in scope
    params_known : (own : Option Name) (all : List Type_) (k : ℕ) (ds : List LocalDecl) → ParamsSay (names unit) (unit_parts unit) l s k ds
        → ((j : ℕ) → slice_get all (k + j) ≡ slice_get (types_of (names unit) ds) j) → ((j : ℕ) → named_type p method (name.Param j) ≡ slice_get all j)
        → AllOf (KnownFits own (besides own (named_type p method))) (source.params_from l k ds)
    params_known own all k [] say at of = tt
    params_known own all k (d ∷ ds) say at of =
        let zero : k ≡ k + 0 = omega arith in
        let here : named_type p method (name.Param k) ≡ Some say.0.ty = of k ∙ ap (slice_get all) zero ∙ at 0 ∙ ap (λ (o : _). Some (declared_type o)) say.0.table in (
          (λ free other. (say.0.ty, beside own (named_type p method) (name.Param k) other ∙ here, ap (λ (o : Option Type_). what_holds (type_or_void o)) say.0.typed)),
          params_known own all (k + 1) ds say.1 (λ j. let e : (k + 1) + j ≡ k + suc j = omega arith in ap (slice_get all) e ∙ at (suc j)) of,
        )

    both_not : (a b : Bool) → not (a || b) ≡ true → (not a && not b) ≡ true
    both_not true b e = absurd (false≢true e)
    both_not false true e = absurd (false≢true e)
    both_not false false e = refl

    fields_named : (own : Option Name) → s.names_fields ≡ true → FieldsAreKnown own (besides own (named_type p method)) (names unit) (unit_parts unit) p l.class (l.class ∷ l.world.supers l.class)
    fields_named own allowed f k known meaning there free other =
        let has = subst (MeansField (names unit) (unit_parts unit) p f) meaning known in
        let up : classes.is_among f.class (l.class ∷ supers (parents unit.classes) l.class) ≡ true = subst (λ (w : World). classes.is_among f.class (l.class ∷ w.supers l.class) ≡ true) head.world there in
        let among = inherits unit p is l.class k head.there has.0 (ap (λ n. classes.is_among n (l.class ∷ supers (parents unit.classes) l.class)) has.1 ∙ up) in
        let may : has_this p method ≡ true = ap (λ a. not a && not method.constructor) head.static ∙ ap (λ b. not (is_static d) && not b) head.constructor ∙ both_not m.is_static m.constructor allowed in
        beside own (named_type p method) (name.FieldNamed k) other
        ∙ ap (λ b. if b then Some (field_at p k).ty else None) (both_true (has_this p method) (is_among (all_fields p method.class) k) may (ap (λ n. is_among (all_fields p n) k) head.class ∙ among))

    pub head_knows : (own : Option Name) → Knows (annot_names s own None) (besides own (named_type p method))
    head_knows own =
        scope_knows own (besides own (named_type p method)) s None
        (params_known own (types_of (names unit) d.params) 0 d.params all_params_say (λ j. let e : 0 + j ≡ j = omega arith in ap (slice_get (types_of (names unit) d.params)) e)
        (λ j. ap (λ (types : List Type_). slice_get types j) head.types))
        (this_fits own (besides own (named_type p method)) (names unit) (unit_parts unit) p l.class s refl (members.fields unit.classes) (λ a text. ap (λ (w : World). w.field a text) head.world) (fields_known unit p is)
        (λ allowed. fields_named own allowed))

    pub named_there : NamesClasses p l.world.class
    named_there = subst (λ (w : World). NamesClasses p w.class) (sym head.world) (names_classes unit p is)

    -- ---- parameters

    pub params_do_fit : (k : ℕ) (ds : List LocalDecl) (slot : ℕ) → ParamsSay (names unit) (unit_parts unit) l s k ds → each_true is_written_decl ds ≡ true → AreInSlots method k (params_of (names unit) slot ds)
        → params_fit p method k (params_of (names unit) slot ds) (types_of (names unit) ds) ≡ true
    params_do_fit k [] slot say wr slots = refl
    params_do_fit k (x ∷ ds) slot say wr slots =
        let parts_w = and_parts (is_written_decl x) (each_true is_written_decl ds) wr in
        let ty : declared_type ((names unit).declared x.name.span) ≡ say.0.ty = ap declared_type say.0.table in
        let types = others (name.Param k) (named_type p method) in
        let is_ty = declared_is_type p l.world.class named_there x.ty x.mods.annots say.0.ty say.0.typed in
        let fit = variable_fits l.world.class (annot_names s (Some (name.Param k)) None) x.mods.annots x.ty types (and_parts (is_written_type x.ty) (maybe_true is_written_init x.init) parts_w.0).0 (head_knows (Some (name.Param k)))
        say.0.ty say.0.typed in
        let claims = declared_claims ((names unit).declared x.name.span) in
        let claims_fit : Fit (declared_type ((names unit).declared x.name.span)) types claims =
        subst (λ t. Fit t types claims) (sym ty) (subst (Fit say.0.ty types) (sym (ap declared_claims say.0.table)) fit) in
        let rest = params_do_fit (k + 1) ds (slot + 1) say.1 parts_w.1 slots.1 in
        let t = declared_type ((names unit).declared x.name.span) in
        let same : (slot == param_slot method k) ≡ true = ap (λ n. n == param_slot method k) slots.0 ∙ is_itself (param_slot method k) in
        both_true (slot == param_slot method k) (is_type p t && (list_all (claim_fits t types) claims && params_fit p method (k + 1) (params_of (names unit) (slot + 1) ds) (types_of (names unit) ds))) same
        (both_true (is_type p t) (list_all (claim_fits t types) claims && params_fit p method (k + 1) (params_of (names unit) (slot + 1) ds) (types_of (names unit) ds))
        (subst (λ t. is_type p t ≡ true) (sym ty) is_ty)
        (both_true (list_all (claim_fits t types) claims) (params_fit p method (k + 1) (params_of (names unit) (slot + 1) ds) (types_of (names unit) ds)) (all_true (claim_fits t types) claims claims_fit) rest))

    -- ---- the result

    pub result_said : ResultSays (names unit) (unit_parts unit) l m d
    result_said = result_says (names unit) (unit_parts unit) l d head.written head.says

    -- a constructor, or a method without a result, has no result and no claims on it
    void_or_not : (constructor : Bool) (result : Option TypeTree) → d.constructor ≡ constructor → d.result ≡ result
        → (if is_void method.result then is_empty method.result_claims else is_type p method.result && list_all (claim_fits method.result (named_type p method)) method.result_claims) ≡ true
    void_or_not true (Some ty) c r =
        let w = (and_parts (not d.constructor || has_no_result d.result) _ head.written).0 in
        absurd (false≢true (sym (ap (λ b. not b || has_no_result d.result) c ∙ ap has_no_result r) ∙ w))
    void_or_not constructor None c r =
        let void : Some result_said.ty ≡ Some type.Void = sym result_said.typed ∙ ap (result_type l.world.class d.mods.annots) r in
        let ty : method.result ≡ type.Void = head.result ∙ ap declared_type result_said.table ∙ (let e : result_said.ty ≡ type.Void = cc in e) in
        let none : method.result_claims ≡ [] = head.claims ∙ ap declared_claims result_said.table ∙ no_claims m.constructor in
        ap (λ (t : Type_). if is_void t then is_empty method.result_claims else is_type p t && list_all (claim_fits t (named_type p method)) method.result_claims) ty ∙ ap is_empty none
      where
        no_claims : (b : Bool) → (if b then source.nothing_declared else source.result_of l s (of_result d.mods.annots) d.result).claims ≡ []
        no_claims true = refl
        no_claims false = ap (λ (o : Option TypeTree). (source.result_of l s (of_result d.mods.annots) o).claims) r
    void_or_not false (Some ty) c r =
        let typed : result_type l.world.class d.mods.annots (Some ty) ≡ Some result_said.ty = sym (ap (result_type l.world.class d.mods.annots) r) ∙ result_said.typed in
        let t = result_said.ty in
        let same : method.result ≡ t = head.result ∙ ap declared_type result_said.table in
        let is_ty = declared_is_type p l.world.class named_there ty (of_result d.mods.annots) t typed in
        let wr = (and_parts (maybe_true is_written_type d.result) _ (and_parts (not d.constructor || has_no_result d.result) _ head.written).1).0 in
        let fit = variable_fits l.world.class (annot_names s None None) (of_result d.mods.annots) ty (named_type p method) (sym (ap (maybe_true is_written_type) r) ∙ wr) (head_knows None) t typed in
        let declared : source.result_given l s m d ≡ variable l.world.class (annot_names s None None) (of_result d.mods.annots) ty =
        ap (λ b. if b then source.nothing_declared else source.result_of l s (of_result d.mods.annots) d.result) c ∙ ap (source.result_of l s (of_result d.mods.annots)) r in
        let claims : method.result_claims ≡ (variable l.world.class (annot_names s None None) (of_result d.mods.annots) ty).claims = head.claims ∙ ap declared_claims result_said.table ∙ ap (λ (x : Declaration). x.claims) declared in
        let fits : Fit method.result (named_type p method) method.result_claims = subst (λ t. Fit t (named_type p method) method.result_claims) (sym same) (subst (Fit t (named_type p method)) (sym claims) fit) in
        let typed_method : is_type p method.result ≡ true = subst (λ t. is_type p t ≡ true) (sym same) is_ty in
        void_is (is_void method.result) refl typed_method (all_true (claim_fits method.result (named_type p method)) method.result_claims fits)
      where
        void_is : (b : Bool) → b ≡ is_void method.result → is_type p method.result ≡ true → list_all (claim_fits method.result (named_type p method)) method.result_claims ≡ true
            → (if b then is_empty method.result_claims else is_type p method.result && list_all (claim_fits method.result (named_type p method)) method.result_claims) ≡ true
        void_is true e typed all = absurd (not_void method.result e typed)
          where
            not_void : (t : Type_) → true ≡ is_void t → is_type p t ≡ true → ⊥
            not_void type.Void e typed = false≢true typed
            not_void (type.Plain of) e typed = false≢true (sym e)
            not_void (type.Array of depth claims) e typed = false≢true (sym e)
        void_is false e typed all = both_true (is_type p method.result) (list_all (claim_fits method.result (named_type p method)) method.result_claims) typed all

    pub result_does_fit : result_fits p method ≡ true
    result_does_fit = void_or_not d.constructor d.result refl refl

    -- a constructor is no static method, and has no result
    pub constructor_does_fit : constructor_fits p method ≡ true
    constructor_does_fit = by_constructor d.constructor refl
      where
        no_result : (r : Option TypeTree) → has_no_result r ≡ true → r ≡ None
        no_result None e = refl
        no_result (Some ty) e = absurd (false≢true e)

        by_constructor : (b : Bool) → d.constructor ≡ b → (not method.constructor || (not method.is_static && is_void method.result)) ≡ true
        by_constructor false c = ap (λ b. not b || (not method.is_static && is_void method.result)) (head.constructor ∙ c)
        by_constructor true c =
            let w = (and_parts (not d.constructor || has_no_result d.result) _ head.written).0 in
            let r : d.result ≡ None = no_result d.result (sym (ap (λ b. not b || has_no_result d.result) c) ∙ w) in
            let void : Some result_said.ty ≡ Some type.Void = sym result_said.typed ∙ ap (result_type l.world.class d.mods.annots) r in
            let ty : method.result ≡ type.Void = head.result ∙ ap declared_type result_said.table ∙ (let e : result_said.ty ≡ type.Void = cc in e) in
            let static : method.is_static ≡ false = head.static ∙ ap (λ b. d.mods.is_static && not b) c ∙ and_false d.mods.is_static in
            ap (λ b. not b || (not method.is_static && is_void method.result)) (head.constructor ∙ c)
            ∙ both_true (not method.is_static) (is_void method.result) (ap not static) (ap is_void ty)
          where
            and_false : (a : Bool) → (a && false) ≡ false
            and_false true = refl
            and_false false = refl
