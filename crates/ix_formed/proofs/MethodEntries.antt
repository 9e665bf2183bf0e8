-- At the entry of a written method its parameters, and `this`, are known and in scope.
use Rattle.std.proofs.Common.{◌≡◌, ◌≤◌, ◌<◌, ℕ, zero, suc, ◌+◌, Bool, true, false, List, [], ◌∷◌, length, Option, Some, None, refl, sym, ap, subst, ◌∙◌, arith}
use Rattle.std.specs.Prelude.{if◌then◌else◌, ◌&&◌, ◌||◌, not, ◌==◌, slice_get, unwrap_or}
use Rattle.std.proofs.lemmas.Bool.{false≢true, and_parts}
use Rattle.ix_core.specs.declared.claim.Type_.{Type_}
use Rattle.ix_core.specs.declared.claim.Type_.TheVariants as type
use Rattle.ix_core.specs.declared.program.Local.{Local}
use Rattle.ix_core.specs.declared.program.Method.{Method}
use Rattle.ix_core.specs.declared.program.Program.{Program}
use Rattle.ix_core.specs.Formed.{first_type, param_type_from, entry_type, this_type, has_parent}
use Rattle.ix_core.specs.Tables.{param_slot}
use Rattle.ix_core.specs.Types.{class_type, is_void}
use Rattle.ix_core.proofs.Cases.{by_test, equal}
use Rattle.ix_tree.specs.declared.annot.TypeTree.{TypeTree}
use Rattle.ix_tree.specs.declared.decl.LocalDecl.{LocalDecl}
use Rattle.ix_tree.specs.declared.decl.MethodDecl.{MethodDecl}
use Rattle.ix_tree.specs.declared.decl.Unit.{Unit as Source}
use Rattle.ix_tree.specs.Parts.{unit_parts}
use Rattle.ix_meaning.specs.declared.members.Signature.{Signature}
use Rattle.ix_meaning.specs.declared.note.Meaning.TheVariants as meaning
use Rattle.ix_meaning.specs.Annotated.{of_result}
use Rattle.ix_meaning.specs.Members.{signature, result_type}
use Rattle.ix_meaning.specs.Resolved.{names}
use Rattle.ix_meaning.specs.Scope.{Known as Variable, Scope as Names}
use Rattle.ix_meaning.specs.Source as source
use Rattle.ix_meaning.specs.Source.{Place}
use Rattle.ix_meaning.specs.Types.{need_like}
use Rattle.ix_plain.specs.Counts.{most_counted}
use Rattle.ix_plain.specs.Members.{is_static, slot_behind}
use Rattle.ix_plain.specs.Program as program
use Rattle.ix_plain.specs.Program.{Tables, Home, written_head, first_param, tables}
use Rattle.ix_plain.specs.Scope.{Site, declared_type, slot_of, slot_in_params}
use Rattle.ix_formed.specs.Additions.{AllOf}
use Rattle.ix_formed.specs.Points.{Known}
use Rattle.ix_formed.specs.Shape.{IsMethod, params_of, types_of}
use Rattle.ix_formed.specs.TypedStatements.{Ground, HasVariable, IsResult, Scoped, Stands, scope_in}
use Rattle.ix_formed.specs.Written.{has_no_result}
use Rattle.ix_formed.proofs.AcceptedBodies.{ground}
use Rattle.ix_formed.proofs.DeclaredMethods.{ParamsSay}
use Rattle.ix_formed.proofs.DeclaredTypes.{declared_is_type}
use Rattle.ix_formed.proofs.FieldsFit.{IsAccepted}
use Rattle.ix_formed.proofs.HeadsFit.{HasHead, all_params_say, named_there, result_said}
use Rattle.ix_formed.proofs.NumberLists.{all_so}
use Rattle.ix_formed.proofs.ProgramsHaveShape.{params_behind, slots_behind, params_length, types_length}

-- ---- types of parameters by their slots

param_at : (first : ℕ) (types : List Type_) (k : ℕ) (ty : Type_) → slice_get types k ≡ Some ty → param_type_from first types (first + k) ≡ Some ty
param_at first [] k ty e = absurd cc
param_at first (t ∷ types) zero ty e =
    let same : first ≡ first + 0 = omega arith in ap (λ b. if b then Some t else param_type_from (first + 1) types (first + 0)) (subst (λ n. (first == n) ≡ true) same (Rattle.ix_formed.proofs.NumberLists.is_itself first)) ∙ e
param_at first (t ∷ types) (suc k) ty e =
    let other : (first == first + suc k) ≡ false = by_test (first == first + suc k) (λ t. let z = equal first (first + suc k) t in absurd (omega (arith, z))) (λ f. f) in
    let same : (first + 1) + k ≡ first + suc k = omega arith in
    ap (λ b. if b then Some t else param_type_from (first + 1) types (first + suc k)) other ∙ subst (λ n. param_type_from (first + 1) types n ≡ Some ty) same (param_at (first + 1) types k ty e)

param_past : (first : ℕ) (types : List Type_) (slot : ℕ) → first + length types ≤ slot → param_type_from first types slot ≡ None
param_past first [] slot le = refl
param_past first (t ∷ types) slot le =
    let other : (first == slot) ≡ false = by_test (first == slot) (λ t. let z = equal first slot t in absurd (omega (arith, z, le))) (λ f. f) in
    ap (λ b. if b then Some t else param_type_from (first + 1) types slot) other ∙ param_past (first + 1) types slot (omega (arith, le))

pub param_before : (first : ℕ) (types : List Type_) (slot : ℕ) → slot < first → param_type_from first types slot ≡ None
param_before first [] slot lt = refl
param_before first (t ∷ types) slot lt =
    let other : (first == slot) ≡ false = by_test (first == slot) (λ t. let z = equal first slot t in absurd (omega (arith, z, lt))) (λ f. f) in
    ap (λ b. if b then Some t else param_type_from (first + 1) types slot) other ∙ param_before (first + 1) types slot (omega (arith, lt))

params_slot : (table : Rattle.ix_meaning.specs.Resolved.Names) (slot : ℕ) (ds : List LocalDecl) (j : ℕ) → j < length ds → slot_in_params (slice_get (params_of table slot ds) j) ≡ slot + j
params_slot table slot [] j lt = absurd (omega (arith, lt))
params_slot table slot (d ∷ ds) zero lt = omega arith
params_slot table slot (d ∷ ds) (suc j) lt = let e = params_slot table (slot + 1) ds j (omega (arith, lt)) in omega (arith, e)

slot_up : (b : Bool) (k : ℕ) → ◌≡◌ {A = ℕ} (if b then k else k + 1) ((if b then 0 else 0 + 1) + k)
slot_up true k = omega arith
slot_up false k = omega arith

first_is : (b : Bool) → ◌≡◌ {A = ℕ} (if b then 0 else 1) (if b then 0 else 0 + 1)
first_is true = refl
first_is false = refl

few_first : (b : Bool) → ◌≤◌ (if b then 0 else 1) 1
few_first true = omega arith
few_first false = omega arith

module _ (unit : Source) (p : Program) (is : IsAccepted unit p) (l : Place) (d : MethodDecl) (method : Method) (head : HasHead unit p is l d method) (at : Home) (same : IsMethod (tables (names unit) unit.classes) at d method)
    (few : length d.params ≤ 32) (locals : List Type_) where
  abbrev t : Tables
  t = tables (names unit) unit.classes

  abbrev pub own_site : Site
  own_site = program.site t at (written_head t at d)

  abbrev pub own_ground : Ground
  own_ground = ground unit p is method locals own_site l.class head.there head.class

  abbrev m : Signature
  m = signature l.world.class l.class d

  abbrev pub entry_scope : Names
  entry_scope = source.body_scope l m d

  abbrev first : ℕ
  first = param_slot method 0

  abbrev pub first_free : ℕ
  first_free = slot_behind (first_param (is_static d)) d.params

  first_same : first_param (is_static d) ≡ first
  first_same = ap (λ b. if b then 0 else 1) (sym head.static) ∙ first_is method.is_static

  room : first_param (is_static d) + length d.params ≤ most_counted
  room = let f = few_first (is_static d) in omega (arith, f, few)

  slot_at : (k : ℕ) → param_slot method k ≡ first + k
  slot_at k = slot_up method.is_static k

  free_is : first_free ≡ first + length d.params
  free_is = slots_behind (first_param (is_static d)) d.params room ∙ ap (λ n. n + length d.params) first_same

  site_params : own_site.params ≡ params_of (names unit) (first_param (is_static d)) d.params
  site_params = params_behind (names unit) [] (first_param (is_static d)) d.params room

  own_params : length method.params ≡ length d.params
  own_params = ap (λ (x : Method). length x.params) same.same ∙ ap (λ (x : List Local). length x) site_params ∙ params_length (names unit) (first_param (is_static d)) d.params

  own_types : length method.param_types ≡ length d.params
  own_types = ap (λ (x : List Type_). length x) head.types ∙ types_length (names unit) d.params

  param_has_slot : (k : ℕ) → k < length d.params → slot_of (scope_in own_ground []) (Some (meaning.Param k)) ≡ first + k
  param_has_slot k lt =
      ap (λ (x : List Local). slot_in_params (slice_get x k)) site_params ∙ params_slot (names unit) (first_param (is_static d)) d.params k lt ∙ ap (λ n. n + k) first_same

  pub types_past : (slot : ℕ) → first_free ≤ slot → param_type_from (param_slot method 0) method.param_types slot ≡ None
  types_past slot le = let c = free_is in let b = own_types in param_past (param_slot method 0) method.param_types slot (omega (arith, le, c, b))

  -- ---- parameters

  module _ (lo end : ℕ) where
    -- a variable that is known at the entry
    abbrev IsEntered : Variable → Type 0
    IsEntered v = HasVariable own_ground [] [] first_free lo end v × ((ty : Type_) → v.ty ≡ Some ty → entry_type p method (slot_of (scope_in own_ground []) (Some v.meaning)) ≡ Some ty)

    unsome : (x y : Type_) → Some x ≡ Some y → x ≡ y
    unsome x y e = ap (λ (o : Option Type_). unwrap_or o type.Void) e

    one_entered : (k : ℕ) (x : LocalDecl) → k < length d.params → (ty : Type_) → Rattle.ix_meaning.specs.Members.param_type l.world.class x ≡ Some ty → slice_get method.param_types k ≡ Some ty → IsEntered (source.param_known l k x)
    one_entered k x lt ty typed here =
        let slot = param_has_slot k lt in
        let at_slot : param_type_from first method.param_types (slot_of (scope_in own_ground []) (Some (meaning.Param k))) ≡ Some ty = ap (param_type_from first method.param_types) slot ∙ param_at first method.param_types k ty here in (
          record {
            ty = ty;
            typed = typed;
            real = declared_is_type p l.world.class (named_there unit p is l d method head) x.ty x.mods.annots ty typed;
            named = here;
            first = omega (arith, slot);
            low = let f = free_is in omega (arith, slot, f, lt);
            declared = λ span within. ap (λ (o : Option Type_). first_type o None) at_slot;
          },
          (λ other e. ap (λ (o : Option Type_). first_type o (this_type p method (slot_of (scope_in own_ground []) (Some (meaning.Param k))))) at_slot ∙ sym typed ∙ e),
        )

    entered : (k : ℕ) (ds : List LocalDecl) → ParamsSay (names unit) (unit_parts unit) l (source.head_scope l m d) k ds → ((j : ℕ) → slice_get (types_of (names unit) d.params) (k + j) ≡ slice_get (types_of (names unit) ds) j)
        → k + length ds ≤ length d.params → AllOf IsEntered (source.params_from l k ds)
    entered k [] say there le = tt
    entered k (x ∷ ds) say there le =
        let zero : k ≡ k + 0 = omega arith in
        let here : slice_get method.param_types k ≡ Some say.0.ty =
        ap (λ (x : List Type_). slice_get x k) head.types ∙ ap (slice_get (types_of (names unit) d.params)) zero ∙ there 0 ∙ ap (λ (o : _). Some (declared_type o)) say.0.table in (
          one_entered k x (omega (arith, le)) say.0.ty say.0.typed here,
          entered (k + 1) ds say.1 (λ j. let e : (k + 1) + j ≡ k + suc j = omega arith in ap (slice_get (types_of (names unit) d.params)) e ∙ there (suc j)) (omega (arith, le)),
        )

    all_entered : AllOf IsEntered (source.params_from l 0 d.params)
    all_entered = entered 0 d.params (all_params_say unit p is l d method head) (λ j. let e : 0 + j ≡ j = omega arith in ap (slice_get (types_of (names unit) d.params)) e) (omega arith)

    -- ---- the result

    result_is : (o : Option TypeTree) → d.result ≡ o → IsResult own_ground (source.return_need m o)
    result_is None e =
        let said = result_said unit p is l d method head in
        let void : said.ty ≡ type.Void = unsome said.ty type.Void (sym said.typed ∙ ap (result_type l.world.class d.mods.annots) e) in
        ap is_void (head.result ∙ ap declared_type said.table ∙ void)
    result_is (Some tree) e = by_constructor d.constructor refl
      where
        by_constructor : (b : Bool) → d.constructor ≡ b → IsResult own_ground (if b then None else Some (need_like m.result))
        by_constructor true c = absurd (false≢true (sym (ap (λ b. not b || has_no_result d.result) c ∙ ap has_no_result e) ∙ (and_parts (not d.constructor || has_no_result d.result) _ head.written).0))
        by_constructor false c =
            let said = result_said unit p is l d method head in
            let typed = sym (ap (result_type l.world.class d.mods.annots) e) ∙ said.typed in
            subst (λ o. IsResult own_ground (Some (need_like o))) (sym said.typed)
            (sym (head.result ∙ ap declared_type said.table), declared_is_type p l.world.class (named_there unit p is l d method head) tree (of_result d.mods.annots) said.ty typed)

    -- ---- the scope, and the point

    not_static : (a b : Bool) → a ≡ b → not b ≡ true → a ≡ false
    not_static a true e f = absurd (false≢true f)
    not_static a false e f = e

    pub entry_scoped : Scoped own_ground entry_scope [] [] first_free lo end
    entry_scoped = record {
      world = head.world;
      class = refl;
      in_constructor = λ e. head.constructor ∙ e;
      object = λ e. let f = ap (λ b. if b then 0 else 0 + 1) (not_static method.is_static (is_static d) head.static e) in omega (arith, f);
      fields = λ e. not_static method.is_static (is_static d) head.static e;
      result = result_is d.result refl;
      params = let a = slot_at (length method.params) in let b = own_params in let c = free_is in omega (arith, a, b, c);
      first = let c = free_is in omega (arith, c);
      typed = refl;
      variables = all_so IsEntered (HasVariable own_ground [] [] first_free lo end) (λ v e. e.0) (source.params_from l 0 d.params) all_entered;
      unused = λ slot le span within. let c = free_is in let b = own_types in ap (λ (o : Option Type_). first_type o None) (param_past first method.param_types slot (omega (arith, le, c, b)));
    }

    pub entry_variables : AllOf (λ (v : Variable). (ty : Type_) → v.ty ≡ Some ty → Known (Some (entry_type p method)) (slot_of (scope_in own_ground []) (Some v.meaning)) ty) (source.params_from l 0 d.params)
    entry_variables = all_so IsEntered (λ (v : Variable). (ty : Type_) → v.ty ≡ Some ty → Known (Some (entry_type p method)) (slot_of (scope_in own_ground []) (Some v.meaning)) ty) (λ v e. e.1) (source.params_from l 0 d.params) all_entered

    -- where the parent's constructor needn't run first
    pub entry_stands : (method.constructor && has_parent p method) ≡ false → Stands own_ground entry_scope [] (Some (entry_type p method))
    entry_stands free = record {
      variables = entry_variables;
      this = λ e.
          let instance = not_static method.is_static (is_static d) head.static e in
          let f = ap (λ b. if b then 0 else 0 + 1) instance in
          ap (λ (o : Option Type_). first_type o (this_type p method 0)) (param_before first method.param_types 0 (omega (arith, f)))
          ∙ ap (λ b. if not b && ((0 == 0) && not (method.constructor && has_parent p method)) then Some (class_type method.class) else None) instance
          ∙ ap (λ b. if not b then Some (class_type method.class) else None) free ∙ ap (λ c. Some (class_type c)) head.class;
    }
