-- The constructors of classes that have none written fit inside.
use Rattle.std.proofs.Common.{◌≡◌, ◌≤◌, ◌<◌, ℕ, ◌+◌, Bool, true, false, List, [], ◌∷◌, length, Option, Some, None, refl, sym, ap, subst, ◌∙◌, arith, inr}
use Rattle.std.specs.Prelude.{if◌then◌else◌, ◌&&◌, not, ◌==◌}
use Rattle.std.proofs.lemmas.Bool.{false≢true}
use Rattle.std.proofs.lemmas.List.{append-nil}
use Rattle.ix_text.specs.declared.span.Span.{Span}
use Rattle.ix_core.specs.declared.claim.Type_.{Type_}
use Rattle.ix_core.specs.declared.program.Local.{Local}
use Rattle.ix_core.specs.declared.program.Method.{Method}
use Rattle.ix_core.specs.declared.program.Program.{Program}
use Rattle.ix_core.specs.Code.{End, items_code}
use Rattle.ix_core.specs.Formed.{Ways, entry_type, this_type, has_parent, code_ways, locals_fit, is_some_of}
use Rattle.ix_core.specs.Tables.{class_at, param_slot}
use Rattle.ix_core.specs.Types.{Point, class_type, is_class, is_void}
use Rattle.ix_tree.specs.declared.decl.ClassDecl.{ClassDecl}
use Rattle.ix_tree.specs.declared.decl.Unit.{Unit as Source}
use Rattle.ix_tree.specs.Parts.{unit_parts}
use Rattle.ix_meaning.specs.declared.members.Signature.{Signature}
use Rattle.ix_meaning.specs.Members as members
use Rattle.ix_meaning.specs.Members.{world, constructor_params}
use Rattle.ix_meaning.specs.Resolved.{names}
use Rattle.ix_meaning.specs.Rules.{wrong_arguments}
use Rattle.ix_meaning.specs.Scope.{Scope as Names}
use Rattle.ix_meaning.specs.Source as source
use Rattle.ix_meaning.specs.Source.{Place, place, has_constructor}
use Rattle.ix_meaning.specs.Values as reading
use Rattle.ix_plain.specs.declared.body.Body.{Body}
use Rattle.ix_plain.specs.declared.numbers.Next.{Next}
use Rattle.ix_plain.specs.Members.{next_behind}
use Rattle.ix_plain.specs.Program as program
use Rattle.ix_plain.specs.Program.{Tables, Home, start, tables, home, super_call, constructor_start}
use Rattle.ix_plain.specs.Scope.{Site}
use Rattle.ix_formed.specs.Additions.{Makes, AllOf, code_before}
use Rattle.ix_formed.specs.NoErrors.{Agrees, Say, ClassesSay}
use Rattle.ix_formed.specs.OwnSlots.{HaveOwnSlots}
use Rattle.ix_formed.specs.Shape.{IsDefault, IsNext, IsOneDefault, IfElse, AreDefaults}
use Rattle.ix_formed.specs.TypedStatements.{Ground, IsGround, Says, Scoped}
use Rattle.ix_formed.proofs.AcceptedBodies.{ground, is_ground}
use Rattle.ix_formed.proofs.AcceptedMethods.{class_is}
use Rattle.ix_formed.proofs.ClassFields.{HasFields, AllHaveFields}
use Rattle.ix_formed.proofs.ConstructorBodies.{Started, constructor_starts}
use Rattle.ix_formed.proofs.ConstructorFields.{AreInitialised, begun_none}
use Rattle.ix_formed.proofs.ConstructorParents.{parent_called}
use Rattle.ix_formed.proofs.FieldPlaces.{Anywhere}
use Rattle.ix_formed.proofs.FieldsFit.{IsAccepted, same_parents, parents_there, parent_count}
use Rattle.ix_formed.proofs.FieldsInitialised.{are_initialised}
use Rattle.ix_formed.proofs.FormedPrograms.{FitsInside}
use Rattle.ix_formed.proofs.Numbering.{goes, goes_on}
use Rattle.ix_formed.proofs.PlainItems.{made_is, items_before}

module _ (unit : Source) (p : Program) (is : IsAccepted unit p) where
  abbrev t : Tables
  t = tables (names unit) unit.classes

  module _ (ss : List Signature) (c : ℕ) (next : Next) (k : ClassDecl) (number : next.class ≡ c) (there : c < length unit.classes) (fields : HasFields unit p is ss c next k)
      (said : Say (Agrees (names unit) (unit_parts unit)) (source.implicit_super_of (world unit.classes) ((world unit.classes).parent c) k.name.span)) (method : Method) (default : IsDefault (tables (names unit) unit.classes) (home (tables (names unit) unit.classes) next k) k.name.span method) where
    abbrev at : Home
    at = home t next k

    abbrev l : Place
    l = place (world unit.classes) ss c k

    abbrev own_site : Site
    own_site = program.site t at (program.default_head at k.name.span)

    constructor : method.constructor ≡ true
    constructor = ap (λ (m : Method). m.constructor) default.same

    of_class : method.class ≡ c
    of_class = ap (λ (m : Method). m.class) default.same ∙ number

    static : method.is_static ≡ false
    static = ap (λ (m : Method). m.is_static) default.same

    no_params : method.param_types ≡ []
    no_params = ap (λ (m : Method). m.param_types) default.same

    first_slot : param_slot method 0 ≡ 1
    first_slot = ap (λ b. if b then 0 else 0 + 1) static

    abbrev g : Ground
    g = ground unit p is method [] own_site c there of_class

    grounded : IsGround g
    grounded = is_ground unit p is method [] own_site c there of_class refl refl number (λ e. let f = first_slot in omega (arith, f)) (λ e. absurd (false≢true e))

    abbrev entry : Point
    entry = Some (entry_type p method)

    abbrev Starts : Body → Type 0
    Starts = Started g grounded l refl refl constructor 0 0 (start 1) entry

    -- its scope has no names, and no `this` yet
    abbrev scope : Names
    scope = source.member_scope l false

    slots : param_slot method (length method.params) ≡ 1
    slots = ap (λ (m : Method). param_slot m (length m.params)) default.same

    no_type : (slot : ℕ) → Rattle.ix_core.specs.Formed.param_type_from (param_slot method 0) method.param_types slot ≡ None
    no_type slot = ap (λ (ts : List Type_). Rattle.ix_core.specs.Formed.param_type_from (param_slot method 0) ts slot) no_params

    scoped : (lo hi : ℕ) → Scoped g scope [] [] 1 lo hi
    scoped lo hi = record {
      world = refl;
      class = refl;
      in_constructor = λ e. constructor;
      object = λ e. absurd (false≢true e);
      fields = λ e. static;
      result = ap (λ (m : Method). is_void m.result) default.same;
      params = let s = slots in omega (arith, s);
      first = let s = first_slot in omega (arith, s);
      typed = refl;
      variables = tt;
      unused = λ slot le span within. ap (λ (o : Option Type_). Rattle.ix_core.specs.Formed.first_type o None) (no_type slot);
    }

    same_parent : (class_at p method.class).parent ≡ at.parent
    same_parent = ap (λ n. (class_at p n).parent) of_class ∙ same_parents unit p is c ∙ ap (λ n. (world unit.classes).parent n) (sym number)

    entry_this : (b : Bool) → has_parent p method ≡ b → entry_type p method 0 ≡ (if b then None else Some (class_type method.class))
    entry_this b e =
        ap (λ (o : Option Type_). Rattle.ix_core.specs.Formed.first_type o (this_type p method 0)) (no_type 0)
        ∙ ap (λ s. if not s && ((0 == 0) && not (method.constructor && has_parent p method)) then Some (class_type method.class) else None) static
        ∙ ap (λ s. if not (s && has_parent p method) then Some (class_type method.class) else None) constructor
        ∙ ap (λ s. if not s then Some (class_type method.class) else None) e ∙ by b
      where
        by : (b : Bool) → ◌≡◌ {A = Option Type_} (if not b then Some (class_type method.class) else None) (if b then None else Some (class_type method.class))
        by true = refl
        by false = refl

    super_called : (o : Option ℕ) → at.parent ≡ o → Makes Starts (super_call own_site o [] k.name.span (start 1))
    super_called None e = record {
      begun = begun_none g grounded l refl refl constructor 0 0 (start 1) entry;
      this = entry_this false (ap is_some_of (same_parent ∙ e)) ∙ ap (λ n. Some (class_type n)) of_class;
    }
    super_called (Some above) e =
        let up : (world unit.classes).parent c ≡ Some above = ap (λ n. (world unit.classes).parent n) (sym number) ∙ e in
        let above_is : is_class p above ≡ true = class_is unit p is above (let lt = parents_there unit p is c above up in let n = parent_count unit p is in omega (arith, lt, n)) in
        let told : Says g (reading.given_to scope [] (constructor_params scope.world above) k.name.span) =
        subst (Says g) (sym (append-nil (wrong_arguments 0 (length (constructor_params (world unit.classes) above)) k.name.span))) (subst (λ o. Says g (source.implicit_super_of (world unit.classes) o k.name.span)) up said) in
        parent_called g grounded l refl refl constructor 0 0 scope above [] 0 0 k.name.span k.name.span (start 1) entry (scoped 0 0) (record { variables = tt; this = λ f. absurd (false≢true f) }) refl (omega arith) above_is (same_parent ∙ e)
        tt tt refl refl told (λ ty known. unknown ty (sym (entry_this true (ap is_some_of (same_parent ∙ e))) ∙ known))
      where
        unknown : (ty : Type_) → ◌≡◌ {A = Option Type_} None (Some ty) → ⊥
        unknown ty e = cc

    initialised : AreInitialised g grounded l refl refl constructor 0 0 at.field at.members
    initialised = are_initialised g grounded l refl refl constructor 0 0 Anywhere (λ lo hi w. inr (omega arith)) at.field at.members fields.stands.somewhere fields.typed

    -- A default constructor fits inside.
    pub default_inside : FitsInside p method
    default_inside =
        let one = first_slot in
        let few = slots in
        let body = default.body in
        let starts = constructor_starts g grounded l refl refl constructor 0 0 at [] k.name.span (start 1) entry initialised (omega (arith, few)) (λ slot le. no_type slot) (omega (arith, one)) (super_called at.parent refl) in
        let started = made_is Starts (constructor_start own_site at [] k.name.span (start 1)) body starts default.made in
        let b = started.begun in
        let no_locals : method.locals ≡ [] = ap (λ (m : Method). m.locals) default.same ∙ b.locals in
        let most : body.most ≤ method.slots = (let e = ap (λ (m : Method). m.slots) default.same in omega (arith, e)) in
        let declared = subst (AllOf (Rattle.ix_formed.specs.TypedStatements.IsDeclared 0 0)) (sym no_locals) tt in
        let code : items_code body.made.items ≡ code_before b.items End = ap items_code b.appended ∙ items_before b.items in (
          [],
          ap (λ (ls : List (Local × Span)). locals_fit p method [] 0 ls []) no_locals,
          ap (λ (m : Method). (code_ways p method [] false (items_code m.body.items) entry).fits) default.same ∙ ap (λ x. (code_ways p method [] false x entry).fits) code ∙ ap (λ (x : Ways). x.fits) (b.leads declared most false End),
          subst HaveOwnSlots (sym no_locals) (λ number local there. absurd cc),
        )

  -- all of them
  pub defaults_inside : (ps : List (Option ℕ)) (ss : List Signature) (c nf : ℕ) (next : Next) (ks : List ClassDecl) (methods : List Method) → next.class ≡ c → IsNext next ks → c + length ks ≤ length unit.classes
      → ClassesSay (Agrees (names unit) (unit_parts unit)) (world unit.classes) ps ss c nf ks → AllHaveFields unit p is ss c next ks → AreDefaults t next ks methods → AllOf (FitsInside p) methods
  defaults_inside ps ss c nf next [] methods number go le says have are = subst (AllOf (FitsInside p)) (sym are) tt
  defaults_inside ps ss c nf next (k ∷ ks) methods number go le says have are =
      let up = (goes next k ks go).class in
      one_or_none (has_constructor k.members) are says.0.default
      (λ others rest. defaults_inside ps ss (c + 1) (members.next_fields nf k.members) (next_behind next k) ks others (omega (arith, up, number)) (goes_on next k ks go) (omega (arith, le)) says.1 have.1 rest)
    where
      one_or_none : (b : Bool) → IfElse b (AreDefaults t (next_behind next k) ks methods) (IsOneDefault (AreDefaults t (next_behind next k) ks) t (home t next k) k.name.span methods)
          → Say (Agrees (names unit) (unit_parts unit)) (if b then [] else source.implicit_super_of (world unit.classes) ((world unit.classes).parent c) k.name.span)
          → ((others : List Method) → AreDefaults t (next_behind next k) ks others → AllOf (FitsInside p) others) → AllOf (FitsInside p) methods
      one_or_none true are said rest = rest methods are
      one_or_none false are said rest = subst (AllOf (FitsInside p)) (sym are.2) (default_inside ss c next k number (omega (arith, le)) have.0 said are.0 are.3, rest are.1 are.4)
