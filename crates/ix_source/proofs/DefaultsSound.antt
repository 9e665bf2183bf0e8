-- The constructor of a class that has none written is sound.
use Rattle.std.proofs.Common.{◌≡◌, ◌<◌, ℕ, ◌+◌, Bool, true, false, List, [], length, Option, Some, None, refl, sym, ap, subst, ◌∙◌, arith, inr}
use Rattle.std.specs.Prelude.{if◌then◌else◌}
use Rattle.std.proofs.lemmas.Bool.{false≢true}
use Rattle.std.proofs.lemmas.List.{append-nil}
use Rattle.ix_core.specs.declared.claim.Type_.{Type_}
use Rattle.ix_core.specs.declared.program.Method.{Method}
use Rattle.ix_core.specs.declared.program.Program.{Program}
use Rattle.ix_core.specs.Formed.{first_type, param_type_from}
use Rattle.ix_core.specs.Heap.{Held}
use Rattle.ix_core.specs.Tables as core
use Rattle.ix_core.specs.Tables.{param_slot}
use Rattle.ix_core.specs.Types.{is_class, is_void}
use Rattle.ix_tree.specs.declared.decl.ClassDecl.{ClassDecl}
use Rattle.ix_tree.specs.declared.decl.Unit.{Unit as Source}
use Rattle.ix_tree.specs.Parts.{unit_parts}
use Rattle.ix_meaning.specs.declared.members.Signature.{Signature}
use Rattle.ix_meaning.specs.Members.{world, constructor_params}
use Rattle.ix_meaning.specs.Resolved.{names}
use Rattle.ix_meaning.specs.Rules.{wrong_arguments}
use Rattle.ix_meaning.specs.Scope.{Scope as Names}
use Rattle.ix_meaning.specs.Source as source
use Rattle.ix_meaning.specs.Source.{Place, place}
use Rattle.ix_meaning.specs.Values as reading
use Rattle.ix_plain.specs.declared.numbers.Next.{Next}
use Rattle.ix_plain.specs.Program as program
use Rattle.ix_plain.specs.Program.{Tables, Home, start, tables, home}
use Rattle.ix_plain.specs.Scope.{Site}
use Rattle.ix_formed.specs.NoErrors.{Agrees, Say}
use Rattle.ix_formed.specs.Shape.{IsDefault}
use Rattle.ix_formed.specs.TypedStatements.{Ground, IsGround, Says, Scoped, scope_in}
use Rattle.ix_formed.proofs.AcceptedBodies.{ground, is_ground}
use Rattle.ix_formed.proofs.AcceptedMethods.{class_is}
use Rattle.ix_formed.proofs.ClassFields.{HasFields}
use Rattle.ix_formed.proofs.FieldPlaces.{Anywhere}
use Rattle.ix_formed.proofs.FieldsFit.{IsAccepted, parents_there, parent_count}
use Rattle.ix_formed.proofs.FieldsInitialised.{are_initialised}
use Rattle.ix_source.specs.Running as running
use Rattle.ix_source.specs.SoundBodies.{super_sound, default_sound, IsSoundDefault, HasResults}
use Rattle.ix_source.proofs.BeginningsSound.{HasRoom, super_given, start_is_sound}
use Rattle.ix_source.proofs.EntriesOwned.{entry_is}
use Rattle.ix_source.proofs.NumbersThere.{has_numbers}
use Rattle.ix_source.proofs.SoundEvaluations.{Sight}

module _ (unit : Source) (p : Program) (is : IsAccepted unit p) (ss : List Signature) (c : ℕ) (next : Next) (class : ClassDecl) (number : next.class ≡ c) (there : c < length unit.classes) (fields : HasFields unit p is ss c next class)
    (said : Say (Agrees (names unit) (unit_parts unit)) (source.implicit_super_of (world unit.classes) ((world unit.classes).parent c) class.name.span)) (method : Method)
    (default : IsDefault (tables (names unit) unit.classes) (home (tables (names unit) unit.classes) next class) class.name.span method) where
  abbrev t : Tables
  t = tables (names unit) unit.classes

  abbrev at : Home
  at = home (tables (names unit) unit.classes) next class

  abbrev l : Place
  l = place (world unit.classes) ss c class

  abbrev own_site : Site
  own_site = program.site (tables (names unit) unit.classes) (home (tables (names unit) unit.classes) next class) (program.default_head (home (tables (names unit) unit.classes) next class) class.name.span)

  constructor : method.constructor ≡ true
  constructor = ap (λ (m : Method). m.constructor) default.same

  of_class : method.class ≡ c
  of_class = ap (λ (m : Method). m.class) default.same ∙ number

  static : method.is_static ≡ false
  static = ap (λ (m : Method). m.is_static) default.same

  first_slot : param_slot method 0 ≡ 1
  first_slot = ap (λ b. if b then 0 else 0 + 1) static

  abbrev own : Ground
  own = ground unit p is method [] own_site c there of_class

  grounded : IsGround own
  grounded = is_ground unit p is method [] own_site c there of_class refl refl number (λ e. let f = first_slot in omega (arith, f)) (λ e. absurd (false≢true e))

  -- its scope has no names, and no `this` yet
  abbrev scope : Names
  scope = source.member_scope l false

  slots : param_slot method (length method.params) ≡ 1
  slots = ap (λ (m : Method). param_slot m (length m.params)) default.same

  no_type : (slot : ℕ) → param_type_from (param_slot method 0) method.param_types slot ≡ None
  no_type slot = ap (λ (ts : List Type_). param_type_from (param_slot method 0) ts slot) (ap (λ (m : Method). m.param_types) default.same)

  scoped : Scoped own scope [] [] 1 0 0
  scoped = record {
    world = refl;
    class = refl;
    in_constructor = λ e. constructor;
    object = λ e. absurd (false≢true e);
    fields = λ e. static;
    result = ap (λ (m : Method). is_void m.result) default.same;
    params = let s = slots in omega (arith, s);
    first = let s = first_slot in omega (arith, s);
    typed = refl;
    variables = tt;
    unused = λ slot le span within. ap (λ (o : Option Type_). first_type o None) (no_type slot);
  }

  module _ (routines : core.Tables) (this : Held) (depth : ℕ) (results : HasResults p routines) (has_this : Bool) (has : has_this ≡ true) where
    abbrev v : Sight own
    v = record { tables = routines; has_this = has_this; this = this; depth = depth; numbers = has_numbers unit p is own_site refl refl; results = results }

    abbrev k : running.Ground
    k = record { tables = routines; site = own_site; has_this = has_this; this = this; depth = depth }

    super_is : (o : Option ℕ) → at.parent ≡ o → super_sound o [] k (start 1) ≡ true
    super_is None e = refl
    super_is (Some above) e =
        let up : (world unit.classes).parent c ≡ Some above = ap (λ n. (world unit.classes).parent n) (sym number) ∙ e in
        let above_is : is_class p above ≡ true = class_is unit p is above (let lt = parents_there unit p is c above up in let n = parent_count unit p is in omega (arith, lt, n)) in
        let told : Says own (reading.given_to scope [] (constructor_params scope.world above) class.name.span) =
        subst (Says own) (sym (append-nil (wrong_arguments 0 (length (constructor_params (world unit.classes) above)) class.name.span))) (subst (λ o. Says own (source.implicit_super_of (world unit.classes) o class.name.span)) up said) in
        super_given own grounded v scope above [] 0 0 class.name.span (start 1) [] scoped tt (λ f. absurd (false≢true f)) above_is tt tt refl refl told

    room : HasRoom own grounded v l refl refl constructor has 0 0 (start 1)
    room = record { slots = let s = slots in omega (arith, s); unused = λ slot le. no_type slot; low = let s = first_slot in omega (arith, s) }

    whole : default_sound at class.name.span k ≡ true
    whole =
        start_is_sound own grounded v l refl refl constructor has 0 0 at [] class.name.span (start 1)
        (are_initialised own grounded l refl refl constructor 0 0 Anywhere (λ lo hi w. inr (omega arith)) at.field at.members fields.stands.somewhere fields.typed) room (super_is at.parent refl)

  -- A default constructor is sound, however a run sees it.
  pub default_is_sound : IsSoundDefault p (tables (names unit) unit.classes) (home (tables (names unit) unit.classes) next class) class.name.span
  default_is_sound = record {
    sound = λ run sees. subst (λ (site : Site). default_sound at class.name.span (record { tables = run.tables; site = site; has_this = run.has_this; this = run.this; depth = run.depth }) ≡ true) (sym sees.site)
        (whole run.tables run.this run.depth sees.results run.has_this (sees.this refl));
    entry = entry_is own_site (names unit) 1 [] refl (scope_in own []) refl false 1 refl refl;
  }
