-- The method that a name means in a class is the program's of its number, and an overriding method fits the one that it overrides.
use Rattle.std.proofs.Common.{◌≡◌, ◌<◌, ℕ, ◌+◌, Bool, true, false, List, [], ◌∷◌, length, map, Option, Some, None, refl, sym, ap, subst, ◌∙◌, arith}
use Rattle.std.specs.Prelude.{if◌then◌else◌, ◌==◌, ◌||◌, ◌&&◌, not, bytes_eq}
use Rattle.std.proofs.lemmas.Bool.{false≢true, and_parts}
use Rattle.ix_core.specs.declared.claim.Base.{Base}
use Rattle.ix_core.specs.declared.claim.Base.TheVariants as base
use Rattle.ix_core.specs.declared.claim.Claim.{Claim}
use Rattle.ix_core.specs.declared.claim.Type_.{Type_}
use Rattle.ix_core.specs.declared.claim.Type_.TheVariants as type
use Rattle.ix_core.specs.declared.program.Method.{Method}
use Rattle.ix_core.specs.declared.program.Program.{Program}
use Rattle.ix_core.specs.Formed.{overrides_fit, is_there, is_proper_ancestor, same_types}
use Rattle.ix_core.specs.SameClaims.{same_claim}
use Rattle.ix_core.specs.Tables.{method_at}
use Rattle.ix_core.specs.Types.{same_type, same_base, same_claims, is_below}
use Rattle.ix_core.proofs.Cases.{by_test, equal}
use Rattle.ix_tree.specs.declared.decl.MethodDecl.{MethodDecl}
use Rattle.ix_tree.specs.declared.decl.Unit.{Unit as Source}
use Rattle.ix_tree.specs.Parts.{unit_parts}
use Rattle.ix_meaning.specs.declared.members.Signature.{Signature}
use Rattle.ix_meaning.specs.declared.note.Rule.TheVariants as rule
use Rattle.ix_meaning.specs.Classes as classes
use Rattle.ix_meaning.specs.Classes.{parents, supers}
use Rattle.ix_meaning.specs.Inheritance.{if_instance, overridden, differs_from, some_differ, differ, clashes}
use Rattle.ix_meaning.specs.Members as members
use Rattle.ix_meaning.specs.Members.{World, Callee, world, signature, callable_if, is_method_named, nearest, or_nearest}
use Rattle.ix_meaning.specs.Resolved.{names}
use Rattle.ix_meaning.specs.Rules.{duplicate_name}
use Rattle.ix_meaning.specs.Source.{Place}
use Rattle.ix_meaning.specs.Types as types
use Rattle.ix_meaning.specs.Types.{wrong_if}
use Rattle.ix_plain.specs.Program.{number_of, overrides}
use Rattle.ix_formed.specs.NoErrors.{Agrees}
use Rattle.ix_formed.proofs.ClaimsFit.{Whenever}
use Rattle.ix_formed.proofs.EachMember.{said_parts, not_broken}
use Rattle.ix_formed.proofs.FieldsFit.{IsAccepted, below, no_cycle, parents_there, parent_count}
use Rattle.ix_formed.proofs.HeadsFit.{HasHead}
use Rattle.ix_formed.proofs.HeadsAre.{Matches, SignaturesMatch}
use Rattle.ix_formed.proofs.NumberLists.{both_true, is_itself}
use Rattle.ix_formed.proofs.ProgramsHaveShape.{less_is}
use Rattle.ix_formed.proofs.WaysUp.{up, up_distinct, supers_are}

-- ---- equal types, as either definition has them

same_bases : (a b : Base) → types.same_base a b ≡ true → same_base a b ≡ true
same_bases base.Int base.Int e = refl
same_bases base.Bool base.Bool e = refl
same_bases (base.Class c) (base.Class d) e = e
same_bases base.Int base.Bool e = absurd (false≢true e)
same_bases base.Int (base.Class d) e = absurd (false≢true e)
same_bases base.Bool base.Int e = absurd (false≢true e)
same_bases base.Bool (base.Class d) e = absurd (false≢true e)
same_bases (base.Class c) base.Int e = absurd (false≢true e)
same_bases (base.Class c) base.Bool e = absurd (false≢true e)

same_lists : (cs ds : List Claim) → types.same_claims cs ds ≡ true → same_claims cs ds ≡ true
same_lists [] [] e = refl
same_lists [] (d ∷ ds) e = absurd (false≢true e)
same_lists (c ∷ cs) [] e = absurd (false≢true e)
same_lists (c ∷ cs) (d ∷ ds) e =
    let parts = and_parts (same_claim c d) (types.same_claims cs ds) e in both_true (same_claim c d) (same_claims cs ds) parts.0 (same_lists cs ds parts.1)

pub same_type_is : (t u : Type_) → types.same_type t u ≡ true → same_type t u ≡ true
same_type_is type.Void type.Void e = refl
same_type_is (type.Plain a) (type.Plain b) e = same_bases a b e
same_type_is (type.Array a m cs) (type.Array b n ds) e =
    let one = and_parts (m == n) (types.same_base a b && types.same_claims cs ds) e in
    let two = and_parts (types.same_base a b) (types.same_claims cs ds) one.1 in
    both_true (same_base a b) ((m == n) && same_claims cs ds) (same_bases a b two.0) (both_true (m == n) (same_claims cs ds) one.0 (same_lists cs ds two.1))
same_type_is type.Void (type.Plain b) e = absurd (false≢true e)
same_type_is type.Void (type.Array b n ds) e = absurd (false≢true e)
same_type_is (type.Plain a) type.Void e = absurd (false≢true e)
same_type_is (type.Plain a) (type.Array b n ds) e = absurd (false≢true e)
same_type_is (type.Array a m cs) type.Void e = absurd (false≢true e)
same_type_is (type.Array a m cs) (type.Plain b) e = absurd (false≢true e)

pub neither : (a b : Bool) → (a || b) ≡ false → (a ≡ false) × (b ≡ false)
neither true b e = absurd (false≢true (sym e))
neither false b e = (refl, e)

not_false : (b : Bool) → not b ≡ false → b ≡ true
not_false true e = refl
not_false false e = absurd (false≢true (sym e))

same_params : (ts us : List Type_) → some_differ (map (λ t. Some t) ts) (map (λ t. Some t) us) ≡ false → same_types ts us ≡ true
same_params [] [] e = refl
same_params [] (u ∷ us) e = absurd (false≢true (sym e))
same_params (t ∷ ts) [] e = absurd (false≢true (sym e))
same_params (t ∷ ts) (u ∷ us) e =
    let parts = neither (not (types.same_type t u)) (some_differ (map (λ t. Some t) ts) (map (λ t. Some t) us)) e in
    both_true (same_type t u) (same_types ts us) (same_type_is t u (not_false (types.same_type t u) parts.0)) (same_params ts us parts.1)

module _ (unit : Source) (p : Program) (is : IsAccepted unit p) where
  -- what a name means is a method of the program
  pub record IsCallee (so : Signature → Bool) (callee : Callee) : Type 0 where
    pub there : callee.number < length p.methods
    pub matches : Matches unit p is (method_at p callee.number) callee.signature
    pub so_it_is : so callee.signature ≡ true

  pub callees : (so : Signature → Bool) (k : ℕ) (ms : List Signature) → SignaturesMatch unit p is k ms → Whenever (IsCallee so) (callable_if so k ms)
  callees so k [] match = tt
  callees so k (m ∷ ms) match = this_or_later (so m) refl (callees so (k + 1) ms match.1)
    where
      this_or_later : (b : Bool) → so m ≡ b → Whenever (IsCallee so) (callable_if so (k + 1) ms) → Whenever (IsCallee so) (if b then Some (record { number = k; signature = m }) else callable_if so (k + 1) ms)
      this_or_later true e rest = record { there = match.0.0; matches = match.0.1; so_it_is = e }
      this_or_later false e rest = rest

  -- the nearest class that declares one
  pub nearest_is : {A : Type 0} (own : ℕ → Option A) (cs : List ℕ) (P : ℕ → A → Type 0) → ((a : ℕ) → Whenever (P a) (own a)) → Whenever (λ x. (a : ℕ) × (classes.is_among a cs ≡ true) × P a x) (nearest own cs)
  nearest_is own [] P all = tt
  nearest_is {A = A} own (c ∷ cs) P all = or_further (own c) (all c) (nearest own cs) (nearest_is own cs P all)
    where
      or_further : (o : Option A) → Whenever (P c) o → (further : Option A) → Whenever (λ x. (a : ℕ) × (classes.is_among a cs ≡ true) × P a x) further
          → Whenever (λ x. (a : ℕ) × (classes.is_among a (c ∷ cs) ≡ true) × P a x) (or_nearest o further)
      or_further (Some x) here further rest = (c, ap (λ b. b || classes.is_among c cs) (is_itself c), here)
      or_further None here None rest = tt
      or_further None here (Some x) rest = (rest.0, or_later (c == rest.0) (classes.is_among rest.0 cs) rest.1, rest.2)
        where
          or_later : (a b : Bool) → b ≡ true → (a || b) ≡ true
          or_later true b e = refl
          or_later false b e = e

  module _ (match : SignaturesMatch unit p is 0 (members.methods unit.classes)) where
    -- an instance method of a class with that name
    abbrev pub IsInstance : List ℕ → ℕ → Callee → Type 0
    IsInstance name a callee = IsCallee (is_method_named a name) callee × (callee.signature.is_static ≡ false)

    pub instance_is : (name : List ℕ) (a : ℕ) → Whenever (IsInstance name a) (if_instance ((world unit.classes).method a name))
    instance_is name a = only_instance ((world unit.classes).method a name) (callees (is_method_named a name) 0 (members.methods unit.classes) match)
      where
        static_or_not : (m : Callee) → IsCallee (is_method_named a name) m → (b : Bool) → m.signature.is_static ≡ b → Whenever (IsInstance name a) (if b then None else Some m)
        static_or_not m is true e = tt
        static_or_not m is false e = (is, e)

        only_instance : (o : Option Callee) → Whenever (IsCallee (is_method_named a name)) o → Whenever (IsInstance name a) (if_instance o)
        only_instance None is = tt
        only_instance (Some m) is = static_or_not m is m.signature.is_static refl

    -- a superclass is another class
    supers_differ : (class a : ℕ) → class < length unit.classes → classes.is_among a (supers (parents unit.classes) class) ≡ true → (a == class) ≡ false
    supers_differ class a lt e =
        let ps = parents unit.classes in
        let below : class < length ps = (let c = parent_count unit p is in omega (arith, lt, c)) in
        let d = up_distinct ps (no_cycle unit p is) (parents_there unit p is) ps class below (omega arith) in
        let s = supers_are ps (no_cycle unit p is) (parents_there unit p is) class below in
        by_test (a == class)
        (λ t. absurd (false≢true (sym d.0 ∙ subst (λ n. classes.is_among n (up ps ps class) ≡ true) (equal a class t) (subst (λ (xs : List ℕ). classes.is_among a xs ≡ true) s e))))
        (λ f. f)

    among_later : (c a : ℕ) (cs : List ℕ) → classes.is_among a cs ≡ true → classes.is_among a (c ∷ cs) ≡ true
    among_later c a cs e = by_test (c == a) (λ t. ap (λ b. b || classes.is_among a cs) t) (λ f. ap (λ b. b || classes.is_among a cs) f ∙ e)

    -- what a method overrides fits it
    overridden_fits : (l : Place) (d : MethodDecl) (method : Method) → HasHead unit p is l d method → Matches unit p is method (signature l.world.class l.class d)
        → (o : Option Callee) → Whenever (λ callee. (a : ℕ) × (classes.is_among a (supers (parents unit.classes) l.class) ≡ true) × IsInstance d.name.text a callee) o
        → ((signature l.world.class l.class d).constructor || (signature l.world.class l.class d).is_static) ≡ false → differs_from (signature l.world.class l.class d) o ≡ false → overrides_fit p method (number_of o) ≡ true
    overridden_fits l d method head own None found instance differs = refl
    overridden_fits l d method head own (Some callee) found instance differs =
        let m = signature l.world.class l.class d in
        let over = method_at p callee.number in
        let has = found.2.0 in
        let both = neither m.constructor m.is_static instance in
        let parts = neither (some_differ m.params callee.signature.params) (differ m.result callee.signature.result) differs in
        let named = and_parts (callee.signature.class == found.0) (not callee.signature.constructor && bytes_eq callee.signature.name d.name.text) has.so_it_is in
        let class : over.class ≡ found.0 = has.matches.class ∙ equal callee.signature.class found.0 named.0 in
        let up : classes.is_among over.class (supers (parents unit.classes) l.class) ≡ true = ap (λ n. classes.is_among n (supers (parents unit.classes) l.class)) class ∙ found.1 in
        let other : not (over.class == method.class) ≡ true = ap (λ n. not (over.class == n)) head.class ∙ ap not (supers_differ l.class over.class head.there up) in
        let under : is_below p method.class over.class ≡ true = ap (λ n. is_below p n over.class) head.class ∙ below unit p is l.class over.class head.there (among_later l.class over.class (supers (parents unit.classes) l.class) up) in
        let params = same_params method.param_types over.param_types (ap (λ (ts : List (Option Type_)). some_differ ts (map (λ t. Some t) over.param_types)) own.params ∙ ap (λ (ts : List (Option Type_)). some_differ m.params ts) has.matches.params ∙ parts.0) in
        let result = same_type_is method.result over.result (not_false (types.same_type method.result over.result)
        (ap (λ (t : Option Type_). differ t (Some over.result)) own.result ∙ ap (λ (t : Option Type_). differ m.result t) has.matches.result ∙ parts.1)) in
        let no_constructor = (and_parts (not callee.signature.constructor) (bytes_eq callee.signature.name d.name.text) named.1).0 in
        let c1 : not method.is_static ≡ true = ap not (own.static ∙ both.1) in
        let c2 : not method.constructor ≡ true = ap not (own.constructor ∙ both.0) in
        let c3 : not over.is_static ≡ true = ap not (has.matches.static ∙ found.2.1) in
        let c4 : not over.constructor ≡ true = ap not has.matches.constructor ∙ no_constructor in
        let c0 : is_there p.methods callee.number ≡ true = less_is callee.number (length p.methods) has.there in
        both_true (is_there p.methods callee.number) _ c0 (both_true (not method.is_static) _ c1 (both_true (not method.constructor) _ c2 (both_true (not over.is_static) _ c3 (both_true (not over.constructor) _ c4
        (both_true (is_proper_ancestor p method over.class) _ (both_true (not (over.class == method.class)) (is_below p method.class over.class) other under)
        (both_true (same_types method.param_types over.param_types) (same_type method.result over.result) params result))))))

    -- a written method's
    pub overrides_do_fit : (l : Place) (d : MethodDecl) (method : Method) → HasHead unit p is l d method → Matches unit p is method (signature l.world.class l.class d)
        → method.overrides ≡ overrides (world unit.classes) l.class d → overrides_fit p method method.overrides ≡ true
    overrides_do_fit l d method head own same =
        let m = signature l.world.class l.class d in
        let over = overridden l.world m in
        let inherited = head.says.inherited in
        let differs = not_broken (Agrees (names unit) (unit_parts unit)) (λ error wrong. wrong) (differs_from m over) rule.TypeMismatch m.span
        (said_parts (Agrees (names unit) (unit_parts unit)) (duplicate_name (clashes l.world l.methods m) m.span) (wrong_if (differs_from m over) rule.TypeMismatch m.span) inherited).1 in
        let w : overrides (world unit.classes) l.class d ≡ number_of over = ap (λ (w : World). number_of (overridden w (signature w.class l.class d))) (sym head.world) in
        ap (overrides_fit p method) (same ∙ w) ∙ instance_or_not (m.constructor || m.is_static) refl differs
      where
        instance_or_not : (b : Bool) → ((signature l.world.class l.class d).constructor || (signature l.world.class l.class d).is_static) ≡ b
            → differs_from (signature l.world.class l.class d) (overridden l.world (signature l.world.class l.class d)) ≡ false
            → overrides_fit p method (number_of (overridden l.world (signature l.world.class l.class d))) ≡ true
        instance_or_not true e differs =
            ap (λ b. overrides_fit p method (number_of (if b then None else nearest (λ a. if_instance (l.world.method a d.name.text)) (l.world.supers l.class)))) e
        instance_or_not false e differs =
            let m = signature l.world.class l.class d in
            let o = nearest (λ a. if_instance (l.world.method a d.name.text)) (l.world.supers l.class) in
            let is_o : overridden l.world m ≡ o = ap (λ b. if b then None else nearest (λ a. if_instance (l.world.method a d.name.text)) (l.world.supers l.class)) e in
            let found : Whenever (λ callee. (a : ℕ) × (classes.is_among a (supers (parents unit.classes) l.class) ≡ true) × IsInstance d.name.text a callee) o =
            subst (λ (w : World). Whenever (λ callee. (a : ℕ) × (classes.is_among a (supers (parents unit.classes) l.class) ≡ true) × IsInstance d.name.text a callee) (nearest (λ a. if_instance (w.method a d.name.text)) (w.supers l.class)))
            (sym head.world) (nearest_is (λ a. if_instance ((world unit.classes).method a d.name.text)) (supers (parents unit.classes) l.class) (λ a callee. IsInstance d.name.text a callee) (instance_is d.name.text)) in
            ap (λ (o : Option Callee). overrides_fit p method (number_of o)) is_o
            ∙ overridden_fits l d method head own o found e (sym (ap (differs_from m) is_o) ∙ differs)
