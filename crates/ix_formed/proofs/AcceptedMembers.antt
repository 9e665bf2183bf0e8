-- What names mean in an accepted source, its program has: types that fit, classes, fields and methods.
use Rattle.std.proofs.Common.{◌≡◌, ◌≤◌, ◌<◌, ℕ, zero, suc, ◌+◌, ℤ, Bool, true, false, List, [], ◌∷◌, length, Option, Some, None, refl, sym, ap, subst, ◌∙◌, arith}
use Rattle.std.specs.Prelude.{if◌then◌else◌, ◌&&◌, ◌||◌, nat_lt, ◌==◌, slice_get, unwrap_or, option_map}
use Rattle.std.specs.Option.{option_and_then}
use Rattle.std.proofs.lemmas.Bool.{false≢true, and_parts}
use Rattle.std.proofs.lemmas.Bool.Decides.{nat_tests}
use Rattle.ix_core.specs.declared.claim.Base.TheVariants as base
use Rattle.ix_core.specs.declared.claim.Type_.{Type_}
use Rattle.ix_core.specs.declared.claim.Type_.TheVariants as type
use Rattle.ix_core.specs.declared.program.Field.{Field as ProgramField}
use Rattle.ix_core.specs.declared.program.Program.{Program}
use Rattle.ix_core.specs.Formed.{fields_fit}
use Rattle.ix_core.specs.Tables.{no_field, most_on_way}
use Rattle.ix_core.specs.Types.{int_type, is_type, is_class, is_below, is_of}
use Rattle.ix_tree.specs.declared.annot.BaseTree.{BaseTree}
use Rattle.ix_tree.specs.declared.annot.BaseTree.TheVariants as tree
use Rattle.ix_tree.specs.declared.annot.TypeTree.{TypeTree}
use Rattle.ix_tree.specs.declared.decl.ClassDecl.{ClassDecl}
use Rattle.ix_tree.specs.declared.decl.LocalDecl.{LocalDecl}
use Rattle.ix_tree.specs.declared.decl.Member.{Member}
use Rattle.ix_tree.specs.declared.decl.Member.TheVariants as member
use Rattle.ix_tree.specs.declared.decl.Unit.{Unit as Source}
use Rattle.ix_tree.specs.Parts.{unit_parts}
use Rattle.ix_meaning.specs.declared.members.Field.{Field}
use Rattle.ix_meaning.specs.declared.note.Meaning.{Meaning}
use Rattle.ix_meaning.specs.declared.note.Meaning.TheVariants as meaning
use Rattle.ix_meaning.specs.Annotated.{written, based}
use Rattle.ix_meaning.specs.Classes as classes
use Rattle.ix_meaning.specs.Classes.{parents, supers}
use Rattle.ix_meaning.specs.Members as members
use Rattle.ix_meaning.specs.Declarators as declarators
use Rattle.ix_meaning.specs.Members.{ClassOf, world, own_field, field_named, field_type, constant, is_int_type, literal, nearest}
use Rattle.ix_meaning.specs.Resolved.{names}
use Rattle.ix_meaning.specs.Types as kinds
use Rattle.ix_plain.specs.Scope.{Site}
use Rattle.ix_formed.specs.Additions.{AllOf}
use Rattle.ix_formed.specs.Typed.{FieldIs}
use Rattle.ix_formed.proofs.ClaimsFit.{Whenever}
use Rattle.ix_formed.proofs.ClassesHaveWays.{few_supers}
use Rattle.ix_formed.proofs.DeclaredFields.{IsField, MeansField}
use Rattle.ix_formed.proofs.FieldsFit.{IsAccepted, class_count, parent_count, same_parents, no_cycle, parents_there, below, fields_known, fields_do_fit}
use Rattle.ix_formed.proofs.NumberLists.{is_itself, all_joined}
use Rattle.ix_formed.proofs.Overrides.{same_type_is, nearest_is}
use Rattle.ix_formed.proofs.SameTypes.{same_is, same_itself}
use Rattle.ix_formed.proofs.ScopesKnow.{own_field_is}
use Rattle.ix_formed.proofs.Superclasses.{is_above_again}
use Rattle.ix_formed.proofs.WaysUp.{way_ends}

or_case : {G : Type 0} (x y : Bool) → (x || y) ≡ true → (x ≡ true → G) → (y ≡ true → G) → G
or_case true y e one other = one refl
or_case false y e one other = other e

pub or_later : (a b : Bool) → b ≡ true → (a || b) ≡ true
or_later true b e = refl
or_later false b e = e

pub whenever_is : {A : Type 0} (P : A → Type 0) (o : Option A) (x : A) → Whenever P o → o ≡ Some x → P x
whenever_is P o x holds e = subst (Whenever P) e holds

module _ (unit : Source) (p : Program) (is : IsAccepted unit p) where
  less_of : (n m : ℕ) → nat_lt n m ≡ true → n < m
  less_of n m e = grind (arith, nat_tests)

  class_of_source : (c : ℕ) → is_class p c ≡ true → c < length unit.classes
  class_of_source c e = let a = less_of c _ e in let b = class_count unit p is in omega (arith, a, b)

  -- ---- types (JLS 4.10)

  class_itself : (c : ℕ) → is_class p c ≡ true → is_below p c c ≡ true
  class_itself c e = below unit p is c c (class_of_source c e) (ap (λ b. b || classes.is_among c (supers (parents unit.classes) c)) (is_itself c))

  pub itself : (ty : Type_) → is_type p ty ≡ true → is_of p ty ty ≡ true
  itself type.Void real = absurd (false≢true real)
  itself (type.Plain base.Int) real = refl
  itself (type.Plain base.Bool) real = refl
  itself (type.Plain (base.Class c)) real = class_itself c real
  itself (type.Array b depth claims) real = same_itself (type.Array b depth claims)

  few_above : (class : ℕ) → class < length (parents unit.classes) → 1 + length (supers (parents unit.classes) class) ≤ most_on_way
  few_above class lt = few_supers unit is.accepts class (let c = parent_count unit p is in omega (arith, lt, c))

  ends : (class : ℕ) → class < length (parents unit.classes) → Rattle.ix_core.specs.Formed.ends_within p most_on_way (Some class) ≡ true
  ends class lt = way_ends (parents unit.classes) (no_cycle unit p is) (parents_there unit p is) p (same_parents unit p is) most_on_way class lt (few_above class lt)

  class_further : (c m n : ℕ) → is_class p c ≡ true → is_below p c m ≡ true → is_below p m n ≡ true → is_below p c n ≡ true
  class_further c m n real a b =
      is_above_again p (parents unit.classes) (same_parents unit p is) (no_cycle unit p is) (parents_there unit p is) few_above ends c m n
      (let x = class_of_source c real in let y = parent_count unit p is in omega (arith, x, y)) a b

  pub further : (ty middle need : Type_) → is_type p ty ≡ true → is_of p ty middle ≡ true → is_of p middle need ≡ true → is_of p ty need ≡ true
  further type.Void middle need real a b = absurd (false≢true real)
  further (type.Plain base.Int) middle need real a b = subst (λ t. is_of p t need ≡ true) (sym (same_is (type.Plain base.Int) middle a)) b
  further (type.Plain base.Bool) middle need real a b = subst (λ t. is_of p t need ≡ true) (sym (same_is (type.Plain base.Bool) middle a)) b
  further (type.Array of depth claims) middle need real a b = subst (λ t. is_of p t need ≡ true) (sym (same_is (type.Array of depth claims) middle a)) b
  further (type.Plain (base.Class c)) (type.Plain (base.Class m)) (type.Plain (base.Class n)) real a b = class_further c m n real a b
  further (type.Plain (base.Class c)) (type.Plain (base.Class m)) (type.Plain base.Int) real a b = absurd (false≢true b)
  further (type.Plain (base.Class c)) (type.Plain (base.Class m)) (type.Plain base.Bool) real a b = absurd (false≢true b)
  further (type.Plain (base.Class c)) (type.Plain (base.Class m)) type.Void real a b = absurd (false≢true b)
  further (type.Plain (base.Class c)) (type.Plain (base.Class m)) (type.Array of depth claims) real a b = absurd (false≢true b)
  further (type.Plain (base.Class c)) (type.Plain base.Int) need real a b = absurd (false≢true a)
  further (type.Plain (base.Class c)) (type.Plain base.Bool) need real a b = absurd (false≢true a)
  further (type.Plain (base.Class c)) type.Void need real a b = absurd (false≢true a)
  further (type.Plain (base.Class c)) (type.Array of depth claims) need real a b = absurd (false≢true a)

  subclass_is : (ty need : Type_) → is_type p ty ≡ true → kinds.is_subclass (world unit.classes).supers ty need ≡ true → is_of p ty need ≡ true
  subclass_is (type.Plain (base.Class c)) (type.Plain (base.Class d)) real e = below unit p is c d (class_of_source c real) (or_later (c == d) (classes.is_among d (supers (parents unit.classes) c)) e)
  subclass_is type.Void need real e = absurd (false≢true e)
  subclass_is (type.Plain base.Int) need real e = absurd (false≢true e)
  subclass_is (type.Plain base.Bool) need real e = absurd (false≢true e)
  subclass_is (type.Array of depth claims) need real e = absurd (false≢true e)
  subclass_is (type.Plain (base.Class c)) type.Void real e = absurd (false≢true e)
  subclass_is (type.Plain (base.Class c)) (type.Plain base.Int) real e = absurd (false≢true e)
  subclass_is (type.Plain (base.Class c)) (type.Plain base.Bool) real e = absurd (false≢true e)
  subclass_is (type.Plain (base.Class c)) (type.Array of depth claims) real e = absurd (false≢true e)

  pub fitting : (ty need : Type_) → is_type p ty ≡ true → kinds.fits (world unit.classes).supers ty need ≡ true → is_of p ty need ≡ true
  fitting ty need real e =
      or_case (kinds.same_type ty need) (kinds.is_subclass (world unit.classes).supers ty need) e
      (λ s. subst (λ t. is_of p ty t ≡ true) (same_is ty need (same_type_is ty need s)) (itself ty real)) (λ s. subclass_is ty need real s)

  -- ---- fields

  -- a constant is a final field of int
  abbrev ConstantIs : Field → Type 0
  ConstantIs f = (n : ℤ) → f.meaning ≡ Some (meaning.Constant n) → (f.ty ≡ Some int_type) × (f.is_final ≡ true)

  -- no field means anything else
  abbrev OnlyField : Option Meaning → Type 0
  OnlyField None = Unit {0}
  OnlyField (Some (meaning.FieldNamed k)) = Unit {0}
  OnlyField (Some (meaning.Constant n)) = Unit {0}
  OnlyField _ = ⊥

  module _ (class : ClassOf) where
    int_written : (ty : TypeTree) → is_int_type ty ≡ true → (written class ty []).ty ≡ Some int_type
    int_written ty e = by_base ty.base e
      where
        by_base : (b : BaseTree) → (Rattle.ix_meaning.specs.Annotated.is_int_tree b && (ty.depth == 0)) ≡ true → (based class b ty.depth []).ty ≡ Some int_type
        by_base tree.Int e = ap (λ b. Some (if b then type.Plain base.Int else type.Array base.Int ty.depth [])) e
        by_base tree.Boolean e = absurd (false≢true e)
        by_base (tree.Named ident) e = absurd (false≢true e)

    one_constant : (c next : ℕ) (d : LocalDecl) → ConstantIs (members.field_of class c next d)
    one_constant c next d n e = by_static d.mods.is_static refl e
      where
        by_final : (b : Bool) → (d.mods.is_final && is_int_type d.ty) ≡ b → option_map (λ k. meaning.Constant k) (if b then option_and_then literal d.init else None) ≡ Some (meaning.Constant n) → (d.mods.is_final ≡ true) × (is_int_type d.ty ≡ true)
        by_final true q e = and_parts d.mods.is_final (is_int_type d.ty) q
        by_final false q e = absurd cc

        by_static : (b : Bool) → d.mods.is_static ≡ b → (if b then option_map (λ k. meaning.Constant k) (constant d) else Some (meaning.FieldNamed next)) ≡ Some (meaning.Constant n)
            → (field_type class d ≡ Some int_type) × (d.mods.is_final ≡ true)
        by_static false q e = absurd cc
        by_static true q e =
            let f = by_final (d.mods.is_final && is_int_type d.ty) refl e in
            (ap (λ b. (written class d.ty (if b then [] else Rattle.ix_meaning.specs.Annotated.element_claims (Rattle.ix_meaning.specs.Annotated.target_before d.ty) d.mods.annots)).ty) q ∙ int_written d.ty f.1, f.0)

    only_one : (c next : ℕ) (d : LocalDecl) → OnlyField (members.field_of class c next d).meaning
    only_one c next d = by_static d.mods.is_static
      where
        mapped : (o : Option ℤ) → OnlyField (option_map (λ k. meaning.Constant k) o)
        mapped None = tt
        mapped (Some n) = tt

        by_static : (b : Bool) → OnlyField (if b then option_map (λ k. meaning.Constant k) (constant d) else Some (meaning.FieldNamed next))
        by_static true = mapped (constant d)
        by_static false = tt

    only_in : (c next : ℕ) (ms : List Member) → AllOf (λ f. OnlyField f.meaning) (members.fields_in class c next ms)
    only_in c next [] = tt
    only_in c next (member.Field d ∷ ms) = (only_one c next d, only_in c (members.next_field next d) ms)
    only_in c next (member.Method m ∷ ms) = only_in c next ms

    only_from : (c next : ℕ) (ks : List ClassDecl) → AllOf (λ f. OnlyField f.meaning) (members.fields_from class c next ks)
    only_from c next [] = tt
    only_from c next (k ∷ ks) =
        all_joined (λ f. OnlyField f.meaning) (members.fields_in class c next (declarators.members k.members)) (members.fields_from class (c + 1) (members.next_fields next k.members) ks) (only_in c next (declarators.members k.members)) (only_from (c + 1) (members.next_fields next k.members) ks)

    constants_in : (c next : ℕ) (ms : List Member) → AllOf ConstantIs (members.fields_in class c next ms)
    constants_in c next [] = tt
    constants_in c next (member.Field d ∷ ms) = (one_constant c next d, constants_in c (members.next_field next d) ms)
    constants_in c next (member.Method m ∷ ms) = constants_in c next ms

    constants_from : (c next : ℕ) (ks : List ClassDecl) → AllOf ConstantIs (members.fields_from class c next ks)
    constants_from c next [] = tt
    constants_from c next (k ∷ ks) =
        all_joined ConstantIs (members.fields_in class c next (declarators.members k.members)) (members.fields_from class (c + 1) (members.next_fields next k.members) ks) (constants_in c next (declarators.members k.members)) (constants_from (c + 1) (members.next_fields next k.members) ks)

  -- the type of a field of the program
  pub field_real : (number : ℕ) (fs : List ProgramField) (k : ℕ) → fields_fit p number fs ≡ true → k < length fs → is_type p (unwrap_or (slice_get fs k) no_field).ty ≡ true
  field_real number [] k fit lt = absurd (omega (arith, lt))
  field_real number (f ∷ fs) zero fit lt = (and_parts (is_type p f.ty) _ (and_parts (is_class p f.class) _ fit).1).0
  field_real number (f ∷ fs) (suc k) fit lt = field_real (number + 1) fs k (and_parts _ (fields_fit p (number + 1) fs) (and_parts (is_type p f.ty) _ (and_parts (is_class p f.class) _ fit).1).1).1 (omega (arith, lt))

  triple : (P Q R : Field → Type 0) (fs : List Field) → AllOf P fs → AllOf Q fs → AllOf R fs → AllOf (λ f. P f × Q f × R f) fs
  triple P Q R [] a b c = tt
  triple P Q R (f ∷ fs) a b c = ((a.0, b.0, c.0), triple P Q R fs a.1 b.1 c.1)

  abbrev KnownField : Field → Type 0
  KnownField f = IsField (names unit) (unit_parts unit) p f × ConstantIs f × OnlyField f.meaning

  fields_are : AllOf KnownField (members.fields unit.classes)
  fields_are = triple (IsField (names unit) (unit_parts unit) p) ConstantIs (λ f. OnlyField f.meaning) (members.fields unit.classes) (fields_known unit p is) (constants_from (classes.class_named unit.classes) 0 0 unit.classes)
      (only_from (classes.class_named unit.classes) 0 0 unit.classes)

  -- a field that a name means in a class
  pub field_is : (site : Site) (class : ℕ) (text : List ℕ) (f : Field) → is_class p class ≡ true → field_named (world unit.classes) class text ≡ Some f → FieldIs p site class f f.meaning
  field_is site class text f there e =
      let found = whenever_is (λ x. (a : ℕ) × (classes.is_among a (class ∷ supers (parents unit.classes) class) ≡ true) × (KnownField x × (x.class ≡ a))) (field_named (world unit.classes) class text) f
      (nearest_is unit p is (λ a. own_field (members.fields unit.classes) a text) (class ∷ supers (parents unit.classes) class) (λ a x. KnownField x × (x.class ≡ a))
      (λ a. own_field_is None (λ n. None) (names unit) (unit_parts unit) p class KnownField (members.fields unit.classes) a text fields_are)) e in
      by_meaning f.meaning refl found.2.0.0 found.2.0.1 found.2.0.2 (subst (λ a. classes.is_among a (class ∷ supers (parents unit.classes) class) ≡ true) (sym found.2.1) found.1)
    where
      by_meaning : (m : Option Meaning) → f.meaning ≡ m → MeansField (names unit) (unit_parts unit) p f m → ConstantIs f → OnlyField m → classes.is_among f.class (class ∷ supers (parents unit.classes) class) ≡ true → FieldIs p site class f m
      by_meaning (Some (meaning.FieldNamed k)) same has const only up = (
        has.0,
        has.1,
        has.2,
        has.3,
        has.4,
        ap (is_below p class) has.1 ∙ below unit p is class f.class (class_of_source class there) up,
        field_real 0 p.fields k (fields_do_fit unit p is) has.0,
      )
      by_meaning (Some (meaning.Constant n)) same has const only up = let c = const n same in (has.0, c.0, has.2, c.1)
      by_meaning None same has const only up = absurd has
      by_meaning (Some (meaning.Local n)) same has const only up = absurd only
      by_meaning (Some (meaning.Param n)) same has const only up = absurd only
      by_meaning (Some (meaning.ClassNamed n)) same has const only up = absurd only
      by_meaning (Some (meaning.MethodNamed n)) same has const only up = absurd only
      by_meaning (Some meaning.LengthOf) same has const only up = absurd only
