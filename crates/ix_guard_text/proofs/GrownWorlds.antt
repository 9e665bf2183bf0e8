-- A source whose bodies alone have grown has the classes, fields and methods of the source.
use Rattle.std.proofs.Common.{◌≡◌, ℕ, zero, suc, ◌+◌, List, ◌∷◌, ◌++◌, Option, Some, None, refl, ap, ap₂, ◌∙◌}
use Rattle.std.proofs.Math.Path.{fun_ext}
use Rattle.std.specs.Prelude.{Bool, ◌||◌, slice_get}
use Rattle.ix_tree.specs.declared.decl.ClassDecl.{ClassDecl}
use Rattle.ix_tree.specs.declared.decl.LocalDecl.{LocalDecl}
use Rattle.ix_tree.specs.declared.decl.Member.{Member}
use Rattle.ix_tree.specs.declared.decl.Member.TheVariants as member
use Rattle.ix_tree.specs.declared.decl.MethodDecl.{MethodDecl}
use Rattle.ix_meaning.specs.declared.members.Field.{Field}
use Rattle.ix_meaning.specs.declared.members.Signature.{Signature}
use Rattle.ix_meaning.specs.Classes.{first_or, first_class, class_named, parent_in_table, parents_by, parents, parent, supers}
use Rattle.ix_meaning.specs.Declarators as declared
use Rattle.ix_meaning.specs.Declarators.{first_of, members_behind}
use Rattle.ix_meaning.specs.Members.{ClassOf, World, field_of, next_field, next_fields, fields_in, fields_from, fields, signature, methods_in, methods_from, methods, own_field, own_method, own_constructor, class_name, world}
use Rattle.ix_meaning.specs.Source.{first_member, member_named, has_constructor}
use Rattle.ix_guard_text.specs.Moved.{Move}
use Rattle.ix_guard_text.specs.GuardedPlaces as q
use Rattle.ix_guard_text.specs.GuardedPlaces.{Each}
use Rattle.ix_guard_text.proofs.StatementsWithNew.{Grows, all_of}

module _ (move : Move) where
  -- It has another body, which says more, and ends elsewhere.
  pub record GrownMethod (old new : MethodDecl) : Type 0 where
    pub like : new ≡ record old { body = new.body; span = new.span }
    pub body : Grows move (all_of old.body) (all_of new.body)

  pub data GrownMember : Member → Member → Type 0 where
    same_field : (decl : LocalDecl) → GrownMember (member.Field decl) (member.Field decl)
    grown_method : {old new : MethodDecl} → GrownMethod old new → GrownMember (member.Method old) (member.Method new)

  pub record GrownClass (old new : ClassDecl) : Type 0 where
    pub like : new ≡ record old { members = new.members; span = new.span }
    pub members : Each GrownMember old.members new.members

  abbrev pub GrownMembers : List Member → List Member → Type 0
  GrownMembers olds news = Each GrownMember olds news

  abbrev pub GrownClasses : List ClassDecl → List ClassDecl → Type 0
  GrownClasses olds news = Each GrownClass olds news

  -- ---- classes and their superclasses

  first_class_same : (name : List ℕ) (found : Option ℕ) (n : ℕ) {olds news : List ClassDecl} → GrownClasses olds news → first_class name found n news ≡ first_class name found n olds
  first_class_same name found n q.none = refl
  first_class_same name found n (q.one_more {x} {y} {xs} {ys} is rest) =
      ap (λ (k : ClassDecl). first_class name (first_or found name k.name.text n) (n + 1) ys) is.like ∙ first_class_same name (first_or found name x.name.text n) (n + 1) rest

  class_named_same : {olds news : List ClassDecl} → GrownClasses olds news → class_named news ≡ class_named olds
  class_named_same are = fun_ext (λ name. first_class_same name None 0 are)

  parents_by_same : (class : ClassOf) {olds news : List ClassDecl} → GrownClasses olds news → parents_by class news ≡ parents_by class olds
  parents_by_same class q.none = refl
  parents_by_same class (q.one_more is rest) = ap₂ (λ (x : ClassDecl) (ps : List (Option ℕ)). parent_in_table class x.parent ∷ ps) is.like (parents_by_same class rest)

  pub parents_same : {olds news : List ClassDecl} → GrownClasses olds news → parents news ≡ parents olds
  parents_same {olds} {news} are = ap (λ (class : ClassOf). parents_by class news) (class_named_same are) ∙ parents_by_same (class_named olds) are

  -- ---- methods

  methods_in_same : (class : ClassOf) (c : ℕ) {olds news : List Member} → GrownMembers olds news → methods_in class c news ≡ methods_in class c olds
  methods_in_same class c q.none = refl
  methods_in_same class c (q.one_more (same_field d) rest) = methods_in_same class c rest
  methods_in_same class c (q.one_more (grown_method is) rest) = ap₂ (λ (x : MethodDecl) (more : List Signature). signature class c x ∷ more) is.like (methods_in_same class c rest)

  methods_from_same : (class : ClassOf) (c : ℕ) {olds news : List ClassDecl} → GrownClasses olds news → methods_from class c news ≡ methods_from class c olds
  methods_from_same class c q.none = refl
  methods_from_same class c (q.one_more is rest) = ap₂ (λ (xs : List Signature) (ys : List Signature). xs ++ ys) (methods_in_same class c is.members) (methods_from_same class (c + 1) rest)

  pub methods_same : {olds news : List ClassDecl} → GrownClasses olds news → methods news ≡ methods olds
  methods_same {olds} {news} are = ap (λ (class : ClassOf). methods_from class 0 news) (class_named_same are) ∙ methods_from_same (class_named olds) 0 are

  -- ---- fields

  pub behind_grown : (first : Option LocalDecl) {olds news : List Member} → GrownMembers olds news → GrownMembers (members_behind first olds) (members_behind first news)
  behind_grown first q.none = q.none
  behind_grown first (q.one_more (same_field d) rest) = q.one_more (same_field (declared.field_in first d)) (behind_grown (Some (first_of first d)) rest)
  behind_grown first (q.one_more (grown_method is) rest) = q.one_more (grown_method is) (behind_grown None rest)

  fields_in_same : (class : ClassOf) (c next : ℕ) {olds news : List Member} → GrownMembers olds news → fields_in class c next news ≡ fields_in class c next olds
  fields_in_same class c next q.none = refl
  fields_in_same class c next (q.one_more (same_field d) rest) = ap (λ (more : List Field). field_of class c next d ∷ more) (fields_in_same class c (next_field next d) rest)
  fields_in_same class c next (q.one_more (grown_method is) rest) = fields_in_same class c next rest

  pub next_fields_same : (next : ℕ) {olds news : List Member} → GrownMembers olds news → next_fields next news ≡ next_fields next olds
  next_fields_same next q.none = refl
  next_fields_same next (q.one_more (same_field d) rest) = next_fields_same (next_field next d) rest
  next_fields_same next (q.one_more (grown_method is) rest) = next_fields_same next rest

  fields_from_same : (class : ClassOf) (c next : ℕ) {olds news : List ClassDecl} → GrownClasses olds news → fields_from class c next news ≡ fields_from class c next olds
  fields_from_same class c next q.none = refl
  fields_from_same class c next (q.one_more {x} {y} {xs} {ys} is rest) =
      ap₂ (λ (fs : List Field) (gs : List Field). fs ++ gs) (fields_in_same class c next (behind_grown None is.members))
      (ap (λ n. fields_from class (c + 1) n ys) (next_fields_same next is.members) ∙ fields_from_same class (c + 1) (next_fields next x.members) rest)

  fields_same : {olds news : List ClassDecl} → GrownClasses olds news → fields news ≡ fields olds
  fields_same {olds} {news} are = ap (λ (class : ClassOf). fields_from class 0 0 news) (class_named_same are) ∙ fields_from_same (class_named olds) 0 0 are

  -- ---- the whole

  names_same : {olds news : List ClassDecl} → GrownClasses olds news → (c : ℕ) → class_name (slice_get news c) ≡ class_name (slice_get olds c)
  names_same q.none c = refl
  names_same (q.one_more is rest) zero = ap (λ (x : ClassDecl). x.name.text) is.like
  names_same (q.one_more is rest) (suc c) = names_same rest c

  abbrev world_of : ClassOf → List (Option ℕ) → List Field → List Signature → (ℕ → List ℕ) → World
  world_of class ps fs ms names = record {
    class = class;
    parent = λ c. parent ps c;
    supers = λ c. supers ps c;
    field = λ c name. own_field fs c name;
    method = λ c name. own_method ms c name;
    constructor = λ c. own_constructor ms c (names c);
  }

  pub world_same : {olds news : List ClassDecl} → GrownClasses olds news → world news ≡ world olds
  world_same {olds} {news} are =
      let names = λ (c : ℕ). class_name (slice_get news c) in
      ap₂ (λ (class : ClassOf) (ps : List (Option ℕ)). world_of class ps (fields news) (methods news) names) (class_named_same are) (parents_same are)
      ∙ ap₂ (λ (fs : List Field) (ms : List Signature). world_of (class_named olds) (parents olds) fs ms names) (fields_same are) (methods_same are)
      ∙ ap (λ (n : ℕ → List ℕ). world_of (class_named olds) (parents olds) (fields olds) (methods olds) n) (fun_ext (names_same are))

  -- ---- members by their names

  first_member_same : (name : List ℕ) (found : Option ℕ) (i : ℕ) {olds news : List Member} → GrownMembers olds news → first_member name found i news ≡ first_member name found i olds
  first_member_same name found i q.none = refl
  first_member_same name found i (q.one_more (same_field d) rest) = first_member_same name (first_or found name d.name.text i) (i + 1) rest
  first_member_same name found i (q.one_more {x} {y} {xs} {ys} (grown_method {old} {new} is) rest) =
      ap (λ (m : MethodDecl). first_member name (first_or found name m.name.text i) (i + 1) ys) is.like ∙ first_member_same name (first_or found name old.name.text i) (i + 1) rest

  pub member_named_same : {olds news : List Member} → GrownMembers olds news → member_named news ≡ member_named olds
  member_named_same are = fun_ext (λ name. first_member_same name None 0 are)

  pub has_constructor_same : {olds news : List Member} → GrownMembers olds news → has_constructor news ≡ has_constructor olds
  has_constructor_same q.none = refl
  has_constructor_same (q.one_more (same_field d) rest) = has_constructor_same rest
  has_constructor_same (q.one_more (grown_method is) rest) = ap₂ (λ (m : MethodDecl) (b : Bool). m.constructor || b) is.like (has_constructor_same rest)
