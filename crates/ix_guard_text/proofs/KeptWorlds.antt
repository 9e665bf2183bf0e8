-- The classes, fields and methods of a guarded source are those of the source.
use Rattle.std.proofs.Common.{◌≡◌, ℕ, ◌+◌, List, [], ◌∷◌, ◌++◌, map, Option, Some, None, option_map, refl, ap, ap₂, ◌∙◌}
use Rattle.std.proofs.Math.Path.{fun_ext}
use Rattle.std.proofs.lemmas.Option.{slice_get-map}
use Rattle.std.specs.Prelude.{Bool, ◌||◌, slice_get}
use Rattle.ix_tree.specs.declared.decl.ClassDecl.{ClassDecl}
use Rattle.ix_tree.specs.declared.decl.LocalDecl.{LocalDecl}
use Rattle.ix_tree.specs.declared.decl.Member.{Member}
use Rattle.ix_tree.specs.declared.decl.Member.TheVariants as member
use Rattle.ix_meaning.specs.declared.members.Field.{Field}
use Rattle.ix_meaning.specs.declared.members.Signature.{Signature}
use Rattle.ix_meaning.specs.Classes.{first_or, first_class, class_named, parent_in_table, parents_by, parents, parent, supers}
use Rattle.ix_meaning.specs.Declarators as declared
use Rattle.ix_meaning.specs.Declarators.{first_of, field_in, members_behind}
use Rattle.ix_meaning.specs.Members.{ClassOf, World, field_of, next_field, next_fields, fields_in, fields_from, fields, signature, methods_in, methods_from, methods, own_field, own_method, own_constructor, class_name, world}
use Rattle.ix_meaning.specs.Source.{first_member, member_named, has_constructor}
use Rattle.ix_guard.specs.Tests.{Site}
use Rattle.ix_guard.specs.Trees.{guarded_member, guarded_class}

module _ (site : Site) where
  abbrev pub guarded_members : List Member → List Member
  guarded_members ms = map (guarded_member site) ms

  abbrev pub guarded_classes : List ClassDecl → List ClassDecl
  guarded_classes ks = map (guarded_class site) ks

  -- ---- classes and their superclasses

  first_class_kept : (name : List ℕ) (found : Option ℕ) (n : ℕ) (ks : List ClassDecl) → first_class name found n (guarded_classes ks) ≡ first_class name found n ks
  first_class_kept name found n [] = refl
  first_class_kept name found n (k ∷ ks) = first_class_kept name (first_or found name k.name.text n) (n + 1) ks

  class_named_kept : (ks : List ClassDecl) → class_named (guarded_classes ks) ≡ class_named ks
  class_named_kept ks = fun_ext (λ name. first_class_kept name None 0 ks)

  parents_by_kept : (class : ClassOf) (ks : List ClassDecl) → parents_by class (guarded_classes ks) ≡ parents_by class ks
  parents_by_kept class [] = refl
  parents_by_kept class (k ∷ ks) = ap (λ (ps : List (Option ℕ)). parent_in_table class k.parent ∷ ps) (parents_by_kept class ks)

  pub parents_kept : (ks : List ClassDecl) → parents (guarded_classes ks) ≡ parents ks
  parents_kept ks = ap (λ (class : ClassOf). parents_by class (guarded_classes ks)) (class_named_kept ks) ∙ parents_by_kept (class_named ks) ks

  -- ---- methods

  methods_in_kept : (class : ClassOf) (c : ℕ) (ms : List Member) → methods_in class c (guarded_members ms) ≡ methods_in class c ms
  methods_in_kept class c [] = refl
  methods_in_kept class c (member.Field d ∷ ms) = methods_in_kept class c ms
  methods_in_kept class c (member.Method m ∷ ms) = ap (λ (rest : List Signature). signature class c m ∷ rest) (methods_in_kept class c ms)

  methods_from_kept : (class : ClassOf) (c : ℕ) (ks : List ClassDecl) → methods_from class c (guarded_classes ks) ≡ methods_from class c ks
  methods_from_kept class c [] = refl
  methods_from_kept class c (k ∷ ks) = ap₂ (λ (xs : List Signature) (ys : List Signature). xs ++ ys) (methods_in_kept class c k.members) (methods_from_kept class (c + 1) ks)

  pub methods_kept : (ks : List ClassDecl) → methods (guarded_classes ks) ≡ methods ks
  methods_kept ks = ap (λ (class : ClassOf). methods_from class 0 (guarded_classes ks)) (class_named_kept ks) ∙ methods_from_kept (class_named ks) 0 ks

  -- ---- fields

  members_behind_kept : (first : Option LocalDecl) (ms : List Member) → members_behind first (guarded_members ms) ≡ guarded_members (members_behind first ms)
  members_behind_kept first [] = refl
  members_behind_kept first (member.Field d ∷ ms) = ap (λ (rest : List Member). member.Field (field_in first d) ∷ rest) (members_behind_kept (Some (first_of first d)) ms)
  members_behind_kept first (member.Method m ∷ ms) = ap (λ (rest : List Member). guarded_member site (member.Method m) ∷ rest) (members_behind_kept None ms)

  pub members_kept : (ms : List Member) → declared.members (guarded_members ms) ≡ guarded_members (declared.members ms)
  members_kept ms = members_behind_kept None ms

  fields_in_kept : (class : ClassOf) (c next : ℕ) (ms : List Member) → fields_in class c next (guarded_members ms) ≡ fields_in class c next ms
  fields_in_kept class c next [] = refl
  fields_in_kept class c next (member.Field d ∷ ms) = ap (λ (rest : List Field). field_of class c next d ∷ rest) (fields_in_kept class c (next_field next d) ms)
  fields_in_kept class c next (member.Method m ∷ ms) = fields_in_kept class c next ms

  pub next_fields_kept : (next : ℕ) (ms : List Member) → next_fields next (guarded_members ms) ≡ next_fields next ms
  next_fields_kept next [] = refl
  next_fields_kept next (member.Field d ∷ ms) = next_fields_kept (next_field next d) ms
  next_fields_kept next (member.Method m ∷ ms) = next_fields_kept next ms

  fields_from_kept : (class : ClassOf) (c next : ℕ) (ks : List ClassDecl) → fields_from class c next (guarded_classes ks) ≡ fields_from class c next ks
  fields_from_kept class c next [] = refl
  fields_from_kept class c next (k ∷ ks) =
      ap₂ (λ (xs : List Field) (ys : List Field). xs ++ ys) (ap (fields_in class c next) (members_kept k.members) ∙ fields_in_kept class c next (declared.members k.members))
      (ap (λ n. fields_from class (c + 1) n (guarded_classes ks)) (next_fields_kept next k.members) ∙ fields_from_kept class (c + 1) (next_fields next k.members) ks)

  fields_kept : (ks : List ClassDecl) → fields (guarded_classes ks) ≡ fields ks
  fields_kept ks = ap (λ (class : ClassOf). fields_from class 0 0 (guarded_classes ks)) (class_named_kept ks) ∙ fields_from_kept (class_named ks) 0 0 ks

  -- ---- the whole

  class_name_kept : (k : Option ClassDecl) → class_name (option_map (guarded_class site) k) ≡ class_name k
  class_name_kept None = refl
  class_name_kept (Some k) = refl

  names_kept : (ks : List ClassDecl) (c : ℕ) → class_name (slice_get (guarded_classes ks) c) ≡ class_name (slice_get ks c)
  names_kept ks c = ap class_name (slice_get-map (guarded_class site) ks c) ∙ class_name_kept (slice_get ks c)

  abbrev world_of : ClassOf → List (Option ℕ) → List Field → List Signature → (ℕ → List ℕ) → World
  world_of class ps fs ms names = record {
    class = class;
    parent = λ c. parent ps c;
    supers = λ c. supers ps c;
    field = λ c name. own_field fs c name;
    method = λ c name. own_method ms c name;
    constructor = λ c. own_constructor ms c (names c);
  }

  pub world_kept : (ks : List ClassDecl) → world (guarded_classes ks) ≡ world ks
  world_kept ks =
      let made = guarded_classes ks in
      let names = λ (c : ℕ). class_name (slice_get made c) in
      ap₂ (λ (class : ClassOf) (ps : List (Option ℕ)). world_of class ps (fields made) (methods made) names) (class_named_kept ks) (parents_kept ks)
      ∙ ap₂ (λ (fs : List Field) (ms : List Signature). world_of (class_named ks) (parents ks) fs ms names) (fields_kept ks) (methods_kept ks)
      ∙ ap (λ (n : ℕ → List ℕ). world_of (class_named ks) (parents ks) (fields ks) (methods ks) n) (fun_ext (names_kept ks))

  -- ---- members by their names

  first_member_kept : (name : List ℕ) (found : Option ℕ) (i : ℕ) (ms : List Member) → first_member name found i (guarded_members ms) ≡ first_member name found i ms
  first_member_kept name found i [] = refl
  first_member_kept name found i (member.Field d ∷ ms) = first_member_kept name (first_or found name d.name.text i) (i + 1) ms
  first_member_kept name found i (member.Method m ∷ ms) = first_member_kept name (first_or found name m.name.text i) (i + 1) ms

  pub member_named_kept : (ms : List Member) → member_named (guarded_members ms) ≡ member_named ms
  member_named_kept ms = fun_ext (λ name. first_member_kept name None 0 ms)

  pub has_constructor_kept : (ms : List Member) → has_constructor (guarded_members ms) ≡ has_constructor ms
  has_constructor_kept [] = refl
  has_constructor_kept (member.Field d ∷ ms) = has_constructor_kept ms
  has_constructor_kept (member.Method m ∷ ms) = ap (λ (b : Bool). m.constructor || b) (has_constructor_kept ms)
