-- The classes, fields and methods of a source whose places are moved.
use Rattle.std.proofs.Common.{◌≡◌, ℕ, ◌+◌, Bool, true, false, List, [], ◌∷◌, ◌++◌, map, Option, Some, None, option_map, refl, sym, ap, ap₂, ◌∙◌}
use Rattle.std.proofs.Math.Path.{fun_ext}
use Rattle.std.proofs.lemmas.Option.{slice_get-map}
use Rattle.std.specs.Prelude.{if◌then◌else◌, bytes_eq, ◌==◌, ◌&&◌, slice_get}
use Rattle.std.proofs.lemmas.List.{map-append}
use Rattle.ix_tree.specs.declared.annot.Ident.{Ident}
use Rattle.ix_tree.specs.declared.decl.ClassDecl.{ClassDecl}
use Rattle.ix_tree.specs.declared.decl.Member.{Member}
use Rattle.ix_tree.specs.declared.decl.Member.TheVariants as member
use Rattle.ix_meaning.specs.declared.members.Field.{Field}
use Rattle.ix_meaning.specs.declared.members.Signature.{Signature}
use Rattle.ix_meaning.specs.Classes.{first_or, first_class, class_named, parent_in_table, parents_by, parents, parent, supers}
use Rattle.ix_meaning.specs.Declarators as declared
use Rattle.ix_meaning.specs.Members.{ClassOf, World, Callee, next_field, next_fields, fields_in, fields_from, fields, methods_in, methods_from, methods, own_field, callable_if, is_method_named, is_constructor_named, own_method, own_constructor, class_name, world}
use Rattle.ix_guard_text.specs.Bare.{bare_maybe as maybe}
use Rattle.ix_guard_text.specs.Moved.{Move, moved_name, moved_member, moved_class}
use Rattle.ix_guard_text.specs.MovedNotes.{IsInjective}
use Rattle.ix_guard_text.specs.MovedScopes.{moved_field, moved_signature, moved_callee, moved_world}
use Rattle.ix_guard_text.proofs.MembersMove.{field_of_moved, signature_moved, next_fields_moved}
use Rattle.ix_guard_text.proofs.FieldsMove.{members_moved}

-- The classes, fields and methods of a source, by its tables and the names of its classes.
abbrev pub world_of : ClassOf → List (Option ℕ) → List Field → List Signature → (ℕ → List ℕ) → World
world_of class ps fs ms names = record {
  class = class;
  parent = λ c. parent ps c;
  supers = λ c. supers ps c;
  field = λ c name. own_field fs c name;
  method = λ c name. own_method ms c name;
  constructor = λ c. own_constructor ms c (names c);
}

module _ (move : Move) where
  -- ---- classes and their superclasses

  first_class_moved : (name : List ℕ) (found : Option ℕ) (k : ℕ) (cs : List ClassDecl) → first_class name found k (map (moved_class move) cs) ≡ first_class name found k cs
  first_class_moved name found k [] = refl
  first_class_moved name found k (c ∷ cs) = first_class_moved name (first_or found name c.name.text k) (k + 1) cs

  pub class_named_moved : (cs : List ClassDecl) → class_named (map (moved_class move) cs) ≡ class_named cs
  class_named_moved cs = fun_ext (λ name. first_class_moved name None 0 cs)

  parent_moved : (class : ClassOf) (parent : Option Ident) → parent_in_table class (maybe (moved_name move) parent) ≡ parent_in_table class parent
  parent_moved class None = refl
  parent_moved class (Some name) = refl

  parents_by_moved : (class : ClassOf) (cs : List ClassDecl) → parents_by class (map (moved_class move) cs) ≡ parents_by class cs
  parents_by_moved class [] = refl
  parents_by_moved class (c ∷ cs) = ap₂ (λ (p : Option ℕ) (ps : List (Option ℕ)). p ∷ ps) (parent_moved class c.parent) (parents_by_moved class cs)

  pub parents_moved : (cs : List ClassDecl) → parents (map (moved_class move) cs) ≡ parents cs
  parents_moved cs = ap (λ (class : ClassOf). parents_by class (map (moved_class move) cs)) (class_named_moved cs) ∙ parents_by_moved (class_named cs) cs

  -- ---- methods

  methods_in_moved : (class : ClassOf) (c : ℕ) (ms : List Member) → methods_in class c (map (moved_member move) ms) ≡ map (moved_signature move) (methods_in class c ms)
  methods_in_moved class c [] = refl
  methods_in_moved class c (member.Field d ∷ ms) = methods_in_moved class c ms
  methods_in_moved class c (member.Method m ∷ ms) = ap₂ (λ (s : Signature) (ss : List Signature). s ∷ ss) (signature_moved move class c m) (methods_in_moved class c ms)

  methods_from_moved : (class : ClassOf) (c : ℕ) (cs : List ClassDecl) → methods_from class c (map (moved_class move) cs) ≡ map (moved_signature move) (methods_from class c cs)
  methods_from_moved class c [] = refl
  methods_from_moved class c (k ∷ ks) =
      ap₂ (λ (xs : List Signature) (ys : List Signature). xs ++ ys) (methods_in_moved class c k.members) (methods_from_moved class (c + 1) ks)
      ∙ sym (map-append (moved_signature move) (methods_in class c k.members) (methods_from class (c + 1) ks))

  pub methods_moved : (cs : List ClassDecl) → methods (map (moved_class move) cs) ≡ map (moved_signature move) (methods cs)
  methods_moved cs = ap (λ (class : ClassOf). methods_from class 0 (map (moved_class move) cs)) (class_named_moved cs) ∙ methods_from_moved (class_named cs) 0 cs

  -- ---- fields

  pub fields_in_moved : (class : ClassOf) (c next : ℕ) (ms : List Member) → fields_in class c next (map (moved_member move) ms) ≡ map (moved_field move) (fields_in class c next ms)
  fields_in_moved class c next [] = refl
  fields_in_moved class c next (member.Field d ∷ ms) = ap₂ (λ (f : Field) (fs : List Field). f ∷ fs) (field_of_moved move class c next d) (fields_in_moved class c (next_field next d) ms)
  fields_in_moved class c next (member.Method m ∷ ms) = fields_in_moved class c next ms

  class_name_moved : (c : Option ClassDecl) → class_name (option_map (moved_class move) c) ≡ class_name c
  class_name_moved None = refl
  class_name_moved (Some c) = refl

  pub class_name_is : (cs : List ClassDecl) (c : ℕ) → class_name (slice_get (map (moved_class move) cs) c) ≡ class_name (slice_get cs c)
  class_name_is cs c = ap class_name (slice_get-map (moved_class move) cs c) ∙ class_name_moved (slice_get cs c)

  -- ---- the whole

  own_field_moved : (fs : List Field) (c : ℕ) (name : List ℕ) → maybe (moved_field move) (own_field fs c name) ≡ own_field (map (moved_field move) fs) c name
  own_field_moved [] c name = refl
  own_field_moved (f ∷ fs) c name = by (f.class == c && bytes_eq f.name name) (own_field_moved fs c name)
    where
      by : (b : Bool) → maybe (moved_field move) (own_field fs c name) ≡ own_field (map (moved_field move) fs) c name
          → maybe (moved_field move) (if b then Some f else own_field fs c name) ≡ (if b then Some (moved_field move f) else own_field (map (moved_field move) fs) c name)
      by true rest = refl
      by false rest = rest

  callable_moved : (is : Signature → Bool) → ((m : Signature) → is (moved_signature move m) ≡ is m) → (k : ℕ) (ms : List Signature)
      → maybe (moved_callee move) (callable_if is k ms) ≡ callable_if is k (map (moved_signature move) ms)
  callable_moved is h k [] = refl
  callable_moved is h k (m ∷ ms) =
      by (is m) (callable_moved is h (k + 1) ms)
      ∙ ap (λ b. if b then Some (moved_callee move (record { number = k; signature = m })) else callable_if is (k + 1) (map (moved_signature move) ms)) (sym (h m))
    where
      by : (b : Bool) → maybe (moved_callee move) (callable_if is (k + 1) ms) ≡ callable_if is (k + 1) (map (moved_signature move) ms)
          → maybe (moved_callee move) (if b then Some (record { number = k; signature = m }) else callable_if is (k + 1) ms)
          ≡ (if b then Some (moved_callee move (record { number = k; signature = m })) else callable_if is (k + 1) (map (moved_signature move) ms))
      by true rest = refl
      by false rest = rest

  module _ (cs : List ClassDecl) where
    field_is : (moved_world move (world cs)).field ≡ (λ c name. own_field (map (moved_field move) (fields cs)) c name)
    field_is = fun_ext (λ c. fun_ext (λ name. own_field_moved (fields cs) c name))

    method_is : (moved_world move (world cs)).method ≡ (λ c name. own_method (map (moved_signature move) (methods cs)) c name)
    method_is = fun_ext (λ c. fun_ext (λ name. callable_moved (is_method_named c name) (λ m. refl) 0 (methods cs)))

    constructor_is : (moved_world move (world cs)).constructor ≡ (λ c. own_constructor (map (moved_signature move) (methods cs)) c (class_name (slice_get cs c)))
    constructor_is = fun_ext (λ c. callable_moved (is_constructor_named c (class_name (slice_get cs c))) (λ m. refl) 0 (methods cs))

    pub world_is : moved_world move (world cs) ≡ world_of (class_named cs) (parents cs) (map (moved_field move) (fields cs)) (map (moved_signature move) (methods cs)) (λ c. class_name (slice_get cs c))
    world_is =
        let with : (ℕ → List ℕ → Option Field) → (ℕ → List ℕ → Option Callee) → (ℕ → Option Callee) → World = λ field method constructor.
        record (moved_world move (world cs)) { field = field; method = method; constructor = constructor } in
        ap (λ (f : ℕ → List ℕ → Option Field). with f (moved_world move (world cs)).method (moved_world move (world cs)).constructor) field_is
        ∙ ap₂ (λ (m : ℕ → List ℕ → Option Callee) (k : ℕ → Option Callee). with (λ c name. own_field (map (moved_field move) (fields cs)) c name) m k) method_is constructor_is

  -- ---- where no two places come to one: a further field of a declaration is one still

  module _ (apart : IsInjective move) where
    fields_from_moved : (class : ClassOf) (c next : ℕ) (ks : List ClassDecl) → fields_from class c next (map (moved_class move) ks) ≡ map (moved_field move) (fields_from class c next ks)
    fields_from_moved class c next [] = refl
    fields_from_moved class c next (k ∷ ks) =
        ap₂ (λ (xs : List Field) (ys : List Field). xs ++ ys) (ap (fields_in class c next) (members_moved move apart k.members) ∙ fields_in_moved class c next (declared.members k.members))
        (ap (λ n. fields_from class (c + 1) n (map (moved_class move) ks)) (next_fields_moved move next k.members) ∙ fields_from_moved class (c + 1) (next_fields next k.members) ks)
        ∙ sym (map-append (moved_field move) (fields_in class c next (declared.members k.members)) (fields_from class (c + 1) (next_fields next k.members) ks))

    pub fields_moved : (cs : List ClassDecl) → fields (map (moved_class move) cs) ≡ map (moved_field move) (fields cs)
    fields_moved cs = ap (λ (class : ClassOf). fields_from class 0 0 (map (moved_class move) cs)) (class_named_moved cs) ∙ fields_from_moved (class_named cs) 0 0 cs

    -- The classes, fields and methods of the moved source are those of the source, at their places moved.
    pub world_moves : (cs : List ClassDecl) → world (map (moved_class move) cs) ≡ moved_world move (world cs)
    world_moves cs =
        let there = map (moved_class move) cs in
        ap₂ (λ (class : ClassOf) (ps : List (Option ℕ)). world_of class ps (fields there) (methods there) (λ c. class_name (slice_get there c))) (class_named_moved cs) (parents_moved cs)
        ∙ ap₂ (λ (fs : List Field) (ms : List Signature). world_of (class_named cs) (parents cs) fs ms (λ c. class_name (slice_get there c))) (fields_moved cs) (methods_moved cs)
        ∙ ap (λ (names : ℕ → List ℕ). world_of (class_named cs) (parents cs) (map (moved_field move) (fields cs)) (map (moved_signature move) (methods cs)) names) (fun_ext (class_name_is cs))
        ∙ sym (world_is cs)
