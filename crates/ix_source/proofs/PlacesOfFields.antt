-- The fields of an object, their places and what they hold at first are the source's (JLS 8.2, 4.12.5).
use Rattle.std.proofs.Common.{◌≡◌, ◌≤◌, ℕ, ◌+◌, List, [], ◌∷◌, ◌++◌, length, map, Option, Some, None, refl, sym, ap, subst, ◌∙◌, arith}
use Rattle.std.specs.Prelude.{nat_lt, slice_get, unwrap_or, flat_map, reverse}
use Rattle.std.proofs.lemmas.Bool.Decides.{nat_tests}
use Rattle.std.proofs.lemmas.List.{map-append}
use Rattle.std.proofs.lemmas.Option.{slice_get_past}
use Rattle.std.proofs.Math.Path.{fun_ext}
use Rattle.ix_core.specs.declared.program.Class.{Class as PlainClass}
use Rattle.ix_core.specs.declared.program.Program.{Program}
use Rattle.ix_core.specs.Heap.{default_of}
use Rattle.ix_core.specs.Tables.{class_at, field_at, no_class, all_fields, place_among, tables_of}
use Rattle.ix_core.proofs.Cases.{by_test}
use Rattle.ix_tree.specs.declared.decl.ClassDecl.{ClassDecl}
use Rattle.ix_tree.specs.declared.decl.Unit.{Unit as Source}
use Rattle.ix_meaning.specs.declared.note.Declared.{Declared}
use Rattle.ix_meaning.specs.Members.{next_fields}
use Rattle.ix_meaning.specs.Resolved.{names}
use Rattle.ix_plain.specs.Members.{first_numbers}
use Rattle.ix_plain.specs.Program.{Tables, tables}
use Rattle.ix_plain.specs.Scope.{declared_type}
use Rattle.ix_formed.specs.Additions.{AllOf}
use Rattle.ix_formed.proofs.FieldsFit.{IsAccepted, class_count}
use Rattle.ix_formed.proofs.NumberLists.{all_joined}
use Rattle.ix_source.specs.Context.{type_declared}
use Rattle.ix_source.specs.Bodies as bodies
use Rattle.ix_source.specs.Bodies.{Whole, Class, Field, whole, own_fields, classes_from, fresh_field, members}
use Rattle.ix_source.proofs.AcceptedTables.{class_declared}
use Rattle.ix_source.proofs.MethodsFound.{Any, AnyDefault, any_class, ancestors_same}

-- ---- lists of lists

flat_same : {A : Type 0} (own other : ℕ → List A) (xs : List ℕ) → ((x : ℕ) → own x ≡ other x) → flat_map own xs ≡ flat_map other xs
flat_same own other [] same = refl
flat_same own other (x ∷ xs) same = ap (λ l. l ++ flat_map own xs) (same x) ∙ ap (λ l. other x ++ l) (flat_same own other xs same)

map_flat : {A B : Type 0} (f : A → B) (of : ℕ → List A) (xs : List ℕ) → map f (flat_map of xs) ≡ flat_map (λ x. map f (of x)) xs
map_flat f of [] = refl
map_flat f of (x ∷ xs) = map-append f (of x) (flat_map of xs) ∙ ap (λ l. map f (of x) ++ l) (map_flat f of xs)

all_flat : {A : Type 0} (P : A → Type 0) (of : ℕ → List A) (xs : List ℕ) → ((x : ℕ) → AllOf P (of x)) → AllOf P (flat_map of xs)
all_flat P of [] all = tt
all_flat P of (x ∷ xs) all = all_joined P (of x) (flat_map of xs) (all x) (all_flat P of xs all)

type_same : (o : Option Declared) → declared_type o ≡ type_declared o
type_same None = refl
type_same (Some declared) = refl

as_many_classes : (class field : ℕ) (decls : List ClassDecl) → length (classes_from class field decls) ≡ length decls
as_many_classes class field [] = refl
as_many_classes class field (decl ∷ decls) = let e = as_many_classes (class + 1) (next_fields field decl.members) decls in omega (arith, e)

module _ (unit : Source) (p : Program) (is : IsAccepted unit p) where
  abbrev w : Whole
  w = whole (names unit) unit.classes

  abbrev t : Tables
  t = tables (names unit) unit.classes

  abbrev number_of : Field → ℕ
  number_of own = own.number

  abbrev HasType : Field → Type 0
  HasType field = (field_at p field.number).ty ≡ declared_type ((names unit).declared field.name)

  -- the fields that a class declares
  own_same : (class : ℕ) → ((class_at p class).fields ≡ map number_of (own_fields (slice_get w.classes class))) × AllOf HasType (own_fields (slice_get w.classes class))
  own_same class =
      by_test (nat_lt class (length unit.classes))
      (λ t.
      let c = class_declared unit p is Any AnyDefault (any_class (tables (names unit) unit.classes) (first_numbers unit.classes) unit.classes) class (grind (arith, nat_tests)) in
      let e = ap own_fields c.means in
      (c.fields ∙ sym (ap (map number_of) e), subst (AllOf HasType) (sym e) c.types))
      (λ t.
      let le : length unit.classes ≤ class = grind (arith, nat_tests) in
      let count = class_count unit p is in
      let none : own_fields (slice_get w.classes class) ≡ [] = ap own_fields (slice_get_past w.classes class (let a = as_many_classes 0 0 unit.classes in omega (arith, a, le))) in
      (ap (λ (o : Option PlainClass). (unwrap_or o no_class).fields) (slice_get_past p.classes class (omega (arith, le, count))) ∙ sym (ap (map number_of) none), subst (AllOf HasType) (sym none) tt))

  all_same : (class : ℕ) → all_fields p class ≡ map number_of (bodies.all_fields w class)
  all_same class =
      ap (λ l. flat_map (λ above. (class_at p above).fields) (reverse l)) (ancestors_same unit p is class)
      ∙ flat_same (λ above. (class_at p above).fields) (λ above. map number_of (own_fields (slice_get w.classes above))) (reverse (class ∷ w.world.supers class)) (λ above. (own_same above).0)
      ∙ sym (map_flat number_of (λ above. own_fields (slice_get w.classes above)) (reverse (class ∷ w.world.supers class)))

  defaults_same : (fields : List Field) → AllOf HasType fields → map (λ field. default_of (field_at p field).ty) (map number_of fields) ≡ map (fresh_field (names unit)) fields
  defaults_same [] all = refl
  defaults_same (field ∷ fields) all = ap (λ held. held ∷ map (λ field. default_of (field_at p field).ty) (map number_of fields)) (ap default_of (all.0 ∙ type_same ((names unit).declared field.name))) ∙ ap (λ l. fresh_field (names unit) field ∷ l) (defaults_same fields all.1)

  -- The place of a field among the fields of an object.
  pub place_same : (tables_of p).place ≡ (members w).place
  place_same = fun_ext (λ class. fun_ext (λ field. ap (λ l. place_among l field) (all_same class)))

  -- What the fields of a new object hold.
  pub fresh_same : (class : ℕ) → (tables_of p).fresh_fields class ≡ (members w).fresh class
  fresh_same class =
      ap (map (λ field. default_of (field_at p field).ty)) (all_same class)
      ∙ defaults_same (bodies.all_fields w class) (all_flat HasType (λ above. own_fields (slice_get w.classes above)) (reverse (class ∷ w.world.supers class)) (λ above. (own_same above).1))
