-- What is known of a method and of a class of the source by its number: where it is declared, what lowering makes of it, and what it means. The laws are `method_declared`
-- and `class_declared` of `proofs/DeclaredMembers`.
use Rattle.std.specs.Prelude.{◌≡◌, ◌≤◌, ◌+◌, ◌⊎◌, ◌==◌, ℕ, false, true, List, [], ◌∷◌, ◌++◌, length, if◌then◌else◌, map, slice_get, Some, None}
use Rattle.ix_text.specs.declared.span.Span.{Span}
use Rattle.ix_core.specs.declared.program.Method.{Method}
use Rattle.ix_core.specs.declared.program.Program.{Program}
use Rattle.ix_core.specs.Formed.{numbers_from, numbers_where}
use Rattle.ix_core.specs.Tables.{method_at, class_at, field_at}
use Rattle.ix_tree.specs.declared.decl.ClassDecl.{ClassDecl}
use Rattle.ix_tree.specs.declared.decl.MethodDecl.{MethodDecl}
use Rattle.ix_meaning.specs.declared.members.Signature.{Signature}
use Rattle.ix_meaning.specs.Limits.{methods_of}
use Rattle.ix_meaning.specs.Members.{signature}
use Rattle.ix_meaning.specs.Source.{has_constructor}
use Rattle.ix_plain.specs.declared.numbers.Next.{Next}
use Rattle.ix_plain.specs.Counts.{most_counted}
use Rattle.ix_plain.specs.Members.{next_behind, constructor_in}
use Rattle.ix_plain.specs.Program.{Tables, Home, home}
use Rattle.ix_plain.specs.Scope.{declared_type}
use Rattle.ix_formed.specs.Additions.{AllOf}
use Rattle.ix_formed.specs.Shape.{IsMethod, IsDefault, field_count}
use Rattle.ix_source.specs.Bodies as bodies
use Rattle.ix_source.specs.Bodies.{Written, Class, Field, written, fields_in}

-- What is so of each written method of a class, and of a class without a written constructor.
module _ (tables : Tables) (Q : Home → MethodDecl → Type 0) (R : Home → Span → Type 0) where
  abbrev pub AllClasses : Next → List ClassDecl → Type 0
  AllClasses next [] = Unit {0}
  AllClasses next (decl ∷ decls) =
      AllOf (Q (home tables next decl)) (methods_of decl.members) × (has_constructor decl.members ≡ false → R (home tables next decl) decl.name.span) × AllClasses (next_behind next decl) decls

  -- The method of that number in these lists of what lowering makes, of signatures and of meanings.
  pub record IsDeclared (methods : List Method) (signatures : List Signature) (meanings : List Written) (number : ℕ) : Type 0 where
    pub next : Next
    pub class : ClassDecl
    pub decl : MethodDecl
    pub fine : Q (home tables next class) decl
    pub method : Method
    pub is : IsMethod tables (home tables next class) decl method
    pub there : slice_get methods number ≡ Some method
    pub signed : slice_get signatures number ≡ Some (signature tables.world.class next.class decl)
    pub means : slice_get meanings number ≡ Some (written next.class decl)

  -- ---- the constructor of a class

  pub record IsWrittenConstructor (p : Program) (at : Home) (class : ClassDecl) (number : ℕ) : Type 0 where
    pub decl : MethodDecl
    pub fine : Q at decl
    pub constructor : decl.constructor ≡ true
    pub is : IsMethod tables at decl (method_at p number)
    pub means : bodies.constructor_in at.class class.members ≡ Some (written at.class decl)

  pub record IsDefaultConstructor (p : Program) (at : Home) (class : ClassDecl) (number : ℕ) : Type 0 where
    pub none : has_constructor class.members ≡ false
    pub fine : R at class.name.span
    pub is : IsDefault tables at class.name.span (method_at p number)
    pub means : bodies.constructor_in at.class class.members ≡ None

  -- ---- a class

  -- The program's field has the type that the source's is declared with.
  abbrev pub IsTyped : Program → Field → Type 0
  IsTyped p field = (field_at p field.number).ty ≡ declared_type (tables.names.declared field.name)

  -- The class of that number, at a place in these lists.
  pub record IsClass (p : Program) (signatures : List Signature) (decls : List ClassDecl) (meanings : List Class) (constructors : List ℕ) (place number : ℕ) : Type 0 where
    pub next : Next
    pub decl : ClassDecl
    pub declared : slice_get decls place ≡ Some decl
    pub numbered : next.class ≡ number
    pub means : slice_get meanings place ≡ Some (record { fields = fields_in next.field decl.members; constructor = bodies.constructor_in number decl.members })
    -- its methods are the written ones, from the first on, and a default constructor if none is written
    pub methods : (class_at p number).methods ≡ numbers_from next.method (length (methods_of decl.members)) ++ numbers_from next.default (if has_constructor decl.members then 0 else 1)
    pub signed : numbers_where (λ (m : Signature). m.class == number) 0 signatures ≡ numbers_from next.method (length (methods_of decl.members))
    pub behind : length signatures ≤ next.default
    pub few : next.field + field_count decl.members ≤ most_counted
    -- its fields are numbered alike, and have the same types
    pub fields : (class_at p number).fields ≡ map (λ (own : Field). own.number) (fields_in next.field decl.members)
    pub types : AllOf (IsTyped p) (fields_in next.field decl.members)
    pub made_by : slice_get constructors place ≡ Some (constructor_in next.default next.method decl.members)
    pub constructor : IsWrittenConstructor p (home tables next decl) decl (constructor_in next.default next.method decl.members) ⊎ IsDefaultConstructor p (home tables next decl) decl (constructor_in next.default next.method decl.members)
