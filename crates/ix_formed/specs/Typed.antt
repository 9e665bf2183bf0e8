-- What an expression without errors on names becomes: operations that fit, and a slot with a value of its type. This is the statement of the induction over
-- expressions, in a scope that stays the same.
use Rattle.std.specs.Prelude.{◌≡◌, ◌≤◌, ◌<◌, ℕ, Bool, true, false, ◌||◌, List, ◌++◌, map, length, nat_lt, Option, Some, None}
use Rattle.ix_text.specs.declared.span.Span.{Span}
use Rattle.ix_core.specs.declared.claim.Type_.{Type_}
use Rattle.ix_core.specs.declared.code.Item.{Item}
use Rattle.ix_core.specs.declared.program.Method.{Method}
use Rattle.ix_core.specs.declared.program.Program.{Program}
use Rattle.ix_core.specs.Formed.{variable_type, may_be_written}
use Rattle.ix_core.specs.Machine.{is_int}
use Rattle.ix_core.specs.Tables.{field_at, method_at, param_slot, param_slots}
use Rattle.ix_core.specs.Types.{Point, int_type, class_type, cell_type, is_void, is_type, is_class, is_array, is_below, is_of, is_reference_type}
use Rattle.ix_tree.specs.declared.annot.TypeTree.{TypeTree}
use Rattle.ix_tree.specs.Parts.{Part, expression, elsewhere, entries, most_entries}
use Rattle.ix_meaning.specs.declared.members.Field.{Field}
use Rattle.ix_meaning.specs.declared.note.Meaning.{Meaning}
use Rattle.ix_meaning.specs.declared.note.Meaning.TheVariants as meaning
use Rattle.ix_meaning.specs.declared.note.Note.{Note}
use Rattle.ix_meaning.specs.Members.{World, Callee, field_named, method_named, constructor_params}
use Rattle.ix_meaning.specs.Scope.{Known as Variable, Scope as Names}
use Rattle.ix_meaning.specs.Types.{fits}
use Rattle.ix_meaning.specs.Values as values
use Rattle.ix_meaning.specs.Values.{Reading, Object, no_object, of_class, value}
use Rattle.ix_plain.specs.declared.made.Made.{Made}
use Rattle.ix_plain.specs.declared.made.Spot.{Spot}
use Rattle.ix_plain.specs.declared.made.Spot.TheVariants as spot
use Rattle.ix_plain.specs.Scope.{Site, Scope, slot_of, is_among, head_at, constructor_at}
use Rattle.ix_plain.specs.Parts.{Within, Value, Asked, Target}
use Rattle.ix_plain.specs.Values.{Lowering, Filling}
use Rattle.ix_formed.specs.Additions.{Makes, AllOf, IsPlain, IsPlainCondition}
use Rattle.ix_formed.specs.NoErrors.{Agrees, named_at}
use Rattle.ix_formed.specs.Points.{Known, Keeps, Leads, Decides}
use Rattle.ix_formed.specs.Weights.{total}

-- a type of the program, or the result of a method without one
abbrev pub IsResult : Program → Type_ → Type 0
IsResult p ty = (is_void ty || is_type p ty) ≡ true

-- ---- the members that names mean, as the program has them

module _ (p : Program) (site : Site) where
  -- a field that a class has, by what it means
  abbrev pub FieldIs : ℕ → Field → Option Meaning → Type 0
  FieldIs class f (Some (meaning.FieldNamed k)) = (k < length p.fields) × ((field_at p k).class ≡ f.class) × (f.ty ≡ Some (field_at p k).ty) × ((field_at p k).is_final ≡ f.is_final) × (f.is_static ≡ false)
      × (is_below p class (field_at p k).class ≡ true) × (is_type p (field_at p k).ty ≡ true)
  FieldIs class f (Some (meaning.Constant n)) = (is_int n ≡ true) × (f.ty ≡ Some int_type) × (f.is_static ≡ true) × (f.is_final ≡ true)
  FieldIs class f _ = ⊥

  -- a method of the program, with parameters of these types
  pub record TakesTypes (number : ℕ) (params : List (Option Type_)) : Type 0 where
    pub there : number < length p.methods
    pub same : map (λ t. Some t) (method_at p number).param_types ≡ params
    pub types : AllOf (λ ty. is_type p ty ≡ true) (method_at p number).param_types

  -- a method that a class has
  pub record MethodIs (class : ℕ) (m : Callee) : Type 0 where
    pub takes : TakesTypes m.number m.signature.params
    pub head_static : (head_at site m.number).is_static ≡ m.signature.is_static
    pub head_class : is_class p (head_at site m.number).class ≡ true
    pub static : (method_at p m.number).is_static ≡ m.signature.is_static
    pub constructor : (method_at p m.number).constructor ≡ false
    pub result : m.signature.result ≡ Some (method_at p m.number).result
    pub of_type : IsResult p (method_at p m.number).result
    pub below : is_below p class (method_at p m.number).class ≡ true

  pub record ConstructorIs (class : ℕ) (params : List (Option Type_)) : Type 0 where
    pub takes : TakesTypes (constructor_at site class) params
    pub constructor : (method_at p (constructor_at site class)).constructor ≡ true
    pub of_class : (method_at p (constructor_at site class)).class ≡ class
    pub result : (method_at p (constructor_at site class)).result ≡ Rattle.ix_core.specs.declared.claim.Type_.TheVariants.Void

  -- What names mean, the program has.
  pub record HasMembers (w : World) : Type 0 where
    pub classes : (name : List ℕ) (class : ℕ) → w.class name ≡ Some class → is_class p class ≡ true
    pub fields : (class : ℕ) (name : List ℕ) (f : Field) → is_class p class ≡ true → field_named w class name ≡ Some f → FieldIs class f f.meaning
    pub methods : (class : ℕ) (name : List ℕ) (m : Callee) → is_class p class ≡ true → method_named w class name ≡ Some m → MethodIs class m
    pub constructors : (class : ℕ) → is_class p class ≡ true → ConstructorIs class (constructor_params w class)
    -- a value that fits is one of the type (JLS 5.2)
    pub fitting : (ty need : Type_) → is_type p ty ≡ true → fits w.supers ty need ≡ true → is_of p ty need ≡ true
    pub itself : (ty : Type_) → is_type p ty ≡ true → is_of p ty ty ≡ true
    -- the type of a new array
    pub created : (tree : TypeTree) (ty : Type_) → nat_lt 0 tree.depth ≡ true → (values.created_in w.class tree).ty ≡ Some ty → is_array p ty ≡ true
    pub further : (ty middle need : Type_) → is_type p ty ≡ true → is_of p ty middle ≡ true → is_of p middle need ≡ true → is_of p ty need ≡ true

-- A slot holds a value of the type, or of one below.
pub record Holds (p : Program) (point : Point) (slot : ℕ) (ty : Type_) : Type 0 where
  pub held : Type_
  pub real : is_type p held ≡ true
  pub known : Known point slot held
  pub fits : is_of p held ty ≡ true

-- ---- steps and values, where it is fixed which locals the method has

module _ (p : Program) (method : Method) (locals : List Type_) (fixed : Type 0) where
  -- Items are appended that lead from one point to another, where the frame has slots enough.
  pub record Steps (made : Made) (before : Point) (after : Made) (behind : Point) : Type 0 where
    pub items : List Item
    pub appended : after.items ≡ made.items ++ items
    pub plain : IsPlain items
    pub up : made.free ≤ after.free
    pub leads : fixed → after.free ≤ method.slots → Leads p method locals items before behind
    pub keeps : Keeps made.free before behind

  -- some steps
  pub record Runs (made : Made) (before : Point) (after : Made) : Type 0 where
    pub behind : Point
    pub steps : Steps made before after behind

  -- a slot below the next free one holds a value of the type, and is none of those
  pub record Gives (avoided : List ℕ) (made : Made) (before : Point) (ty : Type_) (v : Value) : Type 0 where
    pub behind : Point
    pub steps : Steps made before v.made behind
    pub low : v.slot < v.made.free
    pub apart : is_among v.slot avoided ≡ false
    pub holds : is_type p ty ≡ true → Holds p behind v.slot ty

  -- a condition, whose temporaries begin with that slot
  pub record Tests (free : ℕ) (before : Point) (asked : Asked) : Type 0 where
    pub holds : Point
    pub fails : Point
    pub up : free ≤ asked.free
    pub plain : IsPlainCondition asked.cond
    pub decides : fixed → asked.free ≤ method.slots → Decides p method locals asked.cond before holds fails
    pub keeps_holds : Keeps free before holds
    pub keeps_fails : Keeps free before fails

-- ---- in a scope

-- Where a full expression stands: what its names mean and where its variables are, the first slot that is no variable's in scope, and the places in it.
pub record Setting : Type 1 where
  pub program : Program
  pub method : Method
  pub locals : List Type_
  -- which other locals it has
  pub fixed : Type 0
  pub names : Names
  pub scope : Scope
  pub base : ℕ
  -- the slots of the variables that it assigns, which no value stays in
  pub avoided : List ℕ
  pub here : Span → Type 0
  pub parts : List Part

abbrev pub Told : Setting → List Note → Type 0
Told z notes = AllOf (Agrees z.scope.site.names z.parts) notes

-- A part stands in the full expression, and a name in it among the names of the source.
abbrev pub IsHere : Setting → Part → Type 0
IsHere z (expression span) = z.here span
IsHere z (elsewhere name) = 1 ≤ total (named_at name.span) z.parts
IsHere z (entries n) = n ≤ most_entries
IsHere z _ = Unit {0}

abbrev pub is_variable : Meaning → Bool
is_variable (meaning.Local number) = true
is_variable (meaning.Param number) = true
is_variable _ = false

-- a variable's slot, which no temporary has
pub record IsSlotOf (z : Setting) (slot : ℕ) (ty : Type_) : Type 0 where
  pub first : param_slot z.method 0 ≤ slot
  pub low : slot < z.base
  pub declared : z.fixed → (span : Span) → z.here span → variable_type z.program z.method z.locals slot span ≡ Some ty

pub record IsVariable (z : Setting) (v : Variable) : Type 0 where
  pub ty : Type_
  pub typed : v.ty ≡ Some ty
  pub real : is_type z.program ty ≡ true
  pub kind : is_variable v.meaning ≡ true
  pub slot : IsSlotOf z (slot_of z.scope (Some v.meaning)) ty
  -- where it is assigned it is avoided, and else not
  pub stays : is_among (slot_of z.scope (Some v.meaning)) z.scope.assigned ≡ is_among (slot_of z.scope (Some v.meaning)) z.avoided

-- What is so wherever the expression stands.
pub record IsSet (z : Setting) : Type 0 where
  pub members : HasMembers z.program z.scope.site z.names.world
  pub class : z.scope.site.class ≡ z.names.class
  pub class_there : is_class z.program z.names.class ≡ true
  pub method_class : z.method.class ≡ z.names.class
  pub in_constructor : z.names.in_constructor ≡ true → z.method.constructor ≡ true
  -- slot 0 is `this`
  pub static : z.names.has_object ≡ true → 1 ≤ z.base
  pub object : z.names.has_object ≡ true → 1 ≤ param_slot z.method 0
  -- a copy of a variable is none of `this`
  pub with_this : z.method.constructor ≡ true → 1 ≤ param_slot z.method 0
  pub params : param_slots z.method ≤ z.base
  pub variables : AllOf (IsVariable z) z.names.names
  pub avoided : AllOf (λ slot. (param_slot z.method 0 ≤ slot) × (slot < z.base)) z.avoided
  pub temporaries : z.fixed → (slot : ℕ) → z.base ≤ slot → (span : Span) → z.here span → variable_type z.program z.method z.locals slot span ≡ None

-- At the point the variables in scope are known, and `this` where it can be used.
pub record Stands (z : Setting) (point : Point) : Type 0 where
  pub variables : AllOf (λ (v : Variable). (ty : Type_) → v.ty ≡ Some ty → Known point (slot_of z.scope (Some v.meaning)) ty) z.names.names
  pub this : z.names.has_object ≡ true → Known point 0 (class_type z.names.class)

-- and nothing was made past the first slot that is free
abbrev pub Ready : Setting → Made → Point → Type 0
Ready z made point = (z.base ≤ made.free) × Stands z point

module _ (z : Setting) where
  -- wherever it stands it gives a value of the type
  abbrev pub Yields : Type_ → (Scope → Made → Within Value) → Type 0
  Yields ty run = (made : Made) (point : Point) → Ready z made point → Makes (Gives z.program z.method z.locals z.fixed z.avoided made point ty) (run z.scope made)

  -- an expression with that place, and the type that it is said to have
  pub record Judges (span : Span) (said : Option Type_) (run : Scope → Made → Within Value) : Type 0 where
    pub ty : Type_
    pub typed : said ≡ Some ty
    pub table : z.scope.site.names.type_of span ≡ Some ty
    pub of_type : IsResult z.program ty
    pub yields : Yields ty run

  -- what an assignment writes
  abbrev pub SpotIs : Point → ℕ → Type_ → Spot → Type 0
  SpotIs point free ty (spot.Variable slot) = IsSlotOf z slot ty × Known point slot ty × (is_among slot z.avoided ≡ true)
  SpotIs point free ty (spot.FieldOf object field) = (object < free) × (field < length z.program.fields) × ((field_at z.program field).ty ≡ ty) × (may_be_written z.program z.method object field ≡ true)
      × Holds z.program point object (class_type (field_at z.program field).class)
  SpotIs point free ty (spot.Cell array index array_type at) = (array < free) × (index < free) × (is_array z.program array_type ≡ true) × Holds z.program point array array_type × Holds z.program point index int_type × (cell_type array_type ≡ ty)

  pub record Aims (made : Made) (before : Point) (ty : Type_) (t : Target) : Type 0 where
    pub behind : Point
    pub steps : Steps z.program z.method z.locals z.fixed made before t.made behind
    pub spot : SpotIs behind t.made.free ty t.spot

  pub record Assigns (span : Span) (said : Option Type_) (l : Lowering) : Type 0 where
    pub ty : Type_
    pub typed : said ≡ Some ty
    pub table : z.scope.site.names.type_of span ≡ Some ty
    pub real : is_type z.program ty ≡ true
    pub aims : (made : Made) (point : Point) → Ready z made point → Makes (Aims made point ty) (l.target z.scope made)

  -- what stands before a dot
  abbrev pub ReceiverIs : Span → Lowering → Object → Type 0
  ReceiverIs span l no_object = ⊥
  ReceiverIs span l (of_class class) = is_class z.program class ≡ true
  ReceiverIs span l (value ty) = (is_type z.program ty ≡ true) × (is_reference_type ty ≡ true) × (z.scope.site.names.type_of span ≡ Some ty) × Yields ty l.value

  -- An expression without errors on names, as each place wants it.
  pub record Fits (l : Lowering) (r : Reading) : Type 0 where
    pub same : l.span ≡ r.span
    pub value : Told z (r.judge z.names).notes → Judges r.span (r.judge z.names).ty l.value
    pub null : r.is_null ≡ true → (ty : Type_) → is_reference_type ty ≡ true → is_type z.program ty ≡ true → z.scope.site.names.type_of r.span ≡ Some ty → Yields ty l.value
    pub condition : Told z (r.judge z.names).notes → (r.judge z.names).ty ≡ Some Rattle.ix_core.specs.Types.bool_type → (free : ℕ) (point : Point) → z.base ≤ free → Stands z point
        → Makes (Tests z.program z.method z.locals z.fixed free point) (l.condition z.scope free)
    pub receiver : Told z (r.receiver z.names).notes → ReceiverIs r.span l (r.receiver z.names).object
    pub unused : Told z (r.receiver z.names).notes → (made : Made) (point : Point) → Ready z made point → Makes (Runs z.program z.method z.locals z.fixed made point) (l.unused z.scope made)
    pub this : r.is_this ≡ true → (made : Made) → Makes (λ v. v.slot ≡ 0) (l.value z.scope made)

  -- where it may be assigned
  abbrev pub FitsTarget : Lowering → Reading → Type 0
  FitsTarget l r = Told z (r.assigned z.names).notes → Assigns r.span (r.assigned z.names).ty l

  -- what fills a variable of a type
  pub record Fills (ty : Type_) (f : Filling) : Type 0 where
    pub given : Type_
    pub same : f.ty z.scope.site ty ≡ given
    pub real : is_type z.program given ≡ true
    pub fits : is_of z.program given ty ≡ true
    pub yields : Yields given (λ scope made. f.value scope ty made)

  abbrev pub FitsFilling : Filling → values.Filling → Type 0
  FitsFilling f said = (ty : Type_) → is_type z.program ty ≡ true → Told z (said z.names (Some ty)) → Fills ty f
