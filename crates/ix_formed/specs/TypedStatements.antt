-- What statements without errors on names become: items that fit and lead on. This is the statement of the induction over statements.
use Rattle.std.specs.Prelude.{◌≡◌, ◌≤◌, ◌<◌, ℕ, ◌+◌, Bool, true, false, List, [], ◌∷◌, ◌++◌, length, slice_get, Option, Some, None}
use Rattle.std.specs.List.{list_all}
use Rattle.ix_text.specs.declared.span.Span.{Span}
use Rattle.ix_core.specs.declared.claim.Name.TheVariants as name
use Rattle.ix_core.specs.declared.claim.Type_.{Type_}
use Rattle.ix_core.specs.declared.code.Item.{Item}
use Rattle.ix_core.specs.declared.op.Op.{Op}
use Rattle.ix_core.specs.declared.program.Local.{Local}
use Rattle.ix_core.specs.declared.program.Method.{Method}
use Rattle.ix_core.specs.declared.program.Program.{Program}
use Rattle.ix_core.specs.Code.{Code}
use Rattle.ix_core.specs.Formed.{Ways, code_ways, first_type, local_type_from, param_type_from, starts_within, claim_fits, others, local_named_type}
use Rattle.ix_core.specs.Posts.{writes_answers}
use Rattle.ix_core.specs.Tables.{param_slot, param_slots}
use Rattle.ix_core.specs.Types.{Point, bool_type, class_type, is_type, is_class, is_void}
use Rattle.ix_tree.specs.declared.annot.Annot.{Annot}
use Rattle.ix_tree.specs.declared.annot.TypeTree.{TypeTree}
use Rattle.ix_tree.specs.declared.decl.LocalDecl.{LocalDecl}
use Rattle.ix_tree.specs.Parts.{Part, elsewhere, entries, most_entries}
use Rattle.ix_meaning.specs.declared.note.Meaning.{Meaning}
use Rattle.ix_meaning.specs.declared.note.Meaning.TheVariants as meaning
use Rattle.ix_meaning.specs.declared.note.Note.{Note}
use Rattle.ix_meaning.specs.Annotated.{written, element_claims, target_before}
use Rattle.ix_meaning.specs.Bodies.{local_declaration}
use Rattle.ix_meaning.specs.Members.{World}
use Rattle.ix_meaning.specs.Scope.{Known as Variable, Scope as Names}
use Rattle.ix_meaning.specs.Types.{Need, of}
use Rattle.ix_plain.specs.declared.body.Body.{Body}
use Rattle.ix_plain.specs.Scope.{Site, Scope, slot_of}
use Rattle.ix_formed.specs.Additions.{AllOf, code_before}
use Rattle.ix_formed.specs.NoErrors.{Agrees, named_at}
use Rattle.ix_formed.specs.OwnSlots.{HasOwnSlot}
use Rattle.ix_formed.specs.Points.{Known, Keeps}
use Rattle.ix_formed.specs.Typed.{HasMembers}
use Rattle.ix_formed.specs.Weights.{total}
use Rattle.ix_formed.specs.Written.{is_written_type}

-- What stays the same in a body.
pub record Ground : Type 0 where
  pub program : Program
  pub method : Method
  -- the types of all its locals
  pub locals : List Type_
  pub site : Site
  pub world : World
  pub class : ℕ
  pub parts : List Part

abbrev pub Says : Ground → List Note → Type 0
Says g notes = AllOf (Agrees g.site.names g.parts) notes

-- a name is among those of the source, and a list has few entries
abbrev pub IsKnown : Ground → Part → Type 0
IsKnown g (elsewhere name) = 1 ≤ total (named_at name.span) g.parts
IsKnown g (entries n) = n ≤ most_entries
IsKnown g _ = Unit {0}

-- ---- variables and their places

-- the place lies there
abbrev pub Within : ℕ → ℕ → Span → Type 0
Within lo hi span = (lo ≤ span.from) × (span.from < hi)

-- the type of the variable in that slot at a place, by these locals
abbrev pub type_in : Ground → List (Local × Span) → List Type_ → ℕ → Span → Option Type_
type_in g locals types slot span = first_type (param_type_from (param_slot g.method 0) g.method.param_types slot) (local_type_from locals types slot span)

abbrev pub scope_in : Ground → List (Local × Span) → Scope
scope_in g locals = record { site = g.site; locals = locals; assigned = [] }

-- a local whose scope has the places, or a parameter
abbrev pub IsNamed : Ground → List (Local × Span) → List Type_ → ℕ → ℕ → Type_ → Meaning → Type 0
IsNamed g locals types lo hi ty (meaning.Local n) = (local : Local × Span) × (slice_get locals n ≡ Some local) × (slice_get types n ≡ Some ty) × (local.1.from ≤ lo) × (hi ≤ local.1.to)
IsNamed g locals types lo hi ty (meaning.Param n) = slice_get g.method.param_types n ≡ Some ty
IsNamed g locals types lo hi ty _ = ⊥

-- A variable has a slot of its own, at all of these places.
pub record HasVariable (g : Ground) (locals : List (Local × Span)) (types : List Type_) (free lo hi : ℕ) (v : Variable) : Type 0 where
  pub ty : Type_
  pub typed : v.ty ≡ Some ty
  pub real : is_type g.program ty ≡ true
  pub named : IsNamed g locals types lo hi ty v.meaning
  pub first : param_slot g.method 0 ≤ slot_of (scope_in g locals) (Some v.meaning)
  pub low : slot_of (scope_in g locals) (Some v.meaning) < free
  pub declared : (span : Span) → Within lo hi span → type_in g locals types (slot_of (scope_in g locals) (Some v.meaning)) span ≡ Some ty

-- what a `return` needs is what the method gives back
abbrev pub IsResult : Ground → Option Need → Type 0
IsResult g None = is_void g.method.result ≡ true
IsResult g (Some (of ty)) = (ty ≡ g.method.result) × (is_type g.program ty ≡ true)
IsResult g _ = ⊥

-- The variables in scope have their slots below the first that is free, from a place to another.
pub record Scoped (g : Ground) (s : Names) (locals : List (Local × Span)) (types : List Type_) (free lo hi : ℕ) : Type 0 where
  pub world : s.world ≡ g.world
  pub class : s.class ≡ g.class
  pub in_constructor : s.in_constructor ≡ true → g.method.constructor ≡ true
  pub object : s.has_object ≡ true → 1 ≤ param_slot g.method 0
  pub fields : s.names_fields ≡ true → g.method.is_static ≡ false
  pub result : IsResult g s.result
  pub params : param_slots g.method ≤ free
  pub first : param_slot g.method 0 ≤ free
  pub typed : length types ≡ length locals
  pub variables : AllOf (HasVariable g locals types free lo hi) s.names
  pub unused : (slot : ℕ) → free ≤ slot → (span : Span) → Within lo hi span → type_in g locals types slot span ≡ None

-- At the point the variables in scope are known, and `this` where it can be used.
pub record Stands (g : Ground) (s : Names) (locals : List (Local × Span)) (point : Point) : Type 0 where
  pub variables : AllOf (λ (v : Variable). (ty : Type_) → v.ty ≡ Some ty → Known point (slot_of (scope_in g locals) (Some v.meaning)) ty) s.names
  pub this : s.has_object ≡ true → Known point 0 (class_type g.class)

-- A local is declared from that place on, and its scope ends there at the latest.
abbrev pub IsDeclared : ℕ → ℕ → Local × Span → Type 0
IsDeclared from to local = (from ≤ local.1.from) × (local.1.to ≤ to)

-- its scope has none of these places
abbrev pub Outside : ℕ → ℕ → Local × Span → Type 0
Outside lo hi local = (span : Span) → Within lo hi span → starts_within span local.1 ≡ false

-- The locals of the method are these, and others that are declared behind a place.
pub record Begins (g : Ground) (own : List (Local × Span)) (own_types : List Type_) (at : ℕ) : Type 0 where
  pub later : List (Local × Span)
  pub later_types : List Type_
  pub locals : g.method.locals ≡ own ++ later
  pub types : g.locals ≡ own_types ++ later_types
  pub behind : AllOf (λ (local : Local × Span). at ≤ local.1.from) later

-- The types and the claims of locals fit, from that number on, and each has a slot of its own.
abbrev pub DoFit : Ground → ℕ → List (Local × Span) → List Type_ → Type 0
DoFit g number [] [] = Unit {0}
DoFit g number (local ∷ locals) (ty ∷ types) = (is_type g.program ty ≡ true)
    × (list_all (claim_fits ty (others (name.Local number) (local_named_type g.program g.method g.locals local.1))) local.0.claims ≡ true)
    × HasOwnSlot g.method.locals number local × DoFit g (number + 1) locals types
DoFit g number _ _ = ⊥

-- What is so of a body wherever one stands in it.
pub record IsGround (g : Ground) : Type 0 where
  pub members : HasMembers g.program g.site g.world
  pub class : g.site.class ≡ g.class
  pub class_there : is_class g.program g.class ≡ true
  pub method_class : g.method.class ≡ g.class
  pub with_this : g.method.constructor ≡ true → 1 ≤ param_slot g.method 0
  -- an answer is returned
  pub answers : g.site.answers ≡ true → g.method.result ≡ bool_type
  -- the types of locals that are declared
  pub declared_types : (tree : TypeTree) (annots : List Annot) (ty : Type_) → (written g.world.class tree (element_claims (target_before tree) annots)).ty ≡ Some ty → is_type g.program ty ≡ true
  -- and their claims
  pub declared_claims : (s : Names) (d : LocalDecl) (locals : List (Local × Span)) (types : List Type_) (free lo end at : ℕ) → Scoped g s locals types free lo end → s.next ≡ length locals → is_written_type d.ty ≡ true
      → lo ≤ d.name.span.from → d.name.span.from < end → Begins g locals types at → (ty : Type_) → (local_declaration d s).ty ≡ Some ty
      → list_all (claim_fits ty (others (name.Local s.next) (local_named_type g.program g.method g.locals (record { from = d.name.span.from; to = end })))) (local_declaration d s).claims ≡ true

-- ---- items

abbrev pub ways : Ground → Bool → Code → Point → Ways
ways g in_loop code point = code_ways g.program g.method g.locals in_loop code point

-- what was known before it, and behind a jump, is known where the jump leads
abbrev pub Passes : ℕ → Point → (Point → Point) → Type 0
Passes base before by = (count : ℕ) (kept x : Point) → count ≤ base → Keeps count kept before → Keeps count kept x → Keeps count kept (by x)

-- Items fit where what is behind them does, and lead to a point, and to others by each `break` and each `continue`.
pub record Leaves (g : Ground) (in_loop : Bool) (items : List Item) (before behind : Point) (breaks_by turns_by : Point → Point) : Type 0 where
  pub fits : (rest : Code) → (ways g in_loop rest behind).fits ≡ true → (ways g in_loop (code_before items rest) before).fits ≡ true
  pub ends : (rest : Code) → (ways g in_loop (code_before items rest) before).ends ≡ (ways g in_loop rest behind).ends
  pub breaks : (rest : Code) → (ways g in_loop (code_before items rest) before).breaks ≡ breaks_by (ways g in_loop rest behind).breaks
  pub turns : (rest : Code) → (ways g in_loop (code_before items rest) before).turns ≡ turns_by (ways g in_loop rest behind).turns

-- Each `return` among the items stands behind the operation that writes its answer, where it does so behind them.
abbrev pub WriteAnswers : List Item → Type 0
WriteAnswers items = (last : Option Op) (rest : Code) → ((before : Option Op) → writes_answers before rest ≡ true) → writes_answers last (code_before items rest) ≡ true

-- What is made from a place to another adds items to a body and locals, whose scopes end at a third place at the latest.
pub record Adds (g : Ground) (s : Names) (from to until : ℕ) (body : Body) (types : List Type_) (point : Point) (after : Body) : Type 0 where
  pub added : List (Local × Span)
  pub added_types : List Type_
  pub grown : after.locals ≡ body.locals ++ added
  pub typed : length added_types ≡ length added
  pub places : AllOf (IsDeclared from until) added
  pub do_fit : Begins g after.locals (types ++ added_types) to → DoFit g (length body.locals) added added_types
  pub most : body.most ≤ after.most
  pub up : body.made.free ≤ after.made.free
  pub items : List Item
  pub appended : after.made.items ≡ body.made.items ++ items
  pub behind : Point
  pub breaks_by : Point → Point
  pub turns_by : Point → Point
  pub leaves : Begins g after.locals (types ++ added_types) to → after.most ≤ g.method.slots → (in_loop : Bool) → (s.in_loop ≡ true → in_loop ≡ true) → Leaves g in_loop items point behind breaks_by turns_by
  pub answered : g.site.answers ≡ true → WriteAnswers items
  pub keeps : Keeps body.made.free point behind
  pub keeps_breaks : Passes body.made.free point breaks_by
  pub keeps_turns : Passes body.made.free point turns_by

-- A statement adds to a body, with locals of these types, and the scope behind it is as it has to be.
pub record Tells (g : Ground) (s next : Names) (from to until end : ℕ) (body : Body) (types own : List Type_) (point : Point) (after : Body) : Type 0 where
  pub adds : Adds g s from to until body types point after
  pub scoped : Scoped g next after.locals (types ++ adds.added_types) after.made.free to end
  pub stands : Stands g next after.locals adds.behind
  pub counted : next.next ≡ length after.locals
  -- its locals have these types
  pub typed : adds.added_types ≡ own
