-- Whether all expressions in the body of a method or a constructor are sound (JLS 8.4.7, 8.8.7, 12.5), and at the entry each variable in scope owns its slot.
use Rattle.std.specs.Prelude.{◌≡◌, ◌<◌, ℕ, ◌+◌, Bool, true, false, not, ◌&&◌, if◌then◌else◌, List, [], ◌∷◌, map, length, Option, Some, None}
use Rattle.ix_text.specs.declared.span.Span.{Span}
use Rattle.ix_core.specs.declared.program.Program.{Program}
use Rattle.ix_core.specs.Tables as core
use Rattle.ix_core.specs.Tables.{method_at, default_result}
use Rattle.ix_tree.specs.declared.decl.LocalDecl.{LocalDecl}
use Rattle.ix_tree.specs.declared.decl.Member.{Member}
use Rattle.ix_tree.specs.declared.decl.Member.TheVariants as member
use Rattle.ix_tree.specs.declared.decl.MethodDecl.{MethodDecl}
use Rattle.ix_tree.specs.declared.expr.Expr.{Expr}
use Rattle.ix_meaning.specs.declared.note.Meaning.{Meaning}
use Rattle.ix_meaning.specs.declared.note.Meaning.TheVariants as meaning
use Rattle.ix_plain.specs.declared.body.Body.{Body}
use Rattle.ix_plain.specs.Assigned.{all_assign}
use Rattle.ix_plain.specs.Members.{next_field, is_static, slot_behind}
use Rattle.ix_plain.specs.Program.{Tables, Home, site, start, super_call, member_initialised, written_start, args_or_none, written_head, default_head, first_param}
use Rattle.ix_plain.specs.Scope.{Site}
use Rattle.ix_plain.specs.Statements.{assigned_by}
use Rattle.ix_source.specs.Running.{Ground, owner, standing}
use Rattle.ix_source.specs.Sound.{soundness, all_used}
use Rattle.ix_source.specs.SoundStatements.{where_made, init_if, statement_soundness, each_sound}

-- ---- what a constructor begins with

-- the arguments for the parent's constructor, which are one full expression
abbrev pub super_sound : Option ℕ → List Expr → Ground → Body → Bool
super_sound None args g body = true
super_sound (Some parent) args g body = all_used (map soundness args) (standing g body (assigned_by g.site body (all_assign args)))

abbrev pub field_sound : LocalDecl → Ground → Body → Bool
field_sound decl g body = if decl.mods.is_static then true else init_if decl.init g body

-- the initialisers of fields, where the first field has that number
abbrev pub fields_sound : ℕ → List Member → Ground → Body → Bool
fields_sound field [] g body = true
fields_sound field (member.Field decl ∷ members) g body = field_sound decl g body && where_made (member_initialised g.site field decl body) (fields_sound (next_field field decl) members g)
fields_sound field (member.Method decl ∷ members) g body = fields_sound field members g body

abbrev pub start_sound : Home → List Expr → Span → Ground → Body → Bool
start_sound home args span g body = super_sound home.parent args g body && where_made (super_call g.site home.parent args span body) (fields_sound home.field home.members g)

-- ---- whole bodies

abbrev pub begins_sound : Home → MethodDecl → Ground → Body → Bool
begins_sound home decl g body = if decl.constructor then start_sound home (args_or_none decl.parent_args) decl.name.span g body else true

-- a written method or constructor, from its entry on
abbrev pub written_sound : Tables → Home → MethodDecl → Ground → Bool
written_sound tables home decl g =
    begins_sound home decl g (start (slot_behind (first_param (is_static decl)) decl.params))
    && where_made (written_start g.site home decl (start (slot_behind (first_param (is_static decl)) decl.params))) (each_sound (map statement_soundness decl.body) g decl.span.to)

-- the constructor of a class that has none written
abbrev pub default_sound : Home → Span → Ground → Bool
default_sound home span g = start_sound home [] span g (start 1)

-- ---- of an accepted source

-- The routines give back what the methods do, and are constructors where they are.
abbrev pub HasResults : Program → core.Tables → Type 0
HasResults p tables = (number : ℕ) → ((tables.routines number).default ≡ default_result (method_at p number).result) × ((tables.routines number).constructor ≡ (method_at p number).constructor)

-- The run sees that body: its routines give back what the methods of the program do, and where the method has a `this` it is there.
pub record Sees (p : Program) (own : Site) (has_this : Bool) (g : Ground) : Type 0 where
  pub site : g.site ≡ own
  pub results : HasResults p g.tables
  pub this : has_this ≡ true → g.has_this ≡ true

-- At the entry each slot that a variable has is a parameter's and each parameter has its own, behind that of `this`; the first free one is behind them.
pub record IsEntry (own : Site) (is_static : Bool) (params free : ℕ) : Type 0 where
  pub param : (slot : ℕ) (m : Meaning) → owner own [] slot ≡ Some m → (k : ℕ) × (k < params) × (m ≡ meaning.Param k) × (slot ≡ first_param is_static + k)
  pub owned : (k : ℕ) → k < params → owner own [] (first_param is_static + k) ≡ Some (meaning.Param k)
  pub behind : free ≡ first_param is_static + params

-- However a run sees it, its body is sound.
pub record IsSoundMethod (p : Program) (tables : Tables) (home : Home) (decl : MethodDecl) : Type 0 where
  pub sound : (g : Ground) → Sees p (site tables home (written_head tables home decl)) (not (is_static decl)) g → written_sound tables home decl g ≡ true
  pub entry : IsEntry (site tables home (written_head tables home decl)) (is_static decl) (length decl.params) (slot_behind (first_param (is_static decl)) decl.params)

pub record IsSoundDefault (p : Program) (tables : Tables) (home : Home) (span : Span) : Type 0 where
  pub sound : (g : Ground) → Sees p (site tables home (default_head home span)) true g → default_sound home span g ≡ true
  pub entry : IsEntry (site tables home (default_head home span)) false 0 1
