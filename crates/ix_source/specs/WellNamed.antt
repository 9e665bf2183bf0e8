-- What is so of an expression without errors on names: it is sound. This is the statement of the induction over expressions (`proofs/ExpressionsSound`), in the settings of
-- `ix_formed`, each seen by a run.
use Rattle.std.specs.Prelude.{◌≡◌, ◌<◌, ℕ, Bool, true, List, length, Option, Some}
use Rattle.ix_core.specs.declared.claim.Type_.{Type_}
use Rattle.ix_core.specs.Heap.{Held}
use Rattle.ix_core.specs.Tables.{Tables}
use Rattle.ix_meaning.specs.declared.note.Meaning.{Meaning}
use Rattle.ix_meaning.specs.Members.{World, Callee, method_named}
use Rattle.ix_meaning.specs.Scope.{Known as Variable}
use Rattle.ix_meaning.specs.Values as values
use Rattle.ix_meaning.specs.Values.{Reading}
use Rattle.ix_plain.specs.Scope.{Site, Scope, slot_of}
use Rattle.ix_formed.specs.Additions.{AllOf}
use Rattle.ix_formed.specs.Typed as typed
use Rattle.ix_formed.specs.Typed.{Told}
use Rattle.ix_source.specs.Along.{Setting}
use Rattle.ix_source.specs.Sound.{Soundness}
use Rattle.ix_source.specs.SoundBodies.{HasResults}

-- Each variable in scope owns its slot.
abbrev pub Owned : (ℕ → Option Meaning) → Scope → List Variable → Type 0
Owned owner scope names = AllOf (λ (v : Variable). owner (slot_of scope (Some v.meaning)) ≡ Some v.meaning) names

-- A method that a name means is a written one, and a class one of the source.
pub record HasNumbers (w : World) (site : Site) : Type 0 where
  pub methods : (class : ℕ) (name : List ℕ) (m : Callee) → method_named w class name ≡ Some m → m.number < length site.heads
  pub classes : (name : List ℕ) (class : ℕ) → w.class name ≡ Some class → class < length site.constructors

-- ---- a full expression, as a run sees it

pub record View : Type 0 where
  pub tables : Tables
  pub owner : ℕ → Option Meaning
  pub has_this : Bool
  pub this : Held
  pub depth : ℕ

abbrev pub viewed : typed.Setting → View → Setting
viewed y v = record { tables = v.tables; scope = y.scope; base = y.base; owner = v.owner; has_this = v.has_this; this = v.this; depth = v.depth }

pub record IsSeen (y : typed.Setting) (v : View) : Type 0 where
  pub owned : Owned v.owner y.scope y.names.names
  pub object : y.names.has_object ≡ true → v.has_this ≡ true
  pub numbers : HasNumbers y.names.world y.scope.site
  pub results : HasResults y.program v.tables

module _ (y : typed.Setting) (v : View) where
  -- An expression without errors on names is sound, as each place wants it.
  pub record IsSound (s : Soundness) (r : Reading) : Type 0 where
    pub span : s.span ≡ r.span
    pub value : Told y (r.judge y.names).notes → s.value (viewed y v) ≡ true
    pub null : r.is_null ≡ true → s.value (viewed y v) ≡ true
    pub unused : Told y (r.receiver y.names).notes → s.unused (viewed y v) ≡ true
    -- before a dot, where it is a value
    pub object : (ty : Type_) → Told y (r.receiver y.names).notes → (r.receiver y.names).object ≡ values.value ty → s.value (viewed y v) ≡ true

  -- where it may be assigned
  abbrev pub IsSoundTarget : Soundness → Reading → Type 0
  IsSoundTarget s r = Told y (r.assigned y.names).notes → s.target (viewed y v) ≡ true

  -- what fills a variable of a type
  abbrev pub IsSoundFilling : (Setting → Bool) → values.Filling → Type 0
  IsSoundFilling s said = (ty : Type_) → Rattle.ix_core.specs.Types.is_type y.program ty ≡ true → Told y (said y.names (Rattle.std.specs.Prelude.Some ty)) → s (viewed y v) ≡ true
