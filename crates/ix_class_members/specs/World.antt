-- The tables of the code as the world of the definitions.
use Rattle.std.specs.Prelude.{◌≡◌, ℕ, ◌+◌, Option, Some, None, List, [], ◌∷◌, slice_get}
use Rattle.std.specs.HashMap.{get_by_text}
use Rattle.ix_tree.specs.declared.decl.ClassDecl.{ClassDecl}
use Rattle.ix_meaning.specs.declared.members.Field.{Field}
use Rattle.ix_meaning.specs.declared.members.Signature.{Signature}
use Rattle.ix_class_members.specs.declared.world.ClassWorld.{ClassWorld}
use Rattle.ix_class_members.specs.declared.world.World.{World as Tables}
use Rattle.ix_class_members.specs.declared.world.Called.{Called}
use Rattle.ix_meaning.specs.Classes.{parents, parent, supers}
use Rattle.ix_meaning.specs.Members.{World, Callee, world, fields, methods, is_method_named, is_constructor_named, class_name}
use Rattle.ix_class_members.specs.First.{first_where, is_field_named}

abbrev pub parent_in : Option ClassWorld → Option ℕ
parent_in None = None
parent_in (Some c) = c.parent

abbrev pub supers_in : Option ClassWorld → List ℕ
supers_in None = []
supers_in (Some c) = c.supers

abbrev pub number_in : Option ℕ → List Field → Option Field
number_in None fs = None
number_in (Some k) fs = slice_get fs k

abbrev pub field_in : Option ClassWorld → List ℕ → List Field → Option Field
field_in None name fs = None
field_in (Some c) name fs = number_in (get_by_text c.fields name) fs

abbrev pub numbered : ℕ → Option Signature → Option Callee
numbered k None = None
numbered k (Some m) = Some (record { number = k; signature = m })

abbrev pub callable_at : Option ℕ → List Signature → Option Callee
callable_at None ms = None
callable_at (Some k) ms = numbered k (slice_get ms k)

abbrev pub method_in : Option ClassWorld → List ℕ → List Signature → Option Callee
method_in None name ms = None
method_in (Some c) name ms = callable_at (get_by_text c.methods name) ms

abbrev pub constructor_in : Option ClassWorld → List Signature → Option Callee
constructor_in None ms = None
constructor_in (Some c) ms = callable_at c.constructor ms

abbrev pub shown : Tables → World
shown w = record {
  class = get_by_text w.table;
  parent = λ c. parent_in (slice_get w.classes c);
  supers = λ c. supers_in (slice_get w.classes c);
  field = λ c name. field_in (slice_get w.classes c) name w.fields;
  method = λ c name. method_in (slice_get w.classes c) name w.methods;
  constructor = λ c. constructor_in (slice_get w.classes c) w.methods;
}

abbrev pub callee : Called → Callee
callee c = record { number = c.number; signature = c.signature.now }

abbrev pub signature_in : Option Callee → Option Signature
signature_in None = None
signature_in (Some m) = Some m.signature

-- ---- that the tables are those of a source

pub record IsWorld (all : List ClassDecl) (w : Tables) (ps : List (Option ℕ)) : Type 0 where
  pub world : shown w ≡ world all
  pub fields : w.fields ≡ fields all
  pub methods : w.methods ≡ methods all
  pub parents : ps ≡ parents all

-- What the tables hold of one class.
pub record IsClass (ps : List (Option ℕ)) (fs : List Field) (ms : List Signature) (all : List ClassDecl) (c : ℕ) (w : ClassWorld) : Type 0 where
  pub parent : w.parent ≡ parent ps c
  pub supers : w.supers ≡ supers ps c
  pub fields : (name : List ℕ) → get_by_text w.fields name ≡ first_where (is_field_named c name) None 0 fs
  pub methods : (name : List ℕ) → get_by_text w.methods name ≡ first_where (is_method_named c name) None 0 ms
  pub constructor : w.constructor ≡ first_where (is_constructor_named c (class_name (slice_get all c))) None 0 ms

-- Of the classes from a number on.
abbrev pub AreClasses : List (Option ℕ) → List Field → List Signature → List ClassDecl → ℕ → List ClassWorld → Type 0
AreClasses ps fs ms all c [] = Unit {0}
AreClasses ps fs ms all c (w ∷ ws) = IsClass ps fs ms all c w × AreClasses ps fs ms all (c + 1) ws
