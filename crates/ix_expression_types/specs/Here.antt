-- The scope of the code as that of the definitions.
use Rattle.std.specs.Prelude.{◌≡◌, ℕ, Option, Some, None, List, ◌++◌, map, string_bytes, String}
use Rattle.std.specs.declared.alloc.Global.{Global}
use Rattle.std.specs.Borrow.{Bor}
use Rattle.ix_meaning.specs.declared.note.Meaning.TheVariants as meaning
use Rattle.ix_expression_types.specs.declared.scope.Param.{Param}
use Rattle.ix_expression_types.specs.declared.scope.Local.{Local}
use Rattle.ix_expression_types.specs.declared.scope.Known.{Known as KnownHere}
use Rattle.ix_expression_types.specs.declared.scope.Scopes.{Scopes}
use Rattle.ix_class_members.specs.declared.world.World.{World as Tables}
use Rattle.ix_symbols.specs.declared.types.Need.{Need as NeedHere}
use Rattle.ix_symbols.specs.Needs as needs
use Rattle.ix_class_members.specs.World as tables
use Rattle.ix_meaning.specs.Types.{Need}
use Rattle.ix_core.specs.declared.claim.Type_.{Type_ as Ty}
use Rattle.ix_annot.specs.declared.scope.Found.{Found}
use Rattle.ix_annot.specs.declared.scope.Holds.{Holds}
use Rattle.ix_annot.specs.Named.{what_holds, or_else}
use Rattle.ix_meaning.specs.Scope.{Known, Scope, meant, type_or_void, known_found, field_of_this}

-- what was found for a name
abbrev pub known_as : List ℕ → KnownHere → Known
known_as name k = record { name = name; meaning = k.meaning; ty = k.ty.now; is_fixed = k.is_fixed }

abbrev pub param_known : Param → Known
param_known p = record { name = p.name.now; meaning = meaning.Param p.number; ty = p.ty; is_fixed = p.is_final }

abbrev pub local_known_as : List ℕ → Local → Known
local_known_as name l = record { name = name; meaning = meaning.Local l.number; ty = l.ty; is_fixed = l.is_fixed }

abbrev pub local_known : String Global × Local → Known
local_known e = local_known_as (string_bytes e.0) e.1

-- the parameters and then the locals
abbrev pub names : Scopes → List Known
names s = map param_known s.params ++ map local_known s.locals.entries

abbrev pub text_in : Option (Bor (List ℕ)) → Option (List ℕ)
text_in None = None
text_in (Some t) = Some t.now

abbrev pub need_in : Option NeedHere → Option Need
need_in None = None
need_in (Some n) = Some (needs.shown n)

abbrev pub here : Tables → Scopes → Scope
here w s = record {
  world = tables.shown w;
  class = s.class;
  has_object = s.has_object;
  in_constructor = s.in_constructor;
  in_loop = s.in_loop;
  result = need_in s.result;
  pending = text_in s.pending;
  names = names s;
  next = s.next;
  names_fields = s.names_fields;
}

-- The parameters stay, the same scopes are open, and the locals known before are the first of those known after.
pub record Extends (old new : Scopes) : Type 0 where
  pub params : new.params ≡ old.params
  pub more : List (String Global × Local)
  pub locals : new.locals.entries ≡ old.locals.entries ++ more
  pub marks : new.marks.items ≡ old.marks.items

-- ---- what an annotation may name

abbrev pub holds : Option Ty → Holds
holds ty = what_holds (type_or_void ty)

abbrev pub variable_found : Scope → List ℕ → Option Found
variable_found s name = or_else (known_found (meant name s.names)) (field_of_this s name)
