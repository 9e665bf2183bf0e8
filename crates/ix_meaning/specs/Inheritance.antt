-- Hiding and overriding (JLS 8.3, 8.4.8).
use Rattle.std.specs.Prelude.{ℕ, Bool, true, false, not, ◌&&◌, ◌||◌, if◌then◌else◌, Option, Some, None, is_some, List, [], ◌∷◌}
use Rattle.std.specs.List.{list_any}
use Rattle.ix_core.specs.declared.claim.Type_.{Type_ as Ty}
use Rattle.ix_meaning.specs.declared.members.Field.{Field}
use Rattle.ix_meaning.specs.declared.members.Signature.{Signature}
use Rattle.ix_meaning.specs.Types.{same_type}
use Rattle.ix_meaning.specs.Members.{World, Callee, is_method_named, nearest}

-- duplicate.name: a field hides an inherited field.
abbrev pub hides : World → Field → Bool
hides w f = is_some (nearest (λ a. w.field a f.name) (w.supers f.class))

-- duplicate.name: a static method and an inherited method share a name, or a method has the name of a private method of a superclass.
abbrev pub clashes_with : Signature → Signature → Bool
clashes_with m other = m.is_static || (other.is_static || other.is_private)

abbrev pub clashes_in : List Signature → Signature → ℕ → Bool
clashes_in all m a = list_any (λ other. is_method_named a m.name other && clashes_with m other) all

abbrev pub clashes : World → List Signature → Signature → Bool
clashes w all m = not m.constructor && list_any (clashes_in all m) (w.supers m.class)

-- An instance method overrides the instance method of its name in the nearest superclass that declares one.
abbrev pub if_instance : Option Callee → Option Callee
if_instance None = None
if_instance (Some m) = if m.signature.is_static then None else Some m

abbrev pub overridden : World → Signature → Option Callee
overridden w m = if m.constructor || m.is_static then None else nearest (λ a. if_instance (w.method a m.name)) (w.supers m.class)

-- parts without a type aren't compared
abbrev pub differ : Option Ty → Option Ty → Bool
differ (Some t) (Some u) = not (same_type t u)
differ _ _ = false

abbrev pub some_differ : List (Option Ty) → List (Option Ty) → Bool
some_differ (t ∷ ts) (u ∷ us) = differ t u || some_differ ts us
some_differ [] [] = false
some_differ _ _ = true

-- type.mismatch: an overriding method has other parameter types or another result type.
abbrev pub differs_from : Signature → Option Callee → Bool
differs_from m None = false
differs_from m (Some other) = some_differ m.params other.signature.params || differ m.result other.signature.result
