-- Parts of the rules on overriding, with names for the code.
use Rattle.std.specs.Prelude.{ℕ, Bool, not, ◌&&◌, Option, List, bytes_eq}
use Rattle.std.specs.List.{list_any}
use Rattle.ix_meaning.specs.declared.members.Signature.{Signature}
use Rattle.ix_meaning.specs.Classes.{is_among}
use Rattle.ix_meaning.specs.Members.{World, Callee}
use Rattle.ix_meaning.specs.Inheritance.{clashes_with, if_instance}

abbrev pub clashes_there : Signature → List ℕ → Signature → Bool
clashes_there m classes other = clashes_with m other && (not other.constructor && (bytes_eq other.name m.name && is_among other.class classes))

abbrev pub some_clashes : List Signature → Signature → List ℕ → Bool
some_clashes all m classes = list_any (clashes_there m classes) all

abbrev pub instances_named : World → List ℕ → ℕ → Option Callee
instances_named w name class = if_instance (w.method class name)
