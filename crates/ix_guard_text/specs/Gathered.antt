-- Trees, scopes and notes without places are those whose places are all moved to one.
use Rattle.ix_meaning.specs.declared.members.Field.{Field}
use Rattle.ix_meaning.specs.declared.members.Signature.{Signature}
use Rattle.ix_meaning.specs.Members.{World}
use Rattle.ix_meaning.specs.Scope.{Scope}
use Rattle.ix_meaning.specs.Source.{Place}
use Rattle.ix_guard_text.specs.Moved.{Move}
use Rattle.ix_guard_text.specs.MovedScopes.{moved_field, moved_signature, moved_world, moved_scope, moved_place}

-- All begins and ends at the first place, as in a tree without places.
abbrev pub gathered : Move
gathered = record { from = λ place. 0; to = λ place. 0 }

abbrev pub bare_field : Field → Field
bare_field = moved_field gathered

abbrev pub bare_signature : Signature → Signature
bare_signature = moved_signature gathered

abbrev pub bare_world : World → World
bare_world = moved_world gathered

abbrev pub bare_scope : Scope → Scope
bare_scope = moved_scope gathered

abbrev pub bare_place : Place → Place
bare_place = moved_place gathered
