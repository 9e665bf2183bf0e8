-- From one scope and its notes to others, as a statement tells; `here` is what the names in scope mean.
use Rattle.std.specs.Prelude.{◌≡◌, ◌++◌, List}
use Rattle.ix_meaning.specs.declared.note.Note.{Note}
use Rattle.ix_meaning.specs.Scope.{Scope}
use Rattle.ix_meaning.specs.Bodies.{Telling, after}
use Rattle.ix_expression_types.specs.declared.scope.Scopes.{Scopes}
use Rattle.ix_expression_types.specs.Here.{Extends}

pub record Told (here : Scopes → Scope) (t : Telling) (s u : Scopes) (n m : List Note) : Type 0 where
  pub notes : m ≡ n ++ t.notes (here s)
  pub scope : here u ≡ after t (here s)
  pub keeps : Extends s u
