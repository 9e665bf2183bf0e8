-- A local is added by its name, behind all others.
use Rattle.std.specs.Prelude.{◌≡◌, ℕ, List, [], ◌∷◌, ◌++◌, string_bytes, String}
use Rattle.std.specs.declared.alloc.Global.{Global}
use Rattle.ix_expression_types.specs.declared.scope.Local.{Local}

pub record AddsLast (old new : List (String Global × Local)) (name : List ℕ) (local : Local) : Type 0 where
  pub key : String Global
  pub named : string_bytes key ≡ name
  pub last : new ≡ old ++ (key, local) ∷ []
