-- What every tree has that `parse` answers, and what the promise on its program rests on.
use Rattle.std.specs.Prelude.{◌≡◌, ℕ, true}
use Rattle.ix_tree.specs.declared.decl.Unit.{Unit as Source}
use Rattle.ix_tree.specs.Parts.{CanResolve}
use Rattle.ix_tree.specs.Placed.{Placed}
use Rattle.ix_formed.specs.Readable.{is_readable}
use Rattle.ix_formed.specs.Written.{is_written}

pub record IsParsed (unit : Source) : Type 0 where
  -- names can be looked up in it by their places
  pub can : CanResolve unit
  -- its nodes stand in a text, each within the node that it is a part of
  pub placed : (end : ℕ) × Placed end unit
  -- its forms are those that the grammar writes
  pub written : is_written unit.classes ≡ true
  pub readable : is_readable unit.classes ≡ true
