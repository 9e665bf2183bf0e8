-- A member that declares little: itself, parameters and locals together.
use Rattle.std.specs.Prelude.{◌≤◌}
use Rattle.std.specs.List.{All}
use Rattle.ix_tree.specs.declared.decl.ClassDecl.{ClassDecl}
use Rattle.ix_tree.specs.declared.decl.Member.{Member}
use Rattle.ix_tree.specs.Parts.{declarations, member_parts, most_entries}

abbrev pub DeclaresFew : Member → Type 0
DeclaresFew m = declarations (member_parts m) ≤ most_entries

abbrev pub DeclaresFewInClass : ClassDecl → Type 0
DeclaresFewInClass k = All DeclaresFew k.members
