-- The place of a member, as the code has it: the members of all classes, and the class with its number.
use Rattle.std.specs.Prelude.{ℕ}
use Rattle.ix_tree.specs.declared.decl.ClassDecl.{ClassDecl}
use Rattle.ix_class_members.specs.declared.world.World.{World as Tables}
use Rattle.ix_class_members.specs.World.{shown}
use Rattle.ix_meaning.specs.Source.{Place, place}

abbrev pub at : Tables → ℕ → ClassDecl → Place
at w number class = place (shown w) w.methods number class
