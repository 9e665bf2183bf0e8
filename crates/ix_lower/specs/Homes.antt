-- What a method of the code stands in, as the definition has it.
use Rattle.std.specs.Prelude.{[], List, Result, Ok}
use Rattle.ix_core.specs.declared.program.Program.{Program}
use Rattle.ix_tree.specs.declared.decl.ClassDecl.{ClassDecl}
use Rattle.ix_meaning.specs.Limits.{Passed}
use Rattle.ix_plain.specs.Counts.{accesses}
use Rattle.ix_plain.specs.Members.{classes_from, fields_from, first_numbers}
use Rattle.ix_plain.specs.Parts.{◌>>=◌}
use Rattle.ix_symbols.specs.Numbered.{shown}
use Rattle.ix_class_members.specs.World.{shown as shown_world}
use Rattle.ix_plain.specs.Program as spec
use Rattle.ix_lower.specs.declared.home.Tables.{Tables}
use Rattle.ix_lower.specs.declared.home.Home.{Home}

abbrev pub shown_tables : Tables → spec.Tables
shown_tables tables = record {
  names = shown tables.table.now;
  heads = tables.heads.now;
  constructors = tables.constructors.now;
  world = shown_world tables.world.now;
}

abbrev pub shown_home : Home → spec.Home
shown_home home = record { class = home.class; name = home.name.now; parent = home.parent; members = home.members.now; field = home.field }

-- The program of classes, by what all methods stand in.
abbrev pub program_in : spec.Tables → List ClassDecl → Result Program Passed
program_in tables decls = spec.all_methods tables (first_numbers decls) decls >>= (λ methods. Ok record {
  classes = classes_from [] (first_numbers decls) tables.world.parent decls;
  methods = methods;
  fields = fields_from tables.names [] 0 decls;
  accesses = accesses decls 0;
})
