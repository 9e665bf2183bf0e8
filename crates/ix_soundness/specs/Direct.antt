-- The world of a program in which each call runs the method that it names. A call that runs an overriding method is there a call of that method.
use Rattle.ix_core.specs.declared.program.Program.{Program}
use Rattle.ix_core.specs.World.{World, world_of}

abbrev pub direct : Program → World
direct program = record (world_of program) { found = λ class named. named }
