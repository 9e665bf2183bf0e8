-- What the code's kinds of commands stand for.
use Rattle.std.specs.Prelude.{List, Option}
use Rattle.ix_words.specs.Words.{Text, Options, Parsed}
use Rattle.ix_words.specs.Commands.{Command, check_options, check_of, run_options, run_of, bench_options, bench_of, verify_options, verify_of, guard_options, guard_of}
use Rattle.ix_words.specs.declared.commands.Kind.{Kind}
use Rattle.ix_words.specs.declared.commands.Kind.TheVariants as code

abbrev pub options_in : Kind → Options
options_in code.Check = check_options
options_in code.Run = run_options
options_in code.Bench = bench_options
options_in code.Verify = verify_options
options_in code.Guard = guard_options

-- the command of the kind, of what the words behind its name say
abbrev pub made_in : Kind → Parsed → List Text → Option Command
made_in code.Check = check_of
made_in code.Run = run_of
made_in code.Bench = bench_of
made_in code.Verify = verify_of
made_in code.Guard = guard_of
