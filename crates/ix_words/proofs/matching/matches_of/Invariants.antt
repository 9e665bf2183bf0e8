use Rattle.std.proofs.Common.{◌≡◌, take, map}
use Rattle.clap.specs.Words.{app_of}
use Rattle.ix_words.specs.Clap.{option_named}
use Rattle.ix_words.proofs.Apps.{app_for}
use Rattle.ix_words.proofs.matching.matches_of.Given as goal

abbrev pub invariant-loop-name : goal.invariant-loop-name
invariant-loop-name l = app_of l.command ≡ app_for (map option_named (take l.name-index l.options))
