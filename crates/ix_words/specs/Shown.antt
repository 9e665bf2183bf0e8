-- A command of the code as the command that it stands for.
use Rattle.std.specs.Prelude.{List, map, String, string_bytes}
use Rattle.std.specs.declared.alloc.Global.{Global}
use Rattle.ix_words.specs.Words.{Text}
use Rattle.ix_words.specs.Commands as spec
use Rattle.ix_words.specs.declared.commands.Command.{Command}
use Rattle.ix_words.specs.declared.commands.Command.TheVariants as code

-- the words as bytes
abbrev pub words_of : List (String Global) → List Text
words_of words = map string_bytes words

abbrev pub shown : Command → spec.Command
shown (code.Check sums certificate library file) = spec.Check sums certificate library file.now
shown (code.Run limits traced library file entry inputs) = spec.Run limits traced library file.now entry.now (map (λ s. s.now) inputs.items)
shown (code.Bench count) = spec.Bench count
shown (code.Verify library file cert) = spec.Verify library file.now cert.now
shown (code.Guard sums file) = spec.Guard sums file.now
