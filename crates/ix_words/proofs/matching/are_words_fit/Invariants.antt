use Rattle.std.proofs.Common.{◌≡◌, drop, map}
use Rattle.std.specs.Prelude.{string_bytes}
use Rattle.ix_words.specs.Words.{are_fit}
use Rattle.ix_words.proofs.matching.are_words_fit.Given as goal

abbrev pub invariant-loop-word : goal.invariant-loop-word
invariant-loop-word l = are_fit (map string_bytes (drop l.word-index l.words)) ≡ are_fit (map string_bytes l.words)
