use Rattle.std.proofs.Common.{◌≡◌, ◌++◌, length, string_bytes}
use Rattle.std.specs.Str.{encode_utf8_all}
use Rattle.ix_annot.proofs.characters.text_of.Given as goal

abbrev pub invariant-loop-characters : goal.invariant-loop-characters
invariant-loop-characters l = string_bytes l.bytes ++ encode_utf8_all l.characters ≡ encode_utf8_all l.initial.characters

abbrev pub decreases-loop-characters : goal.decreases-loop-characters
decreases-loop-characters l = length l.characters
