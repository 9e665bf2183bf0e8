use Rattle.std.proofs.Common.{◌≡◌, nat_eq, length, map}
use Rattle.std.specs.List.{list_any}
use Rattle.std.specs.Cmp.Lexicographic.{pointwise}
use Rattle.ix_annot.proofs.words.is_among.Given as goal

abbrev pub invariant-loop-words : goal.invariant-loop-words
invariant-loop-words l =
    list_any (λ word. pointwise nat_eq word l.text) (map (λ word. word.now) l.words) ≡ list_any (λ word. pointwise nat_eq word l.text) (map (λ word. word.now) l.initial.words)

abbrev pub decreases-loop-words : goal.decreases-loop-words
decreases-loop-words l = length l.words
