use Rattle.std.proofs.Common.{◌≡◌, nat_eq, length}
use Rattle.std.specs.Cmp.Lexicographic.{pointwise}
use Rattle.ix_annot.proofs.words.is_text.Given as goal

abbrev pub invariant-loop-fixed : goal.invariant-loop-fixed
invariant-loop-fixed l = pointwise nat_eq l.fixed l.text ≡ pointwise nat_eq l.initial.fixed l.initial.text

abbrev pub decreases-loop-fixed : goal.decreases-loop-fixed
decreases-loop-fixed l = length l.fixed
