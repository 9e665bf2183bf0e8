use Rattle.std.proofs.Common.{◌≡◌, ◌++◌, drop}
use Rattle.ix_parse_base.proofs.copies.copy_annots.Given as goal

abbrev pub invariant-loop-annot : goal.invariant-loop-annot
invariant-loop-annot l = l.copy ++ drop l.annot-index l.annots ≡ l.annots
