use Rattle.std.proofs.Common.{◌≡◌, ◌++◌, drop, map}
use Rattle.ix_class_members.specs.Parts.{chosen}
use Rattle.ix_class_members.proofs.part.gathered.Given as goal

abbrev pub invariant-loop-annot : goal.invariant-loop-annot
invariant-loop-annot l = map (λ annot. annot.now) l.list ++ chosen l.part (drop l.annot-index l.annots) ≡ chosen l.part l.annots
