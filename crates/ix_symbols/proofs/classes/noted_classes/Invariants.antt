use Rattle.std.proofs.Common.{◌≡◌, ℕ, List, None, drop}
use Rattle.std.specs.HashMap.{get_by_text}
use Rattle.ix_meaning.specs.Classes as spec
use Rattle.ix_symbols.proofs.classes.noted_classes.Given as goal

abbrev pub invariant-loop-i : goal.invariant-loop-i
invariant-loop-i l = (n : List ℕ) → spec.first_class n (get_by_text l.table n) l.i (drop l.i l.classes) ≡ spec.first_class n None 0 l.classes
