use Rattle.std.proofs.Common.{◌≡◌, ℕ, List, None, drop}
use Rattle.std.specs.HashMap.{get_by_text}
use Rattle.ix_meaning.specs.Source as spec
use Rattle.ix_names.proofs.classes.noted_members.Given as goal

abbrev pub invariant-loop-i : goal.invariant-loop-i
invariant-loop-i l = (n : List ℕ) → spec.first_member n (get_by_text l.table n) l.i (drop l.i l.members) ≡ spec.first_member n None 0 l.members
