use Rattle.std.proofs.Common.{◌≡◌, ◌++◌, reverse, length}
use Rattle.std.specs.Prelude.{flat_map}
use Rattle.ix_core.specs.Tables.{all_fields, class_at}
use Rattle.ix_core.proofs.classes.instance_fields.Given as goal

abbrev pub invariant-loop-number : goal.invariant-loop-number
invariant-loop-number l = l.fields.items ++ flat_map (λ above. (class_at l.program above).fields) (reverse l.classes.items) ≡ all_fields l.program l.class

abbrev pub decreases-loop-number : goal.decreases-loop-number
decreases-loop-number l = length l.classes.items
