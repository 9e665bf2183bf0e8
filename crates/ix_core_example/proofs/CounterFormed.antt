-- The program is formed.
use Rattle.std.proofs.Common.{[], ◌∷◌, refl}
use Rattle.ix_core.specs.declared.code.Cond.TheBlock.{hidden-the_row-Item-0, hidden-the_row-Cond-1}
use Rattle.ix_core.proofs.Programs.{object}
use Rattle.ix_core.specs.Formed.{Formed}
use Rattle.ix_core_example.specs.Counter.{counter}

pub counter_formed : Formed counter
unfolding hidden-the_row-Item-0 hidden-the_row-Cond-1 denote.Hole.Carrier.hidden
counter_formed = (([] ∷ [] ∷ (object 2 ∷ []) ∷ [] ∷ [] ∷ [] ∷ []), refl)
