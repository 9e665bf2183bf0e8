-- Programs of the rows are formed.
use Rattle.std.proofs.Common.{[], ◌∷◌, refl}
use Rattle.ix_core.specs.declared.claim.Base.TheVariants as base
use Rattle.ix_core.specs.declared.claim.Type_.TheVariants as type
use Rattle.ix_core.specs.declared.code.Cond.TheBlock.{hidden-the_row-Item-0, hidden-the_row-Cond-1}
use Rattle.ix_core.proofs.Programs.{int, object, int_array}
use Rattle.ix_core.specs.Formed.{Formed}
use Rattle.ix_core.proofs.ConditionRows.{conditions, tests, loops}
use Rattle.ix_core.proofs.OperationRows.{arithmetic, arrays}
use Rattle.ix_core.proofs.CallRows.{calling, limited}
use Rattle.ix_core.proofs.ObjectRows.{classes, constructors}

conditions_formed : Formed conditions
unfolding hidden-the_row-Item-0 hidden-the_row-Cond-1 denote.Hole.Carrier.hidden
conditions_formed = (([] ∷ [] ∷ [] ∷ [] ∷ [] ∷ [] ∷ []), refl)

tests_formed : Formed tests
unfolding hidden-the_row-Item-0 hidden-the_row-Cond-1 denote.Hole.Carrier.hidden
tests_formed = (((int ∷ []) ∷ (int ∷ []) ∷ (int_array ∷ int ∷ []) ∷ [] ∷ []), refl)

loops_formed : Formed loops
unfolding hidden-the_row-Item-0 hidden-the_row-Cond-1 denote.Hole.Carrier.hidden
loops_formed = (((int ∷ int ∷ []) ∷ (int ∷ []) ∷ (int ∷ int ∷ int ∷ []) ∷ [] ∷ []), refl)

arithmetic_formed : Formed arithmetic
unfolding hidden-the_row-Item-0 hidden-the_row-Cond-1 denote.Hole.Carrier.hidden
arithmetic_formed = (([] ∷ [] ∷ (int ∷ []) ∷ [] ∷ [] ∷ [] ∷ [] ∷ []), refl)

arrays_formed : Formed arrays
unfolding hidden-the_row-Item-0 hidden-the_row-Cond-1 denote.Hole.Carrier.hidden
arrays_formed = (([] ∷ [] ∷ (int ∷ []) ∷ [] ∷ (int_array ∷ type.Array base.Bool 1 [] ∷ type.Array base.Int 2 [] ∷ []) ∷ (int_array ∷ []) ∷ (int_array ∷ []) ∷ (int_array ∷ []) ∷ (int_array ∷ []) ∷ [] ∷ []), refl)

calling_formed : Formed calling
unfolding hidden-the_row-Item-0 hidden-the_row-Cond-1 denote.Hole.Carrier.hidden
calling_formed = (([] ∷ [] ∷ [] ∷ [] ∷ [] ∷ [] ∷ [] ∷ [] ∷ [] ∷ []), refl)

limited_formed : Formed limited
unfolding hidden-the_row-Item-0 hidden-the_row-Cond-1 denote.Hole.Carrier.hidden
limited_formed = (([] ∷ (int_array ∷ []) ∷ (int_array ∷ []) ∷ (object 0 ∷ []) ∷ (object 0 ∷ object 0 ∷ []) ∷ [] ∷ []), refl)

classes_formed : Formed classes
unfolding hidden-the_row-Item-0 hidden-the_row-Cond-1 denote.Hole.Carrier.hidden
classes_formed = (([] ∷ [] ∷ [] ∷ [] ∷ [] ∷ (object 0 ∷ []) ∷ (object 0 ∷ []) ∷ (object 0 ∷ []) ∷ (object 0 ∷ []) ∷ (object 0 ∷ []) ∷ (object 1 ∷ object 3 ∷ []) ∷ (object 0 ∷ []) ∷ (object 0 ∷ []) ∷ (object 0 ∷ []) ∷ [] ∷ [] ∷ [] ∷ [] ∷ [] ∷ [] ∷ [] ∷ []), refl)

constructors_formed : Formed constructors
unfolding hidden-the_row-Item-0 hidden-the_row-Cond-1 denote.Hole.Carrier.hidden
constructors_formed = (([] ∷ [] ∷ (object 1 ∷ []) ∷ [] ∷ [] ∷ []), refl)
