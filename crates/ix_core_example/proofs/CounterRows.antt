-- What runs of the program do: within the array, and past its end.
use Rattle.std.proofs.Common.{pos, false, [], ◌∷◌, refl}
use Rattle.std.specs.Int.{int_wrap}
use Rattle.ix_core.specs.declared.code.Cond.TheBlock.{hidden-the_row-Item-0, hidden-the_row-Cond-1}
use Rattle.ix_core.specs.declared.outcome.Value.TheVariants as value
use Rattle.ix_core.specs.Machine.{Ended, no_limits}
use Rattle.ix_core.specs.Safe.{Whole, Ints}
use Rattle.ix_core.proofs.Programs.{row, Rows}
use Rattle.ix_core_example.specs.Counter.{counter}

counter_rows : Rows counter (
    row 2 (Ints (pos 5 ∷ pos 9 ∷ []) ∷ Whole (pos 1) ∷ []) no_limits 23 (Ended (value.Int (pos 1))) [] false
    ∷ row 2 (Ints (pos 5 ∷ pos 9 ∷ []) ∷ Whole (pos 2) ∷ []) no_limits 15 (Ended (value.Int (pos 0))) [] false
    ∷ [])
unfolding hidden-the_row-Item-0 hidden-the_row-Cond-1 denote.Hole.Carrier.hidden int_wrap
counter_rows = refl
