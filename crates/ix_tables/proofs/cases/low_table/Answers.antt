-- The rows are computed once; each law of them is that of `low_rows`.
use Rattle.std.proofs.Common.{◌≡◌, refl, sym, subst, List, All}
use Rattle.std.specs.Prelude.{count_by}
use Rattle.ix_num.specs.declared.arith.Arith.{Arith}
use Rattle.ix_tables.specs.declared.low.Low.{Low}
use Rattle.ix_tables.specs.LowTable.{low_of, needs_fits_of}
use Rattle.ix_tables.specs.TableLaws.{IsSound, IsBest}
use Rattle.ix_tables.specs.Rows.{Row, answer_in, flag_in, IsSoundRow, IsBestRow, HasFitsFlagRow}
use Rattle.ix_tables.proofs.RowsHold.{all_low_rows, sound_row, best_row, flag_row, low_answer, low_flag, answer_sound, answer_best}
use Rattle.ix_tables.proofs.cases.low_table.Goals as goal

pub returns-clause-rows : goal.returns-clause-rows
returns-clause-rows c = refl

pub returns-clause-answers : goal.returns-clause-answers
returns-clause-answers c = subst (λ (rows : List Row). (op : Arith) (x y : Low) → answer_in rows op x y ≡ low_of op x y) (sym (returns-clause-rows c)) low_answer

pub returns-clause-flags : goal.returns-clause-flags
returns-clause-flags c = subst (λ (rows : List Row). (op : Arith) (x y : Low) → flag_in rows op x y ≡ needs_fits_of op x y) (sym (returns-clause-rows c)) low_flag

pub returns-clause-sound : goal.returns-clause-sound
returns-clause-sound c = subst (λ (rows : List Row). (op : Arith) (x y : Low) → IsSound op x y (answer_in rows op x y)) (sym (returns-clause-rows c)) answer_sound

pub returns-clause-best : goal.returns-clause-best
returns-clause-best c = subst (λ (rows : List Row). (op : Arith) (x y : Low) → IsBest op x y (answer_in rows op x y)) (sym (returns-clause-rows c)) answer_best

pub returns-clause-sound_rows : goal.returns-clause-sound_rows
returns-clause-sound_rows c = subst (λ (rows : List Row). All IsSoundRow rows) (sym (returns-clause-rows c)) (all_low_rows IsSoundRow sound_row)

pub returns-clause-best_rows : goal.returns-clause-best_rows
returns-clause-best_rows c = subst (λ (rows : List Row). All IsBestRow rows) (sym (returns-clause-rows c)) (all_low_rows IsBestRow best_row)

pub returns-clause-fits : goal.returns-clause-fits
returns-clause-fits c = subst (λ (rows : List Row). All HasFitsFlagRow rows) (sym (returns-clause-rows c)) (all_low_rows HasFitsFlagRow flag_row)

pub returns-clause-twelve_need_fits : goal.returns-clause-twelve_need_fits
returns-clause-twelve_need_fits c = subst (λ (rows : List Row). count_by (λ r. r.4) rows ≡ 12) (sym (returns-clause-rows c)) refl
