use Rattle.std.specs.Prelude.{◌≡◌, Some, int_lt, slice_index_or, pos}
use Rattle.std.proofs.Common.{arith, rules, ap, sym, ◌∙◌, w32, w64, to_z, of_z}
use Rattle.std.proofs.lemmas.Fn.{always_returns_same}
use Rattle.ix_fact_paths.proofs.RisingMarks.{parted_less, none_above, first_is}
use Rattle.ix_fact_paths.proofs.landmarks.first_above.Goals as goal

pub returns-then-count-marks-clause-mark : goal.returns-then-count-marks-clause-mark
returns-then-count-marks-clause-mark c =
    let point = c.partition_point-count.ensures.partitioned (λ m. int_lt m c.args.n) (always_returns_same _ _ _ (λ a r next called. search rules)) (parted_less c.args.marks.now c.args.n c.requires.rises) in
    let all = c.if-count-marks.true in
    sym (none_above c.args.marks.now c.args.n (λ k d h. point.0 k d (omega arith) (omega (arith, all, h))))

pub returns-clause-mark : goal.returns-clause-mark
returns-clause-mark c =
    let point = c.partition_point-count.ensures.partitioned (λ m. int_lt m c.args.n) (always_returns_same _ _ _ (λ a r next called. search rules)) (parted_less c.args.marks.now c.args.n c.requires.rises) in
    let some = c.if-count-marks.false in
    let first = slice_index_or c.args.marks.now c.partition_point-count.result (pos 0) in
    let int : to_z w64 (of_z w64 (to_z w32 (of_z w32 first))) ≡ first = search rules in
    ap Some int
    ∙ sym (first_is c.args.marks.now c.args.n c.partition_point-count.result c.requires.rises (omega (arith, some))
    (λ k d h. point.0 k d (omega arith) h) (λ d. point.1 _ d (omega arith) (omega (arith, some))) (pos 0))
