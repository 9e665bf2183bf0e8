use Rattle.std.specs.Prelude.{◌≡◌, ◌-◌, Some, int_le, slice_index_or, pos}
use Rattle.std.proofs.Common.{arith, rules, ap, sym, ◌∙◌, w32, w64, to_z, of_z}
use Rattle.std.proofs.lemmas.Fn.{always_returns_same}
use Rattle.ix_fact_paths.proofs.RisingMarks.{parted_at_most, none_below, last_is}
use Rattle.ix_fact_paths.proofs.landmarks.last_below.Goals as goal

pub returns-then-count-eq0-clause-mark : goal.returns-then-count-eq0-clause-mark
returns-then-count-eq0-clause-mark c =
    let point = c.partition_point-count.ensures.partitioned (λ m. int_le m c.args.n) (always_returns_same _ _ _ (λ a r next called. search rules)) (parted_at_most c.args.marks.now c.args.n c.requires.rises) in
    let none = c.if-count-eq0.true in
    sym (none_below c.args.marks.now c.args.n (λ k d h. point.1 k d (omega (arith, none)) h))

pub returns-clause-mark : goal.returns-clause-mark
returns-clause-mark c =
    let point = c.partition_point-count.ensures.partitioned (λ m. int_le m c.args.n) (always_returns_same _ _ _ (λ a r next called. search rules)) (parted_at_most c.args.marks.now c.args.n c.requires.rises) in
    let some = c.if-count-eq0.false in
    let bound = c.partition_point-count.ensures.bound in
    let last = slice_index_or c.args.marks.now (c.partition_point-count.result - 1) (pos 0) in
    let int : to_z w64 (of_z w64 (to_z w32 (of_z w32 last))) ≡ last = search rules in
    ap Some int
    ∙ sym (last_is c.args.marks.now c.args.n (c.partition_point-count.result - 1) c.requires.rises (omega (arith, some, bound))
    (λ k d h. point.0 k d (omega arith) (omega (arith, some, h))) (λ k d h g. point.1 k d (omega (arith, some, h)) g) (pos 0))
