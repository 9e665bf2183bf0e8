use Rattle.std.proofs.Common.{◌≡◌, ◌∙◌, sym, false}
use Rattle.ix_num.specs.Intervals.{is_empty}
use Rattle.ix_num.specs.OpRanges.{op_range}
use Rattle.ix_num.proofs.OpRangeLaws.{op_range_empty_left, op_range_empty_right, op_range_some, op_range_includes, op_range_includes_java, op_range_monotone}
use Rattle.ix_num.proofs.interval.Interval.of_op.Goals as goal
use Rattle.ix_num.proofs.interval.Interval.of_op.Goals.{then-is_empty-via-then-is_empty, then-is_empty-via-else-is_empty+then-is_empty-2}

pub returns-then-is_empty-clause-monotone : goal.returns-then-is_empty-clause-monotone
returns-then-is_empty-clause-monotone c =
    let a = c.args in
    elim c.then-is_empty.branch [
      | then-is_empty-via-then-is_empty w ↦
          λ i j p q. rw (op_range_empty_left a.op a.x a.y (sym c.is_empty.ensures.value ∙ w.if-is_empty.true)) at (op_range_monotone a.op i j a.x a.y c.requires.left c.requires.right p q)
      | then-is_empty-via-else-is_empty+then-is_empty-2 w ↦
          λ i j p q. rw (op_range_empty_right a.op a.x a.y (sym w.is_empty-else-is_empty.ensures.value ∙ w.if-is_empty-2.true)) at (op_range_monotone a.op i j a.x a.y c.requires.left c.requires.right p q)
    ]

value : (c : goal.After-row) → c.row.result ≡ op_range c.args.op c.args.x c.args.y
value c =
    let a = c.args in
    let some : is_empty a.x ≡ false = sym c.is_empty.ensures.value ∙ c.if-is_empty.false in
    let filled : is_empty a.y ≡ false = sym c.is_empty-else-is_empty.ensures.value ∙ c.if-is_empty-2.false in
    c.row.ensures ∙ sym (op_range_some a.op a.x a.y some filled)

pub returns-clause-exact : goal.returns-clause-exact
returns-clause-exact c = rw (value c) (op_range_includes c.args.op c.args.x c.args.y c.requires.left c.requires.right)

pub returns-clause-java : goal.returns-clause-java
returns-clause-java c = rw (value c) (op_range_includes_java c.args.op c.args.x c.args.y c.requires.left c.requires.right)

pub returns-clause-monotone : goal.returns-clause-monotone
returns-clause-monotone c = rw (value c) (λ i j. op_range_monotone c.args.op i j c.args.x c.args.y c.requires.left c.requires.right)
