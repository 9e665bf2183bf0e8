use Rattle.std.proofs.Common.{leb, leb-true, arith, rules, sym}
use Rattle.std.proofs.lemmas.List.Sorted.{IsPartitionPoint-from_clause, IsPartitionedBy-leb}
use Rattle.ix_text.proofs.LineStarts.{count_to_point}
use Rattle.ix_text.proofs.lines.lines_up_to.Goals as goal

pub returns-clause-value : goal.returns-clause-value
returns-clause-value c =
    let parted = IsPartitionedBy-leb (λ s. s) c.args.starts.now c.args.at c.requires in
    let point = IsPartitionPoint-from_clause (λ s. leb s c.args.at) c.args.starts.now c.partition_point.result c.partition_point.ensures.partitioned parted (λ a r q k. search rules) in
    sym (count_to_point (λ s. leb s c.args.at) c.args.starts.now c.partition_point.result c.partition_point.ensures.bound (λ k h. point.0 k 0 (omega arith) h) (λ k h l. point.1 k 0 h l))

pub returns-clause-before : goal.returns-clause-before
returns-clause-before c =
    let parted = IsPartitionedBy-leb (λ s. s) c.args.starts.now c.args.at c.requires in
    let point = IsPartitionPoint-from_clause (λ s. leb s c.args.at) c.args.starts.now c.partition_point.result c.partition_point.ensures.partitioned parted (λ a r q k. search rules) in
    λ h. leb-true _ _ (point.0 _ 0 (omega arith) (omega arith))
