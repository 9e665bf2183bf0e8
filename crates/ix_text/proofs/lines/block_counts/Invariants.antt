use Rattle.std.proofs.Common.{◌≡◌, map}
use Rattle.std.specs.List.{range_with_len}
use Rattle.ix_text.specs.Lines as spec
use Rattle.ix_text.proofs.lines.block_counts.Given as goal

abbrev pub invariant-loop-block : goal.invariant-loop-block
invariant-loop-block l = record {
  counted : l.counts.items ≡ map (spec.block_count l.text) (range_with_len 0 l.block);
  before : l.before ≡ spec.block_count l.text l.block;
}
