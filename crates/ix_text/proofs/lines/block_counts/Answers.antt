use Rattle.std.proofs.Common.{◌≡◌, length, map, ◌/◌, ◌+◌, arith, ap, ◌∙◌}
use Rattle.std.specs.List.{range_with_len}
use Rattle.ix_text.specs.Lines.{block_count}
use Rattle.ix_text.proofs.Characters.{block_counts_more, block_count_more}
use Rattle.ix_text.proofs.lines.block_counts.Goals as goal

pub loop-block-preserved : goal.loop-block-preserved
loop-block-preserved c = record {
  counted = block_counts_more c.args.text.now c.loop-block.counts.items c.push.new.self.items c.loop-block.block c.loop-block.before c.loop-block.invariant.counted c.loop-block.invariant.before c.in_ok-push.ensures.items;
  before = omega (arith, block_count_more c.args.text.now c.loop-block.block, c.loop-block.invariant.before, c.characters.ensures.value);
}

pub returns : goal.returns
returns c =
    let all : c.loop-block.block ≡ length c.args.text.now / 64 = omega arith in
    block_counts_more c.args.text.now c.loop-block.counts.items c.push-2.new.self.items c.loop-block.block c.loop-block.before c.loop-block.invariant.counted c.loop-block.invariant.before c.in_ok-push-2.ensures.items
    ∙ ap (λ n. map (block_count c.args.text.now) (range_with_len 0 (n + 1))) all
