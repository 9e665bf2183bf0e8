use Rattle.std.proofs.Common.{◌*◌, ◌/◌, arith}
use Rattle.ix_text.proofs.Characters.{characters_split, block_count_at, length-block_counts}
use Rattle.ix_text.proofs.lines.characters_before.Goals as goal

pub bounds-counts-block : goal.bounds-counts-block
bounds-counts-block c = omega (arith, length-block_counts c.args.text.now c.args.counts.now c.requires.counted)

pub returns : goal.returns
returns c =
    omega (
      arith,
      block_count_at c.args.text.now c.args.counts.now (c.args.at / 64) c.requires.counted (omega arith),
      c.characters.ensures.value,
      characters_split c.args.text.now (c.args.at / 64 * 64) c.args.at (omega arith),
    )
