use Rattle.ix_fact_paths.proofs.Unmarked.{bit_put}
use Rattle.ix_fact_paths.proofs.marks.set_bit.Goals as goal

pub returns : goal.returns
returns c = bit_put c.args.word.now c.args.number c.requires.low
