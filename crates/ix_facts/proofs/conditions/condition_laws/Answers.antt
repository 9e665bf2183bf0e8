use Rattle.ix_facts.proofs.conditions.condition_laws.Goals as goal
use Rattle.ix_facts.proofs.SplitSound.{split_true, split_false}
use Rattle.ix_facts.proofs.SplitLaws.{split_closed, split_mono}

pub returns-clause-closed : goal.returns-clause-closed
returns-clause-closed g c = split_closed g.B.Blocks.Runs g.B.Blocks.closed

pub returns-clause-monotone : goal.returns-clause-monotone
returns-clause-monotone g c = split_mono g.B.Blocks.Runs g.B.Blocks.closed g.B.Blocks.monotone

pub returns-clause-held : goal.returns-clause-held
returns-clause-held g c = split_true g.B.Blocks.Runs g.B.Blocks.Leads g.B.Blocks.sound

pub returns-clause-failed : goal.returns-clause-failed
returns-clause-failed g c = split_false g.B.Blocks.Runs g.B.Blocks.Leads g.B.Blocks.sound
